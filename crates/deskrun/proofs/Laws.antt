-- A script line of any length is answered as a whole: where its end is not kept, the call on the kept text comes to what the call on the whole
-- text would, for every image and all buffers. What the line says is that of the whole by `read_whole` of script, and its text begins
-- within 32 octets by `text-early`. Assumes nothing.
use mathlib.Core.Path.{◌≡◌}
use mathlib.Core.List.{List}
use Prim.Native.Nat.{ℕ, ◌≤◌}
use native.Mathlib.Omega.{arith}
use lib.ListN.{length, take, drop, length-take, length-drop}
use lib.Seq.{take_all}
use Rattle.octets.proofs.Cases.{below}
use Rattle.image.specs.Image.{Image}
use Rattle.calls.specs.Call.{line, verdict}
use Rattle.calls.specs.Step.{step}
use Rattle.script.specs.Hex.{octets}
use Rattle.script.specs.declared.kept.Kept.{Kept}
use Rattle.script.proofs.Hexadecimal.{length-octets}
use Rattle.script.proofs.Laws.{Holds}
use Rattle.deskrun.proofs.Long.{step-long, step-data-long}

-- a line l, of which a buffer b holds the first 32,768 octets; `from`: where its text begins
module _ (l b : List ℕ) (k : Kept) (h : Holds 32768 l b k) (from : ℕ) (e : from ≤ 32) where
  -- what is kept of the text
  abbrev kept : List ℕ
  kept = drop from (take k.length b)

  either : {X : Type 0} → (kept ≡ drop from l → X) → (32736 ≤ length kept → 32736 ≤ length (drop from l) → X) → X
  either f g =
      below 32768 (length l)
      (λ n. g (rw h.front (simp (length-drop, length-take) (omega arith))) (simp length-drop (omega arith)))
      (λ n. f (rw (h.front, take_all 32768 l n)))

  pub line-whole : (i : Image) (n : ℕ) (r a : List ℕ) → step i (line n kept r a) ≡ step i (line n (drop from l) r a)
  line-whole i n r a = either (λ f. rw f) (λ f g. step-long kept (drop from l) (omega arith) (omega arith) i n r a)

  pub hexline_whole : (i : Image) (n : ℕ) (r a : List ℕ) → step i (line n (octets kept) r a) ≡ step i (line n (octets (drop from l)) r a)
  hexline_whole i n r a =
      either (λ f. rw f)
      (λ f g. step-long (octets kept) (octets (drop from l)) (omega (arith, length-octets kept)) (omega (arith, length-octets (drop from l))) i n r a)

  pub verdict-whole : (i : Image) (t v : ℕ) (r a : List ℕ) → step i (verdict t v kept r a) ≡ step i (verdict t v (drop from l) r a)
  verdict-whole i t v r a = either (λ f. rw f) (λ f g. step-data-long kept (drop from l) (omega arith) (omega arith) i t v r a)

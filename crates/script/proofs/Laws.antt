-- A script line of any length says what it would say if all of it were kept, and the text that is kept begins the whole text. Assumes nothing.
use mathlib.Core.Path.{◌≡◌, refl, sym, ◌∙◌, ap}
use mathlib.Core.List.{List, [], ◌∷◌, ◌++◌}
use Prim.Native.Nat.{ℕ, ◌+◌, ◌-◌, ◌%◌, ◌<◌, ◌≤◌, min}
use native.Mathlib.Nat.{add-zero}
use native.Mathlib.Omega.{arith}
use borrow.Author.Tests.{le-leb}
use lib.ListN.{length, take, drop, length-take, length-append, take-append-drop, drop_of_length-le}
use lib.Seq.{take_all, take-append-le, drop-append-le, take-append-add, drop-append-add, take_at, take-nil, drop-nil}
use Rattle.std.specs.Prelude.{Option, Some, None}
use Rattle.octets.specs.Answers.{written}
use Rattle.octets.specs.Ascii.{space}
use Rattle.octets.specs.Lists.{before}
use Rattle.octets.proofs.Answers.{length-written, written_is}
use Rattle.octets.proofs.Cases.{below}
use Rattle.octets.proofs.Every.{every_append}
use Rattle.script.specs.Command.{made, digits_of, arguments, call, opening, command}
use Rattle.script.specs.Hex.{hexdig, octets}
use Rattle.script.specs.Texts.{found}
use Rattle.script.specs.Kept.{beyond, none, extended, started, added}
use Rattle.script.specs.declared.kept.Rest.{Rest}
use Rattle.script.specs.declared.kept.Kept.{Kept}
use Rattle.script.specs.declared.word.Word.{Word}
use Rattle.script.specs.declared.command.Command.{Command}
use Rattle.script.specs.declared.command.Command.TheVariants.{Open, Line, Hexline, Verdict, Ended, Who, Close}
use Rattle.script.proofs.Cut.{too_many, too_long, not-opening, call-cut}

-- octets that are not kept, in two parts
pub beyond-append : (u v : List ℕ) → extended (beyond u) v ≡ beyond (u ++ v)
beyond-append u v =
    let z : (length u % 2 + length v) % 2 ≡ length (u ++ v) % 2 = omega (arith, length-append u v) in
    rw (every_append hexdig u v, z)

-- a buffer b of m octets holds the line l as k says
pub record Holds (m : ℕ) (l b : List ℕ) (k : Kept) : Type 0 where
  pub size : length b ≡ m
  pub count : k.length ≡ min m (length l)
  pub front : take k.length b ≡ take m l
  pub rest : k.rest ≡ beyond (drop m l)

-- an empty line, and one to which octets were added
pub started-holds : (m : ℕ) (b : List ℕ) → length b ≡ m → Holds m [] b started
started-holds m b e = record { size = e; count = omega arith; front = sym (take-nil m); rest = rw (drop-nil m) }

module _ (m : ℕ) (l b : List ℕ) (k : Kept) (h : Holds m l b k) (x : List ℕ) where
  more-beyond : (y : List ℕ) → extended k.rest y ≡ beyond (drop m l ++ y)
  more-beyond y = rw h.rest (beyond-append (drop m l) y)

  -- where the line goes on in the buffer
  within : length l < m → Holds m (l ++ x) (written b k.length (take (m - k.length) x)) (added k x m)
  within f =
      let w = take (m - k.length) x in
      let n : k.length ≡ length l = omega (arith, h.count) in
      let z : m ≡ length l + (m - k.length) = omega arith in
      let t : k.length + length w ≤ length b = omega (arith, length-take (m - k.length) x, h.size) in
      let a : take k.length b ≡ l = h.front ∙ take_all m l (omega arith) in
      record {
        size = length-written b k.length w ∙ h.size;
        count = omega (arith, length-take (m - k.length) x, length-append l x);
        front =
            rw (written_is b k.length w t, a)
            (take_at (l ++ w) _ (k.length + length w) (omega (arith, length-append l w))
            ∙ sym (ap (λ (j : ℕ). take j (l ++ x)) z ∙ take-append-add l x (m - k.length)));
        rest =
            more-beyond (drop (m - k.length) x)
            ∙ ap beyond
            (rw (drop_of_length-le l {i = m} (omega arith)) refl
            ∙ sym (ap (λ (j : ℕ). drop j (l ++ x)) z ∙ drop-append-add l x (m - k.length)));
      }

  -- where the buffer is full
  past : m ≤ length l → Holds m (l ++ x) (written b k.length (take (m - k.length) x)) (added k x m)
  past f =
      let n : k.length ≡ m = omega (arith, h.count) in
      let z : m - k.length ≡ 0 = omega arith in
      let t : k.length + 0 ≤ length b = omega (arith, h.size) in
      rw (z, le-leb _ _ t, add-zero k.length)
      record {
        size = h.size;
        count = omega (arith, length-append l x);
        front = h.front ∙ sym (take-append-le m l x f);
        rest = more-beyond x ∙ ap beyond (sym (drop-append-le m l x f));
      }

  pub added-holds : Holds m (l ++ x) (written b k.length (take (m - k.length) x)) (added k x m)
  added-holds = below (length l) m within past

-- what a line says
command-cut : (u v : List ℕ) → 32 ≤ length u → command u (beyond v) ≡ command (u ++ v) none
unfolding command
command-cut u v h = rw (not-opening u (omega arith), not-opening (u ++ v) (omega (arith, length-append u v))) (call-cut u v h)

pub read_whole : (m : ℕ) (l b : List ℕ) (k : Kept) → 32 ≤ m → Holds m l b k → command (take k.length b) k.rest ≡ command l none
read_whole m l b k g h =
    rw (h.front, h.rest)
    (below m (length l)
    (λ f. command-cut (take m l) (drop m l) (simp length-take (omega arith)) ∙ rw take-append-drop)
    (λ f. rw (take_all m l f, drop_of_length-le l {i = m} f)))

-- where a command's text begins
abbrev pub text_from : Option Command → ℕ
text_from (Some (Line n from)) = from
text_from (Some (Hexline n from)) = from
text_from (Some (Verdict n v from)) = from
text_from (Some (Open p b)) = 0
text_from (Some (Ended n)) = 0
text_from (Some (Who n)) = 0
text_from (Some (Close n)) = 0
text_from None = 0

-- within the first 32 octets of the line: so a kept text is at most 32 octets shorter than the kept line
abbrev Early : Option Command → Type 0
Early c = text_from c ≤ 32

made-early : (w : Word) (n from : ℕ) → from ≤ 32 → Early (Some (made w n from))
made-early w n from h = grind arith

arguments-early : (w : Word) (at : ℕ) (l : List ℕ) (r : Rest) → at ≤ 11 → Early (arguments w at l r)
unfolding arguments
arguments-early w at l r h = let k = too_many (digits_of w l) in grind (arith, made-early)

call-early : (t : List ℕ) (r : Rest) → Early (call t r)
unfolding call
call-early t r = let k = too_long (before space t) in grind (arith, arguments-early)

opening-early : (t : List ℕ) → Early (opening t)
unfolding opening found
opening-early t = grind arith

pub text-early : (t : List ℕ) (r : Rest) → text_from (command t r) ≤ 32
unfolding command
text-early t r = let h = opening-early t in let k = call-early t r in grind arith

-- the octets of digits are the first octets of any digits that begin with them
pub octets-front : (u v : List ℕ) → take (length (octets u)) (octets (u ++ v)) ≡ octets u
unfolding octets
octets-front [] v = refl
octets-front (y ∷ []) v = refl
octets-front (y ∷ z ∷ u) v = rw (octets-front u v)

-- What a script line says when octets are cut off its end. Assumes nothing.
use mathlib.Core.Path.{◌≡◌, refl, sym, ◌∙◌}
use mathlib.Core.Bool.{Bool, true, false, cond, ◌||◌, and-true, false≢true}
use mathlib.Core.List.{List, [], ◌∷◌, ◌++◌, append-nil}
use Prim.Native.Nat.{ℕ, zero, suc, ◌+◌, ◌-◌, ◌*◌, ◌%◌, ◌<◌, ◌≤◌}
use native.Mathlib.Nat.{not-suc-le-zero}
use native.Mathlib.Omega.{arith}
use Rattle.std.proofs.Common.{rules}
use borrow.Author.Tests.{eqb-false}
use lib.Dec.{eqb}
use lib.ListN.{length, length-append, length-drop}
use Rattle.std.specs.Prelude.{Option, Some, None, option_and_then}
use Rattle.octets.specs.Ascii.{space}
use Rattle.octets.specs.Lists.{holds, every, before, after}
use Rattle.octets.proofs.Cases.{split, picked, below}
use Rattle.octets.proofs.Words.{same-lengths, after-drop}
use Rattle.octets.proofs.Every.{every_append}
use Rattle.script.specs.Command.{hex_text, fitting, digits_of, arguments, call, openings, opening}
use Rattle.script.specs.Hex.{hexdig}
use Rattle.script.specs.Kept.{beyond, none}
use Rattle.script.specs.Number.{value_from, digits_from, number}
use Rattle.script.specs.Texts.{found}
use Rattle.script.specs.Word.{words, word_of, takes_text}
use Rattle.script.specs.declared.kept.Rest.{Rest}
use Rattle.script.specs.declared.word.Word.{Word}
use Rattle.script.specs.declared.command.Command.{Command}
use Rattle.script.proofs.Decimal.{value_grows, no-number, digits-at}

-- b times ten, k times over
abbrev tens : ℕ → ℕ → ℕ
tens zero b = b
tens (suc k) b = tens k (b * 10)

value-tens : (k : ℕ) (l : List ℕ) (b n : ℕ) → k ≤ length l → b ≤ n → tens k b ≤ value_from n l
unfolding value_from
value-tens zero l b n h k = omega (arith, value_grows n l)
value-tens (suc k) [] b n h e = absurd (not-suc-le-zero h)
value-tens (suc k) (x ∷ l) b n h e = value-tens k l (b * 10) (n * 10 + (x - 0x30)) (omega arith) (omega arith)

-- no number has more than twenty digits
too_many-from : (n : ℕ) (l : List ℕ) → 1 ≤ n → 20 ≤ length l → digits_from n l ≡ None
too_many-from n l h k = no-number n l (omega (arith, value-tens 20 l 1 n k h))

first-digit : (x : ℕ) (l : List ℕ) → 20 ≤ length l → (x ≡ 0x30 → ⊥) → digits_from 0 (x ∷ l) ≡ None
first-digit x l h e =
    let d = digits-at 0 (x ∷ l) 0 (omega arith) in
    let g = too_many-from (0 * 10 + (x - 0x30)) l in
    grind arith

pub too_many : (l : List ℕ) → 20 < length l → number l ≡ None
unfolding number
too_many [] h = absurd (omega arith)
too_many (x ∷ []) h = absurd (omega arith)
too_many (x ∷ y ∷ l) h = split (eqb x 0x30) (λ e. rw e) (λ e. rw e (first-digit x (y ∷ l) (omega arith) (eqb-false x 0x30 e)))

-- and no text of a table more octets than the longest
abbrev AtMost : {A : Type 0} → ℕ → List (List ℕ × A) → Type 0
AtMost n [] = Unit {0}
AtMost n (k ∷ l) = (length k.0 ≤ n) × AtMost n l

not-found : {A : Type 0} (n : ℕ) (l : List (List ℕ × A)) (t : List ℕ) → AtMost n l → n < length t → found l t ≡ None
unfolding found
not-found n [] t h k = refl
not-found n (x ∷ l) t h k = rw (same-lengths t x.0 (λ e. omega arith)) (not-found n l t h.1 k)

pub too_long : (w : List ℕ) → 10 < length w → word_of w ≡ None
unfolding word_of
too_long w h = not-found 10 words w (search rules) h

pub not-opening : (t : List ℕ) → 19 < length t → opening t ≡ None
unfolding opening
not-opening t h = not-found 19 openings t (search rules) h

-- at a space that is kept
module _ (x : ℕ) where
  pub before-held : (u v : List ℕ) → holds x u ≡ true → before x (u ++ v) ≡ before x u
  unfolding before
  before-held [] v h = absurd (false≢true h)
  before-held (y ∷ u) v h = go (eqb y x) h (before-held u v)
    where
      go : (t : Bool) → (t || holds x u) ≡ true → (holds x u ≡ true → before x (u ++ v) ≡ before x u) → cond t [] (y ∷ before x (u ++ v)) ≡ cond t [] (y ∷ before x u)
      go true h ih = refl
      go false h ih = rw (ih h)

  pub after-held : (u v : List ℕ) → holds x u ≡ true → after x (u ++ v) ≡ after x u ++ v
  unfolding after
  after-held [] v h = absurd (false≢true h)
  after-held (y ∷ u) v h = go (eqb y x) h (after-held u v)
    where
      go : (t : Bool) → (t || holds x u) ≡ true → (holds x u ≡ true → after x (u ++ v) ≡ after x u ++ v) → cond t (u ++ v) (after x (u ++ v)) ≡ cond t u (after x u) ++ v
      go true h ih = refl
      go false h ih = ih h

  -- and where none is kept
  pub before-longer : (u v : List ℕ) → holds x u ≡ false → length u ≤ length (before x (u ++ v))
  unfolding before
  before-longer [] v h = omega arith
  before-longer (y ∷ u) v h = go (eqb y x) h (before-longer u v)
    where
      go : (t : Bool) → (t || holds x u) ≡ false → (holds x u ≡ false → length u ≤ length (before x (u ++ v))) → suc (length u) ≤ length (cond t [] (y ∷ before x (u ++ v)))
      go true h ih = absurd (false≢true (sym h))
      go false h ih = omega (arith, ih h)

-- the arguments l of a word, of which v is cut off
module _ (v : List ℕ) where
  hex-cut : (t : List ℕ) → hex_text t (beyond v) ≡ hex_text (t ++ v) none
  unfolding hex_text every
  hex-cut t =
      let z : (length t + length v % 2) % 2 ≡ (length (t ++ v) + 0) % 2 = omega (arith, length-append t v) in
      rw (every_append hexdig t v, z, and-true)

  fitting-cut : (w : Word) (t : List ℕ) → fitting w t (beyond v) ≡ fitting w (t ++ v) none
  fitting-cut w t = grind (arith, hex-cut)

unreadable : (w : Word) (at : ℕ) (l : List ℕ) (r : Rest) → 20 < length (digits_of w l) → arguments w at l r ≡ None
unfolding arguments
unreadable w at l r h = rw (too_many (digits_of w l) h) (picked (λ (c : Option Command). c ≡ None) (fitting w (after space l) r) None None refl refl)

-- digits that no space ends go on
digits-longer : (w : Word) (l v : List ℕ) → (takes_text w ≡ true → holds space l ≡ false) → length l ≤ length (digits_of w (l ++ v))
digits-longer w l v h = let b = before-longer space l v in grind (arith, length-append)

module _ (w : Word) (at : ℕ) (l v : List ℕ) (h : 20 < length l) where
  endless : (takes_text w ≡ true → holds space l ≡ false) → arguments w at l (beyond v) ≡ arguments w at (l ++ v) none
  endless k =
      let p : length l ≤ length (digits_of w l) = rw append-nil at (digits-longer w l [] k) in
      let q = digits-longer w l v k in
      unreadable w at l (beyond v) (omega arith) ∙ sym (unreadable w at (l ++ v) none (omega arith))

  texted : takes_text w ≡ true → holds space l ≡ true → arguments w at l (beyond v) ≡ arguments w at (l ++ v) none
  unfolding arguments
  texted e f = rw (e, before-held space l v f, after-held space l v f, fitting-cut v w (after space l))

  arguments-cut : arguments w at l (beyond v) ≡ arguments w at (l ++ v) none
  arguments-cut =
      split (takes_text w) (λ e. split (holds space l) (λ f. texted e f) (λ f. endless (λ g. f))) (λ e. endless (λ g. absurd (false≢true (sym e ∙ g))))

-- a whole line
module _ (u v : List ℕ) (h : 32 ≤ length u) where
  wordless : holds space u ≡ false → call u (beyond v) ≡ call (u ++ v) none
  unfolding call
  wordless e =
      let p : length u ≤ length (before space u) = rw append-nil at (before-longer space u [] e) in
      let q = before-longer space u v e in
      rw (too_long (before space u) (omega arith), too_long (before space (u ++ v)) (omega arith))

  worded : holds space u ≡ true → call u (beyond v) ≡ call (u ++ v) none
  unfolding call
  worded e =
      rw (before-held space u v e, after-held space u v e)
      (below 10 (length (before space u))
      (λ k. rw (too_long (before space u) k))
      (λ k. word-cut (word_of (before space u)) (rw (after-drop space u) (simp length-drop (omega arith)))))
    where
      word-cut : (w : Option Word) → 20 < length (after space u)
          → option_and_then (λ (x : Word). arguments x (length (before space u) + 1) (after space u) (beyond v)) w
          ≡ option_and_then (λ (x : Word). arguments x (length (before space u) + 1) (after space u ++ v) none) w
      word-cut None g = refl
      word-cut (Some x) g = arguments-cut x (length (before space u) + 1) (after space u) v g

  pub call-cut : call u (beyond v) ≡ call (u ++ v) none
  call-cut = split (holds space u) worded wordless

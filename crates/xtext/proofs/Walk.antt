-- A text read one character after the other: the character at an index, and what it says of the text from there on. Assumes nothing.
use mathlib.Core.Path.{◌≡◌, refl, sym, ◌∙◌, ap}
use mathlib.Core.Bool.{Bool, true, false, cond, ◌&&◌, and-false}
use mathlib.Core.List.{List, [], ◌∷◌}
use Prim.Native.Nat.{ℕ, ◌+◌, ◌-◌, ◌<◌, ◌≤◌}
use native.Mathlib.Omega.{arith}
use borrow.Author.Tests.{eqb-true}
use lib.Dec.{eqb, leb, eqb→eq}
use lib.ListN.{length, get_or, drop, replicate, length-drop, drop_of_length-le}
use lib.Seq.{drop-drop}
use Rattle.std.proofs.lemmas.Grind.{common_steps}
use Rattle.std.proofs.lemmas.List.{drop_more}
use Rattle.octets.proofs.Table.{at}
use Rattle.xtext.specs.Xtext.{xchar, number, digits, hexdig, hexchar, plus, valid, octets, escape_at, character_at}
use Rattle.xtext.specs.declared.Character.{Character}
use Rattle.xtext.specs.declared.Character.TheVariants.{End, Malformed, Octet}
use Rattle.xtext.proofs.Characters.{past_end}
use Rattle.xtext.proofs.Grammar.{valid-self, octets-self}

-- the number of an octet by the two ranges of the digits: one test that antt computes at all 256
abbrev by_range : ℕ → ℕ
by_range x = cond (leb 48 x && leb x 57) (x - 48) (cond (leb 65 x && leb x 70) (x - 55) 16)

abbrev in_ranges : ℕ → ℕ → Bool
in_ranges x _ = eqb (number x) (by_range x)

pub number_is : (x : ℕ) → x < 256 → number x ≡ cond (leb 48 x && leb x 57) (x - 48) (cond (leb 65 x && leb x 70) (x - 55) 16)
unfolding number digits
number_is x h = eqb→eq _ _ (at in_ranges (replicate 256 0) tt x h)

-- the character at an index
pub character_end : (t : List ℕ) (i : ℕ) → length t ≤ i → character_at i (drop i t) ≡ End
unfolding character_at
character_end t i h = rw (drop_of_length-le t {i = i} h)

pub character_is : (t : List ℕ) (i : ℕ) → i < length t
    → character_at i (drop i t) ≡ cond (eqb (get_or t i 0) plus) (escape_at i (drop (i + 1) t)) (cond (xchar (get_or t i 0)) (Octet (get_or t i 0) (i + 1)) Malformed)
unfolding character_at
character_is t i h = rw (drop_more t i 0 h)

-- after "+"
pub escape_is : (i : ℕ) (t : List ℕ) → escape_at i t ≡ cond (hexdig (get_or t 0 0) && hexdig (get_or t 1 0)) (Octet (hexchar (get_or t 0 0) (get_or t 1 0)) (i + 3)) Malformed
unfolding escape_at
escape_is i [] = rw (past_end [] 0 (omega arith))
escape_is i (y ∷ []) = rw (past_end (y ∷ []) 1 (omega arith), and-false (hexdig y))
escape_is i (y ∷ z ∷ r) = refl

pub ruleset walking = (common_steps, character_end, character_is, escape_is)

-- what a character says of the text that it begins: k octets of it are the character
abbrev Front : ℕ → List ℕ → Character → Type 0
Front i t End = t ≡ []
Front i t Malformed = valid t ≡ false
Front i t (Octet x n) = (k : ℕ) × (n ≡ i + k) × (0 < k) × (k ≤ length t) × (valid t ≡ valid (drop k t)) × (octets t ≡ x ∷ octets (drop k t))

module _ (x : ℕ) (e : eqb x plus ≡ false) where
  unfit : (l : List ℕ) → xchar x ≡ false → valid (x ∷ l) ≡ false
  unfolding valid
  unfit [] f = f
  unfit (y ∷ []) f = rw f
  unfit (y ∷ z ∷ r) f = rw (e, f)

  one : (i : ℕ) (l : List ℕ) (b : Bool) → xchar x ≡ b → Front i (x ∷ l) (cond b (Octet x (i + 1)) Malformed)
  one i l true f = (1, refl, omega arith, omega arith, valid-self x f l, octets-self x f l)
  one i l false f = unfit l f

escaped : (i y z : ℕ) (r : List ℕ) (b : Bool) → (hexdig y && hexdig z) ≡ b
    → Front i (plus ∷ y ∷ z ∷ r) (cond b (Octet (hexchar y z) (i + 3)) Malformed)
unfolding valid octets
escaped i y z r true e = (3, refl, omega arith, omega arith, rw e, refl)
escaped i y z r false e = rw e

plussed : (i : ℕ) (l : List ℕ) → Front i (plus ∷ l) (escape_at i l)
unfolding escape_at valid
plussed i [] = refl
plussed i (y ∷ []) = refl
plussed i (y ∷ z ∷ r) = escaped i y z r (hexdig y && hexdig z) refl

front : (i : ℕ) (t : List ℕ) → Front i t (character_at i t)
unfolding character_at
front i [] = refl
front i (x ∷ l) = go (eqb x plus) refl
  where
    go : (b : Bool) → eqb x plus ≡ b → Front i (x ∷ l) (cond b (escape_at i l) (cond (xchar x) (Octet x (i + 1)) Malformed))
    go true e = rw (eqb-true x plus e) (plussed i l)
    go false e = one x e i l (xchar x) refl

-- the same at an index of a text
abbrev pub Told : List ℕ → ℕ → Character → Type 0
Told t i End = drop i t ≡ []
Told t i Malformed = valid (drop i t) ≡ false
Told t i (Octet x n) = (i < n) × (n ≤ length t) × (valid (drop i t) ≡ valid (drop n t)) × (octets (drop i t) ≡ x ∷ octets (drop n t))

pub told : (t : List ℕ) (i : ℕ) → Told t i (character_at i (drop i t))
told t i = go (character_at i (drop i t)) (front i (drop i t))
  where
    go : (c : Character) → Front i (drop i t) c → Told t i c
    go End e = e
    go Malformed e = e
    go (Octet x n) (k, e, p, q, v, o) =
        let z : drop k (drop i t) ≡ drop n t = drop-drop k i t ∙ ap (λ (j : ℕ). drop j t) (sym e) in
        (omega arith, omega (arith, length-drop i t), rw z at v, rw z at o)

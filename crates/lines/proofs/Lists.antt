-- Laws of lists that the proofs of lines share. Assumes nothing.
use mathlib.Core.Path.{◌≡◌, refl, sym, ◌∙◌, ap}
use mathlib.Core.Bool.{Bool, false, ◌||◌}
use mathlib.Core.List.{List, [], ◌∷◌, ◌++◌}
use Prim.Native.Nat.{ℕ, suc, ◌<◌}
use native.Mathlib.Omega.{arith}
use lib.Dec.{eqb}
use lib.ListN.{length, drop_of_length-le}
use lib.Seq.{take_all}
use borrow.Author.Tests.{ne_eqb, ltb-false}
use Rattle.std.proofs.lemmas.Bool.Decides.{nat_tests}
use Rattle.octets.specs.Ascii.{capital, capitals}
use Rattle.octets.specs.Lists.{is_empty, holds, before, after}
use Rattle.octets.proofs.Words.{before-take, after-drop, holds-before}

-- a list is empty by its length
pub empty-length : (l : List ℕ) → is_empty l ≡ eqb (length l) 0
empty-length [] = refl
empty-length (x ∷ l) = sym (ne_eqb (length (x ∷ l)) 0 (λ e. omega arith))

pub same-empty : (r s : List ℕ) → length r ≡ length s → is_empty r ≡ is_empty s
same-empty r s e = rw (empty-length r, empty-length s, e)

-- what comes before the letters stands in a list exactly where it stands in its capitals
eqb-capital : (y x : ℕ) → y < 0x41 → eqb (capital x) y ≡ eqb x y
unfolding capital
eqb-capital y x h = grind (arith, nat_tests)

pub holds-capitals : (y : ℕ) → y < 0x41 → (l : List ℕ) → holds y (capitals l) ≡ holds y l
holds-capitals y h [] = refl
holds-capitals y h (x ∷ l) = rw (eqb-capital y x h, holds-capitals y h l)

-- a list that x does not stand in
pub before-none : (x : ℕ) (l : List ℕ) → holds x l ≡ false → before x l ≡ l
before-none x l h =
    before-take x l ∙ take_all (length (before x l)) l (ltb-false (length (before x l)) (length l) (sym (holds-before x l) ∙ h))

pub after_none : (x : ℕ) (l : List ℕ) → holds x l ≡ false → after x l ≡ []
after_none x l h =
    let e : length (before x l) ≡ length l = ap length (before-none x l h) in
    after-drop x l ∙ drop_of_length-le l {i = suc (length (before x l))} (omega arith)

-- lists with the same front hold the same, where their ends do
pub holds-end : (x : ℕ) (u v w : List ℕ) → holds x v ≡ holds x w → holds x (u ++ v) ≡ holds x (u ++ w)
holds-end x [] v w e = e
holds-end x (y ∷ u) v w e = ap (λ (b : Bool). eqb y x || b) (holds-end x u v w e)

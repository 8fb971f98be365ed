-- Decimal digits, from an index of a text on. Assumes nothing.
use mathlib.Core.Path.{◌≡◌, refl, sym}
use mathlib.Core.Bool.{cond, ◌&&◌, and-true, and-false}
use mathlib.Core.List.{List, [], ◌∷◌}
use Prim.Native.Nat.{ℕ, ◌+◌, ◌-◌, ◌*◌, ◌<◌, ◌≤◌}
use native.Mathlib.Numerals.{add-one}
use native.Mathlib.Omega.{arith}
use borrow.Author.Tests.{le-leb, lt-leb, lt-ltb}
use lib.Dec.{eqb, ltb}
use lib.ListN.{length, get_or, drop, drop_of_length-le}
use lib.Seq.{drop-cons}
use Rattle.std.specs.Prelude.{Some, None}
use Rattle.std.proofs.lemmas.Bool.Decides.{nat_tests}
use Rattle.octets.specs.Ascii.{is_digit}
use Rattle.octets.specs.Lists.{is_empty, every}
use Rattle.octets.proofs.Cases.{split}
use Rattle.script.specs.Number.{value_from, most, leading_zero, digits_from}

-- more digits do not make a number less
pub value_grows : (n : ℕ) (l : List ℕ) → n ≤ value_from n l
unfolding value_from
value_grows n [] = omega arith
value_grows n (x ∷ l) = omega (arith, value_grows (n * 10 + (x - 0x30)) l)

pub no-number : (n : ℕ) (l : List ℕ) → most < value_from n l → digits_from n l ≡ None
unfolding digits_from
no-number n l h = rw (lt-leb _ _ h, and-false)

pub too_large : (n : ℕ) (l : List ℕ) → most < n → digits_from n l ≡ None
too_large n l h = no-number n l (omega (arith, value_grows n l))

module _ (n : ℕ) (t : List ℕ) (i : ℕ) where
  pub digits-at : i < length t → digits_from n (drop i t) ≡ cond (is_digit (get_or t i 0)) (digits_from (n * 10 + (get_or t i 0 - 0x30)) (drop (i + 1) t)) None
  unfolding digits_from value_from every
  digits-at h = rw (drop-cons t i 0 h, add-one) (split (is_digit (get_or t i 0)) (λ e. rw e) (λ e. rw e))

  pub digits-last : length t ≤ i → n ≤ most → digits_from n (drop i t) ≡ Some n
  unfolding digits_from value_from every
  digits-last h k = rw (drop_of_length-le t {i = i} h, le-leb _ _ k)

pub ruleset digits = (too_large, digits-at, digits-last)

-- what stands before the digits are read
pub empty-reads : (t : List ℕ) → is_empty t ≡ eqb (length t) 0
empty-reads [] = refl
empty-reads (x ∷ l) = grind (arith, nat_tests)

pub zero-reads : (t : List ℕ) → leading_zero t ≡ (eqb (get_or t 0 0) 0x30 && ltb 1 (length t))
zero-reads [] = refl
zero-reads (x ∷ []) = sym (and-false (eqb x 0x30))
zero-reads (x ∷ y ∷ l) = let h : 1 < length (x ∷ y ∷ l) = omega arith in rw (lt-ltb _ _ h) (sym (and-true (eqb x 0x30)))

pub ruleset beginnings = (empty-reads, zero-reads)

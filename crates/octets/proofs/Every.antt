-- Lists of which each element passes a test: at an index, as a loop needs it, and with their length. Assumes nothing.
use mathlib.Core.Path.{◌≡◌, refl, sym, ◌∙◌, ap}
use mathlib.Core.Bool.{Bool, true, false, ◌&&◌, and_assoc, false≢true}
use mathlib.Core.List.{List, [], ◌∷◌, ◌++◌}
use Prim.Native.Nat.{ℕ, zero, suc, ◌+◌, ◌<◌, ◌≤◌, suc-le-suc}
use native.Mathlib.Nat.{not-suc-le-zero, le_of_suc-le-suc}
use native.Mathlib.Numerals.{add-one}
use native.Mathlib.Omega.{arith}
use borrow.Author.Tests.{ne_eqb, le-leb, lt-leb, leb-true}
use lib.Dec.{leb}
use lib.ListN.{length, get_or, set, drop, drop_of_length-le}
use lib.Seq.{drop-cons}
use Rattle.octets.specs.Lists.{holds, every, one_to, before, padded_to}
use Rattle.octets.proofs.Cases.{both}
use Rattle.octets.proofs.Padded.{before-padded}

-- a test of each element, at an index
module _ (f : ℕ → Bool) (l : List ℕ) (i : ℕ) where
  pub every-step : i < length l → f (get_or l i 0) ≡ true → every f (drop (i + 1) l) ≡ every f (drop i l)
  unfolding every
  every-step h e = rw (add-one, drop-cons l i 0 h, e)

  pub every-stop : i < length l → f (get_or l i 0) ≡ false → false ≡ every f (drop i l)
  unfolding every
  every-stop h e = rw (drop-cons l i 0 h, e)

  pub every-end : length l ≤ i → true ≡ every f (drop i l)
  unfolding every
  every-end h = rw (drop_of_length-le l {i = i} h)

-- what fails the test does not stand in a list of which each element passes it
pub not-held : (f : ℕ → Bool) (x : ℕ) (l : List ℕ) → f x ≡ false → every f l ≡ true → holds x l ≡ false
unfolding every
not-held f x [] h e = refl
not-held f x (y ∷ l) h e =
    let k = both (f y) (every f l) e in
    rw (ne_eqb y x (λ g. false≢true (sym h ∙ sym (ap f g) ∙ k.0)), not-held f x l h k.1)

-- one to n such elements
module _ (n : ℕ) (f : ℕ → Bool) (l : List ℕ) where
  pub too_short : length l < 1 → false ≡ one_to n f l
  unfolding one_to
  too_short h = rw (lt-leb _ _ h)

  pub too_long : n < length l → false ≡ one_to n f l
  unfolding one_to
  too_long h = let k : 1 ≤ length l = omega arith in rw (le-leb _ _ k, lt-leb _ _ h)

  pub fitting : 1 ≤ length l → length l ≤ n → every f l ≡ one_to n f l
  unfolding one_to
  fitting h k = rw (le-leb _ _ h, le-leb _ _ k)

  pub at_most : one_to n f l ≡ true → length l ≤ n
  unfolding one_to
  at_most h = leb-true (length l) n (both (leb 1 (length l)) (leb (length l) n) (both (leb 1 (length l) && leb (length l) n) (every f l) h).0).1

  -- where NUL fails the test, they are read back from n octets padded with NUL
  pub unpadded : f 0 ≡ false → one_to n f l ≡ true → before 0 (padded_to n l) ≡ l
  unfolding one_to
  unpadded z h = before-padded n l (at_most h) (not-held f 0 l z (both (leb 1 (length l) && leb (length l) n) (every f l) h).1)

-- a list of any type
module _ {A : Type 0} (p : A → Bool) where
  -- from the test to an element, and back
  pub every-all : (xs : List A) (d : A) → every p xs ≡ true → (i : ℕ) → i < length xs → p (get_or xs i d) ≡ true
  unfolding every
  every-all [] d e i h = absurd (not-suc-le-zero h)
  every-all (x ∷ xs) d e zero h = (both (p x) (every p xs) e).0
  every-all (x ∷ xs) d e (suc i) h = every-all xs d (both (p x) (every p xs) e).1 i (le_of_suc-le-suc h)

  pub every-intro : (xs : List A) (d : A) → ((i : ℕ) → i < length xs → p (get_or xs i d) ≡ true) → every p xs ≡ true
  unfolding every
  every-intro [] d h = refl
  every-intro (x ∷ xs) d h = rw (h 0 (omega arith)) (every-intro xs d (λ i k. h (suc i) (suc-le-suc k)))

  pub every_append : (xs ys : List A) → every p (xs ++ ys) ≡ (every p xs && every p ys)
  unfolding every
  every_append [] ys = refl
  every_append (x ∷ xs) ys = rw (every_append xs ys) (sym (and_assoc (p x) (every p xs) (every p ys)))

  -- an element that passes, stored
  pub every_set : (xs : List A) (i : ℕ) (v : A) → every p xs ≡ true → p v ≡ true → every p (set xs i v) ≡ true
  unfolding every
  every_set [] i v e h = refl
  every_set (x ∷ xs) zero v e h = rw h (both (p x) (every p xs) e).1
  every_set (x ∷ xs) (suc i) v e h = rw (both (p x) (every p xs) e).0 (every_set xs i v (both (p x) (every p xs) e).1 h)

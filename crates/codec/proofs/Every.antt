-- Tests of each element of a list of any type, by a loop. Assumes nothing.
use mathlib.Core.Path.{◌≡◌, sym, ◌∙◌}
use mathlib.Core.Bool.{Bool, true, false, ◌&&◌, and_assoc, and-true}
use mathlib.Core.List.{List}
use Prim.Native.Nat.{ℕ, suc, ◌+◌, ◌<◌, ◌≤◌}
use native.Mathlib.Numerals.{add-one}
use lib.ListN.{length, get_or, drop, drop_of_length-le}
use lib.Seq.{drop-cons}
use Rattle.octets.specs.Lists.{every}

-- a loop that leaves at the first element that fails: w is what the whole comes to, d is any default
module _ {A : Type 0} (p : A → Bool) (w : Bool) (i n : ℕ) (xs : List A) (len : length xs ≡ n) (inv : w ≡ every p (drop i xs)) where
  pub every-turn : (d : A) → i < n → w ≡ (p (get_or xs i d) && every p (drop (i + 1) xs))
  unfolding every
  every-turn d h = inv ∙ rw (drop-cons xs i d (rw len h), add-one i)

  pub every-pass : (d : A) → i < n → p (get_or xs i d) ≡ true → w ≡ every p (drop (i + 1) xs)
  every-pass d h e = rw e at (every-turn d h)

  pub every_fail : (d : A) → i < n → p (get_or xs i d) ≡ false → w ≡ false
  every_fail d h e = rw e at (every-turn d h)

  pub every-done : n ≤ i → w ≡ true
  unfolding every
  every-done h = inv ∙ rw (drop_of_length-le xs {i = i} (rw len h))

-- a loop that does not leave early: ok is what came of the first i elements
module _ {A : Type 0} (p : A → Bool) (w ok : Bool) (i : ℕ) (xs : List A) (inv : w ≡ (ok && every p (drop i xs))) where
  pub all-turn : (d : A) → i < length xs → w ≡ ((ok && p (get_or xs i d)) && every p (drop (i + 1) xs))
  unfolding every
  all-turn d h = inv ∙ rw (drop-cons xs i d h, add-one i) (sym (and_assoc ok (p (get_or xs i d)) (every p (drop (suc i) xs))))

  pub all_end : length xs ≤ i → w ≡ ok
  unfolding every
  all_end h = inv ∙ rw (drop_of_length-le xs h) (and-true ok)

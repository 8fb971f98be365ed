-- Texts padded with NUL, told in one pass without a branch. Assumes nothing.
use mathlib.Core.Path.{◌≡◌, refl, sym}
use mathlib.Core.Bool.{Bool, true, false, not, cond, ◌&&◌, ◌||◌, and_assoc, and-true, and-false}
use mathlib.Core.List.{List, [], ◌∷◌, ◌++◌}
use Prim.Native.Nat.{ℕ, zero, suc, ◌≤◌}
use native.Mathlib.Omega.{arith}
use borrow.Author.Tests.{eq-eqb, eqb-true, le-leb}
use lib.Dec.{eqb, leb}
use lib.ListN.{length, get_or, drop, take, replicate}
use Rattle.octets.specs.Lists.{every, one_to, same, before, padded_to}
use Rattle.octets.proofs.Words.{length_before}

module _ (f : ℕ → Bool) where
  -- an octet that may come after y where what passes the test is padded with NUL; and a list of such
  abbrev pub follows : ℕ → ℕ → Bool
  follows y x = eqb x 0 || f x && not (eqb y 0)

  unfoldable pub run : ℕ → List ℕ → Bool
  run y [] = true
  run y (x ∷ l) = follows y x && run x l

  -- after NUL comes NUL alone
  run-blank : (k : ℕ) (l : List ℕ) → length l ≤ k → run 0 l ≡ same l (take (length l) (replicate k 0))
  unfolding run same
  run-blank k [] h = refl
  run-blank zero (x ∷ l) h = absurd (omega arith)
  run-blank (suc k) (x ∷ l) h = go (eqb x 0) refl (run-blank k l (omega arith))
    where
      go : (t : Bool) → eqb x 0 ≡ t → run 0 l ≡ same l (take (length l) (replicate k 0))
          → ((t || f x && false) && run x l) ≡ (t && same l (take (length l) (replicate k 0)))
      go true e ih = rw (eqb-true x 0 e) ih
      go false e ih = rw (and-false (f x))

  -- after what passes, as long as it lasts, comes NUL alone
  run-padded : (k y : ℕ) (l : List ℕ) → length l ≤ k → eqb y 0 ≡ false
      → run y l ≡ (every f (before 0 l) && same l (take (length l) (before 0 l ++ replicate k 0)))
  unfolding run every same before
  run-padded k y [] h e = refl
  run-padded k y (x ∷ l) h e = rw e (go (eqb x 0) refl k h (run-padded k x l (omega arith)))
    where
      go : (t : Bool) → eqb x 0 ≡ t → (k : ℕ) → suc (length l) ≤ k
          → (eqb x 0 ≡ false → run x l ≡ (every f (before 0 l) && same l (take (length l) (before 0 l ++ replicate k 0))))
          → ((t || f x && true) && run x l)
          ≡ (every f (cond t [] (x ∷ before 0 l)) && same (x ∷ l) (take (suc (length l)) (cond t [] (x ∷ before 0 l) ++ replicate k 0)))
      go true z zero g ih = absurd (omega arith)
      go true z (suc k) g ih = rw z (rw (eqb-true x 0 z) (run-blank k l (omega arith)))
      go false z k g ih =
          rw (and-true (f x), ih z, eq-eqb x x refl)
          (sym (and_assoc (f x) (every f (before 0 l)) (same l (take (length l) (before 0 l ++ replicate k 0)))))

  -- a text of n octets is one to n that pass, padded with NUL, exactly where its first passes and the others follow
  pub padded-run : (n : ℕ) (l : List ℕ) → f 0 ≡ false → length l ≡ n → 1 ≤ n
      → (f (get_or l 0 0) && run (get_or l 0 0) (drop 1 l)) ≡ (one_to n f (before 0 l) && same l (padded_to n (before 0 l)))
  unfolding one_to padded_to before every same
  padded-run n [] z e h = absurd (omega arith)
  padded-run n (x ∷ l) z e h = rw (sym e) (go (eqb x 0) refl)
    where
      go : (t : Bool) → eqb x 0 ≡ t
          → (f x && run x l)
          ≡ ((leb 1 (length (cond t [] (x ∷ before 0 l))) && leb (length (cond t [] (x ∷ before 0 l))) (suc (length l)) && every f (cond t [] (x ∷ before 0 l)))
          && same (x ∷ l) (take (suc (length l)) (cond t [] (x ∷ before 0 l) ++ replicate (suc (length l)) 0)))
      go true g = rw (eqb-true x 0 g, z)
      go false g =
          let u : leb 1 (suc (length (before 0 l))) ≡ true = le-leb 1 (suc (length (before 0 l))) (omega arith) in
          let v : leb (suc (length (before 0 l))) (suc (length l)) ≡ true = le-leb (suc (length (before 0 l))) (suc (length l)) (omega (arith, length_before 0 l)) in
          rw (u, v, eq-eqb x x refl, run-padded (suc (length l)) x l (omega arith) g)
          (sym (and_assoc (f x) (every f (before 0 l)) (same l (take (length l) (before 0 l ++ replicate (suc (length l)) 0)))))

-- A list padded with NUL. Assumes nothing.
use mathlib.Core.Path.{◌≡◌, refl, sym, ◌∙◌, ap}
use Rattle.std.proofs.lemmas.List.{take-replicate, take_min}
use mathlib.Core.Bool.{false}
use mathlib.Core.List.{List, [], ◌∷◌, ◌++◌}
use Prim.Native.Nat.{ℕ, zero, suc, ◌≤◌, min}
use native.Mathlib.Omega.{arith}
use lib.ListN.{length, take, drop, replicate, length-append, length-take, length-replicate}
use lib.Seq.{take_all}
use Rattle.octets.specs.Lists.{holds, before, padded_to}
use Rattle.octets.proofs.Words.{before-cut, take-before}

-- what is copied over NULs is padded with NULs
over : (n k : ℕ) (m : List ℕ) → n ≤ k → take n m ++ drop (length (take n m)) (replicate n 0) ≡ take n (m ++ replicate k 0)
over zero k m h = refl
over (suc n) k [] h = sym (take-replicate (suc n) k 0 h)
over (suc n) k (x ∷ m) h = ap (λ (l : List ℕ). x ∷ l) (over n k m (omega arith))

module _ (n : ℕ) (m : List ℕ) where
  pub copied : padded_to n m ≡ take (min n (length m)) m ++ drop (min n (length m)) (replicate n 0)
  unfolding padded_to
  copied = rw (take_min n m, ← (length-take n m)) (sym (over n n m (omega arith)))

  pub length-padded : length (padded_to n m) ≡ n
  unfolding padded_to
  length-padded = simp (length-take, length-append, length-replicate) (omega arith)

-- a list that fits and holds no NUL is read back
pub before-padded : (n : ℕ) (m : List ℕ) → length m ≤ n → holds 0 m ≡ false → before 0 (padded_to n m) ≡ m
unfolding padded_to
before-padded zero [] h k = unfold before in refl
before-padded zero (x ∷ m) h k = absurd (omega arith)
before-padded (suc n) m h k = take-before 0 (suc n) (m ++ replicate (suc n) 0) ∙ ap (take (suc n)) (before-cut 0 m (replicate n 0) k) ∙ take_all (suc n) m h

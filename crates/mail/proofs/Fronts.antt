-- The elements at the front of a list that pass a test, and what stands after them. Assumes nothing.
use mathlib.Core.Path.{◌≡◌, refl, sym, ◌∙◌}
use mathlib.Core.Bool.{Bool, true, false, false≢true}
use mathlib.Core.List.{List, [], ◌∷◌, ◌++◌}
use Prim.Native.Nat.{ℕ, suc, ◌+◌}
use native.Mathlib.Omega.{arith}
use borrow.Author.Tests.{ne_eqb}
use lib.Dec.{eqb}
use lib.ListN.{drop}
use Rattle.std.specs.List.{prefix_len, take_while}
use Rattle.octets.specs.Lists.{every, before, after, holds}
use Rattle.octets.proofs.Cases.{both, split}

-- what stands after the front
abbrev pub rest : (ℕ → Bool) → List ℕ → List ℕ
rest f m = drop (prefix_len f m) m

module _ (f : ℕ → Bool) where
  pub front-passes : (m : List ℕ) → every f (take_while f m) ≡ true
  unfolding every
  front-passes [] = refl
  front-passes (x ∷ m) = split (f x) (λ k. let z : 1 + prefix_len f m ≡ suc (prefix_len f m) = omega arith in rw (k, z, k) (front-passes m)) (λ k. rw k)

  pub rest-fails : (m r : List ℕ) (y : ℕ) → rest f m ≡ y ∷ r → f y ≡ false
  rest-fails [] r y e = let z : ◌≡◌ {A = ℕ} 0 1 = cc in absurd (omega arith)
  rest-fails (x ∷ m) r y e =
      split (f x)
      (λ k. let z : 1 + prefix_len f m ≡ suc (prefix_len f m) = omega arith in rest-fails m r y (rw (k, z) at e))
      (λ k. let z = rw k at e in let g : x ≡ y = cc in rw (← g) k)

  -- before and after what fails the test, in a list that begins with elements that pass it
  module _ (c : ℕ) (p : f c ≡ false) where
    passes-other : (x : ℕ) → f x ≡ true → eqb x c ≡ false
    passes-other x h = ne_eqb x c (λ e. false≢true (sym p ∙ (rw e at h)))

    pub before-front : (u v : List ℕ) → every f u ≡ true → before c (u ++ v) ≡ u ++ before c v
    unfolding every before
    before-front [] v h = refl
    before-front (x ∷ u) v h = let k = both (f x) (every f u) h in rw (passes-other x k.0, before-front u v k.1)

    pub after-front : (u v : List ℕ) → every f u ≡ true → after c (u ++ v) ≡ after c v
    unfolding every after
    after-front [] v h = refl
    after-front (x ∷ u) v h = let k = both (f x) (every f u) h in rw (passes-other x k.0) (after-front u v k.1)

    pub holds_front : (u v : List ℕ) → every f u ≡ true → holds c (u ++ v) ≡ holds c v
    unfolding every
    holds_front [] v h = refl
    holds_front (x ∷ u) v h = let k = both (f x) (every f u) h in rw (passes-other x k.0) (holds_front u v k.1)

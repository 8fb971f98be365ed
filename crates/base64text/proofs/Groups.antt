-- What four octets of text stand for, by cases. Assumes nothing.
use mathlib.Core.Path.{◌≡◌, refl}
use mathlib.Core.Bool.{Bool, true, false, cond}
use Prim.Native.Nat.{ℕ, ◌%◌, ◌<◌}
use native.Mathlib.Omega.{arith}
use borrow.Author.Tests.{lt-ltb, ltb-true, eqb-true, eq-eqb}
use lib.Dec.{ltb, eqb}
use Rattle.octets.proofs.Cases.{both}
use Rattle.base64text.specs.Base64.{value, alphabet, pad, joined, letters, letters3, letters2, three, two, one, group_of}
use Rattle.base64text.specs.declared.Group.{Group}
use Rattle.std.specs.Prelude.{Option, None}

-- by the numbers p q r s that code has found: a way out of group_of each
module _ (a b c d : ℕ) {p q r s : ℕ} (hp : p ≡ value a) (hq : q ≡ value b) (hr : r ≡ value c) (hs : s ≡ value d) where
  pub as_three : letters p q r s ≡ true → three (joined p q r s) ≡ group_of a b c d
  unfolding group_of
  as_three e = rw (← hp, ← hq, ← hr, ← hs, e)

  pub as_two : letters p q r s ≡ false → letters3 p q r d ≡ true → two (joined p q r 0) ≡ group_of a b c d
  unfolding group_of
  as_two e f = rw (← hp, ← hq, ← hr, ← hs, e, f)

  pub as_one : letters p q r s ≡ false → letters3 p q r d ≡ false → letters2 p q c d ≡ true → one (joined p q 0 0) ≡ group_of a b c d
  unfolding group_of
  as_one e f g = rw (← hp, ← hq, ← hr, ← hs, e, f, g)

-- the tests as facts on numbers
pub are-letters : (p q r s : ℕ) → letters p q r s ≡ true → (p < 64) × (q < 64) × (r < 64) × (s < 64)
are-letters p q r s e =
    let u = both _ (ltb s 64) e in
    let v = both _ (ltb r 64) u.0 in
    let w = both (ltb p 64) (ltb q 64) v.0 in
    (ltb-true p 64 w.0, ltb-true q 64 w.1, ltb-true r 64 v.1, ltb-true s 64 u.1)

pub letters-are : (p q r s : ℕ) → p < 64 → q < 64 → r < 64 → s < 64 → letters p q r s ≡ true
letters-are p q r s hp hq hr hs = simp (lt-ltb p 64 hp, lt-ltb q 64 hq, lt-ltb r 64 hr, lt-ltb s 64 hs)

are-letters3 : (p q r d : ℕ) → letters3 p q r d ≡ true → (p < 64) × (q < 64) × (r < 64) × (d ≡ pad) × (joined p q r 0 % 256 ≡ 0)
are-letters3 p q r d e =
    let t = both _ (eqb (joined p q r 0 % 256) 0) e in
    let u = both _ (eqb d pad) t.0 in
    let v = both _ (ltb r 64) u.0 in
    let w = both (ltb p 64) (ltb q 64) v.0 in
    (ltb-true p 64 w.0, ltb-true q 64 w.1, ltb-true r 64 v.1, eqb-true d pad u.1, eqb-true _ 0 t.1)

are-letters2 : (p q c d : ℕ) → letters2 p q c d ≡ true → (p < 64) × (q < 64) × (c ≡ pad) × (d ≡ pad) × (joined p q 0 0 % 65536 ≡ 0)
are-letters2 p q c d e =
    let t = both _ (eqb (joined p q 0 0 % 65536) 0) e in
    let u = both _ (eqb d pad) t.0 in
    let v = both _ (eqb c pad) u.0 in
    let w = both (ltb p 64) (ltb q 64) v.0 in
    (ltb-true p 64 w.0, ltb-true q 64 w.1, eqb-true c pad v.1, eqb-true d pad u.1, eqb-true _ 0 t.1)

-- a group says what its octets of text are
pub data Cases (a b c d : ℕ) : Option Group → Type 0 where
  is-three : value a < 64 → value b < 64 → value c < 64 → value d < 64 → Cases a b c d (three (joined (value a) (value b) (value c) (value d)))
  is-two : value a < 64 → value b < 64 → value c < 64 → d ≡ pad → joined (value a) (value b) (value c) 0 % 256 ≡ 0 → Cases a b c d (two (joined (value a) (value b) (value c) 0))
  is_one : value a < 64 → value b < 64 → c ≡ pad → d ≡ pad → joined (value a) (value b) 0 0 % 65536 ≡ 0 → Cases a b c d (one (joined (value a) (value b) 0 0))
  is_none : Cases a b c d None

pub cases : (a b c d : ℕ) → Cases a b c d (group_of a b c d)
unfolding group_of
cases a b c d = go _ refl _ refl _ refl
  where
    go : (t : Bool) → letters (value a) (value b) (value c) (value d) ≡ t → (u : Bool) → letters3 (value a) (value b) (value c) d ≡ u → (v : Bool) → letters2 (value a) (value b) c d ≡ v
        → Cases a b c d (cond t (three (joined (value a) (value b) (value c) (value d))) (cond u (two (joined (value a) (value b) (value c) 0)) (cond v (one (joined (value a) (value b) 0 0)) None)))
    go true e u f v g = let h = are-letters _ _ _ _ e in is-three h.0 h.1 h.2 h.3
    go false e true f v g = let h = are-letters3 _ _ _ _ f in is-two h.0 h.1 h.2 h.3 h.4
    go false e false f true g = let h = are-letters2 _ _ _ _ g in is_one h.0 h.1 h.2 h.3 h.4
    go false e false f false g = is_none

-- "=" is no letter
pub not-pad : (x : ℕ) → value x < 64 → x ≡ pad → ⊥
unfolding value alphabet
not-pad x h e = let z : value pad < 64 = rw e at h in omega arith

-- a group from facts on numbers
module _ (a b c d : ℕ) (ha : value a < 64) (hb : value b < 64) where
  pub three-of : value c < 64 → value d < 64 → three (joined (value a) (value b) (value c) (value d)) ≡ group_of a b c d
  three-of hc hd = as_three a b c d refl refl refl refl (letters-are _ _ _ _ ha hb hc hd)

  not-letters : {x : ℕ} → x ≡ pad → ltb (value x) 64 ≡ false
  unfolding value alphabet
  not-letters e = rw e

  pub two-of : value c < 64 → d ≡ pad → joined (value a) (value b) (value c) 0 % 256 ≡ 0 → two (joined (value a) (value b) (value c) 0) ≡ group_of a b c d
  two-of hc hd hz =
      as_two a b c d refl refl refl refl
      (simp (lt-ltb _ _ ha, lt-ltb _ _ hb, lt-ltb _ _ hc, not-letters hd))
      (simp (lt-ltb _ _ ha, lt-ltb _ _ hb, lt-ltb _ _ hc, eq-eqb _ _ hd, eq-eqb _ _ hz))

  pub one_of : c ≡ pad → d ≡ pad → joined (value a) (value b) 0 0 % 65536 ≡ 0 → one (joined (value a) (value b) 0 0) ≡ group_of a b c d
  one_of hc hd hz =
      as_one a b c d refl refl refl refl
      (simp (lt-ltb _ _ ha, lt-ltb _ _ hb, not-letters hc))
      (simp (lt-ltb _ _ ha, lt-ltb _ _ hb, not-letters hc))
      (simp (lt-ltb _ _ ha, lt-ltb _ _ hb, eq-eqb _ _ hc, eq-eqb _ _ hd, eq-eqb _ _ hz))

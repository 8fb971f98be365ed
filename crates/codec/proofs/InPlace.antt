-- What stands at an index of a list, tested there: octets compared, tests at several places, values that are canonical where they stand.
-- Assumes nothing.
use mathlib.Core.Path.{◌≡◌, refl, sym, ap, ◌∙◌}
use mathlib.Core.Bool.{Bool, true, false, ◌&&◌, and_assoc, and-true}
use mathlib.Core.List.{List, [], ◌∷◌, ◌++◌}
use Prim.Native.Nat.{ℕ, zero, suc, ◌+◌, ◌-◌, ◌*◌, ◌<◌, ◌≤◌}
use native.Mathlib.Omega.{arith}
use native.Mathlib.Numerals.{add-one}
use native.Mathlib.Nat.{add-zero, add_assoc, suc-mul}
use lib.ListN.{length, get_or, take, drop, replicate, drop_of_length-le, take-append-drop}
use lib.Seq.{drop-cons, length-take-le}
use lib.Dec.{eqb, eqb-suc-zero, eqb-zero-suc}
use borrow.Author.Tests.{eqb-true}
use Rattle.octets.specs.Lists.{same}
use Rattle.octets.proofs.Cases.{both}
use Rattle.codec.specs.Codec.{Codec, pair}
use Rattle.codec.specs.InPlace.{stands_at, canonical_at, every_at}
use Rattle.codec.proofs.Lawful.{Lawful}

and-cross : (p q r s : Bool) → ((p && q) && (r && s)) ≡ ((p && r) && (q && s))
and-cross true true r s = refl
and-cross true false true s = refl
and-cross true false false s = refl
and-cross false q r s = refl

-- ---- octets compared where they stand

pub stands_at-append : (vs ws l : List ℕ) (at : ℕ) → stands_at (vs ++ ws) l at ≡ (stands_at vs l at && stands_at ws l (at + length vs))
unfolding stands_at
stands_at-append [] ws l at = rw add-zero
stands_at-append (v ∷ vs) ws l at =
    let e : at + 1 + length vs ≡ at + suc (length vs) = omega arith in
    rw (stands_at-append vs ws l (at + 1), e)
    (sym (and_assoc (eqb v (get_or l at 0)) (stands_at vs l (at + 1)) (stands_at ws l (at + suc (length vs)))))

same_drop : (vs l : List ℕ) (at : ℕ) → at + length vs ≡ length l → same vs (drop at l) ≡ stands_at vs l at
unfolding same stands_at
same_drop [] l at h = rw (drop_of_length-le l {i = at} (omega arith))
same_drop (v ∷ vs) l at h =
    rw (drop-cons l at 0 (omega arith), ← add-one at) (ap (λ (b : Bool). eqb v (get_or l at 0) && b) (same_drop vs l (at + 1) (omega arith)))

-- where the lengths are equal, the whole list
pub same_whole : (vs l : List ℕ) → length vs ≡ length l → same vs l ≡ stands_at vs l 0
same_whole vs l h = same_drop vs l 0 (omega arith)

-- a loop that compares without leaving early: w is what the whole comes to, ok what came of the first i octets
module _ (w ok : Bool) (vs l : List ℕ) (at i : ℕ) (inv : w ≡ (ok && stands_at (drop i vs) l (at + i))) where
  pub stands_at-turn : i < length vs → w ≡ ((ok && eqb (get_or vs i 0) (get_or l (at + i) 0)) && stands_at (drop (i + 1) vs) l (at + (i + 1)))
  unfolding stands_at
  stands_at-turn h =
      inv
      ∙ rw (drop-cons vs i 0 h, add_assoc at i 1, add-one i)
      (sym (and_assoc ok (eqb (get_or vs i 0) (get_or l (at + i) 0)) (stands_at (drop (suc i) vs) l (at + suc i))))

  pub stands_at-end : length vs ≤ i → w ≡ ok
  unfolding stands_at
  stands_at-end h = inv ∙ rw (drop_of_length-le vs h) (and-true ok)

-- a loop that looks for zeros, likewise
zero-here : (x : ℕ) → eqb 0 x ≡ eqb x 0
zero-here zero = refl
zero-here (suc x) = eqb-zero-suc x ∙ sym (eqb-suc-zero x)

module _ (w ok : Bool) (l : List ℕ) (n at i : ℕ) (inv : w ≡ (ok && stands_at (replicate (n - i) 0) l (at + i))) where
  pub zeros-turn : i < n → w ≡ ((ok && eqb (get_or l (at + i) 0) 0) && stands_at (replicate (n - (i + 1)) 0) l (at + (i + 1)))
  unfolding stands_at
  zeros-turn h =
      let e : n - i ≡ suc (n - (i + 1)) = omega arith in
      inv
      ∙ rw (e, zero-here (get_or l (at + i) 0), add_assoc at i 1)
      (sym (and_assoc ok (eqb (get_or l (at + i) 0) 0) (stands_at (replicate (n - (i + 1)) 0) l (at + (i + 1)))))

  pub zeros-end : n ≤ i → w ≡ ok
  unfolding stands_at
  zeros-end h =
      let e : n - i ≡ 0 = omega arith in
      inv ∙ rw e (and-true ok)

-- octets that stand in a list are a part of it
pub stands_at-part : (vs l : List ℕ) (at : ℕ) → at + length vs ≤ length l → stands_at vs l at ≡ true → drop at l ≡ vs ++ drop (at + length vs) l
unfolding stands_at
stands_at-part [] l at h e = rw add-zero
stands_at-part (v ∷ vs) l at h e =
    let b = both (eqb v (get_or l at 0)) (stands_at vs l (at + 1)) e in
    let r : drop (at + 1) l ≡ vs ++ drop (at + 1 + length vs) l = stands_at-part vs l (at + 1) (omega arith) b.1 in
    let k : at + 1 + length vs ≡ at + suc (length vs) = omega arith in
    drop-cons l at 0 (omega arith) ∙ rw (← eqb-true v (get_or l at 0) b.0, ← add-one at, r, k)

-- ---- a test at n places, k apart

pub every_at-both : (p q : ℕ → Bool) (k n at : ℕ) → (every_at p k n at && every_at q k n at) ≡ every_at (λ i. p i && q i) k n at
unfolding every_at
every_at-both p q k zero at = refl
every_at-both p q k (suc n) at = rw (← every_at-both p q k n (at + k)) (and-cross (p at) (every_at p k n (at + k)) (q at) (every_at q k n (at + k)))

-- a loop over the places that leaves at the first that fails: w is what the whole comes to
module _ (p : ℕ → Bool) (k : ℕ) (w : Bool) (i n at : ℕ) (inv : w ≡ every_at p k (n - i) (at + i * k)) where
  pub every_at-turn : i < n → w ≡ (p (at + i * k) && every_at p k (n - (i + 1)) (at + (i + 1) * k))
  unfolding every_at
  every_at-turn h =
      let e : n - i ≡ suc (n - (i + 1)) = omega arith in
      let f : at + i * k + k ≡ at + (i + 1) * k = rw (add-one, suc-mul) (omega arith) in
      inv ∙ rw (e, f)

  pub every_at-pass : i < n → p (at + i * k) ≡ true → w ≡ every_at p k (n - (i + 1)) (at + (i + 1) * k)
  every_at-pass h e = rw e at (every_at-turn h)

  pub every_at_fail : i < n → p (at + i * k) ≡ false → w ≡ false
  every_at_fail h e = rw e at (every_at-turn h)

  pub every_at-end : n ≤ i → w ≡ true
  unfolding every_at
  every_at-end h =
      let e : n - i ≡ 0 = omega arith in
      inv ∙ rw e

-- a loop that does not leave early: ok is what came of the first i places
module _ (p : ℕ → Bool) (k : ℕ) (w ok : Bool) (i n at : ℕ) (inv : w ≡ (ok && every_at p k (n - i) (at + i * k))) where
  pub all_at_turn : i < n → w ≡ ((ok && p (at + i * k)) && every_at p k (n - (i + 1)) (at + (i + 1) * k))
  all_at_turn h =
      inv
      ∙ ap (λ (b : Bool). ok && b) (every_at-turn p k (every_at p k (n - i) (at + i * k)) i n at refl h)
      ∙ sym (and_assoc ok (p (at + i * k)) (every_at p k (n - (i + 1)) (at + (i + 1) * k)))

  pub all_at_end : n ≤ i → w ≡ ok
  all_at_end h = inv ∙ ap (λ (b : Bool). ok && b) (every_at-end p k (every_at p k (n - i) (at + i * k)) i n at refl h) ∙ and-true ok

-- a test at n places, k apart, that is told the index of the place too: from index i on
unfoldable pub every_place : (ℕ → ℕ → Bool) → ℕ → ℕ → ℕ → ℕ → Bool
every_place p k i zero at = true
every_place p k i (suc n) at = p i at && every_place p k (i + 1) n (at + k)

pub every_place_both : (p q : ℕ → ℕ → Bool) (k i n at : ℕ)
    → (every_place p k i n at && every_place q k i n at) ≡ every_place (λ j b. p j b && q j b) k i n at
unfolding every_place
every_place_both p q k i zero at = refl
every_place_both p q k i (suc n) at =
    rw (← every_place_both p q k (i + 1) n (at + k))
    (and-cross (p i at) (every_place p k (i + 1) n (at + k)) (q i at) (every_place q k (i + 1) n (at + k)))

-- tests that agree at each place
pub every_place_same : (p q : ℕ → ℕ → Bool) → ((j b : ℕ) → p j b ≡ q j b) → (k i n at : ℕ) → every_place p k i n at ≡ every_place q k i n at
unfolding every_place
every_place_same p q e k i zero at = refl
every_place_same p q e k i (suc n) at = rw (e i at, every_place_same p q e k (i + 1) n (at + k))

-- the loop over the places that leaves at the first that fails
module _ (p : ℕ → ℕ → Bool) (k : ℕ) (w : Bool) (i n at : ℕ) (inv : w ≡ every_place p k i (n - i) (at + i * k)) where
  pub every_place_turn : i < n → w ≡ (p i (at + i * k) && every_place p k (i + 1) (n - (i + 1)) (at + (i + 1) * k))
  unfolding every_place
  every_place_turn h =
      let e : n - i ≡ suc (n - (i + 1)) = omega arith in
      let f : at + i * k + k ≡ at + (i + 1) * k = rw (add-one, suc-mul) (omega arith) in
      inv ∙ rw (e, f)

  pub every_place_pass : i < n → p i (at + i * k) ≡ true → w ≡ every_place p k (i + 1) (n - (i + 1)) (at + (i + 1) * k)
  every_place_pass h e = rw e at (every_place_turn h)

  pub every_place_fail : i < n → p i (at + i * k) ≡ false → w ≡ false
  every_place_fail h e = rw e at (every_place_turn h)

  pub every_place_end : n ≤ i → w ≡ true
  unfolding every_place
  every_place_end h =
      let e : n - i ≡ 0 = omega arith in
      inv ∙ rw e

-- ---- values where they stand

module _ {A : Type 0} {a : Codec A} (w : Lawful a) (x : A) (l : List ℕ) (at : ℕ) where
  -- where a good value's octets stand, it is read, and is canonical
  pub get-same : w.Good x → at + a.size ≤ length l → stands_at (a.put x) l at ≡ true → a.get l at ≡ x
  get-same g h e =
      let k : at + length (a.put x) ≤ length l = rw (w.put-length x) h in
      let s : l ≡ take at l ++ (a.put x ++ drop (at + length (a.put x)) l) =
      sym (take-append-drop at l) ∙ ap (λ (m : List ℕ). take at l ++ m) (stands_at-part (a.put x) l at k e) in
      ap (λ (m : List ℕ). a.get m at) s ∙ w.get-put (take at l) x (drop (at + length (a.put x)) l) at (length-take-le at l (omega arith)) g

  pub canonical-same : w.Good x → at + a.size ≤ length l → stands_at (a.put x) l at ≡ true → canonical_at a l at ≡ true
  canonical-same g h e = ap (λ (y : A). stands_at (a.put y) l at) (get-same g h e) ∙ e

pub canonical-pair : {A B : Type 0} {a : Codec A} (w : Lawful a) (b : Codec B) (l : List ℕ) (at : ℕ)
    → canonical_at (pair a b) l at ≡ (canonical_at a l at && canonical_at b l (at + a.size))
canonical-pair {a = a} w b l at = stands_at-append (a.put (a.get l at)) (b.put (b.get l (at + a.size))) l at ∙ rw (w.put-length (a.get l at))

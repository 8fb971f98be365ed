-- A value or none, and lists of at most n values: stored, tested and read where they stand. k is the size of an element. Assumes nothing.
use mathlib.Core.Path.{◌≡◌, refl, sym, ap, ap₂, ◌∙◌}
use mathlib.Core.Bool.{Bool, true, false, cond, ◌&&◌, and_assoc, and_comm, and-true}
use mathlib.Core.Option.{none, some}
use mathlib.Core.List.{List, [], ◌∷◌, ◌++◌, append_assoc}
use Prim.Native.Nat.{ℕ, zero, suc, ◌+◌, ◌-◌, ◌*◌, ◌<◌, ◌≤◌, min}
use native.Mathlib.Omega.{arith}
use native.Mathlib.Nat.{zero-mul, suc-mul, add_comm, sub-zero, not-suc-le-zero, le_of_suc-le-suc}
use borrow.Author.Tests.{eq-eqb, ne_eqb, eqb-true, le-leb, lt-leb, lt-ltb, le-ltb}
use lib.Dec.{eqb, leb, ltb}
use lib.ListN.{length, set, get_or, take, replicate, length-append, length-set, length-take, length-replicate, replicate-append-replicate}
use lib.Seq.{take-nil}
use Rattle.octets.specs.Lists.{every}
use Rattle.octets.proofs.Cases.{below}
use Rattle.codec.specs.Codec.{Codec, put_octet, is_one, put_array, get_array, put_option, get_option, option, put_up_to, listed}
use Rattle.codec.specs.Stored.{stored}
use Rattle.codec.specs.InPlace.{stands_at, canonical_at, every_at}
use Rattle.codec.proofs.Lawful.{Lawful, put_octet-length, put_array-length}
use Rattle.codec.proofs.Stored.{stored-after, stored-first, skip}
use Rattle.codec.proofs.InPlace.{stands_at-append, every_at-both, every_place, every_place_both, every_place_same}
use Rattle.codec.proofs.Arrays.{get_array-length, take-array, every-array, array-place, canonical-array}

stands-octet : (v : ℕ) (ws l : List ℕ) (at : ℕ) → stands_at (put_octet v ++ ws) l at ≡ (eqb v (get_or l at 0) && stands_at ws l (at + 1))
unfolding stands_at put_octet
stands-octet v ws l at = refl

-- ---- a value or none

module _ {A : Type 0} (a : Codec A) where
  -- k: the size of the option
  pub put-none : (k : ℕ) → 1 + a.size ≡ k → put_option a none ≡ replicate k 0
  unfolding put_option put_octet
  put-none k z = let e : k ≡ suc a.size = omega arith in rw e

  -- where the octet is 1 the value is looked at, elsewhere all is zero
  pub canonical-option : (k : ℕ) → 1 + a.size ≡ k → (l : List ℕ) (at : ℕ)
      → canonical_at (option a) l at ≡ cond (is_one (get_or l at 0)) (canonical_at a l (at + 1)) (stands_at (replicate k 0) l at)
  unfolding get_option put_option
  canonical-option k z l at = go (is_one (get_or l at 0)) refl
    where
      go : (b : Bool) → is_one (get_or l at 0) ≡ b
          → stands_at (put_option a (cond b (some (a.get l (at + 1))) none)) l at ≡ cond b (canonical_at a l (at + 1)) (stands_at (replicate k 0) l at)
      go true e = stands-octet 1 (a.put (a.get l (at + 1))) l at ∙ rw (eqb-true (get_or l at 0) 1 e)
      go false e = ap (λ (v : List ℕ). stands_at v l at) (put-none k z)

-- ---- at most n values, stored

module _ {A : Type 0} (a : Codec A) where
  pub up_to-none : (n : ℕ) → put_up_to a n [] ≡ replicate (n * a.size) 0
  unfolding put_up_to
  up_to-none zero = rw zero-mul
  up_to-none (suc n) =
      rw (up_to-none n, replicate-append-replicate {A = ℕ} a.size (n * a.size) 0, add_comm a.size (n * a.size), ← suc-mul n a.size)

  -- the values, and zeros
  pub up_to-split : (n : ℕ) (xs : List A) → length xs ≤ n → put_up_to a n xs ≡ put_array a (length xs) xs ++ replicate ((n - length xs) * a.size) 0
  unfolding put_array put_up_to
  up_to-split zero [] h = rw (sub-zero, zero-mul)
  up_to-split (suc n) [] h = rw sub-zero (up_to-none (suc n))
  up_to-split zero (x ∷ xs) h = absurd (omega arith)
  up_to-split (suc n) (x ∷ xs) h =
      let e : suc n - suc (length xs) ≡ n - length xs = omega arith in
      rw (e, up_to-split n xs (omega arith)) (sym (append_assoc (a.put x) (put_array a (length xs) xs) (replicate ((n - length xs) * a.size) 0)))

module _ {A : Type 0} {a : Codec A} (w : Lawful a) where
  stored-value : (n i : ℕ) (xs : List A) (v : A) → i < n → i < length xs → stored (put_up_to a n xs) (i * a.size) (a.put v) ≡ put_up_to a n (set xs i v)
  unfolding put_up_to
  stored-value zero i xs v h k = absurd (not-suc-le-zero h)
  stored-value (suc n) i [] v h k = absurd (not-suc-le-zero k)
  stored-value (suc n) zero (x ∷ xs) v h k =
      rw zero-mul (stored-first (a.put x) (put_up_to a n xs) (a.put v) (w.put-length v ∙ sym (w.put-length x)))
  stored-value (suc n) (suc i) (x ∷ xs) v h k =
      let e : suc i * a.size ≡ length (a.put x) + i * a.size = rw (suc-mul, w.put-length) (add_comm (i * a.size) a.size) in
      rw (e, stored-after, stored-value n i xs v (le_of_suc-le-suc h) (le_of_suc-le-suc k))

  append-value : (n i : ℕ) (xs : List A) (v : A) → i ≡ length xs → i < n → stored (put_up_to a n xs) (i * a.size) (a.put v) ≡ put_up_to a n (xs ++ (v ∷ []))
  unfolding put_up_to
  append-value zero i xs v e h = absurd (not-suc-le-zero h)
  append-value (suc n) i [] v e h =
      rw (e, zero-mul) (stored-first (replicate a.size 0) (put_up_to a n []) (a.put v) (w.put-length v ∙ sym (length-replicate a.size 0)))
  append-value (suc n) zero (x ∷ xs) v e h = absurd (omega arith)
  append-value (suc n) (suc i) (x ∷ xs) v e h =
      let f : suc i * a.size ≡ length (a.put x) + i * a.size = rw (suc-mul, w.put-length) (add_comm (i * a.size) a.size) in
      rw (f, stored-after, append-value n i xs v (omega arith) (le_of_suc-le-suc h))

  module _ (k : ℕ) (z : a.size ≡ k) (n i : ℕ) (xs : List A) (v : A) where
    -- a value stored where it stands is the list with the value set
    pub stored-up_to : i < n → i < length xs → stored (put_up_to a n xs) (i * k) (a.put v) ≡ put_up_to a n (set xs i v)
    stored-up_to h m = ap (λ (j : ℕ). stored (put_up_to a n xs) (i * j) (a.put v)) (sym z) ∙ stored-value n i xs v h m

    -- one stored past the last is the list with the value appended
    pub append-up_to : i ≡ length xs → i < n → stored (put_up_to a n xs) (i * k) (a.put v) ≡ put_up_to a n (xs ++ (v ∷ []))
    append-up_to e h = ap (λ (j : ℕ). stored (put_up_to a n xs) (i * j) (a.put v)) (sym z) ∙ append-value n i xs v e h

    -- the same with the number of values before them
    past-count : stored ((listed a n).put xs) (1 + i * k) (a.put v) ≡ put_octet (length xs) ++ stored (put_up_to a n xs) (i * k) (a.put v)
    past-count = skip (put_octet (length xs)) 1 (put_octet-length (length xs)) (put_up_to a n xs) (i * k) (a.put v)

    pub stored-listed : i < n → i < length xs → stored ((listed a n).put xs) (1 + i * k) (a.put v) ≡ (listed a n).put (set xs i v)
    stored-listed h m = past-count ∙ rw (length-set xs i v, stored-up_to h m)

    pub append-listed : i ≡ length xs → i < n
        → stored (stored ((listed a n).put xs) (1 + i * k) (a.put v)) 0 (put_octet (i + 1)) ≡ (listed a n).put (xs ++ (v ∷ []))
    append-listed e h =
        let f : length (xs ++ (v ∷ [])) ≡ i + 1 = length-append xs (v ∷ []) ∙ omega arith in
        let g : length (put_octet (i + 1)) ≡ length (put_octet (length xs)) = put_octet-length (i + 1) ∙ sym (put_octet-length (length xs)) in
        ap (λ (l : List ℕ). stored l 0 (put_octet (i + 1))) (past-count ∙ ap (λ (l : List ℕ). put_octet (length xs) ++ l) (append-up_to e h))
        ∙ stored-first (put_octet (length xs)) (put_up_to a n (xs ++ (v ∷ []))) (put_octet (i + 1)) g
        ∙ rw f

-- ---- at most n values, where they stand

module _ {A : Type 0} (a : Codec A) (n : ℕ) (l : List ℕ) (at : ℕ) where
  pub listed-get : get_or l at 0 ≤ n → (listed a n).get l at ≡ get_array a (get_or l at 0) l (at + 1)
  listed-get h = take-array a (get_or l at 0) n l (at + 1) h

  pub listed-length : length ((listed a n).get l at) ≡ min (get_or l at 0) n
  listed-length = length-take (get_or l at 0) (get_array a n l (at + 1)) ∙ rw (get_array-length a n l (at + 1))

  pub every-listed : (k : ℕ) → a.size ≡ k → (p : A → Bool) → get_or l at 0 ≤ n
      → every p ((listed a n).get l at) ≡ every_at (λ i. p (a.get l i)) k (get_or l at 0) (at + 1)
  every-listed k z p h = ap (every p) (listed-get h) ∙ every-array a k z (get_or l at 0) l (at + 1) p

  pub listed-place : (k : ℕ) → a.size ≡ k → (i : ℕ) (d : A) → get_or l at 0 ≤ n → i < get_or l at 0
      → get_or ((listed a n).get l at) i d ≡ a.get l (at + 1 + i * k)
  listed-place k z i d h m = ap (λ (xs : List A). get_or xs i d) (listed-get h) ∙ array-place a k z (get_or l at 0) l (at + 1) i d m

  stands-listed : (xs : List A) → stands_at ((listed a n).put xs) l at ≡ (eqb (length xs) (get_or l at 0) && stands_at (put_up_to a n xs) l (at + 1))
  stands-listed xs = stands-octet (length xs) (put_up_to a n xs) l at

  -- more values than there are places are not canonical
  too_many : n < get_or l at 0 → canonical_at (listed a n) l at ≡ false
  too_many h =
      let e : length ((listed a n).get l at) ≡ n = listed-length ∙ omega arith in
      stands-listed ((listed a n).get l at) ∙ rw (e, ne_eqb n (get_or l at 0) (omega arith))

  counted : get_or l at 0 ≤ n → canonical_at (listed a n) l at ≡ stands_at (put_up_to a n ((listed a n).get l at)) l (at + 1)
  counted h =
      let e : length ((listed a n).get l at) ≡ get_or l at 0 = listed-length ∙ omega arith in
      stands-listed ((listed a n).get l at) ∙ rw (e, eq-eqb (get_or l at 0) (get_or l at 0) refl)

module _ {A : Type 0} {a : Codec A} (w : Lawful a) (n : ℕ) (l : List ℕ) where
  -- a list of which c values stand: the values, then zeros
  stands-values : (c at : ℕ) → c ≤ n
      → stands_at (put_up_to a n (get_array a c l at)) l at
      ≡ (every_at (canonical_at a l) a.size c at && stands_at (replicate ((n - c) * a.size) 0) l (at + c * a.size))
  stands-values c at h =
      let e : length (get_array a c l at) ≡ c = get_array-length a c l at in
      ap (λ (v : List ℕ). stands_at v l at) (up_to-split a n (get_array a c l at) (rw e h))
      ∙ rw (
        e,
        stands_at-append (put_array a c (get_array a c l at)) (replicate ((n - c) * a.size) 0) l at,
        put_array-length w c (get_array a c l at),
        canonical-array w a.size refl c l at,
      )

and_last : (p q r : Bool) → ((p && q) && r) ≡ ((p && r) && q)
and_last p q r = and_assoc p q r ∙ ap (λ (b : Bool). p && b) (and_comm q r) ∙ sym (and_assoc p r q)

module _ {A : Type 0} {a : Codec A} (w : Lawful a) (k : ℕ) (z : a.size ≡ k) (n : ℕ) (l : List ℕ) (at : ℕ) where
  -- a list is canonical where there are places enough, its values are canonical, and zeros follow
  pub canonical-listed : canonical_at (listed a n) l at
      ≡ (leb (get_or l at 0) n
      && (every_at (canonical_at a l) k (get_or l at 0) (at + 1) && stands_at (replicate ((n - get_or l at 0) * k) 0) l (at + 1 + get_or l at 0 * k)))
  canonical-listed =
      below n (get_or l at 0)
      (λ h. too_many a n l at h ∙ rw (lt-leb (get_or l at 0) n h))
      (λ h.
      counted a n l at h
      ∙ ap (λ (xs : List A). stands_at (put_up_to a n xs) l (at + 1)) (listed-get a n l at h)
      ∙ stands-values w n l (get_or l at 0) (at + 1) h
      ∙ ap (λ (j : ℕ). every_at (canonical_at a l) j (get_or l at 0) (at + 1) && stands_at (replicate ((n - get_or l at 0) * j) 0) l (at + 1 + get_or l at 0 * j)) z
      ∙ rw (le-leb (get_or l at 0) n h))

  -- with a test of each value
  pub canonical-listed-every : (p : A → Bool) → (canonical_at (listed a n) l at && every p ((listed a n).get l at))
      ≡ (leb (get_or l at 0) n
      && (every_at (λ i. canonical_at a l i && p (a.get l i)) k (get_or l at 0) (at + 1)
      && stands_at (replicate ((n - get_or l at 0) * k) 0) l (at + 1 + get_or l at 0 * k)))
  canonical-listed-every p =
      below n (get_or l at 0)
      (λ h. rw (too_many a n l at h, lt-leb (get_or l at 0) n h))
      (λ h.
      ap₂ ◌&&◌ canonical-listed (every-listed a n l at k z p h)
      ∙ rw (le-leb (get_or l at 0) n h)
      (and_last
      (every_at (canonical_at a l) k (get_or l at 0) (at + 1))
      (stands_at (replicate ((n - get_or l at 0) * k) 0) l (at + 1 + get_or l at 0 * k))
      (every_at (λ i. p (a.get l i)) k (get_or l at 0) (at + 1))
      ∙ rw (every_at-both (canonical_at a l) (λ i. p (a.get l i)) k (get_or l at 0) (at + 1))))

-- ---- the same, place by place, for a loop over all n places

-- a place of a list of c values: a value where the index is below c, else zeros
abbrev pub place_at : {A : Type 0} → Codec A → ℕ → ℕ → List ℕ → ℕ → ℕ → Bool
place_at a k c l i at = cond (ltb i c) (canonical_at a l at) (stands_at (replicate k 0) l at)

module _ {A : Type 0} {a : Codec A} (w : Lawful a) (l : List ℕ) where
  stands-places : (c i n at : ℕ) → stands_at (put_up_to a n (take (c - i) (get_array a n l at))) l at ≡ every_place (place_at a a.size c l) a.size i n at
  unfolding put_up_to get_array every_place stands_at
  stands-places c i zero at = ap (λ (xs : List A). stands_at (put_up_to a 0 xs) l at) (take-nil (c - i))
  stands-places c i (suc n) at = below i c (here (stands-places c (i + 1) n (at + a.size))) (past (stands-places c (i + 1) n (at + a.size)))
    where
      rest : Bool
      rest = every_place (place_at a a.size c l) a.size (i + 1) n (at + a.size)

      here : stands_at (put_up_to a n (take (c - (i + 1)) (get_array a n l (at + a.size)))) l (at + a.size) ≡ rest → i < c
          → stands_at (put_up_to a (suc n) (take (c - i) (a.get l at ∷ get_array a n l (at + a.size)))) l at ≡ (place_at a a.size c l i at && rest)
      here r h =
          let e : c - i ≡ suc (c - (i + 1)) = omega arith in
          rw (e, lt-ltb i c h, ← r)
          (stands_at-append (a.put (a.get l at)) (put_up_to a n (take (c - (i + 1)) (get_array a n l (at + a.size)))) l at ∙ rw (w.put-length (a.get l at)))

      past : stands_at (put_up_to a n (take (c - (i + 1)) (get_array a n l (at + a.size)))) l (at + a.size) ≡ rest → c ≤ i
          → stands_at (put_up_to a (suc n) (take (c - i) (a.get l at ∷ get_array a n l (at + a.size)))) l at ≡ (place_at a a.size c l i at && rest)
      past r h =
          let e : c - i ≡ 0 = omega arith in
          let f : c - (i + 1) ≡ 0 = omega arith in
          rw (e, le-ltb i c h, ← r, f)
          (stands_at-append (replicate a.size 0) (put_up_to a n []) l at ∙ rw (length-replicate {A = ℕ} a.size 0))

module _ {A : Type 0} (a : Codec A) (l : List ℕ) where
  every-places : (p : A → Bool) (c i n at : ℕ)
      → every p (take (c - i) (get_array a n l at)) ≡ every_place (λ j b. cond (ltb j c) (p (a.get l b)) true) a.size i n at
  unfolding get_array every_place every
  every-places p c i zero at = ap (every p) (take-nil (c - i))
  every-places p c i (suc n) at = below i c (here (every-places p c (i + 1) n (at + a.size))) (past (every-places p c (i + 1) n (at + a.size)))
    where
      rest : Bool
      rest = every_place (λ j b. cond (ltb j c) (p (a.get l b)) true) a.size (i + 1) n (at + a.size)

      here : every p (take (c - (i + 1)) (get_array a n l (at + a.size))) ≡ rest → i < c
          → every p (take (c - i) (a.get l at ∷ get_array a n l (at + a.size))) ≡ (cond (ltb i c) (p (a.get l at)) true && rest)
      here r h =
          let e : c - i ≡ suc (c - (i + 1)) = omega arith in
          rw (e, lt-ltb i c h, ← r)

      past : every p (take (c - (i + 1)) (get_array a n l (at + a.size))) ≡ rest → c ≤ i
          → every p (take (c - i) (a.get l at ∷ get_array a n l (at + a.size))) ≡ (cond (ltb i c) (p (a.get l at)) true && rest)
      past r h =
          let e : c - i ≡ 0 = omega arith in
          let f : c - (i + 1) ≡ 0 = omega arith in
          rw (e, le-ltb i c h, ← r, f)

cond_both : (b p q r : Bool) → (cond b p q && cond b r true) ≡ cond b (p && r) q
cond_both true p q r = refl
cond_both false p q r = and-true q

module _ {A : Type 0} {a : Codec A} (w : Lawful a) (k : ℕ) (z : a.size ≡ k) (n : ℕ) (l : List ℕ) (at : ℕ) where
  pub canonical-places : canonical_at (listed a n) l at ≡ (leb (get_or l at 0) n && every_place (place_at a k (get_or l at 0) l) k 0 n (at + 1))
  canonical-places =
      below n (get_or l at 0)
      (λ h. too_many a n l at h ∙ rw (lt-leb (get_or l at 0) n h))
      (λ h.
      counted a n l at h
      ∙ ap (λ (m : ℕ). stands_at (put_up_to a n (take m (get_array a n l (at + 1)))) l (at + 1)) (sym (sub-zero (get_or l at 0)))
      ∙ stands-places w l (get_or l at 0) 0 n (at + 1)
      ∙ ap (λ (j : ℕ). every_place (place_at a j (get_or l at 0) l) j 0 n (at + 1)) z
      ∙ rw (le-leb (get_or l at 0) n h))

  -- with a test of each value
  pub canonical-places-every : (p : A → Bool) → (canonical_at (listed a n) l at && every p ((listed a n).get l at))
      ≡ (leb (get_or l at 0) n
      && every_place (λ i b. cond (ltb i (get_or l at 0)) (canonical_at a l b && p (a.get l b)) (stands_at (replicate k 0) l b)) k 0 n (at + 1))
  canonical-places-every p =
      let e : every p ((listed a n).get l at) ≡ every_place (λ i b. cond (ltb i (get_or l at 0)) (p (a.get l b)) true) k 0 n (at + 1) =
      ap (λ (m : ℕ). every p (take m (get_array a n l (at + 1)))) (sym (sub-zero (get_or l at 0)))
      ∙ every-places a l p (get_or l at 0) 0 n (at + 1)
      ∙ ap (λ (j : ℕ). every_place (λ i b. cond (ltb i (get_or l at 0)) (p (a.get l b)) true) j 0 n (at + 1)) z in
      ap₂ ◌&&◌ canonical-places e
      ∙ and_assoc (leb (get_or l at 0) n) (every_place (place_at a k (get_or l at 0) l) k 0 n (at + 1))
      (every_place (λ i b. cond (ltb i (get_or l at 0)) (p (a.get l b)) true) k 0 n (at + 1))
      ∙ ap (λ (b : Bool). leb (get_or l at 0) n && b)
      (every_place_both (place_at a k (get_or l at 0) l) (λ i b. cond (ltb i (get_or l at 0)) (p (a.get l b)) true) k 0 n (at + 1)
      ∙ every_place_same
      (λ i b. place_at a k (get_or l at 0) l i b && cond (ltb i (get_or l at 0)) (p (a.get l b)) true)
      (λ i b. cond (ltb i (get_or l at 0)) (canonical_at a l b && p (a.get l b)) (stands_at (replicate k 0) l b))
      (λ i b. cond_both (ltb i (get_or l at 0)) (canonical_at a l b) (stands_at (replicate k 0) l b) (p (a.get l b)))
      k 0 n (at + 1))

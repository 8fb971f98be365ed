-- Keys that differ, told on a walk from the last slot to the first. A hash table has the slots that were met, each in a bucket of its key; only a
-- slot whose key was met, or whose buckets are all taken, is compared with those after it. Assumes nothing.
use Rattle.std.specs.Prelude as Rust
use Rattle.std.specs.Prelude.{Some, None, is_none}
use mathlib.Core.Path.{◌≡◌, refl, sym, ap, ◌∙◌}
use mathlib.Core.Bool.{Bool, true, false, cond, not, ◌&&◌, true≢false}
use mathlib.Core.List.{List, [], ◌∷◌}
use mathlib.Core.Option.{Option, none, some}
use Prim.Native.Nat.{ℕ, zero, suc, ◌+◌, ◌/◌, ◌%◌, ◌<◌, ◌≤◌}
use native.Mathlib.Omega.{arith}
use native.Mathlib.Numerals.{add-one}
use native.Mathlib.Decide.{ℕ_discrete}
use lib.Dec.{eqb}
use borrow.Author.Tests.{eqb-true, eq-eqb, ne_eqb}
use lib.ListN.{length, get_or, set, drop, length-set, drop_of_length-le}
use lib.Seq.{drop-cons, get_or-set_same, get_or-set_other}
use Rattle.octets.specs.Lists.{every}
use Rattle.octets.proofs.Cases.{both}
use Rattle.codec.proofs.Arrays.{get_array-length}
use Rattle.server.specs.Limits.{most_connections}
use Rattle.server.specs.Server.{Slot}
use Rattle.server.specs.WellFormed.{has, apart, differ}
use Rattle.image.specs.Sizes.{server_slots}
use Rattle.image.specs.Layout.{slot}
use Rattle.image.specs.Private.{buckets, first_bucket, spread, digits, buckets_of, is_of, empty_bucket, is_met, slots_at, Met, is_new}

every-imp : {A : Type 0} (p q : A → Bool) → ((x : A) → p x ≡ true → q x ≡ true) → (xs : List A) → every p xs ≡ true → every q xs ≡ true
unfolding every
every-imp p q h [] e = refl
every-imp p q h (x ∷ xs) e =
    let b = both (p x) (every p xs) e in
    rw (h x b.0) (every-imp p q h xs b.1)

every_true : {A : Type 0} (xs : List A) → every (λ (x : A). true) xs ≡ true
unfolding every
every_true [] = refl
every_true (x ∷ xs) = every_true xs

-- ---- the buckets of a key

-- the digits do not hang on how many there may be
digits_same : (n k x : ℕ) → x ≤ n → x ≤ k → digits n x ≡ digits k x
unfolding digits
digits_same zero zero x h g = refl
digits_same zero (suc k) x h g = sym (rw (eq-eqb x 0 (omega arith)))
digits_same (suc n) zero x h g = rw (eq-eqb x 0 (omega arith))
digits_same (suc n) (suc k) x h g =
    ap (λ (v : List ℕ). cond (eqb x 0) [] (x % buckets ∷ v)) (digits_same n k (x / buckets) (omega arith) (omega arith))

pub digits-turn : (x : ℕ) → 0 < x → digits x x ≡ x % buckets ∷ digits (x / buckets) (x / buckets)
unfolding digits
digits-turn zero h = absurd (omega arith)
digits-turn (suc x) h =
    rw (ne_eqb (suc x) 0 (λ e. omega arith))
    (ap (λ (v : List ℕ). suc x % buckets ∷ v) (digits_same x (suc x / buckets) (suc x / buckets) (omega arith) (omega arith)))

pub digits-end : (x : ℕ) → x ≤ 0 → digits x x ≡ []
unfolding digits
digits-end zero h = refl
digits-end (suc x) h = absurd (omega arith)

-- ---- the table: n, what its buckets have; o, where a slot has its key

none_is : (f : Rust.Option ℕ) → is_none f ≡ true → f ≡ None
none_is None e = refl
none_is (Some k) e = absurd (true≢false (sym e))

module _ (l : List ℕ) (o : ℕ) (n : List ℕ) (m : ℕ) where
  empty_in : (ks : List ℕ) (k : ℕ) → empty_bucket l o n m ks ≡ Some k → get_or n k 0 ≡ 0
  unfolding empty_bucket
  empty_in [] k e = let z : ◌≡◌ {A = ℕ} 0 1 = cc in absurd (omega arith)
  empty_in (j ∷ ks) k e = go (eqb (get_or n j 0) 0) refl (is_of l o (get_or n j 0) m) e (empty_in ks k)
    where
      go : (b : Bool) → eqb (get_or n j 0) 0 ≡ b → (c : Bool) → cond b (Some j) (cond c None (empty_bucket l o n m ks)) ≡ Some k
          → (empty_bucket l o n m ks ≡ Some k → get_or n k 0 ≡ 0) → get_or n k 0 ≡ 0
      go true f c g r = let z : j ≡ k = cc in rw (← z) (eqb-true (get_or n j 0) 0 f)
      go false f true g r = let z : ◌≡◌ {A = ℕ} 0 1 = cc in absurd (omega arith)
      go false f false g r = r g

  -- the search: k, the bucket looked at; x, the number whose digits are to come; w, what the whole comes to
  module _ (k : ℕ) (e : k ≡ first_bucket m) where
    pub first-empty : get_or n k 0 ≡ 0 → Some k ≡ empty_bucket l o n m (buckets_of m)
    unfolding empty_bucket
    first-empty z = ap Some e ∙ sym (rw (eq-eqb (get_or n (first_bucket m) 0) 0 (ap (λ (j : ℕ). get_or n j 0) (sym e) ∙ z)))

    module _ (z : get_or n k 0 ≡ 0 → ⊥) where
      taken : eqb (get_or n (first_bucket m) 0) 0 ≡ false
      taken = ne_eqb (get_or n (first_bucket m) 0) 0 (λ q. z (ap (λ (j : ℕ). get_or n j 0) e ∙ q))

      pub first-met : is_of l o (get_or n k 0) m ≡ true → None ≡ empty_bucket l o n m (buckets_of m)
      unfolding empty_bucket
      first-met f = sym (rw (taken, ← e, f))

      pub first-other : is_of l o (get_or n k 0) m ≡ false → (x : ℕ) → x ≡ spread m → empty_bucket l o n m (buckets_of m) ≡ empty_bucket l o n m (digits x x)
      unfolding empty_bucket
      first-other f x s = rw (taken, ← e, f, s)

  module _ (w : Rust.Option ℕ) (x : ℕ) (inv : w ≡ empty_bucket l o n m (digits x x)) where
    module _ (p : 0 < x) where
      turn : w ≡ empty_bucket l o n m (x % buckets ∷ digits (x / buckets) (x / buckets))
      turn = inv ∙ ap (empty_bucket l o n m) (digits-turn x p)

      pub next-empty : get_or n (x % buckets) 0 ≡ 0 → Some (x % buckets) ≡ w
      unfolding empty_bucket
      next-empty z = sym (turn ∙ rw (eq-eqb (get_or n (x % buckets) 0) 0 z))

      pub next-met : (get_or n (x % buckets) 0 ≡ 0 → ⊥) → is_of l o (get_or n (x % buckets) 0) m ≡ true → None ≡ w
      unfolding empty_bucket
      next-met z f = sym (turn ∙ rw (ne_eqb (get_or n (x % buckets) 0) 0 z, f))

      pub next-other : (get_or n (x % buckets) 0 ≡ 0 → ⊥) → is_of l o (get_or n (x % buckets) 0) m ≡ false → w ≡ empty_bucket l o n m (digits (x / buckets) (x / buckets))
      unfolding empty_bucket
      next-other z f = turn ∙ rw (ne_eqb (get_or n (x % buckets) 0) 0 z, f)

    pub next-end : x ≤ 0 → None ≡ w
    unfolding empty_bucket
    next-end h = sym (inv ∙ rw (digits-end x h))

  -- one more slot in an empty bucket: a key that was met stays so
  module _ (k v : ℕ) (z : get_or n k 0 ≡ 0) where
    met-stays : (ks : List ℕ) → empty_bucket l o n m ks ≡ None → empty_bucket l o (set n k v) m ks ≡ None
    unfolding empty_bucket
    met-stays [] e = refl
    met-stays (j ∷ ks) e = go (eqb (get_or n j 0) 0) refl (is_of l o (get_or n j 0) m) refl e (met-stays ks)
      where
        other : eqb (get_or n j 0) 0 ≡ false → get_or (set n k v) j 0 ≡ get_or n j 0
        other f = get_or-set_other n k j v 0 (λ q. true≢false (sym (eq-eqb (get_or n j 0) 0 (ap (λ (i : ℕ). get_or n i 0) q ∙ z)) ∙ f))

        go : (b : Bool) → eqb (get_or n j 0) 0 ≡ b → (d : Bool) → is_of l o (get_or n j 0) m ≡ d → cond b (Some j) (cond d None (empty_bucket l o n m ks)) ≡ None
            → (empty_bucket l o n m ks ≡ None → empty_bucket l o (set n k v) m ks ≡ None) → empty_bucket l o (set n k v) m (j ∷ ks) ≡ None
        go true f d g e r = let y : ◌≡◌ {A = ℕ} 0 1 = cc in absurd (omega arith)
        go false f true g e r = rw (other f, f, g)
        go false f false g e r = rw (other f, f, g) (r e)

  -- the key of the slot itself was met then
  module _ (k v : ℕ) (s : k < length n) (w : eqb v 0 ≡ false) (q : is_of l o v m ≡ true) where
    met-own : (ks : List ℕ) → empty_bucket l o n m ks ≡ Some k → empty_bucket l o (set n k v) m ks ≡ None
    unfolding empty_bucket
    met-own [] e = refl
    met-own (j ∷ ks) e = go (ℕ_discrete j k) (eqb (get_or n j 0) 0) refl (is_of l o (get_or n j 0) m) refl e (met-own ks)
      where
        here : (i : ℕ) → i ≡ k → get_or (set n k v) i 0 ≡ v
        here i p = rw p (get_or-set_same n k v 0 s)

        go : Dec (j ≡ k) → (b : Bool) → eqb (get_or n j 0) 0 ≡ b → (c : Bool) → is_of l o (get_or n j 0) m ≡ c → cond b (Some j) (cond c None (empty_bucket l o n m ks)) ≡ Some k
            → (empty_bucket l o n m ks ≡ Some k → empty_bucket l o (set n k v) m ks ≡ None) → empty_bucket l o (set n k v) m (j ∷ ks) ≡ None
        go (yes p) b f c g e r = rw (here j p, w, q)
        go (no p) true f c g e r = let z : j ≡ k = cc in absurd (p z)
        go (no p) false f true g e r = let y : ◌≡◌ {A = ℕ} 0 1 = cc in absurd (omega arith)
        go (no p) false f false g e r = rw (get_or-set_other n k j v 0 p, f, g) (r e)

  -- a key that was not met is none of those that were
  unmet : (k : ℕ) → Some k ≡ empty_bucket l o n m (buckets_of m) → (u : Option ℕ) → is_met l o n u ≡ true → not (has u m) ≡ true
  unmet k f none e = refl
  unmet k f (some u) e = go (eqb u m) refl
    where
      go : (c : Bool) → eqb u m ≡ c → not (eqb u m) ≡ true
      go false h = rw h
      go true h =
          let g = none_is (empty_bucket l o n m (buckets_of m)) (ap (λ (j : ℕ). is_none (empty_bucket l o n j (buckets_of j))) (sym (eqb-true u m h)) ∙ e) in
          let y : ◌≡◌ {A = ℕ} 0 1 = cc in
          absurd (omega arith)

-- ---- the walk

module _ (l : List ℕ) where
  counted : length (slots_at l) ≡ most_connections
  counted = get_array-length slot most_connections l server_slots

  module _ (key : Slot → Option ℕ) (o : ℕ) where
    pub met_start : (n : List ℕ) → length n ≡ buckets → Met key o l most_connections n
    unfolding every
    met_start n h =
        record { bound = omega arith; size = h; met = rw (drop_of_length-le (slots_at l) {i = most_connections} (omega (arith, counted))) }

    module _ (j : ℕ) (n : List ℕ) (h : Met key o l (j + 1) n) where
      x : Slot
      x = get_or (slots_at l) j none

      rest : List Slot
      rest = drop (j + 1) (slots_at l)

      front : drop j (slots_at l) ≡ x ∷ rest
      unfolding x rest
      front = drop-cons (slots_at l) j none (omega (arith, h.bound, counted)) ∙ rw (add-one j)

      -- a slot without a key
      pub met-skip : key (get_or (slots_at l) j none) ≡ none → Met key o l j n
      unfolding every x rest
      met-skip is = record { bound = omega (arith, h.bound); size = h.size; met = rw (front, is) h.met }

      pub new_none : key (get_or (slots_at l) j none) ≡ none → true ≡ is_new key (slots_at l) j
      unfolding is_new
      new_none is = rw is (sym (every_true (drop (j + 1) (slots_at l))))

      -- one that has a key m
      module _ (m : ℕ) (is : key (get_or (slots_at l) j none) ≡ some m) where
        -- it takes its empty bucket, k, which has v then
        module _ (k : ℕ) (e : Some k ≡ empty_bucket l o n m (buckets_of m)) where
          stays : (v : ℕ) (y : Slot) → is_met l o n (key y) ≡ true → is_met l o (set n k v) (key y) ≡ true
          stays v y = go (key y)
            where
              go : (u : Option ℕ) → is_met l o n u ≡ true → is_met l o (set n k v) u ≡ true
              go none f = refl
              go (some u) f = ap is_none (met-stays l o n u k v (empty_in l o n m (buckets_of m) k (sym e)) (buckets_of u) (none_is (empty_bucket l o n u (buckets_of u)) f))

          pub new-found : true ≡ is_new key (slots_at l) j
          unfolding is_new
          new-found =
              rw is (sym (every-imp (λ y. is_met l o n (key y)) (λ y. not (has (key y) m)) (λ y. unmet l o n m k e (key y)) (drop (j + 1) (slots_at l)) h.met))

          pub met-taken : k < buckets → (v : ℕ) → eqb v 0 ≡ false → is_of l o v m ≡ true → Met key o l j (set n k v)
          unfolding every x rest
          met-taken b v w q =
              record {
                bound = omega (arith, h.bound);
                size = simp length-set h.size;
                met = rw (front, is, met-own l o n m k v (omega (arith, h.size)) w q (buckets_of m) (sym e))
                    (every-imp (λ y. is_met l o n (key y)) (λ y. is_met l o (set n k v) (key y)) (stays v) rest h.met);
              }

        -- it is compared
        pub new-compared : every (λ y. not (has (key y) m)) (drop (j + 1) (slots_at l)) ≡ is_new key (slots_at l) j
        unfolding is_new
        new-compared = rw is

        pub met-compared : None ≡ empty_bucket l o n m (buckets_of m) → Met key o l j n
        unfolding every x rest
        met-compared e = record { bound = omega (arith, h.bound); size = h.size; met = rw (front, is, sym e) h.met }

module _ (key : Slot → Option ℕ) (xs : List Slot) where
  -- the slots from j on differ where the first is new and those after it differ
  pub differ-turn : (j : ℕ) → j < length xs → differ key (drop j xs) ≡ (is_new key xs j && differ key (drop (j + 1) xs))
  unfolding apart is_new
  differ-turn j h =
      let e : drop j xs ≡ get_or xs j none ∷ drop (j + 1) xs = drop-cons xs j none h ∙ rw (add-one j) in
      ap (differ key) e

  pub differ-end : (j : ℕ) → length xs ≤ j → differ key (drop j xs) ≡ true
  unfolding apart
  differ-end j h = rw (drop_of_length-le xs {i = j} h)

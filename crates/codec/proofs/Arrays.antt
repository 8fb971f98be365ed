-- Arrays: read and stored by loops, one element read, tested or stored where it stands. In the loops k is the size of an element. Assumes nothing.
use mathlib.Core.Path.{◌≡◌, refl, sym, ap, ◌∙◌}
use mathlib.Core.Bool.{Bool}
use mathlib.Core.List.{List, [], ◌∷◌, ◌++◌}
use Prim.Native.Nat.{ℕ, zero, suc, ◌+◌, ◌-◌, ◌*◌, ◌<◌, ◌≤◌}
use native.Mathlib.Omega.{arith}
use native.Mathlib.Numerals.{add-one}
use native.Mathlib.Nat.{add-zero, add_comm, zero-mul, suc-mul, not-suc-le-zero, le_of_suc-le-suc}
use lib.ListN.{length, set, get_or, take, drop}
use lib.Seq.{get_or-drop, drop-drop}
use Rattle.octets.specs.Lists.{every}
use Rattle.codec.specs.Codec.{Codec, octet, put_octet, element, put_array, get_array, array}
use Rattle.codec.specs.Stored.{stored}
use Rattle.codec.specs.InPlace.{stands_at, canonical_at, every_at}
use Rattle.codec.proofs.Lawful.{Lawful}
use Rattle.codec.proofs.Stored.{stored-append, stored-whole, stored-after, stored-first, fill-turn, fill_end}
use Rattle.codec.proofs.InPlace.{stands_at-append}

-- within a list the default does not matter
pub get_d_any : {A : Type 0} (xs : List A) (i : ℕ) (d e : A) → i < length xs → get_or xs i d ≡ get_or xs i e
get_d_any [] i d e h = absurd (not-suc-le-zero h)
get_d_any (x ∷ xs) zero d e h = refl
get_d_any (x ∷ xs) (suc i) d e h = get_d_any xs i d e (le_of_suc-le-suc h)

-- as many octets as there are places are their own layout
pub octets-put : (n : ℕ) (xs : List ℕ) → length xs ≡ n → put_array octet n xs ≡ xs
unfolding put_array put_octet
octets-put zero [] e = refl
octets-put zero (x ∷ xs) e = absurd (omega arith)
octets-put (suc n) [] e = absurd (omega arith)
octets-put (suc n) (x ∷ xs) e = λ i. x ∷ octets-put n xs (omega arith) i

module _ {A : Type 0} (a : Codec A) where
  pub get_array-length : (n : ℕ) (l : List ℕ) (at : ℕ) → length (get_array a n l at) ≡ n
  unfolding get_array
  get_array-length zero l at = refl
  get_array-length (suc n) l at = ap suc (get_array-length n l (at + a.size))

  pub get_array-at : (n : ℕ) (l : List ℕ) (at i : ℕ) (d : A) → i < n → get_or (get_array a n l at) i d ≡ a.get l (at + i * a.size)
  unfolding get_array
  get_array-at zero l at i d h = absurd (not-suc-le-zero h)
  get_array-at (suc n) l at zero d h = rw (zero-mul, add-zero)
  get_array-at (suc n) l at (suc i) d h =
      rw (get_array-at n l (at + a.size) i d (le_of_suc-le-suc h)) (ap (a.get l) (rw suc-mul (omega arith)))

  -- the first of them
  pub take-array : (c n : ℕ) (l : List ℕ) (at : ℕ) → c ≤ n → take c (get_array a n l at) ≡ get_array a c l at
  unfolding get_array
  take-array zero n l at h = refl
  take-array (suc c) zero l at h = absurd (not-suc-le-zero h)
  take-array (suc c) (suc n) l at h = λ i. a.get l at ∷ take-array c n l (at + a.size) (le_of_suc-le-suc h) i

  -- the loop that reads an array: with the rest of the array stored, the list is the array
  module _ (xs : List A) (l : List ℕ) (at n : ℕ) where
    pub get-start : length xs ≡ n → stored xs 0 (get_array a n l at) ≡ get_array a n l at
    get-start e = stored-whole xs (get_array a n l at) (e ∙ sym (get_array-length n l at))

    pub get-turn : (k : ℕ) → a.size ≡ k → (i : ℕ) (v : A) → i < n → v ≡ a.get l (at + i * k)
        → stored xs i (drop i (get_array a n l at)) ≡ get_array a n l at
        → stored (set xs i v) (i + 1) (drop (i + 1) (get_array a n l at)) ≡ get_array a n l at
    get-turn k z i v h e inv = fill-turn xs (get_array a n l at) i v (rw get_array-length h) (get_array-at n l at i v h ∙ rw z (sym e)) inv

    pub get-end : (i : ℕ) → n ≤ i → stored xs i (drop i (get_array a n l at)) ≡ get_array a n l at → xs ≡ get_array a n l at
    get-end i h inv = fill_end xs (get_array a n l at) i inv (rw get_array-length h)

  every-elements : (p : A → Bool) (n : ℕ) (l : List ℕ) (at : ℕ) → every p (get_array a n l at) ≡ every_at (λ i. p (a.get l i)) a.size n at
  unfolding every get_array every_at
  every-elements p zero l at = refl
  every-elements p (suc n) l at = rw (every-elements p n l (at + a.size))

  module _ (k : ℕ) (z : a.size ≡ k) (n : ℕ) (l : List ℕ) (at : ℕ) where
    -- a test of the elements, and an element, where they stand
    pub every-array : (p : A → Bool) → every p (get_array a n l at) ≡ every_at (λ i. p (a.get l i)) k n at
    every-array p = every-elements p n l at ∙ ap (λ (j : ℕ). every_at (λ i. p (a.get l i)) j n at) z

    pub array-place : (i : ℕ) (d : A) → i < n → get_or (get_array a n l at) i d ≡ a.get l (at + i * k)
    array-place i d h = get_array-at n l at i d h ∙ ap (λ (j : ℕ). a.get l (at + i * j)) z

  put_array-turn : (n i : ℕ) (xs : List A) → i < n
      → put_array a (n - i) (drop i xs) ≡ a.put (element a xs i) ++ put_array a (n - (i + 1)) (drop (i + 1) xs)
  unfolding put_array
  put_array-turn n i xs h =
      let e : n - i ≡ suc (n - (i + 1)) = omega arith in
      rw (e, get_or-drop i xs 0 (a.get [] 0), drop-drop 1 i xs, add-zero)

  -- the end of the loop that stores an array
  pub put-end : (l : List ℕ) (at n i : ℕ) (xs : List A) (m : List ℕ) → n ≤ i → stored l at (put_array a (n - i) (drop i xs)) ≡ m → l ≡ m
  unfolding stored put_array
  put-end l at n i xs m h inv =
      let e : n - i ≡ 0 = omega arith in
      rw e at inv

module _ {A : Type 0} {a : Codec A} (w : Lawful a) where
  -- a turn of the loop that stores an array: with the rest of the array stored, the list is m; d is any default
  pub put-turn : (k : ℕ) → a.size ≡ k → (l l₁ : List ℕ) (at n i : ℕ) (xs : List A) (m : List ℕ) (d : A) → i < n → length xs ≡ n
      → l₁ ≡ stored l (at + i * k) (a.put (get_or xs i d))
      → stored l (at + i * k) (put_array a (n - i) (drop i xs)) ≡ m
      → stored l₁ (at + (i + 1) * k) (put_array a (n - (i + 1)) (drop (i + 1) xs)) ≡ m
  put-turn k z l l₁ at n i xs m d h len e inv =
      let same-element : element a xs i ≡ get_or xs i d = get_d_any xs i (a.get [] 0) d (rw len h) in
      let p : at + i * k + length (a.put (get_or xs i d)) ≡ at + (i + 1) * k = rw (w.put-length, z, add-one, suc-mul) (omega arith) in
      rw (e, ← p, stored-append, ← same-element, ← put_array-turn a n i xs h) inv

  stored-element : (n i : ℕ) (xs : List A) (v : A) → i < n → i < length xs → stored (put_array a n xs) (i * a.size) (a.put v) ≡ put_array a n (set xs i v)
  unfolding put_array
  stored-element zero i xs v h k = absurd (not-suc-le-zero h)
  stored-element (suc n) i [] v h k = absurd (not-suc-le-zero k)
  stored-element (suc n) zero (x ∷ xs) v h k =
      rw zero-mul (stored-first (a.put x) (put_array a n xs) (a.put v) (w.put-length v ∙ sym (w.put-length x)))
  stored-element (suc n) (suc i) (x ∷ xs) v h k =
      let e : suc i * a.size ≡ length (a.put x) + i * a.size = rw (suc-mul, w.put-length) (add_comm (i * a.size) a.size) in
      rw (e, stored-after, stored-element n i xs v (le_of_suc-le-suc h) (le_of_suc-le-suc k))

  -- an element stored where it stands is the array with the element set
  pub stored-array : (k : ℕ) → a.size ≡ k → (n i : ℕ) (xs : List A) (v : A) → i < n → i < length xs
      → stored (put_array a n xs) (i * k) (a.put v) ≡ put_array a n (set xs i v)
  stored-array k z n i xs v h m = ap (λ (j : ℕ). stored (put_array a n xs) (i * j) (a.put v)) (sym z) ∙ stored-element n i xs v h m

  canonical-elements : (n : ℕ) (l : List ℕ) (at : ℕ) → canonical_at (array a n) l at ≡ every_at (canonical_at a l) a.size n at
  unfolding put_array get_array every_at stands_at
  canonical-elements zero l at = refl
  canonical-elements (suc n) l at =
      stands_at-append (a.put (a.get l at)) (put_array a n (get_array a n l (at + a.size))) l at
      ∙ rw (w.put-length (a.get l at), canonical-elements n l (at + a.size))

  -- an array is canonical where its elements are
  pub canonical-array : (k : ℕ) → a.size ≡ k → (n : ℕ) (l : List ℕ) (at : ℕ) → canonical_at (array a n) l at ≡ every_at (canonical_at a l) k n at
  canonical-array k z n l at = canonical-elements n l at ∙ ap (λ (j : ℕ). every_at (canonical_at a l) j n at) z

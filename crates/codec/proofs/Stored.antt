-- Elements stored over a list: as a whole, field by field, by a loop, and within a part. Assumes nothing.
use mathlib.Core.Path.{◌≡◌, refl, sym, ap, ◌∙◌}
use mathlib.Core.List.{List, [], ◌∷◌, ◌++◌, append-nil, append_assoc}
use Prim.Native.Nat.{ℕ, suc, ◌+◌, ◌-◌, ◌/◌, ◌%◌, ◌<◌, ◌≤◌}
use native.Mathlib.Omega.{arith}
use native.Mathlib.Numerals.{add-one}
use native.Mathlib.Nat.{add-zero, add_assoc, zero-add}
use lib.ListN.{length, set, get_or, take, drop, length-set, drop_of_length-le}
use lib.Seq.{sets, sets-eq, drop-length, drop-cons, length-take-le}
use Rattle.codec.specs.Codec.{Codec, put_octet, put_number}
use Rattle.codec.specs.Stored.{stored}
use Rattle.codec.proofs.Lawful.{Lawful}

module _ {A : Type 0} where
  pub stored-length : (l : List A) (at : ℕ) (vs : List A) → length (stored l at vs) ≡ length l
  unfolding stored
  stored-length l at [] = refl
  stored-length l at (v ∷ vs) = stored-length (set l at v) (at + 1) vs ∙ length-set l at v

  pub stored-append : (l : List A) (at : ℕ) (vs ws : List A) → stored (stored l at vs) (at + length vs) ws ≡ stored l at (vs ++ ws)
  unfolding stored
  stored-append l at [] ws = rw add-zero
  stored-append l at (v ∷ vs) ws =
      let e : at + suc (length vs) ≡ at + 1 + length vs = omega arith in
      rw e (stored-append (set l at v) (at + 1) vs ws)

  -- for `simp`: one run after another
  pub fields : (l : List A) (at : ℕ) (vs ws : List A) → stored l at (vs ++ ws) ≡ stored (stored l at vs) (at + length vs) ws
  fields l at vs ws = sym (stored-append l at vs ws)

  as_sets : (l : List A) (at : ℕ) (vs : List A) → stored l at vs ≡ sets l at vs
  unfolding stored
  as_sets l at [] = refl
  as_sets l at (v ∷ vs) = rw add-one (as_sets (set l at v) (suc at) vs)

  -- what a store changes: the elements from `at` on, as many as are stored, and nothing else
  pub stored_is : (l : List A) (at : ℕ) (vs : List A) → at + length vs ≤ length l → stored l at vs ≡ take at l ++ (vs ++ drop (at + length vs) l)
  stored_is l at vs h = as_sets l at vs ∙ sets-eq vs l at h ∙ append_assoc (take at l) vs (drop (at + length vs) l)

  -- as many elements as the list has are the whole of it
  pub stored-whole : (l vs : List A) → length l ≡ length vs → stored l 0 vs ≡ vs
  stored-whole l vs e =
      let h : 0 + length vs ≤ length l = omega arith in
      let d : drop (length vs) l ≡ [] = rw (← e) (drop-length l) in
      stored_is l 0 vs h ∙ rw (zero-add, d) (append-nil vs)

  -- ---- loops that store the elements of a list one by one

  -- of vs, from `at` on
  pub copy-turn : (l : List A) (at i : ℕ) (vs : List A) (d : A) → i < length vs
      → stored l (at + i) (drop i vs) ≡ stored (set l (at + i) (get_or vs i d)) (at + (i + 1)) (drop (i + 1) vs)
  unfolding stored
  copy-turn l at i vs d h = rw (drop-cons vs i d h, ← add_assoc at i 1, add-one i)

  pub copy-end : (l : List A) (at i : ℕ) (vs w : List A) → stored l at (drop i vs) ≡ w → length vs ≤ i → l ≡ w
  unfolding stored
  copy-end l at i vs w e h = rw (drop_of_length-le vs h) at e

  -- of t, which the list is to become: v is t's element at i
  pub fill-turn : (l t : List A) (i : ℕ) (v : A) → i < length t → get_or t i v ≡ v → stored l i (drop i t) ≡ t
      → stored (set l i v) (i + 1) (drop (i + 1) t) ≡ t
  unfolding stored
  fill-turn l t i v h e w =
      let d : drop i t ≡ v ∷ drop (i + 1) t = rw (drop-cons t i v h, e, add-one i) in
      rw d at w

  pub fill_end : (l t : List A) (i : ℕ) → stored l i (drop i t) ≡ t → length t ≤ i → l ≡ t
  unfolding stored
  fill_end l t i e h = rw (drop_of_length-le t h) at e

  -- ---- within a part

  set_after : (p l : List A) (at : ℕ) (v : A) → set (p ++ l) (length p + at) v ≡ p ++ set l at v
  set_after [] l at v = rw zero-add
  set_after (x ∷ p) l at v =
      let e : suc (length p) + at ≡ suc (length p + at) = omega arith in
      rw e (λ i. x ∷ set_after p l at v i)

  -- past a first part
  pub stored-after : (p l : List A) (at : ℕ) (vs : List A) → stored (p ++ l) (length p + at) vs ≡ p ++ stored l at vs
  unfolding stored
  stored-after p l at [] = refl
  stored-after p l at (v ∷ vs) = rw (set_after p l at v, add_assoc (length p) at 1) (stored-after p (set l at v) (at + 1) vs)

  -- the same past a first part of n, so that `n + at` may be a numeral
  pub skip : (p : List A) (n : ℕ) → length p ≡ n → (l : List A) (at : ℕ) (vs : List A) → stored (p ++ l) (n + at) vs ≡ p ++ stored l at vs
  skip p n e l at vs = ap (λ (k : ℕ). stored (p ++ l) (k + at) vs) (sym e) ∙ stored-after p l at vs

  -- in place of a first part
  pub stored-first : (m q vs : List A) → length vs ≡ length m → stored (m ++ q) 0 vs ≡ vs ++ q
  unfolding stored
  stored-first [] q [] h = refl
  stored-first [] q (v ∷ vs) h = absurd (omega arith)
  stored-first (x ∷ m) q [] h = absurd (omega arith)
  stored-first (x ∷ m) q (v ∷ vs) h = stored-after (v ∷ []) (m ++ q) 0 vs ∙ (λ i. v ∷ stored-first m q vs (omega arith) i)

-- ---- numbers

pub stored_one : (l : List ℕ) (at v : ℕ) → stored l at (put_octet v) ≡ set l at v
unfolding stored put_octet
stored_one l at v = refl

-- a turn of the loop that stores a number: its last octet, and then the rest of it
pub stored-number : (l : List ℕ) (at k i v : ℕ) → i < k
    → stored l (at + i) (put_number (k - i) v) ≡ stored (set l (at + i) (v % 256)) (at + (i + 1)) (put_number (k - (i + 1)) (v / 256))
unfolding stored put_number
stored-number l at k i v h =
    let e : k - i ≡ suc (k - (i + 1)) = omega arith in
    rw (e, ← add_assoc at i 1)

pub number-end : (l : List ℕ) (at k i v : ℕ) (w : List ℕ) → stored l at (put_number (k - i) v) ≡ w → k ≤ i → l ≡ w
unfolding stored put_number
number-end l at k i v w inv h =
    let e : k - i ≡ 0 = omega arith in
    rw e at inv

-- ---- a value that was stored is read

pub get-stored : {A : Type 0} {a : Codec A} (w : Lawful a) (l : List ℕ) (at : ℕ) (x : A) → w.Good x → at + a.size ≤ length l
    → a.get (stored l at (a.put x)) at ≡ x
get-stored {a = a} w l at x g h =
    let k : at + length (a.put x) ≤ length l = rw (w.put-length x) h in
    ap (λ (m : List ℕ). a.get m at) (stored_is l at (a.put x) k)
    ∙ w.get-put (take at l) x (drop (at + length (a.put x)) l) at (length-take-le at l (omega arith)) g

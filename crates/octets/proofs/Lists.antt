-- Lists at an index: a part, what stands from there on, what is stored there. Assumes nothing.
use mathlib.Core.Path.{◌≡◌, sym, ◌∙◌, ap}
use mathlib.Core.List.{List, [], ◌∷◌, ◌++◌}
use Prim.Native.Nat.{ℕ, suc, ◌+◌, ◌-◌, ◌≤◌, min}
use native.Mathlib.Nat.{add-zero}
use native.Mathlib.Numerals.{add-one, add-two, add-three, add-four}
use native.Mathlib.Omega.{arith}
use lib.ListN.{length, get_or, take, drop, length-take}
use Rattle.std.proofs.lemmas.List.{take_min, drop_min}
use Rattle.std.proofs.lemmas.Slice.{between_is}
use lib.Seq.{drop-cons, take-length, sets, slice}

-- a part, as code cuts it out of a slice
-- up to the line's end
pub to_end : (from : ℕ) (l : List ℕ) → slice from (length l) l ≡ drop from l
to_end from l = ap (drop from) (take-length l)

pub cut : (from to : ℕ) (l : List ℕ) → take (to - from) (drop from l) ≡ slice from to l
cut from to l = between_is l from to

-- the same as far as the line has it
pub part_is : (from to : ℕ) (l : List ℕ) → take (min to (length l) - min from (min to (length l))) (drop (min from (min to (length l))) l) ≡ slice from to l
part_is from to l = cut _ _ l ∙ rw (take_min to l, ← length-take to l) (drop_min from (take to l))

-- the next octets
pub drop-three : (t : List ℕ) (i : ℕ) → i + 3 ≤ length t → drop i t ≡ get_or t i 0 ∷ get_or t (i + 1) 0 ∷ get_or t (i + 2) 0 ∷ drop (i + 3) t
drop-three t i h =
    simp (add-one, add-two, add-three)
    (rw (drop-cons t i 0 (omega arith), drop-cons t (suc i) 0 (omega arith), drop-cons t (suc (suc i)) 0 (omega arith)))

pub drop-four : (t : List ℕ) (i : ℕ) → i + 4 ≤ length t
    → drop i t ≡ get_or t i 0 ∷ get_or t (i + 1) 0 ∷ get_or t (i + 2) 0 ∷ get_or t (i + 3) 0 ∷ drop (i + 4) t
drop-four t i h =
    drop-three t i (omega arith)
    ∙ ap (λ (l : List ℕ). get_or t i 0 ∷ get_or t (i + 1) 0 ∷ get_or t (i + 2) 0 ∷ l)
    (simp (add-three, add-four) (drop-cons t (suc (suc (suc i))) 0 (omega arith)))

-- what is stored in two parts
pub sets-append : (o : List ℕ) (n : ℕ) (u v : List ℕ) → sets o n (u ++ v) ≡ sets (sets o n u) (n + length u) v
sets-append o n [] v = rw add-zero
sets-append o n (x ∷ u) v = sets-append _ (suc n) u v ∙ ap (λ (k : ℕ). sets (sets o n (x ∷ u)) k v) (omega arith)

-- a store of the first part of what is left to store
pub store-part : (o w l u v : List ℕ) (n : ℕ) → sets o n l ≡ w → l ≡ u ++ v → sets (sets o n u) (n + length u) v ≡ w
store-part o w l u v n inv e = sym (sets-append o n u v) ∙ ap (λ (x : List ℕ). sets o n x) (sym e) ∙ inv

-- One value where it stands, as the library reads and writes it: a part of a list, a number's octets, zeros. Assumes nothing.
use Rattle.std.proofs.Common.{add-one, ◌≡◌, ℕ, zero, suc, ◌+◌, ◌≤◌, Bool, true, ◌&&◌, List, length, get_or, take, drop, replicate, fold, nat_eq, refl, sym, ◌∙◌, arith}
use Rattle.std.specs.Int.{w64, to_le_bytes, from_le_bytes}
use borrow.Rule.Slice.PartMut.{put_mid}
use Rattle.codec.specs.Codec.{octet, put_number, get_number, get_array}
use Rattle.codec.specs.InPlace.{stands_at}
use Rattle.codec.specs.Stored.{stored}
use Rattle.codec.proofs.Stored.{stored_is, stored_one}
use Rattle.std.proofs.lemmas.Bool.Decides.{nat_tests}
use mathlib.Core.Bool.{and-true, and_assoc}
use Rattle.std.proofs.Math.Nat.{div-div-eq-div-mul}
use Rattle.std.proofs.Math.Seq.{drop-cons, drop-drop}

-- a part of a list as an array of octets, and octets put over a part
pub array_of_part : (n : ℕ) (l : List ℕ) (at : ℕ) → at + n ≤ length l → take n (drop at l) ≡ get_array octet n l at
unfolding get_array
array_of_part zero l at h = refl
array_of_part (suc n) l at h = rw (drop-cons l at 0 (omega arith), ← add-one at, array_of_part n l (at + 1) (omega arith))

pub stored_part : (l vs : List ℕ) (at n : ℕ) → at + length vs ≤ length l → n ≡ length vs → put_mid at n l vs ≡ stored l at vs
stored_part l vs at n h e = rw (e, stored_is l at vs h, drop-drop)

-- a number and its octets, as the library has them
pub number_of_octets : (l : List ℕ) (at : ℕ) → from_le_bytes w64 (get_array octet 8 l at) ≡ get_number 8 l at
unfolding get_array get_number
number_of_octets l at = omega arith

pub octets_of_number : (n : ℕ) → to_le_bytes w64 n ≡ put_number 8 n
unfolding put_number
octets_of_number n = simp div-div-eq-div-mul

-- a fold that looks for zeros
pub zero-here : (x : ℕ) → nat_eq 0 x ≡ nat_eq x 0
zero-here x = grind (arith, nat_tests)

zeros_folded : (n : ℕ) (l : List ℕ) (at : ℕ) → at + n ≤ length l → (ok : Bool) → fold (λ b x. b && nat_eq x 0) ok (take n (drop at l)) ≡ (ok && stands_at (replicate n 0) l at)
unfolding stands_at
zeros_folded zero l at h ok = sym (and-true ok)
zeros_folded (suc n) l at h ok =
    rw (drop-cons l at 0 (omega arith), ← add-one at)
    (zeros_folded n l (at + 1) (omega arith) (ok && nat_eq (get_or l at 0) 0) ∙ rw (and_assoc, zero-here))

pub are_zeros : (l : List ℕ) (at k n : ℕ) → at + n ≤ length l → k ≡ n → fold (λ b x. b && nat_eq x 0) true (take k (drop at l)) ≡ stands_at (replicate n 0) l at
are_zeros l at k n h e = rw e (zeros_folded n l at h true)

-- what `leaves` goes by
pub ruleset values = (array_of_part, stored_part, stored_one, number_of_octets, octets_of_number, are_zeros)

-- Pairs of hexadecimal digits. Assumes nothing.
use mathlib.Core.Path.{◌≡◌, refl}
use mathlib.Core.Bool.{true}
use mathlib.Core.List.{List, [], ◌∷◌}
use Prim.Native.Nat.{ℕ, suc, ◌+◌, ◌*◌, ◌/◌, ◌<◌, ◌≤◌}
use native.Mathlib.Numerals.{add-one}
use native.Mathlib.Omega.{arith}
use lib.ListN.{length, get_or, drop, length-drop}
use lib.Seq.{drop-cons}
use Rattle.octets.specs.Lists.{every}
use Rattle.octets.proofs.Every.{every-all}
use Rattle.script.specs.Hex.{hexdig, pair, octets}

-- two digits for each octet
pub length-octets : (t : List ℕ) → length (octets t) ≡ length t / 2
unfolding octets
length-octets [] = refl
length-octets (y ∷ []) = refl
length-octets (y ∷ z ∷ l) = omega (arith, length-octets l)

pub digit-at : (t : List ℕ) (i : ℕ) → every hexdig t ≡ true → i < length t → hexdig (get_or t i 0) ≡ true
digit-at t i e h = every-all hexdig t 0 e i h

-- the octets from an index on
pub octets-from : (t : List ℕ) (i : ℕ) → i * 2 + 1 < length t → octets (drop (i * 2) t) ≡ pair (get_or t (i * 2) 0) (get_or t (i * 2 + 1) 0) ∷ octets (drop ((i + 1) * 2) t)
unfolding octets
octets-from t i h =
    let z : (i + 1) * 2 ≡ suc (suc (i * 2)) = omega arith in
    rw (z, add-one (i * 2), drop-cons t (i * 2) 0 (omega arith), drop-cons t (suc (i * 2)) 0 (omega arith))

none_left : (l : List ℕ) → length l ≤ 1 → octets l ≡ []
unfolding octets
none_left [] h = refl
none_left (y ∷ []) h = refl
none_left (y ∷ z ∷ l) h = absurd (omega arith)

pub octets-last : (t : List ℕ) (i : ℕ) → length t / 2 ≤ i → octets (drop (i * 2) t) ≡ []
octets-last t i h = none_left (drop (i * 2) t) (simp length-drop (omega arith))

pub ruleset pairs = (length-octets, digit-at, octets-from, octets-last)

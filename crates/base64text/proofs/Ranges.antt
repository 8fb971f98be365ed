-- The alphabet as five ranges, and the loop that numbers one. Assumes nothing.
use mathlib.Core.Path.{◌≡◌, refl}
use mathlib.Core.List.{List}
use Prim.Native.Nat.{ℕ, suc, ◌+◌, ◌-◌, ◌<◌, ◌≤◌}
use native.Mathlib.Numerals.{add-one}
use native.Mathlib.Omega.{arith}
use lib.ListN.{get_or, set, replicate}
use Rattle.octets.proofs.Alphabet.{looked-up}
use Rattle.base64text.specs.Base64.{alphabet, value}
use Rattle.base64text.specs.Private.{values, number_range}

-- A-Z, a-z, 0-9, "+" and "/", numbered in a table without letters, give the RFC's table: one equation, computed at each of the 256 octets
pub five-ranges : number_range (number_range (number_range (number_range (number_range (replicate 256 64) 65 90 0) 97 122 26) 48 57 52) 43 43 62) 47 47 63 ≡ values
unfolding number_range values value alphabet
five-ranges = refl

pub ruleset ranges = (five-ranges)

-- the loop: what numbering the octets from i to high makes of a table stays the same when octet i is numbered; with i behind high it is the table itself
pub range_turn : (k : List ℕ) (i high v : ℕ) → i ≤ high → number_range k i high v ≡ number_range (set k i v) (i + 1) high (v + 1)
unfolding number_range
range_turn k i high v h =
    let e : high + 1 - i ≡ suc (high + 1 - (i + 1)) = omega arith in
    rw e (simp add-one)

pub range_end : (k : List ℕ) (i high v : ℕ) → high < i → number_range k i high v ≡ k
unfolding number_range
range_end k i high v h = let e : high + 1 - i ≡ 0 = omega arith in rw e

pub ruleset numbering = (range_turn, range_end)

-- the table of all octets looked up
pub values_at : (x : ℕ) → x < 256 → get_or values x 0 ≡ value x
unfolding values
values_at x h = looked-up value values x _ refl h refl

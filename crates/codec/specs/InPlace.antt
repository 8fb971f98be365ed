-- What stands at an index of a list of octets, tested there.
use Rattle.std.specs.Prelude.{Bool, true, ◌&&◌, List, [], ◌∷◌, ℕ, zero, suc, ◌+◌, eqb, get_or}
use Rattle.codec.specs.Codec.{Codec}

-- whether the octets vs stand in l from index `at` on
unfoldable pub stands_at : List ℕ → List ℕ → ℕ → Bool
stands_at [] l at = true
stands_at (v ∷ vs) l at = eqb v (get_or l at 0) && stands_at vs l (at + 1)

-- whether what stands there is what the value read there writes
abbrev pub canonical_at : {A : Type 0} → Codec A → List ℕ → ℕ → Bool
canonical_at a l at = stands_at (a.put (a.get l at)) l at

-- a test at n indices, k apart
unfoldable pub every_at : (ℕ → Bool) → ℕ → ℕ → ℕ → Bool
every_at p k zero at = true
every_at p k (suc n) at = p at && every_at p k n (at + k)

-- Addresses, as far as this product reads them.
use Rattle.std.specs.Prelude.{Bool, List, ℕ, ◌-◌, length}
use Rattle.std.proofs.Math.Seq.{slice}
use Rattle.octets.specs.Lists.{holds}

-- "an octet before and after some "@"": an "@" that is neither the first octet nor the last
unfoldable pub address : List ℕ → Bool
address l = holds 0x40 (slice 1 (length l - 1) l)

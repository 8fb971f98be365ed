-- How much a server holds.
use Rattle.std.specs.Prelude.{ℕ}

-- "It holds 64 places, one connection each."
abbrev pub most_connections : ℕ
most_connections = 64

-- "Add a mechanism: .. At most 8."
abbrev pub most_mechanisms : ℕ
most_mechanisms = 8

-- connection numbers and tickets have "64 bits"
abbrev pub number_bound : ℕ
number_bound = 0x10000000000000000

-- A script line of which a buffer holds the first octets.
use Rattle.std.specs.Prelude.{◌&&◌, List, [], ℕ, ◌+◌, ◌-◌, ◌%◌, length, take, drop}
use Rattle.octets.specs.Lists.{every}
use Rattle.script.specs.declared.kept.Rest.{Rest}
use Rattle.script.specs.declared.kept.Kept.{Kept}
use Rattle.script.specs.Hex.{hexdig}

-- what is kept of octets l that no buffer holds
abbrev pub beyond : List ℕ → Rest
beyond l = record { digits = every hexdig l; parity = length l % 2 }

abbrev pub none : Rest
none = beyond []

-- with octets l after them
abbrev pub extended : Rest → List ℕ → Rest
extended r l = record { digits = r.digits && every hexdig l; parity = (r.parity + length l) % 2 }

abbrev pub started : Kept
started = record { length = 0; rest = none }

-- a line with octets l after it, where the buffer has m octets
abbrev pub added : Kept → List ℕ → ℕ → Kept
added k l m = record { length = k.length + length (take (m - k.length) l); rest = extended k.rest (drop (m - k.length) l) }

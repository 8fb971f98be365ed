-- A transcript that is put together in a buffer.
use Rattle.std.specs.Prelude.{cond, List, ℕ, ◌+◌, leb, length}

-- the index after a text l that is put into a buffer of m octets from index `at` on, where it fits
abbrev pub after : ℕ → List ℕ → ℕ → ℕ
after at l m = cond (leb (at + length l) m) (at + length l) at

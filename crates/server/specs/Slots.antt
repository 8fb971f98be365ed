-- Slots found and replaced by a test.
use Rattle.std.specs.Prelude.{Bool, true, false, cond, ◌||◌, List, [], ◌∷◌, ℕ, eqb}
use Rattle.std.proofs.Math.Option.{Option, none, some}
use Rattle.session.specs.Named.{waits_on}
use Rattle.server.specs.declared.Connection.{Connection}
use Rattle.server.specs.Server.{Slot}

-- a connection that has this number; one that waits on this ticket
abbrev pub is_numbered : ℕ → Connection → Bool
is_numbered n c = eqb c.number n

abbrev pub is_waiting : ℕ → Connection → Bool
is_waiting t c = waits_on t c.session.phase

abbrev pub is_free : Slot → Bool
is_free none = true
is_free (some c) = false

-- a slot that holds such a connection
abbrev pub holding : (Connection → Bool) → Slot → Bool
holding q none = false
holding q (some c) = q c

-- "no place of the 64 is free", or one is
unfoldable pub any_free : List Slot → Bool
any_free [] = false
any_free (x ∷ xs) = is_free x || any_free xs

-- the first open connection that passes a test
unfoldable pub found : (Connection → Bool) → List Slot → Option Connection
found q [] = none
found q (none ∷ xs) = found q xs
found q (some c ∷ xs) = cond (q c) (some c) (found q xs)

-- "The lowest free place is taken": another slot in place of the first one that passes a test
unfoldable pub replaced : (Slot → Bool) → Slot → List Slot → List Slot
replaced p y [] = []
replaced p y (x ∷ xs) = cond (p x) (y ∷ xs) (x ∷ replaced p y xs)

-- "Close: clears the place and voids its ticket." Refusals: 20; 2.
use Rattle.std.proofs.Math.Option.{Option, none, some}
use Rattle.std.specs.Prelude.{ℕ}
use Rattle.profile.specs.declared.numbers.Refusal.TheVariants.{NoConnection}
use Rattle.server.specs.declared.Connection.{Connection}
use Rattle.server.specs.Outcome.{Outcome, refuses, gives, done}
use Rattle.server.specs.Server.{Server, with_slots}
use Rattle.server.specs.Slots.{is_numbered, holding, found, replaced}

-- the slot is free, and with the connection its ticket is gone
abbrev pub close_leaves : Server → Connection → Server
close_leaves s c = with_slots s (replaced (holding (is_numbered c.number)) none s.slots)

abbrev pub close_found : Server → Option Connection → Outcome
close_found s none = refuses NoConnection
close_found s (some c) = gives done (close_leaves s c)

unfoldable pub on_close : Server → ℕ → Outcome
on_close s n = close_found s (found (is_numbered n) s.slots)

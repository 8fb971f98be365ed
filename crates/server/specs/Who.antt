-- "Who: signed in or not, and the name." Refusals: 1; 20; 2.
use Rattle.std.proofs.Math.Option.{Option, none, some}
use Rattle.std.specs.Prelude.{ℕ}
use Rattle.profile.specs.declared.numbers.Refusal.TheVariants.{NoConnection}
use Rattle.session.specs.Named.{bears}
use Rattle.server.specs.declared.Connection.{Connection}
use Rattle.server.specs.Outcome.{Outcome, refuses, gives, borne}
use Rattle.server.specs.Server.{Server}
use Rattle.server.specs.Slots.{is_numbered, found}

abbrev pub who_found : Server → Option Connection → Outcome
who_found s none = refuses NoConnection
who_found s (some c) = gives (borne (bears c.session)) s

unfoldable pub on_who : Server → ℕ → Outcome
on_who s n = who_found s (found (is_numbered n) s.slots)

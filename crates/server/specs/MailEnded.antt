-- "Mail ended, for a connection: clears the transaction; with none open it changes nothing." Refusals: 20; 2.
use Rattle.std.proofs.Math.Option.{Option, none, some}
use Rattle.std.specs.Prelude.{ℕ}
use Rattle.profile.specs.declared.numbers.Refusal.TheVariants.{NoConnection}
use Rattle.session.specs.MailEnded.{after_mail}
use Rattle.server.specs.declared.Connection.{Connection}
use Rattle.server.specs.Outcome.{Outcome, refuses, gives, done}
use Rattle.server.specs.Server.{Server, with_slots}
use Rattle.server.specs.Slots.{is_numbered, holding, found, replaced}

abbrev pub mail_leaves : Server → Connection → Server
mail_leaves s c =
    with_slots s (replaced (holding (is_numbered c.number)) (some (record { session = after_mail c.session; number = c.number })) s.slots)

abbrev pub mail_found : Server → Option Connection → Outcome
mail_found s none = refuses NoConnection
mail_found s (some c) = gives done (mail_leaves s c)

unfoldable pub on_mail_ended : Server → ℕ → Outcome
on_mail_ended s n = mail_found s (found (is_numbered n) s.slots)

-- "Verdict, for a ticket, gives a reply." Refusals: 1; 20; 4; 5.
use Rattle.std.specs.Prelude as Rust
use Rattle.std.specs.Prelude.{Ok, Err}
use Rattle.std.specs.Prelude.{List, [], ℕ}
use Rattle.std.proofs.Math.Option.{Option, none, some}
use Rattle.profile.specs.Numbers.{verdict_of}
use Rattle.profile.specs.declared.numbers.Verdict.{Verdict}
use Rattle.profile.specs.declared.numbers.Refusal.{Refusal}
use Rattle.profile.specs.declared.numbers.Refusal.TheVariants.{NoTicket, NotListed}
use Rattle.session.specs.Answer.{heard}
use Rattle.session.specs.Verdict.{after_verdict}
use Rattle.session.specs.declared.Stepped.{Stepped}
use Rattle.server.specs.declared.Connection.{Connection}
use Rattle.server.specs.Line.{with_session}
use Rattle.server.specs.Outcome.{Result, Outcome, refuses, answered, settled}
use Rattle.server.specs.Server.{Server}
use Rattle.server.specs.Slots.{is_waiting, holding, found}

-- d: the verdict's data
abbrev pub verdict_gives : Connection → List ℕ → Stepped → Result
verdict_gives c d x = answered x.answer (heard c.session.profile d x.answer) []

-- t: the ticket
abbrev pub verdict_leaves : Server → Connection → ℕ → Stepped → Server
verdict_leaves s c t x = with_session s (holding (is_waiting t)) c x

abbrev pub judged : Server → Connection → ℕ → List ℕ → Stepped → Outcome
judged s c t d x = settled x.answer (verdict_gives c d x) (verdict_leaves s c t x)

-- 5: "profile or verdict is not one listed here"
abbrev pub verdict_listed : Server → Connection → ℕ → List ℕ → Rust.Result Verdict Refusal → Outcome
verdict_listed s c t d (Err r) = refuses NotListed
verdict_listed s c t d (Ok v) = judged s c t d (after_verdict c.session t v d)

-- 4: "no open connection waits on this ticket"
abbrev pub verdict_found : Server → ℕ → Rust.Result Verdict Refusal → List ℕ → Option Connection → Outcome
verdict_found s t v d none = refuses NoTicket
verdict_found s t v d (some c) = verdict_listed s c t d v

unfoldable pub on_verdict : Server → ℕ → ℕ → List ℕ → Outcome
on_verdict s t v d = verdict_found s t (verdict_of v) d (found (is_waiting t) s.slots)

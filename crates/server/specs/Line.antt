-- "Line, for a connection, gives one of: passed on; a question (..); a reply." Refusals: 1; 20; 2; 3; 7.
--
-- The session's step takes a view of the line, which holds no octet of a response. The octets of a query, which only the password service may
-- see, stand beside the outcome (`response_on`).
use Rattle.std.specs.Prelude.{Bool, true, false, cond, List, [], ℕ, ◌+◌}
use Rattle.std.proofs.Math.Option.{Option, none, some}
use Rattle.lines.specs.Mechanism.{padded}
use Rattle.profile.specs.declared.numbers.Refusal.TheVariants.{NoConnection}
use Rattle.session.specs.Answer.{heard}
use Rattle.session.specs.Line.{after_line}
use Rattle.session.specs.Octets.{mechanism_text, query_octets, relay_octets}
pub use Rattle.session.specs.Relayed.{is_address}
use Rattle.session.specs.View.{view}
use Rattle.session.specs.declared.Stepped.{Stepped}
use Rattle.session.specs.declared.answer.Answer.{Answer}
use Rattle.session.specs.declared.answer.Answer.TheVariants as Answers
use Rattle.server.specs.declared.Connection.{Connection}
use Rattle.server.specs.declared.Header.{Header}
use Rattle.server.specs.Mechanisms.{offered}
use Rattle.server.specs.Outcome.{Result, Outcome, refuses, answered, settled}
use Rattle.server.specs.Server.{Slot, Server}
use Rattle.server.specs.Slots.{is_numbered, holding, found, replaced}

-- a query, and the address of a MAIL, are what an answer hands on
abbrev pub is_query : Answer → Bool
is_query (Answers.Refused r) = false
is_query (Answers.Forward i n) = false
is_query (Answers.Query t b n) = true
is_query (Answers.Reply e) = false
is_query Answers.EmptyChallenge = false
is_query Answers.Challenge = false

abbrev pub relays_address : Answer → Bool
relays_address (Answers.Refused r) = false
relays_address (Answers.Forward i n) = is_address i
relays_address (Answers.Query t b n) = false
relays_address (Answers.Reply e) = false
relays_address Answers.EmptyChallenge = false
relays_address Answers.Challenge = false

-- "Each issue takes the next number"
abbrev pub issues : Answer → Header → Header
issues a h = record { connection = h.connection; ticket = cond (is_query a) (h.ticket + 1) h.ticket; sealed = h.sealed }

-- the connection that was found takes its next session
abbrev pub with_session : Server → (Slot → Bool) → Connection → Stepped → Server
with_session s p c t =
    record {
      header = issues t.answer s.header;
      mechanisms = s.mechanisms;
      slots = replaced p (some (record { session = t.session; number = c.number })) s.slots;
    }

-- the connection's step: it is handed what the session sees of the line, and what the server has of the mechanism that the line names
abbrev pub line_step : Server → Connection → List ℕ → Stepped
line_step s c l =
    after_line c.session (view c.session l) (offered s.mechanisms (padded (mechanism_text (view c.session l) l))) s.header.ticket

-- "Only the last is put in the answer buffer": the decoded address of a MAIL
abbrev pub line_gives : Connection → List ℕ → Stepped → Result
line_gives c l t =
    answered t.answer (heard c.session.profile [] t.answer) (cond (relays_address t.answer) (relay_octets (view c.session l) l) [])

abbrev pub line_leaves : Server → Connection → List ℕ → Server
line_leaves s c l = with_session s (holding (is_numbered c.number)) c (line_step s c l)

-- 2: "no open connection has this number"
abbrev pub line_found : Server → List ℕ → Option Connection → Outcome
line_found s l none = refuses NoConnection
line_found s l (some c) = settled (line_step s c l).answer (line_gives c l (line_step s c l)) (line_leaves s c l)

-- n: the connection's number
unfoldable pub on_line : Server → ℕ → List ℕ → Outcome
on_line s n l = line_found s l (found (is_numbered n) s.slots)

-- the octets of the response that a line has, for the password service
abbrev pub response_found : List ℕ → Option Connection → List ℕ
response_found l none = []
response_found l (some c) = query_octets (view c.session l) l

unfoldable pub response_on : Server → ℕ → List ℕ → List ℕ
response_on s n l = response_found l (found (is_numbered n) s.slots)

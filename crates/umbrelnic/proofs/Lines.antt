-- A line, exit by exit. Assumes nothing.
use Rattle.std.specs.Prelude.{Result, Ok, Err}
use Rattle.std.specs.Prelude as Rust
use Rattle.std.specs.Prelude.{Some, None}
use mathlib.Core.Path.{◌≡◌, refl, sym, ap, ◌∙◌}
use mathlib.Core.Bool.{true, false, cond, not, ◌&&◌, false≢true}
use mathlib.Core.List.{List, []}
use mathlib.Core.Option.{Option}
use Prim.Native.Nat.{ℕ, ◌≤◌}
use native.Mathlib.Omega.{arith}
use borrow.Author.Tests.{eqb-true, leb-true, not-false}
use lib.Dec.{eqb, leb}
use lib.ListN.{length}
use Rattle.octets.specs.Answers.{written}
use Rattle.octets.proofs.Cases.{both}
use Rattle.base64text.specs.Base64 as Base64
use Rattle.lines.specs.Mechanism.{padded}
use Rattle.profile.specs.declared.numbers.Refusal.{Refusal}
use Rattle.profile.specs.declared.numbers.Refusal.TheVariants as Refusals
use Rattle.session.specs.Answer.{heard, numbers}
use Rattle.session.specs.Limits.{reply_buffer, unissued}
use Rattle.session.specs.Line.{after_line}
use Rattle.session.specs.Measures.{Measures}
use Rattle.session.specs.Octets.{mechanism_text, response_text, query_octets, relay_octets}
use Rattle.session.specs.Standing.{is_refused}
use Rattle.session.specs.View.{view}
use Rattle.session.specs.declared.Stepped.{Stepped}
use Rattle.session.specs.declared.answer.Answer.{Answer}
use Rattle.session.specs.declared.answer.Answer.TheVariants as Answers
use Rattle.session.specs.declared.view.View.{View}
use Rattle.session.proofs.Laws.{line-measures, line-heard-fits}
use Rattle.server.specs.Line.{is_query, relays_address, with_session, line_step, line_found, on_line, response_found, response_on}
use Rattle.server.specs.Mechanisms.{listed, offered}
use Rattle.server.specs.Outcome.{Outcome, answered, settled}
use Rattle.server.specs.Requests as Requests
use Rattle.server.specs.Requests.{on}
use Rattle.server.specs.Server.{Server}
use Rattle.server.specs.Slots.{is_numbered, holding, found}
use Rattle.server.specs.declared.Connection.{Connection}
use Rattle.server.proofs.Issues.{Issues, line-issues}
use Rattle.image.specs.Image.{Image}
use Rattle.image.specs.InPlace.{is_taken, read_server, header_read, mechanisms_read, connection_read, slot_found}
use Rattle.image.proofs.Laws.{taken_own, own-size, header_read_lem, mechanisms-read, connection-found, connection-passes}
use Rattle.calls.specs.Call as Call
use Rattle.calls.specs.Call.{is_short}
use Rattle.calls.specs.Step.{lent, out_of, step, response_lent}
use Rattle.umbrelnic.specs.Given.{line_numbers}
use Rattle.umbrelnic.specs.Private.{placed, kept_in, issued_in, handed_in, LineDone}
use Rattle.umbrelnic.proofs.Exits.{refused_out, step-on, step-refused}
use Rattle.umbrelnic.proofs.Settles.{Settled, settles, keeps-issued, hands}

-- buffers that are not short have room
pub room : (m n x y : ℕ) → not (leb m x && leb n y) ≡ false → (m ≤ x) × (n ≤ y)
room m n x y e = let b = both (leb m x) (leb n y) (not-false (leb m x && leb n y) e) in (leb-true m x b.0, leb-true n y b.1)

-- what the code computes of the connection in slot i
abbrev pub viewed : Image → ℕ → List ℕ → View
viewed l i x = view (connection_read l i).session x

abbrev pub stepped : Image → ℕ → List ℕ → Stepped
stepped l i x =
    after_line (connection_read l i).session (viewed l i x) (offered (listed (mechanisms_read l)) (padded (mechanism_text (viewed l i x) x))) (header_read l).ticket

-- a query is issued under a ticket that may be issued
asked : (t : ℕ) (a : Answer) → Issues t a → is_query a ≡ true → eqb t unissued ≡ false
asked t (Answers.Refused r) m e = absurd (false≢true e)
asked t (Answers.Forward i n) m e = absurd (false≢true e)
asked t (Answers.Query u b n) m e = ap (λ (k : ℕ). eqb k unissued) (sym m.0) ∙ m.1
asked t (Answers.Reply r) m e = absurd (false≢true e)
asked t Answers.EmptyChallenge m e = absurd (false≢true e)
asked t Answers.Challenge m e = absurd (false≢true e)

-- and its response is base64
responds : (v : View) (x : List ℕ) (t : ℕ) (a : Answer) → Measures v x t a → is_query a ≡ true → Base64.valid (response_text v x) ≡ true
responds v x t (Answers.Refused r) m e = absurd (false≢true e)
responds v x t (Answers.Forward i n) m e = absurd (false≢true e)
responds v x t (Answers.Query u b n) m e = m.valid
responds v x t (Answers.Reply r) m e = absurd (false≢true e)
responds v x t Answers.EmptyChallenge m e = absurd (false≢true e)
responds v x t Answers.Challenge m e = absurd (false≢true e)

-- nothing is relayed where a step refuses
unrelayed : (a : Answer) (x : List ℕ) → is_refused a ≡ true → cond (relays_address a) x [] ≡ []
unrelayed (Answers.Refused r) x e = refl
unrelayed (Answers.Forward i n) x e = absurd (false≢true e)
unrelayed (Answers.Query u b n) x e = refl
unrelayed (Answers.Reply r) x e = refl
unrelayed Answers.EmptyChallenge x e = refl
unrelayed Answers.Challenge x e = refl

pub line_refused : (l : Image) (n : ℕ) (x reply answer : List ℕ) → is_short (Call.line n x reply answer) ≡ false → (j : Refusal)
    → Err j ≡ placed Refusals.NoConnection (holding (is_numbered n)) l → step l (Call.line n x reply answer) ≡ refused_out l j
unfolding on on_line
line_refused l n x reply answer long = step-refused l (Call.line n x reply answer) Refusals.NoConnection (is_numbered n) long refl (λ s e. ap (line_found s x) e)

module _ (l : Image) (n : ℕ) (x reply answer : List ℕ) (t : is_taken l ≡ true) (long : is_short (Call.line n x reply answer) ≡ false) where
  line_on : step l (Call.line n x reply answer) ≡ out_of l (Requests.line n x) (line_found (read_server l) x (found (is_numbered n) (read_server l).slots))
  unfolding on on_line
  line_on = step-on l (Call.line n x reply answer) (read_server l) long (taken_own l t).0

  module _ (i : ℕ) (e : slot_found (holding (is_numbered n)) l ≡ Some i) where
    numbered : (connection_read l i).number ≡ n
    numbered = eqb-true (connection_read l i).number n (connection-passes (is_numbered n) l i e)

    same_step : line_step (read_server l) (connection_read l i) x ≡ stepped l i x
    same_step = rw (header_read_lem l (own-size l t), mechanisms-read l (own-size l t))

    abbrev given : Answer
    given = (stepped l i x).answer

    abbrev relayed : List ℕ
    relayed = cond (relays_address given) (relay_octets (viewed l i x) x) []

    abbrev left : Server
    left = with_session (read_server l) (holding (is_numbered n)) (connection_read l i) (stepped l i x)

    abbrev come : Outcome
    come = settled given (answered given (heard (connection_read l i).session.profile [] given) relayed) left

    comes : step l (Call.line n x reply answer) ≡ out_of l (Requests.line n x) come
    comes =
        line_on
        ∙ ap (λ (c : Option Connection). out_of l (Requests.line n x) (line_found (read_server l) x c)) (connection-found (is_numbered n) l i e)
        ∙ ap
        (λ (s : Stepped). out_of l (Requests.line n x)
        (settled s.answer
        (answered s.answer (heard (connection_read l i).session.profile [] s.answer) (cond (relays_address s.answer) (relay_octets (viewed l i x) x) []))
        (with_session (read_server l) (holding (is_numbered (connection_read l i).number)) (connection_read l i) s)))
        same_step
        ∙ ap (λ (k : ℕ). out_of l (Requests.line n x) (settled given (answered given (heard (connection_read l i).session.profile [] given) relayed) (with_session (read_server l) (holding (is_numbered k)) (connection_read l i) (stepped l i x)))) numbered

    parts : Settled l given (heard (connection_read l i).session.profile [] given) relayed left
    parts = settles l given (connection_read l i).session.profile [] relayed left (unrelayed given (relay_octets (viewed l i x) x))

    response : response_lent (lent l (Requests.line n x)) (Requests.line n x) ≡ query_octets (viewed l i x) x
    unfolding response_on
    response = ap (λ (o : Option Server). response_lent o (Requests.line n x)) (taken_own l t).0 ∙ ap (response_found x) (connection-found (is_numbered n) l i e)

    hands-over : (out_of l (Requests.line n x) come).handed ≡ cond (is_query given) (query_octets (viewed l i x) x) relayed
    hands-over = rw (parts.queries, parts.relays, response)

    pub line-issued : is_query given ≡ true → eqb (header_read l).ticket unissued ≡ false
    line-issued = asked (header_read l).ticket given (line-issues x (connection_read l i).session (offered (listed (mechanisms_read l)) (padded (mechanism_text (viewed l i x) x))) (header_read l).ticket)

    measures : Measures (viewed l i x) x (header_read l).ticket given
    measures = line-measures x (connection_read l i).session (offered (listed (mechanisms_read l)) (padded (mechanism_text (viewed l i x) x))) (header_read l).ticket

    pub line_responds : is_query given ≡ true → Base64.valid (response_text (viewed l i x) x) ≡ true
    line_responds = responds (viewed l i x) x (header_read l).ticket given measures

    pub line-room : length (heard (connection_read l i).session.profile [] given) ≤ length reply
    line-room = let f = (room reply_buffer _ (length reply) (length answer) long).0 in omega (arith, line-heard-fits (connection_read l i).session.profile given)

    pub line-done : LineDone l n x reply answer (line_numbers (numbers given (length (heard (connection_read l i).session.profile [] given))))
        (issued_in (kept_in l i n (stepped l i x)) (header_read l) given) (written reply 0 (heard (connection_read l i).session.profile [] given)) (handed_in given (viewed l i x) x answer)
    line-done =
        record {
          given = rw comes (ap line_numbers (sym parts.gives));
          image =
              rw comes
              (ap (λ (k : ℕ). issued_in (kept_in l i k (stepped l i x)) (header_read l) given) (sym numbered)
              ∙ keeps-issued l t (holding (is_numbered n)) i e (connection_read l i) (stepped l i x).session given
              ∙ sym parts.leaves);
          heard = rw comes (ap (λ (h : List ℕ). written reply 0 h) (sym parts.hears));
          handed =
              rw comes
              (hands (viewed l i x) x answer (header_read l).ticket given measures
              ∙ ap (λ (h : List ℕ). written answer 0 h) (sym hands-over));
        }

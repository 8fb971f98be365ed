-- A verdict, exit by exit. Assumes nothing.
use Rattle.std.specs.Prelude.{Result, Ok, Err}
use Rattle.std.specs.Prelude.{Option, Some, None}
use Rattle.std.specs.Prelude.{Result, Ok, Err}
use mathlib.Core.Path.{◌≡◌, refl, sym, ap, ◌∙◌}
use mathlib.Core.Bool.{true, false, false≢true}
use mathlib.Core.List.{List, []}
use mathlib.Core.Option.{some}
use Prim.Native.Nat.{ℕ, ◌≤◌}
use native.Mathlib.Omega.{arith}
use lib.ListN.{length}
use Rattle.octets.specs.Answers.{written}
use Rattle.profile.specs.Numbers.{verdict_of}
use Rattle.profile.specs.declared.numbers.Refusal.{Refusal}
use Rattle.profile.specs.declared.numbers.Refusal.TheVariants as Refusals
use Rattle.profile.specs.declared.numbers.Verdict.{Verdict}
use Rattle.session.specs.Answer.{heard, numbers}
use Rattle.session.specs.Limits.{reply_buffer}
use Rattle.session.specs.Standing.{is_heard, is_refused}
use Rattle.session.specs.Verdict.{after_verdict}
use Rattle.session.specs.declared.Stepped.{Stepped}
use Rattle.session.specs.declared.answer.Answer.{Answer}
use Rattle.session.specs.declared.answer.Answer.TheVariants as Answers
use Rattle.session.proofs.Laws.{verdict-heard-fits}
use Rattle.server.specs.Line.{is_query, with_session}
use Rattle.server.specs.Outcome.{refuses}
use Rattle.server.specs.Requests as Requests
use Rattle.server.specs.Requests.{on}
use Rattle.server.specs.Slots.{is_waiting, holding}
use Rattle.server.specs.Verdict.{verdict_found, on_verdict}
use Rattle.server.proofs.Issues.{verdict-heard-one}
use Rattle.image.specs.Image.{Image}
use Rattle.image.specs.InPlace.{is_taken, read_server, connection_read, slot_found}
use Rattle.image.proofs.Laws.{taken_own, connection-found}
use Rattle.calls.specs.Call as Call
use Rattle.calls.specs.Call.{is_short}
use Rattle.calls.specs.Step.{out_of, step, result_in, is_queried, relayed_in}
use Rattle.umbrelnic.specs.Given.{said_numbers}
use Rattle.umbrelnic.specs.Private.{placed, kept_in, judgement, Judged}
use Rattle.umbrelnic.proofs.Exits.{refused_out, step-on, step-refused}
use Rattle.umbrelnic.proofs.Settles.{Settled, settles, keeps}

-- a verdict asks nothing
unasked : (a : Answer) → (is_refused a ≡ false → is_heard a ≡ true) → is_query a ≡ false
unasked (Answers.Refused r) h = refl
unasked (Answers.Forward i n) h = refl
unasked (Answers.Query u b n) h = absurd (false≢true (h refl))
unasked (Answers.Reply r) h = refl
unasked Answers.EmptyChallenge h = refl
unasked Answers.Challenge h = refl

-- ---- a verdict on the ticket that the connection in slot i waits on

module _ (l : Image) (t : ℕ) (d reply : List ℕ) (k : is_taken l ≡ true) (i : ℕ) (e : slot_found (holding (is_waiting t)) l ≡ Some i) where
  abbrev judged_as : Verdict → Stepped
  judged_as v = after_verdict (connection_read l i).session t v d

  judged-found : (v : Result Verdict Refusal) → judgement l t v d ≡ verdict_found (read_server l) t v d (some (connection_read l i))
  judged-found v = ap (verdict_found (read_server l) t v d) (connection-found (is_waiting t) l i e)

  parts : (v : Verdict) → Settled l (judged_as v).answer (heard (connection_read l i).session.profile d (judged_as v).answer) []
      (with_session (read_server l) (holding (is_waiting t)) (connection_read l i) (judged_as v))
  parts v =
      settles l (judged_as v).answer (connection_read l i).session.profile d [] (with_session (read_server l) (holding (is_waiting t)) (connection_read l i) (judged_as v)) (λ h. refl)

  pub verdict-room : (v : Verdict) → reply_buffer ≤ length reply → length (heard (connection_read l i).session.profile d (judged_as v).answer) ≤ length reply
  verdict-room v f = omega (arith, verdict-heard-fits (connection_read l i).session.profile (connection_read l i).session t v d)

  pub verdict-done : (v : Verdict) → Judged l t (Ok v) d reply
      (said_numbers (numbers (judged_as v).answer (length (heard (connection_read l i).session.profile d (judged_as v).answer))))
      (kept_in l i (connection_read l i).number (judged_as v))
      (written reply 0 (heard (connection_read l i).session.profile d (judged_as v).answer))
  verdict-done v =
      record {
        given = rw (judged-found (Ok v)) (ap said_numbers (sym (parts v).gives));
        image =
            rw (judged-found (Ok v))
            (keeps l k (holding (is_waiting t)) i e (connection_read l i) (judged_as v).session (judged_as v).answer
            (unasked (judged_as v).answer (verdict-heard-one (connection_read l i).session t v d))
            ∙ sym (parts v).leaves);
        heard = rw (judged-found (Ok v)) (ap (λ (h : List ℕ). written reply 0 h) (sym (parts v).hears));
      }

  pub verdict-unlisted : (r : Refusal) → judgement l t (Err r) d ≡ refuses Refusals.NotListed
  verdict-unlisted r = judged-found (Err r)

  -- nothing is handed over with a verdict
  relays : (v : Result Verdict Refusal) → relayed_in (result_in (judgement l t v d)) ≡ []
  relays (Err r) = rw (verdict-unlisted r)
  relays (Ok v) = rw (judged-found (Ok v)) (parts v).relays

  queries : (v : Result Verdict Refusal) → is_queried (result_in (judgement l t v d)) ≡ false
  queries (Err r) = rw (verdict-unlisted r)
  queries (Ok v) = rw (judged-found (Ok v)) ((parts v).queries ∙ unasked (judged_as v).answer (verdict-heard-one (connection_read l i).session t v d))

  pub nothing-handed : (v : Result Verdict Refusal) (n : ℕ) → (out_of l (Requests.verdict t n d) (judgement l t v d)).handed ≡ []
  nothing-handed v n = rw (queries v) (relays v)

-- ---- the whole call

module _ (l : Image) (t n : ℕ) (d reply answer : List ℕ) (k : is_taken l ≡ true) (long : is_short (Call.verdict t n d reply answer) ≡ false) where
  pub verdict-on : step l (Call.verdict t n d reply answer) ≡ out_of l (Requests.verdict t n d) (judgement l t (verdict_of n) d)
  unfolding on on_verdict
  verdict-on = step-on l (Call.verdict t n d reply answer) (read_server l) long (taken_own l k).0

pub verdict-refused : (l : Image) (t n : ℕ) (d reply answer : List ℕ) → is_short (Call.verdict t n d reply answer) ≡ false → (j : Refusal)
    → Err j ≡ placed Refusals.NoTicket (holding (is_waiting t)) l → step l (Call.verdict t n d reply answer) ≡ refused_out l j
unfolding on on_verdict
verdict-refused l t n d reply answer long =
    step-refused l (Call.verdict t n d reply answer) Refusals.NoTicket (is_waiting t) long refl (λ s e. ap (verdict_found s t (verdict_of n) d) e)

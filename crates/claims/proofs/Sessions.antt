-- Every open connection is stepped by the rules of its session. Assumes nothing.
use Rattle.std.specs.Prelude as Rust
use Rattle.std.specs.Prelude.{Ok, Err}
use mathlib.Core.Path.{◌≡◌, refl, sym, ap, ◌∙◌}
use mathlib.Core.Bool.{Bool, false, cond, true≢false}
use mathlib.Core.Option.{none, some}
use Prim.Native.Nat.{ℕ}
use lib.Dec.{eqb}
use borrow.Author.Tests.{eq-eqb}
use Rattle.profile.specs.Numbers.{verdict_of}
use Rattle.profile.specs.declared.numbers.Verdict.{Verdict}
use Rattle.profile.specs.declared.numbers.Refusal.{Refusal}
use Rattle.session.specs.MailEnded.{after_mail}
use Rattle.session.specs.Standing.{is_refused}
use Rattle.session.specs.Verdict.{after_verdict}
use Rattle.session.specs.declared.Stepped.{Stepped}
use Rattle.session.specs.declared.answer.Answer.{Answer}
use Rattle.session.specs.declared.answer.Answer.TheVariants as Answers
use Rattle.server.specs.Close.{close_leaves, close_found, on_close}
use Rattle.server.specs.Line.{with_session, line_step, line_gives, line_found, on_line}
use Rattle.server.specs.MailEnded.{mail_leaves, mail_found, on_mail_ended}
use Rattle.server.specs.Outcome.{Result, refused, done, gives, settled}
use Rattle.server.specs.Requests.{Sized, on}
use Rattle.server.specs.Server.{Server}
use Rattle.server.specs.Slots.{is_numbered, is_waiting, holding, found, replaced}
use Rattle.server.specs.Verdict.{verdict_gives, verdict_found, on_verdict}
use Rattle.server.specs.Who.{who_found, on_who}
use Rattle.server.specs.declared.Connection.{Connection}
use Rattle.server.proofs.Kept.{parts}
use Rattle.server.proofs.Slots.{found_waits, found_number, found-waiting, find-ticket, find-close}
use Rattle.image.specs.Image.{Image, taken}
use Rattle.image.proofs.Taken.{taken-within}
use Rattle.calls.specs.Call as Calls
use Rattle.calls.specs.Call.{Call, request}
use Rattle.calls.specs.Step.{outcome, result_in, step}
use Rattle.claims.specs.Sessions.{numbered, Steps, LineSteps, VerdictSteps, MailSteps, WhoTells, CloseEnds, SessionsStepped}
use Rattle.claims.specs.Told.{connection_at}
use Rattle.claims.proofs.Follows.{find-own}
use Rattle.claims.proofs.Others.{has-taken}
use Rattle.claims.proofs.Served.{outcome-plain}
use Rattle.claims.proofs.Taken.{given-taken}

-- ---- a step that is settled

settled-refused : (a : Answer) (r : Result) (z : Server) (k : Refusal) → a ≡ Answers.Refused k → result_in (settled a r z) ≡ refused k
settled-refused a r z k e = ap (λ (x : Answer). result_in (settled x r z)) e

settled-given : (a : Answer) (r : Result) (z : Server) → is_refused a ≡ false → settled a r z ≡ gives r z
settled-given (Answers.Refused k) r z e = absurd (true≢false e)
settled-given (Answers.Forward i n) r z e = refl
settled-given (Answers.Query t b n) r z e = refl
settled-given (Answers.Reply x) r z e = refl
settled-given Answers.EmptyChallenge r z e = refl
settled-given Answers.Challenge r z e = refl

-- a call that comes to a settled step
module _ (i : Image) (c : Call) (p : Sized (request c)) (n : ℕ) (t : Stepped) (r : Result) (z : Server) (o : outcome i c ≡ settled t.answer r z)
    (f : found (is_numbered n) z.slots ≡ some (numbered n t.session)) where
  steps : Steps n t r (step i c)
  unfolding step
  steps =
      record {
        refuses = λ k e. ap result_in o ∙ settled-refused t.answer r z k e;
        gives = λ e. ap result_in (o ∙ settled-given t.answer r z e);
        session = λ e. has-taken (step i c).image z n (given-taken i c r z p (o ∙ settled-given t.answer r z e)) ∙ f;
      }

-- a call that is done
module _ (i : Image) (c : Call) (p : Sized (request c)) (n : ℕ) (z : Server) (o : outcome i c ≡ gives done z) where
  done-result : (step i c).result ≡ done
  unfolding step
  done-result = ap result_in o

  done-left : connection_at (step i c).image n ≡ found (is_numbered n) z.slots
  done-left = has-taken (step i c).image z n (given-taken i c done z p o)

-- ---- each call

module _ (i : Image) (s : Server) (t : taken i ≡ some s) (n : ℕ) (c : Connection) (e : connection_at i n ≡ some c) where
  own : found (is_numbered n) s.slots ≡ some c
  own = sym (has-taken i s n t) ∙ e

  number : c.number ≡ n
  number = found_number n c s.slots own

  -- the connection with another session
  renewed : (x : Stepped) → ◌≡◌ {A = Connection} (record { session = x.session; number = c.number }) (numbered n x.session)
  renewed x = ap (λ (k : ℕ). numbered k x.session) number

  itself : (y : Connection) → cond (eqb n n) (some y) (found (is_numbered n) s.slots) ≡ some y
  itself y = rw (eq-eqb n n refl)

  line-steps : LineSteps i s n c
  line-steps l r a h =
      steps i (Calls.line n l r a) tt n (line_step s c l) (line_gives c l (line_step s c l)) (with_session s (holding (is_numbered c.number)) c (line_step s c l))
      (outcome-plain i s t (Calls.line n l r a) (refl, h) ∙ (unfold on on_line in ap (line_found s l) own))
      (find-own n n (record { session = (line_step s c l).session; number = c.number }) c s.slots own refl
      ∙ itself (record { session = (line_step s c l).session; number = c.number })
      ∙ ap some (renewed (line_step s c l)))

  verdict-steps : VerdictSteps i s n c
  verdict-steps u k v d r a h g w =
      let x = after_verdict c.session u v d in
      let y : Connection = record { session = x.session; number = c.number } in
      let q = found-waiting u (is_numbered n) c s.slots own w (parts s (taken-within i s t)).tickets in
      steps i (Calls.verdict u k d r a) tt n x (verdict_gives c d x) (with_session s (holding (is_waiting u)) c x)
      (outcome-plain i s t (Calls.verdict u k d r a) (refl, h)
      ∙ (unfold on on_verdict in ap (verdict_found s u (verdict_of k) d) q ∙ ap (λ (j : Rust.Result Verdict Refusal). verdict_found s u j d (some c)) g))
      (find-ticket u n y c s.slots q refl (parts s (taken-within i s t)).tickets
      ∙ ap (λ (b : Bool). cond b (some y) (found (is_numbered n) s.slots)) (ap (found_waits u) own ∙ w)
      ∙ ap some (renewed x))

  mail-outcome : outcome i (Calls.mail_ended n) ≡ gives done (mail_leaves s c)
  unfolding on on_mail_ended
  mail-outcome = outcome-plain i s t (Calls.mail_ended n) (refl, refl) ∙ ap (mail_found s) own

  mail-steps : MailSteps i s n c
  mail-steps =
      let y : Connection = record { session = after_mail c.session; number = c.number } in (
        done-result i (Calls.mail_ended n) tt n (mail_leaves s c) mail-outcome,
        done-left i (Calls.mail_ended n) tt n (mail_leaves s c) mail-outcome
            ∙ find-own n n y c s.slots own refl
            ∙ itself y
            ∙ ap (λ (k : ℕ). some (numbered k (after_mail c.session))) number,
      )

  who-tells : WhoTells i s n c
  unfolding step on on_who
  who-tells b h = ap result_in (outcome-plain i s t (Calls.who n b) (refl, h) ∙ ap (who_found s) own)

  close-outcome : outcome i (Calls.close n) ≡ gives done (close_leaves s c)
  unfolding on on_close
  close-outcome = outcome-plain i s t (Calls.close n) (refl, refl) ∙ ap (close_found s) own

  close-ends : CloseEnds i s n c
  close-ends = (
    done-result i (Calls.close n) tt n (close_leaves s c) close-outcome,
    done-left i (Calls.close n) tt n (close_leaves s c) close-outcome
        ∙ ap (λ (k : ℕ). found (is_numbered n) (replaced (holding (is_numbered k)) none s.slots)) number
        ∙ find-close n n c s.slots own (parts s (taken-within i s t)).numbers
        ∙ ap (λ (b : Bool). cond b none (found (is_numbered n) s.slots)) (eq-eqb n n refl),
  )

pub sessions_stepped : SessionsStepped
sessions_stepped i s t n c e =
    record {
      line = line-steps i s t n c e;
      verdict = verdict-steps i s t n c e;
      mail_ended = mail-steps i s t n c e;
      who = who-tells i s t n c e;
      close = close-ends i s t n c e;
    }

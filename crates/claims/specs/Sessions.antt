-- "sessions stepped": what a call comes to for an open connection of an image that is taken, whichever slot holds it. The rules themselves are
-- those of crate session.
use Rattle.std.specs.Prelude as Rust
use Rattle.std.specs.Prelude.{Ok, Err}
use Rattle.std.specs.Prelude.{◌≡◌, true, false, List, ℕ}
use Rattle.std.proofs.Math.Option.{none, some}
use Rattle.profile.specs.Numbers.{verdict_of}
use Rattle.profile.specs.declared.numbers.Refusal.{Refusal}
use Rattle.profile.specs.declared.numbers.Verdict.{Verdict}
use Rattle.session.specs.MailEnded.{after_mail}
use Rattle.session.specs.Named.{bears}
use Rattle.session.specs.Standing.{is_refused}
use Rattle.session.specs.Verdict.{after_verdict}
use Rattle.session.specs.declared.Session.{Session}
use Rattle.session.specs.declared.Stepped.{Stepped}
use Rattle.session.specs.declared.answer.Answer.TheVariants.{Refused}
use Rattle.server.specs.Line.{line_step, line_gives}
use Rattle.server.specs.Outcome.{Result, refused, done, borne}
use Rattle.server.specs.Server.{Server}
use Rattle.server.specs.Slots.{is_waiting}
use Rattle.server.specs.Verdict.{verdict_gives}
use Rattle.server.specs.declared.Connection.{Connection}
use Rattle.image.specs.Image.{Image, taken}
use Rattle.calls.specs.Call.{line, verdict, mail_ended, who, close, is_short}
use Rattle.calls.specs.Step.{Out, step}
use Rattle.claims.specs.Told.{connection_at}

abbrev pub numbered : ℕ → Session → Connection
numbered n s = record { session = s; number = n }

-- a step t of connection n: it is refused where the session refuses, and else it gives r and the connection has its next session
pub record Steps (n : ℕ) (t : Stepped) (r : Result) (o : Out) : Type 0 where
  pub refuses : (k : Refusal) → t.answer ≡ Refused k → o.result ≡ refused k
  pub gives : is_refused t.answer ≡ false → o.result ≡ r
  pub session : is_refused t.answer ≡ false → connection_at o.image n ≡ some (numbered n t.session)

-- s: the server that image i is taken for; c: its connection n
module _ (i : Image) (s : Server) (n : ℕ) (c : Connection) where
  abbrev pub LineSteps : Type 0
  LineSteps = (l r a : List ℕ) → is_short (line n l r a) ≡ false → Steps n (line_step s c l) (line_gives c l (line_step s c l)) (step i (line n l r a))

  abbrev pub VerdictSteps : Type 0
  VerdictSteps =
      (t k : ℕ) (v : Verdict) (d r a : List ℕ) → is_short (verdict t k d r a) ≡ false → verdict_of k ≡ Ok v → is_waiting t c ≡ true
      → Steps n (after_verdict c.session t v d) (verdict_gives c d (after_verdict c.session t v d)) (step i (verdict t k d r a))

  abbrev pub MailSteps : Type 0
  MailSteps = ((step i (mail_ended n)).result ≡ done) × (connection_at (step i (mail_ended n)).image n ≡ some (numbered n (after_mail c.session)))

  abbrev pub WhoTells : Type 0
  WhoTells = (b : List ℕ) → is_short (who n b) ≡ false → (step i (who n b)).result ≡ borne (bears c.session)

  abbrev pub CloseEnds : Type 0
  CloseEnds = ((step i (close n)).result ≡ done) × (connection_at (step i (close n)).image n ≡ none)

  pub record Follows : Type 0 where
    pub line : LineSteps
    pub verdict : VerdictSteps
    pub mail_ended : MailSteps
    pub who : WhoTells
    pub close : CloseEnds

abbrev pub SessionsStepped : Type 0
SessionsStepped = (i : Image) (s : Server) → taken i ≡ some s → (n : ℕ) (c : Connection) → connection_at i n ≡ some c → Follows i s n c

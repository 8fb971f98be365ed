-- What holds of every change that a line makes. Assumes nothing.
use mathlib.Core.Path.{◌≡◌, refl, sym}
use mathlib.Core.Bool.{true, false≢true}
use Prim.Native.Nat.{ℕ}
use Rattle.session.specs.declared.Session.{Session}
use Rattle.session.specs.declared.answer.Answer.{Answer}
use Rattle.session.specs.declared.answer.Answer.TheVariants as Answers
use Rattle.session.specs.declared.change.Change.{Change}
use Rattle.session.specs.declared.view.View.{View}
use Rattle.session.specs.Session.{signed_in}
use Rattle.session.specs.Change.{changed}
use Rattle.session.specs.Standing.{standing, stands, is_refused}
use Rattle.session.specs.WellFormed.{sent_within}
use Rattle.session.proofs.Makes.{is_of_line, Makes, refused, replied, failed, forwarded, challenged, asked}

abbrev pub Refuses : Answer → Type 0
Refuses (Answers.Refused r) = is_of_line r ≡ true
Refuses (Answers.Forward i n) = Unit {0}
Refuses (Answers.Query t x n) = Unit {0}
Refuses (Answers.Reply e) = Unit {0}
Refuses Answers.EmptyChallenge = Unit {0}
Refuses Answers.Challenge = Unit {0}

pub record Sound (s : Session) (c : Change) : Type 0 where
  pub refuses : Refuses c.answer
  -- how the session stands after it is told by the answer
  pub stands : standing c.phase ≡ stands (standing s.phase) c.answer
  -- a line neither signs in nor out
  pub signed : signed_in c.phase ≡ signed_in s.phase
  -- a refusal changes nothing
  pub refused : is_refused c.answer ≡ true → changed s c ≡ s
  -- the count of challenges stays within its limit
  pub sent : sent_within s.phase ≡ true → sent_within c.phase ≡ true

pub sound : {s : Session} {v : View} {t : ℕ} {c : Change} → Makes s v t c → Sound s c
sound (refused r u) = record { refuses = u; stands = refl; signed = refl; refused = λ e. refl; sent = λ e. e }
sound (replied q r) = record { refuses = tt; stands = q; signed = refl; refused = λ e. absurd (false≢true e); sent = λ e. e }
sound (failed h r) = record { refuses = tt; stands = refl; signed = sym h; refused = λ e. absurd (false≢true e); sent = λ e. refl }
sound (forwarded q a g x i n w u) = record { refuses = tt; stands = q; signed = refl; refused = λ e. absurd (false≢true e); sent = λ e. e }
sound (challenged h) = record { refuses = tt; stands = refl; signed = sym h; refused = λ e. absurd (false≢true e); sent = λ e. refl }
sound (asked i h k f b n z w) = record { refuses = tt; stands = refl; signed = sym h; refused = λ e. absurd (false≢true e); sent = f }

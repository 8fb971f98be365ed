-- What a step makes of a session, and the words that the rules have for it.
use Rattle.std.specs.Prelude.{Bool}
use Rattle.profile.specs.declared.Reply.{Reply}
use Rattle.profile.specs.declared.numbers.Identity.TheVariants as Identities
use Rattle.profile.specs.declared.numbers.Refusal.{Refusal}
use Rattle.session.specs.declared.Phase.{Phase}
use Rattle.session.specs.declared.Phase.TheVariants as Phases
use Rattle.session.specs.declared.Session.{Session}
use Rattle.session.specs.declared.Stepped.{Stepped}
use Rattle.session.specs.declared.answer.Answer.{Answer}
use Rattle.session.specs.declared.answer.Answer.TheVariants as Answers
use Rattle.session.specs.declared.change.Change.{Change}

-- another phase, and nothing else changes
abbrev pub moves : Session → Phase → Answer → Change
moves s p a = record { greeted = s.greeted; transaction = s.transaction; phase = p; answer = a }

-- nothing changes
abbrev pub stays : Session → Answer → Change
stays s a = moves s s.phase a

abbrev pub says : Session → Reply → Change
says s r = stays s (Answers.Reply r)

-- "Every refusal returns its number alone and leaves desk and buffers unchanged."
abbrev pub refuses : Session → Refusal → Change
refuses s r = stays s (Answers.Refused r)

-- "A failed exchange leaves greeting, transaction and name as they were before AUTH."
abbrev pub fails : Session → Reply → Change
fails s r = moves s Phases.Idle (Answers.Reply r)

-- a line that is no MAIL is passed on; whether the session is greeted and in a transaction after it
abbrev pub forwards : Session → Bool → Bool → Change
forwards s g t = record { greeted = g; transaction = t; phase = s.phase; answer = Answers.Forward Identities.NoMail 0 }

-- the next session; profile, protection and name stay
abbrev pub changed : Session → Change → Session
changed s c =
    record {
      name = s.name;
      profile = s.profile;
      protected = s.protected;
      greeted = c.greeted;
      transaction = c.transaction;
      phase = c.phase;
    }

abbrev pub stepped : Session → Change → Stepped
stepped s c = record { session = changed s c; answer = c.answer }

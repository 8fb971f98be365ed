-- AUTH: "in this order: length or forbidden octet; wrong moment ..; grammar ..; mechanism available; initial response allowed". The first
-- is in Command, the grammar in crate lines.
use Rattle.std.specs.Prelude.{Bool, true, false, cond, not, ◌||◌, ℕ}
use Rattle.profile.specs.declared.Profile.{Profile}
use Rattle.profile.specs.declared.Profile.TheVariants.{Smtp, Pop3}
use Rattle.profile.specs.declared.Reply.TheVariants as Replies
use Rattle.std.specs.Prelude.{Option, Some, None}
use Rattle.lines.specs.declared.auth.Auth.{Auth}
use Rattle.lines.specs.declared.auth.Auth.TheVariants.{Alone, Initial}
use Rattle.session.specs.declared.Phase.TheVariants as Phases
use Rattle.session.specs.declared.Session.{Session}
use Rattle.session.specs.declared.answer.Answer.TheVariants as Answers
use Rattle.session.specs.declared.change.Change.{Change}
use Rattle.session.specs.declared.view.Offer.{Offer}
use Rattle.session.specs.Session.{signed_in}
use Rattle.session.specs.Change.{moves, says}
use Rattle.session.specs.Query.{asks}

-- "already signed in; on SMTP also not greeted or in a transaction"
abbrev pub wrong_moment : Profile → Session → Bool
wrong_moment Smtp s = signed_in s.phase || not s.greeted || s.transaction
wrong_moment Pop3 s = signed_in s.phase

-- "mechanism available": neither "mechanism absent, or needs protection"
abbrev pub available : Session → Option Offer → Bool
available s None = false
available s (Some o) = s.protected || not o.needs_protection

-- "whether the client speaks first"
abbrev pub client_first : Option Offer → Bool
client_first None = false
client_first (Some o) = o.client_first

-- "without one, a client-first mechanism gets an empty challenge, and a server-first one is asked to start"
abbrev pub alone : Session → Option Offer → ℕ → Change
alone s o t = cond (client_first o) (moves s (Phases.Awaiting 1) Answers.EmptyChallenge) (asks s t 0 true 0)

-- "with an initial response, ask the service", where it is allowed
abbrev pub with_initial : Session → Option Offer → ℕ → ℕ → Change
with_initial s o n t = cond (client_first o) (asks s t 0 false n) (says s Replies.InitialResponse)

abbrev pub timely : Session → Option Auth → Option Offer → ℕ → Change
timely s None o t = says s Replies.Syntax
timely s (Some (Alone to)) o t = cond (available s o) (alone s o t) (says s Replies.Unavailable)
timely s (Some (Initial to from n)) o t = cond (available s o) (with_initial s o n t) (says s Replies.Unavailable)

unfoldable pub on_auth : Session → Option Auth → Option Offer → ℕ → Change
on_auth s a o t = cond (wrong_moment s.profile s) (says s Replies.WrongMoment) (timely s a o t)

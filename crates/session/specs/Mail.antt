-- MAIL: "after length and forbidden octets: 503 if a transaction is open; then grammar, 501 5.5.2".
use Rattle.std.specs.Prelude.{Option, Some, None}
use Rattle.std.specs.Prelude.{true, cond, ℕ}
use Rattle.profile.specs.declared.Reply.TheVariants as Replies
use Rattle.profile.specs.declared.numbers.Identity.{Identity}
use Rattle.profile.specs.declared.numbers.Identity.TheVariants as Identities
use Rattle.mail.specs.declared.Mail.{Mail}
use Rattle.mail.specs.declared.Mail.TheVariants.{Absent, Null, Address}
use Rattle.session.specs.declared.Session.{Session}
use Rattle.session.specs.declared.answer.Answer.{Answer}
use Rattle.session.specs.declared.answer.Answer.TheVariants as Answers
use Rattle.session.specs.declared.change.Change.{Change}
use Rattle.session.specs.Session.{signed_in}
use Rattle.session.specs.Change.{says}

-- "A good MAIL opens the transaction and is passed on with the identity to relay: "<>" if nobody is signed in"
abbrev pub relayed : Session → Identity → ℕ → Answer
relayed s i n = cond (signed_in s.phase) (Answers.Forward i n) (Answers.Forward Identities.Null 0)

abbrev pub relays : Session → Identity → ℕ → Change
relays s i n = record { greeted = s.greeted; transaction = true; phase = s.phase; answer = relayed s i n }

-- ""<>" if .. AUTH says so, otherwise none if AUTH is absent, else the decoded address"
abbrev pub begins : Session → Option Mail → Change
begins s None = says s Replies.Syntax
begins s (Some Absent) = relays s Identities.Absent 0
begins s (Some Null) = relays s Identities.Null 0
begins s (Some (Address from to n)) = relays s Identities.Address n

unfoldable pub on_mail : Session → Option Mail → Change
on_mail s m = cond s.transaction (says s Replies.WrongMoment) (begins s m)

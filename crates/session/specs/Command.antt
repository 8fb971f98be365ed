-- A line where no exchange runs. "Length and forbidden octets are looked at first in every command": NotUnderstood, in crate lines, as are
-- the forms of the commands (Malformed).
use Rattle.std.specs.Prelude.{Option}
use Rattle.std.specs.Prelude.{true, false, ℕ}
use Rattle.profile.specs.declared.Reply.TheVariants as Replies
use Rattle.lines.specs.declared.command.Command.{Command}
use Rattle.lines.specs.declared.command.Command.TheVariants.{NotUnderstood, Malformed, Ehlo, Helo, Rset, Quit, Mail, Auth, Barred, Other}
use Rattle.session.specs.declared.Session.{Session}
use Rattle.session.specs.declared.change.Change.{Change}
use Rattle.session.specs.declared.view.Offer.{Offer}
use Rattle.session.specs.Change.{says, forwards}
use Rattle.session.specs.Auth.{on_auth}
use Rattle.session.specs.Mail.{on_mail}

unfoldable pub on_command : Session → Command → Option Offer → ℕ → Change
on_command s NotUnderstood o t = says s Replies.NotUnderstood
on_command s Malformed o t = says s Replies.Syntax
-- "both end a transaction; EHLO marks the session greeted, HELO unmarks it; passed on"
on_command s Ehlo o t = forwards s true false
on_command s Helo o t = forwards s false false
-- "RSET ends a transaction. Passed on."
on_command s Rset o t = forwards s s.greeted false
on_command s Quit o t = forwards s s.greeted s.transaction
on_command s (Mail m) o t = on_mail s m
on_command s (Auth a) o t = on_auth s a o t
-- "POP3: USER, PASS and APOP get the wrong-moment reply"
on_command s Barred o t = says s Replies.WrongMoment
-- "All other verbs are passed on."
on_command s Other o t = forwards s s.greeted s.transaction

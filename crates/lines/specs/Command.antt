-- A line where no exchange runs (document 01, "A session's steps").
use Rattle.std.specs.Prelude.{Bool, cond, not, ◌&&◌, ◌||◌, List, ℕ, leb, length}
use Rattle.octets.specs.Lists.{is_empty, holds, after}
use Rattle.profile.specs.Limits.{command_limit, mail_limit}
use Rattle.profile.specs.declared.Profile.{Profile}
use Rattle.profile.specs.declared.Profile.TheVariants.{Smtp, Pop3}
use Rattle.mail.specs.Mail.{mail}
use Rattle.lines.specs.Verb.{space, verb, verb_of}
use Rattle.lines.specs.Auth.{auth}
use Rattle.lines.specs.declared.verb.Verb.{Verb}
use Rattle.lines.specs.declared.verb.Verb.TheVariants as Verbs
use Rattle.lines.specs.declared.command.Command.{Command}
use Rattle.lines.specs.declared.command.Command.TheVariants as Commands

-- "Length and forbidden octets are looked at first in every command." The limit of MAIL is its own.
abbrev pub limit : Profile → Verb → ℕ
limit p Verbs.Mail = mail_limit p
limit p _ = command_limit p

-- "holds NUL, CR, LF"
unfoldable pub forbidden : List ℕ → Bool
forbidden l = holds 0x00 l || holds 0x0D l || holds 0x0A l

unfoldable pub understood : Profile → Verb → List ℕ → Bool
understood p v l = leb (length l) (limit p v) && not (forbidden l)

-- "EHLO and HELO need a space and at least one octet more"
abbrev pub argued : List ℕ → Command → Command
argued l c = cond (is_empty (after space l)) Commands.Malformed c

-- "RSET and QUIT take nothing after the verb"
abbrev pub bare : List ℕ → Command → Command
bare l c = cond (holds space l) Commands.Malformed c

-- SMTP: "All other verbs are passed on."
abbrev pub smtp : Verb → List ℕ → Command
smtp Verbs.Ehlo l = argued l Commands.Ehlo
smtp Verbs.Helo l = argued l Commands.Helo
smtp Verbs.Rset l = bare l Commands.Rset
smtp Verbs.Quit l = bare l Commands.Quit
smtp Verbs.Mail l = Commands.Mail (mail l)
smtp Verbs.Auth l = Commands.Auth (auth l)
smtp _ l = Commands.Other

-- "POP3: USER, PASS and APOP get the wrong-moment reply; AUTH is below; the rest is passed on."
abbrev pub pop3 : Verb → List ℕ → Command
pop3 Verbs.User l = Commands.Barred
pop3 Verbs.Pass l = Commands.Barred
pop3 Verbs.Apop l = Commands.Barred
pop3 Verbs.Auth l = Commands.Auth (auth l)
pop3 _ l = Commands.Other

abbrev pub by : Profile → Verb → List ℕ → Command
by Smtp v l = smtp v l
by Pop3 v l = pop3 v l

abbrev pub command_of : Profile → Verb → List ℕ → Command
command_of p v l = cond (understood p v l) (by p v l) Commands.NotUnderstood

unfoldable pub command : Profile → List ℕ → Command
command p l = command_of p (verb_of (verb l)) l

-- The octets that a line hands on: a response to the password service, an address to the relay.
use Rattle.std.specs.Prelude.{List, [], ℕ}
use Rattle.base64text.specs.Base64
use Rattle.xtext.specs.Xtext
use Rattle.mail.specs.Mail.{address_text}
use Rattle.mail.specs.declared.Mail.{Mail}
use Rattle.std.specs.Prelude.{Option, None}
use Rattle.lines.specs.Auth.{initial_text, name_text}
use Rattle.lines.specs.declared.auth.Auth.{Auth}
use Rattle.lines.specs.declared.command.Command.{Command}
use Rattle.lines.specs.declared.command.Command.TheVariants as Commands
use Rattle.session.specs.declared.view.View.{View}
use Rattle.session.specs.declared.view.View.TheVariants as Views

-- the AUTH line, and the MAIL line, that a view is of; any other line counts as one that is malformed and points to nothing
abbrev pub auth_command : Command → Option Auth
auth_command Commands.NotUnderstood = None
auth_command Commands.Malformed = None
auth_command Commands.Ehlo = None
auth_command Commands.Helo = None
auth_command Commands.Rset = None
auth_command Commands.Quit = None
auth_command (Commands.Mail m) = None
auth_command (Commands.Auth a) = a
auth_command Commands.Barred = None
auth_command Commands.Other = None

abbrev pub auth_in : View → Option Auth
auth_in (Views.Command c) = auth_command c
auth_in (Views.Response r) = None
auth_in Views.Unread = None

abbrev pub mail_command : Command → Option Mail
mail_command Commands.NotUnderstood = None
mail_command Commands.Malformed = None
mail_command Commands.Ehlo = None
mail_command Commands.Helo = None
mail_command Commands.Rset = None
mail_command Commands.Quit = None
mail_command (Commands.Mail m) = m
mail_command (Commands.Auth a) = None
mail_command Commands.Barred = None
mail_command Commands.Other = None

abbrev pub mail_in : View → Option Mail
mail_in (Views.Command c) = mail_command c
mail_in (Views.Response r) = None
mail_in Views.Unread = None

-- the name of the mechanism that an AUTH line asks for, in capitals
abbrev pub mechanism_text : View → List ℕ → List ℕ
mechanism_text v l = name_text (auth_in v) l

-- the base64 of a client's response: AUTH's initial response, or a whole line
abbrev pub response_text : View → List ℕ → List ℕ
response_text (Views.Command c) l = initial_text (auth_command c) l
response_text (Views.Response r) l = l
response_text Views.Unread l = []

-- the octets of a query
unfoldable pub query_octets : View → List ℕ → List ℕ
query_octets v l = Base64.octets (response_text v l)

-- the xtext of the address that a MAIL line has, and its octets
abbrev pub relay_text : View → List ℕ → List ℕ
relay_text v l = address_text (mail_in v) l

unfoldable pub relay_octets : View → List ℕ → List ℕ
relay_octets v l = Xtext.octets (relay_text v l)

-- The numbers of a line's reading: its kind, then the indices and the length that the kind has, 0 where it has none.
use Rattle.std.specs.Prelude.{ℕ, List}
use Rattle.profile.specs.Numbers.{profile_of}
use Rattle.profile.specs.declared.Profile.{Profile}
use Rattle.profile.specs.declared.numbers.Refusal.{Refusal}
use Rattle.mail.specs.declared.Mail.{Mail}
use Rattle.mail.specs.declared.Mail.TheVariants as Mails
use Rattle.std.specs.Prelude.{Option, Some, None, Result, Ok, Err}
use Rattle.lines.specs.Command.{command}
use Rattle.lines.specs.Response.{response}
use Rattle.lines.specs.declared.auth.Auth.{Auth}
use Rattle.lines.specs.declared.auth.Auth.TheVariants as Auths
use Rattle.lines.specs.declared.command.Command.{Command}
use Rattle.lines.specs.declared.command.Command.TheVariants as Commands
use Rattle.lines.specs.declared.response.ResponseError.{ResponseError}
use Rattle.lines.specs.declared.response.ResponseError.TheVariants as Responses
use Rattle.lineface.specs.declared.Reading.{Reading}

abbrev pub bare : ℕ → Reading
bare k = record { kind = k; to = 0; from = 0; length = 0 }

-- a profile number that is not listed
abbrev pub unlisted : Reading
unlisted = bare 0

abbrev pub mail_reading : Option Mail → Reading
mail_reading None = bare 9
mail_reading (Some Mails.Absent) = bare 10
mail_reading (Some Mails.Null) = bare 11
mail_reading (Some (Mails.Address from to n)) = record { kind = 12; to = to; from = from; length = n }

abbrev pub auth_reading : Option Auth → Reading
auth_reading None = bare 13
auth_reading (Some (Auths.Alone to)) = record { kind = 14; to = to; from = 0; length = 0 }
auth_reading (Some (Auths.Initial to from n)) = record { kind = 15; to = to; from = from; length = n }

abbrev pub command_reading : Command → Reading
command_reading Commands.NotUnderstood = bare 1
command_reading Commands.Malformed = bare 2
command_reading Commands.Ehlo = bare 3
command_reading Commands.Helo = bare 4
command_reading Commands.Rset = bare 5
command_reading Commands.Quit = bare 6
command_reading (Commands.Mail m) = mail_reading m
command_reading (Commands.Auth a) = auth_reading a
command_reading Commands.Barred = bare 7
command_reading Commands.Other = bare 8

abbrev pub response_reading : Result ℕ ResponseError → Reading
response_reading (Err Responses.TooLong) = bare 16
response_reading (Err Responses.Cancelled) = bare 17
response_reading (Err Responses.Malformed) = bare 18
response_reading (Ok n) = record { kind = 19; to = 0; from = 0; length = n }

-- by a profile, which may be unlisted
abbrev pub command_by : Result Profile Refusal → List ℕ → Reading
command_by (Ok p) l = command_reading (command p l)
command_by (Err r) l = unlisted

abbrev pub response_by : Result Profile Refusal → List ℕ → Reading
response_by (Ok p) l = response_reading (response p l)
response_by (Err r) l = unlisted

abbrev pub command_at : ℕ → List ℕ → Reading
command_at n l = command_by (profile_of n) l

abbrev pub response_at : ℕ → List ℕ → Reading
response_at n l = response_by (profile_of n) l

-- What a MAIL is passed on with, by whether somebody is signed in and by what the line's AUTH says (document 01, "Base64, xtext and MAIL").
use Rattle.std.specs.Prelude.{Bool, true, false, cond, List, [], ℕ}
use Rattle.profile.specs.declared.numbers.Identity.{Identity}
use Rattle.profile.specs.declared.numbers.Identity.TheVariants.{NoMail, Null, Absent, Address}
use Rattle.mail.specs.Says as Say
use Rattle.mail.specs.Says.{Says}

-- whether a line that is passed on is a MAIL
abbrev pub is_mail : Identity → Bool
is_mail NoMail = false
is_mail Null = true
is_mail Absent = true
is_mail Address = true

-- an identity other than "<>": none, or an address
abbrev pub is_vouched : Identity → Bool
is_vouched NoMail = false
is_vouched Null = false
is_vouched Absent = true
is_vouched Address = true

abbrev pub is_address : Identity → Bool
is_address NoMail = false
is_address Null = false
is_address Absent = false
is_address Address = true

-- the identity to relay, with the octets of an address; b: whether somebody is signed in. Where nobody is, or AUTH says so, it is "<>"; where there
-- is no AUTH it is none; else it is the address that AUTH says. A line that is not of MAIL's form is not passed on as one
abbrev pub relay_of : Bool → Says → Identity × List ℕ
relay_of b Say.malformed = (NoMail, [])
relay_of b Say.absent = (cond b Absent Null, [])
relay_of b Say.null = (Null, [])
relay_of b (Say.address x) = cond b (Address, x) (Null, [])

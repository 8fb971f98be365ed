-- The numbers by which a host in C speaks with the server, each set out once, and what is printed of profiles and verdicts.
use Rattle.std.specs.Prelude.{cond, List, ℕ, eqb, Result, Ok, Err}
use Rattle.octets.specs.Ascii.{ascii}
use Rattle.profile.specs.declared.Profile.{Profile}
use Rattle.profile.specs.declared.Profile.TheVariants.{Smtp, Pop3}
use Rattle.profile.specs.declared.numbers.Verdict.{Verdict}
use Rattle.profile.specs.declared.numbers.Verdict.TheVariants.{Challenge, Success, Rejected, Temporary, Transition, Weak}
use Rattle.profile.specs.declared.numbers.Refusal.{Refusal}
use Rattle.profile.specs.declared.numbers.Refusal.TheVariants.{ShortBuffer, NoConnection, Waiting, NoTicket, NotListed, Full, Exhausted, BadName, NamePresent, TableFull, Sealed, NotTaken}
use Rattle.profile.specs.declared.numbers.Kind.{Kind}
use Rattle.profile.specs.declared.numbers.Kind.TheVariants.{Forward, Query, Answered}
use Rattle.profile.specs.declared.numbers.Identity.{Identity}
use Rattle.profile.specs.declared.numbers.Identity.TheVariants.{NoMail, Null, Absent, Address}

-- "profile 0 SMTP or 1 POP3"
abbrev pub profile_number : Profile → ℕ
profile_number Smtp = 0
profile_number Pop3 = 1

abbrev pub profile_of : ℕ → Result Profile Refusal
profile_of n =
    cond (eqb n (profile_number Smtp)) (Ok Smtp)
    (cond (eqb n (profile_number Pop3)) (Ok Pop3)
    (Err NotListed))

-- what is printed of a profile, and of a verdict below: its word in a script (docs/DESKRUN.md, "What a script line says")
abbrev pub printed_profile : Profile → List ℕ
printed_profile Smtp = ascii "smtp"
printed_profile Pop3 = ascii "pop3"

-- "Verdicts: challenge ..; success with a name ..; rejected, temporary, transition, weak", in this order from 0
abbrev pub verdict_number : Verdict → ℕ
verdict_number Challenge = 0
verdict_number Success = 1
verdict_number Rejected = 2
verdict_number Temporary = 3
verdict_number Transition = 4
verdict_number Weak = 5

abbrev pub verdict_of : ℕ → Result Verdict Refusal
verdict_of n =
    cond (eqb n (verdict_number Challenge)) (Ok Challenge)
    (cond (eqb n (verdict_number Success)) (Ok Success)
    (cond (eqb n (verdict_number Rejected)) (Ok Rejected)
    (cond (eqb n (verdict_number Temporary)) (Ok Temporary)
    (cond (eqb n (verdict_number Transition)) (Ok Transition)
    (cond (eqb n (verdict_number Weak)) (Ok Weak)
    (Err NotListed))))))

abbrev pub printed_verdict : Verdict → List ℕ
printed_verdict Challenge = ascii "challenge"
printed_verdict Success = ascii "success"
printed_verdict Rejected = ascii "rejected"
printed_verdict Temporary = ascii "temporary"
printed_verdict Transition = ascii "transition"
printed_verdict Weak = ascii "weak"

-- "No. | Given exactly when"; 0, which is no refusal's number, tells that a call was not refused
abbrev pub refusal_number : Refusal → ℕ
refusal_number ShortBuffer = 1
refusal_number NoConnection = 2
refusal_number Waiting = 3
refusal_number NoTicket = 4
refusal_number NotListed = 5
refusal_number Full = 6
refusal_number Exhausted = 7
refusal_number BadName = 8
refusal_number NamePresent = 9
refusal_number TableFull = 10
refusal_number Sealed = 11
refusal_number NotTaken = 20

-- "Line, for a connection, gives one of: passed on; a question ..; a reply", in this order from 0
abbrev pub kind_number : Kind → ℕ
kind_number Forward = 0
kind_number Query = 1
kind_number Answered = 2

-- the identity to relay with a line that is passed on: no MAIL; "<>"; none; an address
abbrev pub identity_number : Identity → ℕ
identity_number NoMail = 0
identity_number Null = 1
identity_number Absent = 2
identity_number Address = 3

-- "Open: profile 0 SMTP or 1 POP3, protected or not; gives the connection's number. The lowest free place is taken, and a freed place is taken
-- again." Refusals: 20; 5; 6; 7.
use Rattle.std.specs.Prelude.{Result, Ok, Err}
use Rattle.std.specs.Prelude.{Bool, true, cond, ℕ, ◌+◌, eqb}
use Rattle.std.proofs.Math.Option.{some}
use Rattle.profile.specs.Numbers.{profile_of}
use Rattle.profile.specs.declared.numbers.Refusal.{Refusal}
use Rattle.profile.specs.declared.Profile.{Profile}
use Rattle.profile.specs.declared.numbers.Refusal.TheVariants.{NotListed, Full, Exhausted}
use Rattle.session.specs.Limits.{unissued}
use Rattle.session.specs.Session as Session
use Rattle.server.specs.declared.Connection.{Connection}
use Rattle.server.specs.declared.Header.{Header}
use Rattle.server.specs.Outcome.{Outcome, refuses, gives, opened, is_yes_or_no, is_yes}
use Rattle.server.specs.Server.{Server}
use Rattle.server.specs.Slots.{is_free, any_free, replaced}

-- the connection that is opened: the next number, and a session that was just opened
abbrev pub entered : Header → Profile → Bool → Connection
entered h p b = record { session = Session.opened p b; number = h.connection }

-- "Each issue takes the next number"; 11: "mechanism added after a successful open"
abbrev pub opens : Header → Header
opens h = record { connection = h.connection + 1; ticket = h.ticket; sealed = true }

abbrev pub with_connection : Server → Connection → Server
with_connection s c = record { header = opens s.header; mechanisms = s.mechanisms; slots = replaced is_free (some c) s.slots }

-- 6: "open, and no place of the 64 is free"; 7: "the number or ticket needed is 2^64-1"
abbrev pub enters : Server → Profile → Bool → Outcome
enters s p b =
    cond (any_free s.slots)
    (cond (eqb s.header.connection unissued) (refuses Exhausted) (gives (opened s.header.connection) (with_connection s (entered s.header p b))))
    (refuses Full)

-- 5: "profile .. is not one listed here, or a yes-or-no is not 0 or 1"
abbrev pub opens_as : Server → Result Profile Refusal → ℕ → Outcome
opens_as s (Err r) b = refuses NotListed
opens_as s (Ok p) b = cond (is_yes_or_no b) (enters s p (is_yes b)) (refuses NotListed)

-- p: the profile's number; b: whether the connection is protected
unfoldable pub on_open : Server → ℕ → ℕ → Outcome
on_open s p b = opens_as s (profile_of p) b

-- A session as it is opened, and whom it bears.
use Rattle.std.specs.Prelude.{Bool, true, false, List, ℕ, replicate}
use Rattle.octets.specs.Lists.{before, padded_to}
use Rattle.profile.specs.declared.Profile.{Profile}
use Rattle.session.specs.declared.Phase.{Phase}
use Rattle.session.specs.declared.Phase.TheVariants.{Idle, SignedIn, Awaiting, Waiting}
use Rattle.session.specs.declared.Session.{Session}
use Rattle.session.specs.Limits.{longest_name}

-- "Open: profile 0 SMTP or 1 POP3, protected or not": not greeted, no transaction, no exchange, nobody signed in
abbrev pub opened : Profile → Bool → Session
opened p b = record { name = replicate longest_name 0; profile = p; protected = b; greeted = false; transaction = false; phase = Idle }

-- "Who: signed in or not, and the name."
abbrev pub signed_in : Phase → Bool
signed_in Idle = false
signed_in SignedIn = true
signed_in (Awaiting k) = false
signed_in (Waiting t k) = false

-- a name, "1 to 64 octets of 21-7E hex", is kept in 64 octets, padded with NUL; it is what stands before the first NUL
unfoldable pub name_of : Session → List ℕ
name_of s = before 0x00 s.name

abbrev pub named : Session → List ℕ → Session
named s n =
    record {
      name = padded_to longest_name n;
      profile = s.profile;
      protected = s.protected;
      greeted = s.greeted;
      transaction = s.transaction;
      phase = s.phase;
    }

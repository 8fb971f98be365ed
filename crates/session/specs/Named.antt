-- Whom a session bears, and what a verdict must be to sign somebody in.
use Rattle.std.specs.Prelude.{Bool, true, false, cond, ◌&&◌, List, ℕ, eqb}
use Rattle.std.proofs.Math.Option.{Option, none, some}
use Rattle.profile.specs.declared.numbers.Verdict.{Verdict}
use Rattle.profile.specs.declared.numbers.Verdict.TheVariants.{Challenge, Success, Rejected, Temporary, Transition, Weak}
use Rattle.session.specs.declared.Phase.{Phase}
use Rattle.session.specs.declared.Phase.TheVariants.{Idle, SignedIn, Awaiting, Waiting}
use Rattle.session.specs.declared.Session.{Session}
use Rattle.session.specs.Session.{signed_in, name_of}
use Rattle.session.specs.Verdict.{is_name}

-- "Who: signed in or not, and the name."
abbrev pub bears : Session → Option (List ℕ)
bears s = cond (signed_in s.phase) (some (name_of s)) none

abbrev pub waits_on : ℕ → Phase → Bool
waits_on t Idle = false
waits_on t SignedIn = false
waits_on t (Awaiting k) = false
waits_on t (Waiting u k) = eqb u t

abbrev pub is_success : Verdict → Bool
is_success Challenge = false
is_success Success = true
is_success Rejected = false
is_success Temporary = false
is_success Transition = false
is_success Weak = false

-- "a success verdict on a ticket issued", with a name
unfoldable pub grants : Session → ℕ → Verdict → List ℕ → Bool
grants s t v d = waits_on t s.phase && is_success v && is_name d

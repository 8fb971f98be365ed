-- What a session sees of a line.
use Rattle.std.specs.Prelude.{List, ℕ}
use Rattle.profile.specs.declared.Profile.{Profile}
use Rattle.lines.specs.Command.{command}
use Rattle.lines.specs.Response.{response}
use Rattle.session.specs.declared.Phase.{Phase}
use Rattle.session.specs.declared.Phase.TheVariants.{Idle, SignedIn, Awaiting, Waiting}
use Rattle.session.specs.declared.Session.{Session}
use Rattle.session.specs.declared.view.View.{View}
use Rattle.session.specs.declared.view.View.TheVariants as Views

-- "when no exchange runs" a line is a command; where an answer is awaited it is an answer line, whatever it reads; a line that "comes while
-- its connection waits on a ticket" is not read
unfoldable pub view_in : Profile → Phase → List ℕ → View
view_in p Idle l = Views.Command (command p l)
view_in p SignedIn l = Views.Command (command p l)
view_in p (Awaiting k) l = Views.Response (response p l)
view_in p (Waiting t k) l = Views.Unread

abbrev pub view : Session → List ℕ → View
view s l = view_in s.profile s.phase l

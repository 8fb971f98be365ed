-- A line, by the session's phase. A view that was read for another phase than the session's is not of the form that the phase asks for: a
-- syntax error.
use Rattle.std.specs.Prelude.{Option}
use Rattle.std.specs.Prelude.{ℕ}
use Rattle.profile.specs.declared.Reply.TheVariants as Replies
use Rattle.profile.specs.declared.numbers.Refusal.TheVariants as Refusals
use Rattle.session.specs.declared.Phase.{Phase}
use Rattle.session.specs.declared.Phase.TheVariants.{Idle, SignedIn, Awaiting, Waiting}
use Rattle.session.specs.declared.Session.{Session}
use Rattle.session.specs.declared.Stepped.{Stepped}
use Rattle.session.specs.declared.change.Change.{Change}
use Rattle.session.specs.declared.view.Offer.{Offer}
use Rattle.session.specs.declared.view.View.{View}
use Rattle.session.specs.declared.view.View.TheVariants.{Command, Response, Unread}
use Rattle.session.specs.Change.{says, fails, refuses, stepped}
use Rattle.session.specs.Command.{on_command}
use Rattle.session.specs.Response.{on_response}

-- "when no exchange runs"
abbrev pub at_rest : Session → View → Option Offer → ℕ → Change
at_rest s (Command c) o t = on_command s c o t
at_rest s (Response r) o t = says s Replies.Syntax
at_rest s Unread o t = says s Replies.Syntax

-- where an answer is awaited, after k challenges
abbrev pub awaiting : Session → ℕ → View → ℕ → Change
awaiting s k (Command c) t = fails s Replies.Syntax
awaiting s k (Response r) t = on_response s k r t
awaiting s k Unread t = fails s Replies.Syntax

-- refusal 3: "a line comes while its connection waits on a ticket"
abbrev pub on_line : Phase → Session → View → Option Offer → ℕ → Change
on_line Idle s v o t = at_rest s v o t
on_line SignedIn s v o t = at_rest s v o t
on_line (Awaiting k) s v o t = awaiting s k v t
on_line (Waiting u k) s v o t = refuses s Refusals.Waiting

-- o: what the server has of the mechanism that the line names; t: the next ticket
unfoldable pub after_line : Session → View → Option Offer → ℕ → Stepped
after_line s v o t = stepped s (on_line s.phase s v o t)

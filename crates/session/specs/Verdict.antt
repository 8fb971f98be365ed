-- A verdict on a ticket.
use Rattle.std.specs.Prelude.{Bool, cond, ◌&&◌, List, ℕ, ◌+◌, leb, ltb, eqb, length}
use Rattle.octets.specs.Lists.{is_empty, one_to}
use Rattle.profile.specs.declared.Reply.TheVariants as Replies
use Rattle.profile.specs.declared.numbers.Refusal.TheVariants as Refusals
use Rattle.profile.specs.declared.numbers.Verdict.{Verdict}
use Rattle.profile.specs.declared.numbers.Verdict.TheVariants.{Challenge, Success, Rejected, Temporary, Transition, Weak}
use Rattle.session.specs.declared.Phase.{Phase}
use Rattle.session.specs.declared.Phase.TheVariants.{Idle, SignedIn, Awaiting, Waiting}
use Rattle.session.specs.declared.Session.{Session}
use Rattle.session.specs.declared.Stepped.{Stepped}
use Rattle.session.specs.declared.answer.Answer.TheVariants as Answers
use Rattle.session.specs.declared.change.Change.{Change}
use Rattle.session.specs.Limits.{most_challenges, longest_challenge, longest_name}
use Rattle.session.specs.Session.{named}
use Rattle.session.specs.Change.{moves, fails, refuses, stepped}

-- "success with a name (1 to 64 octets of 21-7E hex)"
abbrev pub graphic : ℕ → Bool
graphic x = leb 0x21 x && leb x 0x7E

abbrev pub is_name : List ℕ → Bool
is_name n = one_to longest_name graphic n

-- "Verdicts: challenge (0 to 9,210 octets); success with a name ..; rejected, temporary, transition, weak, these four with no data."
abbrev pub given : Verdict → List ℕ → Bool
given Challenge d = leb (length d) longest_challenge
given Success d = is_name d
given Rejected d = is_empty d
given Temporary d = is_empty d
given Transition d = is_empty d
given Weak d = is_empty d

-- "An exchange sends at most 16 challenges, the empty first one included. A challenge verdict that would send a 17th gets the temporary
-- reply and ends it." k: the challenges sent
abbrev pub challenged : Session → ℕ → Change
challenged s k = cond (ltb k most_challenges) (moves s (Awaiting (k + 1)) Answers.Challenge) (fails s Replies.Temporary)

abbrev pub accepted : Session → ℕ → Verdict → List ℕ → Stepped
accepted s k Challenge d = stepped s (challenged s k)
accepted s k Success d = stepped (named s d) (moves s SignedIn (Answers.Reply Replies.Success))
accepted s k Rejected d = stepped s (fails s Replies.Rejected)
accepted s k Temporary d = stepped s (fails s Replies.Temporary)
accepted s k Transition d = stepped s (fails s Replies.Transition)
accepted s k Weak d = stepped s (fails s Replies.Weak)

-- refusal 5: a verdict that "is not one listed here"
unfoldable pub on_verdict : Session → ℕ → Verdict → List ℕ → Stepped
on_verdict s k v d = cond (given v d) (accepted s k v d) (stepped s (refuses s Refusals.NotListed))

-- refusal 4, which comes first: "no open connection waits on this ticket"
abbrev pub on_ticket : Phase → Session → ℕ → Verdict → List ℕ → Stepped
on_ticket Idle s t v d = stepped s (refuses s Refusals.NoTicket)
on_ticket SignedIn s t v d = stepped s (refuses s Refusals.NoTicket)
on_ticket (Awaiting k) s t v d = stepped s (refuses s Refusals.NoTicket)
on_ticket (Waiting u k) s t v d = cond (eqb u t) (on_verdict s k v d) (stepped s (refuses s Refusals.NoTicket))

unfoldable pub after_verdict : Session → ℕ → Verdict → List ℕ → Stepped
after_verdict s t v d = on_ticket s.phase s t v d

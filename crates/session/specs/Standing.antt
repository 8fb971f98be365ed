-- How a session stands, as its host can tell from the answers.
use Rattle.std.specs.Prelude.{Bool, true, false, ℕ}
use Rattle.session.specs.declared.Phase.{Phase}
use Rattle.session.specs.declared.Phase.TheVariants as Phases
use Rattle.session.specs.declared.answer.Answer.{Answer}
use Rattle.session.specs.declared.answer.Answer.TheVariants.{Refused, Forward, Query, Reply, EmptyChallenge, Challenge}

-- no exchange runs; it awaits a response; it waits on a ticket
pub data Standing : Type 0 where
  quiet : Standing
  awaits : Standing
  waits : ℕ → Standing

abbrev pub standing : Phase → Standing
standing Phases.Idle = quiet
standing Phases.SignedIn = quiet
standing (Phases.Awaiting k) = awaits
standing (Phases.Waiting t k) = waits t

-- how it stands after an answer; w: how it stood before, where it still stands after a refusal
abbrev pub stands : Standing → Answer → Standing
stands w (Refused r) = w
stands w (Forward i n) = quiet
stands w (Query t b n) = waits t
stands w (Reply e) = quiet
stands w EmptyChallenge = awaits
stands w Challenge = awaits

-- whether a client hears something
abbrev pub is_heard : Answer → Bool
is_heard (Refused r) = false
is_heard (Forward i n) = false
is_heard (Query t b n) = false
is_heard (Reply e) = true
is_heard EmptyChallenge = true
is_heard Challenge = true

abbrev pub is_refused : Answer → Bool
is_refused (Refused r) = true
is_refused (Forward i n) = false
is_refused (Query t b n) = false
is_refused (Reply e) = false
is_refused EmptyChallenge = false
is_refused Challenge = false

-- Asking the password service.
use Rattle.std.specs.Prelude.{Bool, cond, ℕ, eqb}
use Rattle.profile.specs.declared.numbers.Refusal.TheVariants as Refusals
use Rattle.session.specs.declared.Phase.TheVariants as Phases
use Rattle.session.specs.declared.Session.{Session}
use Rattle.session.specs.declared.answer.Answer.TheVariants as Answers
use Rattle.session.specs.declared.change.Change.{Change}
use Rattle.session.specs.Limits.{unissued}
use Rattle.session.specs.Change.{moves, refuses}

-- a query under the ticket t, in an exchange that has sent k challenges; b: "whether it only starts an exchange"; n: "decoded length".
-- Refusal 7: "the number or ticket needed is 2^64-1"
abbrev pub asks : Session → ℕ → ℕ → Bool → ℕ → Change
asks s t k b n = cond (eqb t unissued) (refuses s Refusals.Exhausted) (moves s (Phases.Waiting t k) (Answers.Query t b n))

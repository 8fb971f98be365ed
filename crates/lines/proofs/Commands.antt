-- The parts of reading a command: forbidden octets, and what follows the verb. Assumes nothing.
use Rattle.std.proofs.Common.{◌≡◌, ℕ, ◌+◌, ◌||◌, List, length, eqb, leb, arith}
use Rattle.std.proofs.lemmas.Bool.Decides.{nat_tests}
use Rattle.std.proofs.lemmas.List.{length-drop}
use Rattle.std.specs.List.{list_any}
use Rattle.octets.specs.Lists.{is_empty, before, after}
use Rattle.octets.proofs.Words.{after-drop, holds-before, length_before}
use Rattle.lines.specs.Command.{forbidden}
use Rattle.octets.proofs.Chains.{holds_is, any_either}
use Rattle.lines.proofs.Lists.{empty-length}

pub any-forbidden : (l : List ℕ) → list_any (λ (x : ℕ). eqb x 0 || eqb x 13 || eqb x 10) l ≡ forbidden l
unfolding forbidden
any-forbidden l = rw (holds_is 0 l, holds_is 13 l, holds_is 10 l) (simp any_either)

-- what follows the verb
pub argument : (x : ℕ) (l : List ℕ) → is_empty (after x l) ≡ leb (length l) (length (before x l) + 1)
argument x l = rw (after-drop x l, empty-length, length-drop) (grind (arith, nat_tests))

pub ruleset ends = (argument, holds-before, length_before, nat_tests)

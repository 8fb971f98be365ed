use Rattle.std.proofs.Common.{rules, tests, ℕ, ◌||◌, eqb, ◌∙◌}
use Rattle.std.proofs.lemmas.Iterator.{YieldsList-from_slice}
use Rattle.std.proofs.lemmas.Iterator.Search.{any_from_yields_List}
use Rattle.lines.proofs.Commands.{any-forbidden}
use Rattle.lines.proofs.command.holds_forbidden.Goals as goal

pub returns : goal.returns
returns c =
    any_from_yields_List
    (λ (x : ℕ). eqb x 0 || eqb x 13 || eqb x 10) _ _ _ c.any.ensures.ran (YieldsList-from_slice c.args.line.now cc) (λ x b q k. search (rules, tests))
    ∙ any-forbidden c.args.line.now

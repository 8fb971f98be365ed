use Rattle.session.specs.Limits.{unissued}
use Rattle.umbrelnic.specs.Private.{issued_in}
use borrow.Author.Tests.{eqb-false}
use mathlib.Core.Path.{sym, ◌∙◌}
use native.Mathlib.Omega.{arith}
use Rattle.umbrelnic.proofs.stepping.issue.Goals as goal

pub overflow_add-next : goal.overflow_add-next
overflow_add-next c = omega (arith, eqb-false c.args.header.ticket unissued (c.requires (sym c.is_query.ensures ∙ c.if-is_query.true)))

pub returns-then-is_query : goal.returns-then-is_query
unfolding issued_in
returns-then-is_query c = rw (sym c.is_query.ensures ∙ c.if-is_query.true) c.write_header.ensures

pub returns-else-is_query : goal.returns-else-is_query
unfolding issued_in
returns-else-is_query c = rw (sym c.is_query.ensures ∙ c.if-is_query.false)

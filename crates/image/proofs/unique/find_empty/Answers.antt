use Rattle.image.proofs.Differ.{first-empty, first-met, first-other, next-empty, next-met, next-other, next-end}
use mathlib.Core.Path.{sym, ◌∙◌}
use native.Mathlib.Omega.{arith}
use Rattle.image.proofs.unique.find_empty.Goals as goal

pub returns-then-table-first-eq0 : goal.returns-then-table-first-eq0
returns-then-table-first-eq0 c = (first-empty _ _ _ _ _ c.first_bucket-first.ensures.0 c.if-table-first-eq0.true, omega (arith, c.first_bucket-first.ensures.1))

pub returns-then-is_of : goal.returns-then-is_of
returns-then-is_of c = (first-met _ _ _ _ _ c.first_bucket-first.ensures.0 c.if-table-first-eq0.false (sym c.is_of.ensures ∙ c.if-is_of.true), tt)

pub loop-rest-init : goal.loop-rest-init
loop-rest-init c = first-other _ _ _ _ _ c.first_bucket-first.ensures.0 c.if-table-first-eq0.false (sym c.is_of.ensures ∙ c.if-is_of.false) _ c.spread-rest.ensures

pub returns-then-table-k-eq0 : goal.returns-then-table-k-eq0
returns-then-table-k-eq0 c = (next-empty _ _ _ _ _ _ c.loop-rest.invariant c.loop-rest-test.true c.if-table-k-eq0.true, omega arith)

pub returns-then-is_of-2 : goal.returns-then-is_of-2
returns-then-is_of-2 c = (next-met _ _ _ _ _ _ c.loop-rest.invariant c.loop-rest-test.true c.if-table-k-eq0.false (sym c.is_of-in-loop-rest.ensures ∙ c.if-is_of-2.true), tt)

pub loop-rest-preserved : goal.loop-rest-preserved
loop-rest-preserved c = next-other _ _ _ _ _ _ c.loop-rest.invariant c.loop-rest-test.true c.if-table-k-eq0.false (sym c.is_of-in-loop-rest.ensures ∙ c.if-is_of-2.false)

pub returns : goal.returns
returns c = (next-end _ _ _ _ _ _ c.loop-rest.invariant c.loop-rest-test.false, tt)

use Rattle.image.proofs.Places.{every-at_fail, every-at-pass, every-at-end}
use mathlib.Core.Bool.{not}
use mathlib.Core.Path.{sym, ap, ◌∙◌}
use Rattle.image.proofs.unique.is_new.Goals as goal

pub returns-then-stands : goal.returns-then-stands
returns-then-stands g c = every-at_fail _ _ _ _ c.loop-i.invariant c.loop-i-test.true (ap not (sym c.stands.ensures ∙ c.if-stands.true))

pub loop-i-preserved : goal.loop-i-preserved
loop-i-preserved g c = every-at-pass _ _ _ _ c.loop-i.invariant c.loop-i-test.true (ap not (sym c.stands.ensures ∙ c.if-stands.false))

pub returns : goal.returns
returns g c = every-at-end _ _ _ _ c.loop-i.invariant c.loop-i-test.false

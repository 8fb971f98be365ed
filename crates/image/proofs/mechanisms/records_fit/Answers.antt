use Rattle.image.proofs.Table.{records-turn, records-end}
use mathlib.Core.Path.{sym}
use Rattle.image.proofs.mechanisms.records_fit.Goals as goal

pub loop-i-preserved : goal.loop-i-preserved
loop-i-preserved c = rw (c.is_new_name.ensures, c.mechanism_fits.ensures) (records-turn _ _ c.loop-i.ok _ _ _ c.loop-i.invariant c.loop-i-test.true)

pub returns : goal.returns
returns c = sym (records-end _ _ c.loop-i.ok _ _ _ c.loop-i.invariant c.loop-i-test.false)

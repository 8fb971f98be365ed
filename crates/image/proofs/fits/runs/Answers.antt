use Rattle.image.proofs.Pieces.{places-turn, places-end}
use mathlib.Core.Path.{sym}
use Rattle.image.proofs.fits.runs.Goals as goal

pub loop-i-preserved : goal.loop-i-preserved
loop-i-preserved c = rw c.is_graphic.ensures (places-turn _ _ c.loop-i.ok 32 _ _ c.loop-i.invariant c.loop-i-test.true)

pub returns : goal.returns
returns c = sym (places-end _ _ c.loop-i.ok 32 _ _ c.loop-i.invariant c.loop-i-test.false)

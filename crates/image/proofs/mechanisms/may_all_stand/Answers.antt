use Rattle.image.proofs.Pieces.{places-turn, places-end}
use mathlib.Core.Path.{sym}
use Rattle.image.proofs.mechanisms.may_all_stand.Goals as goal

pub loop-i-preserved : goal.loop-i-preserved
loop-i-preserved c = rw c.may_stand-ok.ensures (places-turn _ _ c.loop-i.ok 16 _ _ c.loop-i.invariant c.loop-i-test.true)

pub returns : goal.returns
returns c = sym (places-end _ _ c.loop-i.ok 16 _ _ c.loop-i.invariant c.loop-i-test.false)

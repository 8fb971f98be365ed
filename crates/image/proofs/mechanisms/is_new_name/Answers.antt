use Rattle.codec.proofs.InPlace.{all_at_turn, all_at_end}
use Rattle.image.proofs.Table.{same-name-at}
use mathlib.Core.Path.{sym}
use Rattle.image.proofs.mechanisms.is_new_name.Goals as goal

pub loop-i-preserved : goal.loop-i-preserved
loop-i-preserved c = rw (c.same_name.ensures, ← same-name-at _ _ _) (all_at_turn _ _ _ c.loop-i.ok _ _ _ c.loop-i.invariant c.loop-i-test.true)

pub returns : goal.returns
returns c = sym (all_at_end _ _ _ c.loop-i.ok _ _ _ c.loop-i.invariant c.loop-i-test.false)

use Prim.Native.Nat.{◌-◌, ◌*◌}
use Rattle.image.proofs.Pieces.{zeros-none}
use Rattle.image.specs.Sizes.{slot_size}
use borrow.Author.Tests.{eq-eqb, ne_eqb}
use Rattle.image.proofs.fits.are_free.Goals as goal

pub returns-else-image-at-eq0 : goal.returns-else-image-at-eq0
returns-else-image-at-eq0 c = rw (eq-eqb _ 0 c.if-i-ne0.false, ne_eqb _ 0 c.if-image-at-eq0.false) (zeros-none _ _ (8 * slot_size - 1) c.if-image-at-eq0.false)

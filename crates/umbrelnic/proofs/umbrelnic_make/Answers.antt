use Rattle.umbrelnic.proofs.Exits.{make-refused, make-done}
use mathlib.Core.Path.{refl}
use Rattle.umbrelnic.proofs.umbrelnic_make.Goals as goal

pub returns-then-image-ne-OCTETS : goal.returns-then-image-ne-OCTETS
returns-then-image-ne-OCTETS c = rw (make-refused c.args.image.now c.args.connection c.args.ticket c.if-image-ne-OCTETS.true) (c.from.ensures, refl)

pub returns : goal.returns
returns c = rw (make-done c.args.image.now c.args.connection c.args.ticket c.if-image-ne-OCTETS.false) (refl, c.make.ensures)

use Rattle.image.proofs.Keys.{number-open}
use Rattle.image.proofs.unique.NumberKey.read.Goals as goal

pub returns : goal.returns
returns c = (rw c.read_number.ensures (number-open _ _ c.requires.1), c.read_number.ensures)

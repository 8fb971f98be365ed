use Rattle.umbrelnic.proofs.Exits.{close-refused, close-done}
use mathlib.Core.Path.{refl, sym, ◌∙◌}
use Rattle.umbrelnic.proofs.umbrelnic_close.Goals as goal

pub returns-in-Err : goal.returns-in-Err
returns-in-Err c = rw (close-refused c.args.image.now c.args.connection _ (sym c.in-Err.is ∙ c.find_connection.ensures)) (c.from.ensures, refl)

pub returns-in-Ok : goal.returns-in-Ok
returns-in-Ok c = rw (close-done c.args.image.now c.args.connection _ (sym c.in-Ok.is ∙ c.find_connection.ensures)) (refl, c.free_slot.ensures)

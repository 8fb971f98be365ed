use Rattle.umbrelnic.proofs.stepping.offer_for.Goals as goal

pub returns : goal.returns
returns c = rw (c.offer.ensures, c.mechanism.ensures, c.read_mechanisms-table.ensures)

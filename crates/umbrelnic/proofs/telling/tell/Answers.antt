use Rattle.umbrelnic.proofs.telling.tell.Goals as goal

pub tell_of-requires : goal.tell_of-requires
tell_of-requires c = (c.requires.0, rw c.read_connection-connection.ensures c.requires.1)

pub returns : goal.returns
returns c = rw c.read_connection-connection.ensures at c.tell_of.ensures

use Rattle.image.proofs.Keys.{ticket-open, ticket_none}
use Rattle.image.proofs.unique.TicketKey.read.Goals as goal

pub returns-then-image-at-ne-WAITING : goal.returns-then-image-at-ne-WAITING
returns-then-image-at-ne-WAITING c = ticket_none _ _ c.requires.1 c.if-image-at-ne-WAITING.true

pub returns : goal.returns
returns c = (rw c.read_number.ensures (ticket-open _ _ c.requires.1 c.if-image-at-ne-WAITING.false), c.read_number.ensures)

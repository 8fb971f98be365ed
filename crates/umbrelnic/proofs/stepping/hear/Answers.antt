use Rattle.umbrelnic.proofs.Lines.{line-issued, line_responds, line-room, line-done}
use Rattle.umbrelnic.proofs.stepping.hear.Goals as goal

pub issue-requires : goal.issue-requires
issue-requires c = rw (c.line-stepped.ensures, c.offer_for-offer.ensures, c.read-view.ensures, c.read_header-header.ensures, c.read_connection-connection.ensures)
    (line-issued c.args.image.now c.args.number c.args.line.now c.args.reply.now c.args.answer.now c.requires.0 c.requires.2 _ c.requires.1)

pub hand_over-requires : goal.hand_over-requires
hand_over-requires c = rw (c.line-stepped.ensures, c.offer_for-offer.ensures, c.read-view.ensures, c.read_header-header.ensures, c.read_connection-connection.ensures)
    (line_responds c.args.image.now c.args.number c.args.line.now c.args.reply.now c.args.answer.now c.requires.0 c.requires.2 _ c.requires.1)

pub respond-requires : goal.respond-requires
respond-requires c = rw (c.line-stepped.ensures, c.offer_for-offer.ensures, c.read-view.ensures, c.read_header-header.ensures, c.read_connection-connection.ensures)
    (line-room c.args.image.now c.args.number c.args.line.now c.args.reply.now c.args.answer.now c.requires.0 c.requires.2 _ c.requires.1)

pub returns : goal.returns
returns c = rw (c.from.ensures, c.respond.ensures.0, c.respond.ensures.1, c.hand_over.ensures, c.issue.ensures, c.keep.ensures)
    (rw (c.line-stepped.ensures, c.offer_for-offer.ensures, c.read-view.ensures, c.read_header-header.ensures, c.read_connection-connection.ensures)
    (line-done c.args.image.now c.args.number c.args.line.now c.args.reply.now c.args.answer.now c.requires.0 c.requires.2 _ c.requires.1))

use Rattle.umbrelnic.proofs.Verdicts.{verdict-room, verdict-done}
use Rattle.umbrelnic.proofs.stepping.rule.Goals as goal

pub respond-requires : goal.respond-requires
respond-requires c = rw (c.verdict-stepped.ensures, c.read_connection-connection.ensures)
    (verdict-room c.args.image.now c.args.ticket c.args.bytes.now c.args.reply.now c.requires.0 _ c.requires.1 c.args.verdict c.requires.2)

pub returns : goal.returns
returns c = rw (c.from.ensures, c.respond.ensures.0, c.respond.ensures.1, c.keep.ensures, c.verdict-stepped.ensures, c.read_connection-connection.ensures)
    (verdict-done c.args.image.now c.args.ticket c.args.bytes.now c.args.reply.now c.requires.0 _ c.requires.1 c.args.verdict)

use Rattle.octets.proofs.Answers.{nothing_written}
use Rattle.umbrelnic.proofs.Verdicts.{verdict-unlisted}
use mathlib.Core.Path.{sym, ◌∙◌}
use Rattle.umbrelnic.proofs.stepping.judge.Goals as goal

pub returns-in-Err : goal.returns-in-Err
returns-in-Err c = rw (sym c.try_from-listed.ensures ∙ c.in-Err.is)
    (record {
      given = rw (verdict-unlisted c.args.image.now c.args.ticket c.args.bytes.now c.args.reply.now c.requires.0 _ c.requires.1) c.from.ensures;
      image = rw (verdict-unlisted c.args.image.now c.args.ticket c.args.bytes.now c.args.reply.now c.requires.0 _ c.requires.1);
      heard = rw (verdict-unlisted c.args.image.now c.args.ticket c.args.bytes.now c.args.reply.now c.requires.0 _ c.requires.1) (sym (nothing_written _));
    })

pub returns-in-Ok : goal.returns-in-Ok
returns-in-Ok c = rw (sym c.try_from-listed.ensures ∙ c.in-Ok.is) c.rule.ensures

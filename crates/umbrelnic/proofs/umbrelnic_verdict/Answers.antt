use Rattle.calls.specs.Call as Call
use Rattle.octets.proofs.Answers.{nothing_written}
use Rattle.profile.specs.Numbers.{verdict_of}
use Rattle.profile.specs.declared.numbers.Refusal.TheVariants.{NoTicket}
use Rattle.server.specs.Slots.{is_waiting, holding}
use Rattle.session.specs.Limits.{reply_buffer, answer_buffer}
use Rattle.umbrelnic.proofs.Exits.{step-short, placed_at}
use Rattle.umbrelnic.proofs.Lines.{room}
use Rattle.umbrelnic.proofs.Verdicts.{nothing-handed, verdict-on, verdict-refused}
use lib.ListN.{length}
use mathlib.Core.Path.{refl, sym, ◌∙◌}
use Rattle.umbrelnic.proofs.umbrelnic_verdict.Goals as goal

pub returns-then-are_short : goal.returns-then-are_short
returns-then-are_short c = rw (step-short c.args.image.now (Call.verdict c.args.ticket c.args.verdict c.args.bytes.now c.args.reply.now c.args.answer.now)
    (sym c.are_short.ensures ∙ c.if-are_short.true))
    (c.from.ensures, refl, sym (nothing_written _), sym (nothing_written _))

pub judge-requires : goal.judge-requires
judge-requires c = let p = placed_at NoTicket (holding (is_waiting c.args.ticket)) c.args.image.now _ (sym c.in-Ok.is ∙ c.find_ticket.ensures) in
    (p.0, p.1, (room reply_buffer answer_buffer (length c.args.reply.now) (length c.args.answer.now) (sym c.are_short.ensures ∙ c.if-are_short.false)).0)

pub returns-in-Err : goal.returns-in-Err
returns-in-Err c = rw (verdict-refused c.args.image.now c.args.ticket c.args.verdict c.args.bytes.now c.args.reply.now c.args.answer.now
    (sym c.are_short.ensures ∙ c.if-are_short.false) _ (sym c.in-Err.is ∙ c.find_ticket.ensures))
    (c.from-in-Err.ensures, refl, sym (nothing_written _), sym (nothing_written _))

pub returns-in-Ok : goal.returns-in-Ok
returns-in-Ok c = let p = placed_at NoTicket (holding (is_waiting c.args.ticket)) c.args.image.now _ (sym c.in-Ok.is ∙ c.find_ticket.ensures) in
    rw (verdict-on c.args.image.now c.args.ticket c.args.verdict c.args.bytes.now c.args.reply.now c.args.answer.now p.0 (sym c.are_short.ensures ∙ c.if-are_short.false)) (
      c.judge.ensures.given,
      c.judge.ensures.image,
      c.judge.ensures.heard,
      rw (nothing-handed c.args.image.now c.args.ticket c.args.bytes.now c.args.reply.now p.0 _ p.1 (verdict_of c.args.verdict) c.args.verdict)
          (sym (nothing_written _)),
    )

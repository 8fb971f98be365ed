use Rattle.calls.specs.Call as Call
use Rattle.octets.proofs.Answers.{nothing_written}
use Rattle.profile.specs.declared.numbers.Refusal.TheVariants.{NoConnection}
use Rattle.server.specs.Slots.{is_numbered, holding}
use Rattle.umbrelnic.proofs.Exits.{step-short, placed_at}
use Rattle.umbrelnic.proofs.Lines.{line_refused}
use mathlib.Core.Path.{refl, sym, ◌∙◌}
use Rattle.umbrelnic.proofs.umbrelnic_line.Goals as goal

pub returns-then-are_short : goal.returns-then-are_short
returns-then-are_short c = rw (step-short c.args.image.now (Call.line c.args.connection c.args.line.now c.args.reply.now c.args.answer.now) (sym c.are_short.ensures ∙ c.if-are_short.true))
    (c.from.ensures, refl, sym (nothing_written _), sym (nothing_written _))

pub hear-requires : goal.hear-requires
hear-requires c = let p = placed_at NoConnection (holding (is_numbered c.args.connection)) c.args.image.now _ (sym c.in-Ok.is ∙ c.find_connection.ensures) in
    (p.0, p.1, sym c.are_short.ensures ∙ c.if-are_short.false)

pub returns-in-Err : goal.returns-in-Err
returns-in-Err c = rw (line_refused c.args.image.now c.args.connection c.args.line.now c.args.reply.now c.args.answer.now
    (sym c.are_short.ensures ∙ c.if-are_short.false) _ (sym c.in-Err.is ∙ c.find_connection.ensures))
    (c.from-in-Err.ensures, refl, sym (nothing_written _), sym (nothing_written _))

pub returns-in-Ok : goal.returns-in-Ok
returns-in-Ok c = (c.hear.ensures.given, c.hear.ensures.image, c.hear.ensures.heard, c.hear.ensures.handed)

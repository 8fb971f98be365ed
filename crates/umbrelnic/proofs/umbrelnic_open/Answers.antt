use Rattle.calls.specs.Call as Call
use Rattle.image.proofs.Laws.{not_taken}
use Rattle.umbrelnic.proofs.Exits.{step-untaken}
use Rattle.umbrelnic.proofs.Opens.{open-unlisted, open-neither, open-listed}
use mathlib.Core.Path.{refl, sym, ◌∙◌}
use Rattle.umbrelnic.proofs.umbrelnic_open.Goals as goal

pub returns-then-not-is_taken : goal.returns-then-not-is_taken
returns-then-not-is_taken c = rw (step-untaken c.args.image.now (Call.opens c.args.profile c.args.protected) refl (not_taken c.args.image.now (sym c.is_taken.ensures ∙ c.if-not-is_taken.true)))
    (c.from.ensures, refl)

pub enter-requires : goal.enter-requires
enter-requires c = sym c.is_taken.ensures ∙ c.if-not-is_taken.false

pub returns-in-Err : goal.returns-in-Err
returns-in-Err c = rw (open-unlisted c.args.image.now (sym c.is_taken.ensures ∙ c.if-not-is_taken.false) c.args.profile c.args.protected (sym c.in-Err.is ∙ c.try_from.ensures))
    (c.from-in-Err.ensures, refl)

pub returns-then-protected-le1 : goal.returns-then-protected-le1
returns-then-protected-le1 c = rw (open-listed c.args.image.now (sym c.is_taken.ensures ∙ c.if-not-is_taken.false) c.args.profile c.args.protected _
    (sym c.in-Ok.is ∙ c.try_from.ensures) c.if-protected-le1.true)
    c.enter.ensures

pub returns-else-protected-le1 : goal.returns-else-protected-le1
returns-else-protected-le1 c = rw (open-neither c.args.image.now (sym c.is_taken.ensures ∙ c.if-not-is_taken.false) c.args.profile c.args.protected _
    (sym c.in-Ok.is ∙ c.try_from.ensures) c.if-protected-le1.false)
    (c.from-else-protected-le1.ensures, refl)

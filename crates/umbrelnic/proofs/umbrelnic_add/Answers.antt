use Rattle.calls.specs.Call as Call
use Rattle.image.proofs.Laws.{not_taken}
use Rattle.umbrelnic.proofs.Adds.{add-unlisted, add-listed}
use Rattle.umbrelnic.proofs.Exits.{step-untaken}
use mathlib.Core.Path.{refl, sym, ◌∙◌}
use Rattle.umbrelnic.proofs.umbrelnic_add.Goals as goal

pub returns-then-not-is_taken : goal.returns-then-not-is_taken
returns-then-not-is_taken c = rw (step-untaken c.args.image.now (Call.add c.args.name.now c.args.client_first c.args.needs_protection) refl
    (not_taken c.args.image.now (sym c.is_taken.ensures ∙ c.if-not-is_taken.true)))
    (c.from.ensures, refl)

pub returns-then-not-client_first-needs_protection : goal.returns-then-not-client_first-needs_protection
returns-then-not-client_first-needs_protection c = rw
    (add-unlisted c.args.image.now (sym c.is_taken.ensures ∙ c.if-not-is_taken.false) c.args.name.now c.args.client_first c.args.needs_protection
    c.if-not-client_first-needs_protection.true)
    (c.from-then-not-client_first-needs_protection.ensures, refl)

pub add-requires : goal.add-requires
add-requires c = sym c.is_taken.ensures ∙ c.if-not-is_taken.false

pub returns : goal.returns
returns c = rw (add-listed c.args.image.now (sym c.is_taken.ensures ∙ c.if-not-is_taken.false) c.args.name.now c.args.client_first c.args.needs_protection c.if-not-client_first-needs_protection.false)
    c.add.ensures

use Rattle.umbrelnic.proofs.Adds.{add-sealed, add-bad, add-present, add-full, add-gives, add-leaves}
use mathlib.Core.Path.{refl, sym, ◌∙◌}
use Rattle.umbrelnic.proofs.adding.add.Goals as goal

pub returns-then-header : goal.returns-then-header
returns-then-header c = rw (add-sealed c.args.image.now c.requires c.args.name.now c.args.client_first c.args.needs_protection (rw c.read_header-header.ensures at c.if-header.true))
    (c.from.ensures, refl)

pub returns-then-not-is_mechanism : goal.returns-then-not-is_mechanism
returns-then-not-is_mechanism c = rw (add-bad c.args.image.now c.requires c.args.name.now c.args.client_first c.args.needs_protection
    (rw c.read_header-header.ensures at c.if-header.false) (sym c.is_mechanism.ensures ∙ c.if-not-is_mechanism.true))
    (c.from-then-not-is_mechanism.ensures, refl)

pub returns-then-is_some : goal.returns-then-is_some
returns-then-is_some c = rw (add-present c.args.image.now c.requires c.args.name.now c.args.client_first c.args.needs_protection
    (rw c.read_header-header.ensures at c.if-header.false) (sym c.is_mechanism.ensures ∙ c.if-not-is_mechanism.false)
    (rw (c.offer.ensures, c.read_mechanisms-table.ensures, c.new-mechanism.ensures) at (sym c.is_some.ensures ∙ c.if-is_some.true)))
    (c.from-then-is_some.ensures, refl)

pub returns-then-count-ge-MOST_MECHANISMS : goal.returns-then-count-ge-MOST_MECHANISMS
returns-then-count-ge-MOST_MECHANISMS c = rw (add-full c.args.image.now c.requires c.args.name.now c.args.client_first c.args.needs_protection
    (rw c.read_header-header.ensures at c.if-header.false) (sym c.is_mechanism.ensures ∙ c.if-not-is_mechanism.false)
    (rw (c.offer.ensures, c.read_mechanisms-table.ensures, c.new-mechanism.ensures) at (sym c.is_some.ensures ∙ c.if-is_some.false))
    (rw c.read_mechanisms-table.ensures at c.if-count-ge-MOST_MECHANISMS.true))
    (c.from-then-count-ge-MOST_MECHANISMS.ensures, refl)

pub returns : goal.returns
returns c = let s = rw c.read_header-header.ensures at c.if-header.false in
    let m = sym c.is_mechanism.ensures ∙ c.if-not-is_mechanism.false in
    let p = rw (c.offer.ensures, c.read_mechanisms-table.ensures, c.new-mechanism.ensures) at (sym c.is_some.ensures ∙ c.if-is_some.false) in
    let h = rw c.read_mechanisms-table.ensures at c.if-count-ge-MOST_MECHANISMS.false in
    rw (add-gives c.args.image.now c.requires c.args.name.now c.args.client_first c.args.needs_protection s m p h) (
      refl,
      rw (c.write_mechanism.ensures, c.read_mechanisms-table.ensures, c.new-mechanism.ensures)
          (add-leaves c.args.image.now c.requires c.args.name.now c.args.client_first c.args.needs_protection s m p h _),
    )

use Prim.Native.Nat.{◌+◌, ◌-◌, ◌%◌}
use Rattle.image.proofs.Differ.{met_start}
use Rattle.image.proofs.Walk.{walk_start, walk_turn, walk-skip, walk_end, walk_fail}
use Rattle.octets.proofs.Cases.{both}
use borrow.Author.Rules.{rules}
use borrow.Author.Tests.{eqb-true}
use lib.Dec.{eqb}
use mathlib.Core.Bool.{true}
use mathlib.Core.Path.{◌≡◌, refl, sym, ◌∙◌}
use native.Mathlib.Omega.{arith}
use Rattle.image.proofs.fits.slots_fit.Goals as goal

pub loop-i-init : goal.loop-i-init
loop-i-init c = (search rules, walk_start _ _, met_start _ _ _ _ refl, met_start _ _ _ _ refl)

pub loop-i-preserved-then-are_free : goal.loop-i-preserved-then-are_free
loop-i-preserved-then-are_free c = let free = both (eqb (c.loop-i.i % 8) 0) _ (sym c.are_free.ensures ∙ c.if-are_free.true) in
    let z : c.loop-i.i % 8 ≡ 0 = eqb-true _ _ free.0 in
    let e : c.loop-i.i - 8 + 8 ≡ c.loop-i.i = omega (arith, z) in
    let w = walk-skip c.args.image.now c.args.header c.loop-i.numbers c.loop-i.tickets 8 (c.loop-i.i - 8) (omega (arith, z)) free.1
    (rw e c.loop-i.invariant.1) (rw e c.loop-i.invariant.2) (rw e c.loop-i.invariant.3) in
    (omega arith, w.0, w.1, w.2)

pub returns-then-not-slot_joins : goal.returns-then-not-slot_joins
returns-then-not-slot_joins c = let e : c.loop-i.i - 1 + 1 ≡ c.loop-i.i = omega arith in
    walk_fail _ _ (c.loop-i.i - 1) (omega arith) (rw e c.loop-i.invariant.1) (sym c.if-not-slot_joins.true ∙ c.slot_joins.ensures.0)

pub loop-i-preserved : goal.loop-i-preserved
loop-i-preserved c = let e : c.loop-i.i - 1 + 1 ≡ c.loop-i.i = omega arith in
    let r = c.if-not-slot_joins.false in
    (omega arith, sym (walk_turn _ _ (c.loop-i.i - 1) (omega arith) true true (sym (rw e c.loop-i.invariant.1)) (sym r ∙ c.slot_joins.ensures.0)), c.slot_joins.ensures.1 r, c.slot_joins.ensures.2 r)

pub returns : goal.returns
returns c = walk_end _ _ _ c.loop-i.invariant.1 (search rules)

use Rattle.image.proofs.Table.{names-other, names-rest}
use borrow.Author.Tests.{eq-eqb, ne_eqb}
use native.Mathlib.Omega.{arith}
use Rattle.image.proofs.mechanisms.same_name.Goals as goal

pub returns-then-read_number : goal.returns-then-read_number
returns-then-read_number c = names-other _ _ _ _ (λ i. omega (arith, c.type_inv.image i)) (λ i. omega (arith, c.type_inv.image i))
    (rw (c.read_number.ensures, c.read_number-2.ensures) at (ne_eqb _ _ c.if-read_number.true))

pub returns : goal.returns
returns c = rw (c.read_number-6.ensures, c.read_number-5.ensures, c.read_number-4.ensures, c.read_number-3.ensures)
    (names-rest _ _ _ _ (λ i. omega (arith, c.type_inv.image i)) (λ i. omega (arith, c.type_inv.image i))
    (rw (c.read_number.ensures, c.read_number-2.ensures) at (eq-eqb _ _ c.if-read_number.false)))

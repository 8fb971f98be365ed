use Rattle.std.proofs.Common.{◌≡◌, ◌≤◌, drop}
use Rattle.script.specs.Number.{most, digits_from}
use Rattle.script.proofs.number.digits.Given as goal

abbrev pub invariant-loop-x : goal.invariant-loop-x
invariant-loop-x l = (l.n ≤ most) × (digits_from l.n (drop l.x-index l.text) ≡ digits_from 0 l.text)

use Rattle.std.proofs.Common.{◌≡◌, ◌+◌, ◌-◌}
use Rattle.base64text.specs.Private.{number_range}
use Rattle.base64text.proofs.number_range.Given as goal

abbrev pub invariant-loop-x : goal.invariant-loop-x
invariant-loop-x l = number_range l.table l.x l.high (l.number + (l.x - l.low)) ≡ number_range l.initial.table l.low l.high l.number

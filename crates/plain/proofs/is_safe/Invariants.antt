use Rattle.std.proofs.Common.{◌≡◌, drop, Some}
use Rattle.plain.specs.Utf8.{safe_from, safe}
use Rattle.plain.proofs.is_safe.Given as goal

abbrev pub invariant-loop-x : goal.invariant-loop-x
invariant-loop-x l = safe_from (Some l.need) (drop l.x-index l.bytes) ≡ safe l.bytes

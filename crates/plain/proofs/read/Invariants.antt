use Rattle.std.proofs.Common.{◌≡◌, ◌≤◌, drop, Some}
use Rattle.plain.specs.Message.{fields}
use Rattle.plain.proofs.Scans.{result}
use Rattle.plain.proofs.read.Given as goal

abbrev pub invariant-loop-x : goal.invariant-loop-x
invariant-loop-x l = (l.scan.length ≤ l.x-index) × (result (Some l.scan) (drop l.x-index l.message) ≡ fields l.message)

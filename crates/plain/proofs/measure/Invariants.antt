use Rattle.std.proofs.Common.{◌≡◌, ◌*◌, ◌≤◌, drop, Some, flat_map}
use Rattle.base64text.proofs.Laws.{octets_at}
use Rattle.plain.specs.Message.{measured}
use Rattle.plain.proofs.Scans.{result}
use Rattle.plain.proofs.measure.Given as goal

abbrev pub invariant-loop-a : goal.invariant-loop-a
invariant-loop-a l = (l.scan.length ≤ l.a-index * 3) × (result (Some l.scan) (flat_map octets_at (drop l.a-index l.groups)) ≡ measured l.text)

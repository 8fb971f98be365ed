use Prim.Native.Nat.{◌+◌}
use Rattle.octets.specs.Lists.{before}
use lib.ListN.{length, drop}
use mathlib.Core.Path.{◌≡◌}
use Rattle.octets.proofs.find.Given as goal

abbrev pub invariant-loop-i : goal.invariant-loop-i
invariant-loop-i l = l.i + length (before l.x (drop l.i l.line)) ≡ l.at + length (before l.x (drop l.at l.line))

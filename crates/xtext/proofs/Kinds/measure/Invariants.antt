use Prim.Native.Nat.{◌-◌, ◌≤◌}
use Rattle.xtext.proofs.Turns.{from}
use Rattle.xtext.specs.Xtext.{measured}
use lib.ListN.{length, drop}
use mathlib.Core.Path.{◌≡◌}
use Rattle.xtext.proofs.Kinds.measure.Given as goal

abbrev pub invariant-loop-i : goal.invariant-loop-i
invariant-loop-i l = record {
  more : l.more ≤ l.i;
  inside : l.i ≤ length l.text;
  measured : from (l.i - l.more) (drop l.i l.text) ≡ measured l.text;
}

abbrev pub decreases-loop-i : goal.decreases-loop-i
decreases-loop-i l = length l.text - l.i

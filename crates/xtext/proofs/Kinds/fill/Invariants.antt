use Rattle.std.proofs.Common.{◌≡◌, true, take, drop, ◌++◌}
use Rattle.xtext.specs.Xtext.{valid, octets}
use Rattle.xtext.proofs.Kinds.fill.Given as goal

abbrev pub invariant-loop-slot : goal.invariant-loop-slot
invariant-loop-slot l = record {
  xtext : valid (drop l.i l.text) ≡ true;
  filled : take l.slot-index l.slot-items ++ octets (drop l.i l.text) ≡ octets l.text;
}

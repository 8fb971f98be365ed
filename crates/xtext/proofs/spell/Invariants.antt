use Prim.Native.Nat.{◌+◌}
use Rattle.xtext.specs.Xtext.{encode}
use lib.ListN.{length, drop}
use lib.Seq.{sets}
use mathlib.Core.Path.{◌≡◌}
use Rattle.xtext.proofs.spell.Given as goal

abbrev pub invariant-loop-x : goal.invariant-loop-x
invariant-loop-x l = record {
  room : l.n + length (encode (drop l.x-index l.bytes)) ≡ l.at + length (encode l.bytes);
  wrote : sets l.out l.n (encode (drop l.x-index l.bytes)) ≡ sets l.initial.out l.at (encode l.bytes);
}

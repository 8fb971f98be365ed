use Rattle.std.proofs.Common.{◌≡◌, not, count_by, take}
use Rattle.xtext.specs.Xtext.{xchar}
use Rattle.xtext.proofs.Kinds.escapes.Given as goal

abbrev pub invariant-loop-x : goal.invariant-loop-x
invariant-loop-x l = l.n ≡ count_by (λ x. not (xchar x)) (take l.x-index l.bytes)

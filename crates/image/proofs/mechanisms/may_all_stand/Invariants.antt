use Prim.Native.Nat.{◌+◌, ◌-◌}
use Rattle.codec.specs.InPlace.{every_at}
use Rattle.image.specs.Private.{may_stand_at}
use mathlib.Core.Bool.{◌&&◌}
use mathlib.Core.Path.{◌≡◌}
use Rattle.image.proofs.mechanisms.may_all_stand.Given as goal

abbrev pub invariant-loop-i : goal.invariant-loop-i
invariant-loop-i l =
    every_at (may_stand_at l.image) 1 16 l.at ≡ (l.ok && every_at (may_stand_at l.image) 1 (16 - l.i) (l.at + l.i))

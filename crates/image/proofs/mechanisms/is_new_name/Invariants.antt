use Prim.Native.Nat.{◌+◌, ◌-◌, ◌*◌}
use Rattle.codec.specs.InPlace.{every_at}
use Rattle.image.specs.Private.{is_other_at}
use Rattle.image.specs.Sizes.{mechanism_size}
use mathlib.Core.Bool.{◌&&◌}
use mathlib.Core.Path.{◌≡◌}
use Rattle.image.proofs.mechanisms.is_new_name.Given as goal

abbrev pub invariant-loop-i : goal.invariant-loop-i
invariant-loop-i l =
    every_at (is_other_at l.image l.at) mechanism_size l.n (l.at + mechanism_size)
    ≡ (l.ok && every_at (is_other_at l.image l.at) mechanism_size (l.n - l.i) (l.at + mechanism_size + l.i * mechanism_size))

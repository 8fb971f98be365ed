use Prim.Native.Nat.{◌+◌, ◌-◌, ◌*◌}
use Rattle.image.proofs.Table.{records_fit}
use Rattle.image.specs.InPlace.{mechanism_offset}
use Rattle.image.specs.Sizes.{mechanism_size}
use mathlib.Core.Bool.{◌&&◌}
use mathlib.Core.Path.{◌≡◌}
use Rattle.image.proofs.mechanisms.records_fit.Given as goal

abbrev pub invariant-loop-i : goal.invariant-loop-i
invariant-loop-i l =
    records_fit l.image l.count (mechanism_offset 0) ≡ (l.ok && records_fit l.image (l.count - l.i) (mechanism_offset 0 + l.i * mechanism_size))

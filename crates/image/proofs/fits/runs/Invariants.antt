use Prim.Native.Nat.{◌+◌, ◌-◌}
use Rattle.image.specs.Private.{runs_at}
use mathlib.Core.Bool.{◌&&◌}
use mathlib.Core.Path.{◌≡◌}
use Rattle.image.proofs.fits.runs.Given as goal

abbrev pub invariant-loop-i : goal.invariant-loop-i
invariant-loop-i l =
    runs_at l.image 32 l.at ≡ (l.ok && runs_at l.image (32 - l.i) (l.at + l.i))

use Rattle.image.specs.Private.{buckets_of, digits, empty_bucket}
use mathlib.Core.Path.{◌≡◌}
use Rattle.image.proofs.unique.find_empty.Given as goal

abbrev pub invariant-loop-rest : goal.invariant-loop-rest
invariant-loop-rest l = empty_bucket l.image l.offset l.table l.number (buckets_of l.number) ≡ empty_bucket l.image l.offset l.table l.number (digits l.rest l.rest)

abbrev pub decreases-loop-rest : goal.decreases-loop-rest
decreases-loop-rest l = l.rest

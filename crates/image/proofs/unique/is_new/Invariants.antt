use Rattle.std.proofs.Common.{◌≡◌, not, drop}
use Rattle.octets.specs.Lists.{every}
use Rattle.server.specs.WellFormed.{has}
use Rattle.image.specs.Private.{slots_at}
use Rattle.image.proofs.unique.is_new.Given as goal

abbrev pub invariant-loop-i : goal.invariant-loop-i
invariant-loop-i g l =
    every (λ y. not (has (g.K.Key.key y) l.number)) (drop l.from (slots_at l.image)) ≡ every (λ y. not (has (g.K.Key.key y) l.number)) (drop l.i (slots_at l.image))

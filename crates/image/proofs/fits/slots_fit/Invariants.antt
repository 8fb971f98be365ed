use Prim.Native.Nat.{◌≤◌}
use Rattle.image.specs.Private.{slot_number, slot_ticket, Met, fit_from}
use Rattle.server.specs.Limits.{most_connections}
use Rattle.server.specs.WellFormed.{number_of, ticket_of}
use mathlib.Core.Bool.{true}
use mathlib.Core.Path.{◌≡◌}
use Rattle.image.proofs.fits.slots_fit.Given as goal

abbrev pub invariant-loop-i : goal.invariant-loop-i
invariant-loop-i l = (l.i ≤ most_connections) × (fit_from l.image l.header l.i ≡ true) × Met number_of slot_number l.image l.i l.numbers × Met ticket_of slot_ticket l.image l.i l.tickets

abbrev pub decreases-loop-i : goal.decreases-loop-i
decreases-loop-i l = l.i

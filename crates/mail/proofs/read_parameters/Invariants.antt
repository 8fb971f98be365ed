use Prim.Native.Nat.{◌-◌}
use Rattle.mail.specs.Private.{read_parameters}
use Rattle.mail.specs.declared.Mail.TheVariants.{Absent}
use lib.ListN.{length, drop}
use mathlib.Core.Bool.{false}
use mathlib.Core.Path.{◌≡◌}
use Rattle.mail.proofs.read_parameters.Given as goal

abbrev pub invariant-loop-x : goal.invariant-loop-x
invariant-loop-x l = read_parameters l.auth l.submitter l.i (drop l.i l.line) ≡ read_parameters Absent false l.at (drop l.at l.line)

abbrev pub decreases-loop-x : goal.decreases-loop-x
decreases-loop-x l = length l.line - l.i

use Prim.Native.Nat.{◌+◌, ◌-◌, ◌≤◌}
use Rattle.mail.proofs.States.{going}
use Rattle.mail.specs.Mail.{space}
use Rattle.mail.specs.Private.{judged}
use Rattle.octets.specs.Lists.{before}
use lib.ListN.{length, drop}
use mathlib.Core.Path.{◌≡◌}
use Rattle.mail.proofs.address.judge.Given as goal

abbrev pub invariant-loop-value : goal.invariant-loop-value
invariant-loop-value l =
    let to = l.from + length (before space (drop l.from l.line)) in
    record {
      counted : l.length ≤ l.i;
      ends : l.i + length (before space (drop l.i l.line)) ≡ to;
      same : going l.s l.from to l.length (before space (drop l.i l.line)) ≡ judged l.from (before space (drop l.from l.line));
    }

abbrev pub decreases-loop-value : goal.decreases-loop-value
decreases-loop-value l = length l.line - l.i

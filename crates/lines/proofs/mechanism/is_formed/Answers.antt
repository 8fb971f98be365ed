use Rattle.std.proofs.Common.{rules, arith}
use Rattle.std.proofs.lemmas.Bool.Decides.{nat_tests}
use Rattle.octets.specs.Lists.{one_to}
use Rattle.octets.proofs.Chains.{every_all}
use Rattle.lines.proofs.mechanism.is_formed.Goals as goal
use Rattle.lines.proofs.mechanism.is_formed.Goals.{then-contains, else-contains}

pub returns : goal.returns
unfolding one_to
returns g c = λ f h. elim c.if-contains.branch [
  | then-contains w ↦
      let a = every_all f c.args.text.now w.all.ensures.ran (cc) (λ x b q k. search (rules, h)) in
      grind (arith, nat_tests)
  | else-contains w ↦ grind (arith, nat_tests)
]

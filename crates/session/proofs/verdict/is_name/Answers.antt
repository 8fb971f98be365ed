use Rattle.std.proofs.Common.{arith, rules, tests}
use Rattle.std.proofs.lemmas.Grind.{common_steps}
use Rattle.octets.proofs.Chains.{one_to_all}
use Rattle.session.specs.Verdict.{graphic}
use Rattle.session.proofs.verdict.is_name.Goals as goal

pub returns-then-contains : goal.returns-then-contains
returns-then-contains c = one_to_all 64 graphic c.args.bytes.now (grind (arith, common_steps)) (grind (arith, common_steps)) c.all.ensures.ran (cc) (λ x b q k. search (rules, tests))

use Rattle.std.proofs.Common.{arith, rules, tests}
use Rattle.std.proofs.lemmas.Grind.{common_steps}
use Rattle.server.specs.Mechanisms.{listed}
use Rattle.server.proofs.Tables.{offered_found}
use Rattle.server.proofs.Mechanisms.offer.Goals as goal

pub returns : goal.returns
returns c =
    let e = offered_found (listed c.args.self) c.args.name _ c.find.result c.find.ensures.ran (cc) (λ x b q k. search (rules, tests)) in
    grind (arith, common_steps)

use Rattle.std.proofs.Common.{rules, tests}
use Rattle.octets.proofs.Chains.{every_all}
use Rattle.script.specs.Hex.{hexdig}
use Rattle.script.proofs.hex.is_hex.Goals as goal

pub returns : goal.returns
returns c = every_all hexdig c.args.text.now c.all.ensures.ran (cc) (λ x b q k. search (rules, tests))

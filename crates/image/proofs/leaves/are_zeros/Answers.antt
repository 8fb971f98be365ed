use Rattle.std.proofs.Common.{◌&&◌, true, nat_eq, take, drop, ◌+◌, ◌-◌, ◌∙◌, rules, tests, arith}
use Rattle.std.proofs.lemmas.Iterator.{YieldsList-from_slice}
use Rattle.std.proofs.lemmas.Iterator.Consumers.{fold_from_yields_List}
use Rattle.image.proofs.Values.{are_zeros}
use Rattle.image.proofs.leaves.are_zeros.Goals as goal

pub returns : goal.returns
returns c =
    let octets = take (c.args.at + c.args.count - c.args.at) (drop c.args.at c.args.image.now) in
    fold_from_yields_List _ (λ b x. b && nat_eq x 0) true c.fold.result c.fold.ensures.ran (YieldsList-from_slice octets cc) (λ b x r q k. search (rules, tests))
    ∙ are_zeros c.args.image.now c.args.at _ c.args.count c.requires (omega arith)

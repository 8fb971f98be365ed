use Rattle.std.proofs.Common.{rules}
use Rattle.image.proofs.Parts.{table_of_records}
use Rattle.image.proofs.records.read_table.Goals as goal

pub returns : goal.returns
returns c =
    let all = c.from_fn.ensures.items in
    table_of_records c.args.image.now c.from_fn.result all.long (λ i d h. let k = all.at i d h in search rules)

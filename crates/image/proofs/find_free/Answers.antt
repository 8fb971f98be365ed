use Rattle.std.proofs.Common.{rules, tests}
use Rattle.server.specs.Slots.{is_free}
use Rattle.image.proofs.Places.{found_by_find}
use Rattle.image.proofs.find_free.Goals as goal

pub returns : goal.returns
returns c = found_by_find is_free c.args.image.now _ _ c.find.result c.in_ok-image.ensures.0 c.find.ensures.ran (λ i b h k. search (rules, tests))

use Rattle.std.proofs.Common.{rules, tests}
use Rattle.server.specs.Slots.{is_numbered, holding}
use Rattle.image.proofs.Places.{found_by_find}
use Rattle.image.proofs.find_connection.Goals as goal

pub returns : goal.returns
returns c = found_by_find (holding (is_numbered c.args.number)) c.args.image.now _ _ c.find.result c.in_ok-image.ensures.0 c.find.ensures.ran (λ i b h k. search (rules, tests))

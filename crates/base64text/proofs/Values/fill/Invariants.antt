use Rattle.std.proofs.Common.{◌≡◌, ◌*◌, take, flat_map}
use Rattle.std.proofs.lemmas.List.Edits.{sets}
use Rattle.base64text.proofs.Turns.{three_in}
use Rattle.base64text.proofs.Values.fill.Given as goal

abbrev pub invariant-loop-a : goal.invariant-loop-a
invariant-loop-a l = (l.n ≡ l.a-index * 3) × (l.out ≡ sets l.initial.out 0 (flat_map three_in (take l.a-index l.before)))

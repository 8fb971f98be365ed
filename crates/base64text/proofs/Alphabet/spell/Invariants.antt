use Rattle.std.proofs.Common.{◌≡◌, ◌+◌, ◌*◌, take, flat_map}
use Rattle.std.proofs.lemmas.List.Edits.{sets}
use Rattle.base64text.proofs.Quads.{quad_in}
use Rattle.base64text.proofs.Alphabet.spell.Given as goal

abbrev pub invariant-loop-a : goal.invariant-loop-a
invariant-loop-a l = (l.n ≡ l.at + l.a-index * 4) × (l.out ≡ sets l.initial.out l.at (flat_map quad_in (take l.a-index l.threes)))

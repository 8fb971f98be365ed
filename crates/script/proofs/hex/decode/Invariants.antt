use Rattle.std.proofs.Common.{◌≡◌, ◌*◌, drop}
use Rattle.std.proofs.lemmas.List.Edits.{sets}
use Rattle.script.specs.Hex.{octets}
use Rattle.script.proofs.hex.decode.Given as goal

abbrev pub invariant-loop-i : goal.invariant-loop-i
invariant-loop-i l = sets l.out l.i (octets (drop (l.i * 2) l.text)) ≡ sets l.initial.out 0 (octets l.text)

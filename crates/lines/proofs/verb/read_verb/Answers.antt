use Rattle.std.proofs.Common.{◌∙◌, arith}
use Rattle.lines.proofs.Verbs.{four}
use Rattle.lines.proofs.verb.read_verb.Goals as goal

pub returns-in-len4 : goal.returns-in-len4
returns-in-len4 c = c.verb_of.ensures ∙ four c.args.line.now (grind arith) (grind arith)

use Rattle.std.proofs.Common.{rules, ◌∙◌}
use Rattle.octets.specs.Ascii.{capital}
use Rattle.lines.specs.Mechanism.{mech_char}
use Rattle.lines.proofs.Names.{formed-spelling}
use Rattle.lines.proofs.mechanism.is_spelling.Goals as goal

pub returns : goal.returns
unfolding capital
returns c = c.is_formed.ensures (λ x. mech_char (capital x)) (λ x b h. search rules) ∙ formed-spelling c.args.text.now

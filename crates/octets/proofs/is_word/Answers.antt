use mathlib.Core.Path.{sym, ◌∙◌}
use lib.ListN.{length-map}
use borrow.Author.Rules.{rules}
use borrow.Author.Tests.{tests, ne_eqb}
use Rattle.octets.specs.Ascii.{capital}
use Rattle.octets.proofs.Chains.{same_all}
use Rattle.octets.proofs.Words.{same-lengths}
use Rattle.octets.proofs.is_word.Goals as goal

pub returns-then-text-word : goal.returns-then-text-word
returns-then-text-word c = same_all capital c.args.text.now c.args.word.now c.all.new.self c.if-text-word.true c.all.ensures.ran (cc) (cc) (λ t v q k. search (rules, tests))

pub returns-else-text-word : goal.returns-else-text-word
returns-else-text-word c = let e = c.if-text-word.false in
    ne_eqb _ _ e ∙ sym (same-lengths _ _ (λ k. e (sym (length-map c.args.text.now capital) ∙ k)))

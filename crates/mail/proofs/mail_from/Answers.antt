use Rattle.mail.proofs.Whole.{begins-past, no-opening, no-path, whole}
use Rattle.std.proofs.Common.{sym, ◌∙◌, arith}
use Rattle.mail.proofs.mail_from.Goals.{then-line-at-via-then-line-at, then-line-at-via-else-line-at+then-not-is_word}
use Rattle.mail.proofs.mail_from.Goals as goal

pub returns-then-line-at : goal.returns-then-line-at
returns-then-line-at c =
    elim c.then-line-at.branch [
      | then-line-at-via-then-line-at w ↦ sym (begins-past c.args.line.now c.args.at w.if-line-at.true)
      | then-line-at-via-else-line-at+then-not-is_word w ↦ sym (no-opening c.args.line.now c.args.at (sym (rw w.part.ensures at w.is_word.ensures) ∙ w.if-not-is_word.true))
    ]

pub returns-then-line-end : goal.returns-then-line-end
returns-then-line-end c = sym (no-path c.args.line.now c.args.at (sym (rw c.part.ensures at c.is_word.ensures) ∙ c.if-not-is_word.false) _ c.find-end.ensures (omega arith))

pub returns : goal.returns
returns c =
    c.read_parameters.ensures
    ∙ sym (whole c.args.line.now c.args.at (sym (rw c.part.ensures at c.is_word.ensures) ∙ c.if-not-is_word.false) _ c.find-end.ensures (omega arith))

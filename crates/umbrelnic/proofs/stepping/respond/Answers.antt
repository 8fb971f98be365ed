use Prim.Native.Nat.{ℕ}
use Rattle.session.specs.Answer.{heard, numbers}
use Rattle.umbrelnic.proofs.Settles.{said-end, said-short}
use mathlib.Core.Path.{sym, ap, ◌∙◌}
use Rattle.umbrelnic.proofs.stepping.respond.Goals as goal

pub returns-in-Some : goal.returns-in-Some
returns-in-Some c = (
  c.numbers.ensures ∙ ap (λ (n : ℕ). numbers c.args.answer n)
      (said-end (heard c.args.profile c.args.bytes.now c.args.answer) c.args.reply.now c.requires _ (sym c.in-Some.is ∙ c.say-said.ensures.0)),
  c.say-said.ensures.1,
)

pub returns-in-None : goal.returns-in-None
returns-in-None c = said-short (heard c.args.profile c.args.bytes.now c.args.answer) c.args.reply.now c.requires (sym c.in-None.is ∙ c.say-said.ensures.0)

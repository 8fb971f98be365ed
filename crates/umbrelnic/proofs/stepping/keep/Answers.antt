use Rattle.umbrelnic.specs.Private.{kept_in}
use mathlib.Core.Path.{sym, ◌∙◌}
use Rattle.umbrelnic.proofs.stepping.keep.Goals as goal

pub returns-then-is_refused : goal.returns-then-is_refused
unfolding kept_in
returns-then-is_refused c = rw (sym c.is_refused.ensures ∙ c.if-is_refused.true)

pub returns : goal.returns
unfolding kept_in
returns c = rw (sym c.is_refused.ensures ∙ c.if-is_refused.false) c.write_connection.ensures

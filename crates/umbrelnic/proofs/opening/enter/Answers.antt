use Rattle.umbrelnic.proofs.Opens.{open_full}
use mathlib.Core.Path.{refl, sym, ◌∙◌}
use Rattle.umbrelnic.proofs.opening.enter.Goals as goal

pub enter_in-requires : goal.enter_in-requires
enter_in-requires c = (c.requires, sym c.find_free-found.ensures ∙ c.in-Some.is)

pub returns-in-None : goal.returns-in-None
returns-in-None c = rw (open_full c.args.image.now c.requires c.args.profile c.args.protected (sym c.find_free-found.ensures ∙ c.in-None.is))
    (c.from.ensures, refl)

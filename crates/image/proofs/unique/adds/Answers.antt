use Rattle.image.proofs.Keys.{keyless, key-taken, key-compared}
use mathlib.Core.Path.{◌∙◌}
use Rattle.image.proofs.unique.adds.Goals as goal

pub returns-in_default : goal.returns-in_default
returns-in_default g c = let k = keyless _ _ c.requires.0 _ _ _ c.requires.2 c.in_default.ensures in (k.0, λ e. k.1)

pub returns-in-Some-find_empty : goal.returns-in-Some-find_empty
returns-in-Some-find_empty g c = let f = rw c.OFFSET.ensures at c.in-Some-find_empty.ensures in
    let k = key-taken _ _ c.requires.0 _ _ _ c.requires.2 _ c.in-Some.ensures.0 _ f.0 c.in-Some.ensures.1 f.1 in (k.0, λ e. k.1)

pub returns : goal.returns
returns g c = let f = rw c.OFFSET.ensures at c.in_default-find_empty.ensures in
    let k = key-compared _ _ c.requires.0 _ _ _ c.requires.2 _ c.in-Some.ensures.0 f.0 in (c.is_new.ensures ∙ k.0, λ e. k.1)

use Rattle.image.proofs.Pieces.{pieces-first, pieces-last}
use mathlib.Core.Path.{refl, sym, ◌∙◌}
use Rattle.image.proofs.fits.are_zeros_in_two.Goals as goal

pub returns-then-are_zeros : goal.returns-then-are_zeros
returns-then-are_zeros g c = let h = c.requires in
    rw c.are_zeros-then-are_zeros.ensures (pieces-last _ _ _ _ _ h.1 h.2 h.3 _ refl (sym c.are_zeros.ensures ∙ c.if-are_zeros.true))

pub returns-else-are_zeros : goal.returns-else-are_zeros
returns-else-are_zeros g c = let h = c.requires in
    c.if-are_zeros.false ∙ pieces-first _ _ _ _ _ h.1 h.2 h.3 (sym c.are_zeros.ensures ∙ c.if-are_zeros.false)

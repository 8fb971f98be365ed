use Rattle.image.proofs.Fields.{header_tests}
use borrow.Author.Rules.{rules}
use Rattle.image.proofs.fits.header_fits.Goals as goal

pub returns : goal.returns
returns c = header_tests _ (λ i. search rules)

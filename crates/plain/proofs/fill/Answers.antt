use Rattle.plain.proofs.Laws.{five-parts}
use native.Mathlib.Omega.{arith}
use Rattle.plain.proofs.fill.Goals as goal

pub returns : goal.returns
returns c = five-parts c.args.authzid.now c.args.authcid.now c.args.password.now c.args.out.now (omega (arith, c.requires))
    c.write.ensures.1
    c.write-2.ensures.1
    c.write-3.ensures.1
    c.write-4.ensures.1
    c.write-5.ensures.1

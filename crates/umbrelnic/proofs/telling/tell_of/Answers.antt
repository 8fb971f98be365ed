use Prim.Native.Nat.{◌≤◌}
use Rattle.octets.proofs.Answers.{nothing_written}
use Rattle.session.proofs.Laws.{name-fits}
use Rattle.session.specs.Session.{name_of}
use Rattle.umbrelnic.proofs.Settles.{said-end, said-short}
use lib.ListN.{length}
use mathlib.Core.Path.{refl, sym, ◌∙◌}
use native.Mathlib.Omega.{arith}
use Rattle.umbrelnic.proofs.telling.tell_of.Goals as goal

pub returns-in-Some : goal.returns-in-Some
returns-in-Some c = let e = sym c.is_signed_in.ensures ∙ c.if-is_signed_in.true in
    let f : length (name_of c.args.session) ≤ length c.args.name.now = omega (arith, name-fits c.args.session c.requires.1 e) in
    rw e (rw (said-end (name_of c.args.session) c.args.name.now f _ (sym c.in-Some.is ∙ c.write_name-end.ensures.0)), c.write_name-end.ensures.1)

pub returns-in_default : goal.returns-in_default
returns-in_default c = let e = sym c.is_signed_in.ensures ∙ c.if-is_signed_in.true in
    let f : length (name_of c.args.session) ≤ length c.args.name.now = omega (arith, name-fits c.args.session c.requires.1 e) in
    said-short (name_of c.args.session) c.args.name.now f (sym c.in_default.is ∙ c.write_name-end.ensures.0)

pub returns-else-is_signed_in : goal.returns-else-is_signed_in
returns-else-is_signed_in c = rw (sym c.is_signed_in.ensures ∙ c.if-is_signed_in.false) (refl, sym (nothing_written _))

use Rattle.calls.specs.Call as Call
use Rattle.octets.proofs.Answers.{nothing_written}
use Rattle.session.specs.Limits.{longest_name}
use Rattle.umbrelnic.proofs.Exits.{step-short, who-refused, who-done, session-within}
use borrow.Author.Tests.{le-leb, lt-leb}
use lib.ListN.{length}
use mathlib.Core.Bool.{not}
use mathlib.Core.Path.{refl, sym, ap, ◌∙◌}
use Rattle.umbrelnic.proofs.umbrelnic_who.Goals as goal

pub returns-then-name-lt-LONGEST_NAME : goal.returns-then-name-lt-LONGEST_NAME
returns-then-name-lt-LONGEST_NAME c = rw (step-short c.args.image.now (Call.who c.args.connection c.args.name.now)
    (ap not (lt-leb longest_name (length c.args.name.now) c.if-name-lt-LONGEST_NAME.true)))
    (c.from.ensures, refl, sym (nothing_written _))

pub tell-requires : goal.tell-requires
tell-requires c = (c.if-name-lt-LONGEST_NAME.false, session-within c.args.image.now c.args.connection _ (sym c.in-Ok.is ∙ c.find_connection.ensures))

pub returns-in-Err : goal.returns-in-Err
returns-in-Err c = rw (who-refused c.args.image.now c.args.connection c.args.name.now
    (ap not (le-leb longest_name (length c.args.name.now) c.if-name-lt-LONGEST_NAME.false)) _ (sym c.in-Err.is ∙ c.find_connection.ensures))
    (c.from-in-Err.ensures, refl, sym (nothing_written _))

pub returns-in-Ok : goal.returns-in-Ok
returns-in-Ok c = rw (who-done c.args.image.now c.args.connection _ (sym c.in-Ok.is ∙ c.find_connection.ensures) c.args.name.now
    (ap not (le-leb longest_name (length c.args.name.now) c.if-name-lt-LONGEST_NAME.false)))
    (c.tell.ensures.0, refl, c.tell.ensures.1)

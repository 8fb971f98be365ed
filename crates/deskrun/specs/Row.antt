-- What is printed for each answer of a call (docs/DESKRUN.md, "What is printed").
use Rattle.std.specs.Prelude.{cond, ℕ, ◌-◌, eqb}
use Rattle.profile.specs.declared.numbers.Identity.TheVariants as Identities
use Rattle.profile.specs.declared.numbers.Kind.TheVariants as Kinds
use Rattle.profile.specs.Numbers.{kind_number, identity_number}
use Rattle.umbrelnic.specs.declared.Opened as Opens
use Rattle.umbrelnic.specs.declared.Borne.{Borne}
use Rattle.umbrelnic.specs.declared.LineAnswer.{LineAnswer}
use Rattle.umbrelnic.specs.declared.Said.{Said}
use Rattle.deskrun.specs.declared.row.Row.{Row}
use Rattle.deskrun.specs.declared.row.Row.TheVariants.{Opened, Pass, PassNull, PassNone, PassAddress, Ask, Start, Reply, Done, Name, Nobody, Refused}

-- a refused call prints its number; 0 is no refusal
abbrev pub unless_refused : ℕ → Row → Row
unless_refused k r = cond (eqb k 0) r (Refused k)

abbrev pub open_row : Opens.Opened → Row
open_row o = unless_refused o.refusal (Opened o.connection)

abbrev pub forward_row : LineAnswer → Row
forward_row a =
    cond (eqb a.identity (identity_number Identities.Null)) PassNull
    (cond (eqb a.identity (identity_number Identities.Absent)) PassNone
    (cond (eqb a.identity (identity_number Identities.Address)) (PassAddress a.length)
    Pass))

abbrev pub query_row : LineAnswer → Row
query_row a = cond (eqb a.starts 1) (Start a.ticket) (Ask a.ticket a.length)

-- "what the client hears, without CRLF"
abbrev pub reply_row : ℕ → Row
reply_row n = Reply (n - 2)

abbrev pub line_row : LineAnswer → Row
line_row a =
    unless_refused a.refusal
    (cond (eqb a.kind (kind_number Kinds.Forward)) (forward_row a)
    (cond (eqb a.kind (kind_number Kinds.Query)) (query_row a)
    (reply_row a.length)))

abbrev pub verdict_row : Said → Row
verdict_row s = unless_refused s.refusal (reply_row s.length)

abbrev pub who_row : Borne → Row
who_row b = unless_refused b.refusal (cond (eqb b.signed_in 1) (Name b.length) Nobody)

abbrev pub done_row : ℕ → Row
done_row k = unless_refused k Done

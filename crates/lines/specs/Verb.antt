-- The verb of a line.
use Rattle.std.specs.Prelude.{cond, List, ℕ}
use Rattle.octets.specs.Ascii.{ascii, capitals}
pub use Rattle.octets.specs.Ascii.{space}
use Rattle.octets.specs.Lists.{same, before}
use Rattle.lines.specs.declared.verb.Verb.{Verb}
use Rattle.lines.specs.declared.verb.Verb.TheVariants.{Ehlo, Helo, Rset, Quit, Mail, Auth, User, Pass, Apop, Other}

-- "Verbs end at the first space or line end; case is ignored." (document 01)
unfoldable pub verb : List ℕ → List ℕ
verb l = capitals (before space l)

-- the verbs that document 01 has rules for, and Other
unfoldable pub verb_of : List ℕ → Verb
verb_of v =
    cond (same v (ascii "EHLO")) Ehlo
    (cond (same v (ascii "HELO")) Helo
    (cond (same v (ascii "RSET")) Rset
    (cond (same v (ascii "QUIT")) Quit
    (cond (same v (ascii "MAIL")) Mail
    (cond (same v (ascii "AUTH")) Auth
    (cond (same v (ascii "USER")) User
    (cond (same v (ascii "PASS")) Pass
    (cond (same v (ascii "APOP")) Apop
    Other))))))))

-- The eight calls, without what is lent to be written to, and what each makes of a server.
use Rattle.std.specs.Prelude.{List, ℕ, ◌<◌}
use Rattle.server.specs.Add.{on_add}
use Rattle.server.specs.Close.{on_close}
use Rattle.server.specs.Limits.{number_bound}
use Rattle.server.specs.Line.{on_line}
use Rattle.server.specs.MailEnded.{on_mail_ended}
use Rattle.server.specs.Make.{fresh}
use Rattle.server.specs.Open.{on_open}
use Rattle.server.specs.Outcome.{Outcome, gives, done}
use Rattle.server.specs.Server.{Server}
use Rattle.server.specs.Verdict.{on_verdict}
use Rattle.server.specs.Who.{on_who}

pub data Request : Type 0 where
  -- the first connection's number, the first ticket
  make : ℕ → ℕ → Request
  -- name, whether the client speaks first, whether it needs protection
  add : List ℕ → ℕ → ℕ → Request
  -- profile, protected or not
  opens : ℕ → ℕ → Request
  -- connection, line
  line : ℕ → List ℕ → Request
  -- ticket, verdict, data
  verdict : ℕ → ℕ → List ℕ → Request
  -- connection
  mail_ended : ℕ → Request
  who : ℕ → Request
  close : ℕ → Request

-- "from a first connection number and a first ticket (64 bits)"; no other number is kept
abbrev pub Sized : Request → Type 0
Sized (make c t) = (c < number_bound) × (t < number_bound)
Sized (add n f p) = Unit {0}
Sized (opens p b) = Unit {0}
Sized (line n l) = Unit {0}
Sized (verdict t v d) = Unit {0}
Sized (mail_ended n) = Unit {0}
Sized (who n) = Unit {0}
Sized (close n) = Unit {0}

unfoldable pub on : Server → Request → Outcome
on s (make c t) = gives done (fresh c t)
on s (add n f p) = on_add s n f p
on s (opens p b) = on_open s p b
on s (line n l) = on_line s n l
on s (verdict t v d) = on_verdict s t v d
on s (mail_ended n) = on_mail_ended s n
on s (who n) = on_who s n
on s (close n) = on_close s n

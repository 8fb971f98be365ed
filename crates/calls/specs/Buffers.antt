-- What the lent buffers hold after a call: "A question writes the answer buffer alone, a reply the reply buffer alone." "Octets past the stated
-- length stay as lent."
use Rattle.std.specs.Prelude.{List, [], ℕ}
use Rattle.std.proofs.Math.Option.{Option, none, some}
use Rattle.octets.specs.Answers.{written}
use Rattle.server.specs.Outcome.{Result, refused, done, opened, answered, borne}
use Rattle.calls.specs.Step.{Out}

-- what the client hears
abbrev pub heard_in : Result → List ℕ
heard_in (refused k) = []
heard_in done = []
heard_in (opened n) = []
heard_in (answered a h x) = h
heard_in (borne n) = []

abbrev pub name_in : Option (List ℕ) → List ℕ
name_in none = []
name_in (some n) = n

abbrev pub borne_in : Result → List ℕ
borne_in (refused k) = []
borne_in done = []
borne_in (opened n) = []
borne_in (answered a h x) = []
borne_in (borne n) = name_in n

-- b: the buffer as it was lent
abbrev pub reply_after : Out → List ℕ → List ℕ
reply_after o b = written b 0 (heard_in o.result)

abbrev pub answer_after : Out → List ℕ → List ℕ
answer_after o b = written b 0 o.handed

abbrev pub name_after : Out → List ℕ → List ℕ
name_after o b = written b 0 (borne_in o.result)

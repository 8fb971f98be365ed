-- What a call gives, in numbers: "Every refusal returns its number alone", so every other number is then 0.
use Rattle.std.specs.Prelude.{List, ℕ, length}
use Rattle.std.proofs.Math.Option.{Option, none, some}
use Rattle.session.specs.Answer.{numbers, refused_numbers}
use Rattle.session.specs.declared.answer.Numbers.{Numbers}
use Rattle.server.specs.Outcome.{Result, refused, done, opened, answered, borne}
use Rattle.calls.specs.Buffers.{borne_in}

-- of line and verdict: kind, ticket, whether it only starts an exchange, length, identity. No other call gives these; theirs are 0 but for the
-- refusal
abbrev pub no_numbers : Numbers
no_numbers = record { refusal = 0; kind = 0; ticket = 0; starts = 0; length = 0; identity = 0 }

abbrev pub answer_numbers : Result → Numbers
answer_numbers (refused k) = refused_numbers k
answer_numbers done = no_numbers
answer_numbers (opened n) = no_numbers
answer_numbers (answered a h x) = numbers a (length h)
answer_numbers (borne n) = no_numbers

-- of every call: 0 where it was not refused
abbrev pub refusal : Result → ℕ
refusal r = (answer_numbers r).refusal

-- of open: the connection's number
abbrev pub connection : Result → ℕ
connection (refused k) = 0
connection done = 0
connection (opened n) = n
connection (answered a h x) = 0
connection (borne n) = 0

-- of who: signed in or not, and the name's length
abbrev pub borne_number : Option (List ℕ) → ℕ
borne_number none = 0
borne_number (some n) = 1

abbrev pub signed_in : Result → ℕ
signed_in (refused k) = 0
signed_in done = 0
signed_in (opened n) = 0
signed_in (answered a h x) = 0
signed_in (borne n) = borne_number n

abbrev pub name_length : Result → ℕ
name_length r = length (borne_in r)

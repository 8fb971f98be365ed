-- What a call gives, as a host in C gets it: "Every refusal returns its number alone", so every other number is then 0.
use Rattle.session.specs.declared.answer.Numbers.{Numbers}
use Rattle.server.specs.Outcome.{Result}
use Rattle.calls.specs.Numbers.{answer_numbers, refusal, connection, signed_in, name_length}
use Rattle.umbrelnic.specs.declared.Opened.{Opened}
use Rattle.umbrelnic.specs.declared.LineAnswer.{LineAnswer}
use Rattle.umbrelnic.specs.declared.Said.{Said}
use Rattle.umbrelnic.specs.declared.Borne.{Borne}

-- "Open: .. gives the connection's number"
abbrev pub opened_of : Result → Opened
opened_of r = record { refusal = refusal r; connection = connection r }

-- "Line .. gives one of: passed on; a question (ticket, whether it only starts an exchange, decoded length, 0 for a start); a reply"; one that
-- is passed on "with the identity to relay"
abbrev pub line_numbers : Numbers → LineAnswer
line_numbers n =
    record { refusal = n.refusal; kind = n.kind; ticket = n.ticket; starts = n.starts; length = n.length; identity = n.identity }

abbrev pub line_answer_of : Result → LineAnswer
line_answer_of r = line_numbers (answer_numbers r)

-- "Verdict, for a ticket, gives a reply."
abbrev pub said_numbers : Numbers → Said
said_numbers n = record { refusal = n.refusal; length = n.length }

abbrev pub said_of : Result → Said
said_of r = said_numbers (answer_numbers r)

-- "Who: signed in or not, and the name."
abbrev pub borne_of : Result → Borne
borne_of r = record { refusal = refusal r; signed_in = signed_in r; length = name_length r }

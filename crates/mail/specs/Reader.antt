-- The MAIL line read through a reader.
use Rattle.std.specs.Prelude.{List, ℕ, Option, Some, None}
use Rattle.octets.specs.Reader.{end, moved}
use Rattle.octets.specs.declared.reader.Reader.{Reader}
use Rattle.mail.specs.declared.Mail.{Mail}
use Rattle.octets.specs.declared.reader.Reading.{Reading}

-- the index that the reading reached, from index `at` of a line on: the line's end, and `at` itself where the line is not of the form
abbrev pub read_to : Option Mail → List ℕ → ℕ → ℕ
read_to (Some m) l at = end l at
read_to None l at = at

-- the answer with the index reached, and the reader after a reading that gave it
abbrev pub reading : Option Mail → List ℕ → ℕ → Reading (Option Mail)
reading m l at = record { answer = m; at = read_to m l at }

abbrev pub after_reading : Option Mail → Reader → Reader
after_reading m r = moved r (read_to m r.line.now r.at)

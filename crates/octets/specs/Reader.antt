-- A reader: "a reader that holds the line and the spot reached" (document 01). A reading takes what stands from there on to the line's end.
use Rattle.std.specs.Prelude.{List, ℕ, ◌+◌, length, drop, Option, Some, None, Result, Ok, Err}
use Rattle.octets.specs.declared.DecodeError.{DecodeError}
use Rattle.octets.specs.declared.reader.Reader.{Reader}
use Rattle.octets.specs.declared.reader.Reading.{Reading}

-- the line's end, and the index itself where it is past it
abbrev pub end : List ℕ → ℕ → ℕ
end l at = at + length (drop at l)

-- the index that a reading reached, from index `at` of a line on: the line's end where it took what stands there, else `at` itself
abbrev pub measured_to : Option ℕ → List ℕ → ℕ → ℕ
measured_to (Some n) l at = end l at
measured_to None l at = at

abbrev pub decoded_to : Result ℕ DecodeError → List ℕ → ℕ → ℕ
decoded_to (Ok n) l at = end l at
decoded_to (Err e) l at = at

-- the answer with the index reached
abbrev pub measuring : Option ℕ → List ℕ → ℕ → Reading (Option ℕ)
measuring m l at = record { answer = m; at = measured_to m l at }

abbrev pub decoding : Result ℕ DecodeError → List ℕ → ℕ → Reading (Result ℕ DecodeError)
decoding d l at = record { answer = d; at = decoded_to d l at }

-- what stands from the index reached on, and the reader at another index
abbrev pub rest : Reader → List ℕ
rest r = drop r.at r.line.now

abbrev pub moved : Reader → ℕ → Reader
moved r at = record { line = r.line; at = at }

-- the reader after a reading that gave an answer
abbrev pub after_measured : Option ℕ → Reader → Reader
after_measured m r = moved r (measured_to m r.line.now r.at)

abbrev pub after_decoded : Result ℕ DecodeError → Reader → Reader
after_decoded d r = moved r (decoded_to d r.line.now r.at)

-- The answers of measure, decode and encode, for any form of text: a form says whether a text is well formed (`ok`) and what it stands for.
use Rattle.std.specs.Prelude.{Bool, cond, List, ℕ, ◌+◌, leb, length, Option, Some, None, Result, Ok, Err}
use Rattle.std.proofs.lemmas.List.Edits.{sets}
use Rattle.octets.specs.Ascii.{ascii}
use Rattle.octets.specs.declared.DecodeError.{DecodeError}
use Rattle.octets.specs.declared.DecodeError.TheVariants.{Malformed, Short}

-- what is printed of an error: the word of the cause, which no rule sets
abbrev pub printed : DecodeError → List ℕ
printed Malformed = ascii "malformed"
printed Short = ascii "short"

-- a buffer into which l was written from index `at` on; where l does not fit, the buffer as it was lent
abbrev pub written : List ℕ → ℕ → List ℕ → List ℕ
written buffer at l = cond (leb (at + length l) (length buffer)) (sets buffer at l) buffer

-- measure: how many octets a text stands for, which are l
abbrev pub measured : Bool → List ℕ → Option ℕ
measured ok l = cond ok (Some (length l)) None

-- decode, to the start of a buffer of m octets; and the buffer after it
abbrev pub decoded : Bool → List ℕ → ℕ → Result ℕ DecodeError
decoded ok l m = cond ok (cond (leb (length l) m) (Ok (length l)) (Err Short)) (Err Malformed)

abbrev pub decoded_into : Bool → List ℕ → List ℕ → List ℕ
decoded_into ok l buffer = cond ok (written buffer 0 l) buffer

-- encode, the text t into a buffer of m octets from index `at` on: the index after it; the buffer after it is `written buffer at t`
abbrev pub encoded : List ℕ → ℕ → ℕ → Option ℕ
encoded t m at = cond (leb (at + length t) m) (Some (at + length t)) None

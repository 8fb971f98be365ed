-- The number of an answer: the length or the end, 2^64-1 of a malformed text, 2^64-2 of a buffer that is too short.
use Rattle.std.specs.Prelude.{ℕ}
use Rattle.std.specs.Prelude.{Option, Some, None, Result, Ok, Err}
use Rattle.octets.specs.declared.DecodeError.{DecodeError}
use Rattle.octets.specs.declared.DecodeError.TheVariants as Errors

abbrev pub malformed : ℕ
malformed = 18446744073709551615

abbrev pub short : ℕ
short = 18446744073709551614

abbrev pub measured_number : Option ℕ → ℕ
measured_number (Some n) = n
measured_number None = malformed

abbrev pub decoded_number : Result ℕ DecodeError → ℕ
decoded_number (Ok n) = n
decoded_number (Err Errors.Malformed) = malformed
decoded_number (Err Errors.Short) = short

abbrev pub encoded_number : Option ℕ → ℕ
encoded_number (Some n) = n
encoded_number None = short

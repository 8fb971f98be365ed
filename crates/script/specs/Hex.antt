-- Octets in hexadecimal (docs/DESKRUN.md): "hex digits, two for each octet: 0 to 9 and a to f".
use Rattle.std.specs.Prelude.{Bool, cond, ◌&&◌, List, [], ◌∷◌, ℕ, ◌+◌, ◌-◌, ◌*◌, leb, Option, Some, None, Result, is_some, unwrap_or}
use Rattle.octets.specs.Answers
use Rattle.octets.specs.Ascii.{is_digit}
use Rattle.octets.specs.Lists.{every}
use Rattle.octets.specs.declared.DecodeError.{DecodeError}

-- the number of a digit
unfoldable pub digit : ℕ → Option ℕ
digit x = cond (is_digit x) (Some (x - 0x30)) (cond (leb 0x61 x && leb x 0x66) (Some (x - 0x57)) None)

abbrev pub hexdig : ℕ → Bool
hexdig x = is_some (digit x)

-- the octet of two digits; what is no digit counts as 16
abbrev pub pair : ℕ → ℕ → ℕ
pair y z = unwrap_or (digit y) 16 * 16 + unwrap_or (digit z) 16

-- the octets that pairs of digits stand for; a last digit alone stands for none
unfoldable pub octets : List ℕ → List ℕ
octets [] = []
octets (y ∷ []) = []
octets (y ∷ z ∷ l) = pair y z ∷ octets l

-- the answer of decode, and the buffer that it leaves
abbrev pub decoded : List ℕ → ℕ → Result ℕ DecodeError
decoded t m = Answers.decoded (every hexdig t) (octets t) m

abbrev pub decoded_into : List ℕ → List ℕ → List ℕ
decoded_into t buffer = Answers.decoded_into (every hexdig t) (octets t) buffer

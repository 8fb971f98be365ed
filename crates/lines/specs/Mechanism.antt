-- Mechanism names (RFC 4422 section 3.1).
use Rattle.std.specs.Prelude.{Bool, ◌||◌, List, ℕ, eqb}
use Rattle.octets.specs.Ascii.{capitals, is_capital, is_digit}
use Rattle.octets.specs.Lists.{one_to, padded_to}

-- "mech-char = UPPER-ALPHA / DIGIT / HYPHEN / UNDERSCORE"
abbrev pub mech_char : ℕ → Bool
mech_char x = is_capital x || is_digit x || eqb x 0x2D || eqb x 0x5F

-- "sasl-mech = 1*20mech-char"
abbrev pub longest_mechanism : ℕ
longest_mechanism = 20

abbrev pub mechanism : List ℕ → Bool
mechanism m = one_to longest_mechanism mech_char m

-- in a line a name's letters may be of either case (M-105): a text spells a name if it is one in capitals
abbrev pub spelling : List ℕ → Bool
spelling t = mechanism (capitals t)

-- "Each name is kept in twenty octets, padded with NUL" (document 01)
unfoldable pub padded : List ℕ → List ℕ
padded m = padded_to longest_mechanism m

-- One parameter of a MAIL line: what stands between two spaces.
use Rattle.std.specs.Prelude.{Bool, false, not, ◌&&◌, ◌||◌, List, [], ◌∷◌, ℕ, leb, eqb}
use Rattle.octets.specs.Ascii.{ascii, is_letter, is_digit, capitals}
use Rattle.octets.specs.Lists.{is_empty, holds, every, same, before, after}
use Rattle.xtext.specs.Xtext
use Rattle.mail.specs.Address.{address}

-- "="
abbrev pub equals : ℕ
equals = 0x3D

-- "keyword (a letter or digit, then letters, digits, "-"; case is ignored)"
abbrev pub keyword_char : ℕ → Bool
keyword_char x = is_letter x || is_digit x || eqb x 0x2D

abbrev pub keyword_first : ℕ → Bool
keyword_first x = is_letter x || is_digit x

unfoldable pub keyword : List ℕ → Bool
keyword [] = false
keyword (x ∷ l) = keyword_first x && every keyword_char l

-- "one or more octets of 21-7E other than "=""
abbrev pub value_char : ℕ → Bool
value_char x = leb 0x21 x && leb x 0x7E && not (eqb x equals)

unfoldable pub value : List ℕ → Bool
value l = not (is_empty l) && every value_char l

-- a keyword, "optionally "=" and" a value
unfoldable pub parameter : List ℕ → Bool
parameter w = keyword (before equals w) && (not (holds equals w) || value (after equals w))

-- whether a parameter has the keyword k, given in capitals
unfoldable pub named : List ℕ → List ℕ → Bool
named k w = same (capitals (before equals w)) k

abbrev pub AUTH : List ℕ
AUTH = ascii "AUTH"

abbrev pub SUBMITTER : List ℕ
SUBMITTER = ascii "SUBMITTER"

-- "with a value in xtext. The decoded AUTH is "<>" or an address, SUBMITTER an address"
abbrev pub null : List ℕ → Bool
null v = same (Xtext.octets v) (ascii "<>")

unfoldable pub auth_value : List ℕ → Bool
auth_value v = Xtext.valid v && (null v || address (Xtext.octets v))

unfoldable pub submitter_value : List ℕ → Bool
submitter_value v = Xtext.valid v && address (Xtext.octets v)

-- a parameter that is one, and where it is AUTH or SUBMITTER has such a value; one without "=" has the empty value, which is neither
unfoldable pub good : List ℕ → Bool
good w =
    parameter w && (not (named AUTH w) || auth_value (after equals w)) && (not (named SUBMITTER w) || submitter_value (after equals w))

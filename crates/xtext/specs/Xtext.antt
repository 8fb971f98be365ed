-- Xtext, RFC 4954 section 8, over lists of octets. Of the digits only capitals are taken (document 01).
use Rattle.std.specs.Prelude.{Bool, true, false, cond, ◌&&◌, ◌||◌, List, [], ◌∷◌, ℕ, ◌+◌, ◌*◌, ◌/◌, ◌%◌, ltb, leb, eqb, get_or}
use Rattle.octets.specs.Alphabet.{index}
use Rattle.octets.specs.Answers
use Rattle.std.specs.Prelude.{Option, Result}
use Rattle.octets.specs.declared.DecodeError.{DecodeError}
use Rattle.xtext.specs.declared.Character.{Character}

-- "xchar = %x21-2A / %x2C-3C / %x3E-7E"
abbrev pub xchar : ℕ → Bool
xchar x = (leb 0x21 x && leb x 0x2A) || (leb 0x2C x && leb x 0x3C) || (leb 0x3E x && leb x 0x7E)

-- "two digits of 0-9, A-F": 0 to 9, then A to F
unfoldable pub digits : List ℕ
digits = 48 ∷ 49 ∷ 50 ∷ 51 ∷ 52 ∷ 53 ∷ 54 ∷ 55 ∷ 56 ∷ 57 ∷ 65 ∷ 66 ∷ 67 ∷ 68 ∷ 69 ∷ 70 ∷ []

-- the digit of a number below 16; the number of a digit, and 16 of any other octet
unfoldable pub digit : ℕ → ℕ
digit v = get_or digits v 0

unfoldable pub number : ℕ → ℕ
number x = index digits x

abbrev pub hexdig : ℕ → Bool
hexdig x = ltb (number x) 16

-- "+"
abbrev pub plus : ℕ
plus = 43

-- "hexchar = "+" HEXDIG HEXDIG": the octet of two digits
abbrev pub hexchar : ℕ → ℕ → ℕ
hexchar y z = number y * 16 + number z

-- whether a text is xtext: "xtext = *(xchar / hexchar)"
unfoldable pub valid : List ℕ → Bool
valid [] = true
valid (x ∷ []) = xchar x
valid (x ∷ y ∷ []) = xchar x && valid (y ∷ [])
valid (x ∷ y ∷ z ∷ r) = cond (eqb x plus) (hexdig y && hexdig z && valid r) (xchar x && valid (y ∷ z ∷ r))

-- what it stands for: an xchar for itself, a hexchar for its octet
unfoldable pub octets : List ℕ → List ℕ
octets [] = []
octets (x ∷ []) = x ∷ []
octets (x ∷ y ∷ []) = x ∷ octets (y ∷ [])
octets (x ∷ y ∷ z ∷ r) = cond (eqb x plus) (hexchar y z ∷ octets r) (x ∷ octets (y ∷ z ∷ r))

-- the text of some octets: "The writer escapes only what must be"
unfoldable pub encode : List ℕ → List ℕ
encode [] = []
encode (x ∷ l) = cond (xchar x) (x ∷ encode l) (plus ∷ digit (x / 16) ∷ digit (x % 16) ∷ encode l)

-- whether a text escapes an octet that stands for itself
unfoldable pub needless : List ℕ → Bool
needless [] = false
needless (x ∷ []) = false
needless (x ∷ y ∷ []) = false
needless (x ∷ y ∷ z ∷ r) = cond (eqb x plus) (xchar (hexchar y z) || needless r) (needless (y ∷ z ∷ r))

-- the answers of measure, decode and encode, and the buffer that decode leaves
abbrev pub measured : List ℕ → Option ℕ
measured t = Answers.measured (valid t) (octets t)

abbrev pub decoded : List ℕ → ℕ → Result ℕ DecodeError
decoded t m = Answers.decoded (valid t) (octets t) m

abbrev pub decoded_into : List ℕ → List ℕ → List ℕ
decoded_into t buffer = Answers.decoded_into (valid t) (octets t) buffer

abbrev pub encoded : List ℕ → ℕ → ℕ → Option ℕ
encoded l m at = Answers.encoded (encode l) m at

-- the first character of a text that stands at index i: an xchar for itself, a hexchar for its octet, and the index after it
unfoldable pub escape_at : ℕ → List ℕ → Character
escape_at i [] = Character.Malformed
escape_at i (y ∷ []) = Character.Malformed
escape_at i (y ∷ z ∷ r) = cond (hexdig y && hexdig z) (Character.Octet (hexchar y z) (i + 3)) Character.Malformed

unfoldable pub character_at : ℕ → List ℕ → Character
character_at i [] = Character.End
character_at i (x ∷ l) = cond (eqb x plus) (escape_at i l) (cond (xchar x) (Character.Octet x (i + 1)) Character.Malformed)

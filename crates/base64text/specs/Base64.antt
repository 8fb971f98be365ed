-- Base64, RFC 4648 section 4, over lists of octets.
use Rattle.std.specs.Prelude.{Bool, true, false, cond, ◌&&◌, List, [], ◌∷◌, ◌++◌, ℕ, ◌+◌, ◌*◌, ◌/◌, ◌%◌, ◌^◌, ltb, eqb, length, get_or}
use Rattle.octets.specs.Alphabet.{index}
use Rattle.octets.specs.Lists.{is_empty}
use Rattle.octets.specs.Answers
use Rattle.octets.specs.Answers.{written}
use Rattle.std.specs.Prelude.{Option, Some, None, Result}
use Rattle.octets.specs.declared.DecodeError.{DecodeError}
use Rattle.base64text.specs.declared.Group.{Group}
use Rattle.base64text.specs.declared.Group.TheVariants.{One, Two, Three}

-- RFC 4648 section 4, table 1, in the order of its numbers: five ranges, a line each. A-Z have 0 to 25, a-z 26 to 51, 0-9 52 to 61, "+" has 62, "/" 63.
-- The decoder numbers the octets range by range (`Values` of src/lib.rt), the encoder has this list (`Alphabet` there)
unfoldable pub alphabet : List ℕ
alphabet =
    65 ∷ 66 ∷ 67 ∷ 68 ∷ 69 ∷ 70 ∷ 71 ∷ 72 ∷ 73 ∷ 74 ∷ 75 ∷ 76 ∷ 77 ∷ 78 ∷ 79 ∷ 80 ∷ 81 ∷ 82 ∷ 83 ∷ 84 ∷ 85 ∷ 86 ∷ 87 ∷ 88 ∷ 89 ∷ 90
    ∷ 97 ∷ 98 ∷ 99 ∷ 100 ∷ 101 ∷ 102 ∷ 103 ∷ 104 ∷ 105 ∷ 106 ∷ 107 ∷ 108 ∷ 109 ∷ 110 ∷ 111 ∷ 112 ∷ 113 ∷ 114 ∷ 115 ∷ 116 ∷ 117 ∷ 118 ∷ 119 ∷ 120 ∷ 121 ∷ 122
    ∷ 48 ∷ 49 ∷ 50 ∷ 51 ∷ 52 ∷ 53 ∷ 54 ∷ 55 ∷ 56 ∷ 57
    ∷ 43
    ∷ 47
    ∷ []

-- the letter of a number below 64; the number of a letter, and 64 of any other octet
unfoldable pub letter : ℕ → ℕ
letter v = get_or alphabet v 0

unfoldable pub value : ℕ → ℕ
value x = index alphabet x

-- "(pad) ="
abbrev pub pad : ℕ
pad = 61

-- "a 24-bit input group is formed by concatenating 3 8-bit input groups"
abbrev pub bits : ℕ → ℕ → ℕ → ℕ
bits a b c = a * 2 ^ 16 + b * 2 ^ 8 + c

-- "These 24 bits are then treated as 4 concatenated 6-bit groups, each of which is translated into a single character in the base 64 alphabet"
abbrev pub letter1 : ℕ → ℕ
letter1 w = letter (w / 2 ^ 18 % 2 ^ 6)

abbrev pub letter2 : ℕ → ℕ
letter2 w = letter (w / 2 ^ 12 % 2 ^ 6)

abbrev pub letter3 : ℕ → ℕ
letter3 w = letter (w / 2 ^ 6 % 2 ^ 6)

abbrev pub letter4 : ℕ → ℕ
letter4 w = letter (w % 2 ^ 6)

-- three octets are four letters. At the end of the data "bits with value zero are added (on the right)": of one octet
-- "two characters followed by two "=" padding characters", of two octets "three characters followed by one "=" padding character"
abbrev pub quad3 : ℕ → ℕ → ℕ → List ℕ
quad3 a b c = letter1 (bits a b c) ∷ letter2 (bits a b c) ∷ letter3 (bits a b c) ∷ letter4 (bits a b c) ∷ []

abbrev pub quad2 : ℕ → ℕ → List ℕ
quad2 a b = letter1 (bits a b 0) ∷ letter2 (bits a b 0) ∷ letter3 (bits a b 0) ∷ pad ∷ []

abbrev pub quad1 : ℕ → List ℕ
quad1 a = letter1 (bits a 0 0) ∷ letter2 (bits a 0 0) ∷ pad ∷ pad ∷ []

-- the text of some octets
unfoldable pub encode : List ℕ → List ℕ
encode [] = []
encode (a ∷ []) = quad1 a
encode (a ∷ b ∷ []) = quad2 a b
encode (a ∷ b ∷ c ∷ r) = quad3 a b c ++ encode r

-- four 6-bit groups back to 24 bits, and these to octets
abbrev pub joined : ℕ → ℕ → ℕ → ℕ → ℕ
joined p q r s = p * 2 ^ 18 + q * 2 ^ 12 + r * 2 ^ 6 + s

abbrev pub octet1 : ℕ → ℕ
octet1 w = w / 2 ^ 16 % 2 ^ 8

abbrev pub octet2 : ℕ → ℕ
octet2 w = w / 2 ^ 8 % 2 ^ 8

abbrev pub octet3 : ℕ → ℕ
octet3 w = w % 2 ^ 8

abbrev pub octets3 : ℕ → List ℕ
octets3 w = octet1 w ∷ octet2 w ∷ octet3 w ∷ []

-- what four octets a b c d of text stand for, of which p q r s are the numbers. RFC 4954 section 8: "4base64-char", or at the end
-- "base64-terminal = (2base64-char "==") / (3base64-char "=")"; the bits that the padding leaves unused are zero (document 01)
abbrev pub letters : ℕ → ℕ → ℕ → ℕ → Bool
letters p q r s = ltb p 64 && ltb q 64 && ltb r 64 && ltb s 64

abbrev pub letters3 : ℕ → ℕ → ℕ → ℕ → Bool
letters3 p q r d = ltb p 64 && ltb q 64 && ltb r 64 && eqb d pad && eqb (joined p q r 0 % 2 ^ 8) 0

abbrev pub letters2 : ℕ → ℕ → ℕ → ℕ → Bool
letters2 p q c d = ltb p 64 && ltb q 64 && eqb c pad && eqb d pad && eqb (joined p q 0 0 % 2 ^ 16) 0

abbrev pub three : ℕ → Option Group
three w = Some (Three (octet1 w) (octet2 w) (octet3 w))

abbrev pub two : ℕ → Option Group
two w = Some (Two (octet1 w) (octet2 w))

abbrev pub one : ℕ → Option Group
one w = Some (One (octet1 w))

-- by their numbers and the last two of them
abbrev pub grouped : ℕ → ℕ → ℕ → ℕ → ℕ → ℕ → Option Group
grouped p q r s c d =
    cond (letters p q r s) (three (joined p q r s))
    (cond (letters3 p q r d) (two (joined p q r 0))
    (cond (letters2 p q c d) (one (joined p q 0 0))
    None))

unfoldable pub group_of : ℕ → ℕ → ℕ → ℕ → Option Group
group_of a b c d =
    cond (letters (value a) (value b) (value c) (value d)) (three (joined (value a) (value b) (value c) (value d)))
    (cond (letters3 (value a) (value b) (value c) d) (two (joined (value a) (value b) (value c) 0))
    (cond (letters2 (value a) (value b) c d) (one (joined (value a) (value b) 0 0))
    None))

-- the octets of a group
abbrev pub octets_of : Group → List ℕ
octets_of (One x) = x ∷ []
octets_of (Two x y) = x ∷ y ∷ []
octets_of (Three x y z) = x ∷ y ∷ z ∷ []

-- the octets of four octets of text, which may be no group
abbrev pub octets_in : Option Group → List ℕ
octets_in None = []
octets_in (Some g) = octets_of g

-- after four letters the text may go on, after "=" it ends
abbrev pub follows : Option Group → Bool → Bool → Bool
follows None end rest = false
follows (Some (One x)) end rest = end
follows (Some (Two x y)) end rest = end
follows (Some (Three x y z)) end rest = rest

-- whether a text is base64: "length a multiple of four, one or two "=" only at the end" (document 01)
unfoldable pub valid : List ℕ → Bool
valid [] = true
valid (a ∷ []) = false
valid (a ∷ b ∷ []) = false
valid (a ∷ b ∷ c ∷ []) = false
valid (a ∷ b ∷ c ∷ d ∷ r) = follows (group_of a b c d) (is_empty r) (valid r)

-- what it stands for, group by group
unfoldable pub octets : List ℕ → List ℕ
octets [] = []
octets (a ∷ []) = []
octets (a ∷ b ∷ []) = []
octets (a ∷ b ∷ c ∷ []) = []
octets (a ∷ b ∷ c ∷ d ∷ r) = octets_in (group_of a b c d) ++ octets r

-- what is read of a text whose form is not looked at: a group that more text follows is three octets by the numbers of its four octets of text, 64 for
-- one that is no letter; only the last group is told by its form. Of a text that is base64 they are its octets (`unchecked-octets`)
unfoldable pub unchecked : List ℕ → List ℕ
unchecked [] = []
unchecked (a ∷ []) = []
unchecked (a ∷ b ∷ []) = []
unchecked (a ∷ b ∷ c ∷ []) = []
unchecked (a ∷ b ∷ c ∷ d ∷ r) = cond (is_empty r) (octets_in (group_of a b c d)) (octets3 (joined (value a) (value b) (value c) (value d))) ++ unchecked r

-- how many "=" close a text
unfoldable pub closing : List ℕ → ℕ
closing [] = 0
closing (x ∷ l) = cond (eqb x pad && eqb (closing l) (length l)) (closing l + 1) (closing l)

-- the answers of measure, decode and encode, and the buffers that decode and decode_unchecked leave
abbrev pub measured : List ℕ → Option ℕ
measured t = Answers.measured (valid t) (octets t)

abbrev pub decoded : List ℕ → ℕ → Result ℕ DecodeError
decoded t m = Answers.decoded (valid t) (octets t) m

abbrev pub decoded_into : List ℕ → List ℕ → List ℕ
decoded_into t buffer = Answers.decoded_into (valid t) (octets t) buffer

abbrev pub unchecked_into : List ℕ → List ℕ → List ℕ
unchecked_into t buffer = written buffer 0 (unchecked t)

abbrev pub encoded : List ℕ → ℕ → ℕ → Option ℕ
encoded l m at = Answers.encoded (encode l) m at

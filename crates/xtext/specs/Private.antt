-- What only the promises of private functions cite: the table of all octets' kinds, a text at an index, and what is written for an octet.
use Rattle.std.specs.Prelude.{Bool, cond, ◌&&◌, List, ℕ, eqb, get_or, Option, Some, None}
use Rattle.octets.specs.Alphabet.{table}
use Rattle.xtext.specs.Xtext.{xchar, number, hexdig, hexchar, plus}

-- what is looked up of an octet: below 16 the number of a digit, 16 for any other xchar, 17 for the rest
unfoldable pub kind : ℕ → ℕ
kind x = cond (xchar x) (number x) 17

unfoldable pub kinds : List ℕ
kinds = table kind

-- whether a text begins with a hexchar
unfoldable pub begins : List ℕ → Bool
begins t = eqb (get_or t 0 0) plus && hexdig (get_or t 1 0) && hexdig (get_or t 2 0)

-- the number of a digit, and none of any other octet
unfoldable pub number_of : ℕ → Option ℕ
number_of x = cond (hexdig x) (Some (number x)) None

-- the octet of the two digits that a text begins with, and none where it does not begin with two
abbrev pub hexchar_of : List ℕ → Option ℕ
hexchar_of t = cond (hexdig (get_or t 0 0) && hexdig (get_or t 1 0)) (Some (hexchar (get_or t 0 0) (get_or t 1 0))) None

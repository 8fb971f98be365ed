-- ASCII: a text as its octets, and letters without regard to case.
use Rattle.std.specs.Prelude.{Bool, cond, ◌&&◌, ◌||◌, List, [], ◌∷◌, map, ℕ, zero, suc, ◌-◌, leb}
use Prim.Native.Char.{code}
use Prim.Native.String.{String, len, char_at}

-- the codes of n characters of a text from position i on, and of all of them
abbrev pub codes : String → ℕ → ℕ → List ℕ
codes s zero i = []
codes s (suc n) i = code (char_at s i) ∷ codes s n (suc i)

abbrev pub ascii : String → List ℕ
ascii s = codes s (len s) 0

abbrev pub space : ℕ
space = 0x20

-- "A-Z", "a-z", "0-9"
abbrev pub is_capital : ℕ → Bool
is_capital x = leb 0x41 x && leb x 0x5A

abbrev pub is_small : ℕ → Bool
is_small x = leb 0x61 x && leb x 0x7A

abbrev pub is_digit : ℕ → Bool
is_digit x = leb 0x30 x && leb x 0x39

abbrev pub is_letter : ℕ → Bool
is_letter x = is_capital x || is_small x

-- "case is ignored": a small letter as its capital, any other octet as it is
unfoldable pub capital : ℕ → ℕ
capital x = cond (is_small x) (x - 0x20) x

abbrev pub capitals : List ℕ → List ℕ
capitals l = map capital l

-- An alphabet is a list of octets: the character of a number is the octet at that index, the number of an octet its index.
use Rattle.std.specs.Prelude.{cond, List, [], ◌∷◌, ℕ, zero, suc, eqb}

-- the first index at which an octet stands, and the list's length where it does not stand there at all
abbrev pub index : List ℕ → ℕ → ℕ
index [] x = 0
index (y ∷ l) x = cond (eqb x y) 0 (suc (index l x))

-- the values of f at n numbers from i on, and at each octet: a table for code to look f up in
abbrev pub tabulated : (ℕ → ℕ) → ℕ → ℕ → List ℕ
tabulated f zero i = []
tabulated f (suc n) i = f i ∷ tabulated f n (suc i)

abbrev pub table : (ℕ → ℕ) → List ℕ
table f = tabulated f 256 0

-- What only the promises of private functions, and what `Values` keeps, cite: the table of all octets' numbers, and a text as code takes it apart.
use Rattle.std.specs.Prelude.{Bool, List, [], ◌∷◌, ℕ, ◌+◌, ◌-◌, get_or, Option, None}
use Rattle.std.proofs.lemmas.List.Edits.{sets}
use Rattle.octets.specs.Alphabet.{tabulated, table}
use Rattle.base64text.specs.Base64.{value, letters, group_of}
use Rattle.base64text.specs.declared.Group.{Group}

-- the number of each of the 256 octets, 64 for one that is no letter
unfoldable pub values : List ℕ
values = table value

-- a table with the octets from low to high numbered in turn, from a number on; the others stay as they are
unfoldable pub number_range : List ℕ → ℕ → ℕ → ℕ → List ℕ
number_range k low high number = sets k low (tabulated (λ v. v) (high + 1 - low) number)

-- a text taken apart: the groups that more text follows, and what stands behind them
unfoldable pub before_last : List ℕ → List (List ℕ)
before_last (a ∷ b ∷ c ∷ d ∷ e ∷ r) = (a ∷ b ∷ c ∷ d ∷ []) ∷ before_last (e ∷ r)
before_last _ = []

unfoldable pub last_of : List ℕ → List ℕ
last_of (a ∷ b ∷ c ∷ d ∷ e ∷ r) = last_of (e ∷ r)
last_of l = l

-- what stands behind them as a group: four octets are one
abbrev pub last_group : List ℕ → Option Group
last_group (a ∷ b ∷ c ∷ d ∷ []) = group_of a b c d
last_group _ = None

-- whether the four octets of a group are letters
abbrev pub letters_in : List ℕ → Bool
letters_in q = letters (value (get_or q 0 0)) (value (get_or q 1 0)) (value (get_or q 2 0)) (value (get_or q 3 0))

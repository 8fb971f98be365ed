-- Tables of texts.
use Rattle.std.specs.Prelude.{cond, List, [], ◌∷◌, ℕ, Option, Some, None}
use Rattle.octets.specs.Lists.{same}

-- what a table has beside a text
unfoldable pub found : {A : Type 0} → List (List ℕ × A) → List ℕ → Option A
found [] t = None
found (k ∷ l) t = cond (same t k.0) (Some k.1) (found l t)

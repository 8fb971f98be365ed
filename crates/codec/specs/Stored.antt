-- Elements stored over a list.
use Rattle.std.specs.Prelude.{List, [], ◌∷◌, ℕ, ◌+◌, set}

-- l with vs in place of its own elements, from index `at` on
unfoldable pub stored : {A : Type 0} → List A → ℕ → List A → List A
stored l at [] = l
stored l at (v ∷ vs) = stored (set l at v) (at + 1) vs

-- Words for what definitions and laws say of lists.
use Rattle.std.specs.Prelude.{Bool, true, false, cond, ◌&&◌, ◌||◌, List, [], ◌∷◌, ◌++◌, ℕ, ◌<◌, leb, eqb, length, take, replicate}

-- every number of the list is an octet
abbrev pub Octets : List ℕ → Type 0
Octets [] = Unit {0}
Octets (x ∷ l) = (x < 256) × Octets l

abbrev pub is_empty : List ℕ → Bool
is_empty [] = true
is_empty (x ∷ l) = false

-- whether x stands in the list
abbrev pub holds : ℕ → List ℕ → Bool
holds x [] = false
holds x (y ∷ l) = eqb y x || holds x l

-- whether each element passes a test
unfoldable pub every : {A : Type 0} → (A → Bool) → List A → Bool
every f [] = true
every f (x ∷ l) = f x && every f l

-- whether a list has one to n elements, each of which passes a test
unfoldable pub one_to : ℕ → (ℕ → Bool) → List ℕ → Bool
one_to n f l = leb 1 (length l) && leb (length l) n && every f l

-- whether two lists are the same
unfoldable pub same : List ℕ → List ℕ → Bool
same [] [] = true
same [] (y ∷ m) = false
same (x ∷ l) [] = false
same (x ∷ l) (y ∷ m) = eqb x y && same l m

-- what stands before the first x, the whole list where there is none; and what stands after it, nothing where there is none
unfoldable pub before : ℕ → List ℕ → List ℕ
before x [] = []
before x (y ∷ l) = cond (eqb y x) [] (y ∷ before x l)

unfoldable pub after : ℕ → List ℕ → List ℕ
after x [] = []
after x (y ∷ l) = cond (eqb y x) l (after x l)

-- a list in n octets, padded with NUL
unfoldable pub padded_to : ℕ → List ℕ → List ℕ
padded_to n l = take n (l ++ replicate n 0)

-- Alphabets and tables. Assumes nothing.
use mathlib.Core.Path.{◌≡◌, refl, sym, ◌∙◌, ap}
use mathlib.Core.Bool.{Bool, true, false, cond}
use mathlib.Core.List.{List, [], ◌∷◌}
use Prim.Native.Nat.{ℕ, zero, suc, ◌+◌, ◌<◌, ◌≤◌}
use native.Mathlib.Nat.{add-zero, zero-add, le_of_suc-le-suc, not-suc-le-zero}
use native.Mathlib.Omega.{arith}
use borrow.Author.Tests.{eqb-true}
use lib.Dec.{T, eqb, eqb→eq}
use lib.ListN.{length, get_or}
use Rattle.octets.specs.Alphabet.{index, tabulated, table}
use Rattle.octets.proofs.Table.{at, every}

-- what stands at an octet's index is the octet
pub get_d_index : (l : List ℕ) (x : ℕ) → index l x < length l → get_or l (index l x) 0 ≡ x
get_d_index [] x h = absurd (not-suc-le-zero h)
get_d_index (y ∷ l) x h = go (eqb x y) refl (get_d_index l x) h
  where
    go : (t : Bool) → eqb x y ≡ t → (index l x < length l → get_or l (index l x) 0 ≡ x) → cond t 0 (suc (index l x)) < suc (length l) → get_or (y ∷ l) (cond t 0 (suc (index l x))) 0 ≡ x
    go true e ih h = sym (eqb-true x y e)
    go false e ih h = ih (le_of_suc-le-suc h)

-- no index is past the end
pub index-most : (l : List ℕ) (x : ℕ) → index l x ≤ length l
index-most [] x = omega arith
index-most (y ∷ l) x = go (eqb x y) (index-most l x)
  where
    go : (t : Bool) → index l x ≤ length l → cond t 0 (suc (index l x)) ≤ suc (length l)
    go true h = omega arith
    go false h = omega arith

-- and an octet's index is where it stands, if no octet stands twice: one test of the whole alphabet
abbrev pub indexed : List ℕ → ℕ → ℕ → Bool
indexed l k x = eqb (index l x) k

pub index_get_d : (l : List ℕ) → T (every (indexed l) 0 l) → (k : ℕ) → k < length l → index l (get_or l k 0) ≡ k
index_get_d l t k h = eqb→eq (index l (get_or l k 0)) k (at (indexed l) l t k h)

-- a table looked up
tabulated-at : (f : ℕ → ℕ) (n i k : ℕ) → k < n → get_or (tabulated f n i) k 0 ≡ f (i + k)
tabulated-at f zero i k h = absurd (not-suc-le-zero h)
tabulated-at f (suc n) i zero h = ap f (sym (add-zero i))
tabulated-at f (suc n) i (suc k) h = tabulated-at f n (suc i) k (le_of_suc-le-suc h) ∙ ap f (omega arith)

pub looked-up : (f : ℕ → ℕ) (l : List ℕ) (x r : ℕ) → l ≡ table f → x < 256 → r ≡ get_or l x 0 → r ≡ f x
looked-up f l x r e h g = g ∙ ap (λ (t : List ℕ). get_or t x 0) e ∙ tabulated-at f 256 0 x h ∙ ap f (zero-add x)

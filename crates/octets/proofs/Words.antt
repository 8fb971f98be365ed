-- What stands before an octet and after it, whether two lists are the same, and capitals. Assumes nothing.
use mathlib.Core.Path.{◌≡◌, refl, sym, ◌∙◌, ap}
use mathlib.Core.Bool.{Bool, true, false, cond, ◌||◌, false≢true}
use mathlib.Core.List.{List, [], ◌∷◌, ◌++◌}
use Prim.Native.Nat.{ℕ, zero, suc, ◌+◌, ◌-◌, ◌<◌, ◌≤◌}
use native.Mathlib.Omega.{arith}
use borrow.Author.Tests.{eq-eqb, eqb-true, le-leb, lt-leb, lt-ltb}
use lib.Dec.{eqb, ltb, leb-suc-suc}
use lib.ListN.{length, get_or, drop, take, length-drop, get_or-map}
use Rattle.octets.specs.Lists.{holds, same, before, after}
use Rattle.octets.specs.Ascii.{capital, capitals}
use Rattle.octets.proofs.Cases.{both}

-- lists are the same exactly when they are equal
pub same_true : (a b : List ℕ) → same a b ≡ true → a ≡ b
unfolding same
same_true [] [] e = refl
same_true [] (y ∷ b) e = absurd (false≢true e)
same_true (x ∷ a) [] e = absurd (false≢true e)
same_true (x ∷ a) (y ∷ b) e =
    let h = both (eqb x y) (same a b) e in
    let u : x ≡ y = eqb-true x y h.0 in
    let v : a ≡ b = same_true a b h.1 in
    rw (u, v)

pub same_refl : (a : List ℕ) → same a a ≡ true
unfolding same
same_refl [] = refl
same_refl (x ∷ a) = rw (eq-eqb x x refl, same_refl a)

pub same-apart : (a b : List ℕ) → (a ≡ b → ⊥) → same a b ≡ false
same-apart a b h = go (same a b) refl
  where
    go : (t : Bool) → same a b ≡ t → t ≡ false
    go true e = absurd (h (same_true a b e))
    go false e = refl

pub same-lengths : (a b : List ℕ) → (length a ≡ length b → ⊥) → same a b ≡ false
same-lengths a b h = same-apart a b (λ e. h (ap length e))

-- a small letter, an octet below them and one above
pub is-small : (x : ℕ) → 97 ≤ x → x ≤ 122 → x - 32 ≡ capital x
unfolding capital
is-small x h k = rw (le-leb _ _ h, le-leb _ _ k)

pub is_below : (x : ℕ) → x < 97 → x ≡ capital x
unfolding capital
is_below x h = rw (lt-leb _ _ h)

pub is-above : (x : ℕ) → 122 < x → x ≡ capital x
unfolding capital
is-above x h = let k : 97 ≤ x = omega arith in rw (le-leb _ _ k, lt-leb _ _ h)

-- capitals at an index
pub get_d_capitals : (l : List ℕ) (i : ℕ) → get_or (capitals l) i 0 ≡ capital (get_or l i 0)
unfolding capital
get_d_capitals l i = get_or-map capital l i 0

-- what stands after an octet begins one past what stands before it; the octet is there exactly when the list goes on
pub after-drop : (x : ℕ) (l : List ℕ) → after x l ≡ drop (suc (length (before x l))) l
unfolding before after
after-drop x [] = refl
after-drop x (y ∷ l) = go (eqb y x) (after-drop x l)
  where
    go : (t : Bool) → after x l ≡ drop (suc (length (before x l))) l → cond t l (after x l) ≡ drop (length (cond t [] (y ∷ before x l))) l
    go true e = refl
    go false e = e

pub before-take : (x : ℕ) (l : List ℕ) → before x l ≡ take (length (before x l)) l
unfolding before
before-take x [] = refl
before-take x (y ∷ l) = go (eqb y x) (before-take x l)
  where
    go : (t : Bool) → before x l ≡ take (length (before x l)) l → cond t [] (y ∷ before x l) ≡ take (length (cond t [] (y ∷ before x l))) (y ∷ l)
    go true e = refl
    go false e = ap (λ (m : List ℕ). y ∷ m) e

pub length_before : (x : ℕ) (l : List ℕ) → length (before x l) ≤ length l
unfolding before
length_before x [] = omega arith
length_before x (y ∷ l) = go (eqb y x) (length_before x l)
  where
    go : (t : Bool) → length (before x l) ≤ length l → length (cond t [] (y ∷ before x l)) ≤ suc (length l)
    go true h = omega arith
    go false h = omega arith

-- what stands before an octet, of the first octets of a list
pub take-before : (x n : ℕ) (l : List ℕ) → before x (take n l) ≡ take n (before x l)
unfolding before
take-before x zero l = refl
take-before x (suc n) [] = refl
take-before x (suc n) (y ∷ l) = go (eqb y x) (take-before x n l)
  where
    go : (t : Bool) → before x (take n l) ≡ take n (before x l) → cond t [] (y ∷ before x (take n l)) ≡ take (suc n) (cond t [] (y ∷ before x l))
    go true e = refl
    go false e = ap (λ (m : List ℕ). y ∷ m) e

-- so a search that begins within a line ends within it
pub find-within : (x : ℕ) (l : List ℕ) (i : ℕ) → i ≤ length l → i + length (before x (drop i l)) ≤ length l
find-within x l i h = omega (arith, length_before x (drop i l), length-drop i l)

pub holds-before : (x : ℕ) (l : List ℕ) → holds x l ≡ ltb (length (before x l)) (length l)
unfolding before
holds-before x [] = refl
holds-before x (y ∷ l) = go (eqb y x) (holds-before x l)
  where
    go : (t : Bool) → holds x l ≡ ltb (length (before x l)) (length l) → (t || holds x l) ≡ ltb (length (cond t [] (y ∷ before x l))) (suc (length l))
    go true e = sym (lt-ltb 0 (suc (length l)) (omega arith))
    go false e = e ∙ sym (leb-suc-suc (suc (length (before x l))) (length l))

-- a list cut at an octet that its first part does not hold
pub before-cut : (x : ℕ) (m r : List ℕ) → holds x m ≡ false → before x (m ++ (x ∷ r)) ≡ m
unfolding before
before-cut x [] r h = rw (eq-eqb x x refl)
before-cut x (y ∷ m) r h = go (eqb y x) h (before-cut x m r)
  where
    go : (t : Bool) → (t || holds x m) ≡ false → (holds x m ≡ false → before x (m ++ (x ∷ r)) ≡ m) → cond t [] (y ∷ before x (m ++ (x ∷ r))) ≡ y ∷ m
    go true h ih = absurd (false≢true (sym h))
    go false h ih = ap (λ (k : List ℕ). y ∷ k) (ih h)

pub after-cut : (x : ℕ) (m r : List ℕ) → holds x m ≡ false → after x (m ++ (x ∷ r)) ≡ r
unfolding after
after-cut x [] r h = rw (eq-eqb x x refl)
after-cut x (y ∷ m) r h = go (eqb y x) h (after-cut x m r)
  where
    go : (t : Bool) → (t || holds x m) ≡ false → (holds x m ≡ false → after x (m ++ (x ∷ r)) ≡ r) → cond t (m ++ (x ∷ r)) (after x (m ++ (x ∷ r))) ≡ r
    go true h ih = absurd (false≢true (sym h))
    go false h ih = ih h

pub holds-cut : (x : ℕ) (m r : List ℕ) → holds x (m ++ (x ∷ r)) ≡ true
holds-cut x [] r = rw (eq-eqb x x refl)
holds-cut x (y ∷ m) r = go (eqb y x) (holds-cut x m r)
  where
    go : (t : Bool) → holds x (m ++ (x ∷ r)) ≡ true → (t || holds x (m ++ (x ∷ r))) ≡ true
    go true e = refl
    go false e = e

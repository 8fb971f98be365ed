-- A text as code takes it apart: the groups that more text follows, and what stands behind them. Assumes nothing.
use mathlib.Core.Path.{◌≡◌, refl, sym, ◌∙◌, ap}
use mathlib.Core.Bool.{Bool, true, false, ◌&&◌, and-false, false≢true}
use mathlib.Core.List.{List, [], ◌∷◌, ◌++◌}
use Prim.Native.Nat.{ℕ, suc, ◌+◌, ◌*◌, ◌-◌, ◌/◌, ◌<◌, ◌≤◌}
use native.Mathlib.Omega.{arith}
use lib.ListN.{length, get_or, take, drop, length-take, length-drop, length-append}
use Rattle.std.specs.Prelude.{Option, Some, None, is_some}
use Rattle.std.specs.List.{list_all, flat_map}
use Rattle.std.specs.Simd.{first_chunks}
use Rattle.std.proofs.lemmas.List.{append-nil, length-take-le}
use Rattle.octets.proofs.Cases.{both}
use Rattle.octets.proofs.Lists.{drop-four}
use Rattle.base64text.specs.Base64.{value, joined, letters, octets3, octets_of, octets_in, group_of, follows, valid, octets, unchecked, measured, decoded_into, unchecked_into}
use Rattle.base64text.specs.Private.{before_last, last_of, last_group, letters_in}
use Rattle.base64text.specs.declared.Group.{Group}
use Rattle.base64text.specs.declared.Group.TheVariants.{One, Two, Three}
use Rattle.base64text.proofs.Stores.{stores}
use Rattle.base64text.proofs.Groups.{as_three, letters-are, Cases, is-three, cases}

-- n groups at the start of a text are those that more text follows
groups-cut : (t : List ℕ) (n : ℕ) → n ≡ (length t - 1) / 4 → first_chunks 4 n (take (n * 4) t) ≡ before_last t
unfolding before_last
groups-cut [] n e = rw e
groups-cut (a ∷ []) n e = rw e
groups-cut (a ∷ b ∷ []) n e = rw e
groups-cut (a ∷ b ∷ c ∷ []) n e = rw e
groups-cut (a ∷ b ∷ c ∷ d ∷ []) n e = rw e
groups-cut (a ∷ b ∷ c ∷ d ∷ f ∷ r) n e = go ((length (f ∷ r) - 1) / 4) (groups-cut (f ∷ r) _ refl) (omega arith)
  where
    go : (m : ℕ) → first_chunks 4 m (take (m * 4) (f ∷ r)) ≡ before_last (f ∷ r) → n ≡ suc m
        → first_chunks 4 n (take (n * 4) (a ∷ b ∷ c ∷ d ∷ f ∷ r)) ≡ (a ∷ b ∷ c ∷ d ∷ []) ∷ before_last (f ∷ r)
    go m ih k = let s : suc m * 4 ≡ suc (suc (suc (suc (m * 4)))) = omega arith in rw (k, s) (ap (λ l. (a ∷ b ∷ c ∷ d ∷ []) ∷ l) ih)

-- and the rest is what stands behind them
last-cut : (t : List ℕ) (n : ℕ) → n ≡ (length t - 1) / 4 → drop (n * 4) t ≡ last_of t
unfolding last_of
last-cut [] n e = rw e
last-cut (a ∷ []) n e = rw e
last-cut (a ∷ b ∷ []) n e = rw e
last-cut (a ∷ b ∷ c ∷ []) n e = rw e
last-cut (a ∷ b ∷ c ∷ d ∷ []) n e = rw e
last-cut (a ∷ b ∷ c ∷ d ∷ f ∷ r) n e = go ((length (f ∷ r) - 1) / 4) (last-cut (f ∷ r) _ refl) (omega arith)
  where
    go : (m : ℕ) → drop (m * 4) (f ∷ r) ≡ last_of (f ∷ r) → n ≡ suc m → drop (n * 4) (a ∷ b ∷ c ∷ d ∷ f ∷ r) ≡ last_of (f ∷ r)
    go m ih k = let s : suc m * 4 ≡ suc (suc (suc (suc (m * 4)))) = omega arith in rw (k, s) ih

-- the same as `cut_last` has it
module _ (t : List ℕ) (m : ℕ) (e : m ≡ length t - 1) where
  pub before_cut : (k : ℕ) → k ≡ length (take (m / 4 * 4) t) / 4 → first_chunks 4 k (take (m / 4 * 4) t) ≡ before_last t
  before_cut k f =
      let n : m / 4 ≡ (length t - 1) / 4 = omega arith in
      let h : k ≡ m / 4 = omega (arith, length-take (m / 4 * 4) t) in
      rw h (groups-cut t (m / 4) n)

  pub last_cut : drop (m / 4 * 4) t ≡ last_of t
  last_cut = last-cut t (m / 4) (omega arith)

pub ruleset cutting = (before_cut, last_cut)

-- what stands behind them is empty for the empty text alone
empty_from_last : (t : List ℕ) → length (last_of t) ≡ 0 → t ≡ []
unfolding last_of
empty_from_last [] h = refl
empty_from_last (a ∷ []) h = absurd (omega arith)
empty_from_last (a ∷ b ∷ []) h = absurd (omega arith)
empty_from_last (a ∷ b ∷ c ∷ []) h = absurd (omega arith)
empty_from_last (a ∷ b ∷ c ∷ d ∷ []) h = absurd (omega arith)
empty_from_last (a ∷ b ∷ c ∷ d ∷ f ∷ r) h = let e : f ∷ r ≡ [] = empty_from_last (f ∷ r) h in absurd (cc)

some_from_last : (t : List ℕ) → 0 < length (last_of t) → 0 < length t
unfolding last_of
some_from_last [] h = absurd (omega arith)
some_from_last (a ∷ t) h = omega arith

group_not_empty : (l : List ℕ) (g : Group) → Some g ≡ last_group l → 0 < length l
group_not_empty [] g e = absurd (cc)
group_not_empty (a ∷ l) g e = omega arith

-- ---- its measure

-- a group that more text follows is four letters, or the text is not base64
module _ (a b c d : ℕ) (r : List ℕ) where
  broken : (g : Option Group) → Cases a b c d g → letters (value a) (value b) (value c) (value d) ≡ false → follows g false (valid r) ≡ false
  broken None k e = refl
  broken (Some (One x)) k e = refl
  broken (Some (Two x y)) k e = refl
  broken (Some (Three x y z)) (is-three ha hb hc hd) e = absurd (false≢true (sym e ∙ letters-are _ _ _ _ ha hb hc hd))

  only : (g : Option Group) → Cases a b c d g → follows g false (valid r) ≡ true → (letters (value a) (value b) (value c) (value d) ≡ true) × (valid r ≡ true)
  only None k f = absurd (false≢true f)
  only (Some (One x)) k f = absurd (false≢true f)
  only (Some (Two x y)) k f = absurd (false≢true f)
  only (Some (Three x y z)) (is-three ha hb hc hd) f = (letters-are _ _ _ _ ha hb hc hd, f)

-- whether a text that is not empty is base64, by its groups before the last and by what stands behind them
valid-parts : (t : List ℕ) → 0 < length t → valid t ≡ (list_all letters_in (before_last t) && is_some (last_group (last_of t)))
unfolding valid before_last last_of
valid-parts [] h = absurd (omega arith)
valid-parts (a ∷ []) h = refl
valid-parts (a ∷ b ∷ []) h = refl
valid-parts (a ∷ b ∷ c ∷ []) h = refl
valid-parts (a ∷ b ∷ c ∷ d ∷ []) h = ends (group_of a b c d)
  where
    ends : (g : Option Group) → follows g true true ≡ is_some g
    ends None = refl
    ends (Some (One x)) = refl
    ends (Some (Two x y)) = refl
    ends (Some (Three x y z)) = refl
valid-parts (a ∷ b ∷ c ∷ d ∷ f ∷ r) h = go (letters (value a) (value b) (value c) (value d)) refl (valid-parts (f ∷ r) (omega arith))
  where
    go : (q : Bool) → letters (value a) (value b) (value c) (value d) ≡ q → valid (f ∷ r) ≡ (list_all letters_in (before_last (f ∷ r)) && is_some (last_group (last_of (f ∷ r))))
        → follows (group_of a b c d) false (valid (f ∷ r)) ≡ (q && list_all letters_in (before_last (f ∷ r)) && is_some (last_group (last_of (f ∷ r))))
    go true e ih = ap (λ (g : Option Group). follows g false (valid (f ∷ r))) (sym (as_three a b c d refl refl refl refl e)) ∙ ih
    go false e ih = broken a b c d (f ∷ r) (group_of a b c d) (cases a b c d) e

-- how many octets it stands for, if its groups before the last are letters
octets-parts : (t : List ℕ) → list_all letters_in (before_last t) ≡ true → length (octets t) ≡ length (before_last t) * 3 + length (octets_in (last_group (last_of t)))
unfolding octets before_last last_of
octets-parts [] e = refl
octets-parts (a ∷ []) e = refl
octets-parts (a ∷ b ∷ []) e = refl
octets-parts (a ∷ b ∷ c ∷ []) e = refl
octets-parts (a ∷ b ∷ c ∷ d ∷ []) e = rw append-nil (omega arith)
octets-parts (a ∷ b ∷ c ∷ d ∷ f ∷ r) e =
    let k = both (letters (value a) (value b) (value c) (value d)) _ e in
    let g : length (octets_in (group_of a b c d)) ≡ 3 = ap (λ x. length (octets_in x)) (sym (as_three a b c d refl refl refl refl k.0)) in
    omega (arith, g, length-append (octets_in (group_of a b c d)) (octets (f ∷ r)), octets-parts (f ∷ r) k.1)

module _ (t : List ℕ) where
  -- as the code goes: nothing stands behind the groups; they are not letters; what stands behind them is no group; it is one
  pub no_text : length (last_of t) ≡ 0 → measured t ≡ Some 0
  unfolding valid octets
  no_text h = rw (empty_from_last t h)

  pub not_letters : 0 < length (last_of t) → list_all letters_in (before_last t) ≡ false → measured t ≡ None
  not_letters h e = rw (valid-parts t (some_from_last t h), e)

  pub no_group : 0 < length (last_of t) → None ≡ last_group (last_of t) → measured t ≡ None
  no_group h e = rw (valid-parts t (some_from_last t h), ← e, and-false (list_all letters_in (before_last t)))

  pub a_group : (g : Group) → list_all letters_in (before_last t) ≡ true → Some g ≡ last_group (last_of t) → measured t ≡ Some (length (before_last t) * 3 + length (octets_of g))
  a_group g e f = rw (valid-parts t (some_from_last t (group_not_empty (last_of t) g f)), e, octets-parts t e, ← f)

pub ruleset measuring = (no_text, not_letters, no_group, a_group)

-- ---- a text whose form is not looked at

-- the three octets that a group is taken for
abbrev pub three_in : List ℕ → List ℕ
three_in q = octets3 (joined (value (get_or q 0 0)) (value (get_or q 1 0)) (value (get_or q 2 0)) (value (get_or q 3 0)))

-- by the groups before the last and by what stands behind them
pub unchecked_parts : (t : List ℕ) → unchecked t ≡ flat_map three_in (before_last t) ++ octets_in (last_group (last_of t))
unfolding unchecked before_last last_of
unchecked_parts [] = refl
unchecked_parts (a ∷ []) = refl
unchecked_parts (a ∷ b ∷ []) = refl
unchecked_parts (a ∷ b ∷ c ∷ []) = refl
unchecked_parts (a ∷ b ∷ c ∷ d ∷ []) = append-nil (octets_in (group_of a b c d))
unchecked_parts (a ∷ b ∷ c ∷ d ∷ f ∷ r) = ap (λ (l : List ℕ). three_in (a ∷ b ∷ c ∷ d ∷ []) ++ l) (unchecked_parts (f ∷ r))

-- how many octets they are
length-threes : (qs : List (List ℕ)) → length (flat_map three_in qs) ≡ length qs * 3
length-threes [] = refl
length-threes (q ∷ qs) = omega (arith, length-threes qs)

pub unchecked_count : (t : List ℕ) → length (unchecked t) ≡ length (before_last t) * 3 + length (octets_in (last_group (last_of t)))
unchecked_count t = ap length (unchecked_parts t) ∙ length-append (flat_map three_in (before_last t)) (octets_in (last_group (last_of t))) ∙ omega (arith, length-threes (before_last t))

pub ruleset counting = (unchecked_count)

pub threes_count : (qs : List (List ℕ)) (i : ℕ) → i ≤ length qs → length (flat_map three_in (take i qs)) ≡ i * 3
threes_count qs i h = length-threes (take i qs) ∙ ap (λ n. n * 3) (length-take-le i qs h)

pub ruleset filling = (unchecked_count, unchecked_parts, threes_count, stores)

-- of a text that is base64 they are what it stands for
pub unchecked-octets : (t : List ℕ) → valid t ≡ true → unchecked t ≡ octets t
unfolding unchecked octets valid
unchecked-octets [] h = refl
unchecked-octets (a ∷ []) h = refl
unchecked-octets (a ∷ b ∷ []) h = refl
unchecked-octets (a ∷ b ∷ c ∷ []) h = refl
unchecked-octets (a ∷ b ∷ c ∷ d ∷ []) h = refl
unchecked-octets (a ∷ b ∷ c ∷ d ∷ e ∷ r) h =
    let f = only a b c d (e ∷ r) (group_of a b c d) (cases a b c d) h in
    ap (λ (g : Option Group). octets_in g ++ unchecked (e ∷ r)) (as_three a b c d refl refl refl refl f.0)
    ∙ ap (λ (l : List ℕ). octets_in (group_of a b c d) ++ l) (unchecked-octets (e ∷ r) f.1)

pub ruleset decoding = (unchecked-octets)

pub unchecked-decoded : (t o : List ℕ) → valid t ≡ true → unchecked_into t o ≡ decoded_into t o
unchecked-decoded t o h = rw (h, unchecked-octets t h)

-- ---- what a text stands for, group by group

-- the octets of a group of four
abbrev pub octets_at : List ℕ → List ℕ
octets_at q = octets_in (group_of (get_or q 0 0) (get_or q 1 0) (get_or q 2 0) (get_or q 3 0))

whole-groups : (t : List ℕ) (n : ℕ) → n ≡ length t / 4 → octets t ≡ flat_map octets_at (first_chunks 4 n t)
unfolding octets
whole-groups [] n e = rw e
whole-groups (a ∷ []) n e = rw e
whole-groups (a ∷ b ∷ []) n e = rw e
whole-groups (a ∷ b ∷ c ∷ []) n e = rw e
whole-groups (a ∷ b ∷ c ∷ d ∷ r) n e = go (length r / 4) (whole-groups r _ refl) (omega arith)
  where
    go : (m : ℕ) → octets r ≡ flat_map octets_at (first_chunks 4 m r) → n ≡ suc m → octets_in (group_of a b c d) ++ octets r ≡ flat_map octets_at (first_chunks 4 n (a ∷ b ∷ c ∷ d ∷ r))
    go m ih k = rw k (ap (λ (l : List ℕ). octets_in (group_of a b c d) ++ l) ih)

pub octets_groups : (t : List ℕ) → octets t ≡ flat_map octets_at (first_chunks 4 (length t / 4) t)
octets_groups t = whole-groups t (length t / 4) refl

-- from an index on: the octets of the group there, then those of the rest; none where there are no four octets
module _ (t : List ℕ) (i : ℕ) where
  pub octets-turn : i + 4 ≤ length t
      → octets (drop i t) ≡ octets_in (group_of (get_or t i 0) (get_or t (i + 1) 0) (get_or t (i + 2) 0) (get_or t (i + 3) 0)) ++ octets (drop (i + 4) t)
  unfolding octets
  octets-turn h = rw (drop-four t i h)

  pub octets-end : length t < i + 4 → octets (drop i t) ≡ []
  octets-end h =
      let n : length (drop i t) / 4 ≡ 0 = omega (arith, length-drop i t) in
      octets_groups (drop i t) ∙ rw n

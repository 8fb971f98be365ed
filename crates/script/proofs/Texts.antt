-- Tables of texts, octet by octet, as a match on a text reads it. Assumes nothing.
use mathlib.Core.Path.{◌≡◌, refl, sym, ◌∙◌, ap}
use mathlib.Core.Bool.{Bool, true, false, cond, false≢true}
use mathlib.Core.Logic.{◌⊎◌, inl, inr}
use mathlib.Core.List.{List, [], ◌∷◌}
use Prim.Native.Nat.{ℕ, suc}
use lib.ListN.{length}
use Rattle.std.proofs.lemmas.Slice.Eq.{HasBytesAt, text_from_reads}
use Rattle.std.specs.Prelude.{Option, Some, None}
use Rattle.octets.specs.Lists.{same}
use Rattle.octets.proofs.Words.{same_true, same_refl}
use Rattle.script.specs.Command.{openings, opening}
use Rattle.script.specs.Texts.{found}
use Rattle.script.specs.Word.{words, word_of}

stands-after : (y : ℕ) (t l : List ℕ) (i : ℕ) → HasBytesAt t i l → HasBytesAt (y ∷ t) (suc i) l
stands-after y t [] i h = tt
stands-after y t (x ∷ l) i h = (h.0, stands-after y t l (suc i) h.1)

stands : (l : List ℕ) → HasBytesAt l 0 l
stands [] = tt
stands (x ∷ l) = (refl, stands-after x l l 0 (stands l))

-- that a table has r beside t: t is one of its texts, or none
abbrev pub Outcome : {A : Type 0} → List (List ℕ × A) → List ℕ → Option A → Type 0
Outcome [] t r = r ≡ None
Outcome (k ∷ l) t r =
    ((r ≡ Some k.1) × (length t ≡ length k.0) × HasBytesAt t 0 k.0) ⊎ ((length t ≡ length k.0 → HasBytesAt t 0 k.0 → ⊥) × Outcome l t r)

outcome : {A : Type 0} (l : List (List ℕ × A)) (t : List ℕ) → Outcome l t (found l t)
unfolding found
outcome [] t = refl
outcome (k ∷ l) t = go (same t k.0) refl (outcome l t)
  where
    go : (b : Bool) → same t k.0 ≡ b → Outcome l t (found l t) → Outcome (k ∷ l) t (cond b (Some k.1) (found l t))
    go true e h = let f = same_true t k.0 e in inl (refl, rw f refl, rw f (stands k.0))
    go false e h = inr (λ n g. false≢true (sym e ∙ ap (λ (u : List ℕ). same u k.0) (text_from_reads t k.0 n g) ∙ same_refl k.0), h)

-- for `grind`, to which the first part names the call
pub told_word : (t : List ℕ) → (word_of t ≡ word_of t) × Outcome words t (word_of t)
unfolding word_of
told_word t = (refl, outcome words t)

pub told_opening : (t : List ℕ) → (opening t ≡ opening t) × Outcome openings t (opening t)
unfolding opening
told_opening t = (refl, outcome openings t)

-- The laws of base64's definitions. Assumes nothing.
use mathlib.Core.Path.{◌≡◌, refl, sym, ◌∙◌, ap}
use mathlib.Core.Bool.{Bool, true, false, cond, ◌&&◌}
use mathlib.Core.List.{List, [], ◌∷◌, ◌++◌}
use mathlib.Core.Logic.{◌↔◌}
use Prim.Native.Nat.{ℕ, zero, suc, ◌+◌, ◌*◌, ◌-◌, ◌/◌, ◌%◌, ◌<◌, ◌≤◌}
use native.Mathlib.Omega.{arith}
use borrow.Author.Tests.{ne_eqb}
use lib.Dec.{eqb}
use lib.ListN.{length, take, drop}
use lib.Seq.{drop-nil}
use Rattle.octets.specs.Lists.{Octets, holds}
use Rattle.std.specs.Prelude.{Option, Some}
use Rattle.base64text.specs.Base64.{alphabet, value, pad, encode, joined, octet1, octet2, octet3, group_of, octets_in, valid, octets, closing, measured}
use Rattle.base64text.specs.declared.Group.{Group}
use Rattle.base64text.proofs.Groups.{Cases, is_one, is-two, is-three, is_none, cases, not-pad}
use Rattle.base64text.proofs.Grammar.{Text, none, two-letters, three-letters, four-letters, text}
-- decoding an encoding gives the octets back; every accepted text is the encoding of what it decodes to; for n octets the encoded
-- length is 4 times n/3 rounded up
pub use Rattle.base64text.proofs.RoundTrip.{valid-encode, octets-encode, encode-octets}
pub use Rattle.base64text.proofs.Quads.{length-encode}
-- a text that is base64 may be decoded without a look at its form
pub use Rattle.base64text.proofs.Turns.{unchecked-octets, unchecked-decoded}
-- what a text stands for, group by group; from an index on, those of the group there, then those from the next one on
pub use Rattle.base64text.proofs.Turns.{octets_at, octets_groups, octets-turn, octets-end}

-- what a text decodes to are octets
pub octets-octets : (t : List ℕ) → Octets (octets t)
unfolding octets
octets-octets [] = tt
octets-octets (a ∷ []) = tt
octets-octets (a ∷ b ∷ []) = tt
octets-octets (a ∷ b ∷ c ∷ []) = tt
octets-octets (a ∷ b ∷ c ∷ d ∷ r) = go (group_of a b c d) (cases a b c d) (octets-octets r)
  where
    go : (g : Option Group) → Cases a b c d g → Octets (octets r) → Octets (octets_in g ++ octets r)
    go g (is_one ha hb hc hd hz) ih = (omega arith, ih)
    go g (is-two ha hb hc hd hz) ih = (omega arith, (omega arith, ih))
    go g (is-three ha hb hc hd) ih = (omega arith, (omega arith, (omega arith, ih)))
    go g is_none ih = ih

-- the octets of a valid text from its length and its closing "="
letter-not-pad : (x : ℕ) → value x < 64 → eqb x pad ≡ false
letter-not-pad x h = ne_eqb x pad (not-pad x h)

closing-letter : (x : ℕ) (l : List ℕ) → value x < 64 → closing (x ∷ l) ≡ closing l
unfolding closing
closing-letter x l h = rw (letter-not-pad x h)

counted : {t l : List ℕ} → Text t l → length l + closing t ≡ 3 * (length t / 4)
unfolding closing
counted none = refl
counted (two-letters ha hb hc hd hz) = rw (closing-letter _ _ ha, closing-letter _ _ hb, hc, hd)
counted (three-letters ha hb hc hd hz) = rw (closing-letter _ _ ha, closing-letter _ _ hb, closing-letter _ _ hc, hd)
counted (four-letters ha hb hc hd m) =
    rw (closing-letter _ _ ha, closing-letter _ _ hb, closing-letter _ _ hc, closing-letter _ _ hd) (omega (arith, counted m))

pub length-octets : (t : List ℕ) → valid t ≡ true → length (octets t) ≡ 3 * (length t / 4) - closing t
length-octets t h = omega (arith, counted (text t h))

-- "length a multiple of four, one or two "=" only at the end" (document 01)
whole-groups : {t l : List ℕ} → Text t l → length t % 4 ≡ 0
whole-groups none = refl
whole-groups (two-letters ha hb hc hd hz) = refl
whole-groups (three-letters ha hb hc hd hz) = refl
whole-groups (four-letters ha hb hc hd m) = omega (arith, whole-groups m)

closing-most : {t l : List ℕ} → Text t l → closing t ≤ 2
unfolding closing
closing-most none = omega arith
closing-most (two-letters ha hb hc hd hz) = rw (closing-letter _ _ ha, closing-letter _ _ hb, hc, hd) (omega arith)
closing-most (three-letters ha hb hc hd hz) = rw (closing-letter _ _ ha, closing-letter _ _ hb, closing-letter _ _ hc, hd) (omega arith)
closing-most (four-letters ha hb hc hd m) = rw (closing-letter _ _ ha, closing-letter _ _ hb, closing-letter _ _ hc, closing-letter _ _ hd) (closing-most m)

closing-within : (t : List ℕ) → closing t ≤ length t
unfolding closing
closing-within [] = omega arith
closing-within (x ∷ l) = go (eqb x pad && eqb (closing l) (length l)) (closing-within l)
  where
    go : (b : Bool) → closing l ≤ length l → cond b (closing l + 1) (closing l) ≤ suc (length l)
    go true h = omega arith
    go false h = omega arith

letters-before : {t l : List ℕ} → Text t l → holds pad (take (length t - closing t) t) ≡ false
unfolding closing
letters-before none = refl
letters-before (two-letters ha hb hc hd hz) = rw (closing-letter _ _ ha, closing-letter _ _ hb, hc, hd) (rw (letter-not-pad _ ha, letter-not-pad _ hb))
letters-before (three-letters ha hb hc hd hz) =
    rw (closing-letter _ _ ha, closing-letter _ _ hb, closing-letter _ _ hc, hd) (rw (letter-not-pad _ ha, letter-not-pad _ hb, letter-not-pad _ hc))
letters-before (four-letters {r = r} ha hb hc hd m) =
    let e : suc (suc (suc (suc (length r)))) - closing r ≡ suc (suc (suc (suc (length r - closing r)))) = omega (arith, closing-within r) in
    rw (closing-letter _ _ ha, closing-letter _ _ hb, closing-letter _ _ hc, closing-letter _ _ hd, e, letter-not-pad _ ha, letter-not-pad _ hb, letter-not-pad _ hc, letter-not-pad _ hd) (letters-before m)

pub shape : (t : List ℕ) → valid t ≡ true → (length t % 4 ≡ 0) × (closing t ≤ 2) × (holds pad (take (length t - closing t) t) ≡ false)
shape t h = (whole-groups (text t h), closing-most (text t h), letters-before (text t h))

-- two valid texts of equal length with equally many closing "=" are measured alike
pub same-measure : (t u : List ℕ) → valid t ≡ true → valid u ≡ true → length t ≡ length u → closing t ≡ closing u → measured t ≡ measured u
same-measure t u ht hu l k =
    let n : length (octets t) ≡ length (octets u) = omega (arith, counted (text t ht), counted (text u hu)) in
    rw (ht, hu) (ap Some n)

-- a valid text holds nothing but letters and "="
module _ (x : ℕ) (n : 64 ≤ value x) (p : x ≡ pad → ⊥) where
  other : (y : ℕ) → value y < 64 → eqb y x ≡ false
  other y h = ne_eqb y x (λ e. let z : value y ≡ value x = ap value e in omega arith)

  no-pad : (y : ℕ) → y ≡ pad → eqb y x ≡ false
  no-pad y h = ne_eqb y x (λ e. p (sym e ∙ h))

  holds_not : {t l : List ℕ} → Text t l → holds x t ≡ false
  holds_not none = refl
  holds_not (two-letters ha hb hc hd hz) = rw (other _ ha, other _ hb, no-pad _ hc, no-pad _ hd)
  holds_not (three-letters ha hb hc hd hz) = rw (other _ ha, other _ hb, other _ hc, no-pad _ hd)
  holds_not (four-letters ha hb hc hd m) = rw (other _ ha, other _ hb, other _ hc, other _ hd) (holds_not m)

  pub not-held : (t : List ℕ) → valid t ≡ true → holds x t ≡ false
  not-held t h = holds_not (text t h)

-- so no NUL, LF, CR or space
pub clean : (t : List ℕ) → valid t ≡ true → (holds 0 t ≡ false) × (holds 10 t ≡ false) × (holds 13 t ≡ false) × (holds 32 t ≡ false)
unfolding value alphabet
clean t h =
    (not-held 0 (omega arith) (λ e. omega arith) t h, not-held 10 (omega arith) (λ e. omega arith) t h, not-held 13 (omega arith) (λ e. omega arith) t h, not-held 32 (omega arith) (λ e. omega arith) t h)

-- RFC 4648 section 4: four letters of six bits each stand for three octets, so an octet lies in two letters side by side. Of a group's first
-- octet six bits are in the one letter and two in the next, of its second four and four, of its third two and six
module _ (p q r s : ℕ) (hp : p < 64) (hq : q < 64) (hr : r < 64) (hs : s < 64) where
  octet1-joined : octet1 (joined p q r s) ≡ p * 4 + q / 16
  octet1-joined = omega arith

  octet2-joined : octet2 (joined p q r s) ≡ q % 16 * 16 + r / 4
  octet2-joined = omega arith

  octet3-joined : octet3 (joined p q r s) ≡ r % 4 * 64 + s
  octet3-joined = omega arith

-- what two octets of text x and y hold of octet j, counted from 0: where y is "=", neither a second nor a third octet of a group
unpadded : ℕ → ℕ → List ℕ
unpadded y n = cond (eqb y pad) [] (n ∷ [])

held : ℕ → ℕ → ℕ → List ℕ
held zero x y = (value x * 4 + value y / 16) ∷ []
held (suc zero) x y = unpadded y (value x % 16 * 16 + value y / 4)
held (suc (suc zero)) x y = unpadded y (value x % 4 * 64 + value y)
held (suc (suc (suc j))) x y = held j x y

-- a function of two octets of text, where there are two
of_two : (ℕ → ℕ → List ℕ) → List ℕ → List ℕ
of_two f [] = []
of_two f (x ∷ []) = []
of_two f (x ∷ y ∷ l) = f x y

-- three octets on is four letters on
later : (j : ℕ) → suc (suc (suc j)) + suc (suc (suc j)) / 3 ≡ suc (suc (suc (suc (j + j / 3))))
later j = omega arith

-- octet j stands in the octets of text at index j + j / 3 and behind it, and in no other
octet-held : {t l : List ℕ} → Text t l → (j : ℕ) → take 1 (drop j l) ≡ of_two (held j) (take 2 (drop (j + j / 3) t))
unfolding of_two held unpadded
octet-held none j = rw (drop-nil j, drop-nil (j + j / 3))
octet-held (two-letters ha hb hc hd hz) zero = rw (octet1-joined _ _ 0 0 ha hb (omega arith) (omega arith))
octet-held (two-letters ha hb hc hd hz) (suc zero) = rw hc
octet-held (two-letters ha hb hc hd hz) (suc (suc zero)) = rw hd
octet-held (two-letters ha hb hc hd hz) (suc (suc (suc j))) = rw (later j, drop-nil (j + j / 3))
octet-held (three-letters ha hb hc hd hz) zero = rw (octet1-joined _ _ _ 0 ha hb hc (omega arith))
octet-held (three-letters ha hb hc hd hz) (suc zero) = rw (letter-not-pad _ hc, octet2-joined _ _ _ 0 ha hb hc (omega arith))
octet-held (three-letters ha hb hc hd hz) (suc (suc zero)) = rw hd
octet-held (three-letters ha hb hc hd hz) (suc (suc (suc j))) = rw (later j, drop-nil (j + j / 3))
octet-held (four-letters ha hb hc hd m) zero = rw (octet1-joined _ _ _ _ ha hb hc hd)
octet-held (four-letters ha hb hc hd m) (suc zero) = rw (letter-not-pad _ hc, octet2-joined _ _ _ _ ha hb hc hd)
octet-held (four-letters ha hb hc hd m) (suc (suc zero)) = rw (letter-not-pad _ hd, octet3-joined _ _ _ _ ha hb hc hd)
octet-held (four-letters ha hb hc hd m) (suc (suc (suc j))) = rw (later j) (octet-held m j)

-- so two valid texts, with closing "=" or without, stand for equal octets wherever the two octets of text that hold one are equal
pub same-octet : (t u : List ℕ) → valid t ≡ true → valid u ≡ true → (j : ℕ) → take 2 (drop (j + j / 3) t) ≡ take 2 (drop (j + j / 3) u)
    → take 1 (drop j (octets t)) ≡ take 1 (drop j (octets u))
same-octet t u ht hu j e = octet-held (text t ht) j ∙ ap (of_two (held j)) e ∙ sym (octet-held (text u hu) j)

-- a text is accepted exactly when it is the encoding of some octets
pub accepted : (t : List ℕ) → valid t ≡ true ↔ ((l : List ℕ) × Octets l × (encode l ≡ t))
accepted t = ((λ h. (octets t, octets-octets t, encode-octets t h)), (λ h. rw (← h.2) (valid-encode h.0 h.1)))

-- "xtext = *(xchar / hexchar)" as a view of a text. Assumes nothing.
use mathlib.Core.Path.{◌≡◌, refl, ◌∙◌}
use mathlib.Core.Bool.{Bool, true, false, cond, ◌&&◌}
use mathlib.Core.List.{List, [], ◌∷◌}
use Prim.Native.Nat.{ℕ, ◌/◌, ◌%◌, ◌<◌}
use borrow.Author.Tests.{ltb-true, lt-ltb, ne_eqb, eqb-true}
use lib.Dec.{eqb}
use Rattle.octets.proofs.Cases.{both}
use Rattle.xtext.specs.Xtext.{xchar, digit, number, hexdig, plus, valid, octets, needless, encode}
use Rattle.xtext.proofs.Characters.{xchar-not-plus}

pub data Xtext : List ℕ → Type 0 where
  none : Xtext []
  self : {x : ℕ} {l : List ℕ} → xchar x ≡ true → Xtext l → Xtext (x ∷ l)
  escape : {y z : ℕ} {l : List ℕ} → number y < 16 → number z < 16 → Xtext l → Xtext (plus ∷ y ∷ z ∷ l)

-- what the definitions say after an xchar
module _ (x : ℕ) (h : xchar x ≡ true) where
  pub valid-self : (l : List ℕ) → valid (x ∷ l) ≡ valid l
  unfolding valid
  valid-self [] = h
  valid-self (y ∷ []) = rw h
  valid-self (y ∷ z ∷ r) = rw (ne_eqb x plus (xchar-not-plus x h), h)

  pub octets-self : (l : List ℕ) → octets (x ∷ l) ≡ x ∷ octets l
  unfolding octets
  octets-self [] = refl
  octets-self (y ∷ []) = refl
  octets-self (y ∷ z ∷ r) = rw (ne_eqb x plus (xchar-not-plus x h))

  pub needless-self : (l : List ℕ) → needless (x ∷ l) ≡ needless l
  unfolding needless
  needless-self [] = refl
  needless-self (y ∷ []) = refl
  needless-self (y ∷ z ∷ r) = rw (ne_eqb x plus (xchar-not-plus x h))

-- what the writer writes for an octet
module _ (x : ℕ) (l : List ℕ) where
  pub encode-self : xchar x ≡ true → encode (x ∷ l) ≡ x ∷ encode l
  unfolding encode
  encode-self e = rw e

  pub encode-escape : xchar x ≡ false → encode (x ∷ l) ≡ plus ∷ digit (x / 16) ∷ digit (x % 16) ∷ encode l
  unfolding encode
  encode-escape e = rw e

-- a valid text is xtext, and xtext is valid
pub grammar : (t : List ℕ) → valid t ≡ true → Xtext t
unfolding valid
grammar [] e = none
grammar (x ∷ []) e = self e none
grammar (x ∷ y ∷ []) e = let h = both (xchar x) _ e in self h.0 (grammar (y ∷ []) h.1)
grammar (x ∷ y ∷ z ∷ r) e = go (eqb x plus) refl e (grammar r) (grammar (y ∷ z ∷ r))
  where
    go : (b : Bool) → eqb x plus ≡ b → cond b (hexdig y && hexdig z && valid r) (xchar x && valid (y ∷ z ∷ r)) ≡ true
        → (valid r ≡ true → Xtext r) → (valid (y ∷ z ∷ r) ≡ true → Xtext (y ∷ z ∷ r)) → Xtext (x ∷ y ∷ z ∷ r)
    go true f e third next =
        let h = both (hexdig y && hexdig z) _ e in
        let k = both (hexdig y) _ h.0 in
        rw (eqb-true x plus f) (escape (ltb-true _ _ k.0) (ltb-true _ _ k.1) (third h.1))
    go false f e third next = let h = both (xchar x) _ e in self h.0 (next h.1)

pub is-valid : {t : List ℕ} → Xtext t → valid t ≡ true
unfolding valid
is-valid none = refl
is-valid (self {x} {l} h r) = valid-self x h l ∙ is-valid r
is-valid (escape {y} {z} {l} p q r) = rw (lt-ltb (number y) 16 p, lt-ltb (number z) 16 q) (is-valid r)

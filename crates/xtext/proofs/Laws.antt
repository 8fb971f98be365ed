-- The laws of xtext. Assumes nothing.
use mathlib.Core.Path.{◌≡◌, refl, sym, ◌∙◌, ap}
use mathlib.Core.Bool.{Bool, true, false, cond, and-false, false≢true}
use mathlib.Core.List.{List, [], ◌∷◌}
use mathlib.Core.Logic.{◌↔◌}
use Prim.Native.Nat.{ℕ, ◌+◌, ◌/◌, ◌%◌, ◌<◌, ◌≤◌}
use native.Mathlib.Omega.{arith}
use borrow.Author.Tests.{lt-leb, ne_eqb}
use lib.Dec.{eqb}
use lib.ListN.{length}
use Rattle.octets.specs.Lists.{Octets, holds}
use Rattle.octets.proofs.Cases.{below, neither, split}
use Rattle.xtext.specs.Xtext.{xchar, digit, number, hexchar, plus, valid, octets, encode, needless}
use Rattle.xtext.proofs.Characters.{number-digit, digit-number, digit-xchar, hexchar-digits}
use Rattle.xtext.proofs.Grammar.{Xtext, none, self, escape, octets-self, needless-self, encode-self, encode-escape, grammar, is-valid}

-- the writer's text is xtext
written : (l : List ℕ) → Octets l → Xtext (encode l)
unfolding encode
written [] h = none
written (x ∷ l) h =
    let p = number-digit (x / 16) (omega arith) in
    let q = number-digit (x % 16) (omega arith) in
    let r = written l h.1 in
    split (xchar x)
    (λ e. rw (encode-self x l e) (self e r))
    (λ e. rw (encode-escape x l e) (escape {y = digit (x / 16)} {z = digit (x % 16)} (omega (arith, p)) (omega (arith, q)) r))

-- decoding what the writer writes gives the octets back
pub valid-encode : (l : List ℕ) → Octets l → valid (encode l) ≡ true
valid-encode l h = is-valid (written l h)

pub octets-encode : (l : List ℕ) → Octets l → octets (encode l) ≡ l
unfolding encode octets
octets-encode [] h = refl
octets-encode (x ∷ l) h =
    let ih = octets-encode l h.1 in
    split (xchar x) (λ e. rw (encode-self x l e, octets-self x e (encode l), ih)) (λ e. rw (encode-escape x l e, hexchar-digits x h.0, ih))

-- the writer escapes nothing needlessly
pub needless-encode : (l : List ℕ) → Octets l → needless (encode l) ≡ false
unfolding encode needless
needless-encode [] h = refl
needless-encode (x ∷ l) h =
    let ih = needless-encode l h.1 in
    split (xchar x) (λ e. rw (encode-self x l e, needless-self x e (encode l)) ih) (λ e. rw (encode-escape x l e, hexchar-digits x h.0, e) ih)

-- a text stands for octets
octet-xchar : (x : ℕ) → xchar x ≡ true → x < 256
octet-xchar x e = below x 127 (λ h. omega arith) (λ h. absurd (above (omega arith) (omega arith) (omega arith)))
  where
    above : 42 < x → 60 < x → 126 < x → ⊥
    above h k m = false≢true (simp (lt-leb x 42 h, lt-leb x 60 k, lt-leb x 126 m, and-false) at e)

octets-of : {t : List ℕ} → Xtext t → Octets (octets t)
unfolding octets
octets-of none = tt
octets-of (self {x} {l} h r) = rw (octets-self x h l) (octet-xchar x h, octets-of r)
octets-of (escape {y} {z} {l} p q r) = (omega arith, octets-of r)

pub octets-octets : (t : List ℕ) → valid t ≡ true → Octets (octets t)
octets-octets t e = octets-of (grammar t e)

-- of which there are no more than the text has
pub length-octets : (t : List ℕ) → length (octets t) ≤ length t
unfolding octets
length-octets [] = omega arith
length-octets (x ∷ []) = omega arith
length-octets (x ∷ y ∷ []) = omega arith
length-octets (x ∷ y ∷ z ∷ r) = go (eqb x plus) (length-octets r) (length-octets (y ∷ z ∷ r))
  where
    go : (b : Bool) → length (octets r) ≤ length r → length (octets (y ∷ z ∷ r)) ≤ length (y ∷ z ∷ r) → length (cond b (hexchar y z ∷ octets r) (x ∷ octets (y ∷ z ∷ r))) ≤ length (x ∷ y ∷ z ∷ r)
    go true h k = omega arith
    go false h k = omega arith

-- a text comes back the same exactly where it escapes nothing needlessly
comes_back : {t : List ℕ} → Xtext t → needless t ≡ false → encode (octets t) ≡ t
unfolding encode octets needless
comes_back none e = refl
comes_back (self {x} {l} h r) e = rw (octets-self x h l, h) (ap (λ (k : List ℕ). x ∷ k) (comes_back r (sym (needless-self x h l) ∙ e)))
comes_back (escape {y} {z} {l} p q r) e =
    let k = neither (xchar (hexchar y z)) (needless l) e in
    let u : hexchar y z / 16 ≡ number y = omega arith in
    let v : hexchar y z % 16 ≡ number z = omega arith in
    rw (k.0, u, v, digit-number y p, digit-number z q, comes_back r k.1)

pub same_text : (t : List ℕ) → valid t ≡ true → needless t ≡ false ↔ encode (octets t) ≡ t
same_text t e = (comes_back (grammar t e), λ f. rw f at (needless-encode (octets t) (octets-octets t e)))

-- the writer's text is the shortest
one-spelled : (x : ℕ) (l : List ℕ) → length (encode (x ∷ l)) ≤ 3 + length (encode l)
one-spelled x l = split (xchar x) (λ e. rw (encode-self x l e) (omega arith)) (λ e. rw (encode-escape x l e) (omega arith))

shortest_of : {t : List ℕ} → Xtext t → length (encode (octets t)) ≤ length t
unfolding encode octets
shortest_of none = omega arith
shortest_of (self {x} {l} h r) = rw (octets-self x h l, h) (omega (arith, shortest_of r))
shortest_of (escape {y} {z} {l} p q r) = omega (arith, one-spelled (hexchar y z) (octets l), shortest_of r)

pub shortest : (t : List ℕ) → valid t ≡ true → length (encode (octets t)) ≤ length t
shortest t e = shortest_of (grammar t e)

-- a valid text holds nothing but xchars and "+"
module _ (x : ℕ) (e : xchar x ≡ false) (f : x ≡ plus → ⊥) where
  other : (y : ℕ) → xchar y ≡ true → eqb y x ≡ false
  other y h = ne_eqb y x (λ g. false≢true (sym e ∙ (rw g at h)))

  holds_not : {t : List ℕ} → Xtext t → holds x t ≡ false
  holds_not none = refl
  holds_not (self {x = y} h r) = rw (other y h) (holds_not r)
  holds_not (escape {y} {z} p q r) = rw (ne_eqb plus x (λ g. f (sym g)), other y (digit-xchar y p), other z (digit-xchar z q)) (holds_not r)

  pub not-held : (t : List ℕ) → valid t ≡ true → holds x t ≡ false
  not-held t h = holds_not (grammar t h)

-- so no NUL, LF, CR, space or "="
pub clean : (t : List ℕ) → valid t ≡ true → (holds 0 t ≡ false) × (holds 10 t ≡ false) × (holds 13 t ≡ false) × (holds 32 t ≡ false) × (holds 61 t ≡ false)
clean t h =
    (not-held 0 refl (λ e. omega arith) t h, not-held 10 refl (λ e. omega arith) t h, not-held 13 refl (λ e. omega arith) t h, not-held 32 refl (λ e. omega arith) t h, not-held 61 refl (λ e. omega arith) t h)

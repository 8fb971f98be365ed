-- Decoding and encoding undo each other. Assumes nothing.
use mathlib.Core.Path.{◌≡◌, refl, sym, ◌∙◌, ap}
use mathlib.Core.Bool.{true}
use mathlib.Core.List.{List, [], ◌∷◌}
use Prim.Native.Nat.{ℕ, ◌+◌, ◌*◌, ◌/◌, ◌%◌, ◌<◌}
use native.Mathlib.Omega.{arith}
use Rattle.std.specs.Prelude.{Some}
use Rattle.octets.specs.Lists.{Octets}
use Rattle.octets.proofs.Alphabet.{get_d_index, index_get_d}
use Rattle.base64text.specs.Base64.{alphabet, letter, value, pad, bits, encode, joined, octet1, octet2, octet3, three, two, one, group_of, valid, octets}
use Rattle.base64text.specs.declared.Group.TheVariants.{One, Two, Three}
use Rattle.base64text.proofs.Groups.{three-of, two-of, one_of}
use Rattle.base64text.proofs.Grammar.{Text, none, two-letters, three-letters, four-letters, text}

-- a number's letter has that number, and a letter is the letter of its number
pub value-letter : (v : ℕ) → v < 64 → value (letter v) ≡ v
unfolding letter value alphabet
value-letter v h = index_get_d alphabet tt v h

pub letter-value : (x : ℕ) → value x < 64 → letter (value x) ≡ x
unfolding letter value alphabet
letter-value x h = get_d_index alphabet x h

-- 24 bits as octets and as 6-bit groups, and back
bits-octets : (w : ℕ) → w < 16777216 → bits (octet1 w) (octet2 w) (octet3 w) ≡ w
bits-octets w h = omega arith

bits-two : (w : ℕ) → w < 16777216 → w % 256 ≡ 0 → bits (octet1 w) (octet2 w) 0 ≡ w
bits-two w h e = omega arith

bits-one : (w : ℕ) → w < 16777216 → w % 65536 ≡ 0 → bits (octet1 w) 0 0 ≡ w
bits-one w h e = omega arith

joined_sextets : (w : ℕ) → w < 16777216 → joined (w / 262144 % 64) (w / 4096 % 64) (w / 64 % 64) (w % 64) ≡ w
joined_sextets w h =
    let e : w ≡ w / 64 * 64 + w % 64 = omega arith in
    let f : w / 64 ≡ w / 4096 * 64 + w / 64 % 64 = omega arith in
    let g : w / 4096 ≡ w / 262144 * 64 + w / 4096 % 64 = omega arith in
    let k : w / 262144 % 64 ≡ w / 262144 = omega arith in
    linear w (w / 64) (w / 4096) (w / 262144) (w / 262144 % 64) (w / 4096 % 64) (w / 64 % 64) (w % 64) e f g k
  where
    linear : (w u v x p q r s : ℕ) → w ≡ u * 64 + s → u ≡ v * 64 + r → v ≡ x * 64 + q → p ≡ x → joined p q r s ≡ w
    linear w u v x p q r s e f g k = omega arith

module _ (a b c w : ℕ) (ha : a < 256) (hb : b < 256) (hc : c < 256) (e : w ≡ bits a b c) where
  octet1-bits : a ≡ octet1 w
  octet1-bits = omega arith

  octet2-bits : b ≡ octet2 w
  octet2-bits = omega arith

  octet3-bits : c ≡ octet3 w
  octet3-bits = omega arith

module _ (p q r s w : ℕ) (hp : p < 64) (hq : q < 64) (hr : r < 64) (hs : s < 64) (e : w ≡ joined p q r s) where
  sextet1_joined : w / 262144 % 64 ≡ p
  sextet1_joined = omega arith

  sextet2_joined : w / 4096 % 64 ≡ q
  sextet2_joined = omega arith

  sextet3_joined : w / 64 % 64 ≡ r
  sextet3_joined = omega arith

  sextet4_joined : w % 64 ≡ s
  sextet4_joined = omega arith

  joined_small : w < 16777216
  joined_small = omega arith

-- the group of some letters
module _ (p q : ℕ) (hp : p < 64) (hq : q < 64) where
  letters-one : joined p q 0 0 % 65536 ≡ 0 → one (joined p q 0 0) ≡ group_of (letter p) (letter q) pad pad
  letters-one h =
      let u = value-letter p hp in
      let v = value-letter q hq in
      rw (u, v) at (one_of (letter p) (letter q) pad pad (omega arith) (omega arith) refl refl (rw (u, v) h))

  module _ (r : ℕ) (hr : r < 64) where
    letters-two : joined p q r 0 % 256 ≡ 0 → two (joined p q r 0) ≡ group_of (letter p) (letter q) (letter r) pad
    letters-two h =
        let u = value-letter p hp in
        let v = value-letter q hq in
        let x = value-letter r hr in
        rw (u, v, x) at (two-of (letter p) (letter q) (letter r) pad (omega arith) (omega arith) (omega arith) refl (rw (u, v, x) h))

    letters-three : (s : ℕ) → s < 64 → three (joined p q r s) ≡ group_of (letter p) (letter q) (letter r) (letter s)
    letters-three s hs =
        let u = value-letter p hp in
        let v = value-letter q hq in
        let x = value-letter r hr in
        let y = value-letter s hs in
        rw (u, v, x, y) at (three-of (letter p) (letter q) (letter r) (letter s) (omega arith) (omega arith) (omega arith) (omega arith))

-- the group of a quad
module _ (a b c : ℕ) (ha : a < 256) (hb : b < 256) (hc : c < 256) (w : ℕ) (e : w ≡ bits a b c) where
  group3 : Some (Three a b c) ≡ group_of (letter (w / 262144 % 64)) (letter (w / 4096 % 64)) (letter (w / 64 % 64)) (letter (w % 64))
  group3 =
      let x = octet1-bits a b c w ha hb hc e in
      let y = octet2-bits a b c w ha hb hc e in
      let z = octet3-bits a b c w ha hb hc e in
      let m : Some (Three a b c) ≡ three w = cc in
      m ∙ ap three (sym (joined_sextets w (omega arith)))
      ∙ letters-three (w / 262144 % 64) (w / 4096 % 64) (omega arith) (omega arith) (w / 64 % 64) (omega arith) (w % 64) (omega arith)

group2 : (a b : ℕ) → a < 256 → b < 256 → (w : ℕ) → w ≡ bits a b 0 → Some (Two a b) ≡ group_of (letter (w / 262144 % 64)) (letter (w / 4096 % 64)) (letter (w / 64 % 64)) pad
group2 a b ha hb w e =
    let x = octet1-bits a b 0 w ha hb (omega arith) e in
    let y = octet2-bits a b 0 w ha hb (omega arith) e in
    let m : Some (Two a b) ≡ two w = cc in
    let z : w % 64 ≡ 0 = omega arith in
    let j : w ≡ joined (w / 262144 % 64) (w / 4096 % 64) (w / 64 % 64) 0 = omega (arith, joined_sextets w (omega arith), z) in
    let k : joined (w / 262144 % 64) (w / 4096 % 64) (w / 64 % 64) 0 % 256 ≡ 0 = rw (← j) (omega arith) in
    m ∙ ap two j ∙ letters-two (w / 262144 % 64) (w / 4096 % 64) (omega arith) (omega arith) (w / 64 % 64) (omega arith) k

group1 : (a : ℕ) → a < 256 → (w : ℕ) → w ≡ bits a 0 0 → Some (One a) ≡ group_of (letter (w / 262144 % 64)) (letter (w / 4096 % 64)) pad pad
group1 a ha w e =
    let x = octet1-bits a 0 0 w ha (omega arith) (omega arith) e in
    let m : Some (One a) ≡ one w = cc in
    let y : w / 64 % 64 ≡ 0 = omega arith in
    let z : w % 64 ≡ 0 = omega arith in
    let j : w ≡ joined (w / 262144 % 64) (w / 4096 % 64) 0 0 = omega (arith, joined_sextets w (omega arith), y, z) in
    let k : joined (w / 262144 % 64) (w / 4096 % 64) 0 0 % 65536 ≡ 0 = rw (← j) (omega arith) in
    m ∙ ap one j ∙ letters-one (w / 262144 % 64) (w / 4096 % 64) (omega arith) (omega arith) k

-- "Decoding an encoding gives the octets back" (document 01)
pub valid-encode : (l : List ℕ) → Octets l → valid (encode l) ≡ true
unfolding encode valid
valid-encode [] h = refl
valid-encode (a ∷ []) h = rw (← (group1 a h.0 _ refl))
valid-encode (a ∷ b ∷ []) h = rw (← (group2 a b h.0 h.1.0 _ refl))
valid-encode (a ∷ b ∷ c ∷ r) h = rw (← (group3 a b c h.0 h.1.0 h.1.1.0 _ refl)) (valid-encode r h.1.1.1)

pub octets-encode : (l : List ℕ) → Octets l → octets (encode l) ≡ l
unfolding encode octets
octets-encode [] h = refl
octets-encode (a ∷ []) h = rw (← (group1 a h.0 _ refl))
octets-encode (a ∷ b ∷ []) h = rw (← (group2 a b h.0 h.1.0 _ refl))
octets-encode (a ∷ b ∷ c ∷ r) h =
    rw (← (group3 a b c h.0 h.1.0 h.1.1.0 _ refl)) (ap (λ (x : List ℕ). a ∷ b ∷ c ∷ x) (octets-encode r h.1.1.1))

-- "every accepted text is the encoding of what it decodes to" (document 01)
letter-is : (v a : ℕ) → value a < 64 → v ≡ value a → letter v ≡ a
letter-is v a h e = ap letter e ∙ letter-value a h

-- the letters of 24 bits that are joined from the numbers of a b c d
module _ (a b c d w : ℕ) (ha : value a < 64) (hb : value b < 64) where
  letters-ab : (r s : ℕ) → r < 64 → s < 64 → w ≡ joined (value a) (value b) r s → (letter (w / 262144 % 64) ≡ a) × (letter (w / 4096 % 64) ≡ b)
  letters-ab r s hr hs e =
      (letter-is _ a ha (sextet1_joined _ _ r s w ha hb hr hs e), letter-is _ b hb (sextet2_joined _ _ r s w ha hb hr hs e))

  letter-c : (s : ℕ) → value c < 64 → s < 64 → w ≡ joined (value a) (value b) (value c) s → letter (w / 64 % 64) ≡ c
  letter-c s hc hs e = letter-is _ c hc (sextet3_joined _ _ _ s w ha hb hc hs e)

  letter-d : value c < 64 → value d < 64 → w ≡ joined (value a) (value b) (value c) (value d) → letter (w % 64) ≡ d
  letter-d hc hd e = letter-is _ d hd (sextet4_joined _ _ _ _ w ha hb hc hd e)

four : (a b c d a' b' c' d' : ℕ) (r r' : List ℕ) → a ≡ a' → b ≡ b' → c ≡ c' → d ≡ d' → r ≡ r' → ◌≡◌ {A = List ℕ} (a ∷ b ∷ c ∷ d ∷ r) (a' ∷ b' ∷ c' ∷ d' ∷ r')
four a b c d a' b' c' d' r r' p q s t u = cc

encoded-again : {t l : List ℕ} → Text t l → encode l ≡ t
unfolding encode
encoded-again none = refl
encoded-again (two-letters {a = a} {b = b} {c = c} {d = d} ha hb hc hd hz) =
    let w = joined (value a) (value b) 0 0 in
    let e : bits (octet1 w) 0 0 ≡ w = bits-one w (joined_small _ _ 0 0 w ha hb (omega arith) (omega arith) refl) hz in
    let k = letters-ab a b c d (bits (octet1 w) 0 0) ha hb 0 0 (omega arith) (omega arith) e in
    four _ _ _ _ a b c d _ [] k.0 k.1 (sym hc) (sym hd) refl
encoded-again (three-letters {a = a} {b = b} {c = c} {d = d} ha hb hc hd hz) =
    let w = joined (value a) (value b) (value c) 0 in
    let e : bits (octet1 w) (octet2 w) 0 ≡ w = bits-two w (joined_small _ _ _ 0 w ha hb hc (omega arith) refl) hz in
    let k = letters-ab a b c d (bits (octet1 w) (octet2 w) 0) ha hb _ 0 hc (omega arith) e in
    four _ _ _ _ a b c d _ [] k.0 k.1 (letter-c a b c d _ ha hb 0 hc (omega arith) e) (sym hd) refl
encoded-again (four-letters {a = a} {b = b} {c = c} {d = d} {r = r} ha hb hc hd m) =
    let w = joined (value a) (value b) (value c) (value d) in
    let e : bits (octet1 w) (octet2 w) (octet3 w) ≡ w = bits-octets w (joined_small _ _ _ _ w ha hb hc hd refl) in
    let k = letters-ab a b c d (bits (octet1 w) (octet2 w) (octet3 w)) ha hb _ _ hc hd e in
    four _ _ _ _ a b c d _ r k.0 k.1 (letter-c a b c d _ ha hb _ hc hd e) (letter-d a b c d _ ha hb hc hd e) (encoded-again m)

pub encode-octets : (t : List ℕ) → valid t ≡ true → encode (octets t) ≡ t
encode-octets t h = encoded-again (text t h)

-- The reading that refuses: what it takes is what is written for a value within the conditions, and every good one is taken. Assumes nothing.
use mathlib.Core.Path.{◌≡◌, refl, sym, ap, ◌∙◌}
use mathlib.Core.Bool.{Bool, true, false, cond, ◌&&◌}
use mathlib.Core.Logic.{◌↔◌}
use mathlib.Core.Option.{none, some, some-injective, none-ne-some}
use mathlib.Core.List.{List, [], append-nil}
use Prim.Native.Nat.{ℕ}
use lib.ListN.{length}
use Rattle.octets.specs.Lists.{same}
use Rattle.octets.proofs.Cases.{both}
use Rattle.octets.proofs.Words.{same_true, same_refl, same-lengths}
use Rattle.codec.specs.Codec.{Codec, decode}
use Rattle.codec.specs.InPlace.{canonical_at}
use Rattle.codec.proofs.Lawful.{Lawful}
use Rattle.codec.proofs.InPlace.{same_whole}

-- by a test: what is taken passed it
taken : {A : Type 0} (b : Bool) (x y : A) → cond b (some x) none ≡ some y → (b ≡ true) × (x ≡ y)
taken true x y e = (refl, some-injective x y e)
taken false x y e = absurd (none-ne-some y e)

module _ {A : Type 0} (a : Codec A) (within : A → Bool) (l : List ℕ) where
  pub decode-sound : (x : A) → decode a within l ≡ some x → (l ≡ a.put x) × (x ≡ a.get l 0) × (within x ≡ true)
  unfolding decode
  decode-sound x h =
      let t = taken (same (a.put (a.get l 0)) l && within (a.get l 0)) (a.get l 0) x h in
      let b = both (same (a.put (a.get l 0)) l) (within (a.get l 0)) t.0 in
      rw (← t.1) (sym (same_true (a.put (a.get l 0)) l b.0), refl, b.1)

  -- a function that writes the value again and compares
  pub decode-other : (x : A) → x ≡ a.get l 0 → same (a.put x) l ≡ false → decode a within l ≡ none
  unfolding decode
  decode-other x e h = rw (← e, h)

  pub decode-own : (x : A) → x ≡ a.get l 0 → same (a.put x) l ≡ true → decode a within l ≡ cond (within x) (some x) none
  unfolding decode
  decode-own x e h = rw (← e, h)

module _ {A : Type 0} {a : Codec A} (w : Lawful a) where
  pub get-whole : (x : A) → w.Good x → a.get (a.put x) 0 ≡ x
  get-whole x g = rw append-nil at (w.get-put [] x [] 0 refl g)

  -- good values that write the same are the same
  pub put-injective : (x y : A) → w.Good x → w.Good y → a.put x ≡ a.put y → x ≡ y
  put-injective x y g h e = sym (get-whole x g) ∙ ap (λ (l : List ℕ). a.get l 0) e ∙ get-whole y h

  module _ (within : A → Bool) where
    pub decode-complete : (x : A) → w.Good x → within x ≡ true → decode a within (a.put x) ≡ some x
    unfolding decode
    decode-complete x g h = rw (get-whole x g, same_refl, h)

    pub decode-iff : (l : List ℕ) (x : A) → w.Good x → (decode a within l ≡ some x) ↔ ((l ≡ a.put x) × (within x ≡ true))
    decode-iff l x g = (
      λ h. let s = decode-sound a within l x h in (s.0, s.2),
      λ h. ap (decode a within) h.0 ∙ decode-complete x g h.1,
    )

    pub decode-size : (l : List ℕ) (x : A) → decode a within l ≡ some x → length l ≡ a.size
    decode-size l x h = ap length (decode-sound a within l x h).0 ∙ w.put-length x

    pub decode-length : (l : List ℕ) → (length l ≡ a.size → ⊥) → decode a within l ≡ none
    unfolding decode
    decode-length l n = rw (same-lengths (a.put (a.get l 0)) l (λ e. n (sym e ∙ w.put-length (a.get l 0))))

  -- where the length is right, tested in place
  module _ (l : List ℕ) (len : length l ≡ a.size) where
    pub same-canonical : same (a.put (a.get l 0)) l ≡ canonical_at a l 0
    same-canonical = same_whole (a.put (a.get l 0)) l (w.put-length (a.get l 0) ∙ sym len)

    module _ (within : A → Bool) where
      pub decode_is : decode a within l ≡ cond (canonical_at a l 0 && within (a.get l 0)) (some (a.get l 0)) none
      unfolding decode
      decode_is = rw same-canonical

      pub decode-taken : (canonical_at a l 0 && within (a.get l 0)) ≡ true → decode a within l ≡ some (a.get l 0)
      decode-taken e = decode_is ∙ rw e

      pub decode-refused : (canonical_at a l 0 && within (a.get l 0)) ≡ false → decode a within l ≡ none
      decode-refused e = decode_is ∙ rw e

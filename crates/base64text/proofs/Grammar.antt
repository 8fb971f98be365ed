-- The texts that are base64, by their form, each with what it stands for: RFC 4954 section 8, "base64 = base64-terminal / ( 1*(4base64-char)
-- [base64-terminal] )", and the empty text. The laws go by its cases. Assumes nothing.
use mathlib.Core.Path.{◌≡◌}
use mathlib.Core.Bool.{true, false≢true}
use mathlib.Core.List.{List, [], ◌∷◌, ◌++◌}
use Prim.Native.Nat.{ℕ, ◌%◌, ◌<◌}
use Rattle.octets.specs.Lists.{is_empty}
use Rattle.base64text.specs.Base64.{value, pad, joined, octet1, octet2, octet3, group_of, octets_in, follows, valid, octets}
use Rattle.std.specs.Prelude.{Option}
use Rattle.base64text.specs.declared.Group.{Group}
use Rattle.base64text.proofs.Groups.{Cases, is_one, is-two, is-three, is_none, cases}

pub data Text : List ℕ → List ℕ → Type 0 where
  none : Text [] []
  two-letters : {a b c d : ℕ} → value a < 64 → value b < 64 → c ≡ pad → d ≡ pad → joined (value a) (value b) 0 0 % 65536 ≡ 0
      → Text (a ∷ b ∷ c ∷ d ∷ []) (octet1 (joined (value a) (value b) 0 0) ∷ [])
  three-letters : {a b c d : ℕ} → value a < 64 → value b < 64 → value c < 64 → d ≡ pad → joined (value a) (value b) (value c) 0 % 256 ≡ 0
      → Text (a ∷ b ∷ c ∷ d ∷ []) (octet1 (joined (value a) (value b) (value c) 0) ∷ octet2 (joined (value a) (value b) (value c) 0) ∷ [])
  four-letters : {a b c d : ℕ} {r l : List ℕ} → value a < 64 → value b < 64 → value c < 64 → value d < 64 → Text r l
      → Text (a ∷ b ∷ c ∷ d ∷ r)
      (octet1 (joined (value a) (value b) (value c) (value d)) ∷ octet2 (joined (value a) (value b) (value c) (value d)) ∷ octet3 (joined (value a) (value b) (value c) (value d)) ∷ l)

pub text : (t : List ℕ) → valid t ≡ true → Text t (octets t)
unfolding valid octets
text [] h = none
text (a ∷ []) h = absurd (false≢true h)
text (a ∷ b ∷ []) h = absurd (false≢true h)
text (a ∷ b ∷ c ∷ []) h = absurd (false≢true h)
text (a ∷ b ∷ c ∷ d ∷ r) h = go (group_of a b c d) (cases a b c d) r (text r) h
  where
    go : (g : Option Group) → Cases a b c d g → (r : List ℕ) → (valid r ≡ true → Text r (octets r)) → follows g (is_empty r) (valid r) ≡ true → Text (a ∷ b ∷ c ∷ d ∷ r) (octets_in g ++ octets r)
    go g (is_one ha hb hc hd hz) [] ih h = two-letters ha hb hc hd hz
    go g (is_one ha hb hc hd hz) (x ∷ r) ih h = absurd (false≢true h)
    go g (is-two ha hb hc hd hz) [] ih h = three-letters ha hb hc hd hz
    go g (is-two ha hb hc hd hz) (x ∷ r) ih h = absurd (false≢true h)
    go g (is-three ha hb hc hd) r ih h = four-letters ha hb hc hd (ih h)
    go g is_none r ih h = absurd (false≢true h)

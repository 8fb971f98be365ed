-- The digits, and what the reader looks up of an octet. Assumes nothing.
use mathlib.Core.Path.{◌≡◌, refl, sym, ◌∙◌}
use mathlib.Core.Bool.{Bool, true, false, cond, false≢true}
use mathlib.Core.List.{List}
use Prim.Native.Nat.{ℕ, ◌/◌, ◌%◌, ◌<◌, ◌≤◌}
use native.Mathlib.Omega.{arith}
use borrow.Author.Tests.{lt-ltb, ltb-true}
use lib.Dec.{ltb}
use lib.ListN.{length, get_or, get_or-eq_default}
use Rattle.octets.proofs.Table.{at}
use Rattle.octets.proofs.Cases.{T_true, below, both}
use Rattle.octets.proofs.Alphabet.{get_d_index, index_get_d, index-most, looked-up}
use Rattle.xtext.specs.Xtext.{xchar, digits, digit, number, hexdig, hexchar, plus}
use Rattle.xtext.specs.Private.{kind, kinds, begins}

-- a digit and its number
pub number-digit : (v : ℕ) → v < 16 → number (digit v) ≡ v
unfolding number digit digits
number-digit v h = index_get_d digits tt v h

xchar-digit : (v : ℕ) → v < 16 → xchar (digit v) ≡ true
unfolding digit digits
xchar-digit v h = T_true _ (at (λ (k x : ℕ). xchar x) digits tt v h)

number-most : (x : ℕ) → number x ≤ 16
unfolding number digits
number-most x = index-most digits x

pub digit-number : (x : ℕ) → number x < 16 → digit (number x) ≡ x
unfolding number digit digits
digit-number x h = get_d_index digits x h

module _ (x : ℕ) where
  pub digit-xchar : number x < 16 → xchar x ≡ true
  digit-xchar h = rw (digit-number x h) at (xchar-digit (number x) h)

  pub xchar-not-plus : xchar x ≡ true → x ≡ plus → ⊥
  xchar-not-plus h e = false≢true (rw e at h)

  -- the octet that two digits stand for is the one whose digits they are
  pub hexchar-digits : x < 256 → hexchar (digit (x / 16)) (digit (x % 16)) ≡ x
  hexchar-digits h =
      let p = number-digit (x / 16) (omega arith) in
      let q = number-digit (x % 16) (omega arith) in
      omega (arith, p, q)

  -- an octet's kind
  pub kind_xchar : ltb (kind x) 17 ≡ xchar x
  unfolding kind
  kind_xchar = go (xchar x)
    where
      go : (b : Bool) → ltb (cond b (number x) 17) 17 ≡ b
      go true = lt-ltb (number x) 17 (omega (arith, number-most x))
      go false = refl

  pub kind_hexdig : ltb (kind x) 16 ≡ hexdig x
  unfolding kind
  kind_hexdig = go (xchar x) refl
    where
      no_digit : (b : Bool) → hexdig x ≡ b → xchar x ≡ false → false ≡ b
      no_digit true h e = sym e ∙ digit-xchar (ltb-true _ _ h)
      no_digit false h e = refl

      go : (b : Bool) → xchar x ≡ b → ltb (cond b (number x) 17) 16 ≡ hexdig x
      go true e = refl
      go false e = no_digit (hexdig x) refl e

  pub kind_number : number x < 16 → kind x ≡ number x
  unfolding kind
  kind_number h = rw (digit-xchar h)

-- an octet's kind is looked up
pub kind_at : (l : List ℕ) (x : ℕ) → l ≡ kinds → x < 256 → get_or l x 0 ≡ kind x
unfolding kinds
kind_at l x e h = looked-up kind l x _ e h refl

-- past the end there is no digit
pub past_end : (t : List ℕ) (i : ℕ) → length t ≤ i → hexdig (get_or t i 0) ≡ false
unfolding number digits
past_end t i h = rw (get_or-eq_default t 0 {n = i} h)

-- so a hexchar is whole
pub begins_long : (t : List ℕ) → begins t ≡ true → 3 ≤ length t
unfolding begins
begins_long t e = below (length t) 3 (λ h. absurd (false≢true (sym (past_end t 2 (omega arith)) ∙ (both _ (hexdig (get_or t 2 0)) e).1))) (λ h. h)

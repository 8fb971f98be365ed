-- What a write leaves; what an answer of measure says, and with it what decode and encode have to answer. Assumes nothing.
use mathlib.Core.Path.{◌≡◌, refl, sym, ◌∙◌, ap}
use mathlib.Core.Bool.{Bool, true, false, cond}
use mathlib.Core.List.{List, [], ◌∷◌, ◌++◌}
use Prim.Native.Nat.{ℕ, ◌+◌, ◌<◌, ◌≤◌}
use native.Mathlib.Nat.{zero-add}
use native.Mathlib.Omega.{arith}
use borrow.Author.Tests.{le-leb, lt-leb}
use lib.Dec.{leb}
use lib.ListN.{length, take, drop, length-append}
use lib.Seq.{sets, sets-eq, length-sets}
use Rattle.octets.specs.Answers.{written, measured, decoded, decoded_into, encoded}
use Rattle.octets.specs.declared.DecodeError.TheVariants.{Malformed, Short}
use Rattle.std.specs.Prelude.{ok_or, Option, Some, None, Ok, Err}
use Rattle.octets.proofs.Cases.{picked}
use Rattle.octets.proofs.Lists.{sets-append}

-- what a write changes: the octets from `at` on, as many as are written, and nothing else
pub written_is : (o : List ℕ) (at : ℕ) (l : List ℕ) → at + length l ≤ length o → written o at l ≡ take at o ++ l ++ drop (at + length l) o
written_is o at l h = rw (le-leb _ _ h) (sets-eq l o at h)

-- no octets leave a buffer as it is
pub nothing_written : (b : List ℕ) → written b 0 [] ≡ b
nothing_written b = picked (λ (o : List ℕ). o ≡ b) (leb (0 + 0) (length b)) b b refl refl

pub length-written : (o : List ℕ) (at : ℕ) (l : List ℕ) → length (written o at l) ≡ length o
length-written o at l = go (leb (at + length l) (length o))
  where
    go : (b : Bool) → length (cond b (sets o at l) o) ≡ length o
    go true = length-sets o at l
    go false = refl

-- a write in two parts
pub written-append : (o : List ℕ) (at : ℕ) (u v : List ℕ) → at + length (u ++ v) ≤ length o → written (written o at u) (at + length u) v ≡ written o at (u ++ v)
written-append o at u v h =
    let w : at + length u + length v ≤ length o = omega (arith, length-append u v) in
    let x : at + length u ≤ length o = omega arith in
    let y : at + length u + length v ≤ length (sets o at u) = omega (arith, length-sets o at u) in
    rw (le-leb _ _ x, le-leb _ _ y, le-leb _ _ h) (sym (sets-append o at u v))

-- the measure of a text of which n octets are read and the rest stands for l: what a loop keeps equal
abbrev pub resumed : ℕ → Bool → List ℕ → Option ℕ
resumed n ok l = cond ok (Some (n + length l)) None

pub resumed-zero : (ok : Bool) (l : List ℕ) → resumed 0 ok l ≡ measured ok l
resumed-zero ok l = simp zero-add

pub one_more : (ok : Bool) (n x : ℕ) (l : List ℕ) → resumed n ok (x ∷ l) ≡ resumed (n + 1) ok l
one_more ok n x l = ap (λ (k : ℕ). cond ok (Some k) None) (omega arith)

length-true : (b : Bool) (k n : ℕ) → Some n ≡ cond b (Some k) None → (b ≡ true) × (n ≡ k)
length-true true k n e = (refl, (cc))
length-true false k n e = absurd (cc)

malformed-false : (b : Bool) (k : ℕ) → None ≡ cond b (Some k) None → b ≡ false
malformed-false true k e = absurd (cc)
malformed-false false k e = refl

module _ (ok : Bool) (l : List ℕ) (m : Option ℕ) (e : m ≡ measured ok l) where
  pub is-length : (n : ℕ) → m ≡ Some n → (ok ≡ true) × (n ≡ length l)
  is-length n f = length-true ok (length l) n (sym f ∙ e)

  pub is-malformed : m ≡ None → ok ≡ false
  is-malformed f = malformed-false ok (length l) (sym f ∙ e)

  -- the answers of decode
  pub took : (n : ℕ) (o o' : List ℕ) → m ≡ Some n → o' ≡ sets o 0 l → n ≤ length o → (Ok n ≡ decoded ok l (length o)) × (o' ≡ decoded_into ok l o)
  took n o o' f g h =
      let y = is-length n f in
      let k : length l ≤ length o = omega arith in
      let k' : 0 + length l ≤ length o = omega arith in
      (simp (y.0, le-leb _ _ k, y.1), simp (y.0, le-leb _ _ k', g))

  pub too_long : (n : ℕ) (o : List ℕ) → m ≡ Some n → length o < n → (Err Short ≡ decoded ok l (length o)) × (o ≡ decoded_into ok l o)
  too_long n o f h =
      let y = is-length n f in
      let k : length o < length l = omega arith in
      let k' : length o < 0 + length l = omega arith in
      (simp (y.0, lt-leb _ _ k), simp (y.0, lt-leb _ _ k'))

  pub refused : (o : List ℕ) → m ≡ None → (Err Malformed ≡ decoded ok l (length o)) × (o ≡ decoded_into ok l o)
  refused o f = let y = is-malformed f in (simp y, simp y)

-- the same where what is malformed was turned away by `?`
pub length-ok : (ok : Bool) (l : List ℕ) (n : ℕ) → Ok n ≡ ok_or (measured ok l) Malformed → (ok ≡ true) × (n ≡ length l)
length-ok true l n e = (refl, (cc))
length-ok false l n e = absurd (cc)

-- the answers of encode
module _ (t o : List ℕ) (at : ℕ) where
  pub no_room : length o < at + length t → (None ≡ encoded t (length o) at) × (o ≡ written o at t)
  no_room h = (simp (lt-leb _ _ h), simp (lt-leb _ _ h))

  pub room : (r : ℕ) (o' : List ℕ) → (r ≡ at + length t) × (o' ≡ sets o at t) → at + length t ≤ length o
      → (Some r ≡ encoded t (length o) at) × (o' ≡ written o at t)
  room r o' e h = (simp (le-leb _ _ h, e.0), simp (le-leb _ _ h, e.1))

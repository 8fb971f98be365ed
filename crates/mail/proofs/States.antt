-- "<>" and addresses, read one octet after the other. Assumes nothing.
use mathlib.Core.Path.{◌≡◌, refl}
use mathlib.Core.Bool.{Bool, true, false, cond, ◌&&◌, ◌||◌}
use mathlib.Core.List.{List, [], ◌∷◌}
use Prim.Native.Nat.{ℕ, suc, ◌+◌, ◌-◌}
use native.Mathlib.Nat.{zero-add}
use native.Mathlib.Omega.{arith}
use borrow.Author.Tests.{eqb-true}
use lib.Dec.{eqb}
use lib.ListN.{length, take}
use Rattle.octets.specs.Ascii.{ascii}
use Rattle.octets.specs.Lists.{holds, same}
use Rattle.xtext.specs.Xtext
use Rattle.mail.specs.Address.{address}
use Rattle.mail.specs.Mail.{said}
use Rattle.mail.specs.Parameter.{null, auth_value}
use Rattle.mail.specs.Private.{passed, run, ends_at, at_end, judged}
use Rattle.mail.specs.declared.Mail.{Mail}
use Rattle.mail.specs.declared.address.State.{State}
use Rattle.octets.specs.declared.reader.Reading.{Reading}
use Rattle.std.specs.Prelude.{Option, Some, None}

-- whether an "@" stands before the last octet
abbrev inside : List ℕ → Bool
inside [] = false
inside (y ∷ []) = false
inside (y ∷ z ∷ r) = eqb y 0x40 || inside (z ∷ r)

holds-inside : (y : ℕ) (r : List ℕ) → holds 0x40 (take (length r) (y ∷ r)) ≡ inside (y ∷ r)
holds-inside y [] = refl
holds-inside y (z ∷ r) = rw (holds-inside z r)

address-cons : (x : ℕ) (m : List ℕ) → address (x ∷ m) ≡ inside m
unfolding address
address-cons x [] = refl
address-cons x (y ∷ r) = let e : suc (suc (length r)) - 1 ≡ suc (length r) = omega arith in rw e (holds-inside y r)

-- what the states say of the octets to come, in a value that stands from one index up to another and decodes to n octets
abbrev found : Bool → ℕ → ℕ → ℕ → Option (Reading Mail)
found b from to n = cond b (Some (ends_at (Mail.Address from to n) to)) None

run-address : (l : List ℕ) → run State.Address l ≡ State.Address
unfolding run
run-address [] = refl
run-address (x ∷ l) = run-address l

module _ (from to n : ℕ) where
  run-inner : (m : List ℕ) → at_end (run State.Inner m) from to n ≡ found (inside m) from to n
  unfolding run
  run-inner [] = refl
  run-inner (y ∷ []) = go (eqb y 0x40)
    where
      go : (b : Bool) → at_end (cond b State.At State.Inner) from to n ≡ None
      go true = refl
      go false = refl
  run-inner (y ∷ z ∷ r) = go (eqb y 0x40) (run-inner (z ∷ r))
    where
      go : (b : Bool) → at_end (run State.Inner (z ∷ r)) from to n ≡ found (inside (z ∷ r)) from to n
          → at_end (run (cond b State.At State.Inner) (z ∷ r)) from to n ≡ found (b || inside (z ∷ r)) from to n
      go true ih = rw (run-address r)
      go false ih = ih

  -- after "<>"
  run-null : (y : ℕ) (r : List ℕ) → eqb y 0x3E ≡ true
      → at_end (run State.Null r) from to n ≡ cond (same r []) (Some (ends_at Mail.Null to)) (found (inside (y ∷ r)) from to n)
  unfolding run same
  run-null y [] q = refl
  run-null y (z ∷ r) q = rw (eqb-true y 0x3E q) (run-inner (z ∷ r))

  -- after "<"
  run-less : (m : List ℕ) → at_end (run State.Less m) from to n ≡ cond (same m (0x3E ∷ [])) (Some (ends_at Mail.Null to)) (found (inside m) from to n)
  unfolding run same
  run-less [] = refl
  run-less (y ∷ r) = go (eqb y 0x3E) refl
    where
      go : (b : Bool) → eqb y 0x3E ≡ b
          → at_end (run (cond b State.Null (passed y)) r) from to n ≡ cond (b && same r []) (Some (ends_at Mail.Null to)) (found (inside (y ∷ r)) from to n)
      go true q = run-null y r q
      go false q = run-inner (y ∷ r)

  run-start : (l : List ℕ) → at_end (run State.Start l) from to n ≡ cond (same l (ascii "<>")) (Some (ends_at Mail.Null to)) (found (address l) from to n)
  unfolding run same address
  run-start [] = refl
  run-start (x ∷ m) = rw (address-cons x m) (go (eqb x 0x3C))
    where
      go : (b : Bool) → at_end (run (cond b State.Less State.Inner) m) from to n ≡ cond (b && same m (0x3E ∷ [])) (Some (ends_at Mail.Null to)) (found (inside m) from to n)
      go true = run-less m
      go false = run-inner m

-- a value that stands from one index up to another, of which n octets are read, to the state s, and the text t is left
abbrev pub going : State → ℕ → ℕ → ℕ → List ℕ → Option (Reading Mail)
going s from to n t = cond (Xtext.valid t) (at_end (run s (Xtext.octets t)) from to (n + length (Xtext.octets t))) None

pub going_start : (from to : ℕ) (t : List ℕ) → from + length t ≡ to → going State.Start from to 0 t ≡ judged from t
unfolding judged auth_value said
going_start from to t e = rw (e, zero-add (length (Xtext.octets t)), run-start from to (length (Xtext.octets t)) (Xtext.octets t)) (go (Xtext.valid t) (null t) (address (Xtext.octets t)))
  where
    go : (a b c : Bool) → cond a (cond b (Some (ends_at Mail.Null to)) (found c from to (length (Xtext.octets t)))) None
        ≡ cond (a && (b || c)) (Some (ends_at (cond b Mail.Null (Mail.Address from to (length (Xtext.octets t)))) to)) None
    go false b c = refl
    go true true c = refl
    go true false true = refl
    go true false false = refl

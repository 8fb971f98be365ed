-- What a well formed server's tests say by index: no two open connections have one number, no two wait on one ticket, no two mechanisms have
-- one name. Assumes nothing.
use mathlib.Core.Path.{◌≡◌, refl, sym, ap, ◌∙◌}
use mathlib.Core.Bool.{Bool, true, false, not, true≢false}
use mathlib.Core.Option.{Option, none, some}
use mathlib.Core.List.{List, [], ◌∷◌}
use Prim.Native.Nat.{ℕ, zero, suc, ◌<◌}
use native.Mathlib.Nat.{not-suc-le-zero, le_of_suc-le-suc}
use lib.Dec.{eqb}
use borrow.Author.Tests.{eq-eqb, not-true}
use lib.ListN.{length, get_or}
use Rattle.octets.specs.Lists.{every, same}
use Rattle.octets.proofs.Cases.{both}
use Rattle.octets.proofs.Words.{same_refl}
use Rattle.octets.proofs.Every.{every-all}
use Rattle.server.specs.Server.{Server}
use Rattle.server.specs.WellFormed.{number_of, ticket_of, clashes, apart, differ, same_name, well_formed}
use Rattle.server.specs.declared.Mechanism.{Mechanism}
use Rattle.server.proofs.Within.{server-parts, mechanisms-parts, slots-parts}

-- two elements at different indices do not clash
pub apart-at : {A : Type 0} (clash : A → A → Bool) (xs : List A) (d : A) → apart clash xs ≡ true → (i j : ℕ) → i < j → j < length xs
    → clash (get_or xs i d) (get_or xs j d) ≡ false
unfolding apart
apart-at clash [] d e i j h k = absurd (not-suc-le-zero k)
apart-at clash (x ∷ xs) d e zero zero h k = absurd (not-suc-le-zero h)
apart-at clash (x ∷ xs) d e zero (suc j) h k =
    not-true (clash x (get_or xs j d)) (every-all (λ y. not (clash x y)) xs d (both (every (λ y. not (clash x y)) xs) (apart clash xs) e).0 j (le_of_suc-le-suc k))
apart-at clash (x ∷ xs) d e (suc i) zero h k = absurd (not-suc-le-zero h)
apart-at clash (x ∷ xs) d e (suc i) (suc j) h k =
    apart-at clash xs d (both (every (λ y. not (clash x y)) xs) (apart clash xs) e).1 i j (le_of_suc-le-suc h) (le_of_suc-le-suc k)

differ-at : {A : Type 0} (key : A → Option ℕ) (xs : List A) (d : A) → differ key xs ≡ true → (i j : ℕ) → i < j → j < length xs
    → (n : ℕ) → key (get_or xs i d) ≡ some n → key (get_or xs j d) ≡ some n → ⊥
differ-at key xs d e i j h k n a b =
    let c : clashes (key (get_or xs i d)) (key (get_or xs j d)) ≡ false = apart-at (λ x y. clashes (key x) (key y)) xs d e i j h k in
    let f : eqb n n ≡ false = rw (a, b) at c in
    true≢false (sym (eq-eqb n n refl) ∙ f)

-- ---- the tests of a well formed server

module _ (s : Server) (w : well_formed s ≡ true) (i j : ℕ) (h : i < j) where
  -- "open connections' numbers differ"
  pub numbers-differ : j < length s.slots → (n : ℕ) → number_of (get_or s.slots i none) ≡ some n → number_of (get_or s.slots j none) ≡ some n → ⊥
  numbers-differ k n a b = differ-at number_of s.slots none (slots-parts s.header s.slots (server-parts s w).2).2 i j h k n a b

  -- "waiting tickets likewise"
  pub tickets-differ : j < length s.slots → (t : ℕ) → ticket_of (get_or s.slots i none) ≡ some t → ticket_of (get_or s.slots j none) ≡ some t → ⊥
  tickets-differ k t a b = differ-at ticket_of s.slots none (slots-parts s.header s.slots (server-parts s w).2).3 i j h k t a b

  -- "mechanism names differ"
  pub names-differ : (d : Mechanism) → j < length s.mechanisms → (get_or s.mechanisms i d).name ≡ (get_or s.mechanisms j d).name → ⊥
  names-differ d k e =
      let ms = s.mechanisms in
      let c : same_name (get_or ms i d) (get_or ms j d) ≡ false = apart-at same_name ms d (mechanisms-parts ms (server-parts s w).1).2 i j h k in
      true≢false (sym (same_refl (get_or ms j d).name) ∙ ap (λ (n : List ℕ). same n (get_or ms j d).name) (sym e) ∙ c)

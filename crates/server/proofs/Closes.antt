-- After a close no connection has the number, and none waits on the ticket that it waited on. Assumes nothing.
use mathlib.Core.Path.{◌≡◌, refl, sym, ap, ◌∙◌}
use mathlib.Core.Bool.{Bool, true, false, cond, not, true≢false}
use mathlib.Core.List.{List, [], ◌∷◌}
use mathlib.Core.Option.{none, some}
use Prim.Native.Nat.{ℕ}
use lib.Dec.{eqb}
use borrow.Author.Tests.{eq-eqb, not-true}
use Rattle.octets.specs.Lists.{every}
use Rattle.octets.proofs.Cases.{both}
use Rattle.server.specs.declared.Connection.{Connection}
use Rattle.server.specs.Close.{close_leaves}
use Rattle.server.specs.Server.{Slot, Server}
use Rattle.server.specs.Slots.{is_numbered, is_waiting, holding, found, replaced}
use Rattle.server.specs.WellFormed.{ticket_of, phase_ticket, has, clashes, apart, differ, well_formed}
use Rattle.server.proofs.Slots.{found_first, every_first, found_number, find-close, waits-has, has_some}
use Rattle.server.proofs.Kept.{parts}

-- where no slot has the ticket, none waits on it
waits-none : (t : ℕ) (xs : List Slot) → every (λ y. not (has (ticket_of y) t)) xs ≡ true → found (is_waiting t) xs ≡ none
unfolding found every
waits-none t [] a = refl
waits-none t (none ∷ xs) a = waits-none t xs a
waits-none t (some x ∷ xs) a =
    let w = both (not (has (phase_ticket x.session.phase) t)) (every (λ y. not (has (ticket_of y) t)) xs) a in
    rw (waits-has t x.session.phase ∙ not-true (has (phase_ticket x.session.phase) t) w.0) (waits-none t xs w.1)

-- where the slots' tickets differ, a slot that is freed takes its ticket with it
waits-closed : (m t : ℕ) (z : Connection) (xs : List Slot) → found (is_numbered m) xs ≡ some z → is_waiting t z ≡ true → differ ticket_of xs ≡ true
    → found (is_waiting t) (replaced (holding (is_numbered m)) none xs) ≡ none
unfolding found replaced apart
waits-closed m t z [] e h d = refl
waits-closed m t z (none ∷ xs) e h d = waits-closed m t z xs e h (both (every (λ (y : Slot). true) xs) (differ ticket_of xs) d).1
waits-closed m t z (some x ∷ xs) e h d =
    go (eqb x.number m) refl (is_waiting t x) refl (both (every (λ y. not (clashes (phase_ticket x.session.phase) (ticket_of y))) xs) (differ ticket_of xs) d)
    (λ f. waits-closed m t z xs f h)
  where
    others : is_waiting t x ≡ true → every (λ y. not (clashes (phase_ticket x.session.phase) (ticket_of y))) xs ≡ true → every (λ y. not (has (ticket_of y) t)) xs ≡ true
    others k a =
        let p : phase_ticket x.session.phase ≡ some t = has_some (phase_ticket x.session.phase) t (sym (waits-has t x.session.phase) ∙ k) in
        rw p at a

    go : (a : Bool) → eqb x.number m ≡ a → (b : Bool) → is_waiting t x ≡ b
        → (every (λ y. not (clashes (phase_ticket x.session.phase) (ticket_of y))) xs ≡ true) × (differ ticket_of xs ≡ true)
        → (found (is_numbered m) xs ≡ some z → differ ticket_of xs ≡ true → found (is_waiting t) (replaced (holding (is_numbered m)) none xs) ≡ none)
        → found (is_waiting t) (replaced (holding (is_numbered m)) none (some x ∷ xs)) ≡ none
    go true ea b eb v ih =
        let r : some x ≡ some z = rw ea at e in
        let g : x ≡ z = cc in
        rw ea (waits-none t xs (others (ap (is_waiting t) g ∙ h) v.0))
    go false ea true eb v ih =
        let f : found (is_numbered m) xs ≡ some z = rw ea at e in
        let n : not (has (phase_ticket z.session.phase) t) ≡ true =
        every_first (λ y. not (has (ticket_of y) t)) (holding (is_numbered m)) (some z) xs (found_first (is_numbered m) z xs f) (others eb v.0) in
        absurd (true≢false (sym h ∙ waits-has t z.session.phase ∙ not-true (has (phase_ticket z.session.phase) t) n))
    go false ea false eb v ih = rw (ea, eb) (ih (rw ea at e) v.1)

-- document 01, "Calls and numbered refusals": close clears the slot and voids the ticket of the connection in it
module _ (s : Server) (w : well_formed s ≡ true) (n : ℕ) (c : Connection) (f : found (is_numbered n) s.slots ≡ some c) where
  own : found (is_numbered c.number) s.slots ≡ some c
  own = ap (λ (k : ℕ). found (is_numbered k) s.slots) (found_number n c s.slots f) ∙ f

  pub close_clears : found (is_numbered n) (close_leaves s c).slots ≡ none
  close_clears =
      find-close c.number n c s.slots own (parts s w).numbers
      ∙ ap (λ (b : Bool). cond b none (found (is_numbered n) s.slots)) (eq-eqb c.number n (found_number n c s.slots f))

  pub close_voids : (t : ℕ) → is_waiting t c ≡ true → found (is_waiting t) (close_leaves s c).slots ≡ none
  close_voids t h = waits-closed c.number t c s.slots own h (parts s w).tickets

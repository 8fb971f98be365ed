-- The slots of an image searched and tested where they stand. Assumes nothing.
use Rattle.std.specs.Prelude.{Option, Some, None}
use mathlib.Core.Path.{◌≡◌, refl, sym, ap, ◌∙◌}
use mathlib.Core.Bool.{Bool, true, false, cond, not, ◌&&◌, and-false, and_assoc}
use mathlib.Core.Option.{none, some}
use mathlib.Core.List.{List, [], ◌∷◌}
use Prim.Native.Nat.{ℕ, zero, suc, ◌+◌, ◌<◌, ◌≤◌}
use native.Mathlib.Omega.{arith}
use native.Mathlib.Numerals.{add-one}
use lib.Dec.{eqb}
use Rattle.std.proofs.lemmas.Bool.Decides.{nat_tests}
use borrow.Author.Tests.{eq-eqb, ne_eqb}
use lib.ListN.{length, get_or, drop, drop_of_length-le}
use lib.Seq.{drop-cons}
use Rattle.std.specs.List.{find, range_with_len, position_from}
use Rattle.std.specs.Fn.{CalledAt}
use Rattle.std.specs.Iterator.{FindsItem}
use Rattle.std.specs.declared.ops.Range.{Range}
use Rattle.std.proofs.iter.Yields.{nat_range_steps}
use Rattle.std.proofs.lemmas.Iterator.{YieldsList-from_range}
use Rattle.std.proofs.lemmas.Iterator.Search.{find_from_yields_List}
use denote.Param.Members.{Mut}
use denote.Ref.{Bor}
use Rattle.std.specs.Option.{option_map}
use Rattle.codec.specs.Codec.{is_one, get_number, get_array}
use Rattle.codec.proofs.Arrays.{get_array-length, array-place}
use Rattle.octets.specs.Lists.{every}
use Rattle.session.specs.Named.{waits_on}
use Rattle.server.specs.Limits.{most_connections}
use Rattle.server.specs.Server.{Slot, Server}
use Rattle.server.specs.Slots.{is_numbered, is_waiting, is_free, holding}
use Rattle.server.specs.declared.Connection.{Connection}
use Rattle.image.specs.Sizes.{connection_session, session_phase, slot_size, server_slots, image_size}
use Rattle.image.specs.Layout.{phase_at, phase, connection, slot}
use Rattle.image.specs.InPlace.{read_server, slot_offset, slot_found}
use Rattle.image.specs.Private.{slots_at, slot_ticket}
use Rattle.image.proofs.Offsets.{phase-get, session-get, connection-get, slot-get, slot-size, server-get}

-- ---- the slots of an image

pub slots_read : (l : List ℕ) → (read_server l).slots ≡ slots_at l
slots_read l = ap (λ (s : Server). s.slots) (server-get l)

pub slots_length : (l : List ℕ) → length (read_server l).slots ≡ most_connections
slots_length l = ap length (slots_read l) ∙ get_array-length slot most_connections l server_slots

-- the slot at an index, where it stands
pub slot-place : (l : List ℕ) (i : ℕ) (d : Slot) → i < most_connections → get_or (read_server l).slots i d ≡ slot.get l (slot_offset i)
slot-place l i d h = ap (λ (xs : List Slot). get_or xs i d) (slots_read l) ∙ array-place slot slot_size slot-size most_connections l server_slots i d h

module _ (p : Slot → Bool) (l : List ℕ) where
  pub found_other : (length l ≡ image_size → ⊥) → None ≡ slot_found p l
  unfolding slot_found
  found_other n = rw (ne_eqb (length l) image_size n)

  pub found-start : length l ≡ image_size → slot_found p l ≡ position_from p 0 (slots_at l)
  unfolding slot_found
  found-start e = rw (eq-eqb (length l) image_size e, slots_read l)

  index-range : (n i : ℕ) → find (λ j. p (slot.get l (slot_offset j))) (range_with_len i n) ≡ position_from p i (get_array slot n l (slot_offset i))
  unfolding get_array
  index-range zero i = refl
  index-range (suc n) i =
      let o : slot_offset i + slot.size ≡ slot_offset (i + 1) = rw slot-size (omega arith) in
      rw (o, index-range n (i + 1))

  -- a search over their indices by a closure: g; ran: what the call of `find` ensures
  pub found_by_find : {F : Type 0} {g : Mut F (Bor ℕ × Unit {0}) Bool} (f : F) (u : Range ℕ) (r : Option ℕ) → length l ≡ image_size
      → FindsItem nat_range_steps g (record { start = 0; end = most_connections }) f r u
      → ((i : ℕ) (b : Bool) (h : F) → CalledAt g f i b h → (h ≡ f) × (b ≡ p (slot.get l (slot_offset i)))) → r ≡ slot_found p l
  found_by_find f u r e ran tests =
      same_option r
      ∙ find_from_yields_List (λ i. p (slot.get l (slot_offset i))) u f r ran (YieldsList-from_range 0 most_connections most_connections refl refl) tests
      ∙ index-range most_connections 0
      ∙ sym (found-start e)
    where
      same_option : (o : Option ℕ) → o ≡ option_map (λ i. i) o
      same_option (Some i) = refl
      same_option None = refl

-- ---- a slot tested where it stands

-- how far behind a slot's start the phase of its connection stands
abbrev slot_phase : ℕ
slot_phase = 1 + connection_session + session_phase

pub phase-place : (l : List ℕ) (at : ℕ) → (connection.get l (at + 1)).session.phase ≡ phase.get l (at + slot_phase)
phase-place l at = grind (arith, connection-get, session-get)

waits-at : (x k t u : ℕ) → waits_on u (phase_at x k t) ≡ (eqb x 3 && eqb t u)
waits-at x k t u = grind (arith, nat_tests)

module _ (l : List ℕ) (at : ℕ) where
  pub free-at : is_free (slot.get l at) ≡ not (is_one (get_or l at 0))
  free-at = grind (arith, slot-get l at)

  held : (q : Connection → Bool) (b : Bool) (c : Connection) → holding q (cond b (some c) none) ≡ (b && q c)
  held q b c = grind arith

  held-at : (q : Connection → Bool) → holding q (slot.get l at) ≡ (is_one (get_or l at 0) && q (connection.get l (at + 1)))
  held-at q = rw slot-get (held q (is_one (get_or l at 0)) (connection.get l (at + 1)))

  pub numbered-at : (n : ℕ) → holding (is_numbered n) (slot.get l at) ≡ (is_one (get_or l at 0) && eqb (get_number 8 l (at + 1)) n)
  numbered-at n = held-at (is_numbered n) ∙ rw connection-get

  waiting-here : (t : ℕ) → is_waiting t (connection.get l (at + 1)) ≡ (eqb (get_or l (at + slot_phase) 0) 3 && eqb (get_number 8 l (at + slot_ticket)) t)
  waiting-here t =
      let e : at + slot_phase + 2 ≡ at + slot_ticket = omega arith in
      ap (waits_on t) (phase-place l at ∙ phase-get l (at + slot_phase))
      ∙ waits-at (get_or l (at + slot_phase) 0) (get_or l (at + slot_phase + 1) 0) (get_number 8 l (at + slot_phase + 2)) t
      ∙ rw e

  pub waiting-at : (t : ℕ) → holding (is_waiting t) (slot.get l at) ≡ (is_one (get_or l at 0) && (eqb (get_or l (at + slot_phase) 0) 3 && eqb (get_number 8 l (at + slot_ticket)) t))
  waiting-at t = held-at (is_waiting t) ∙ rw (waiting-here t)

-- ---- every slot from an index on, tested where it stands: a loop, where w is what the whole comes to

module _ (p : Slot → Bool) (l : List ℕ) (w : Bool) (i : ℕ) (inv : w ≡ every p (drop i (slots_at l))) where
  every-at-turn : i < most_connections → w ≡ (p (slot.get l (slot_offset i)) && every p (drop (i + 1) (slots_at l)))
  unfolding every
  every-at-turn h =
      inv
      ∙ rw (
        drop-cons (slots_at l) i none (omega (arith, get_array-length slot most_connections l server_slots)),
        array-place slot slot_size slot-size most_connections l server_slots i none h,
        add-one i,
      )

  pub every-at_fail : i < most_connections → p (slot.get l (slot_offset i)) ≡ false → false ≡ w
  every-at_fail h e = sym (rw e at (every-at-turn h))

  pub every-at-pass : i < most_connections → p (slot.get l (slot_offset i)) ≡ true → w ≡ every p (drop (i + 1) (slots_at l))
  every-at-pass h e = rw e at (every-at-turn h)

  pub every-at-end : most_connections ≤ i → true ≡ w
  unfolding every
  every-at-end h = sym (inv ∙ rw (drop_of_length-le (slots_at l) {i = i} (omega (arith, get_array-length slot most_connections l server_slots))))

-- what `slots` goes by
pub ruleset slots = (free-at, numbered-at, waiting-at)

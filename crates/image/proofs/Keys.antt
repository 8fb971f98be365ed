-- The numbers and the tickets of an image's slots told apart where they stand. Assumes nothing.
use Rattle.std.specs.Prelude.{Some, None}
use mathlib.Core.Path.{◌≡◌, refl, sym, ap, ◌∙◌}
use mathlib.Core.Bool.{Bool, true, false, cond, not, ◌&&◌}
use mathlib.Core.Option.{Option, none, some}
use mathlib.Core.List.{List}
use Prim.Native.Nat.{ℕ, ◌+◌, ◌%◌, ◌<◌}
use native.Mathlib.Omega.{arith}
use lib.Dec.{eqb}
use borrow.Author.Tests.{eqb-true, eq-eqb, ne_eqb}
use lib.ListN.{get_or, set, drop}
use Rattle.octets.specs.Lists.{every}
use Rattle.codec.specs.Codec.{is_one, get_number}
use Rattle.codec.proofs.Arrays.{array-place}
use Rattle.server.specs.Limits.{most_connections}
use Rattle.server.specs.Server.{Slot}
use Rattle.server.specs.WellFormed.{number_of, ticket_of, phase_ticket, has}
use Rattle.server.specs.declared.Connection.{Connection}
use Rattle.image.specs.Sizes.{connection_session, session_phase, slot_size, server_slots}
use Rattle.image.specs.Layout.{phase_at, connection, slot}
use Rattle.image.specs.InPlace.{slot_offset}
use Rattle.image.specs.Private.{slots_at, buckets, slot_number, slot_ticket, buckets_of, is_of, empty_bucket, Met, is_new}
use Rattle.image.proofs.Offsets.{phase-get, connection-get, slot-get, slot-size}
use Rattle.image.proofs.Places.{phase-place}
use Rattle.image.proofs.Differ.{met-skip, new_none, new-found, met-taken, new-compared, met-compared}

-- ---- the two keys where they stand

ticket-at : (x k t : ℕ) → phase_ticket (phase_at x k t) ≡ cond (eqb x 3) (some t) none
ticket-at x k t = go (eqb x 1) refl (eqb x 2) refl (eqb x 3) refl
  where
    clear : (n : ℕ) → eqb x n ≡ true → eqb n 3 ≡ false → cond (eqb x 3) (some t) none ≡ none
    clear n e f = rw (eqb-true x n e, f)

    go : (a : Bool) → eqb x 1 ≡ a → (b : Bool) → eqb x 2 ≡ b → (c : Bool) → eqb x 3 ≡ c → phase_ticket (phase_at x k t) ≡ cond (eqb x 3) (some t) none
    go true ea b eb c ec = rw ea (sym (clear 1 ea refl))
    go false ea true eb c ec = rw (ea, eb) (sym (clear 2 eb refl))
    go false ea false eb true ec = rw (ea, eb, ec)
    go false ea false eb false ec = rw (ea, eb, ec)

module _ (l : List ℕ) (at : ℕ) where
  number-key : number_of (slot.get l at) ≡ cond (is_one (get_or l at 0)) (some (get_number 8 l (at + 1))) none
  number-key = ap number_of (slot-get l at) ∙ go (is_one (get_or l at 0))
    where
      go : (b : Bool) → number_of (cond b (some (connection.get l (at + 1))) none) ≡ cond b (some (get_number 8 l (at + 1))) none
      go true = ap (λ (c : Connection). some c.number) (connection-get l (at + 1))
      go false = refl

  abbrev tag : ℕ
  tag = get_or l (at + (1 + connection_session + session_phase)) 0

  abbrev ticket : ℕ
  ticket = get_number 8 l (at + slot_ticket)

  ticket-key : ticket_of (slot.get l at) ≡ cond (is_one (get_or l at 0) && eqb tag 3) (some ticket) none
  ticket-key = ap ticket_of (slot-get l at) ∙ go (is_one (get_or l at 0))
    where
      go : (b : Bool) → ticket_of (cond b (some (connection.get l (at + 1))) none) ≡ cond (b && eqb tag 3) (some ticket) none
      go true =
          ap phase_ticket (phase-place l at ∙ phase-get l (at + (1 + connection_session + session_phase)))
          ∙ ticket-at tag (get_or l (at + (1 + connection_session + session_phase) + 1) 0) (get_number 8 l (at + (1 + connection_session + session_phase) + 2))
          ∙ ap (λ (k : ℕ). cond (eqb tag 3) (some (get_number 8 l k)) none) (omega arith)
      go false = refl

  -- a free slot, and an open one by its number and by the ticket that it waits on
  free : is_one (get_or l at 0) ≡ false → slot.get l at ≡ none
  free f = slot-get l at ∙ rw f

  pub number-open : is_one (get_or l at 0) ≡ true → number_of (slot.get l at) ≡ some (get_number 8 l (at + slot_number))
  number-open f = number-key ∙ rw f

  pub ticket-open : is_one (get_or l at 0) ≡ true → tag ≡ 3 → ticket_of (slot.get l at) ≡ some ticket
  ticket-open f w = ticket-key ∙ rw (f, w)

  pub ticket_none : is_one (get_or l at 0) ≡ true → (tag ≡ 3 → ⊥) → ticket_of (slot.get l at) ≡ none
  ticket_none f w = ticket-key ∙ rw (f, ne_eqb tag 3 w)

-- ---- the walk

module _ (l : List ℕ) (j : ℕ) (bound : j < most_connections) where
  here : get_or (slots_at l) j none ≡ slot.get l (slot_offset j)
  here = array-place slot slot_size slot-size most_connections l server_slots j none bound

  -- the slot at j in a bucket
  abbrev own : ℕ
  own = j + most_connections

  own-there : eqb own 0 ≡ false
  own-there = ne_eqb own 0 (λ e. omega arith)

  own_of : (o m : ℕ) → m ≡ get_number 8 l (slot_offset j + o) → is_of l o own m ≡ true
  unfolding is_of
  own_of o m e =
      let i : own % most_connections ≡ j = omega arith in
      rw i (eq-eqb (get_number 8 l (slot_offset j + o)) m (sym e))

  module _ (key : Slot → Option ℕ) (o : ℕ) (n : List ℕ) (h : Met key o l (j + 1) n) where
    -- a slot without a key is new, and nothing is met of it
    pub keyless : key (slot.get l (slot_offset j)) ≡ none → (true ≡ is_new key (slots_at l) j) × Met key o l j n
    keyless e = let is = ap key here ∙ e in (new_none l key o j n h is, met-skip l key o j n h is)

    pub free_new : key none ≡ none → is_one (get_or l (slot_offset j) 0) ≡ false → (true ≡ is_new key (slots_at l) j) × Met key o l j n
    free_new z f = keyless (ap key (free l (slot_offset j) f) ∙ z)

    -- one that has a key, m: where there is an empty bucket, k, and where there is none
    module _ (m : ℕ) (is : key (slot.get l (slot_offset j)) ≡ some m) where
      pub key-taken : (k : ℕ) → Some k ≡ empty_bucket l o n m (buckets_of m) → m ≡ get_number 8 l (slot_offset j + o) → k < buckets → (true ≡ is_new key (slots_at l) j) × Met key o l j (set n k own)
      key-taken k ek em b =
          let i = ap key here ∙ is in
          (new-found l key o j n h m i k ek, met-taken l key o j n h m i k ek b own own-there (own_of o m em))

      pub key-compared : None ≡ empty_bucket l o n m (buckets_of m) → (every (λ y. not (has (key y) m)) (drop (j + 1) (slots_at l)) ≡ is_new key (slots_at l) j) × Met key o l j n
      key-compared ek = let i = ap key here ∙ is in (new-compared l key o j n h m i, met-compared l key o j n h m i ek)

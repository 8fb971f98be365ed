-- The slots of an image judged on one walk from the last to the first. Assumes nothing.
use mathlib.Core.Path.{◌≡◌, refl, sym, ap, ◌∙◌}
use mathlib.Core.Bool.{Bool, true, false, ◌&&◌, and-true, and-false}
use mathlib.Core.List.{List}
use Prim.Native.Nat.{ℕ, zero, suc, ◌+◌, ◌-◌, ◌*◌, ◌<◌, ◌≤◌}
use native.Mathlib.Omega.{arith}
use lib.ListN.{length, get_or, drop, replicate}
use Rattle.octets.proofs.Cases.{both}
use Rattle.codec.specs.Codec.{is_one}
use Rattle.codec.specs.InPlace.{stands_at, every_at}
use Rattle.codec.proofs.Arrays.{get_array-length}
use Rattle.codec.proofs.InPlace.{every_at-turn, every_at-end}
use Rattle.server.specs.Limits.{most_connections}
use Rattle.server.specs.WellFormed.{number_of, ticket_of, differ}
use Rattle.server.specs.declared.Header.{Header}
use Rattle.image.specs.Sizes.{slot_size, server_slots}
use Rattle.image.specs.Layout.{slot}
use Rattle.image.specs.InPlace.{slot_offset}
use Rattle.image.specs.Private.{connection_fits, slot_fits, slots_at, slots_differ, slot_number, slot_ticket, Met, is_new, joins, fit_from}
use Rattle.image.proofs.Differ.{differ-turn, differ-end}
use Rattle.image.proofs.Keys.{free_new}
use Rattle.image.proofs.Parts.{slot-open, slot-free}
use Rattle.image.proofs.Pieces.{zeros-split, zeros-first}

-- ---- the walk

sorted : (f g a b c d : Bool) → ((g && (b && d)) && (f && (a && c))) ≡ ((f && g) && ((a && b) && (c && d)))
sorted true true true true true d = and-true d
sorted true true true true false d = and-false d
sorted true true true false c d = refl
sorted true true false true c d = and-false d
sorted true true false false c d = refl
sorted true false a b c d = refl
sorted false true a true c d = and-false d
sorted false true a false c d = refl
sorted false false a b c d = refl

module _ (l : List ℕ) (h : Header) where
  counted : length (slots_at l) ≡ most_connections
  counted = get_array-length slot most_connections l server_slots

  -- a slot by its parts, free or open
  module _ (i : ℕ) (b : i < most_connections) where
    pub free-joins : is_one (get_or l (slot_offset i) 0) ≡ false → (n : List ℕ) → Met number_of slot_number l (i + 1) n
        → (m : List ℕ) → Met ticket_of slot_ticket l (i + 1) m → stands_at (replicate slot_size 0) l (slot_offset i) ≡ joins l h i
    unfolding joins
    free-joins f n k m j =
        slot-free l h (slot_offset i) f
        ∙ rw (sym (free_new l i b number_of slot_number n k refl f).0, sym (free_new l i b ticket_of slot_ticket m j refl f).0) (sym (and-true (slot_fits l h (slot_offset i))))

    -- the tests of an open one, one after another
    module _ (f : is_one (get_or l (slot_offset i) 0) ≡ true) where
      open-parts : (connection_fits l h (slot_offset i + 1) && (is_new number_of (slots_at l) i && is_new ticket_of (slots_at l) i)) ≡ joins l h i
      unfolding joins
      open-parts = ap (λ (t : Bool). t && (is_new number_of (slots_at l) i && is_new ticket_of (slots_at l) i)) (slot-open l h (slot_offset i) f)

      pub open_misfits : connection_fits l h (slot_offset i + 1) ≡ false → false ≡ joins l h i
      open_misfits e = rw e at open-parts

      pub open-repeats : is_new number_of (slots_at l) i ≡ false → false ≡ joins l h i
      open-repeats e = rw (e, and-false (connection_fits l h (slot_offset i + 1))) at open-parts

      pub open-joins : connection_fits l h (slot_offset i + 1) ≡ true → is_new number_of (slots_at l) i ≡ true → is_new ticket_of (slots_at l) i ≡ joins l h i
      open-joins e g = rw (e, g) at open-parts

  pub walk_start : fit_from l h most_connections ≡ true
  unfolding fit_from
  walk_start =
      let none_left = every_at (slot_fits l h) slot_size (most_connections - most_connections) (slot_offset most_connections) in
      rw (
        every_at-end (slot_fits l h) slot_size none_left most_connections most_connections server_slots refl (omega arith),
        differ-end number_of (slots_at l) most_connections (omega (arith, counted)),
        differ-end ticket_of (slots_at l) most_connections (omega (arith, counted)),
      )

  pub walk_turn : (i : ℕ) → i < most_connections → (ok r : Bool) → ok ≡ fit_from l h (i + 1) → r ≡ joins l h i → (ok && r) ≡ fit_from l h i
  unfolding fit_from joins
  walk_turn i b ok r eo er =
      rw (
        eo,
        er,
        every_at-turn (slot_fits l h) slot_size (every_at (slot_fits l h) slot_size (most_connections - i) (slot_offset i)) i most_connections server_slots refl b,
        differ-turn number_of (slots_at l) i (omega (arith, counted)),
        differ-turn ticket_of (slots_at l) i (omega (arith, counted)),
      )
      (sorted (slot_fits l h (slot_offset i)) (every_at (slot_fits l h) slot_size (most_connections - (i + 1)) (slot_offset (i + 1))) (is_new number_of (slots_at l) i)
      (differ number_of (drop (i + 1) (slots_at l))) (is_new ticket_of (slots_at l) i) (differ ticket_of (drop (i + 1) (slots_at l))))

  pub walk_end : (i : ℕ) → fit_from l h i ≡ true → i ≤ 0 → true ≡ (every_at (slot_fits l h) slot_size most_connections server_slots && slots_differ l)
  unfolding fit_from
  walk_end i e z =
      let k : i ≡ 0 = omega arith in
      sym (rw k at e)

  -- where the slots from an index on do not fit or do not differ, all do not
  walk-back : (i : ℕ) → i ≤ most_connections → fit_from l h i ≡ false → fit_from l h 0 ≡ false
  walk-back zero b e = e
  walk-back (suc i) b e =
      let s : i + 1 ≡ suc i = omega arith in
      walk-back i (omega arith) (sym (walk_turn i (omega arith) false (joins l h i) (sym (rw s e)) refl))

  pub walk_fail : (i : ℕ) → i < most_connections → fit_from l h (i + 1) ≡ true → false ≡ joins l h i
      → false ≡ (every_at (slot_fits l h) slot_size most_connections server_slots && slots_differ l)
  unfolding fit_from
  walk_fail i b e f = sym (walk-back i (omega arith) (sym (walk_turn i b true false (sym e) f)))

  -- some slots in a row that are zeros
  module _ (n m : List ℕ) where
    pub walk-skip : (k i : ℕ) → i + k ≤ most_connections → stands_at (replicate (k * slot_size) 0) l (slot_offset i) ≡ true
        → fit_from l h (i + k) ≡ true → Met number_of slot_number l (i + k) n → Met ticket_of slot_ticket l (i + k) m
        → (fit_from l h i ≡ true) × Met number_of slot_number l i n × Met ticket_of slot_ticket l i m
    walk-skip zero i b z f a c =
        let e : i + 0 ≡ i = omega arith in
        (rw e at f, rw e at a, rw e at c)
    walk-skip (suc k) i b z f a c =
        let e : suc k * slot_size ≡ slot_size + k * slot_size = omega arith in
        let o : slot_offset i + slot_size ≡ slot_offset (i + 1) = omega arith in
        let p : i + suc k ≡ i + 1 + k = omega arith in
        let q = both (stands_at (replicate slot_size 0) l (slot_offset i)) (stands_at (replicate (k * slot_size) 0) l (slot_offset i + slot_size))
        (sym (zeros-split l slot_size (k * slot_size) (slot_offset i)) ∙ rw (← e) z) in
        let r = walk-skip k (i + 1) (omega arith) (rw (← o) q.1) (rw (← p) f) (rw (← p) a) (rw (← p) c) in
        let t : is_one (get_or l (slot_offset i) 0) ≡ false = ap is_one (zeros-first l (slot_offset i) (slot_size - 1) q.0) in (
          sym (walk_turn i (omega arith) true true (sym r.0) (sym q.0 ∙ free-joins i (omega arith) t n r.1 m r.2)),
          (free_new l i (omega arith) number_of slot_number n r.1 refl t).1,
          (free_new l i (omega arith) ticket_of slot_ticket m r.2 refl t).1,
        )

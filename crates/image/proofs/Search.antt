-- A search by index joined to the first connection that passes a test and to the slots with another in its place. Assumes nothing.
use Rattle.std.specs.Prelude.{Option, Some, None}
use Rattle.std.specs.List.{position_from}
use Rattle.std.proofs.lemmas.List.Quantifiers.{position-Some}
use Rattle.std.proofs.lemmas.Iterator.Adapters.{position_from-zero}
use mathlib.Core.Path.{◌≡◌, refl, sym, ap, ◌∙◌}
use mathlib.Core.Bool.{false≢true, Bool, true, false, cond}
use mathlib.Core.Option.{none, some}
use mathlib.Core.List.{List, [], ◌∷◌}
use Prim.Native.Nat.{ℕ, suc, ◌+◌, ◌<◌}
use native.Mathlib.Omega.{arith}
use native.Mathlib.Numerals.{add-one}
use borrow.Author.Tests.{eqb-true, eq-eqb, lt-ltb}
use lib.ListN.{length, get_or, set}
use Rattle.octets.proofs.Cases.{split}
use Rattle.codec.specs.Codec.{is_one}
use Rattle.server.specs.Limits.{most_connections}
use Rattle.server.specs.Server.{Slot, with_slots}
use Rattle.server.specs.Slots.{is_free, holding, any_free, found, replaced}
use Rattle.server.specs.declared.Connection.{Connection}
use Rattle.image.specs.Sizes.{image_size}
use Rattle.image.specs.Layout.{connection, slot}
use Rattle.image.specs.Image.{Image, image_of}
use Rattle.image.specs.InPlace.{is_taken, is_whole, read_server, slot_offset, has_slot, connection_read, index_of, slot_found, slot_written}
use Rattle.image.proofs.Offsets.{slot-get}
use Rattle.image.proofs.Places.{slots_length, slot-place}
use Rattle.image.proofs.Split.{taken_own}
use Rattle.image.proofs.Stores.{slot-written}

-- ---- lists

abbrev shift : Option ℕ → Option ℕ
shift (Some i) = Some (suc i)
shift None = None

module _ {A : Type 0} (p : A → Bool) where
  place-shift : (k : ℕ) (xs : List A) → position_from p (k + 1) xs ≡ shift (position_from p k xs)
  place-shift k [] = refl
  place-shift k (x ∷ xs) = go (p x) (place-shift (k + 1) xs)
    where
      go : (b : Bool) → position_from p (k + 1 + 1) xs ≡ shift (position_from p (k + 1) xs)
          → cond b (Some (k + 1)) (position_from p (k + 1 + 1) xs) ≡ shift (cond b (Some k) (position_from p (k + 1) xs))
      go true r = ap Some (add-one k)
      go false r = r

  index-first : (x : A) (xs : List A) → index_of p (x ∷ xs) ≡ cond (p x) (Some 0) (shift (index_of p xs))
  index-first x xs = ap (λ (f : Option ℕ). cond (p x) (Some 0) f) (place-shift 0 xs)

  -- where something is found: at the first, or later
  at_first : {X : Type 0} (x : A) (xs : List A) (i : ℕ) → index_of p (x ∷ xs) ≡ Some i
      → (p x ≡ true → i ≡ 0 → X) → (p x ≡ false → (j : ℕ) → index_of p xs ≡ Some j → i ≡ suc j → X) → X
  at_first {X} x xs i e f g = go (p x) refl (index_of p xs) refl (sym (index-first x xs) ∙ e)
    where
      go : (b : Bool) → p x ≡ b → (w : Option ℕ) → index_of p xs ≡ w → cond b (Some 0) (shift w) ≡ Some i → X
      go true eb w ew h = let z : 0 ≡ i = cc in f eb (sym z)
      go false eb (Some j) ew h = let z : suc j ≡ i = cc in g eb j ew (sym z)
      go false eb None ew h = cc

  -- where nothing is found
  nowhere : (x : A) (xs : List A) → index_of p (x ∷ xs) ≡ None → (p x ≡ false) × (index_of p xs ≡ None)
  nowhere x xs e = grind (arith, index-first x xs)

  pub index-passes : (xs : List A) (i : ℕ) (d : A) → index_of p xs ≡ Some i → p (get_or xs i d) ≡ true
  index-passes xs i d e = (position-Some p xs i d (position_from-zero p xs ∙ e)).1

module _ (q : Connection → Bool) where
  pub index-found : (xs : List Slot) (i : ℕ) → index_of (holding q) xs ≡ Some i → found q xs ≡ get_or xs i none
  unfolding found
  index-found [] i e = cc
  index-found (none ∷ xs) i e = at_first (holding q) none xs i e (λ h z. absurd (false≢true h)) (λ h j f z. rw z (index-found xs j f))
  index-found (some c ∷ xs) i e = at_first (holding q) (some c) xs i e (λ h z. rw (z, h)) (λ h j f z. rw (z, h) (index-found xs j f))

  pub index-absent : (xs : List Slot) → index_of (holding q) xs ≡ None → found q xs ≡ none
  unfolding found
  index-absent [] e = refl
  index-absent (none ∷ xs) e = index-absent xs (nowhere (holding q) none xs e).1
  index-absent (some c ∷ xs) e = let n = nowhere (holding q) (some c) xs e in rw n.0 (index-absent xs n.1)

  -- nothing is found by index exactly where there is no such connection
  pub absent-index : (xs : List Slot) → found q xs ≡ none → index_of (holding q) xs ≡ None
  absent-index xs n = go (index_of (holding q) xs) refl
    where
      go : (w : Option ℕ) → index_of (holding q) xs ≡ w → index_of (holding q) xs ≡ None
      go None e = e
      go (Some i) e = grind (arith, index-found xs i e, index-passes (holding q) xs i none e)

module _ (p : Slot → Bool) (y : Slot) where
  pub index-replaced : (xs : List Slot) (i : ℕ) → index_of p xs ≡ Some i → replaced p y xs ≡ set xs i y
  unfolding replaced
  index-replaced [] i e = cc
  index-replaced (x ∷ xs) i e = at_first p x xs i e (λ h z. rw (z, h)) (λ h j f z. rw (z, h) (ap (λ (v : List Slot). x ∷ v) (index-replaced xs j f)))

  pub index_unreplaced : (xs : List Slot) → index_of p xs ≡ None → replaced p y xs ≡ xs
  unfolding replaced
  index_unreplaced [] e = refl
  index_unreplaced (x ∷ xs) e = let n = nowhere p x xs e in rw n.0 (ap (λ (v : List Slot). x ∷ v) (index_unreplaced xs n.1))

pub index-free : (xs : List Slot) (i : ℕ) → index_of is_free xs ≡ Some i → any_free xs ≡ true
unfolding any_free
index-free [] i e = cc
index-free (x ∷ xs) i e = at_first is_free x xs i e (λ h z. rw h) (λ h j f z. rw h (index-free xs j f))

pub index-full : (xs : List Slot) → index_of is_free xs ≡ None → any_free xs ≡ false
unfolding any_free
index-full [] e = refl
index-full (x ∷ xs) e = let n = nowhere is_free x xs e in rw n.0 (index-full xs n.1)

-- ---- images

module _ (p : Slot → Bool) (l : Image) where
  -- in octets of the right length
  pub found-whole : length l ≡ image_size → slot_found p l ≡ index_of p (read_server l).slots
  unfolding slot_found
  found-whole e = rw (eq-eqb (length l) image_size e)

  module _ (i : ℕ) (e : slot_found p l ≡ Some i) where
    pub found-length : length l ≡ image_size
    unfolding slot_found
    found-length = split (is_whole l) (λ h. eqb-true (length l) image_size h) (λ h. let z : None ≡ Some i = rw h at e in absurd_found z)
      where
        absurd_found : {X : Type 0} → None ≡ Some i → X
        absurd_found z = cc

    pub found-place : index_of p (read_server l).slots ≡ Some i
    found-place = sym (found-whole found-length) ∙ e

    pub found-bound : i < most_connections
    found-bound = rw (slots_length l) at (position-Some p (read_server l).slots i none (position_from-zero p (read_server l).slots ∙ found-place)).0

    -- the slot there passes the test
    pub found-passes : p (slot.get l (slot_offset i)) ≡ true
    found-passes = ap p (sym (slot-place l i none found-bound)) ∙ index-passes p (read_server l).slots i none found-place

    -- another slot written there, in an image that is taken, replaces it
    pub found-replaced : (y : Slot) → is_taken l ≡ true → slot_written l i y ≡ image_of (with_slots (read_server l) (replaced p y (read_server l).slots))
    found-replaced y t =
        ap (λ (m : Image). slot_written m i y) (taken_own l t).1
        ∙ slot-written (read_server l) i y found-bound (slots_length l)
        ∙ ap (λ (xs : List Slot). image_of (with_slots (read_server l) xs)) (sym (index-replaced p y (read_server l).slots i found-place))

module _ (q : Connection → Bool) (l : Image) where
  -- the connection found is the one that is read there
  pub connection-found : (i : ℕ) → slot_found (holding q) l ≡ Some i → found q (read_server l).slots ≡ some (connection_read l i)
  unfolding connection_read has_slot
  connection-found i e =
      let n = found-bound (holding q) l i e in
      rw (eq-eqb (length l) image_size (found-length (holding q) l i e), lt-ltb i most_connections n)
      (index-found q (read_server l).slots i (found-place (holding q) l i e)
      ∙ slot-place l i none n
      ∙ slot-get l (slot_offset i)
      ∙ go (is_one (get_or l (slot_offset i) 0)) (ap (holding q) (sym (slot-get l (slot_offset i))) ∙ found-passes (holding q) l i e))
    where
      go : (b : Bool) → holding q (cond b (some (connection.get l (slot_offset i + 1))) none) ≡ true
          → cond b (some (connection.get l (slot_offset i + 1))) none ≡ some (connection.get l (slot_offset i + 1))
      go true h = refl
      go false h = cc

  -- and it passes the test
  pub connection-passes : (i : ℕ) → slot_found (holding q) l ≡ Some i → q (connection_read l i) ≡ true
  connection-passes i e =
      let n = found-bound (holding q) l i e in
      ap (holding q) (sym (connection-found i e) ∙ index-found q (read_server l).slots i (found-place (holding q) l i e) ∙ slot-place l i none n)
      ∙ found-passes (holding q) l i e

  pub connection-absent : length l ≡ image_size → slot_found (holding q) l ≡ None → found q (read_server l).slots ≡ none
  connection-absent n e = index-absent q (read_server l).slots (sym (found-whole (holding q) l n) ∙ e)

module _ (l : Image) where
  pub free-found : (i : ℕ) → slot_found is_free l ≡ Some i → any_free (read_server l).slots ≡ true
  free-found i e = index-free (read_server l).slots i (found-place is_free l i e)

  pub free-absent : length l ≡ image_size → slot_found is_free l ≡ None → any_free (read_server l).slots ≡ false
  free-absent n e = index-full (read_server l).slots (sym (found-whole is_free l n) ∙ e)

-- An image is taken where each of its parts fits where it stands. Assumes nothing.
use mathlib.Core.Path.{◌≡◌, refl, sym, ap, ap₂, ◌∙◌}
use mathlib.Core.Bool.{Bool, true, false, cond, ◌&&◌, true≢false}
use mathlib.Core.Option.{Option, none, some}
use Prim.Native.Nat.{ℕ, ◌+◌, ◌*◌}
use native.Mathlib.Omega.{arith}
use lib.Dec.{lit<}
use borrow.Author.Tests.{eq-eqb}
use lib.ListN.{length}
use Rattle.codec.specs.Codec.{pair, array, listed}
use Rattle.codec.specs.InPlace.{canonical_at, every_at}
use Rattle.codec.proofs.Lawful.{listed-lawful}
use Rattle.codec.proofs.Decode.{decode_is}
use Rattle.codec.proofs.InPlace.{canonical-pair, every_at-both}
use Rattle.codec.proofs.Arrays.{get_array-length, canonical-array, every-array}
use Rattle.server.specs.Limits.{most_connections, most_mechanisms}
use Rattle.server.specs.Mechanisms as Mechanisms
use Rattle.server.specs.Server.{Server}
use Rattle.server.specs.WellFormed.{well_formed, header_within, mechanisms_within, slots_within, slot_within}
use Rattle.image.specs.Sizes.{slot_size, server_mechanisms, server_slots, image_size}
use Rattle.image.specs.Layout.{slot, mechanism, header, server}
use Rattle.image.specs.Image.{Image, image_of, taken}
use Rattle.image.specs.InPlace.{is_some, is_taken, is_whole, read_server, table_at}
use Rattle.image.specs.Private.{header_fits, mechanisms_fit, slot_fits, slots_differ}
use Rattle.image.proofs.Lawful.{header-lawful, mechanism-lawful, slot-lawful, server-lawful}
use Rattle.image.proofs.Offsets.{header-size, mechanism-size, slot-size, server-size, server-get}
use Rattle.image.proofs.Taken.{taken-image, taken-read, taken-size}

-- ---- what is taken, and what is not

is-some : {A : Type 0} (b : Bool) (x : A) → is_some (cond b (some x) none) ≡ b
is-some b x = grind arith

-- an image that is taken is taken for what is read there, and is what that is written as
pub taken_own : (l : Image) → is_taken l ≡ true → (taken l ≡ some (read_server l)) × (l ≡ image_of (read_server l))
taken_own l h = go (taken l) refl
  where
    go : (o : Option Server) → taken l ≡ o → (taken l ≡ some (read_server l)) × (l ≡ image_of (read_server l))
    go none e = absurd (true≢false (sym h ∙ ap is_some e))
    go (some s) e =
        let r = taken-read l s e in
        (e ∙ ap some r, taken-image l s e ∙ ap image_of r)

pub not_taken : (l : Image) → is_taken l ≡ false → taken l ≡ none
not_taken l h = go (taken l) refl
  where
    go : (o : Option Server) → taken l ≡ o → taken l ≡ none
    go none e = e
    go (some s) e = absurd (true≢false (sym (ap is_some e) ∙ h))

pub own-size : (l : Image) → is_taken l ≡ true → length l ≡ image_size
own-size l h = taken-size l (read_server l) (taken_own l h).0

-- it is whole
pub taken-whole : (l : Image) → is_taken l ≡ true → is_whole l ≡ true
taken-whole l h = eq-eqb (length l) image_size (own-size l h)

pub taken-other : (l : Image) → (length l ≡ image_size → ⊥) → is_taken l ≡ false
taken-other l n = go (is_taken l) refl
  where
    go : (b : Bool) → is_taken l ≡ b → is_taken l ≡ false
    go true e = absurd (n (own-size l e))
    go false e = e

-- ---- part by part

gather : (a b c d e f g : Bool) → ((a && (b && c)) && (d && (e && (f && g)))) ≡ ((a && d) && ((b && e) && ((c && f) && g)))
gather a b c d e f g = grind arith

module _ (l : Image) where
  canonical-parts : canonical_at server l 0
      ≡ (canonical_at header l 0
      && (canonical_at (listed mechanism most_mechanisms) l server_mechanisms && every_at (canonical_at slot l) slot_size most_connections server_slots))
  unfolding server
  canonical-parts =
      let rest = pair (listed mechanism most_mechanisms) (array slot most_connections) in
      canonical-pair header-lawful rest l 0
      ∙ ap (λ (n : ℕ). canonical_at header l 0 && canonical_at rest l (0 + n)) header-size
      ∙ ap (λ (b : Bool). canonical_at header l 0 && b)
      (canonical-pair (listed-lawful mechanism-lawful most_mechanisms (lit< tt)) (array slot most_connections) l server_mechanisms
      ∙ ap
      (λ (n : ℕ). canonical_at (listed mechanism most_mechanisms) l server_mechanisms
      && canonical_at (array slot most_connections) l (server_mechanisms + (1 + most_mechanisms * n)))
      mechanism-size
      ∙ ap (λ (b : Bool). canonical_at (listed mechanism most_mechanisms) l server_mechanisms && b)
      (canonical-array slot-lawful slot_size slot-size most_connections l server_slots))

  within-parts : well_formed (read_server l)
      ≡ (header_within (header.get l 0)
      && (mechanisms_within (Mechanisms.listed (table_at l))
      && (every_at (λ at. slot_within (header.get l 0) (slot.get l at)) slot_size most_connections server_slots && slots_differ l)))
  unfolding well_formed slots_within
  within-parts =
      rw (server-get, get_array-length slot most_connections l server_slots, every-array slot slot_size slot-size most_connections l server_slots (slot_within (header.get l 0)))

  module _ (len : length l ≡ image_size) where
    taken-tests : is_taken l ≡ (canonical_at server l 0 && well_formed (read_server l))
    unfolding taken
    taken-tests =
        ap is_some (decode_is server-lawful l (len ∙ sym server-size) well_formed)
        ∙ is-some (canonical_at server l 0 && well_formed (read_server l)) (read_server l)

    pub taken-split : is_taken l
        ≡ (header_fits l && (mechanisms_fit l && (every_at (slot_fits l (header.get l 0)) slot_size most_connections server_slots && slots_differ l)))
    unfolding header_fits mechanisms_fit slot_fits
    taken-split =
        let within : ℕ → Bool = λ at. slot_within (header.get l 0) (slot.get l at) in
        taken-tests
        ∙ ap₂ ◌&&◌ canonical-parts within-parts
        ∙ gather (canonical_at header l 0) (canonical_at (listed mechanism most_mechanisms) l server_mechanisms)
        (every_at (canonical_at slot l) slot_size most_connections server_slots) (header_within (header.get l 0))
        (mechanisms_within (Mechanisms.listed (table_at l))) (every_at within slot_size most_connections server_slots) (slots_differ l)
        ∙ ap (λ (b : Bool). header_fits l && (mechanisms_fit l && (b && slots_differ l))) (every_at-both (canonical_at slot l) within slot_size most_connections server_slots)

-- what `is_taken` goes by
pub ruleset judged = (taken-other, taken-split)

-- Parts of an image tested where they stand. Assumes nothing.
use mathlib.Core.Path.{◌≡◌, refl, sym, ap, ◌∙◌}
use mathlib.Core.Bool.{true, false, cond, and-true}
use mathlib.Core.List.{List, []}
use Prim.Native.Nat.{ℕ, zero, suc, ◌+◌, ◌^◌, ◌<◌}
use native.Mathlib.Omega.{arith}
use native.Mathlib.Nat.{pow-suc}
use borrow.Author.Tests.{lt-ltb}
use lib.ListN.{length, get_or, replicate}
use Rattle.codec.specs.Codec.{is_one, get_number, get_array}
use Rattle.codec.specs.InPlace.{stands_at, canonical_at}
use Rattle.codec.proofs.Arrays.{get_array-length, array-place}
use Rattle.codec.proofs.Listed.{canonical-option}
use Rattle.std.proofs.lemmas.List.{same_lists}
use Rattle.server.specs.Limits.{most_mechanisms, number_bound}
use Rattle.server.specs.WellFormed.{header_within, slot_within}
use Rattle.server.specs.declared.Header.{Header}
use Rattle.server.specs.declared.Mechanism.{Mechanism}
use Rattle.server.specs.declared.Mechanisms.{Mechanisms}
use Rattle.image.specs.Sizes.{connection_size, slot_size, mechanism_size, header_size, server_mechanisms}
use Rattle.image.specs.Layout.{profile, phase, session, connection, slot, mechanism, header}
use Rattle.image.specs.InPlace.{mechanism_offset, table_at}
use Rattle.image.specs.Private.{connection_fits, slot_fits}
use Rattle.image.proofs.Offsets.{header-get, slot-size, slot-get, mechanism-size}

-- ---- a header: what eight octets are read as is below 2^64

number-below : (l : List ℕ) → ((i : ℕ) → get_or l i 0 < 256) → (k at : ℕ) → get_number k l at < 256 ^ k
unfolding get_number
number-below l o zero at = omega arith
number-below l o (suc k) at =
    let h : get_number k l (at + 1) < 256 ^ k = number-below l o k (at + 1) in
    rw pow-suc (omega (arith, o at))

pub header-below : (l : List ℕ) → ((i : ℕ) → get_or l i 0 < 256) → header_within (header.get l 0) ≡ true
unfolding header_within
header-below l o =
    rw (header-get, lt-ltb (get_number 8 l 0) number_bound (number-below l o 8 0), lt-ltb (get_number 8 l 8) number_bound (number-below l o 8 8))

-- ---- a slot

module _ (l : List ℕ) (h : Header) (at : ℕ) where
  slot-canonical : canonical_at slot l at ≡ cond (is_one (get_or l at 0)) (canonical_at connection l (at + 1)) (stands_at (replicate slot_size 0) l at)
  unfolding slot
  slot-canonical = canonical-option connection slot_size slot-size l at

  pub slot-open : is_one (get_or l at 0) ≡ true → connection_fits l h (at + 1) ≡ slot_fits l h at
  unfolding slot_fits connection_fits
  slot-open e = rw (slot-canonical, slot-get, e)

  pub slot-free : is_one (get_or l at 0) ≡ false → stands_at (replicate slot_size 0) l at ≡ slot_fits l h at
  unfolding slot_fits slot_within
  slot-free e = rw (slot-canonical, slot-get, e) (sym (and-true (stands_at (replicate slot_size 0) l at)))

-- ---- the table of mechanisms, by its records

pub table_of_records : (l : List ℕ) (xs : List Mechanism) → length xs ≡ most_mechanisms
    → ((i : ℕ) (d : Mechanism) → i < most_mechanisms → get_or xs i d ≡ mechanism.get l (mechanism_offset i))
    → ◌≡◌ {A = Mechanisms} (record { records = xs; count = get_or l server_mechanisms 0 }) (table_at l)
table_of_records l xs e each =
    ap (λ (v : List Mechanism). record { records = v; count = get_or l server_mechanisms 0 })
    (same_lists xs (get_array mechanism most_mechanisms l (mechanism_offset 0)) (e ∙ sym (get_array-length mechanism most_mechanisms l (mechanism_offset 0)))
    (λ k d h. let b : k < most_mechanisms = omega arith in each k d b ∙ sym (array-place mechanism mechanism_size mechanism-size most_mechanisms l (mechanism_offset 0) k d b)))

-- ---- where there is no image, zeros are read

pub no_header : header.get (replicate header_size 0) 0 ≡ header.get [] 0
unfolding header get_number
no_header = refl

pub no_connection : connection.get (replicate connection_size 0) 0 ≡ connection.get [] 0
unfolding connection session phase profile get_number get_array
no_connection = refl

pub no_table : ◌≡◌ {A = Mechanisms}
    (record { records = replicate 8 (record { name = replicate 20 0; client_first = false; needs_protection = false }); count = 0 }) (table_at [])
unfolding mechanism get_array
no_table = refl

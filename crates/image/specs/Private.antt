-- What the functions that test an image part by part come to.
use Rattle.std.specs.Prelude.{◌≡◌, Bool, true, cond, not, ◌&&◌, ◌||◌, List, [], ◌∷◌, ℕ, zero, suc, ◌+◌, ◌-◌, ◌*◌, ◌/◌, ◌%◌, ◌≤◌, eqb, leb, ltb, length, get_or, drop, replicate}
use Rattle.std.specs.Prelude as Rust
use Rattle.std.specs.Prelude.{Some, None, is_none}
use Rattle.std.proofs.Math.Option.{Option, none, some}
use Rattle.octets.specs.Lists.{every, same, before, padded_to}
use Rattle.codec.specs.Codec.{octet, get_number, get_array, listed}
use Rattle.codec.specs.InPlace.{stands_at, canonical_at, every_at}
use Rattle.lines.specs.Mechanism.{mech_char}
use Rattle.session.specs.Limits.{most_challenges, longest_name}
use Rattle.session.specs.Verdict.{graphic, is_name}
use Rattle.server.specs.Limits.{most_connections, most_mechanisms}
use Rattle.server.specs.Mechanisms as Mechanisms
use Rattle.server.specs.Server.{Slot}
use Rattle.server.specs.WellFormed.{clashes, differ, number_of, ticket_of, slot_within, same_name, mechanism_within, mechanisms_within, header_within}
use Rattle.server.specs.declared.Header.{Header}
use Rattle.image.specs.Sizes.{phase_size, session_phase, connection_session, slot_size, server_mechanisms, server_slots}
use Rattle.image.specs.Layout.{connection, slot, mechanism, header}
use Rattle.image.specs.Image.{Image}
use Rattle.image.specs.InPlace.{slot_offset, table_at}

-- a part is as it would be written, and may be held
unfoldable pub header_fits : Image → Bool
header_fits l = canonical_at header l 0 && header_within (header.get l 0)

unfoldable pub mechanisms_fit : Image → Bool
mechanisms_fit l = canonical_at (listed mechanism most_mechanisms) l server_mechanisms && mechanisms_within (Mechanisms.listed (table_at l))

unfoldable pub mechanism_fits : Image → ℕ → Bool
mechanism_fits l at = canonical_at mechanism l at && mechanism_within (mechanism.get l at)

unfoldable pub connection_fits : Image → Header → ℕ → Bool
connection_fits l h at = canonical_at connection l at && slot_within h (some (connection.get l at))

unfoldable pub slot_fits : Image → Header → ℕ → Bool
slot_fits l h at = canonical_at slot l at && slot_within h (slot.get l at)

-- a phase by its numbers: x, which of the four it is; k, the challenges sent; t, the ticket; b, the next ticket
unfoldable pub phase_fits : ℕ → ℕ → ℕ → ℕ → Bool
phase_fits x k t b = leb x 3 && (leb k (cond (leb x 1) 0 most_challenges) && ltb t (cond (eqb x 3) b 1))

-- the octet after an index may come after the one there in a name that is padded with NUL; the next n likewise
abbrev pub follows_at : Image → ℕ → Bool
follows_at l j = eqb (get_or l (j + 1) 0) 0 || graphic (get_or l (j + 1) 0) && not (eqb (get_or l j 0) 0)

abbrev pub runs_at : Image → ℕ → ℕ → Bool
runs_at l n at = every_at (follows_at l) 1 n at

-- 64 octets: the name of who is signed in, padded with NUL; of anyone else, zeros
abbrev pub name_at : Image → ℕ → List ℕ
name_at l at = get_array octet longest_name l at

unfoldable pub name_fits : Image → Bool → ℕ → Bool
name_fits l b at =
    cond b (is_name (before 0 (name_at l at)) && same (name_at l at) (padded_to longest_name (before 0 (name_at l at)))) (stands_at (replicate longest_name 0) l at)

-- a session from its phase on, of a server with b as its next ticket
unfoldable pub phased_fits : Image → ℕ → ℕ → Bool
phased_fits l b at =
    phase_fits (get_or l at 0) (get_or l (at + 1) 0) (get_number 8 l (at + 2)) b && name_fits l (eqb (get_or l at 0) 1) (at + phase_size)

-- an octet may stand where it does in a mechanism's name that is padded with NUL, by what follows it; and as the last one
abbrev pub may_stand_at : Image → ℕ → Bool
may_stand_at l j = mech_char (get_or l j 0) || eqb (get_or l j 0) 0 && eqb (get_or l (j + 1) 0) 0

abbrev pub may_end : ℕ → Bool
may_end x = mech_char x || eqb x 0

-- the mechanism at one index has another name than the one at another
abbrev pub is_other_at : Image → ℕ → ℕ → Bool
is_other_at l at b = not (same_name (mechanism.get l at) (mechanism.get l b))

-- the slots, and whether their numbers and tickets differ
abbrev pub slots_at : Image → List Slot
slots_at l = get_array slot most_connections l server_slots

abbrev pub slots_differ : Image → Bool
slots_differ l = differ number_of (slots_at l) && differ ticket_of (slots_at l)

-- ---- a hash table of the slots that were met, by a key: a slot's number, or its ticket

abbrev pub buckets : ℕ
buckets = 512

-- how far behind a slot's start its number stands, and its ticket
abbrev pub slot_number : ℕ
slot_number = 1

abbrev pub slot_ticket : ℕ
slot_ticket = 1 + connection_session + session_phase + 2

-- a key's buckets: the first is told by its remainder, the next by the digits, least first, of a number that its quotient is spread to
unfoldable pub first_bucket : ℕ → ℕ
first_bucket m = m % 509

unfoldable pub spread : ℕ → ℕ
spread m = (((m / 509) % 0x100000000) * 2654435769) / 0x800000

unfoldable pub digits : ℕ → ℕ → List ℕ
digits zero x = []
digits (suc n) x = cond (eqb x 0) [] (x % buckets ∷ digits n (x / buckets))

abbrev pub buckets_of : ℕ → List ℕ
buckets_of m = first_bucket m ∷ digits (spread m) (spread m)

-- what a bucket has, x, is a slot with this key: a slot's index and 64, and 0 where it is empty
unfoldable pub is_of : Image → ℕ → ℕ → ℕ → Bool
is_of l o x m = eqb (get_number 8 l (slot_offset (x % most_connections) + o)) m

-- of some buckets the first that is empty, where no one before it has a slot with this key
unfoldable pub empty_bucket : Image → ℕ → List ℕ → ℕ → List ℕ → Rust.Option ℕ
empty_bucket l o n m [] = None
empty_bucket l o n m (k ∷ ks) = cond (eqb (get_or n k 0) 0) (Some k) (cond (is_of l o (get_or n k 0) m) None (empty_bucket l o n m ks))

-- a key was met, or all of its buckets are taken; every one from slot i on
abbrev pub is_met : Image → ℕ → List ℕ → Option ℕ → Bool
is_met l o n none = true
is_met l o n (some m) = is_none (empty_bucket l o n m (buckets_of m))

pub record Met (key : Slot → Option ℕ) (o : ℕ) (l : Image) (i : ℕ) (n : List ℕ) : Type 0 where
  pub bound : i ≤ most_connections
  pub size : length n ≡ buckets
  pub met : every (λ y. is_met l o n (key y)) (drop i (slots_at l)) ≡ true

-- no slot after the one at i has its key
unfoldable pub is_new : (Slot → Option ℕ) → List Slot → ℕ → Bool
is_new key xs i = every (λ y. not (clashes (key (get_or xs i none)) (key y))) (drop (i + 1) xs)

-- the slot at i fits, and no slot after it has its number or its ticket; the slots from i on fit, and differ
unfoldable pub joins : Image → Header → ℕ → Bool
joins l h i = slot_fits l h (slot_offset i) && (is_new number_of (slots_at l) i && is_new ticket_of (slots_at l) i)

unfoldable pub fit_from : Image → Header → ℕ → Bool
fit_from l h i =
    every_at (slot_fits l h) slot_size (most_connections - i) (slot_offset i)
    && (differ number_of (drop i (slots_at l)) && differ ticket_of (drop i (slots_at l)))

-- An image tested, read and written where it stands. Octets of another length are no image: nothing is found there and nothing changes.
use Rattle.std.specs.Prelude as Rust
use Rattle.std.specs.Prelude.{None}
use Rattle.std.specs.Prelude.{Bool, true, false, cond, ◌&&◌, List, [], ◌∷◌, ℕ, ◌+◌, ◌*◌, eqb, ltb, length, get_or}
use Rattle.std.specs.List.{position_from}
use Rattle.std.proofs.Math.Option.{Option, none, some}
use Rattle.codec.specs.Codec.{put_octet, get_array}
use Rattle.codec.specs.Stored.{stored}
use Rattle.server.specs.Limits.{most_connections, most_mechanisms}
use Rattle.server.specs.Make.{fresh}
use Rattle.server.specs.Server.{Slot, Server}
use Rattle.server.specs.declared.Connection.{Connection}
use Rattle.server.specs.declared.Header.{Header}
use Rattle.server.specs.declared.Mechanism.{Mechanism}
use Rattle.server.specs.declared.Mechanisms.{Mechanisms}
use Rattle.image.specs.Sizes.{mechanism_size, slot_size, server_mechanisms, server_slots, image_size}
use Rattle.image.specs.Layout.{connection, slot, mechanism, header, server}
use Rattle.image.specs.Image.{Image, image_of, taken}

-- ---- whether it is taken

abbrev pub is_some : {A : Type 0} → Option A → Bool
is_some none = false
is_some (some x) = true

abbrev pub is_taken : Image → Bool
is_taken l = is_some (taken l)

abbrev pub is_whole : Image → Bool
is_whole l = eqb (length l) image_size

-- a slot at this index, and a record for a mechanism
unfoldable pub has_slot : Image → ℕ → Bool
has_slot l i = is_whole l && ltb i most_connections

unfoldable pub has_record : Image → ℕ → Bool
has_record l i = is_whole l && ltb i most_mechanisms

-- ---- what stands there

-- the server that octets are read as, whatever they are
abbrev pub read_server : Image → Server
read_server l = server.get l 0

abbrev pub slot_offset : ℕ → ℕ
slot_offset i = server_slots + i * slot_size

-- the mechanisms follow an octet that says how many they are
abbrev pub mechanism_offset : ℕ → ℕ
mechanism_offset i = server_mechanisms + 1 + i * mechanism_size

unfoldable pub header_read : Image → Header
header_read l = cond (is_whole l) (header.get l 0) (header.get [] 0)

abbrev pub table_at : Image → Mechanisms
table_at l = record { records = get_array mechanism most_mechanisms l (mechanism_offset 0); count = get_or l server_mechanisms 0 }

unfoldable pub mechanisms_read : Image → Mechanisms
mechanisms_read l = cond (is_whole l) (table_at l) (table_at [])

-- the connection that the slot at an index holds; of a free one, what its octets are read as
unfoldable pub connection_read : Image → ℕ → Connection
connection_read l i = cond (has_slot l i) (connection.get l (slot_offset i + 1)) (connection.get [] 0)

-- ---- where it is

-- the index of the first that passes a test
abbrev pub index_of : {A : Type 0} → (A → Bool) → List A → Rust.Option ℕ
index_of p xs = position_from p 0 xs

-- the lowest slot that passes a test
unfoldable pub slot_found : (Slot → Bool) → Image → Rust.Option ℕ
slot_found p l = cond (is_whole l) (index_of p (read_server l).slots) None

-- ---- what is written there

unfoldable pub header_written : Image → Header → Image
header_written l h = cond (is_whole l) (stored l 0 (header.put h)) l

-- a mechanism as the last of the table
unfoldable pub mechanism_written : Image → ℕ → Mechanism → Image
mechanism_written l i m =
    cond (has_record l i) (stored (stored l server_mechanisms (put_octet (i + 1))) (mechanism_offset i) (mechanism.put m)) l

unfoldable pub slot_written : Image → ℕ → Slot → Image
slot_written l i x = cond (has_slot l i) (stored l (slot_offset i) (slot.put x)) l

unfoldable pub fresh_written : Image → ℕ → ℕ → Image
fresh_written l c t = cond (is_whole l) (image_of (fresh c t)) l

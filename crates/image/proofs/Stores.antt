-- A part written where it stands is the image of the server with that part replaced. Assumes nothing.
use mathlib.Core.Path.{◌≡◌, refl, sym, ap, ap₂, ◌∙◌}
use mathlib.Core.Option.{none}
use mathlib.Core.List.{List, [], ◌∷◌, ◌++◌, append_assoc}
use Prim.Native.Nat.{ℕ, zero, suc, ◌+◌, ◌*◌, ◌<◌, ◌≤◌}
use native.Mathlib.Omega.{arith}
use native.Mathlib.Nat.{add_comm, suc-mul}
use borrow.Author.Tests.{eq-eqb, lt-ltb}
use lib.Seq.{take-append-le, drop-append-le}
use lib.ListN.{length, set, take, drop, replicate, length-append, length-replicate, replicate-append-replicate}
use Rattle.codec.specs.Codec.{put_octet, put_array, put_up_to, listed}
use Rattle.codec.specs.Stored.{stored}
use Rattle.codec.proofs.Lawful.{put_octet-length, put_up_to-length, put_listed_length}
use Rattle.codec.proofs.Stored.{stored-first, stored_is, skip}
use Rattle.codec.proofs.Arrays.{stored-array}
use Rattle.codec.proofs.Listed.{append-up_to, up_to-none}
use Rattle.server.specs.Limits.{most_connections, most_mechanisms}
use Rattle.server.specs.Make.{made, fresh}
use Rattle.server.specs.Server.{Slot, Server, with_slots}
use Rattle.server.specs.declared.Header.{Header}
use Rattle.server.specs.declared.Mechanism.{Mechanism}
use Rattle.image.specs.Sizes.{mechanism_size, slot_size, header_size, server_mechanisms, server_slots, image_size}
use Rattle.image.specs.Layout.{slot, mechanism, header, server}
use Rattle.image.specs.Image.{Image, image_of}
use Rattle.image.specs.InPlace.{slot_offset, mechanism_offset, header_written, mechanism_written, slot_written, has_slot, has_record}
use Rattle.image.proofs.Lawful.{header-lawful, mechanism-lawful, slot-lawful}
use Rattle.image.proofs.Offsets.{header-size, mechanism-size, slot-size, free-put}
use Rattle.image.proofs.Taken.{image-size}

abbrev pub with_header : Server → Header → Server
with_header s h = record { header = h; mechanisms = s.mechanisms; slots = s.slots }

abbrev pub with_mechanisms : Server → List Mechanism → Server
with_mechanisms s ms = record { header = s.header; mechanisms = ms; slots = s.slots }

-- ---- an image in its parts

abbrev pub table : List Mechanism → List ℕ
table ms = (listed mechanism most_mechanisms).put ms

abbrev pub slots : List Slot → List ℕ
slots xs = put_array slot most_connections xs

pub image-parts : (s : Server) → image_of s ≡ header.put s.header ++ (table s.mechanisms ++ slots s.slots)
unfolding image_of server
image-parts s = refl

pub header-length : (h : Header) → length (header.put h) ≡ header_size
header-length h = header-lawful.put-length h ∙ header-size

table-length : (ms : List Mechanism) → length (table ms) ≡ 1 + most_mechanisms * mechanism_size
table-length ms = put_listed_length mechanism-lawful most_mechanisms ms ∙ ap (λ (n : ℕ). 1 + most_mechanisms * n) mechanism-size

-- ---- a slot

-- all that stands before the slots
head-length : (s : Server) → length (header.put s.header ++ table s.mechanisms) ≡ server_slots
head-length s = length-append (header.put s.header) (table s.mechanisms) ∙ ap₂ ◌+◌ (header-length s.header) (table-length s.mechanisms)

head-parts : (s : Server) → image_of s ≡ (header.put s.header ++ table s.mechanisms) ++ slots s.slots
head-parts s = image-parts s ∙ sym (append_assoc (header.put s.header) (table s.mechanisms) (slots s.slots))

pub slot-stored : (s : Server) (i : ℕ) (y : Slot) → i < most_connections → length s.slots ≡ most_connections
    → stored (image_of s) (slot_offset i) (slot.put y) ≡ image_of (with_slots s (set s.slots i y))
slot-stored s i y h len =
    let head = header.put s.header ++ table s.mechanisms in
    ap (λ (m : List ℕ). stored m (slot_offset i) (slot.put y)) (head-parts s)
    ∙ skip head server_slots (head-length s) (slots s.slots) (i * slot_size) (slot.put y)
    ∙ ap (λ (m : List ℕ). head ++ m)
    (stored-array slot-lawful slot_size slot-size most_connections i s.slots y h (rw len h))
    ∙ sym (head-parts (with_slots s (set s.slots i y)))

-- ---- the header

pub header-stored : (s : Server) (h : Header) → stored (image_of s) 0 (header.put h) ≡ image_of (with_header s h)
header-stored s h =
    ap (λ (m : List ℕ). stored m 0 (header.put h)) (image-parts s)
    ∙ stored-first (header.put s.header) (table s.mechanisms ++ slots s.slots) (header.put h) (header-length h ∙ sym (header-length s.header))
    ∙ sym (image-parts (with_header s h))

-- ---- a mechanism added to the table: how many they are, and the mechanism past the last

counted : (s : Server) (n : ℕ)
    → stored (image_of s) server_mechanisms (put_octet n) ≡ header.put s.header ++ (put_octet n ++ (put_up_to mechanism most_mechanisms s.mechanisms ++ slots s.slots))
counted s n =
    let ms = s.mechanisms in
    let values = put_up_to mechanism most_mechanisms ms in
    let split : table ms ++ slots s.slots ≡ put_octet (length ms) ++ (values ++ slots s.slots) = append_assoc (put_octet (length ms)) values (slots s.slots) in
    ap (λ (m : List ℕ). stored m server_mechanisms (put_octet n)) (image-parts s ∙ ap (λ (m : List ℕ). header.put s.header ++ m) split)
    ∙ skip (header.put s.header) header_size (header-length s.header) (put_octet (length ms) ++ (values ++ slots s.slots)) 0 (put_octet n)
    ∙ ap (λ (m : List ℕ). header.put s.header ++ m)
    (stored-first (put_octet (length ms)) (values ++ slots s.slots) (put_octet n) (put_octet-length n ∙ sym (put_octet-length (length ms))))

-- stored within a first part
stored-part : (m q : List ℕ) (at : ℕ) (vs : List ℕ) → at + length vs ≤ length m → stored (m ++ q) at vs ≡ stored m at vs ++ q
stored-part m q at vs h =
    let k : at + length vs ≤ length (m ++ q) = rw length-append (omega arith) in
    stored_is (m ++ q) at vs k
    ∙ ap₂ (λ (x y : List ℕ). x ++ (vs ++ y)) (take-append-le at m q (omega arith)) (drop-append-le (at + length vs) m q h)
    ∙ sym (ap (λ (x : List ℕ). x ++ q) (stored_is m at vs h)
    ∙ append_assoc (take at m) (vs ++ drop (at + length vs) m) q
    ∙ ap (λ (x : List ℕ). take at m ++ x) (append_assoc vs (drop (at + length vs) m) q))

pub mechanism-stored : (s : Server) (i : ℕ) (m : Mechanism) → i ≡ length s.mechanisms → i < most_mechanisms
    → stored (stored (image_of s) server_mechanisms (put_octet (i + 1))) (mechanism_offset i) (mechanism.put m)
    ≡ image_of (with_mechanisms s (s.mechanisms ++ (m ∷ [])))
mechanism-stored s i m e h =
    let ms = s.mechanisms in
    let values = put_up_to mechanism most_mechanisms ms in
    let more = put_up_to mechanism most_mechanisms (ms ++ (m ∷ [])) in
    let v = mechanism.put m in
    let offset : mechanism_offset i ≡ header_size + (1 + i * mechanism_size) = omega arith in
    let long : length values ≡ most_mechanisms * mechanism_size = put_up_to-length mechanism-lawful most_mechanisms ms ∙ ap (λ (n : ℕ). most_mechanisms * n) mechanism-size in
    let one : length v ≡ mechanism_size = mechanism-lawful.put-length m ∙ mechanism-size in
    let fits : i * mechanism_size + length v ≤ length values = rw (long, one) (omega arith) in
    let count : length (ms ++ (m ∷ [])) ≡ i + 1 = length-append ms (m ∷ []) ∙ omega arith in
    ap₂ (λ (l : List ℕ) (n : ℕ). stored l n v) (counted s (i + 1)) offset
    ∙ skip (header.put s.header) header_size (header-length s.header) (put_octet (i + 1) ++ (values ++ slots s.slots)) (1 + i * mechanism_size) v
    ∙ ap (λ (l : List ℕ). header.put s.header ++ l)
    (skip (put_octet (i + 1)) 1 (put_octet-length (i + 1)) (values ++ slots s.slots) (i * mechanism_size) v
    ∙ ap (λ (l : List ℕ). put_octet (i + 1) ++ l)
    (stored-part values (slots s.slots) (i * mechanism_size) v fits
    ∙ ap (λ (l : List ℕ). l ++ slots s.slots) (append-up_to mechanism-lawful mechanism_size mechanism-size most_mechanisms i ms m e h))
    ∙ ap (λ (n : ℕ). put_octet n ++ (more ++ slots s.slots)) (sym count)
    ∙ sym (append_assoc (put_octet (length (ms ++ (m ∷ [])))) more (slots s.slots)))
    ∙ sym (image-parts (with_mechanisms s (ms ++ (m ∷ []))))

-- ---- a server that was just made: a header, and zeros

zeros : (m n : ℕ) → ◌≡◌ {A = List ℕ} (replicate m 0 ++ replicate n 0) (replicate (m + n) 0)
zeros m n = replicate-append-replicate {A = ℕ} m n 0

free-slots : (n : ℕ) → put_array slot n (replicate n none) ≡ replicate (n * slot_size) 0
unfolding put_array
free-slots zero = refl
free-slots (suc n) =
    ap₂ ◌++◌ free-put (free-slots n) ∙ zeros slot_size (n * slot_size) ∙ ap (λ (k : ℕ). replicate k 0) (add_comm slot_size (n * slot_size) ∙ sym (suc-mul n slot_size))

no-mechanisms : table [] ≡ replicate (1 + most_mechanisms * mechanism_size) 0
no-mechanisms =
    ap₂ ◌++◌ octet-zero (up_to-none mechanism most_mechanisms ∙ ap (λ (n : ℕ). replicate (most_mechanisms * n) 0) mechanism-size) ∙ zeros 1 (most_mechanisms * mechanism_size)
  where
    octet-zero : put_octet 0 ≡ replicate 1 0
    octet-zero = unfold put_octet in refl

pub fresh-stored : (c t : ℕ) → stored (replicate image_size 0) 0 (header.put (made c t)) ≡ image_of (fresh c t)
unfolding fresh
fresh-stored c t =
    let rest : ℕ = 1 + most_mechanisms * mechanism_size + most_connections * slot_size in
    let h = header.put (made c t) in
    ap (λ (l : List ℕ). stored l 0 h) (sym (zeros header_size rest))
    ∙ stored-first (replicate header_size 0) (replicate rest 0) h (header-length (made c t) ∙ sym (length-replicate {A = ℕ} header_size 0))
    ∙ ap (λ (l : List ℕ). h ++ l) (sym (zeros (1 + most_mechanisms * mechanism_size) (most_connections * slot_size)))
    ∙ ap₂ (λ (x y : List ℕ). h ++ (x ++ y)) (sym no-mechanisms) (sym (free-slots most_connections))
    ∙ sym (image-parts (fresh c t))

-- ---- the same by the functions that write

pub slot-written : (s : Server) (i : ℕ) (y : Slot) → i < most_connections → length s.slots ≡ most_connections
    → slot_written (image_of s) i y ≡ image_of (with_slots s (set s.slots i y))
unfolding slot_written has_slot
slot-written s i y h len = rw (eq-eqb (length (image_of s)) image_size (image-size s), lt-ltb i most_connections h) (slot-stored s i y h len)

pub header-written : (s : Server) (h : Header) → header_written (image_of s) h ≡ image_of (with_header s h)
unfolding header_written
header-written s h = rw (eq-eqb (length (image_of s)) image_size (image-size s)) (header-stored s h)

pub mechanism-written : (s : Server) (i : ℕ) (m : Mechanism) → i ≡ length s.mechanisms → i < most_mechanisms
    → mechanism_written (image_of s) i m ≡ image_of (with_mechanisms s (s.mechanisms ++ (m ∷ [])))
unfolding mechanism_written has_record
mechanism-written s i m e h = rw (eq-eqb (length (image_of s)) image_size (image-size s), lt-ltb i most_mechanisms h) (mechanism-stored s i m e h)

-- a buffer of an image's length cleared, and a header written there
pub fresh_made : (l m : Image) (h : Header) (c t : ℕ) → length l ≡ image_size → m ≡ replicate (length l) 0 → h ≡ made c t
    → stored m 0 (header.put h) ≡ image_of (fresh c t)
fresh_made l m h c t e cleared is =
    ap₂ (λ (x : Image) (y : Header). stored x 0 (header.put y)) (cleared ∙ ap (λ (n : ℕ). replicate n 0) e) is ∙ fresh-stored c t

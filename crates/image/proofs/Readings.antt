-- What is read of an image that is taken is what its server has. Assumes nothing.
use mathlib.Core.Path.{◌≡◌, sym, ap, ◌∙◌}
use mathlib.Core.Bool.{true}
use mathlib.Core.Option.{some}
use mathlib.Core.List.{List, ◌++◌, append_assoc}
use Prim.Native.Nat.{ℕ, ◌<◌}
use borrow.Author.Tests.{eq-eqb}
use lib.ListN.{length, get_or}
use Rattle.codec.specs.Codec.{put_octet, put_up_to}
use Rattle.codec.proofs.Lawful.{get_octet_put}
use Rattle.server.specs.Limits.{most_connections, most_mechanisms}
use Rattle.server.specs.Mechanisms.{listed}
use Rattle.server.specs.Server.{Slot, Server}
use Rattle.server.specs.WellFormed.{well_formed}
use Rattle.image.specs.Sizes.{server_mechanisms, image_size}
use Rattle.image.specs.Layout.{slot, mechanism, header}
use Rattle.image.specs.Image.{Image, image_of, taken}
use Rattle.image.specs.InPlace.{is_some, is_taken, read_server, slot_offset, header_read, mechanisms_read}
use Rattle.image.proofs.Offsets.{server-get}
use Rattle.image.proofs.Places.{slot-place}
use Rattle.image.proofs.Stores.{slots, image-parts, header-length}
use Rattle.image.proofs.Taken.{taken-written, taken-read, taken-image, taken-size}

-- a server that is well formed comes back
pub read-written : (s : Server) → well_formed s ≡ true → read_server (image_of s) ≡ s
read-written s w = sym (taken-read (image_of s) s (taken-written s w))

pub written-taken : (s : Server) → well_formed s ≡ true → is_taken (image_of s) ≡ true
written-taken s w = ap is_some (taken-written s w)

module _ (l : Image) (len : length l ≡ image_size) where
  pub header_read_lem : header_read l ≡ (read_server l).header
  unfolding header_read
  header_read_lem = rw (eq-eqb (length l) image_size len) (sym (ap (λ (s : Server). s.header) (server-get l)))

  pub mechanisms-read : listed (mechanisms_read l) ≡ (read_server l).mechanisms
  unfolding mechanisms_read
  mechanisms-read = rw (eq-eqb (length l) image_size len) (sym (ap (λ (s : Server). s.mechanisms) (server-get l)))

-- how many mechanisms there are stands before them
pub count-stands : (s : Server) → get_or (image_of s) server_mechanisms 0 ≡ length s.mechanisms
count-stands s =
    let ms = s.mechanisms in
    let rest = put_up_to mechanism most_mechanisms ms in
    ap (λ (l : Image). get_or l server_mechanisms 0)
    (image-parts s ∙ ap (λ (m : List ℕ). header.put s.header ++ m) (append_assoc (put_octet (length ms)) rest (slots s.slots)))
    ∙ get_octet_put (header.put s.header) (length ms) (rest ++ slots s.slots) server_mechanisms (header-length s.header)

module _ (l : Image) (s : Server) (e : taken l ≡ some s) where
  pub header-taken : header_read l ≡ s.header
  header-taken = header_read_lem l (taken-size l s e) ∙ ap (λ (x : Server). x.header) (sym (taken-read l s e))

  pub mechanisms-taken : listed (mechanisms_read l) ≡ s.mechanisms
  mechanisms-taken = mechanisms-read l (taken-size l s e) ∙ ap (λ (x : Server). x.mechanisms) (sym (taken-read l s e))

  pub count-taken : (mechanisms_read l).count ≡ length s.mechanisms
  unfolding mechanisms_read
  count-taken =
      rw (eq-eqb (length l) image_size (taken-size l s e)) (ap (λ (i : Image). get_or i server_mechanisms 0) (taken-image l s e) ∙ count-stands s)

  pub slot-taken : (i : ℕ) (d : Slot) → i < most_connections → get_or s.slots i d ≡ slot.get l (slot_offset i)
  slot-taken i d h = ap (λ (x : Server). get_or x.slots i d) (taken-read l s e) ∙ slot-place l i d h

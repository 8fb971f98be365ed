-- "An image is taken exactly when the desk writes it for some desk in which .." the conditions of `well_formed` hold. Assumes nothing.
use mathlib.Core.Path.{◌≡◌, ap, ◌∙◌}
use mathlib.Core.Bool.{true}
use mathlib.Core.Logic.{◌↔◌}
use mathlib.Core.Option.{none, some}
use lib.ListN.{length}
use Rattle.codec.proofs.Decode.{decode-sound, decode-complete, decode-length}
use Rattle.server.specs.Server.{Server}
use Rattle.server.specs.WellFormed.{well_formed}
use Rattle.image.specs.Sizes.{image_size}
use Rattle.image.specs.Layout.{server}
use Rattle.image.specs.Image.{Image, image_of, taken}
use Rattle.image.proofs.Lawful.{server-lawful, server-good}
use Rattle.image.proofs.Offsets.{server-size}

pub image-size : (s : Server) → length (image_of s) ≡ image_size
unfolding image_of
image-size s = server-lawful.put-length s ∙ server-size

pub taken-written : (s : Server) → well_formed s ≡ true → taken (image_of s) ≡ some s
unfolding taken image_of
taken-written s w = decode-complete server-lawful well_formed s (server-good s w) w

pub taken-within : (i : Image) (s : Server) → taken i ≡ some s → well_formed s ≡ true
unfolding taken
taken-within i s e = (decode-sound server well_formed i s e).2

pub taken-image : (i : Image) (s : Server) → taken i ≡ some s → i ≡ image_of s
unfolding taken image_of
taken-image i s e = (decode-sound server well_formed i s e).0

-- what it is taken for is what is read there
pub taken-read : (i : Image) (s : Server) → taken i ≡ some s → s ≡ server.get i 0
unfolding taken
taken-read i s e = (decode-sound server well_formed i s e).1

pub taken-size : (i : Image) (s : Server) → taken i ≡ some s → length i ≡ image_size
taken-size i s e = ap length (taken-image i s e) ∙ image-size s

pub taken-length : (i : Image) → (length i ≡ image_size → ⊥) → taken i ≡ none
unfolding taken
taken-length i n = decode-length server-lawful well_formed i (λ e. n (e ∙ server-size))

pub taken-iff : (i : Image) (s : Server) → (taken i ≡ some s) ↔ ((i ≡ image_of s) × (well_formed s ≡ true))
taken-iff i s = (λ e. (taken-image i s e, taken-within i s e), λ h. ap taken h.0 ∙ taken-written s h.1)

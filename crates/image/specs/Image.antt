-- "An image is taken exactly when the desk writes it for some desk in which .." the conditions of `well_formed` hold: it is read, the server
-- that was read is tested, written again and compared.
use Rattle.std.specs.Prelude.{List, ℕ}
use Rattle.std.proofs.Math.Option.{Option}
use Rattle.codec.specs.Codec.{decode}
use Rattle.server.specs.Server.{Server}
use Rattle.server.specs.WellFormed.{well_formed}
use Rattle.image.specs.Layout.{server}

-- any list of numbers, of any length
abbrev pub Image : Type 0
Image = List ℕ

-- the image that a server is written as
unfoldable pub image_of : Server → Image
image_of s = server.put s

-- the server that an image is taken for
unfoldable pub taken : Image → Option Server
taken i = decode server well_formed i

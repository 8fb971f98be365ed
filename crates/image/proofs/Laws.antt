-- The laws of images that other crates cite. Assumes nothing.
-- an image is taken exactly when it is written for a well formed server
pub use Rattle.image.proofs.Lawful.{server-lawful, server-good}
pub use Rattle.image.proofs.Taken.{image-size, taken-iff, taken-written, taken-within, taken-image, taken-read, taken-size, taken-length}
pub use Rattle.image.proofs.Split.{taken_own, not_taken, own-size, taken-whole, taken-other, taken-split}
pub use Rattle.image.proofs.Fitting.{image-octets}
-- what the tests of a well formed server say, by index
pub use Rattle.image.proofs.Index.{apart-at, numbers-differ, tickets-differ, names-differ}
-- what is read of an image
pub use Rattle.image.proofs.Readings.{read-written, written-taken, header_read_lem, mechanisms-read, count-stands, header-taken, mechanisms-taken, count-taken, slot-taken}
pub use Rattle.image.proofs.Places.{slots_length, slot-place}
-- what is written there
pub use Rattle.image.proofs.Stores.{with_header, with_mechanisms, slot-stored, header-stored, mechanism-stored, fresh-stored}
pub use Rattle.image.proofs.Stores.{slot-written, header-written, mechanism-written}
-- a search by index, and what it finds
pub use Rattle.image.proofs.Search.{index-passes, index-found, index-absent, absent-index, index-replaced, index_unreplaced, index-free, index-full}
pub use Rattle.image.proofs.Search.{found-whole, found-length, found-place, found-bound, found-passes, found-replaced}
pub use Rattle.image.proofs.Search.{connection-found, connection-passes, connection-absent, free-found, free-absent}

-- The laws of layouts that other crates cite. Assumes nothing.
-- lawful codecs: every value takes its size, and a value that is good comes back
pub use Rattle.codec.proofs.Lawful.{Lawful, octet-lawful, number-lawful, mapped-lawful, flag-lawful, pair-lawful}
pub use Rattle.codec.proofs.Lawful.{EachGood, array_lawful, GoodOption, option-lawful, listed-lawful}
pub use Rattle.codec.proofs.Lawful.{put_octet-length, put_number-length, put_array-length, put_option-length, put_up_to-length}
-- the reading that refuses
pub use Rattle.codec.proofs.Decode.{decode-sound, decode-complete, decode-iff, decode-size, decode-length, decode-other, decode-own}
pub use Rattle.codec.proofs.Decode.{same-canonical, decode_is, decode-taken, decode-refused, get-whole, put-injective}
-- elements stored over a list
pub use Rattle.codec.proofs.Stored.{stored-length, stored-append, fields, stored_is, stored-whole, stored-after, skip, stored-first, get-stored}
pub use Rattle.codec.proofs.Stored.{copy-turn, copy-end, fill-turn, fill_end, stored_one, stored-number, number-end}
-- arrays
pub use Rattle.codec.proofs.Arrays.{get_d_any, octets-put, get_array-length, get_array-at, take-array, array-place, every-array, canonical-array, stored-array}
pub use Rattle.codec.proofs.Arrays.{get-start, get-turn, get-end, put-turn, put-end}
-- what stands at an index
pub use Rattle.codec.proofs.InPlace.{stands_at-append, stands_at-turn, stands_at-end, stands_at-part, zeros-turn, zeros-end, same_whole}
pub use Rattle.codec.proofs.InPlace.{every_at-both, every_at-turn, every_at-pass, every_at_fail, every_at-end, all_at_turn, all_at_end}
pub use Rattle.codec.proofs.InPlace.{every_place, every_place_both, every_place_same, every_place_turn, every_place_pass, every_place_fail, every_place_end}
pub use Rattle.codec.proofs.InPlace.{get-same, canonical-same, canonical-pair}
-- a value or none; lists of at most n values
pub use Rattle.codec.proofs.Listed.{put-none, canonical-option, up_to-none, up_to-split, stored-up_to, append-up_to, stored-listed, append-listed}
pub use Rattle.codec.proofs.Listed.{listed-get, listed-length, listed-place, every-listed, canonical-listed, canonical-listed-every}
pub use Rattle.codec.proofs.Listed.{place_at, canonical-places, canonical-places-every}
-- tests of each element of a list of any type
pub use Rattle.codec.proofs.Every.{every-turn, every-pass, every_fail, every-done, all-turn, all_end}

-- The part of a kept name that is read back. Assumes nothing.
use Rattle.octets.proofs.Words.{length_before, before-take}

pub ruleset kept_name = (length_before, before-take)

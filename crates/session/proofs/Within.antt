-- The parts of the test that a session is within the limits. Assumes nothing.
use mathlib.Core.Path.{◌≡◌}
use mathlib.Core.Bool.{true}
use Rattle.octets.proofs.Cases.{both}
use Rattle.session.specs.declared.Session.{Session}
use Rattle.session.specs.WellFormed.{sent_within, name_within, well_formed}

pub session-parts : (s : Session) → well_formed s ≡ true → (sent_within s.phase ≡ true) × (name_within s ≡ true)
session-parts s w = both (sent_within s.phase) (name_within s) w

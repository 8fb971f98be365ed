-- The mechanisms of a server.
use Rattle.std.specs.Prelude.{Option, Some, None}
use Rattle.std.specs.Prelude.{Bool, cond, List, [], ◌∷◌, ℕ, take}
use Rattle.octets.specs.Lists.{same}
use Rattle.session.specs.declared.view.Offer.{Offer}
use Rattle.server.specs.declared.Mechanism.{Mechanism}
use Rattle.server.specs.declared.Mechanisms.{Mechanisms}

-- the mechanisms of a table
abbrev pub listed : Mechanisms → List Mechanism
listed t = take t.count t.records

-- what a server has of the mechanism with this name, in twenty octets
unfoldable pub offered : List Mechanism → List ℕ → Option Offer
offered [] n = None
offered (m ∷ ms) n = cond (same m.name n) (Some (record { client_first = m.client_first; needs_protection = m.needs_protection })) (offered ms n)

abbrev pub is_present : Option Offer → Bool
is_present None = Bool.false
is_present (Some o) = Bool.true

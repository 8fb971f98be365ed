-- "Add a mechanism: name, whether the client speaks first, whether it needs a protected connection. At most 8. Each name is kept in twenty
-- octets, padded with NUL." Refusals: "For mechanisms: 20, 5, 11, 8, 9, 10."
use Rattle.std.specs.Prelude.{Bool, cond, ◌&&◌, List, [], ◌∷◌, ◌++◌, ℕ, ltb, length}
use Rattle.lines.specs.Mechanism.{mechanism, padded}
use Rattle.profile.specs.declared.numbers.Refusal.TheVariants.{NotListed, BadName, NamePresent, TableFull, Sealed}
use Rattle.server.specs.declared.Mechanism.{Mechanism}
use Rattle.server.specs.Limits.{most_mechanisms}
use Rattle.server.specs.Mechanisms.{offered, is_present}
use Rattle.server.specs.Outcome.{Outcome, refuses, gives, done, is_yes_or_no, is_yes}
use Rattle.server.specs.Server.{Server}

abbrev pub kept_as : List ℕ → Bool → Bool → Mechanism
kept_as n f b = record { name = padded n; client_first = f; needs_protection = b }

abbrev pub kept : List ℕ → ℕ → ℕ → Mechanism
kept n f p = kept_as n (is_yes f) (is_yes p)

abbrev pub with_mechanism : Server → Mechanism → Server
with_mechanism s m = record { header = s.header; mechanisms = s.mechanisms ++ (m ∷ []); slots = s.slots }

-- n: the name; f: whether the client speaks first; b: whether it needs a protected connection
abbrev pub adds_to : Server → List ℕ → Bool → Bool → Outcome
adds_to s n f b =
    cond s.header.sealed (refuses Sealed)
    (cond (mechanism n)
    (cond (is_present (offered s.mechanisms (padded n))) (refuses NamePresent)
    (cond (ltb (length s.mechanisms) most_mechanisms) (gives done (with_mechanism s (kept_as n f b)))
    (refuses TableFull)))
    (refuses BadName))

-- 5: "a yes-or-no is not 0 or 1"
unfoldable pub on_add : Server → List ℕ → ℕ → ℕ → Outcome
on_add s n f p = cond (is_yes_or_no f && is_yes_or_no p) (adds_to s n (is_yes f) (is_yes p)) (refuses NotListed)

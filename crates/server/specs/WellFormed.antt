-- The servers whose images are taken: those "in which open connections' numbers differ and are below the next, waiting tickets likewise, each
-- session holds at most one of signed in, awaiting an answer and waiting on a ticket, mechanism names differ, adding has ended if a
-- connection is open, and every other field is within this document's limits". A phase is one case of four, so the third needs no test.
use Rattle.std.specs.Prelude.{Bool, true, false, not, ◌&&◌, List, [], ◌∷◌, ℕ, eqb, leb, ltb, length}
use Rattle.std.proofs.Math.Option.{Option, none, some}
use Rattle.octets.specs.Lists.{every, same, before}
use Rattle.lines.specs.Mechanism.{mechanism, padded}
use Rattle.session.specs.WellFormed as Session
use Rattle.session.specs.declared.Phase.{Phase}
use Rattle.session.specs.declared.Phase.TheVariants.{Idle, SignedIn, Awaiting, Waiting}
use Rattle.server.specs.declared.Header.{Header}
use Rattle.server.specs.declared.Mechanism.{Mechanism}
use Rattle.server.specs.Limits.{most_connections, most_mechanisms, number_bound}
use Rattle.server.specs.Server.{Slot, Server}

-- the number of an open connection, and the ticket that it waits on
abbrev pub number_of : Slot → Option ℕ
number_of none = none
number_of (some c) = some c.number

abbrev pub phase_ticket : Phase → Option ℕ
phase_ticket Idle = none
phase_ticket SignedIn = none
phase_ticket (Awaiting k) = none
phase_ticket (Waiting t k) = some t

abbrev pub ticket_of : Slot → Option ℕ
ticket_of none = none
ticket_of (some c) = phase_ticket c.session.phase

abbrev pub is_below : Option ℕ → ℕ → Bool
is_below none b = true
is_below (some n) b = ltb n b

abbrev pub has : Option ℕ → ℕ → Bool
has none n = false
has (some m) n = eqb m n

abbrev pub clashes : Option ℕ → Option ℕ → Bool
clashes none k = false
clashes (some m) k = has k m

-- no two of a list clash
unfoldable pub apart : {A : Type 0} → (A → A → Bool) → List A → Bool
apart clash [] = true
apart clash (x ∷ xs) = every (λ y. not (clash x y)) xs && apart clash xs

abbrev pub differ : {A : Type 0} → (A → Option ℕ) → List A → Bool
differ key xs = apart (λ x y. clashes (key x) (key y)) xs

-- an open connection's number is below the next and so is the ticket that it waits on, adding has ended, and its session is within the limits
unfoldable pub slot_within : Header → Slot → Bool
slot_within h none = true
slot_within h (some c) =
    ltb c.number h.connection
    && (is_below (phase_ticket c.session.phase) h.ticket && (h.sealed && Session.well_formed c.session))

-- "Each name is kept in twenty octets, padded with NUL": "1 to 20 of A-Z, 0-9, "-", "_""
unfoldable pub mechanism_within : Mechanism → Bool
mechanism_within m = mechanism (before 0 m.name) && same m.name (padded (before 0 m.name))

abbrev pub same_name : Mechanism → Mechanism → Bool
same_name m n = same m.name n.name

unfoldable pub mechanisms_within : List Mechanism → Bool
mechanisms_within ms = leb (length ms) most_mechanisms && (every mechanism_within ms && apart same_name ms)

unfoldable pub slots_within : Header → List Slot → Bool
slots_within h xs = eqb (length xs) most_connections && (every (slot_within h) xs && (differ number_of xs && differ ticket_of xs))

unfoldable pub header_within : Header → Bool
header_within h = ltb h.connection number_bound && ltb h.ticket number_bound

unfoldable pub well_formed : Server → Bool
well_formed s = header_within s.header && (mechanisms_within s.mechanisms && slots_within s.header s.slots)

-- The tests of a well formed server, part by part. Assumes nothing.
use mathlib.Core.Path.{◌≡◌}
use mathlib.Core.Bool.{true, ◌&&◌}
use mathlib.Core.Option.{some}
use mathlib.Core.List.{List}
use Prim.Native.Nat.{◌<◌, ◌≤◌}
use lib.Dec.{leb, ltb, eqb}
use lib.ListN.{length}
use borrow.Author.Tests.{ltb-true, leb-true, eqb-true}
use Rattle.octets.specs.Lists.{every, same, before}
use Rattle.octets.proofs.Cases.{both}
use Rattle.octets.proofs.Words.{same_true}
use Rattle.lines.specs.Mechanism.{padded}
use Rattle.lines.specs.Mechanism as Lines
use Rattle.session.specs.WellFormed as Sessions
use Rattle.server.specs.Limits.{most_connections, most_mechanisms, number_bound}
use Rattle.server.specs.Server.{Slot, Server}
use Rattle.server.specs.WellFormed.{is_below, phase_ticket, differ, number_of, ticket_of, apart, same_name, slot_within, mechanism_within, mechanisms_within, slots_within, header_within, well_formed}
use Rattle.server.specs.declared.Connection.{Connection}
use Rattle.server.specs.declared.Header.{Header}
use Rattle.server.specs.declared.Mechanism.{Mechanism}

pub server-parts : (s : Server) → well_formed s ≡ true
    → (header_within s.header ≡ true) × (mechanisms_within s.mechanisms ≡ true) × (slots_within s.header s.slots ≡ true)
unfolding well_formed
server-parts s w =
    let a = both (header_within s.header) (mechanisms_within s.mechanisms && slots_within s.header s.slots) w in
    let b = both (mechanisms_within s.mechanisms) (slots_within s.header s.slots) a.1 in
    (a.0, b.0, b.1)

pub header-parts : (h : Header) → header_within h ≡ true → (h.connection < number_bound) × (h.ticket < number_bound)
unfolding header_within
header-parts h w =
    let a = both (ltb h.connection number_bound) (ltb h.ticket number_bound) w in
    (ltb-true h.connection number_bound a.0, ltb-true h.ticket number_bound a.1)

pub mechanisms-parts : (ms : List Mechanism) → mechanisms_within ms ≡ true
    → (length ms ≤ most_mechanisms) × (every mechanism_within ms ≡ true) × (apart same_name ms ≡ true)
unfolding mechanisms_within
mechanisms-parts ms w =
    let a = both (leb (length ms) most_mechanisms) (every mechanism_within ms && apart same_name ms) w in
    let b = both (every mechanism_within ms) (apart same_name ms) a.1 in
    (leb-true (length ms) most_mechanisms a.0, b.0, b.1)

pub mechanism-parts : (m : Mechanism) → mechanism_within m ≡ true → (Lines.mechanism (before 0 m.name) ≡ true) × (m.name ≡ padded (before 0 m.name))
unfolding mechanism_within
mechanism-parts m w =
    let n = before 0 m.name in
    let a = both (Lines.mechanism n) (same m.name (padded n)) w in
    (a.0, same_true m.name (padded n) a.1)

pub slots-parts : (h : Header) (xs : List Slot) → slots_within h xs ≡ true
    → (length xs ≡ most_connections) × (every (slot_within h) xs ≡ true) × (differ number_of xs ≡ true) × (differ ticket_of xs ≡ true)
unfolding slots_within
slots-parts h xs w =
    let a = both (eqb (length xs) most_connections) (every (slot_within h) xs && (differ number_of xs && differ ticket_of xs)) w in
    let b = both (every (slot_within h) xs) (differ number_of xs && differ ticket_of xs) a.1 in
    let c = both (differ number_of xs) (differ ticket_of xs) b.1 in
    (eqb-true (length xs) most_connections a.0, b.0, c.0, c.1)

pub connection-parts : (h : Header) (c : Connection) → slot_within h (some c) ≡ true
    → (c.number < h.connection)
    × (is_below (phase_ticket c.session.phase) h.ticket ≡ true)
    × (h.sealed ≡ true)
    × (Sessions.well_formed c.session ≡ true)
unfolding slot_within
connection-parts h c w =
    let below = is_below (phase_ticket c.session.phase) h.ticket in
    let fits = Sessions.well_formed c.session in
    let a = both (ltb c.number h.connection) (below && (h.sealed && fits)) w in
    let b = both below (h.sealed && fits) a.1 in
    let d = both h.sealed fits b.1 in
    (ltb-true c.number h.connection a.0, b.0, d.0, d.1)

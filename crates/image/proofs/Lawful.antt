-- The layouts of an image are lawful: each part takes its size, and a part that fits its octets comes back. Every part of a well formed server
-- does. Assumes nothing.
use mathlib.Core.Path.{◌≡◌, refl, ap, ◌∙◌}
use mathlib.Core.Bool.{Bool, true, false, cond, ◌&&◌}
use mathlib.Core.List.{List, []}
use mathlib.Core.Option.{none, some}
use Prim.Native.Nat.{ℕ, ◌<◌}
use native.Mathlib.Omega.{arith}
use lib.Dec.{lit<}
use lib.ListN.{length, get_or, replicate}
use borrow.Author.Tests.{ltb-true}
use Rattle.octets.specs.Lists.{every, same, before, padded_to}
use Rattle.octets.proofs.Cases.{both}
use Rattle.octets.proofs.Words.{same_true}
use Rattle.octets.proofs.Padded.{length-padded}
use Rattle.lines.proofs.Names.{padded-length}
use Rattle.codec.specs.Codec.{octet}
use Rattle.codec.proofs.Lawful.{Lawful, put_octet-length, get_octet_put, number-lawful, flag-lawful, mapped-lawful, pair-lawful, array_lawful, option-lawful, listed-lawful}
use Rattle.profile.specs.Numbers.{profile_number}
use Rattle.profile.specs.declared.Profile.{Profile}
use Rattle.profile.specs.declared.Profile.TheVariants.{Smtp, Pop3}
use Rattle.session.specs.Limits.{longest_name}
use Rattle.session.specs.Session.{signed_in, name_of}
use Rattle.session.specs.WellFormed.{name_within}
use Rattle.session.specs.Verdict.{is_name}
use Rattle.session.specs.declared.Phase.{Phase}
use Rattle.session.specs.declared.Phase.TheVariants.{Idle, SignedIn, Awaiting, Waiting}
use Rattle.session.specs.declared.Session.{Session}
use Rattle.server.specs.Limits.{most_connections, most_mechanisms, number_bound}
use Rattle.server.specs.Server.{Slot, Server}
use Rattle.server.specs.WellFormed.{is_below, phase_ticket, slot_within, mechanism_within, header_within, well_formed}
use Rattle.server.specs.declared.Connection.{Connection}
use Rattle.server.specs.declared.Header.{Header}
use Rattle.server.specs.declared.Mechanism.{Mechanism}
use Rattle.octets.proofs.Every.{every-all}
use Rattle.session.proofs.Laws.{session-parts}
use Rattle.server.proofs.Within.{server-parts, header-parts, mechanisms-parts, mechanism-parts, slots-parts, connection-parts}
use Rattle.image.specs.Layout.{profile_at, profile, phase_number, phase_sent, phase_waits, phase_at, phase, session, connection, slot, mechanism, header, server}

-- an octet comes back whatever it is
abbrev pub any-lawful : Lawful octet
any-lawful = record { Good = λ x. Unit {0}; put-length = put_octet-length; get-put = λ p x q at e h. get_octet_put p x q at e }

unfoldable pub profile-lawful : Lawful profile
unfolding profile
profile-lawful = mapped-lawful any-lawful profile_at profile_number

unfoldable pub phase-lawful : Lawful phase
unfolding phase
phase-lawful =
    mapped-lawful (pair-lawful any-lawful (pair-lawful any-lawful (number-lawful 8))) (λ (x, (k, t)). phase_at x k t)
    (λ p. (phase_number p, (phase_sent p, phase_waits p)))

unfoldable pub session-lawful : Lawful session
unfolding session
session-lawful =
    mapped-lawful
    (pair-lawful profile-lawful
    (pair-lawful flag-lawful (pair-lawful flag-lawful (pair-lawful flag-lawful (pair-lawful phase-lawful (array_lawful any-lawful longest_name))))))
    (λ (p, (b, (g, (x, (h, n))))). record { name = n; profile = p; protected = b; greeted = g; transaction = x; phase = h })
    (λ s. (s.profile, (s.protected, (s.greeted, (s.transaction, (s.phase, s.name))))))

unfoldable pub connection-lawful : Lawful connection
unfolding connection
connection-lawful =
    mapped-lawful (pair-lawful (number-lawful 8) session-lawful) (λ (n, s). record { session = s; number = n }) (λ c. (c.number, c.session))

unfoldable pub slot-lawful : Lawful slot
unfolding slot
slot-lawful = option-lawful connection-lawful

unfoldable pub mechanism-lawful : Lawful mechanism
unfolding mechanism
mechanism-lawful =
    mapped-lawful (pair-lawful (array_lawful any-lawful 20) (pair-lawful flag-lawful flag-lawful))
    (λ (n, (f, p)). record { name = n; client_first = f; needs_protection = p })
    (λ m. (m.name, (m.client_first, m.needs_protection)))

unfoldable pub header-lawful : Lawful header
unfolding header
header-lawful =
    mapped-lawful (pair-lawful (number-lawful 8) (pair-lawful (number-lawful 8) flag-lawful))
    (λ (c, (t, b)). record { connection = c; ticket = t; sealed = b }) (λ h. (h.connection, (h.ticket, h.sealed)))

unfoldable pub server-lawful : Lawful server
unfolding server
server-lawful =
    mapped-lawful (pair-lawful header-lawful (pair-lawful (listed-lawful mechanism-lawful most_mechanisms (lit< tt)) (array_lawful slot-lawful most_connections)))
    (λ (h, (m, x)). record { header = h; mechanisms = m; slots = x })
    (λ s. (s.header, (s.mechanisms, s.slots)))

-- ---- what is well formed is good

profile-good : (p : Profile) → profile-lawful.Good p
unfolding profile-lawful
profile-good Smtp = (tt, refl)
profile-good Pop3 = (tt, refl)

phase-good : (p : Phase) (t : ℕ) → is_below (phase_ticket p) t ≡ true → t < number_bound → phase-lawful.Good p
unfolding phase-lawful
phase-good Idle t e h = ((tt, (tt, lit< tt)), refl)
phase-good SignedIn t e h = ((tt, (tt, lit< tt)), refl)
phase-good (Awaiting k) t e h = ((tt, (tt, lit< tt)), refl)
phase-good (Waiting u k) t e h = let b = ltb-true u t e in ((tt, (tt, omega arith)), refl)

pub name-length : (s : Session) → name_within s ≡ true → length s.name ≡ longest_name
unfolding name_within
name-length s e = go (signed_in s.phase) e
  where
    go : (b : Bool) → cond b (is_name (name_of s) && same s.name (padded_to longest_name (name_of s))) (same s.name (replicate longest_name 0)) ≡ true
        → length s.name ≡ longest_name
    go true h =
        ap length (same_true s.name (padded_to longest_name (name_of s)) (both (is_name (name_of s)) (same s.name (padded_to longest_name (name_of s))) h).1)
        ∙ length-padded longest_name (name_of s)
    go false h = ap length (same_true s.name (replicate longest_name 0) h)

connection-good : (h : Header) (c : Connection) → header_within h ≡ true → slot_within h (some c) ≡ true → connection-lawful.Good c
unfolding connection-lawful session-lawful
connection-good h c e w =
    let n = header-parts h e in
    let k = connection-parts h c w in (
      (
        omega (arith, n.0, k.0),
        (
          (
            profile-good c.session.profile,
            (tt, (tt, (tt, (phase-good c.session.phase h.ticket k.1 n.1, (name-length c.session (session-parts c.session k.3).1, λ i b. tt))))),
          ),
          refl,
        ),
      ),
      refl,
    )

slot-good : (h : Header) (x : Slot) → header_within h ≡ true → slot_within h x ≡ true → slot-lawful.Good x
unfolding slot-lawful
slot-good h none e w = tt
slot-good h (some c) e w = connection-good h c e w

pub mechanism-length : (m : Mechanism) → mechanism_within m ≡ true → length m.name ≡ 20
mechanism-length m w = ap length (mechanism-parts m w).1 ∙ padded-length (before 0 m.name)

mechanism-good : (m : Mechanism) → mechanism_within m ≡ true → mechanism-lawful.Good m
unfolding mechanism-lawful
mechanism-good m w = (((mechanism-length m w, λ i b. tt), (tt, tt)), refl)

header-good : (h : Header) → header_within h ≡ true → header-lawful.Good h
unfolding header-lawful
header-good h w = let n = header-parts h w in ((n.0, (n.1, tt)), refl)

-- each element of a list that passes a test is what the test says
pub every-each : {A : Type 0} (p : A → Bool) (P : A → Type 0) → ((x : A) → p x ≡ true → P x) → (xs : List A) (d : A) → every p xs ≡ true
    → (i : ℕ) → i < length xs → P (get_or xs i d)
every-each p P f xs d e i h = f (get_or xs i d) (every-all p xs d e i h)

pub server-good : (s : Server) → well_formed s ≡ true → server-lawful.Good s
unfolding server-lawful
server-good s w =
    let k = server-parts s w in
    let m = mechanisms-parts s.mechanisms k.1 in
    let x = slots-parts s.header s.slots k.2 in
    let named = every-each mechanism_within mechanism-lawful.Good mechanism-good s.mechanisms (mechanism.get [] 0) m.1 in
    let held = every-each (slot_within s.header) slot-lawful.Good (λ y. slot-good s.header y k.0) s.slots (slot.get [] 0) x.1 in
    ((header-good s.header k.0, ((m.0, named), (x.0, λ i h. held i (omega (arith, x.0))))), refl)

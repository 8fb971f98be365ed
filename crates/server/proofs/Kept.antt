-- Every call that is not refused leaves a well-formed server. Assumes nothing.
use mathlib.Core.Path.{◌≡◌, refl, ap, ◌∙◌}
use mathlib.Core.Bool.{Bool, true, false, not, true≢false}
use mathlib.Core.List.{List, [], ◌∷◌, ◌++◌}
use mathlib.Core.Option.{Option, none, some}
use Prim.Native.Nat.{ℕ, ◌+◌, ◌<◌, ◌≤◌}
use native.Mathlib.Omega.{arith}
use lib.Dec.{eqb}
use lib.ListN.{length, length-append}
use borrow.Author.Tests.{ltb-true, lt-ltb, le-leb, eq-eqb}
use Rattle.octets.specs.Lists.{every, same}
use Rattle.octets.proofs.Cases.{both}
use Rattle.octets.proofs.Every.{unpadded}
use Rattle.octets.proofs.Words.{same_refl}
use Rattle.lines.specs.Mechanism.{mech_char, mechanism, padded}
use Rattle.session.specs.WellFormed as Sessions
use Rattle.session.specs.View.{view}
use Rattle.session.specs.Octets.{mechanism_text}
use Rattle.session.specs.Verdict.{after_verdict}
use Rattle.session.specs.MailEnded.{after_mail}
use Rattle.session.specs.Limits.{unissued}
use Rattle.session.specs.declared.Stepped.{Stepped}
use Rattle.session.proofs.Laws.{line-within, verdict-within, mail-within, opened-within}
use Rattle.profile.specs.declared.Profile.{Profile}
use Rattle.server.specs.declared.Connection.{Connection}
use Rattle.server.specs.declared.Header.{Header}
use Rattle.server.specs.declared.Mechanism.{Mechanism}
use Rattle.server.specs.Add.{kept}
use Rattle.server.specs.Limits.{most_connections, most_mechanisms, number_bound}
use Rattle.server.specs.Line.{issues, with_session, line_step}
use Rattle.server.specs.Make.{made, fresh}
use Rattle.server.specs.Mechanisms.{offered, is_present}
use Rattle.server.specs.Open as Open
use Rattle.server.specs.Outcome.{Result, is_yes}
use Rattle.server.specs.Requests.{Request, Sized}
use Rattle.server.specs.Server.{Slot, Server}
use Rattle.server.specs.Slots.{is_numbered, is_waiting, is_free, holding, found, replaced}
use Rattle.server.specs.WellFormed.{number_of, ticket_of, phase_ticket, is_below, apart, differ, slot_within, mechanism_within, same_name, mechanisms_within, slots_within, header_within, well_formed}
use Rattle.server.proofs.Within.{server-parts, header-parts, mechanisms-parts, slots-parts, connection-parts}
use Rattle.server.proofs.Slots as Slots
use Rattle.server.proofs.Slots.{first, found_first, free-first, length-replaced, every_first, every-replaced, every-imp, every-replicate, Rekeyed, differ-replaced, differ-free, found_number}
use Rattle.server.proofs.Issues.{query_ticket, Issues, line-ticket, verdict-ticket, line-issues, verdict-issues, header-issued, next-number}
use Rattle.server.proofs.Moves.{Moves}

-- ---- the parts of the test

pub record Parts (s : Server) : Type 0 where
  pub header : header_within s.header ≡ true
  pub mechanisms : mechanisms_within s.mechanisms ≡ true
  pub size : length s.slots ≡ most_connections
  pub each : every (slot_within s.header) s.slots ≡ true
  pub numbers : differ number_of s.slots ≡ true
  pub tickets : differ ticket_of s.slots ≡ true

pub parts : (s : Server) → well_formed s ≡ true → Parts s
parts s w =
    let p = server-parts s w in
    let x = slots-parts s.header s.slots p.2 in
    record { header = p.0; mechanisms = p.1; size = x.0; each = x.1; numbers = x.2; tickets = x.3 }

pub whole : (s : Server) → Parts s → well_formed s ≡ true
unfolding well_formed slots_within
whole s p = rw (p.header, p.mechanisms, eq-eqb (length s.slots) most_connections p.size, p.each, p.numbers, p.tickets)

-- ---- the fields of a slot that is occupied

pub record Occupied (h : Header) (c : Connection) : Type 0 where
  pub number : c.number < h.connection
  pub ticket : is_below (phase_ticket c.session.phase) h.ticket ≡ true
  pub sealed : h.sealed ≡ true
  pub session : Sessions.well_formed c.session ≡ true

pub slot-open : (h : Header) (c : Connection) → slot_within h (some c) ≡ true → Occupied h c
slot-open h c w = let p = connection-parts h c w in record { number = p.0; ticket = p.1; sealed = p.2; session = p.3 }

pub open-slot : (h : Header) (c : Connection) → Occupied h c → slot_within h (some c) ≡ true
unfolding slot_within
open-slot h c o = rw (lt-ltb c.number h.connection o.number, o.ticket, o.sealed, o.session)

-- a header that has issued more
pub record Wider (h g : Header) : Type 0 where
  pub connection : h.connection ≤ g.connection
  pub ticket : h.ticket ≤ g.ticket
  pub sealed : h.sealed ≡ true → g.sealed ≡ true

below_wider : (k : Option ℕ) (a b : ℕ) → a ≤ b → is_below k a ≡ true → is_below k b ≡ true
below_wider none a b h e = refl
below_wider (some n) a b h e = let l = ltb-true n a e in lt-ltb n b (omega arith)

slot-wider : (h g : Header) → Wider h g → (x : Slot) → slot_within h x ≡ true → slot_within g x ≡ true
slot-wider h g w none e = unfold slot_within in refl
slot-wider h g w (some c) e =
    let o = slot-open h c e in
    let n = o.number in
    let m = w.connection in
    open-slot g c
    (record {
      number = omega arith;
      ticket = below_wider (phase_ticket c.session.phase) h.ticket g.ticket w.ticket o.ticket;
      sealed = w.sealed o.sealed;
      session = o.session;
    })

slot-number : (h : Header) (x : Slot) → slot_within h x ≡ true → is_below (number_of x) h.connection ≡ true
slot-number h none e = refl
slot-number h (some c) e = let n = (slot-open h c e).number in lt-ltb c.number h.connection n

slot-ticket : (h : Header) (x : Slot) → slot_within h x ≡ true → is_below (ticket_of x) h.ticket ≡ true
slot-ticket h none e = refl
slot-ticket h (some c) e = (slot-open h c e).ticket

pub numbers-below : (h : Header) (xs : List Slot) → every (slot_within h) xs ≡ true → every (λ x. is_below (number_of x) h.connection) xs ≡ true
numbers-below h xs e = every-imp (slot_within h) (λ x. is_below (number_of x) h.connection) (slot-number h) xs e

pub tickets-below : (h : Header) (xs : List Slot) → every (slot_within h) xs ≡ true → every (λ x. is_below (ticket_of x) h.ticket) xs ≡ true
tickets-below h xs e = every-imp (slot_within h) (λ x. is_below (ticket_of x) h.ticket) (slot-ticket h) xs e

-- ---- a slot replaced

module _ (s : Server) (w : Parts s) (p : Slot → Bool) (y z : Slot) (f : first p s.slots ≡ some z) where
  replaced-within : (g : Header) → header_within g ≡ true → Wider s.header g → slot_within g y ≡ true
      → Rekeyed s.header.connection (number_of z) (number_of y) → Rekeyed s.header.ticket (ticket_of z) (ticket_of y)
      → well_formed (record { header = g; mechanisms = s.mechanisms; slots = replaced p y s.slots }) ≡ true
  replaced-within g v x o n t =
      whole (record { header = g; mechanisms = s.mechanisms; slots = replaced p y s.slots })
      (record {
        header = v;
        mechanisms = w.mechanisms;
        size = length-replaced p y s.slots ∙ w.size;
        each = every-replaced (slot_within g) p y s.slots (every-imp (slot_within s.header) (slot_within g) (slot-wider s.header g x) s.slots w.each) o;
        numbers = differ-replaced number_of s.header.connection p y z s.slots f n (numbers-below s.header s.slots w.each) w.numbers;
        tickets = differ-replaced ticket_of s.header.ticket p y z s.slots f t (tickets-below s.header s.slots w.each) w.tickets;
      })

same-header : (h : Header) → Wider h h
same-header h = record { connection = omega arith; ticket = omega arith; sealed = λ e. e }

-- the connection found, with another session: t the session's next ticket
pub found-open : (s : Server) → Parts s → (q : Connection → Bool) (c : Connection) → found q s.slots ≡ some c → Occupied s.header c
found-open s w q c e = slot-open s.header c (every_first (slot_within s.header) (holding q) (some c) s.slots (found_first q c s.slots e) w.each)

session-within : (s : Server) → Parts s → (p : Slot → Bool) (c : Connection) → first p s.slots ≡ some (some c) → Occupied s.header c
    → (t : Stepped) → Issues s.header.ticket t.answer → phase_ticket t.session.phase ≡ query_ticket t.answer
    → Sessions.well_formed t.session ≡ true → well_formed (with_session s p c t) ≡ true
session-within s w p c f o t i e v =
    let h = header-issued s.header t.answer i w.header in
    replaced-within s w p (some (record { session = t.session; number = c.number })) (some c) f (issues t.answer s.header) h.within
    (record { connection = omega arith; ticket = h.grows; sealed = λ z. z })
    (open-slot (issues t.answer s.header) (record { session = t.session; number = c.number })
    (record { number = o.number; ticket = ap (λ (k : Option ℕ). is_below k (issues t.answer s.header).ticket) e ∙ h.below; sealed = o.sealed; session = v }))
    Slots.kept (rw e (h.rekeyed (ticket_of (some c))))

-- ---- mechanisms

absent-each : (ms : List Mechanism) (n : List ℕ) → is_present (offered ms n) ≡ false → every (λ m. not (same m.name n)) ms ≡ true
unfolding offered every
absent-each [] n e = refl
absent-each (m ∷ ms) n e = go (same m.name n) refl (absent-each ms n)
  where
    go : (b : Bool) → same m.name n ≡ b → (is_present (offered ms n) ≡ false → every (λ m. not (same m.name n)) ms ≡ true)
        → every (λ m. not (same m.name n)) (m ∷ ms) ≡ true
    go true h ih = let r : true ≡ false = rw h at e in absurd (true≢false r)
    go false h ih = rw (h, ih (rw h at e))

every-last : {A : Type 0} (f : A → Bool) (xs : List A) (y : A) → every f xs ≡ true → f y ≡ true → every f (xs ++ (y ∷ [])) ≡ true
unfolding every
every-last f [] y e h = rw h
every-last f (x ∷ xs) y e h = let w = both (f x) (every f xs) e in rw (w.0, every-last f xs y w.1 h)

apart-last : {A : Type 0} (clash : A → A → Bool) (xs : List A) (y : A) → apart clash xs ≡ true → every (λ x. not (clash x y)) xs ≡ true → apart clash (xs ++ (y ∷ [])) ≡ true
unfolding apart every
apart-last clash [] y e h = refl
apart-last clash (x ∷ xs) y e h =
    let a = both (every (λ z. not (clash x z)) xs) (apart clash xs) e in
    let b = both (not (clash x y)) (every (λ z. not (clash z y)) xs) h in
    rw (every-last (λ z. not (clash x z)) xs y a.0 b.0, apart-last clash xs y a.1 b.1)

kept-within : (n : List ℕ) (f p : ℕ) → mechanism n ≡ true → mechanism_within (kept n f p) ≡ true
unfolding mechanism_within padded
kept-within n f p e = rw (unpadded 20 mech_char n refl e, e) (same_refl _)

mechanisms-within : (ms : List Mechanism) (n : List ℕ) (f p : ℕ) → mechanisms_within ms ≡ true → mechanism n ≡ true → is_present (offered ms (padded n)) ≡ false
    → length ms < most_mechanisms → mechanisms_within (ms ++ (kept n f p ∷ [])) ≡ true
unfolding mechanisms_within
mechanisms-within ms n f p w e a l =
    let c = mechanisms-parts ms w in
    let k : length (ms ++ (kept n f p ∷ [])) ≤ most_mechanisms = rw length-append (omega arith) in
    rw (le-leb (length (ms ++ (kept n f p ∷ []))) most_mechanisms k, every-last mechanism_within ms (kept n f p) c.1 (kept-within n f p e))
    (apart-last same_name ms (kept n f p) c.2 (absent-each ms (padded n) a))

-- ---- each call

pub fresh-within : (c t : ℕ) → c < number_bound → t < number_bound → well_formed (fresh c t) ≡ true
unfolding fresh header_within mechanisms_within every apart
fresh-within c t a b =
    whole (fresh c t)
    (record {
      header = rw (lt-ltb c number_bound a, lt-ltb t number_bound b);
      mechanisms = refl;
      size = refl;
      each = every-replicate (slot_within (made c t)) none most_connections (unfold slot_within in refl);
      numbers = differ-free number_of refl most_connections;
      tickets = differ-free ticket_of refl most_connections;
    })

-- the slot of the connection found, by its own number
pub own_first : (n : ℕ) (c : Connection) (xs : List Slot) → found (is_numbered n) xs ≡ some c → first (holding (is_numbered c.number)) xs ≡ some (some c)
own_first n c xs e = ap (λ (k : ℕ). first (holding (is_numbered k)) xs) (found_number n c xs e) ∙ found_first (is_numbered n) c xs e

entered-open : (h : Header) (p : Profile) (b : Bool) → Occupied (Open.opens h) (Open.entered h p b)
entered-open h p b = record { number = omega arith; ticket = refl; sealed = refl; session = opened-within p b }

opened-header : (h : Header) → eqb h.connection unissued ≡ false → header_within h ≡ true → header_within (Open.opens h) ≡ true
unfolding header_within
opened-header h e w =
    let b = header-parts h w in
    rw (lt-ltb (h.connection + 1) number_bound (next-number h.connection b.0 e), lt-ltb h.ticket number_bound b.1)

pub within : {s : Server} {r : Request} {a : Result} {z : Server} → Moves s r a z → well_formed s ≡ true → Sized r → well_formed z ≡ true
within (Moves.makes c t) w k = fresh-within c t k.0 k.1
within {s} (Moves.adds n f p e a l) w k =
    let q = parts s w in
    whole (record { header = s.header; mechanisms = s.mechanisms ++ (kept n f p ∷ []); slots = s.slots })
    (record {
      header = q.header;
      mechanisms = mechanisms-within s.mechanisms n f p q.mechanisms e a l;
      size = q.size;
      each = q.each;
      numbers = q.numbers;
      tickets = q.tickets;
    })
within {s} (Moves.opens j b p f e) w k =
    let q = parts s w in
    replaced-within s q is_free _ none (free-first s.slots f) (Open.opens s.header) (opened-header s.header e q.header)
    (record { connection = omega arith; ticket = omega arith; sealed = λ z. refl })
    (open-slot (Open.opens s.header) (Open.entered s.header p (is_yes b)) (entered-open s.header p (is_yes b)))
    Slots.issued Slots.kept
within {s} (Moves.steps n l c f e) w k =
    let q = parts s w in
    let o = offered s.mechanisms (padded (mechanism_text (view c.session l) l)) in
    let x = found-open s q (is_numbered n) c f in
    session-within s q (holding (is_numbered c.number)) c (own_first n c s.slots f) x (line_step s c l)
    (line-issues l c.session o s.header.ticket) (line-ticket c.session (view c.session l) o s.header.ticket e)
    (line-within c.session (view c.session l) o s.header.ticket x.session)
within {s} (Moves.judges t j d c v g f e) w k =
    let q = parts s w in
    let x = found-open s q (is_waiting t) c f in
    session-within s q (holding (is_waiting t)) c (found_first (is_waiting t) c s.slots f) x (after_verdict c.session t v d)
    (verdict-issues c.session t s.header.ticket v d e) (verdict-ticket c.session t v d e) (verdict-within c.session t v d x.session)
within {s} (Moves.ends n c f) w k =
    let q = parts s w in
    let x = found-open s q (is_numbered n) c f in
    replaced-within s q (holding (is_numbered c.number)) _ (some c) (own_first n c s.slots f) s.header q.header (same-header s.header)
    (open-slot s.header (record { session = after_mail c.session; number = c.number })
    (record { number = x.number; ticket = x.ticket; sealed = x.sealed; session = mail-within c.session x.session }))
    Slots.kept Slots.kept
within (Moves.tells n c f) w k = w
within {s} (Moves.closes n c f) w k =
    let q = parts s w in
    replaced-within s q (holding (is_numbered c.number)) _ (some c) (own_first n c s.slots f) s.header q.header (same-header s.header)
    (unfold slot_within in refl) Slots.dropped Slots.dropped

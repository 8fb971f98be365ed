-- What a call that is not refused does to a connection, as far as its ticket and its name go. Assumes nothing.
use Rattle.std.specs.Prelude as Rust
use Rattle.std.specs.Prelude.{Some, None, Ok, Err}
use mathlib.Core.Path.{◌≡◌, refl, sym, ap, ◌∙◌, subst}
use mathlib.Core.Bool.{Bool, true, false, cond, ◌&&◌, false≢true}
use mathlib.Core.List.{List}
use mathlib.Core.Option.{Option, none, some, none-ne-some}
use Prim.Native.Nat.{ℕ}
use lib.Dec.{eqb}
use borrow.Author.Tests.{eqb-true, not-false}
use Rattle.octets.proofs.Cases.{both, picked}
use Rattle.lines.specs.Mechanism.{padded}
use Rattle.profile.specs.Numbers.{verdict_number, verdict_of}
use Rattle.profile.specs.declared.numbers.Refusal.{Refusal}
use Rattle.profile.specs.declared.numbers.Verdict.{Verdict}
use Rattle.profile.specs.declared.numbers.Verdict.TheVariants as Verdicts
use Rattle.session.specs.MailEnded.{after_mail}
use Rattle.session.specs.Named.{bears, waits_on, is_success, grants}
use Rattle.session.specs.Octets.{mechanism_text}
use Rattle.session.specs.Session.{signed_in, name_of}
use Rattle.session.specs.Standing.{is_heard, is_refused}
use Rattle.session.specs.Verdict.{is_name, given, after_verdict}
use Rattle.session.specs.View.{view}
use Rattle.session.specs.declared.Phase.{Phase}
use Rattle.session.specs.declared.Phase.TheVariants as Phases
use Rattle.session.specs.declared.Session.{Session}
use Rattle.session.specs.declared.answer.Answer.{Answer}
use Rattle.session.specs.declared.answer.Answer.TheVariants as Answers
use Rattle.session.specs.declared.view.Offer.{Offer}
use Rattle.session.proofs.Laws.{line-bears, verdict-bears, verdict-refuses, mail-bears}
use Rattle.server.specs.Limits.{most_connections}
use Rattle.server.specs.Line.{line_step, line_gives}
use Rattle.server.specs.Make.{fresh}
use Rattle.server.specs.Mechanisms.{offered}
use Rattle.server.specs.Open.{entered}
use Rattle.server.specs.Outcome.{Result, done, opened, answered, is_yes}
use Rattle.server.specs.Requests as Requests
use Rattle.server.specs.Requests.{Request}
use Rattle.server.specs.Server.{Slot, Server}
use Rattle.server.specs.Slots.{is_numbered, is_waiting, holding, found, replaced}
use Rattle.server.specs.Verdict.{verdict_gives}
use Rattle.server.specs.WellFormed.{number_of, phase_ticket, has, well_formed}
use Rattle.server.specs.declared.Connection.{Connection}
use Rattle.server.proofs.Issues.{query_ticket, line-ticket, verdict-ticket, verdict-heard-one}
use Rattle.server.proofs.Kept.{parts, numbers-below}
use Rattle.server.proofs.Moves.{Moves}
use Rattle.server.proofs.Slots.{found_waits, found_number, found-own, found-waits, waits-has, find-close, find-opened, find-ticket, none-next}
use Rattle.claims.specs.Told.{made}
use Rattle.claims.specs.Names.{ends}
use Rattle.claims.proofs.Follows.{found-free, find-own}

-- ---- a connection

-- of one that is open: the ticket that it waits on, and whom it bears
pub record Held : Type 0 where
  pub ticket : Option ℕ
  pub name : Option (List ℕ)

abbrev pub held : Option ℕ → Option (List ℕ) → Held
held t n = record { ticket = t; name = n }

abbrev pub held_by : Option Connection → Option Held
held_by none = none
held_by (some c) = some (held (phase_ticket c.session.phase) (bears c.session))

abbrev pub held_at : Server → ℕ → Option Held
held_at s n = held_by (found (is_numbered n) s.slots)

abbrev pub held_ticket : Option Held → Option ℕ
held_ticket none = none
held_ticket (some x) = x.ticket

abbrev pub held_name : Option Held → Option (List ℕ)
held_name none = none
held_name (some x) = x.name

-- a verdict on its ticket
abbrev pub is_judged : Request → Option Held → Bool
is_judged (Requests.make c t) x = false
is_judged (Requests.add n f p) x = false
is_judged (Requests.opens p b) x = false
is_judged (Requests.line n l) x = false
is_judged (Requests.verdict t v d) x = has (held_ticket x) t
is_judged (Requests.mail_ended n) x = false
is_judged (Requests.who n) x = false
is_judged (Requests.close n) x = false

-- connection n before and after a call; it keeps all where the call ends nothing of it and is no verdict on its ticket
pub data Turns (n : ℕ) : Request → Result → Option Held → Option Held → Type 0 where
  keeps : {q : Request} {a : Result} {x : Option Held} → ends (made q a) n ≡ false → is_judged q x ≡ false → Turns n q a x x
  makes : {c t : ℕ} {x : Option Held} → Turns n (Requests.make c t) done x none
  opens : {p b : ℕ} {x : Option Held} → Turns n (Requests.opens p b) (opened n) x (some (held none none))
  steps : {l h x : List ℕ} {a : Answer} {t : Option ℕ} {b : Option (List ℕ)}
      → Turns n (Requests.line n l) (answered a h x) (some (held t b)) (some (held (query_ticket a) b))
  judges : {t k : ℕ} {d h x : List ℕ} {a : Answer}
      → Turns n (Requests.verdict t k d) (answered a h x) (some (held (some t) none))
      (some (held none (cond (eqb k (verdict_number Verdicts.Success)) (some d) none)))
  closes : {x : Option Held} → Turns n (Requests.close n) done x none

-- ---- what is found

waits-held : (t : ℕ) (x : Option Connection) → found_waits t x ≡ has (held_ticket (held_by x)) t
waits-held t none = refl
waits-held t (some c) = waits-has t c.session.phase

-- nobody is signed in who waits on a ticket
waiting-held : (t : ℕ) (x : Option Connection) → found_waits t x ≡ true → held_by x ≡ some (held (some t) none)
waiting-held t none e = absurd (false≢true e)
waiting-held t (some c) e = go c.session.phase (name_of c.session) e
  where
    go : (p : Phase) (n : List ℕ) → waits_on t p ≡ true → some (held (phase_ticket p) (cond (signed_in p) (some n) none)) ≡ some (held (some t) none)
    go Phases.Idle n h = absurd (false≢true h)
    go Phases.SignedIn n h = absurd (false≢true h)
    go (Phases.Awaiting k) n h = absurd (false≢true h)
    go (Phases.Waiting u k) n h = ap (λ (j : ℕ). some (held (some j) none)) (eqb-true u t h)

-- a connection that waits on a ticket
pub record Waited (s : Server) (t : ℕ) : Type 0 where
  pub number : ℕ
  pub waits : held_ticket (held_at s number) ≡ some t

pub found-held : (t : ℕ) (c : Connection) (s : Server) → well_formed s ≡ true → found (is_waiting t) s.slots ≡ some c → Waited s t
found-held t c s w f =
    record {
      number = c.number;
      waits =
          ap (λ (x : Option Connection). held_ticket (held_by x)) (found-own (is_waiting t) c s.slots f (parts s w).numbers)
          ∙ ap held_ticket (waiting-held t (some c) (found-waits t c s.slots f));
    }

-- a verdict that is not refused is on a ticket that a connection waits on
pub waited : {s : Server} {t k : ℕ} {d : List ℕ} {a : Result} {z : Server} → Moves s (Requests.verdict t k d) a z → well_formed s ≡ true → Waited s t
waited {s} (Moves.judges t k d c v g f e) w = found-held t c s w f

-- ---- a verdict

abbrev is_grant : Rust.Result Verdict Refusal → Bool
is_grant (Ok v) = is_success v
is_grant (Err r) = false

success_number : (k : ℕ) → is_grant (verdict_of k) ≡ eqb k (verdict_number Verdicts.Success)
success_number k = go (eqb k 1) refl
  where
    Not : Rust.Result Verdict Refusal → Type 0
    Not v = is_grant v ≡ false

    go : (b : Bool) → eqb k 1 ≡ b → is_grant (verdict_of k) ≡ b
    go true h = ap (λ (j : ℕ). is_grant (verdict_of j)) (eqb-true k 1 h)
    go false h =
        rw h
        (picked Not (eqb k 0) _ _ refl
        (picked Not (eqb k 2) _ _ refl (picked Not (eqb k 3) _ _ refl (picked Not (eqb k 4) _ _ refl (picked Not (eqb k 5) _ _ refl refl)))))

-- who is borne after a verdict that is not refused
judged-bears : (s : Session) (t k : ℕ) (v : Verdict) (d : List ℕ) → verdict_of k ≡ Ok v → waits_on t s.phase ≡ true → bears s ≡ none
    → is_refused (after_verdict s t v d).answer ≡ false → bears (after_verdict s t v d).session ≡ cond (eqb k (verdict_number Verdicts.Success)) (some d) none
unfolding grants
judged-bears s t k v d g w b e =
    verdict-bears s t v d
    ∙ rw (w, b) (go v (both (waits_on t s.phase) (given v d) (not-false (waits_on t s.phase && given v d) (sym (verdict-refuses s t v d) ∙ e))).1)
    ∙ ap (λ (x : Bool). cond x (some d) none) (sym (ap is_grant g) ∙ success_number k)
  where
    go : (v : Verdict) → given v d ≡ true → cond (is_success v && is_name d) (some d) none ≡ cond (is_success v) (some d) none
    go Verdicts.Challenge h = refl
    go Verdicts.Success h = rw h refl
    go Verdicts.Rejected h = refl
    go Verdicts.Temporary h = refl
    go Verdicts.Transition h = refl
    go Verdicts.Weak h = refl

heard_ticketless : (a : Answer) → is_heard a ≡ true → query_ticket a ≡ none
heard_ticketless (Answers.Refused r) e = refl
heard_ticketless (Answers.Forward i n) e = refl
heard_ticketless (Answers.Query t b n) e = absurd (false≢true e)
heard_ticketless (Answers.Reply r) e = refl
heard_ticketless Answers.EmptyChallenge e = refl
heard_ticketless Answers.Challenge e = refl

-- the answers that issue a ticket
pub data Queries (t : ℕ) : Answer → Type 0 where
  queries : {b : Bool} {k : ℕ} → Queries t (Answers.Query t b k)

pub queried : (t : ℕ) (a : Answer) → query_ticket a ≡ some t → Queries t a
queried t (Answers.Refused r) e = absurd (none-ne-some t e)
queried t (Answers.Forward i n) e = absurd (none-ne-some t e)
queried t (Answers.Query u b n) e = let z : u ≡ t = cc in rw z queries
queried t (Answers.Reply r) e = absurd (none-ne-some t e)
queried t Answers.EmptyChallenge e = absurd (none-ne-some t e)
queried t Answers.Challenge e = absurd (none-ne-some t e)

-- ---- each call

becomes : {n : ℕ} {q : Request} {a : Result} {x : Option Held} {y z : Option Connection} → z ≡ y → Turns n q a x (held_by y) → Turns n q a x (held_by z)
becomes {n} {q} {a} {x} e t = subst (λ c. Turns n q a x (held_by c)) (sym e) t

found_as : (m n : ℕ) (c : Connection) (xs : List Slot) → found (is_numbered m) xs ≡ some c → m ≡ n → found (is_numbered n) xs ≡ some c
found_as m n c xs f e = ap (λ (k : ℕ). found (is_numbered k) xs) (sym e) ∙ f

pub fresh-held : (c t n : ℕ) → held_at (fresh c t) n ≡ none
unfolding fresh
fresh-held c t n = ap held_by (found-free (is_numbered n) most_connections)

pub turns : {s z : Server} {q : Request} {a : Result} → Moves s q a z → well_formed s ≡ true → (n : ℕ) → Turns n q a (held_at s n) (held_at z n)
turns (Moves.makes c t) w n = rw (fresh-held c t n) makes
turns (Moves.adds m f p e a l) w n = keeps refl refl
turns {s} (Moves.opens j b p f e) w n =
    becomes
    (find-opened k n y s.slots f (none-next number_of k s.slots (numbers-below s.header s.slots (parts s w).each)) refl)
    (go (eqb k n) refl)
  where
    k : ℕ
    k = s.header.connection

    y : Connection
    y = entered s.header p (is_yes b)

    go : (x : Bool) → eqb k n ≡ x → Turns n (Requests.opens j b) (opened k) (held_at s n) (held_by (cond x (some y) (found (is_numbered n) s.slots)))
    go true h = rw (eqb-true k n h) opens
    go false h = keeps h refl
turns {s} (Moves.steps m l c f e) w n = becomes (find-own m n y c s.slots f refl) (go (eqb m n) refl)
  where
    y : Connection
    y = record { session = (line_step s c l).session; number = c.number }

    o : Rust.Option Offer
    o = offered s.mechanisms (padded (mechanism_text (view c.session l) l))

    go : (x : Bool) → eqb m n ≡ x
        → Turns n (Requests.line m l) (line_gives c l (line_step s c l)) (held_at s n) (held_by (cond x (some y) (found (is_numbered n) s.slots)))
    go true h =
        let i = eqb-true m n h in
        let t = line-ticket c.session (view c.session l) o s.header.ticket e in
        let b = line-bears c.session (view c.session l) o s.header.ticket in
        rw (found_as m n c s.slots f i, t, b, i) steps
    go false h = keeps refl refl
turns {s} (Moves.judges t k d c v g f e) w n =
    becomes (find-ticket t n y c s.slots f refl (parts s w).tickets) (go (found_waits t (found (is_numbered n) s.slots)) refl)
  where
    y : Connection
    y = record { session = (after_verdict c.session t v d).session; number = c.number }

    go : (x : Bool) → found_waits t (found (is_numbered n) s.slots) ≡ x
        → Turns n (Requests.verdict t k d) (verdict_gives c d (after_verdict c.session t v d)) (held_at s n)
        (held_by (cond x (some y) (found (is_numbered n) s.slots)))
    go true h =
        let i = found-waits t c s.slots f in
        let b : bears c.session ≡ none = ap held_name (waiting-held t (some c) i) in
        let u : phase_ticket y.session.phase ≡ none =
        verdict-ticket c.session t v d e ∙ heard_ticketless (after_verdict c.session t v d).answer (verdict-heard-one c.session t v d e) in
        rw (waiting-held t (found (is_numbered n) s.slots) h, u, judged-bears c.session t k v d g i b e) judges
    go false h = keeps refl (sym (waits-held t (found (is_numbered n) s.slots)) ∙ h)
turns {s} (Moves.ends m c f) w n = becomes (find-own m n y c s.slots f refl) (go (eqb m n) refl)
  where
    y : Connection
    y = record { session = after_mail c.session; number = c.number }

    go : (x : Bool) → eqb m n ≡ x → Turns n (Requests.mail_ended m) done (held_at s n) (held_by (cond x (some y) (found (is_numbered n) s.slots)))
    go true h = rw (found_as m n c s.slots f (eqb-true m n h), mail-bears c.session) (keeps refl refl)
    go false h = keeps refl refl
turns (Moves.tells m c f) w n = keeps refl refl
turns {s} (Moves.closes m c f) w n =
    becomes
    (ap (λ (k : ℕ). found (is_numbered n) (replaced (holding (is_numbered k)) none s.slots)) (found_number m c s.slots f)
    ∙ find-close m n c s.slots f (parts s w).numbers)
    (go (eqb m n) refl)
  where
    go : (x : Bool) → eqb m n ≡ x → Turns n (Requests.close m) done (held_at s n) (held_by (cond x none (found (is_numbered n) s.slots)))
    go true h = rw (eqb-true m n h) closes
    go false h = keeps h refl

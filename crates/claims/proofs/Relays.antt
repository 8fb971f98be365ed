-- What a MAIL is passed on with. Assumes nothing.
use Rattle.std.specs.Prelude as Rust
use Rattle.std.specs.Prelude.{Some, None, Ok, Err}
use mathlib.Core.Path.{◌≡◌, refl, sym, ap, ◌∙◌}
use mathlib.Core.Bool.{Bool, true, false, cond}
use mathlib.Core.List.{List, []}
use mathlib.Core.Option.{Option, none, some}
use Prim.Native.Nat.{ℕ}
use native.Mathlib.Omega.{arith}
use Rattle.profile.specs.declared.numbers.Identity.{Identity}
use Rattle.profile.specs.declared.numbers.Refusal.TheVariants as Refusals
use Rattle.lines.specs.Mechanism.{padded}
use Rattle.session.specs.Relayed.{is_vouched}
use Rattle.session.specs.Octets.{mechanism_text, relay_octets}
use Rattle.session.specs.Session.{name_of}
use Rattle.session.specs.View.{view}
use Rattle.session.specs.declared.answer.Answer.{Answer}
use Rattle.session.specs.declared.answer.Answer.TheVariants as Answers
use Rattle.session.specs.declared.view.Offer.{Offer}
use Rattle.session.proofs.Laws.{line-relays, line-says}
use Rattle.server.specs.Line.{relays_address, line_step, line_found, on_line}
use Rattle.server.specs.Mechanisms.{offered}
use Rattle.server.specs.Outcome.{Result, Outcome, answered, refuses, settled}
use Rattle.server.specs.Requests as Requests
use Rattle.server.specs.Requests.{Request, on}
use Rattle.server.specs.Server.{Server}
use Rattle.server.specs.Slots.{is_numbered, found}
use Rattle.server.specs.declared.Connection.{Connection}
use Rattle.image.specs.Image as Images
use Rattle.image.specs.Image.{Image}
use Rattle.calls.specs.Call.{line, request, is_short}
use Rattle.calls.specs.Step.{lent, on_lent, outcome, result_in, response_lent, is_queried, relayed_in, out_of, step}
use Rattle.claims.specs.Relays.{RelaysGranted, RelaysSaid}
use Rattle.claims.proofs.Others.{has-taken}
use Rattle.claims.proofs.Turns.{held_by, held_at, held_name}
use Rattle.claims.proofs.Served.{gives_nothing, all_listed, by-list}
use Rattle.claims.proofs.Grants.{bears-granted}

-- a line l for connection n that is passed on with the identity j, and with the octets y
module _ (i : Image) (n : ℕ) (l : List ℕ) (j : Identity) (k : ℕ) (x y : List ℕ) where
  abbrev PassedOn : Result → Type 0
  PassedOn r = r ≡ answered (Answers.Forward j k) x y

  -- the connection, the server that it is one of, and what the answer has
  record Passed : Type 0 where
    server : Server
    connection : Connection
    taken : Images.taken i ≡ some server
    found : found (is_numbered n) server.slots ≡ some connection
    answer : (line_step server connection l).answer ≡ Answers.Forward j k
    octets : cond (relays_address (line_step server connection l).answer) (relay_octets (view connection.session l) l) [] ≡ y

  settled-forward : (a : Answer) (h z : List ℕ) (s : Server) → PassedOn (result_in (settled a (answered a h z) s)) → (a ≡ Answers.Forward j k) × (z ≡ y)
  settled-forward (Answers.Refused r) h z s e = (cc, cc)
  settled-forward (Answers.Forward f m) h z s e = (cc, cc)
  settled-forward (Answers.Query t b m) h z s e = (cc, cc)
  settled-forward (Answers.Reply r) h z s e = (cc, cc)
  settled-forward Answers.EmptyChallenge h z s e = (cc, cc)
  settled-forward Answers.Challenge h z s e = (cc, cc)

  passed : (r a : List ℕ) → PassedOn (step i (line n l r a)).result → Passed
  unfolding step outcome on on_line
  passed r a e = go (is_short (line n l r a)) (Images.taken i) refl e
    where
      on-found : (s : Server) → Images.taken i ≡ some s → (o : Option Connection) → found (is_numbered n) s.slots ≡ o → PassedOn (result_in (line_found s l o))
          → Passed
      on-found s t none f h = let z : ◌≡◌ {A = ℕ} 0 1 = cc in absurd (omega arith)
      on-found s t (some c) f h =
          let z = settled-forward (line_step s c l).answer _ _ _ h in
          record { server = s; connection = c; taken = t; found = f; answer = z.0; octets = z.1 }

      go : (b : Bool) (o : Option Server) → Images.taken i ≡ o → PassedOn (result_in (cond b (refuses Refusals.ShortBuffer) (on_lent o (Requests.line n l)))) → Passed
      go true o t h = let z : ◌≡◌ {A = ℕ} 0 1 = cc in absurd (omega arith)
      go false none t h = let z : ◌≡◌ {A = ℕ} 0 1 = cc in absurd (omega arith)
      go false (some s) t h = on-found s t (found (is_numbered n) s.slots) refl h

-- what the server has of the mechanism that a line names
abbrev offer : Server → Connection → List ℕ → Rust.Option Offer
offer s c l = offered s.mechanisms (padded (mechanism_text (view c.session l) l))

-- ---- for whom

relays-named : (i : Image) (s : Server) → Images.taken i ≡ some s → (n k : ℕ) (j : Identity) (l r a x y : List ℕ) → is_vouched j ≡ true
    → (step i (line n l r a)).result ≡ answered (Answers.Forward j k) x y → (m : List ℕ) × (held_name (held_at s n) ≡ some m)
relays-named i s t n k j l r a x y v e =
    let p = passed i n l j k x y r a e in
    let c = p.connection in
    let g = line-relays c.session (view c.session l) (offer p.server c l) p.server.header.ticket j k v p.answer in
    let same : some s ≡ some p.server = sym t ∙ p.taken in
    let own : s ≡ p.server = cc in
    let held : held_at s n ≡ held_by (some c) = ap (λ (z : Server). held_at z n) own ∙ ap held_by p.found in
    (name_of c.session, ap held_name held ∙ ap (λ (b : Bool). cond b (some (name_of c.session)) none) g)

pub relays-granted : RelaysGranted
relays-granted i c t cs q m n k j l r a x y v e =
    by-list (all_listed i c t cs q m)
    (λ s. let w = relays-named _ s.server s.taken n k j l r a x y v e in (w.0, bears-granted s.served n w.0 w.1))
    (λ u. absurd (gives_nothing u (line n l r a) refl (answered (Answers.Forward j k) x y) e refl))

-- ---- with what

handed-over : (i : Image) (q : Request) (o : Outcome) (j : Identity) (k : ℕ) (x y : List ℕ) → result_in o ≡ answered (Answers.Forward j k) x y
    → (out_of i q o).handed ≡ y
handed-over i q o j k x y e = ap (λ (r : Result). cond (is_queried r) (response_lent (lent i q) q) (relayed_in r)) e

pub relays-said : RelaysSaid
unfolding step
relays-said i n k j l r a x y m e =
    let p = passed i n l j k x y r a e in
    let c = p.connection in
    let octets = ap (λ (b : Answer). cond (relays_address b) (relay_octets (view c.session l) l) []) (sym p.answer) ∙ p.octets in
    let said = line-says l c.session (offer p.server c l) p.server.header.ticket j k m p.answer in
    record {
      connection = c;
      found = has-taken i p.server n p.taken ∙ p.found;
      said = ap (λ (z : List ℕ). (j, z)) (sym octets) ∙ said;
      handed = handed-over i (request (line n l r a)) (outcome i (line n l r a)) j k x y e;
    }

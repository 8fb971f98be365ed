-- A ticket is void once nobody waits on it, and stays so. A close voids the tickets of its connection, a verdict its own. Assumes nothing.
use mathlib.Core.Path.{◌≡◌, refl, sym, ◌∙◌}
use mathlib.Core.Bool.{false, true≢false}
use mathlib.Core.List.{List, [], ◌∷◌}
use mathlib.Core.Option.{Option, some, none-ne-some}
use Prim.Native.Nat.{ℕ, ◌<◌, ◌≤◌}
use native.Mathlib.Omega.{arith}
use borrow.Author.Tests.{eq-eqb}
use Rattle.session.specs.declared.answer.Answer.{Answer}
use Rattle.server.specs.Outcome.{Result, done}
use Rattle.server.specs.Requests as Requests
use Rattle.server.specs.Requests.{Request}
use Rattle.server.specs.Server.{Server}
use Rattle.claims.specs.Told.{made, Made, is_refusal}
use Rattle.claims.specs.Names.{Issued}
use Rattle.claims.specs.Numbers.{ticket_in, issues_ticket, tickets, Rising}
use Rattle.claims.proofs.Turns as Turns
use Rattle.claims.proofs.Turns.{Held, held_at, held_ticket, Turns, turns, waited, Queries, queried}
use Rattle.claims.proofs.Counts.{Counts, ticket-counts}
use Rattle.claims.proofs.Rises.{tickets-rise, issued-below, issued-once}
use Rattle.claims.proofs.Grants.{waits-issued, has-itself}
use Rattle.claims.proofs.Served.{Called, refused-by, moved, Served}

-- nobody waits on it, and it is not issued again
pub record Void (t : ℕ) (s : Server) : Type 0 where
  pub nobody : (n : ℕ) → held_ticket (held_at s n) ≡ some t → ⊥
  pub spent : t < s.header.ticket

query-issues : {t : ℕ} {a : Answer} → Queries t a → ticket_in a [] ≡ t ∷ []
query-issues Turns.queries = refl

counts-next : {k m t : ℕ} {l : List ℕ} → Counts k [] m l → l ≡ t ∷ [] → t ≡ k
counts-next Counts.same e = let z : ◌≡◌ {A = ℕ} 0 1 = cc in absurd (omega arith)
counts-next (Counts.next u) e = cc

counts_up : {k m : ℕ} {l j : List ℕ} → Counts k l m j → k ≤ m
counts_up Counts.same = omega arith
counts_up (Counts.next u) = omega arith

void_turn : {n : ℕ} {q : Request} {a : Result} {x y : Option Held} (t k m : ℕ) → Turns n q a x y → Counts k [] m (issues_ticket a []) → t < k
    → (held_ticket x ≡ some t → ⊥) → held_ticket y ≡ some t → ⊥
void_turn t k m (Turns.keeps r j) c h f e = f e
void_turn t k m Turns.makes c h f e = none-ne-some _ e
void_turn t k m Turns.opens c h f e = none-ne-some _ e
void_turn t k m (Turns.steps {a = a}) c h f e = let z : t ≡ k = counts-next c (query-issues (queried t a e)) in absurd (omega arith)
void_turn t k m Turns.judges c h f e = none-ne-some _ e
void_turn t k m Turns.closes c h f e = none-ne-some _ e

pub void_on : {s z : Server} {q : Request} {a : Result} (t : ℕ) → Called s q a z → Void t s → Void t z
void_on t refused-by v = v
void_on {s} {z} t (moved w e m) v =
    let l : t < s.header.ticket = v.spent in
    let c = ticket-counts m w e [] in
    let u = counts_up c in
    record { nobody = λ n. void_turn t s.header.ticket z.header.ticket (turns m w n) c l (v.nobody n); spent = omega arith }

-- its close voids every ticket that was issued to a connection
pub closed_void : {h : List Made} {z : Server} (n t : ℕ) → Served (made (Requests.close n) done ∷ h) z → Rising (tickets h) → Issued n t h → Void t z
closed_void {h} {z} n t v r i =
    record { nobody = λ m e. go m (waits-issued v m t e); spent = issued-below i z.header.ticket (unfold tickets in (tickets-rise v).below) }
  where
    go : (m : ℕ) → Issued m t (made (Requests.close n) done ∷ h) → ⊥
    go m (Issued.still x j) = true≢false (sym (eq-eqb n m (issued-once r i j)) ∙ x)

-- a verdict voids its ticket
judged-off : {n t k : ℕ} {d : List ℕ} {a : Result} {x y : Option Held} → Turns n (Requests.verdict t k d) a x y → held_ticket y ≡ some t → ⊥
judged-off {n} {t} {k} {d} {a} {x} (Turns.keeps r j) e = true≢false (sym (has-itself t x e) ∙ j)
judged-off Turns.judges e = none-ne-some _ e

pub answered_void : {h : List Made} {s z : Server} {a : Result} (t k : ℕ) (d : List ℕ) → Served h s → Called s (Requests.verdict t k d) a z → is_refusal a ≡ false
    → Void t z
answered_void t k d v refused-by f = absurd (true≢false f)
answered_void {h} {s} {z} {a} t k d v (moved w e m) f =
    let o = waited m w in
    let c = ticket-counts m w e [] in
    let u = counts_up c in
    let l : t < s.header.ticket = issued-below (waits-issued v o.number t o.waits) s.header.ticket (tickets-rise v).below in
    record { nobody = λ n. judged-off (turns m w n); spent = omega arith }

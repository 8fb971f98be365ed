-- Along a list of calls each ticket, and each connection number, is the next one. Assumes nothing.
use mathlib.Core.Path.{◌≡◌, refl}
use mathlib.Core.Bool.{Bool, true, false}
use mathlib.Core.List.{List, [], ◌∷◌}
use mathlib.Core.Option.{some}
use Prim.Native.Nat.{ℕ, ◌+◌, ◌<◌}
use native.Mathlib.Omega.{arith}
use lib.ListN.{length}
use lib.Dec.{eqb}
use borrow.Author.Tests.{eq-eqb, eqb-true}
use Rattle.octets.specs.Lists.{every}
use Rattle.octets.proofs.Cases.{both}
use Rattle.server.specs.Limits.{number_bound}
use Rattle.server.specs.Make.{fresh}
use Rattle.server.specs.Outcome.{Result}
use Rattle.server.specs.Requests as Requests
use Rattle.server.specs.Requests.{Request, on}
use Rattle.server.specs.Server.{Server}
use Rattle.server.proofs.Kept.{fresh-within}
use Rattle.image.specs.Image as Images
use Rattle.image.specs.Image.{Image}
use Rattle.image.specs.Sizes.{image_size}
use Rattle.image.proofs.Taken.{taken-written}
use Rattle.calls.specs.Call as Calls
use Rattle.calls.specs.Call.{Call, request}
use Rattle.calls.specs.Step.{outcome, step}
use Rattle.claims.specs.History.{history, is_no_make, NoMake}
use Rattle.claims.specs.Numbers.{tickets, connections, counted, CountedFrom, NumbersNext}
use Rattle.claims.specs.Told.{made, Made}
use Rattle.claims.proofs.Counts.{Counts, ticket-counts, number_counts}
use Rattle.claims.proofs.Served.{Called, refused-by, moved, next, AllRefused, first-refused, all-refused}
use Rattle.claims.proofs.Rises.{unmade-issues}

-- the next number is as many above the first as were issued
record Issues (n k : ℕ) (l : List ℕ) : Type 0 where
  above : k ≡ n + length l
  listed : l ≡ counted n (length l)

issues-on : {n k m : ℕ} {l j : List ℕ} → Counts k l m j → Issues n k l → Issues n m j
unfolding counted
issues-on Counts.same i = i
issues-on {n} {k} {l = l} (Counts.next u) i =
    let a = i.above in
    record { above = omega arith; listed = cc (i.above, i.listed) }

record Ledger (c t : ℕ) (h : List Made) (i : Image) : Type 0 where
  server : Server
  taken : Images.taken i ≡ some server
  ticket : Issues t server.header.ticket (tickets h)
  connection : Issues c server.header.connection (connections h)

called_on : {s z : Server} {q : Request} {a : Result} {c t : ℕ} (h : List Made) → Called s q a z
    → Issues t s.header.ticket (tickets h) × Issues c s.header.connection (connections h)
    → Issues t z.header.ticket (tickets (made q a ∷ h)) × Issues c z.header.connection (connections (made q a ∷ h))
unfolding tickets connections
called_on h refused-by i = i
called_on h (moved w e m) i = (issues-on (ticket-counts m w e (tickets h)) i.0, issues-on (number_counts m w e (connections h)) i.1)

on_call : {c t : ℕ} {h : List Made} {i : Image} → Ledger c t h i → (d : Call) → is_no_make d ≡ true → Ledger c t (made (request d) (step i d).result ∷ h) (step i d).image
on_call {c} {t} {h} {i} l d m =
    let n = next i l.server l.taken d m in
    let k = called_on h n.called (l.ticket, l.connection) in
    record { server = n.server; taken = n.taken; ticket = k.0; connection = k.1 }

on-calls : {c t : ℕ} {h : List Made} {i : Image} → Ledger c t h i → (cs : List Call) → NoMake cs → CountedFrom c t (history h i cs)
unfolding history every
on-calls l [] m = record { tickets = l.ticket.listed; connections = l.connection.listed }
on-calls {c = c} {t = t} {h = h} {i = i} l (d ∷ cs) m =
    let b = both (is_no_make d) (every is_no_make cs) m in
    on-calls {c = c} {t = t} {h = made (request d) (step i d).result ∷ h} {i = (step i d).image} (on_call l d b.0) cs b.1

on-make : (i : Image) (c t : ℕ) → length i ≡ image_size → c < number_bound → t < number_bound
    → Ledger c t (made (Requests.make c t) (step i (Calls.make c t)).result ∷ []) (step i (Calls.make c t)).image
unfolding step outcome on tickets connections counted fresh
on-make i c t e a b =
    rw (eq-eqb (length i) image_size e)
    (record {
      server = fresh c t;
      taken = taken-written (fresh c t) (fresh-within c t a b);
      ticket = record { above = omega arith; listed = refl };
      connection = record { above = omega arith; listed = refl };
    })

none-counted : (c t : ℕ) (h : List Made) → AllRefused h → CountedFrom c t h
unfolding counted
none-counted c t h a = let n = unmade-issues h a in record { tickets = rw n.0; connections = rw n.1 }

pub numbers-next : NumbersNext
unfolding history
numbers-next i c t cs a m = go (eqb (length i) image_size) refl
  where
    go : (b : Bool) → eqb (length i) image_size ≡ b → CountedFrom c t (history [] i (Calls.make c t ∷ cs))
    go true e = on-calls (on-make i c t (eqb-true (length i) image_size e) a.0 a.1) cs m
    go false e = none-counted c t _ (all-refused (first-refused i c t e) cs m).refused

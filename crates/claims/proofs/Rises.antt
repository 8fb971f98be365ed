-- Along a list of calls tickets and connection numbers rise, so a ticket is issued once. Assumes nothing.
use mathlib.Core.Path.{◌≡◌, refl, ◌∙◌}
use mathlib.Core.Bool.{true, false≢true}
use mathlib.Core.List.{List, [], ◌∷◌}
use Prim.Native.Nat.{ℕ, ◌+◌, ◌<◌}
use native.Mathlib.Omega.{arith}
use Rattle.session.specs.declared.answer.Answer.TheVariants as Answers
use Rattle.server.specs.Make.{fresh}
use Rattle.server.specs.Outcome.{Result, refused, done, opened, answered, borne}
use Rattle.server.specs.Server.{Server}
use Rattle.claims.specs.Told.{Made, is_refusal}
use Rattle.claims.specs.Names.{Issued}
use Rattle.claims.specs.Numbers.{issues_ticket, issues_number, tickets, connections, Above, Rising, NumbersRise}
use Rattle.claims.proofs.Counts.{Counts, ticket-counts, number_counts}
use Rattle.claims.proofs.Served.{refused-by, moved, Served, begins, then, AllRefused, last-refused, all_listed, by-list}

-- ---- numbers rise

-- the next number is above those issued
pub record Rises (k : ℕ) (l : List ℕ) : Type 0 where
  pub below : Above k l
  pub rising : Rising l

above-next : (k : ℕ) (l : List ℕ) → Above k l → Above (k + 1) l
unfolding Above
above-next k [] a = tt
above-next k (m ∷ l) a = let h : m < k = a.0 in (omega arith, above-next k l a.1)

rises-on : {k m : ℕ} {l j : List ℕ} → Counts k l m j → Rises k l → Rises m j
unfolding Above Rising
rises-on Counts.same r = r
rises-on {k} {m} {l} (Counts.next u) r = record { below = (omega arith, above-next k l r.below); rising = (u, r.below, r.rising) }

none-issued : (k : ℕ) → Rises k []
unfolding Above Rising
none-issued k = record { below = tt; rising = tt }

pub tickets-rise : {h : List Made} {s : Server} → Served h s → Rises s.header.ticket (tickets h)
unfolding tickets
tickets-rise (begins {t = t}) = unfold fresh in none-issued t
tickets-rise (then refused-by v) = tickets-rise v
tickets-rise (then {h = h} (moved w e m) v) = rises-on (ticket-counts m w e (tickets h)) (tickets-rise v)

pub connections-rise : {h : List Made} {s : Server} → Served h s → Rises s.header.connection (connections h)
unfolding connections
connections-rise (begins {c = c}) = unfold fresh in none-issued c
connections-rise (then refused-by v) = connections-rise v
connections-rise (then {h = h} (moved w e m) v) = rises-on (number_counts m w e (connections h)) (connections-rise v)

-- where every call was refused none is issued
nothing-issued : (a : Result) (ts ns : List ℕ) → is_refusal a ≡ true → (issues_ticket a ts ≡ ts) × (issues_number a ns ≡ ns)
nothing-issued (refused k) ts ns e = (refl, refl)
nothing-issued done ts ns e = absurd (false≢true e)
nothing-issued (opened n) ts ns e = absurd (false≢true e)
nothing-issued (answered a h x) ts ns e = absurd (false≢true e)
nothing-issued (borne n) ts ns e = absurd (false≢true e)

pub unmade-issues : (h : List Made) → AllRefused h → (tickets h ≡ []) × (connections h ≡ [])
unfolding tickets connections
unmade-issues [] a = (refl, refl)
unmade-issues (e ∷ h) a =
    let l = last-refused e h a in
    let n = nothing-issued e.result (tickets h) (connections h) l.0 in
    let r = unmade-issues h l.1 in
    (n.0 ∙ r.0, n.1 ∙ r.1)

pub numbers-rise : NumbersRise
numbers-rise i c t cs q m =
    by-list (all_listed i c t cs q m)
    (λ s. ((tickets-rise s.served).rising, (connections-rise s.served).rising))
    (λ u. let n = unmade-issues _ u.refused in rw (n.0, n.1) ((none-issued 0).rising, (none-issued 0).rising))

-- ---- a ticket is issued once

-- what holds of the tickets issued held before the last call
before_last : (P : List ℕ → Type 0) → ((t : ℕ) (l : List ℕ) → P (t ∷ l) → P l) → (a : Result) (l : List ℕ) → P (issues_ticket a l) → P l
before_last P f (refused k) l p = p
before_last P f done l p = p
before_last P f (opened n) l p = p
before_last P f (answered (Answers.Refused r) h x) l p = p
before_last P f (answered (Answers.Forward i n) h x) l p = p
before_last P f (answered (Answers.Query t b n) h x) l p = f t l p
before_last P f (answered (Answers.Reply e) h x) l p = p
before_last P f (answered Answers.EmptyChallenge h x) l p = p
before_last P f (answered Answers.Challenge h x) l p = p
before_last P f (borne n) l p = p

pub issued-below : {n t : ℕ} {h : List Made} → Issued n t h → (k : ℕ) → Above k (tickets h) → t < k
unfolding tickets Above
issued-below (Issued.asks o) k a = a.0
issued-below (Issued.still {e = e} {h = h} x i) k a = issued-below i k (before_last (Above k) (λ t l b. b.1) e.result (tickets h) a)

-- two tickets that are one
issued-same : {n m t u : ℕ} {h : List Made} → Rising (tickets h) → t ≡ u → Issued n t h → Issued m u h → n ≡ m
unfolding tickets Rising
issued-same r s (Issued.asks o) (Issued.asks p) = refl
issued-same {t = t} {u = u} r s (Issued.asks o) (Issued.still x j) = let l : u < t = issued-below j t r.1 in absurd (omega arith)
issued-same {t = t} {u = u} r s (Issued.still x i) (Issued.asks o) = let l : t < u = issued-below i u r.1 in absurd (omega arith)
issued-same r s (Issued.still {e = e} {h = h} x i) (Issued.still y j) = issued-same (before_last Rising (λ k l z. z.2) e.result (tickets h) r) s i j

pub issued-once : {n m t : ℕ} {h : List Made} → Rising (tickets h) → Issued n t h → Issued m t h → n ≡ m
issued-once r i j = issued-same r refl i j

-- Along a list of calls: the ticket that a connection waits on was issued to it, whom it bears it was granted, and whom it was granted it bears.
-- Assumes nothing.
use mathlib.Core.Path.{◌≡◌, refl, sym, ap, ◌∙◌, subst}
use mathlib.Core.Bool.{Bool, true, false, cond, true≢false, false≢true}
use mathlib.Core.List.{List, [], ◌∷◌}
use mathlib.Core.Option.{Option, none, some, none-ne-some}
use Prim.Native.Nat.{ℕ}
use lib.Dec.{eqb}
use borrow.Author.Tests.{eqb-true, eq-eqb}
use Rattle.profile.specs.Numbers.{verdict_number}
use Rattle.profile.specs.declared.numbers.Verdict.TheVariants as Verdicts
use Rattle.session.specs.declared.answer.Answer.{Answer}
use Rattle.server.specs.Outcome.{Result, refused, done, opened, answered}
use Rattle.server.specs.Requests as Requests
use Rattle.server.specs.Requests.{Request}
use Rattle.server.specs.Server.{Server}
use Rattle.server.specs.WellFormed.{has}
use Rattle.claims.specs.Told.{made, Made}
use Rattle.claims.specs.Names.{ends, Open, Issued, Granted}
use Rattle.claims.proofs.Turns as Turns
use Rattle.claims.proofs.Turns.{Held, held_at, held_ticket, held_name, Turns, turns, waited, Queries, queried, fresh-held}
use Rattle.claims.proofs.Rises.{tickets-rise, issued-once}
use Rattle.claims.proofs.Served.{refused-by, moved, Served, begins, then}

-- ---- what a connection has, it was issued and granted

-- what the calls tell of a connection that is open
abbrev Known : ℕ → Option Held → List Made → Type 0
Known n none h = Unit {0}
Known n (some x) h = Open n h × ((t : ℕ) → x.ticket ≡ some t → Issued n t h) × ((l : List ℕ) → x.name ≡ some l → Granted n l h)

still-known : (n : ℕ) (e : Made) (h : List Made) (x : Option Held) → ends e n ≡ false → Known n x h → Known n x (e ∷ h)
still-known n e h none r k = tt
still-known n e h (some x) r k = (Open.still r k.0, λ t i. Issued.still r (k.1 t i), λ l g. Granted.still r (k.2 l g))

asked : {n t : ℕ} {a : Answer} {l x y : List ℕ} {h : List Made} → Queries t a → Open n h → Issued n t (made (Requests.line n l) (answered a x y) ∷ h)
asked Turns.queries o = Issued.asks o

known_on : {n : ℕ} {q : Request} {a : Result} {x y : Option Held} (h : List Made) → Turns n q a x y → Known n x h → Known n y (made q a ∷ h)
known_on {n} {q} {a} {x} h (Turns.keeps r j) k = still-known n (made q a) h x r k
known_on h Turns.makes k = tt
known_on h Turns.opens k = (Open.opens, λ t e. absurd (none-ne-some _ e), λ l e. absurd (none-ne-some _ e))
known_on h (Turns.steps {a = a}) k = (Open.still refl k.0, λ t e. asked (queried t a e) k.0, λ l e. Granted.still refl (k.2 l e))
known_on {n} h (Turns.judges {t = t} {k = j} {d = d} {h = u} {x = v} {a = a}) k =
    (Open.still refl k.0, λ i e. absurd (none-ne-some _ e), go (eqb j (verdict_number Verdicts.Success)) refl)
  where
    go : (b : Bool) → eqb j (verdict_number Verdicts.Success) ≡ b → (l : List ℕ) → cond b (some d) none ≡ some l
        → Granted n l (made (Requests.verdict t j d) (answered a u v) ∷ h)
    go true r l e = let z : d ≡ l = cc in rw (eqb-true j (verdict_number Verdicts.Success) r, z) (Granted.grants refl (k.1 t refl))
    go false r l e = absurd (none-ne-some _ e)
known_on h Turns.closes k = tt

known : {h : List Made} {s : Server} → Served h s → (n : ℕ) → Known n (held_at s n) h
known (begins {c = c} {t = t}) n = subst (λ x. Known n x (made (Requests.make c t) done ∷ [])) (sym (fresh-held c t n)) tt
known (then {h = h} {s = s} {q = q} (refused-by {k = k}) v) n = still-known n (made q (refused k)) h (held_at s n) refl (known v n)
known (then {h = h} (moved w e m) v) n = known_on h (turns m w n) (known v n)

known-issued : (n t : ℕ) (x : Option Held) (h : List Made) → Known n x h → held_ticket x ≡ some t → Issued n t h
known-issued n t none h k e = absurd (none-ne-some _ e)
known-issued n t (some x) h k e = k.1 t e

pub waits-issued : {h : List Made} {s : Server} → Served h s → (n t : ℕ) → held_ticket (held_at s n) ≡ some t → Issued n t h
waits-issued {h} {s} v n t e = known-issued n t (held_at s n) h (known v n) e

known-granted : (n : ℕ) (l : List ℕ) (x : Option Held) (h : List Made) → Known n x h → held_name x ≡ some l → Granted n l h
known-granted n l none h k e = absurd (none-ne-some _ e)
known-granted n l (some x) h k e = k.2 l e

pub bears-granted : {h : List Made} {s : Server} → Served h s → (n : ℕ) (l : List ℕ) → held_name (held_at s n) ≡ some l → Granted n l h
bears-granted {h} {s} v n l e = known-granted n l (held_at s n) h (known v n) e

-- ---- what was opened and not closed since is open

abbrev pub is_held : Option Held → Bool
is_held none = false
is_held (some x) = true

known-open : (n : ℕ) (x : Option Held) (h : List Made) → Known n x h → is_held x ≡ true → Open n h
known-open n none h k e = absurd (false≢true e)
known-open n (some x) h k e = k.0

pub held-open : {h : List Made} {s : Server} → Served h s → (n : ℕ) → is_held (held_at s n) ≡ true → Open n h
held-open {h} {s} v n e = known-open n (held_at s n) h (known v n) e

-- two numbers that are one
opens-same : {n m p b : ℕ} {x y : Option Held} → n ≡ m → Turns n (Requests.opens p b) (opened m) x y → is_held y ≡ true
opens-same {n = n} {m = m} s (Turns.keeps r j) = absurd (true≢false (sym (eq-eqb m n (sym s)) ∙ r))
opens-same s Turns.opens = refl

opens-held : {n p b : ℕ} {x y : Option Held} → Turns n (Requests.opens p b) (opened n) x y → is_held y ≡ true
opens-held t = opens-same refl t

still-held : {n : ℕ} {q : Request} {a : Result} {x y : Option Held} → Turns n q a x y → ends (made q a) n ≡ false → is_held x ≡ true → is_held y ≡ true
still-held (Turns.keeps r j) f e = e
still-held Turns.makes f e = absurd (true≢false f)
still-held Turns.opens f e = refl
still-held Turns.steps f e = refl
still-held Turns.judges f e = refl
still-held {n} Turns.closes f e = absurd (true≢false (sym (eq-eqb n n refl) ∙ f))

pub open-held : {h : List Made} {s : Server} → Served h s → (n : ℕ) → Open n h → is_held (held_at s n) ≡ true
open-held begins n (Open.still x o) = absurd (true≢false x)
open-held (then refused-by v) n (Open.still x o) = open-held v n o
open-held (then (moved w e m) v) n Open.opens = opens-held (turns m w n)
open-held (then (moved w e m) v) n (Open.still x o) = still-held (turns m w n) x (open-held v n o)

-- ---- what a connection was granted, it has

pub has-itself : (t : ℕ) (x : Option Held) → held_ticket x ≡ some t → has (held_ticket x) t ≡ true
has-itself t x e = ap (λ (k : Option ℕ). has k t) e ∙ eq-eqb t t refl

success_names : {n t : ℕ} {l : List ℕ} {a : Result} {x y : Option Held} → Turns n (Requests.verdict t (verdict_number Verdicts.Success) l) a x y
    → held_ticket x ≡ some t → held_name y ≡ some l
success_names {n} {t} {l} {a} {x} (Turns.keeps r j) e = absurd (true≢false (sym (has-itself t x e) ∙ j))
success_names Turns.judges e = refl

name-stays : {n : ℕ} {q : Request} {a : Result} {x y : Option Held} (l : List ℕ) → Turns n q a x y → ends (made q a) n ≡ false
    → held_name x ≡ some l → held_name y ≡ some l
name-stays l (Turns.keeps r j) f e = e
name-stays l Turns.makes f e = absurd (true≢false f)
name-stays {n} l Turns.opens f e = absurd (true≢false (sym (eq-eqb n n refl) ∙ f))
name-stays l Turns.steps f e = e
name-stays l Turns.judges f e = absurd (none-ne-some _ e)
name-stays {n} l Turns.closes f e = absurd (true≢false (sym (eq-eqb n n refl) ∙ f))

pub granted-bears : {h : List Made} {s : Server} → Served h s → (n : ℕ) (l : List ℕ) → Granted n l h → held_name (held_at s n) ≡ some l
granted-bears begins n l (Granted.still x g) = absurd (true≢false x)
granted-bears (then refused-by v) n l (Granted.grants r i) = absurd (true≢false r)
granted-bears (then refused-by v) n l (Granted.still x g) = granted-bears v n l g
granted-bears (then {h = h} {s = s} (moved w e m) v) n l (Granted.grants {t = t} r i) =
    let o = waited m w in
    let j : o.number ≡ n = issued-once (tickets-rise v).rising (waits-issued v o.number t o.waits) i in
    success_names (turns m w n) (ap (λ (k : ℕ). held_ticket (held_at s k)) (sym j) ∙ o.waits)
granted-bears (then (moved w e m) v) n l (Granted.still x g) = name-stays l (turns m w n) x (granted-bears v n l g)

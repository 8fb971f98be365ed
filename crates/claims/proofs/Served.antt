-- The lists that names and tickets are claimed of, as servers go through them: made by the first call, and each later call is refused or moves the
-- server, whose image is taken. Where the first call is refused, all are. Assumes nothing.
use mathlib.Core.Path.{◌≡◌, refl, sym, ap, ◌∙◌}
use mathlib.Core.Bool.{Bool, true, false, cond, false≢true, true≢false}
use mathlib.Core.List.{List, [], ◌∷◌}
use mathlib.Core.Option.{Option, none, some}
use Prim.Native.Nat.{ℕ, ◌<◌}
use lib.ListN.{length}
use lib.Dec.{eqb}
use borrow.Author.Tests.{eq-eqb, eqb-true}
use Rattle.octets.specs.Lists.{every}
use Rattle.octets.proofs.Cases.{both}
use Rattle.profile.specs.declared.numbers.Refusal.{Refusal}
use Rattle.profile.specs.declared.numbers.Refusal.TheVariants as Refusals
use Rattle.server.specs.Limits.{number_bound}
use Rattle.server.specs.Make.{fresh}
use Rattle.server.specs.Outcome as Outcomes
use Rattle.server.specs.Outcome.{Result, refused, done, Outcome}
use Rattle.server.specs.Requests as Requests
use Rattle.server.specs.Requests.{Request, Sized, on}
use Rattle.server.specs.Server.{Server}
use Rattle.server.specs.WellFormed.{well_formed}
use Rattle.server.proofs.Kept.{fresh-within, within}
use Rattle.server.proofs.Moves.{Moves, Unrefused, moves}
use Rattle.image.specs.Image as Images
use Rattle.image.specs.Image.{Image}
use Rattle.image.specs.Sizes.{image_size}
use Rattle.image.proofs.Taken.{taken-written, taken-within, taken-length}
use Rattle.calls.specs.Call as Calls
use Rattle.calls.specs.Call.{Call, request, is_short}
use Rattle.calls.specs.Step.{lent, on_lent, outcome, result_in, image_in, step, left}
use Rattle.claims.specs.History.{history, is_no_make, NoMake, OfEveryList}
use Rattle.claims.specs.Told.{Made, made, is_refusal}
use Rattle.claims.proofs.Steps.{is_make}

-- a call on a server, no make
pub data Called (s : Server) (q : Request) : Result → Server → Type 0 where
  refused-by : {k : Refusal} → Called s q (refused k) s
  moved : {a : Result} {z : Server} → well_formed s ≡ true → is_make q ≡ false → Moves s q a z → Called s q a z

-- the calls made, the last one first, and the server that they left
pub data Served : List Made → Server → Type 0 where
  begins : {c t : ℕ} → Served (made (Requests.make c t) done ∷ []) (fresh c t)
  then : {h : List Made} {s z : Server} {q : Request} {a : Result} → Called s q a z → Served h s → Served (made q a ∷ h) z

-- ---- one call on an image

-- a call that is no make
pub record Later (c : Call) : Type 0 where
  pub unmade : is_make (request c) ≡ false
  pub sized : Sized (request c)
  pub lends : (i : Image) → lent i (request c) ≡ Images.taken i

pub later : (c : Call) → is_no_make c ≡ true → Later c
later (Calls.make m t) e = absurd (false≢true e)
later (Calls.add n f p) e = record { unmade = refl; sized = tt; lends = λ i. refl }
later (Calls.opens p b) e = record { unmade = refl; sized = tt; lends = λ i. refl }
later (Calls.line n l r a) e = record { unmade = refl; sized = tt; lends = λ i. refl }
later (Calls.verdict t v d r a) e = record { unmade = refl; sized = tt; lends = λ i. refl }
later (Calls.mail_ended n) e = record { unmade = refl; sized = tt; lends = λ i. refl }
later (Calls.who n b) e = record { unmade = refl; sized = tt; lends = λ i. refl }
later (Calls.close n) e = record { unmade = refl; sized = tt; lends = λ i. refl }

-- a call that is neither a make nor short of a buffer
abbrev pub Plain : Call → Type 0
Plain c = (is_no_make c ≡ true) × (is_short c ≡ false)

module _ (i : Image) (s : Server) (t : Images.taken i ≡ some s) (c : Call) (p : Plain c) where
  pub lent-plain : lent i (request c) ≡ some s
  lent-plain = (later c p.0).lends i ∙ t

  pub outcome-plain : outcome i c ≡ on s (request c)
  unfolding outcome
  outcome-plain =
      ap (λ (b : Bool). cond b (Outcomes.refuses Refusals.ShortBuffer) (on_lent (lent i (request c)) (request c))) p.1
      ∙ ap (λ (o : Option Server). on_lent o (request c)) lent-plain

-- what a call comes to: r what it gives, i the image that it leaves
pub record Next (s : Server) (q : Request) (r : Result) (i : Image) : Type 0 where
  pub server : Server
  pub taken : Images.taken i ≡ some server
  pub called : Called s q r server

pub next : (i : Image) (s : Server) → Images.taken i ≡ some s → (c : Call) → is_no_make c ≡ true → Next s (request c) (step i c).result (step i c).image
unfolding step outcome
next i s e c m = short (is_short c)
  where
    q : Request
    q = request c

    w : well_formed s ≡ true
    w = taken-within i s e

    go : (o : Outcome) → Unrefused (Moves s q) o → Next s q (result_in o) (image_in i o)
    go (Outcomes.refuses k) u = record { server = s; taken = e; called = refused-by }
    go (Outcomes.gives a z) u = record { server = z; taken = taken-written z (within u w (later c m).sized); called = moved w (later c m).unmade u }

    short : (b : Bool)
        → Next s q (result_in (cond b (Outcomes.refuses Refusals.ShortBuffer) (on_lent (lent i q) q)))
        (image_in i (cond b (Outcomes.refuses Refusals.ShortBuffer) (on_lent (lent i q) q)))
    short true = go (Outcomes.refuses Refusals.ShortBuffer) tt
    short false = rw ((later c m).lends i, e) (go (on s q) (moves s q))

-- ---- a list of calls

-- the image that a list left is taken for the server that went through it
pub record Stands (h : List Made) (i : Image) : Type 0 where
  pub server : Server
  pub taken : Images.taken i ≡ some server
  pub served : Served h server

first : (i : Image) (c t : ℕ) → length i ≡ image_size → c < number_bound → t < number_bound
    → Stands (made (Requests.make c t) (step i (Calls.make c t)).result ∷ []) (step i (Calls.make c t)).image
unfolding step outcome on
first i c t l a b = rw (eq-eqb (length i) image_size l) (record { server = fresh c t; taken = taken-written (fresh c t) (fresh-within c t a b); served = begins })

goes : {h : List Made} {i : Image} → Stands h i → (c : Call) → is_no_make c ≡ true → Stands (made (request c) (step i c).result ∷ h) (step i c).image
goes {h} {i} s c m = let n = next i s.server s.taken c m in record { server = n.server; taken = n.taken; served = then n.called s.served }

listed : {h : List Made} {i : Image} → Stands h i → (cs : List Call) → NoMake cs → Stands (history h i cs) (left i cs)
unfolding history left every
listed s [] m = s
listed {h = h} {i = i} s (c ∷ cs) m =
    let b = both (is_no_make c) (every is_no_make cs) m in
    listed {h = made (request c) (step i c).result ∷ h} {i = (step i c).image} (goes s c b.0) cs b.1

-- ---- a list of calls of which the first make was refused

-- a call, no make, on an image that is not taken
untaken : (i : Image) → Images.taken i ≡ none → (c : Call) → is_no_make c ≡ true → (is_refusal (step i c).result ≡ true) × ((step i c).image ≡ i)
unfolding step outcome
untaken i e c m = rw ((later c m).lends i, e) (go (is_short c))
  where
    go : (b : Bool)
        → (is_refusal (result_in (cond b (Outcomes.refuses Refusals.ShortBuffer) (Outcomes.refuses Refusals.NotTaken))) ≡ true)
        × (image_in i (cond b (Outcomes.refuses Refusals.ShortBuffer) (Outcomes.refuses Refusals.NotTaken)) ≡ i)
    go true = (refl, refl)
    go false = (refl, refl)

-- every call was refused, and the image is not taken
abbrev pub AllRefused : List Made → Type 0
AllRefused h = every (λ (e : Made). is_refusal e.result) h ≡ true

pub record Unmade (h : List Made) (i : Image) : Type 0 where
  pub refused : AllRefused h
  pub untaken : Images.taken i ≡ none

pub first-refused : (i : Image) (c t : ℕ) → eqb (length i) image_size ≡ false
    → Unmade (made (Requests.make c t) (step i (Calls.make c t)).result ∷ []) (step i (Calls.make c t)).image
unfolding step outcome every
first-refused i c t e =
    rw e (record { refused = refl; untaken = taken-length i (λ l. true≢false (sym (eq-eqb (length i) image_size l) ∙ e)) })

pub all-refused : {h : List Made} {i : Image} → Unmade h i → (cs : List Call) → NoMake cs → Unmade (history h i cs) (left i cs)
unfolding history left every
all-refused u [] m = u
all-refused {h = h} {i = i} u (c ∷ cs) m =
    let b = both (is_no_make c) (every is_no_make cs) m in
    let r = untaken i u.untaken c b.0 in
    all-refused {h = made (request c) (step i c).result ∷ h} {i = (step i c).image}
    (record { refused = rw r.0 u.refused; untaken = ap Images.taken r.1 ∙ u.untaken }) cs b.1

-- the last call, and those before it
pub last-refused : (e : Made) (h : List Made) → AllRefused (e ∷ h) → (is_refusal e.result ≡ true) × AllRefused h
unfolding every
last-refused e h r = both (is_refusal e.result) (every (λ (x : Made). is_refusal x.result) h) r

-- so no call gives anything then
pub gives_nothing : {h : List Made} {i : Image} → Unmade h i → (c : Call) → is_no_make c ≡ true → (r : Result) → (step i c).result ≡ r → is_refusal r ≡ false → ⊥
gives_nothing {h} {i} u c m r e f = true≢false (sym (untaken i u.untaken c m).0 ∙ ap is_refusal e ∙ f)

-- ---- either way

pub data Listed (h : List Made) (i : Image) : Type 0 where
  served : Stands h i → Listed h i
  unmade : Unmade h i → Listed h i

pub all_listed : OfEveryList Listed
unfolding history left
all_listed i c t cs q m = go (eqb (length i) image_size) refl
  where
    go : (b : Bool) → eqb (length i) image_size ≡ b → Listed (history [] i (Calls.make c t ∷ cs)) (left i (Calls.make c t ∷ cs))
    go true e = served (listed (first i c t (eqb-true (length i) image_size e) q.0 q.1) cs m)
    go false e = unmade (all-refused (first-refused i c t e) cs m)

pub by-list : {A : Type 0} {h : List Made} {i : Image} → Listed h i → (Stands h i → A) → (Unmade h i → A) → A
by-list (served s) f g = f s
by-list (unmade u) f g = g u

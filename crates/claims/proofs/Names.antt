-- The second demand, of every list of calls that begins with a make and has no later one. Assumes nothing.
use mathlib.Core.Path.{◌≡◌, refl, sym, ap, ◌∙◌}
use mathlib.Core.Bool.{Bool, true, false, cond, false≢true, true≢false}
use mathlib.Core.List.{List, [], ◌∷◌}
use mathlib.Core.Option.{Option, none, some}
use Prim.Native.Nat.{ℕ}
use Rattle.octets.specs.Lists.{every}
use Rattle.octets.proofs.Cases.{both}
use Rattle.profile.specs.Numbers.{verdict_of}
use Rattle.profile.specs.declared.numbers.Refusal.TheVariants as Refusals
use Rattle.session.specs.Named.{bears}
use Rattle.server.specs.Outcome.{refused, done, borne, refuses}
use Rattle.server.specs.Requests.{on}
use Rattle.server.specs.Server.{Server}
use Rattle.server.specs.Slots.{is_numbered, is_waiting, found}
use Rattle.server.specs.Verdict.{verdict_found, on_verdict}
use Rattle.server.specs.Who.{who_found, on_who}
use Rattle.server.specs.declared.Connection.{Connection}
use Rattle.image.specs.Image as Images
use Rattle.image.specs.Image.{Image}
use Rattle.image.proofs.Taken.{taken-within}
use Rattle.calls.specs.Call as Calls
use Rattle.calls.specs.Call.{Call, is_short}
use Rattle.calls.specs.Step.{outcome, result_in, step, left}
use Rattle.claims.specs.History.{is_no_make, NoMake}
use Rattle.claims.specs.Names.{Open, Granted, is_there, OpenExactly, NamesGranted, GrantedNames, CloseVoids, AnswerVoids}
use Rattle.claims.specs.Told.{Made, server_has, connection_at}
use Rattle.claims.proofs.Others.{has-taken}
use Rattle.claims.proofs.Turns.{held_by, held_at, held_name, found-held}
use Rattle.claims.proofs.Served.{next, then, AllRefused, last-refused, gives_nothing, all_listed, by-list}
use Rattle.claims.proofs.Rises.{tickets-rise}
use Rattle.claims.proofs.Grants.{is_held, held-open, open-held, bears-granted, granted-bears}
use Rattle.claims.proofs.Voids.{Void, void_on, closed_void, answered_void}

-- ---- whom a connection bears

who-bears : (i : Image) (s : Server) → Images.taken i ≡ some s → (n : ℕ) (b l : List ℕ) → (step i (Calls.who n b)).result ≡ borne (some l)
    → held_name (held_at s n) ≡ some l
unfolding step outcome on on_who
who-bears i s t n b l e = go (is_short (Calls.who n b)) (found (is_numbered n) s.slots) (rw t at e)
  where
    go : (x : Bool) (o : Option Connection) → result_in (cond x (refuses Refusals.ShortBuffer) (who_found s o)) ≡ borne (some l)
        → held_name (held_by o) ≡ some l
    go true o h = cc
    go false none h = cc
    go false (some c) h = let z : borne (bears c.session) ≡ borne (some l) = h in cc

bears-who : (i : Image) (s : Server) → Images.taken i ≡ some s → (n : ℕ) (b l : List ℕ) → is_short (Calls.who n b) ≡ false → held_name (held_at s n) ≡ some l
    → (step i (Calls.who n b)).result ≡ borne (some l)
unfolding step outcome on on_who
bears-who i s t n b l e h = rw (e, t) (go (found (is_numbered n) s.slots) h)
  where
    go : (o : Option Connection) → held_name (held_by o) ≡ some l → result_in (who_found s o) ≡ borne (some l)
    go none k = cc
    go (some c) k = ap borne k

pub names-granted : NamesGranted
names-granted i c t cs q m n b l e =
    by-list (all_listed i c t cs q m)
    (λ s. bears-granted s.served n l (who-bears _ s.server s.taken n b l e))
    (λ u. absurd (gives_nothing u (Calls.who n b) refl (borne (some l)) e refl))

-- where every call was refused nobody was granted a name
granted-unmade : {n : ℕ} {l : List ℕ} {h : List Made} → AllRefused h → Granted n l h → ⊥
granted-unmade a (Granted.grants f g) = true≢false (sym (last-refused _ _ a).0 ∙ f)
granted-unmade a (Granted.still f g) = granted-unmade (last-refused _ _ a).1 g

pub granted-names : GrantedNames
granted-names i c t cs q m n b l g e =
    by-list (all_listed i c t cs q m)
    (λ s. bears-who _ s.server s.taken n b l e (granted-bears s.served n l g))
    (λ u. absurd (granted-unmade u.refused g))

-- ---- which connections are open

there-held : (i : Image) (s : Server) → Images.taken i ≡ some s → (n : ℕ) → is_there (connection_at i n) ≡ is_held (held_at s n)
there-held i s t n = ap is_there (has-taken i s n t) ∙ go (found (is_numbered n) s.slots)
  where
    go : (o : Option Connection) → is_there o ≡ is_held (held_by o)
    go none = refl
    go (some c) = refl

open-unmade : {n : ℕ} {h : List Made} → AllRefused h → Open n h → ⊥
open-unmade a Open.opens = false≢true (last-refused _ _ a).0
open-unmade a (Open.still f g) = open-unmade (last-refused _ _ a).1 g

there-unmade : (i : Image) → Images.taken i ≡ none → (n : ℕ) → is_there (connection_at i n) ≡ false
unfolding connection_at
there-unmade i e n = ap (λ (o : Option Server). is_there (server_has o n)) e

pub open-exactly : OpenExactly
open-exactly i c t cs q m n =
    by-list (all_listed i c t cs q m)
    (λ s. let e = there-held _ s.server s.taken n in (λ x. held-open s.served n (sym e ∙ x), λ o. e ∙ open-held s.served n o))
    (λ u. (λ x. absurd (false≢true (sym (there-unmade _ u.untaken n) ∙ x)), λ o. absurd (open-unmade u.refused o)))

-- ---- tickets that nobody waits on

-- the image is taken for a server in which a ticket is void
record Voided (t : ℕ) (i : Image) : Type 0 where
  server : Server
  taken : Images.taken i ≡ some server
  void : Void t server

-- it stays so
stays : (t : ℕ) (i : Image) → Voided t i → (cs : List Call) → NoMake cs → Voided t (left i cs)
unfolding left every
stays t i v [] m = v
stays t i v (c ∷ cs) m =
    let b = both (is_no_make c) (every is_no_make cs) m in
    let n = next i v.server v.taken c b.0 in
    stays t (step i c).image (record { server = n.server; taken = n.taken; void = void_on t n.called v.void }) cs b.1

void_refused : (t : ℕ) (i : Image) → Voided t i → (v : ℕ) (d r a : List ℕ) → is_short (Calls.verdict t v d r a) ≡ false
    → (step i (Calls.verdict t v d r a)).result ≡ refused Refusals.NoTicket
unfolding step outcome on on_verdict
void_refused t i w v d r a e = rw (e, w.taken) (go (found (is_waiting t) w.server.slots) refl)
  where
    go : (o : Option Connection) → found (is_waiting t) w.server.slots ≡ o
        → result_in (verdict_found w.server t (verdict_of v) d o) ≡ refused Refusals.NoTicket
    go none f = refl
    go (some c) f = let x = found-held t c w.server (taken-within i w.server w.taken) f in absurd (w.void.nobody x.number x.waits)

pub close_voids : CloseVoids
close_voids i c t cs q m n u g e ds o v d x y l =
    by-list (all_listed i c t cs q m)
    (λ s.
    let k = next _ s.server s.taken (Calls.close n) refl in
    let z = closed_void n u (then (rw e at k.called) s.served) (tickets-rise s.served).rising g in
    void_refused u _ (stays u _ (record { server = k.server; taken = k.taken; void = z }) ds o) v d x y l)
    (λ w. absurd (gives_nothing w (Calls.close n) refl done e refl))

pub answer_voids : AnswerVoids
answer_voids i c t cs q m u w f g h e ds o v d x y l =
    by-list (all_listed i c t cs q m)
    (λ s.
    let k = next _ s.server s.taken (Calls.verdict u w f g h) refl in
    let z = answered_void u w f s.served k.called e in
    void_refused u _ (stays u _ (record { server = k.server; taken = k.taken; void = z }) ds o) v d x y l)
    (λ j. absurd (gives_nothing j (Calls.verdict u w f g h) refl _ refl e))

-- A call leaves every connection that it is not for as it was. Assumes nothing.
use mathlib.Core.Path.{◌≡◌, refl, sym, ap, ◌∙◌}
use mathlib.Core.Bool.{Bool, true, false, cond, true≢false}
use mathlib.Core.Option.{Option, none, some}
use Prim.Native.Nat.{ℕ}
use lib.Dec.{eqb}
use Rattle.session.specs.MailEnded.{after_mail}
use Rattle.session.specs.Standing.{Standing}
use Rattle.session.specs.Verdict.{after_verdict}
use Rattle.server.specs.Line.{line_step}
use Rattle.server.specs.Open.{entered}
use Rattle.server.specs.Outcome.{Result, Outcome, is_yes}
use Rattle.server.specs.Requests as Requests
use Rattle.server.specs.Requests.{Request}
use Rattle.server.specs.Server.{Server}
use Rattle.server.specs.Slots.{is_numbered, holding, found, replaced}
use Rattle.server.specs.WellFormed.{number_of, well_formed}
use Rattle.server.proofs.Kept.{parts, numbers-below}
use Rattle.server.proofs.Moves.{Moves}
use Rattle.server.proofs.Slots.{found_waits, found_number, find-close, find-opened, find-ticket, none-next}
use Rattle.image.specs.Image.{Image, image_of, taken}
use Rattle.calls.specs.Call.{request}
use Rattle.calls.specs.Step.{result_in, image_in, step}
use Rattle.claims.specs.Others.{is_for, OthersStay}
use Rattle.claims.specs.Told.{server_has, connection_at, server_stands, seen}
use Rattle.claims.proofs.Follows.{look, waits-standing, find-own}
use Rattle.claims.proofs.Steps.{is_make, Lent, Comes, refusal, move, comes, left-taken}

-- the test fails: the second stays
unpicked : {A : Type 0} (b : Bool) (x y : A) → b ≡ false → cond b x y ≡ y
unpicked true x y e = absurd (true≢false e)
unpicked false x y e = refl

others : {s z : Server} {r : Request} {a : Result} → Moves s r a z → well_formed s ≡ true → (n : ℕ) → is_for r a n (look n s.slots) ≡ false
    → found (is_numbered n) z.slots ≡ found (is_numbered n) s.slots
others (Moves.makes c t) w n e = absurd (true≢false e)
others (Moves.adds m f p x a l) w n e = refl
others {s} (Moves.opens j b p f x) w n e =
    find-opened s.header.connection n (entered s.header p (is_yes b)) s.slots f
    (none-next number_of s.header.connection s.slots (numbers-below s.header s.slots (parts s w).each)) refl
    ∙ unpicked (eqb s.header.connection n) _ _ e
others {s} (Moves.steps m l c f x) w n e =
    find-own m n (record { session = (line_step s c l).session; number = c.number }) c s.slots f refl ∙ unpicked (eqb m n) _ _ e
others {s} (Moves.judges u j d c v g f x) w n e =
    find-ticket u n (record { session = (after_verdict c.session u v d).session; number = c.number }) c s.slots f refl (parts s w).tickets
    ∙ unpicked (found_waits u (found (is_numbered n) s.slots)) _ _ (waits-standing u (found (is_numbered n) s.slots) ∙ e)
others {s} (Moves.ends m c f) w n e =
    find-own m n (record { session = after_mail c.session; number = c.number }) c s.slots f refl ∙ unpicked (eqb m n) _ _ e
others (Moves.tells m c f) w n e = refl
others {s} (Moves.closes m c f) w n e =
    ap (λ (k : ℕ). found (is_numbered n) (replaced (holding (is_numbered k)) none s.slots)) (found_number m c s.slots f)
    ∙ find-close m n c s.slots f (parts s w).numbers
    ∙ unpicked (eqb m n) _ _ e

for-make : (r : Request) (a : Result) (n : ℕ) (w : Standing) → is_for r a n w ≡ false → is_make r ≡ false
for-make (Requests.make c t) a n w e = e
for-make (Requests.add m f p) a n w e = refl
for-make (Requests.opens p b) a n w e = refl
for-make (Requests.line m l) a n w e = refl
for-make (Requests.verdict t v d) a n w e = refl
for-make (Requests.mail_ended m) a n w e = refl
for-make (Requests.who m) a n w e = refl
for-make (Requests.close m) a n w e = refl

pub has-taken : (i : Image) (s : Server) (n : ℕ) → taken i ≡ some s → connection_at i n ≡ found (is_numbered n) s.slots
unfolding connection_at
has-taken i s n e = ap (λ (o : Option Server). server_has o n) e

pub stands-taken : (i : Image) (s : Server) (n : ℕ) → taken i ≡ some s → seen i n ≡ look n s.slots
unfolding seen
stands-taken i s n e = ap (λ (o : Option Server). server_stands o n) e

moved : (i : Image) (r : Request) (s z : Server) (a : Result) → Lent i r s → taken (image_of z) ≡ some z → Moves s r a z → (n : ℕ)
    → is_for r a n (seen i n) ≡ false → connection_at (image_of z) n ≡ connection_at i n
moved i r s z a l f m n e =
    let t = l.taken (for-make r a n (seen i n) e) in
    has-taken (image_of z) z n f
    ∙ others m l.within n (ap (is_for r a n) (sym (stands-taken i s n t)) ∙ e)
    ∙ sym (has-taken i s n t)

pub others-stay : OthersStay
unfolding step
others-stay i c k n = go (comes i c k)
  where
    go : {o : Outcome} → Comes i (request c) o → is_for (request c) (result_in o) n (seen i n) ≡ false → connection_at (image_in i o) n ≡ connection_at i n
    go (refusal j) e = refl
    go (move s z a l f m) e = moved i (request c) s z a l (left-taken i (request c) s z a k l m) m n e

-- After each call that is not refused, how a connection stands in the server is what the call and its result tell. Assumes nothing.
use mathlib.Core.Path.{◌≡◌, refl, sym, ap, ◌∙◌}
use mathlib.Core.Bool.{Bool, true, false, cond, true≢false}
use mathlib.Core.List.{List, []}
use mathlib.Core.Option.{Option, none, some}
use Prim.Native.Nat.{ℕ, zero, suc}
use lib.Dec.{eqb}
use lib.ListN.{replicate}
use borrow.Author.Tests.{eqb-true}
use Rattle.profile.specs.declared.Profile.{Profile}
use Rattle.session.specs.Answer.{heard}
use Rattle.session.specs.MailEnded.{after_mail}
use Rattle.session.specs.Named.{waits_on}
use Rattle.session.specs.Octets.{mechanism_text}
use Rattle.session.specs.Standing.{Standing, quiet, awaits, standing, stands, is_refused}
use Rattle.session.specs.Verdict.{after_verdict}
use Rattle.session.specs.View.{view}
use Rattle.session.specs.declared.Phase.{Phase}
use Rattle.session.specs.declared.Phase.TheVariants as Phases
use Rattle.session.specs.declared.answer.Answer.{Answer}
use Rattle.session.specs.declared.answer.Answer.TheVariants as Answers
use Rattle.session.proofs.Laws.{line-stands, verdict-stands, heard-challenge}
use Rattle.lines.specs.Mechanism.{padded}
use Rattle.server.specs.Limits.{most_connections}
use Rattle.server.specs.Line.{line_step}
use Rattle.server.specs.Make.{fresh}
use Rattle.server.specs.Mechanisms.{offered}
use Rattle.server.specs.Open.{entered}
use Rattle.server.specs.Outcome.{Result, is_yes}
use Rattle.server.specs.Requests.{Request}
use Rattle.server.specs.Server.{Slot, Server}
use Rattle.server.specs.Slots.{is_numbered, holding, found, replaced}
use Rattle.server.specs.WellFormed.{number_of, well_formed}
use Rattle.server.specs.declared.Connection.{Connection}
use Rattle.server.proofs.Kept.{parts, numbers-below}
use Rattle.server.proofs.Moves.{Moves}
use Rattle.server.proofs.Slots.{found_waits, found_number, find-same, find-close, find-opened, find-ticket, none-next}
use Rattle.claims.specs.Told.{answer_tells, tells, is_waiting_on, found_stands}

-- how a connection stands
abbrev pub look : ℕ → List Slot → Standing
look n xs = found_stands (found (is_numbered n) xs)

-- what an answer that is no refusal tells is how the session stands
tells-answer : (w : Standing) (p : Profile) (d : List ℕ) (a : Answer) → is_refused a ≡ false → stands w a ≡ answer_tells a (heard p d a)
tells-answer w p d (Answers.Refused r) e = absurd (true≢false e)
tells-answer w p d (Answers.Forward i n) e = sym (ap (λ (b : Bool). cond b awaits quiet) (heard-challenge p d (Answers.Forward i n)))
tells-answer w p d (Answers.Query t b n) e = refl
tells-answer w p d (Answers.Reply r) e = sym (ap (λ (b : Bool). cond b awaits quiet) (heard-challenge p d (Answers.Reply r)))
tells-answer w p d Answers.EmptyChallenge e = sym (ap (λ (b : Bool). cond b awaits quiet) (heard-challenge p d Answers.EmptyChallenge))
tells-answer w p d Answers.Challenge e = sym (ap (λ (b : Bool). cond b awaits quiet) (heard-challenge p d Answers.Challenge))

stands-cond : (b : Bool) (x y : Option Connection) → found_stands (cond b x y) ≡ cond b (found_stands x) (found_stands y)
stands-cond true x y = refl
stands-cond false x y = refl

pub found-free : (q : Connection → Bool) (k : ℕ) → found q (replicate k none) ≡ none
unfolding found
found-free q zero = refl
found-free q (suc k) = found-free q k

-- a connection waits on the ticket that it stands waiting on
pub waits-standing : (t : ℕ) (x : Option Connection) → found_waits t x ≡ is_waiting_on t (found_stands x)
waits-standing t none = refl
waits-standing t (some c) = go c.session.phase
  where
    go : (p : Phase) → waits_on t p ≡ is_waiting_on t (standing p)
    go Phases.Idle = refl
    go Phases.SignedIn = refl
    go (Phases.Awaiting k) = refl
    go (Phases.Waiting u k) = refl

-- the number that a connection was found by is its own
pub find-own : (m n : ℕ) (y c : Connection) (xs : List Slot) → found (is_numbered m) xs ≡ some c → y.number ≡ c.number
    → found (is_numbered n) (replaced (holding (is_numbered c.number)) (some y) xs) ≡ cond (eqb m n) (some y) (found (is_numbered n) xs)
find-own m n y c xs f e =
    let k = found_number m c xs f in
    ap (λ (j : ℕ). found (is_numbered n) (replaced (holding (is_numbered j)) (some y) xs)) k ∙ find-same m n y c xs f (e ∙ k)

-- where the connection found stands as it did, nothing is told
unchanged : (m n : ℕ) (c : Connection) (xs : List Slot) → found (is_numbered m) xs ≡ some c → cond (eqb m n) (standing c.session.phase) (look n xs) ≡ look n xs
unchanged m n c xs f = go (eqb m n) refl
  where
    go : (b : Bool) → eqb m n ≡ b → cond b (standing c.session.phase) (look n xs) ≡ look n xs
    go true e = ap found_stands (sym f ∙ ap (λ (k : ℕ). found (is_numbered k) xs) (eqb-true m n e))
    go false e = refl

pub follows : {s z : Server} {r : Request} {a : Result} → Moves s r a z → well_formed s ≡ true → (n : ℕ) → look n z.slots ≡ tells r a n (look n s.slots)
follows (Moves.makes c t) w n = unfold fresh in ap found_stands (found-free (is_numbered n) most_connections)
follows (Moves.adds m f p e a l) w n = refl
follows {s} (Moves.opens j b p f e) w n =
    let y = entered s.header p (is_yes b) in
    ap found_stands
    (find-opened s.header.connection n y s.slots f
    (none-next number_of s.header.connection s.slots (numbers-below s.header s.slots (parts s w).each)) refl)
    ∙ stands-cond (eqb s.header.connection n) (some y) (found (is_numbered n) s.slots)
follows {s} (Moves.steps m l c f e) w n =
    let t = line_step s c l in
    let y : Connection = record { session = t.session; number = c.number } in
    ap found_stands (find-own m n y c s.slots f refl)
    ∙ stands-cond (eqb m n) (some y) (found (is_numbered n) s.slots)
    ∙ ap (λ (k : Standing). cond (eqb m n) k (look n s.slots))
    (line-stands c.session (view c.session l) (offered s.mechanisms (padded (mechanism_text (view c.session l) l))) s.header.ticket
    ∙ tells-answer (standing c.session.phase) c.session.profile [] t.answer e)
follows {s} (Moves.judges u j d c v g f e) w n =
    let t = after_verdict c.session u v d in
    let y : Connection = record { session = t.session; number = c.number } in
    ap found_stands (find-ticket u n y c s.slots f refl (parts s w).tickets)
    ∙ stands-cond (found_waits u (found (is_numbered n) s.slots)) (some y) (found (is_numbered n) s.slots)
    ∙ ap (λ (b : Bool). cond b (standing t.session.phase) (look n s.slots)) (waits-standing u (found (is_numbered n) s.slots))
    ∙ ap (λ (k : Standing). cond (is_waiting_on u (look n s.slots)) k (look n s.slots))
    (verdict-stands c.session u v d ∙ tells-answer (standing c.session.phase) c.session.profile d t.answer e)
follows {s} (Moves.ends m c f) w n =
    let y : Connection = record { session = after_mail c.session; number = c.number } in
    ap found_stands (find-own m n y c s.slots f refl)
    ∙ stands-cond (eqb m n) (some y) (found (is_numbered n) s.slots)
    ∙ unchanged m n c s.slots f
follows (Moves.tells m c f) w n = refl
follows {s} (Moves.closes m c f) w n =
    ap found_stands
    (ap (λ (k : ℕ). found (is_numbered n) (replaced (holding (is_numbered k)) none s.slots)) (found_number m c s.slots f)
    ∙ find-close m n c s.slots f (parts s w).numbers)
    ∙ stands-cond (eqb m n) none (found (is_numbered n) s.slots)

-- A refused call alters nothing, and 2 and 4 are given exactly when document 01 says. Assumes nothing.
use Rattle.std.specs.Prelude.{Result, Ok, Err}
use mathlib.Core.Path.{◌≡◌, refl, sym, ap, ◌∙◌}
use mathlib.Core.Bool.{Bool, true, false, cond, true≢false, false≢true}
use mathlib.Core.List.{List, [], ◌∷◌}
use mathlib.Core.Logic.{◌↔◌}
use mathlib.Core.Option.{Option, none, some, none-ne-some}
use Prim.Native.Nat.{ℕ, ◌+◌}
use native.Mathlib.Omega.{arith}
use lib.Dec.{eqb, ltb}
use Rattle.octets.proofs.Answers.{nothing_written}
use Rattle.profile.specs.declared.numbers.Refusal.{Refusal}
use Rattle.profile.specs.declared.numbers.Refusal.TheVariants as Refusals
use Rattle.profile.specs.declared.numbers.Verdict.{Verdict}
use Rattle.profile.specs.declared.numbers.Verdict.TheVariants as Verdicts
use Rattle.profile.specs.declared.Reply.TheVariants as Replies
use Rattle.profile.specs.Numbers.{verdict_of}
use Rattle.lines.specs.Mechanism.{padded}
use Rattle.session.specs.Change as Change
use Rattle.session.specs.Limits.{most_challenges}
use Rattle.session.specs.Named.{waits_on}
use Rattle.session.specs.Octets.{mechanism_text}
use Rattle.session.specs.Verdict.{given, accepted, on_ticket, after_verdict}
use Rattle.session.specs.Verdict as SessionVerdict
use Rattle.session.specs.View.{view}
use Rattle.session.specs.declared.Phase.{Phase}
use Rattle.session.specs.declared.Phase.TheVariants as Phases
use Rattle.session.specs.declared.Session.{Session}
use Rattle.session.specs.declared.answer.Answer.{Answer}
use Rattle.session.specs.declared.answer.Answer.TheVariants as Answers
use Rattle.session.proofs.Laws.{line_refusals}
use Rattle.server.specs.Close.{close_found, on_close}
use Rattle.server.specs.Line.{line_step, line_found, on_line}
use Rattle.server.specs.MailEnded.{mail_found, on_mail_ended}
use Rattle.server.specs.Mechanisms.{offered}
use Rattle.server.specs.Outcome.{refused, answered, Outcome, refuses, gives, settled}
use Rattle.server.specs.Requests.{Request, on}
use Rattle.server.specs.Server.{Slot, Server}
use Rattle.server.specs.Slots.{is_numbered, is_waiting, found}
use Rattle.server.specs.Verdict.{verdict_found, on_verdict}
use Rattle.server.specs.WellFormed.{well_formed}
use Rattle.server.specs.Who.{who_found, on_who}
use Rattle.server.specs.declared.Connection.{Connection}
use Rattle.server.proofs.Kept.{parts}
use Rattle.server.proofs.Moves.{Moves, Unrefused, moves}
use Rattle.server.proofs.Slots.{found_waits, found-own, found-waits}
use Rattle.image.specs.Image.{Image, taken}
use Rattle.image.proofs.Taken.{taken-within}
use Rattle.calls.specs.Call as Calls
use Rattle.calls.specs.Call.{Call, request, is_short}
use Rattle.calls.specs.Step.{lent, on_lent, outcome, result_in, out_of, step}
use Rattle.claims.specs.Refusals.{Unaltered, RefusedUnaltered, connection_of, NoConnectionExactly, NoTicketExactly}
use Rattle.claims.specs.Told.{is_refusal, is_waiting_on, connection_at, found_stands}
use Rattle.claims.proofs.Follows.{look, waits-standing}
use Rattle.claims.proofs.Others.{has-taken, stands-taken}
use Rattle.claims.proofs.Served.{outcome-plain}
use Rattle.claims.proofs.Steps.{given_unrefused}

-- an outcome is a refusal or gives no refusal
abbrev Plain : Outcome → Type 0
Plain o = Unrefused (λ a z. is_refusal a ≡ false) o

plain-moves : (s : Server) (r : Request) (o : Outcome) → Unrefused (Moves s r) o → Plain o
plain-moves s r (refuses k) m = tt
plain-moves s r (gives a z) m = given_unrefused m

plain-lent : (x : Option Server) (r : Request) → Plain (on_lent x r)
plain-lent none r = tt
plain-lent (some s) r = plain-moves s r (on s r) (moves s r)

plain : (i : Image) (c : Call) → Plain (outcome i c)
unfolding outcome
plain i c = go (is_short c)
  where
    go : (b : Bool) → Plain (cond b (refuses Refusals.ShortBuffer) (on_lent (lent i (request c)) (request c)))
    go true = tt
    go false = plain-lent (lent i (request c)) (request c)

unaltered : (i : Image) (r : Request) (k : Refusal) (o : Outcome) → Plain o → result_in o ≡ refused k → Unaltered i (out_of i r o)
unaltered i r k (refuses j) p e = record { image = refl; reply = nothing_written; answer = nothing_written; name = nothing_written }
unaltered i r k (gives a z) p e = absurd (true≢false (ap is_refusal (sym e) ∙ p))

pub refused_unaltered : RefusedUnaltered
unfolding step
refused_unaltered i c k e = unaltered i (request c) k (outcome i c) (plain i c) e

-- ---- 2 and 4, on an image that is taken

refused-same : (j k : Refusal) → refused j ≡ refused k → j ≡ k
refused-same j k e = cc

-- what a step of a session is settled as is a refusal where its answer is
settled-refusal : (a : Answer) (h x : List ℕ) (z : Server) (k : Refusal) → result_in (settled a (answered a h x) z) ≡ refused k → a ≡ Answers.Refused k
settled-refusal (Answers.Refused j) h x z k e = ap Answers.Refused (refused-same j k e)
settled-refusal (Answers.Forward i n) h x z k e = cc
settled-refusal (Answers.Query t b n) h x z k e = cc
settled-refusal (Answers.Reply r) h x z k e = cc
settled-refusal Answers.EmptyChallenge h x z k e = cc
settled-refusal Answers.Challenge h x z k e = cc

line-result : (s : Server) (l : List ℕ) (x : Option Connection) → result_in (line_found s l x) ≡ refused Refusals.NoConnection → x ≡ none
line-result s l none e = refl
line-result s l (some c) e =
    let o = offered s.mechanisms (padded (mechanism_text (view c.session l) l)) in
    absurd
    (false≢true
    (line_refusals c.session (view c.session l) o s.header.ticket Refusals.NoConnection
    (settled-refusal (line_step s c l).answer _ _ _ Refusals.NoConnection e)))

mail-result : (s : Server) (x : Option Connection) → result_in (mail_found s x) ≡ refused Refusals.NoConnection → x ≡ none
mail-result s none e = refl
mail-result s (some c) e = let z : ◌≡◌ {A = ℕ} 0 1 = cc in absurd (omega arith)

who-result : (s : Server) (x : Option Connection) → result_in (who_found s x) ≡ refused Refusals.NoConnection → x ≡ none
who-result s none e = refl
who-result s (some c) e = let z : ◌≡◌ {A = ℕ} 0 1 = cc in absurd (omega arith)

close-result : (s : Server) (x : Option Connection) → result_in (close_found s x) ≡ refused Refusals.NoConnection → x ≡ none
close-result s none e = refl
close-result s (some c) e = let z : ◌≡◌ {A = ℕ} 0 1 = cc in absurd (omega arith)

-- a call that names connection n and comes to what F makes of the connection that is found
module _ (i : Image) (s : Server) (t : taken i ≡ some s) (c : Call) (n : ℕ) (F : Option Connection → Outcome)
    (o : outcome i c ≡ F (found (is_numbered n) s.slots)) (absent : result_in (F none) ≡ refused Refusals.NoConnection)
    (only : (x : Option Connection) → result_in (F x) ≡ refused Refusals.NoConnection → x ≡ none) where
  exactly : ((step i c).result ≡ refused Refusals.NoConnection) ↔ (connection_at i n ≡ none)
  unfolding step
  exactly =
      let own = has-taken i s n t in
      (λ e. own ∙ only (found (is_numbered n) s.slots) (sym (ap result_in o) ∙ e), λ e. ap result_in o ∙ ap (λ (x : Option Connection). result_in (F x)) (sym own ∙ e) ∙ absent)

pub no-connection-exactly : NoConnectionExactly
unfolding on on_line on_mail_ended on_who on_close
no-connection-exactly i s t c n e h = go c e h
  where
    named : (m : ℕ) → ◌≡◌ {A = Option ℕ} (some m) (some n) → m ≡ n
    named m e = cc

    never : ◌≡◌ {A = Option ℕ} none (some n) → ⊥
    never e = let z : ◌≡◌ {A = ℕ} 0 1 = cc in omega arith

    go : (c : Call) → connection_of (request c) ≡ some n → is_short c ≡ false → ((step i c).result ≡ refused Refusals.NoConnection) ↔ (connection_at i n ≡ none)
    go (Calls.make x y) e h = absurd (never e)
    go (Calls.add x y z) e h = absurd (never e)
    go (Calls.opens x y) e h = absurd (never e)
    go (Calls.line m l r a) e h =
        rw (named m e) (exactly i s t (Calls.line n l r a) n (line_found s l) (outcome-plain i s t (Calls.line n l r a) (refl, h)) refl (line-result s l))
    go (Calls.verdict u v d r a) e h = absurd (never e)
    go (Calls.mail_ended m) e h = rw (named m e) (exactly i s t (Calls.mail_ended n) n (mail_found s) (outcome-plain i s t (Calls.mail_ended n) (refl, h)) refl (mail-result s))
    go (Calls.who m b) e h = rw (named m e) (exactly i s t (Calls.who n b) n (who_found s) (outcome-plain i s t (Calls.who n b) (refl, h)) refl (who-result s))
    go (Calls.close m) e h = rw (named m e) (exactly i s t (Calls.close n) n (close_found s) (outcome-plain i s t (Calls.close n) (refl, h)) refl (close-result s))

-- a session that waits on the ticket refuses a verdict with 5 alone
accepted-heard : (s : Session) (j : ℕ) (v : Verdict) (d : List ℕ) (k : Refusal) → (accepted s j v d).answer ≡ Answers.Refused k → ⊥
accepted-heard s j Verdicts.Challenge d k e = go (ltb j most_challenges) e
  where
    go : (b : Bool) → (cond b (Change.moves s (Phases.Awaiting (j + 1)) Answers.Challenge) (Change.fails s Replies.Temporary)).answer ≡ Answers.Refused k → ⊥
    go true f = let z : ◌≡◌ {A = ℕ} 0 1 = cc in omega arith
    go false f = let z : ◌≡◌ {A = ℕ} 0 1 = cc in omega arith
accepted-heard s j Verdicts.Success d k e = let z : ◌≡◌ {A = ℕ} 0 1 = cc in omega arith
accepted-heard s j Verdicts.Rejected d k e = let z : ◌≡◌ {A = ℕ} 0 1 = cc in omega arith
accepted-heard s j Verdicts.Temporary d k e = let z : ◌≡◌ {A = ℕ} 0 1 = cc in omega arith
accepted-heard s j Verdicts.Transition d k e = let z : ◌≡◌ {A = ℕ} 0 1 = cc in omega arith
accepted-heard s j Verdicts.Weak d k e = let z : ◌≡◌ {A = ℕ} 0 1 = cc in omega arith

judged-refusal : (s : Session) (t : ℕ) (v : Verdict) (d : List ℕ) (k : Refusal) → waits_on t s.phase ≡ true → (after_verdict s t v d).answer ≡ Answers.Refused k
    → k ≡ Refusals.NotListed
unfolding after_verdict SessionVerdict.on_verdict
judged-refusal s t v d k w e = go s.phase w e
  where
    data-judged : (j : ℕ) (b : Bool) → (cond b (accepted s j v d) (Change.stepped s (Change.refuses s Refusals.NotListed))).answer ≡ Answers.Refused k → k ≡ Refusals.NotListed
    data-judged j true f = absurd (accepted-heard s j v d k f)
    data-judged j false f = cc

    go : (p : Phase) → waits_on t p ≡ true → (on_ticket p s t v d).answer ≡ Answers.Refused k → k ≡ Refusals.NotListed
    go Phases.Idle h f = absurd (false≢true h)
    go Phases.SignedIn h f = absurd (false≢true h)
    go (Phases.Awaiting j) h f = absurd (false≢true h)
    go (Phases.Waiting u j) h f = data-judged j (given v d) (rw h at f)

ticket-result : (s : Server) (t : ℕ) (v : Result Verdict Refusal) (d : List ℕ) (x : Option Connection) → found (is_waiting t) s.slots ≡ x
    → result_in (verdict_found s t v d x) ≡ refused Refusals.NoTicket → x ≡ none
ticket-result s t v d none f e = refl
ticket-result s t (Err r) d (some c) f e = let z : ◌≡◌ {A = ℕ} 0 1 = cc in absurd (omega arith)
ticket-result s t (Ok v) d (some c) f e =
    let k : Refusals.NoTicket ≡ Refusals.NotListed =
    judged-refusal c.session t v d Refusals.NoTicket (found-waits t c s.slots f)
    (settled-refusal (after_verdict c.session t v d).answer _ _ _ Refusals.NoTicket e) in
    let z : ◌≡◌ {A = ℕ} 0 1 = cc in
    absurd (omega arith)

-- nobody waits on a ticket that no connection is found by, and the other way round
nobody-found : (t n : ℕ) (xs : List Slot) → found (is_waiting t) xs ≡ none → found_waits t (found (is_numbered n) xs) ≡ false
unfolding found
nobody-found t n [] e = refl
nobody-found t n (none ∷ xs) e = nobody-found t n xs e
nobody-found t n (some x ∷ xs) e = go (is_waiting t x) refl (eqb x.number n) refl (nobody-found t n xs)
  where
    go : (a : Bool) → is_waiting t x ≡ a → (b : Bool) → eqb x.number n ≡ b → (found (is_waiting t) xs ≡ none → found_waits t (found (is_numbered n) xs) ≡ false)
        → found_waits t (found (is_numbered n) (some x ∷ xs)) ≡ false
    go true ea b eb ih = let r : some x ≡ none = rw ea at e in absurd (none-ne-some x (sym r))
    go false ea true eb ih = rw (eb, ea)
    go false ea false eb ih = rw eb (ih (rw ea at e))

found-nobody : (t : ℕ) (s : Server) → well_formed s ≡ true → ((n : ℕ) → is_waiting_on t (look n s.slots) ≡ false) → found (is_waiting t) s.slots ≡ none
found-nobody t s w f = go (found (is_waiting t) s.slots) refl
  where
    go : (x : Option Connection) → found (is_waiting t) s.slots ≡ x → x ≡ none
    go none e = refl
    go (some c) e =
        let o = found-own (is_waiting t) c s.slots e (parts s w).numbers in
        absurd
        (true≢false
        (sym (found-waits t c s.slots e)
        ∙ waits-standing t (some c)
        ∙ ap (λ (y : Option Connection). is_waiting_on t (found_stands y)) (sym o)
        ∙ f c.number))

pub no-ticket-exactly : NoTicketExactly
unfolding step outcome on on_verdict
no-ticket-exactly i s t n v d r a e = (
  λ f m.
      ap (is_waiting_on n) (stands-taken i s m t)
      ∙ sym (waits-standing n (found (is_numbered m) s.slots))
      ∙ nobody-found n m s.slots (ticket-result s n (verdict_of v) d (found (is_waiting n) s.slots) refl (rw (e, t) at f)),
  λ g.
      rw (e, t)
      (ap (λ (x : Option Connection). result_in (verdict_found s n (verdict_of v) d x))
      (found-nobody n s (taken-within i s t) (λ m. ap (is_waiting_on n) (sym (stands-taken i s m t)) ∙ g m))),
)

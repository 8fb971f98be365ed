-- The ticket that a session waits on after a step, and the next ticket then. Assumes nothing.
use Rattle.std.specs.Prelude as Rust
use Rattle.std.specs.Prelude.{Some, None, Result, Ok, Err}
use mathlib.Core.Path.{◌≡◌, refl, sym, ap, ◌∙◌}
use mathlib.Core.Bool.{Bool, true, false, not, ◌&&◌, false≢true, true≢false}
use mathlib.Core.List.{List}
use mathlib.Core.Option.{Option, none, some}
use Prim.Native.Nat.{ℕ, ◌+◌, ◌<◌, ◌≤◌}
use native.Mathlib.Omega.{arith}
use lib.Dec.{eqb, ltb}
use borrow.Author.Tests.{eqb-false, ltb-true, lt-ltb}
use Rattle.octets.proofs.Cases.{both, below}
use Rattle.profile.specs.declared.numbers.Verdict.{Verdict}
use Rattle.session.specs.Limits.{unissued}
use Rattle.session.specs.Line.{after_line}
use Rattle.session.specs.Measures.{Measures}
use Rattle.session.specs.Named.{waits_on}
use Rattle.session.specs.Standing.{Standing, quiet, awaits, waits, standing, stands, is_heard, is_refused}
use Rattle.session.specs.Verdict.{given, after_verdict}
use Rattle.session.specs.View.{view}
use Rattle.session.specs.declared.Phase.{Phase}
use Rattle.session.specs.declared.Phase.TheVariants as Phases
use Rattle.session.specs.declared.Session.{Session}
use Rattle.session.specs.declared.answer.Answer.{Answer}
use Rattle.session.specs.declared.answer.Answer.TheVariants as Answers
use Rattle.session.specs.declared.view.Offer.{Offer}
use Rattle.session.specs.declared.view.View.{View}
use Rattle.session.proofs.Laws.{line-stands, verdict-stands, verdict-heard, verdict-refuses, line-measures}
use Rattle.server.specs.declared.Header.{Header}
use Rattle.server.specs.Limits.{number_bound}
use Rattle.server.specs.Line.{issues}
use Rattle.server.specs.WellFormed.{phase_ticket, is_below, header_within}
use Rattle.server.proofs.Slots.{Rekeyed, dropped, issued}

-- the ticket of a query
abbrev pub query_ticket : Answer → Option ℕ
query_ticket (Answers.Refused r) = none
query_ticket (Answers.Forward i n) = none
query_ticket (Answers.Query t b n) = some t
query_ticket (Answers.Reply e) = none
query_ticket Answers.EmptyChallenge = none
query_ticket Answers.Challenge = none

abbrev standing_ticket : Standing → Option ℕ
standing_ticket quiet = none
standing_ticket awaits = none
standing_ticket (waits t) = some t

phase-standing : (p : Phase) → phase_ticket p ≡ standing_ticket (standing p)
phase-standing Phases.Idle = refl
phase-standing Phases.SignedIn = refl
phase-standing (Phases.Awaiting k) = refl
phase-standing (Phases.Waiting t k) = refl

stands-query : (w : Standing) (a : Answer) → is_refused a ≡ false → standing_ticket (stands w a) ≡ query_ticket a
stands-query w (Answers.Refused r) e = absurd (true≢false e)
stands-query w (Answers.Forward i n) e = refl
stands-query w (Answers.Query t b n) e = refl
stands-query w (Answers.Reply r) e = refl
stands-query w Answers.EmptyChallenge e = refl
stands-query w Answers.Challenge e = refl

pub line-ticket : (s : Session) (v : View) (o : Rust.Option Offer) (t : ℕ) → is_refused (after_line s v o t).answer ≡ false
    → phase_ticket (after_line s v o t).session.phase ≡ query_ticket (after_line s v o t).answer
line-ticket s v o t e =
    phase-standing (after_line s v o t).session.phase ∙ ap standing_ticket (line-stands s v o t) ∙ stands-query (standing s.phase) (after_line s v o t).answer e

pub verdict-ticket : (s : Session) (t : ℕ) (v : Verdict) (d : List ℕ) → is_refused (after_verdict s t v d).answer ≡ false
    → phase_ticket (after_verdict s t v d).session.phase ≡ query_ticket (after_verdict s t v d).answer
verdict-ticket s t v d e =
    phase-standing (after_verdict s t v d).session.phase
    ∙ ap standing_ticket (verdict-stands s t v d)
    ∙ stands-query (standing s.phase) (after_verdict s t v d).answer e

-- "Each issue takes the next number; 2^64-1 is never issued."
abbrev pub Issues : ℕ → Answer → Type 0
Issues t (Answers.Refused r) = Unit {0}
Issues t (Answers.Forward i n) = Unit {0}
Issues t (Answers.Query u b n) = (u ≡ t) × (eqb u unissued ≡ false)
Issues t (Answers.Reply e) = Unit {0}
Issues t Answers.EmptyChallenge = Unit {0}
Issues t Answers.Challenge = Unit {0}

measures-issues : (v : View) (l : List ℕ) (t : ℕ) (a : Answer) → Measures v l t a → Issues t a
measures-issues v l t (Answers.Refused r) m = tt
measures-issues v l t (Answers.Forward i n) m = tt
measures-issues v l t (Answers.Query u b n) m = (m.ticket, m.issued)
measures-issues v l t (Answers.Reply e) m = tt
measures-issues v l t Answers.EmptyChallenge m = tt
measures-issues v l t Answers.Challenge m = tt

pub line-issues : (l : List ℕ) (s : Session) (o : Rust.Option Offer) (t : ℕ) → Issues t (after_line s (view s l) o t).answer
line-issues l s o t = measures-issues (view s l) l t (after_line s (view s l) o t).answer (line-measures l s o t)

heard-issues : (t : ℕ) (a : Answer) → is_heard a ≡ true → Issues t a
heard-issues t (Answers.Refused r) e = tt
heard-issues t (Answers.Forward i n) e = tt
heard-issues t (Answers.Query u b n) e = absurd (false≢true e)
heard-issues t (Answers.Reply r) e = tt
heard-issues t Answers.EmptyChallenge e = tt
heard-issues t Answers.Challenge e = tt

-- a verdict that is not refused is heard: it asks nothing
pub verdict-heard-one : (s : Session) (t : ℕ) (v : Verdict) (d : List ℕ) → is_refused (after_verdict s t v d).answer ≡ false → is_heard (after_verdict s t v d).answer ≡ true
verdict-heard-one s t v d e = verdict-heard s t v d ∙ not-not (waits_on t s.phase && given v d) (sym (verdict-refuses s t v d) ∙ e)
  where
    not-not : (b : Bool) → not b ≡ false → b ≡ true
    not-not true h = refl
    not-not false h = absurd (true≢false h)

pub verdict-issues : (s : Session) (t u : ℕ) (v : Verdict) (d : List ℕ) → is_refused (after_verdict s t v d).answer ≡ false → Issues u (after_verdict s t v d).answer
verdict-issues s t u v d e = heard-issues u (after_verdict s t v d).answer (verdict-heard-one s t v d e)

-- what comes of the header
pub record Issued (h : Header) (a : Answer) : Type 0 where
  pub below : is_below (query_ticket a) (issues a h).ticket ≡ true
  pub rekeyed : (k : Option ℕ) → Rekeyed h.ticket k (query_ticket a)
  pub within : header_within (issues a h) ≡ true
  pub grows : h.ticket ≤ (issues a h).ticket

next-below : (t u : ℕ) → u ≡ t → ltb u (t + 1) ≡ true
next-below t u e = lt-ltb u (t + 1) (omega arith)

-- a number that is not the last has a next one
pub next-number : (t : ℕ) → t < number_bound → eqb t unissued ≡ false → t + 1 < number_bound
next-number t l f = below (t + 1) number_bound (λ h. h) (λ h. absurd (eqb-false t unissued f (omega arith)))

next-within : (c t u : ℕ) → u ≡ t → eqb u unissued ≡ false → (ltb c number_bound && ltb t number_bound) ≡ true → (ltb c number_bound && ltb (t + 1) number_bound) ≡ true
next-within c t u e f w =
    let p = both (ltb c number_bound) (ltb t number_bound) w in
    rw p.0 (lt-ltb (t + 1) number_bound (next-number t (ltb-true t number_bound p.1) (ap (λ (k : ℕ). eqb k unissued) (sym e) ∙ f)))

pub header-issued : (h : Header) (a : Answer) → Issues h.ticket a → header_within h ≡ true → Issued h a
unfolding header_within
header-issued h (Answers.Refused r) i w = record { below = refl; rekeyed = λ k. dropped; within = w; grows = omega arith }
header-issued h (Answers.Forward x n) i w = record { below = refl; rekeyed = λ k. dropped; within = w; grows = omega arith }
header-issued h (Answers.Query u b n) i w =
    record {
      below = next-below h.ticket u i.0;
      rekeyed = λ k. rw i.0 issued;
      within = next-within h.connection h.ticket u i.0 i.1 w;
      grows = omega arith;
    }
header-issued h (Answers.Reply e) i w = record { below = refl; rekeyed = λ k. dropped; within = w; grows = omega arith }
header-issued h Answers.EmptyChallenge i w = record { below = refl; rekeyed = λ k. dropped; within = w; grows = omega arith }
header-issued h Answers.Challenge i w = record { below = refl; rekeyed = λ k. dropped; within = w; grows = omega arith }

-- What a call that is not refused does to the next ticket and the next connection number. Assumes nothing.
use mathlib.Core.Path.{◌≡◌, sym, ap, ◌∙◌}
use mathlib.Core.Bool.{true, false, cond, true≢false}
use mathlib.Core.List.{List, ◌∷◌}
use Prim.Native.Nat.{ℕ, ◌+◌, ◌<◌}
use native.Mathlib.Omega.{arith}
use lib.Dec.{eqb}
use Rattle.lines.specs.Mechanism.{padded}
use Rattle.session.specs.Limits.{unissued}
use Rattle.session.specs.Octets.{mechanism_text}
use Rattle.session.specs.Verdict.{after_verdict}
use Rattle.session.specs.View.{view}
use Rattle.session.specs.declared.answer.Answer.{Answer}
use Rattle.session.specs.declared.answer.Answer.TheVariants as Answers
use Rattle.server.specs.Limits.{number_bound}
use Rattle.server.specs.Line.{is_query, line_step}
use Rattle.server.specs.Mechanisms.{offered}
use Rattle.server.specs.Outcome.{Result}
use Rattle.server.specs.Requests.{Request}
use Rattle.server.specs.Server.{Server}
use Rattle.server.specs.WellFormed.{well_formed}
use Rattle.server.proofs.Issues.{Issues, line-issues, verdict-issues, next-number}
use Rattle.server.proofs.Kept.{parts}
use Rattle.server.proofs.Within.{header-parts}
use Rattle.server.proofs.Moves.{Moves}
use Rattle.claims.proofs.Steps.{is_make}
use Rattle.claims.specs.Numbers.{ticket_in, issues_ticket, issues_number}

-- "Each issue takes the next number": the next one and those that were issued, before a call and after it
pub data Counts (k : ℕ) (l : List ℕ) : ℕ → List ℕ → Type 0 where
  same : Counts k l k l
  next : k < unissued → Counts k l (k + 1) (k ∷ l)

below-unissued : (k : ℕ) → k < number_bound → eqb k unissued ≡ false → k < unissued
below-unissued k h e = let n = next-number k h e in omega arith

header-below : (s : Server) → well_formed s ≡ true → (s.header.connection < number_bound) × (s.header.ticket < number_bound)
header-below s w = header-parts s.header (parts s w).header

answer-counts : (k : ℕ) → k < number_bound → (l : List ℕ) (a : Answer) → Issues k a → Counts k l (cond (is_query a) (k + 1) k) (ticket_in a l)
answer-counts k h l (Answers.Refused r) i = same
answer-counts k h l (Answers.Forward x n) i = same
answer-counts k h l (Answers.Query u b n) i = rw i.0 (next (below-unissued k h (ap (λ (j : ℕ). eqb j unissued) (sym i.0) ∙ i.1)))
answer-counts k h l (Answers.Reply e) i = same
answer-counts k h l Answers.EmptyChallenge i = same
answer-counts k h l Answers.Challenge i = same

pub ticket-counts : {s z : Server} {q : Request} {a : Result} → Moves s q a z → well_formed s ≡ true → is_make q ≡ false
    → (l : List ℕ) → Counts s.header.ticket l z.header.ticket (issues_ticket a l)
ticket-counts (Moves.makes c t) w e l = absurd (true≢false e)
ticket-counts (Moves.adds m f p g a i) w e l = same
ticket-counts (Moves.opens j b p f g) w e l = same
ticket-counts {s} (Moves.steps m x c f g) w e l =
    answer-counts s.header.ticket (header-below s w).1 l (line_step s c x).answer
    (line-issues x c.session (offered s.mechanisms (padded (mechanism_text (view c.session x) x))) s.header.ticket)
ticket-counts {s} (Moves.judges t k d c v i f g) w e l =
    answer-counts s.header.ticket (header-below s w).1 l (after_verdict c.session t v d).answer (verdict-issues c.session t s.header.ticket v d g)
ticket-counts (Moves.ends m c f) w e l = same
ticket-counts (Moves.tells m c f) w e l = same
ticket-counts (Moves.closes m c f) w e l = same

pub number_counts : {s z : Server} {q : Request} {a : Result} → Moves s q a z → well_formed s ≡ true → is_make q ≡ false
    → (l : List ℕ) → Counts s.header.connection l z.header.connection (issues_number a l)
number_counts (Moves.makes c t) w e l = absurd (true≢false e)
number_counts (Moves.adds m f p g a i) w e l = same
number_counts {s} (Moves.opens j b p f g) w e l = next (below-unissued s.header.connection (header-below s w).0 g)
number_counts (Moves.steps m x c f g) w e l = same
number_counts (Moves.judges t k d c v i f g) w e l = same
number_counts (Moves.ends m c f) w e l = same
number_counts (Moves.tells m c f) w e l = same
number_counts (Moves.closes m c f) w e l = same

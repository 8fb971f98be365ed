-- The connection numbers and tickets that calls issue: "Each issue takes the next number; 2^64-1 is never issued."
use Rattle.std.specs.Prelude.{◌≡◌, List, [], ◌∷◌, ℕ, zero, suc, ◌+◌, ◌<◌, length}
use Rattle.session.specs.Limits.{unissued}
use Rattle.session.specs.declared.answer.Answer.{Answer}
use Rattle.session.specs.declared.answer.Answer.TheVariants as Answers
use Rattle.server.specs.Outcome.{Result, refused, done, opened, answered, borne}
use Rattle.server.specs.Requests as Requests
use Rattle.server.specs.Requests.{Sized}
use Rattle.image.specs.Image.{Image}
use Rattle.calls.specs.Call as Calls
use Rattle.calls.specs.Call.{Call}
use Rattle.claims.specs.Told.{Made}
use Rattle.claims.specs.History.{history, NoMake, OfEveryList}

-- the tickets, and the connection numbers, that calls issued, the last one first
abbrev pub ticket_in : Answer → List ℕ → List ℕ
ticket_in (Answers.Refused r) ts = ts
ticket_in (Answers.Forward i n) ts = ts
ticket_in (Answers.Query t b n) ts = t ∷ ts
ticket_in (Answers.Reply e) ts = ts
ticket_in Answers.EmptyChallenge ts = ts
ticket_in Answers.Challenge ts = ts

abbrev pub issues_ticket : Result → List ℕ → List ℕ
issues_ticket (refused k) ts = ts
issues_ticket done ts = ts
issues_ticket (opened n) ts = ts
issues_ticket (answered a h x) ts = ticket_in a ts
issues_ticket (borne n) ts = ts

abbrev pub issues_number : Result → List ℕ → List ℕ
issues_number (refused k) ns = ns
issues_number done ns = ns
issues_number (opened n) ns = n ∷ ns
issues_number (answered a h x) ns = ns
issues_number (borne n) ns = ns

unfoldable pub tickets : List Made → List ℕ
tickets [] = []
tickets (e ∷ h) = issues_ticket e.result (tickets h)

unfoldable pub connections : List Made → List ℕ
connections [] = []
connections (e ∷ h) = issues_number e.result (connections h)

-- each is above all that were issued before it, and "2^64-1 is never issued"
unfoldable pub Above : ℕ → List ℕ → Type 0
Above n [] = Unit {0}
Above n (m ∷ l) = (m < n) × Above n l

unfoldable pub Rising : List ℕ → Type 0
Rising [] = Unit {0}
Rising (n ∷ l) = (n < unissued) × Above n l × Rising l

-- tickets and connection numbers are issued once, and rise
abbrev pub NumbersRise : Type 0
NumbersRise = OfEveryList (λ h i. Rising (tickets h) × Rising (connections h))

-- k numbers from n on, the last one first
unfoldable pub counted : ℕ → ℕ → List ℕ
counted n zero = []
counted n (suc k) = (n + k) ∷ counted n k

-- "Each issue takes the next number": from the first connection number c and the first ticket t on
pub record CountedFrom (c t : ℕ) (h : List Made) : Type 0 where
  pub tickets : tickets h ≡ counted t (length (tickets h))
  pub connections : connections h ≡ counted c (length (connections h))

abbrev pub NumbersNext : Type 0
NumbersNext =
    (i : Image) (c t : ℕ) (cs : List Call) → Sized (Requests.make c t) → NoMake cs → CountedFrom c t (history [] i (Calls.make c t ∷ cs))

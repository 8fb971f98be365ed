-- The second demand: "A connection bears a name only through a success verdict on a ticket issued to that connection. Ending it voids its ticket."
use Rattle.std.specs.Prelude.{◌≡◌, Bool, true, false, cond, List, ◌∷◌, ◌↔◌, ℕ, eqb}
use Rattle.std.proofs.Math.Option.{Option, none, some}
use Rattle.profile.specs.Numbers.{verdict_number}
use Rattle.profile.specs.declared.numbers.Refusal.TheVariants as Refusals
use Rattle.profile.specs.declared.numbers.Verdict.TheVariants as Verdicts
use Rattle.session.specs.declared.answer.Answer.TheVariants as Answers
use Rattle.server.specs.Outcome.{Result, refused, done, opened, answered, borne}
use Rattle.server.specs.Requests as Requests
use Rattle.server.specs.Requests.{Request}
use Rattle.server.specs.declared.Connection.{Connection}
use Rattle.calls.specs.Call as Calls
use Rattle.calls.specs.Call.{Call, is_short}
use Rattle.calls.specs.Step.{step, left}
use Rattle.claims.specs.Told.{Made, made, is_refusal, is_opened, connection_at}
use Rattle.claims.specs.History.{NoMake, OfEveryList}

-- what ends all that was known of connection n: a make, its opening, its close, where they are not refused
abbrev pub ends_by : Request → Result → ℕ → Bool
ends_by (Requests.make c t) r n = true
ends_by (Requests.add m f p) r n = false
ends_by (Requests.opens p b) r n = is_opened n r
ends_by (Requests.line m l) r n = false
ends_by (Requests.verdict t v d) r n = false
ends_by (Requests.mail_ended m) r n = false
ends_by (Requests.who m) r n = false
ends_by (Requests.close m) r n = eqb m n

abbrev pub ends : Made → ℕ → Bool
ends e n = cond (is_refusal e.result) false (ends_by e.request e.result n)

-- connection n was opened, and not closed since
pub data Open (n : ℕ) : List Made → Type 0 where
  opens : {p b : ℕ} {h : List Made} → Open n (made (Requests.opens p b) (opened n) ∷ h)
  still : {e : Made} {h : List Made} → ends e n ≡ false → Open n h → Open n (e ∷ h)

-- since its opening ticket t was issued to connection n, by a query on a line of its own
pub data Issued (n t : ℕ) : List Made → Type 0 where
  asks : {l x y : List ℕ} {b : Bool} {k : ℕ} {h : List Made} → Open n h
      → Issued n t (made (Requests.line n l) (answered (Answers.Query t b k) x y) ∷ h)
  still : {e : Made} {h : List Made} → ends e n ≡ false → Issued n t h → Issued n t (e ∷ h)

-- since its opening a success verdict with the name l was not refused, on a ticket that was issued to connection n since its opening
pub data Granted (n : ℕ) (l : List ℕ) : List Made → Type 0 where
  grants : {t : ℕ} {r : Result} {h : List Made} → is_refusal r ≡ false → Issued n t h
      → Granted n l (made (Requests.verdict t (verdict_number Verdicts.Success) l) r ∷ h)
  still : {e : Made} {h : List Made} → ends e n ≡ false → Granted n l h → Granted n l (e ∷ h)

-- a connection is open exactly when it was opened and not closed since
abbrev pub is_there : Option Connection → Bool
is_there none = false
is_there (some c) = true

abbrev pub OpenExactly : Type 0
OpenExactly = OfEveryList (λ h i. (n : ℕ) → (is_there (connection_at i n) ≡ true) ↔ Open n h)

-- "A connection bears a name only through a success verdict on a ticket issued to that connection": whom `who` names
abbrev pub NamesGranted : Type 0
NamesGranted = OfEveryList (λ h i. (n : ℕ) (b l : List ℕ) → (step i (Calls.who n b)).result ≡ borne (some l) → Granted n l h)

-- and whoever was granted a name is named by it
abbrev pub GrantedNames : Type 0
GrantedNames =
    OfEveryList (λ h i. (n : ℕ) (b l : List ℕ) → Granted n l h → is_short (Calls.who n b) ≡ false → (step i (Calls.who n b)).result ≡ borne (some l))

-- "Ending it voids its ticket": after a close of connection n, every later verdict on any ticket that was issued to it is refused
abbrev pub CloseVoids : Type 0
CloseVoids =
    OfEveryList
    (λ h i. (n t : ℕ) → Issued n t h → (step i (Calls.close n)).result ≡ done
    → (cs : List Call) → NoMake cs → (v : ℕ) (d r a : List ℕ) → is_short (Calls.verdict t v d r a) ≡ false
    → (step (left (step i (Calls.close n)).image cs) (Calls.verdict t v d r a)).result ≡ refused Refusals.NoTicket)

-- a ticket is answered once: after a verdict that was not refused, every later one on its ticket is
abbrev pub AnswerVoids : Type 0
AnswerVoids =
    OfEveryList
    (λ h i. (t u : ℕ) (x y z : List ℕ) → is_refusal (step i (Calls.verdict t u x y z)).result ≡ false
    → (cs : List Call) → NoMake cs → (v : ℕ) (d r a : List ℕ) → is_short (Calls.verdict t v d r a) ≡ false
    → (step (left (step i (Calls.verdict t u x y z)).image cs) (Calls.verdict t v d r a)).result ≡ refused Refusals.NoTicket)

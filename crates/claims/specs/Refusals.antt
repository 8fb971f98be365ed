-- The first demand's second sentence: "A bad connection, ticket, verdict, name, buffer or desk image gets its numbered refusal, and a refused call
-- alters neither the desk nor a lent buffer."
use Rattle.std.specs.Prelude.{◌≡◌, false, List, ◌↔◌, ℕ}
use Rattle.std.proofs.Math.Option.{Option, none, some}
use Rattle.profile.specs.declared.numbers.Refusal.{Refusal}
use Rattle.profile.specs.declared.numbers.Refusal.TheVariants.{NoConnection, NoTicket}
use Rattle.server.specs.Outcome.{refused}
use Rattle.server.specs.Requests as Requests
use Rattle.server.specs.Requests.{Request}
use Rattle.server.specs.Server.{Server}
use Rattle.image.specs.Image.{Image, taken}
use Rattle.calls.specs.Buffers.{reply_after, answer_after, name_after}
use Rattle.calls.specs.Call.{Call, verdict, request, is_short}
use Rattle.calls.specs.Step.{Out, step}
use Rattle.claims.specs.Told.{is_waiting_on, connection_at, seen}

-- an image is left as it was lent, and so is every buffer b
pub record Unaltered (i : Image) (o : Out) : Type 0 where
  pub image : o.image ≡ i
  pub reply : (b : List ℕ) → reply_after o b ≡ b
  pub answer : (b : List ℕ) → answer_after o b ≡ b
  pub name : (b : List ℕ) → name_after o b ≡ b

abbrev pub RefusedUnaltered : Type 0
RefusedUnaltered = (i : Image) (c : Call) (k : Refusal) → (step i c).result ≡ refused k → Unaltered i (step i c)

-- 2 and 4 are given exactly when the image, one that is taken, has no connection with the number that a call names, or none that waits on the
-- ticket (document 01, the table of refusals). A buffer that is too short is refused first.
-- The connection that a call names by its number:
abbrev pub connection_of : Request → Option ℕ
connection_of (Requests.make c t) = none
connection_of (Requests.add m f p) = none
connection_of (Requests.opens p b) = none
connection_of (Requests.line n l) = some n
connection_of (Requests.verdict t v d) = none
connection_of (Requests.mail_ended n) = some n
connection_of (Requests.who n) = some n
connection_of (Requests.close n) = some n

abbrev pub NoConnectionExactly : Type 0
NoConnectionExactly =
    (i : Image) (s : Server) → taken i ≡ some s → (c : Call) (n : ℕ) → connection_of (request c) ≡ some n → is_short c ≡ false
    → ((step i c).result ≡ refused NoConnection) ↔ (connection_at i n ≡ none)

abbrev pub NoTicketExactly : Type 0
NoTicketExactly =
    (i : Image) (s : Server) → taken i ≡ some s → (t v : ℕ) (d r a : List ℕ) → is_short (verdict t v d r a) ≡ false
    → ((step i (verdict t v d r a)).result ≡ refused NoTicket) ↔ ((n : ℕ) → is_waiting_on t (seen i n) ≡ false)

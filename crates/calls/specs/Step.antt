-- One call on an image, and a list of calls, each lent the image that the one before left.
use Rattle.std.specs.Prelude.{Bool, false, cond, List, [], ◌∷◌, ℕ, eqb, length}
use Rattle.std.proofs.Math.Option.{Option, none, some}
use Rattle.profile.specs.declared.numbers.Refusal.TheVariants.{ShortBuffer, NotTaken}
use Rattle.server.specs.Line.{is_query, response_on}
use Rattle.server.specs.Make.{fresh}
use Rattle.server.specs.Outcome.{Result, refused, done, opened, answered, borne, Outcome, refuses, gives}
use Rattle.server.specs.Requests.{Request, make, add, opens, line, verdict, mail_ended, who, close, on}
use Rattle.server.specs.Server.{Server}
use Rattle.image.specs.Image.{Image, image_of, taken}
use Rattle.image.specs.Sizes.{image_size}
use Rattle.calls.specs.Call.{Call, request, is_short}

-- refusal 20: "the lent image is not one taken (make, which takes any content: not of the fixed length)"; else the server that the call is on, of make the fresh one
abbrev pub lent : Image → Request → Option Server
lent i (make c t) = cond (eqb (length i) image_size) (some (fresh c t)) none
lent i (add n f p) = taken i
lent i (opens p b) = taken i
lent i (line n l) = taken i
lent i (verdict t v d) = taken i
lent i (mail_ended n) = taken i
lent i (who n) = taken i
lent i (close n) = taken i

abbrev pub on_lent : Option Server → Request → Outcome
on_lent none r = refuses NotTaken
on_lent (some s) r = on s r

-- "Order: 1; 20; then 2 or 4; 3; 5; 6; 7. For mechanisms: 20, 5, 11, 8, 9, 10."
unfoldable pub outcome : Image → Call → Outcome
outcome i c = cond (is_short c) (refuses ShortBuffer) (on_lent (lent i (request c)) (request c))

abbrev pub result_in : Outcome → Result
result_in (refuses k) = refused k
result_in (gives r s) = r

-- "Every refusal .. leaves desk and buffers unchanged."
abbrev pub image_in : Image → Outcome → Image
image_in i (refuses k) = i
image_in i (gives r s) = image_of s

-- the octets of the response that a line has
abbrev pub response_lent : Option Server → Request → List ℕ
response_lent none r = []
response_lent (some s) (make c t) = []
response_lent (some s) (add n f p) = []
response_lent (some s) (opens p b) = []
response_lent (some s) (line n l) = response_on s n l
response_lent (some s) (verdict t v d) = []
response_lent (some s) (mail_ended n) = []
response_lent (some s) (who n) = []
response_lent (some s) (close n) = []

-- a query (document 01: a question)
abbrev pub is_queried : Result → Bool
is_queried (refused k) = false
is_queried done = false
is_queried (opened n) = false
is_queried (answered a h x) = is_query a
is_queried (borne n) = false

-- the octets of an address to relay
abbrev pub relayed_in : Result → List ℕ
relayed_in (refused k) = []
relayed_in done = []
relayed_in (opened n) = []
relayed_in (answered a h x) = x
relayed_in (borne n) = []

-- what a call gives, the octets that it hands over in the answer buffer, and the image that it leaves
pub record Out : Type 0 where
  pub result : Result
  pub handed : List ℕ
  pub image : Image

abbrev pub out_of : Image → Request → Outcome → Out
out_of i r o =
    record {
      result = result_in o;
      handed = cond (is_queried (result_in o)) (response_lent (lent i r) r) (relayed_in (result_in o));
      image = image_in i o;
    }

unfoldable pub step : Image → Call → Out
step i c = out_of i (request c) (outcome i c)

-- "each call is lent the desk that the one before left"
unfoldable pub run : Image → List Call → List Out
run i [] = []
run i (c ∷ cs) = step i c ∷ run (step i c).image cs

-- the image that the last of them leaves
unfoldable pub left : Image → List Call → Image
left i [] = i
left i (c ∷ cs) = left (step i c).image cs

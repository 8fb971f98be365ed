-- How a connection stands, told from the calls and from what they gave: "An open connection awaits an answer, told from the first run, when the
-- last line or verdict for it since its opening that was not refused had a challenge as its reply; one still open from the first image, with
-- no such call yet, when that image's desk has it so."
--
-- A verdict names a ticket. It is for the connection that waits on it, and a connection waits on the ticket of its last query.
use Rattle.std.specs.Prelude.{Bool, true, false, cond, List, [], ◌∷◌, ℕ, eqb}
use Rattle.std.proofs.Math.Option.{Option, none, some}
use Rattle.profile.specs.Texts.{is_challenge}
use Rattle.session.specs.Standing.{Standing, quiet, awaits, waits, standing}
use Rattle.session.specs.declared.answer.Answer.{Answer}
use Rattle.session.specs.declared.answer.Answer.TheVariants as Answers
use Rattle.server.specs.Outcome.{Result, refused, done, opened, answered, borne}
use Rattle.server.specs.Requests.{Request, make, add, opens, line, verdict, mail_ended, who, close}
use Rattle.server.specs.Server.{Server}
use Rattle.server.specs.Slots.{is_numbered, found}
use Rattle.server.specs.declared.Connection.{Connection}
use Rattle.image.specs.Image.{Image, taken}

-- a call that was made, and what it gave
pub record Made : Type 0 where
  pub request : Request
  pub result : Result

abbrev pub made : Request → Result → Made
made q r = record { request = q; result = r }

abbrev pub is_refusal : Result → Bool
is_refusal (refused k) = true
is_refusal done = false
is_refusal (opened n) = false
is_refusal (answered a h x) = false
is_refusal (borne n) = false

-- after a line or a verdict: a query's ticket is waited on; a challenge, known by what the client hears, awaits a response
abbrev pub answer_tells : Answer → List ℕ → Standing
answer_tells (Answers.Refused r) h = cond (is_challenge h) awaits quiet
answer_tells (Answers.Forward i n) h = cond (is_challenge h) awaits quiet
answer_tells (Answers.Query t b n) h = waits t
answer_tells (Answers.Reply e) h = cond (is_challenge h) awaits quiet
answer_tells Answers.EmptyChallenge h = cond (is_challenge h) awaits quiet
answer_tells Answers.Challenge h = cond (is_challenge h) awaits quiet

abbrev pub result_tells : Result → Standing
result_tells (refused k) = quiet
result_tells done = quiet
result_tells (opened n) = quiet
result_tells (answered a h x) = answer_tells a h
result_tells (borne n) = quiet

abbrev pub is_opened : ℕ → Result → Bool
is_opened n (refused k) = false
is_opened n done = false
is_opened n (opened m) = eqb m n
is_opened n (answered a h x) = false
is_opened n (borne m) = false

abbrev pub is_waiting_on : ℕ → Standing → Bool
is_waiting_on t quiet = false
is_waiting_on t awaits = false
is_waiting_on t (waits u) = eqb u t

-- how connection n stands after a call that was not refused, where it stood as w before
abbrev pub tells : Request → Result → ℕ → Standing → Standing
tells (make c t) r n w = quiet
tells (add m f p) r n w = w
tells (opens p b) r n w = cond (is_opened n r) quiet w
tells (line m l) r n w = cond (eqb m n) (result_tells r) w
tells (verdict t v d) r n w = cond (is_waiting_on t w) (result_tells r) w
tells (mail_ended m) r n w = w
tells (who m) r n w = w
tells (close m) r n w = cond (eqb m n) quiet w

abbrev pub made_tells : Made → ℕ → Standing → Standing
made_tells e n w = cond (is_refusal e.result) w (tells e.request e.result n w)

-- the open connection with number n of an image's server; no connection of an image that is not taken is open
abbrev pub server_has : Option Server → ℕ → Option Connection
server_has none n = none
server_has (some s) n = found (is_numbered n) s.slots

unfoldable pub connection_at : Image → ℕ → Option Connection
connection_at i n = server_has (taken i) n

-- how it stands there
abbrev pub found_stands : Option Connection → Standing
found_stands none = quiet
found_stands (some c) = standing c.session.phase

abbrev pub server_stands : Option Server → ℕ → Standing
server_stands o n = found_stands (server_has o n)

unfoldable pub seen : Image → ℕ → Standing
seen i n = server_stands (taken i) n

-- after the calls of a list, the last one first, from an image on
unfoldable pub told : Image → List Made → ℕ → Standing
told i [] n = seen i n
told i (e ∷ h) n = made_tells e n (told i h n)

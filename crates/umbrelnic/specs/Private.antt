-- What only private functions cite.
use Rattle.std.specs.Prelude.{Result, Ok, Err, ok_or}
use Rattle.std.specs.Prelude.{Option, Some, None}
use Rattle.std.specs.Prelude.{Result, Ok, Err, ok_or}
use Rattle.std.specs.Prelude.{◌≡◌, Bool, cond, List, ℕ, ◌+◌}
use Rattle.std.proofs.Math.Option.{some}
use Rattle.base64text.specs.Base64 as Base64
use Rattle.xtext.specs.Xtext as Xtext
use Rattle.octets.specs.Answers.{written}
use Rattle.profile.specs.declared.numbers.Verdict.{Verdict}
use Rattle.profile.specs.declared.numbers.Refusal.{Refusal}
use Rattle.profile.specs.declared.numbers.Refusal.TheVariants.{NotTaken}
use Rattle.session.specs.MailEnded.{after_mail}
use Rattle.session.specs.Octets.{response_text, relay_text}
use Rattle.session.specs.Standing.{is_refused}
use Rattle.session.specs.declared.Stepped.{Stepped}
use Rattle.session.specs.declared.answer.Answer.{Answer}
use Rattle.session.specs.declared.view.View.{View}
use Rattle.server.specs.Line.{is_query, relays_address}
use Rattle.server.specs.Outcome.{Outcome}
use Rattle.server.specs.Server.{Slot}
use Rattle.server.specs.Slots.{is_waiting, found}
use Rattle.server.specs.Verdict.{verdict_found}
use Rattle.server.specs.declared.Connection.{Connection}
use Rattle.server.specs.declared.Header.{Header}
use Rattle.image.specs.Image.{Image}
use Rattle.image.specs.InPlace.{is_taken, read_server, slot_found, header_written, slot_written}
use Rattle.calls.specs.Buffers.{heard_in, reply_after, answer_after}
use Rattle.calls.specs.Call.{line}
use Rattle.calls.specs.Step.{result_in, image_in, step}
use Rattle.umbrelnic.specs.declared.LineAnswer.{LineAnswer}
use Rattle.umbrelnic.specs.declared.Said.{Said}
use Rattle.umbrelnic.specs.Given.{line_answer_of, said_of}

-- where a search ended, and with the image tested first; k: the refusal where nothing was found
unfoldable pub placed : Refusal → (Slot → Bool) → Image → Result ℕ Refusal
placed k p l = cond (is_taken l) (ok_or (slot_found p l) k) (Err NotTaken)

-- a connection after the end of a transaction, and after a step
abbrev pub ended : Connection → Connection
ended c = record { session = after_mail c.session; number = c.number }

abbrev pub next_of : ℕ → Stepped → Connection
next_of n t = record { session = t.session; number = n }

-- an image in which a step of the connection in slot i is kept, and one in which a ticket was issued
unfoldable pub kept_in : Image → ℕ → ℕ → Stepped → Image
kept_in l i n t = cond (is_refused t.answer) l (slot_written l i (some (next_of n t)))

abbrev pub issued : Header → Header
issued h = record { connection = h.connection; ticket = h.ticket + 1; sealed = h.sealed }

unfoldable pub issued_in : Image → Header → Answer → Image
issued_in l h a = cond (is_query a) (header_written l (issued h)) l

-- a buffer b into which what a line hands over was decoded
unfoldable pub handed_in : Answer → View → List ℕ → List ℕ → List ℕ
handed_in a v l b =
    cond (is_query a) (Base64.decoded_into (response_text v l) b)
    (cond (relays_address a) (Xtext.decoded_into (relay_text v l) b)
    b)

-- a line that is no longer refused for its buffers, its image or its number: r what it gives, i, b and c the image and the buffers that it leaves
pub record LineDone (l : Image) (n : ℕ) (x reply answer : List ℕ) (r : LineAnswer) (i : Image) (b c : List ℕ) : Type 0 where
  pub given : r ≡ line_answer_of (step l (line n x reply answer)).result
  pub image : i ≡ (step l (line n x reply answer)).image
  pub heard : b ≡ reply_after (step l (line n x reply answer)) reply
  pub handed : c ≡ answer_after (step l (line n x reply answer)) answer

-- a verdict on a ticket that some connection waits on
abbrev pub judgement : Image → ℕ → Result Verdict Refusal → List ℕ → Outcome
judgement l t v d = verdict_found (read_server l) t v d (found (is_waiting t) (read_server l).slots)

pub record Judged (l : Image) (t : ℕ) (v : Result Verdict Refusal) (d reply : List ℕ) (r : Said) (i : Image) (b : List ℕ) : Type 0 where
  pub given : r ≡ said_of (result_in (judgement l t v d))
  pub image : i ≡ image_in l (judgement l t v d)
  pub heard : b ≡ written reply 0 (heard_in (result_in (judgement l t v d)))

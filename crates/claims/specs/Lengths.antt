-- "A question writes the answer buffer alone, a reply the reply buffer alone." "Octets past the stated length stay as lent."
use Rattle.std.specs.Prelude.{◌≡◌, true, ◌||◌, List, ◌++◌, ℕ, ◌+◌, ◌≤◌, length, drop}
use Rattle.octets.specs.Lists.{is_empty}
use Rattle.session.specs.Limits.{reply_buffer, answer_buffer, longest_name}
use Rattle.server.specs.Requests.{Sized}
use Rattle.image.specs.Image.{Image}
use Rattle.calls.specs.Buffers.{heard_in, borne_in, reply_after, answer_after, name_after}
use Rattle.calls.specs.Call.{Call, request}
use Rattle.calls.specs.Numbers.{answer_numbers}
use Rattle.calls.specs.Step.{Out, step}

-- octets w at the start of a buffer of which the rest is as it was lent
abbrev pub Starts : List ℕ → List ℕ → List ℕ → Type 0
Starts w lent after = after ≡ w ++ drop (length w) lent

pub record Lengths (o : Out) : Type 0 where
  -- where the client hears something nothing is handed over
  pub alone : (is_empty (heard_in o.result) || is_empty o.handed) ≡ true
  -- the length that is stated with an answer is that of what the client hears, or of what is handed over
  pub stated : (answer_numbers o.result).length ≡ length (heard_in o.result) + length o.handed
  -- each fits a buffer that is not refused as too short, and is all that changes there
  pub reply : (b : List ℕ) → reply_buffer ≤ length b → Starts (heard_in o.result) b (reply_after o b)
  pub answer : (b : List ℕ) → answer_buffer ≤ length b → Starts o.handed b (answer_after o b)
  pub name : (b : List ℕ) → longest_name ≤ length b → Starts (borne_in o.result) b (name_after o b)

abbrev pub LengthsStated : Type 0
LengthsStated = (i : Image) (c : Call) → Sized (request c) → Lengths (step i c)

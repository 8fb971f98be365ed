-- What a call comes to.
use Rattle.std.specs.Prelude.{Bool, List, ℕ, eqb, leb}
use Rattle.std.proofs.Math.Option.{Option}
use Rattle.profile.specs.declared.numbers.Refusal.{Refusal}
use Rattle.session.specs.declared.answer.Answer.{Answer}
use Rattle.session.specs.declared.answer.Answer.TheVariants as Answers
use Rattle.server.specs.Server.{Server}

-- what a call gives: a refusal; nothing more than that it was done; a connection's number; an answer with what the client hears and the
-- octets of an address to relay; a name or nobody
pub data Result : Type 0 where
  refused : Refusal → Result
  done : Result
  opened : ℕ → Result
  answered : Answer → List ℕ → List ℕ → Result
  borne : Option (List ℕ) → Result

-- and what it makes of the server: "Every refusal returns its number alone and leaves desk and buffers unchanged."
pub data Outcome : Type 0 where
  refuses : Refusal → Outcome
  gives : Result → Server → Outcome

-- what a step of a session comes to: r what is given, s the next server, unless the step refuses
abbrev pub settled : Answer → Result → Server → Outcome
settled (Answers.Refused k) r s = refuses k
settled (Answers.Forward i n) r s = gives r s
settled (Answers.Query t b n) r s = gives r s
settled (Answers.Reply e) r s = gives r s
settled Answers.EmptyChallenge r s = gives r s
settled Answers.Challenge r s = gives r s

-- "a yes-or-no is not 0 or 1"
abbrev pub is_yes_or_no : ℕ → Bool
is_yes_or_no x = leb x 1

abbrev pub is_yes : ℕ → Bool
is_yes x = eqb x 1

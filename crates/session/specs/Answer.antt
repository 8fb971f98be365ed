-- What a step gives, in numbers, and what the client hears.
use Rattle.std.specs.Prelude.{Bool, true, false, List, [], ◌++◌, ℕ}
use Rattle.base64text.specs.Base64
use Rattle.profile.specs.Numbers.{refusal_number, kind_number, identity_number}
use Rattle.profile.specs.Texts.{crlf, reply, challenge_prefix}
use Rattle.profile.specs.declared.Profile.{Profile}
use Rattle.profile.specs.declared.numbers.Identity.{Identity}
use Rattle.profile.specs.declared.numbers.Kind.TheVariants as Kinds
use Rattle.profile.specs.declared.numbers.Refusal.{Refusal}
use Rattle.session.specs.declared.answer.Answer.{Answer}
use Rattle.session.specs.declared.answer.Answer.TheVariants as Answers
use Rattle.session.specs.declared.answer.Numbers.{Numbers}

-- a yes-or-no is 0 or 1
abbrev pub bit : Bool → ℕ
bit false = 0
bit true = 1

-- "Every refusal returns its number alone"
abbrev pub refused_numbers : Refusal → Numbers
refused_numbers r = record { refusal = refusal_number r; kind = 0; ticket = 0; starts = 0; length = 0; identity = 0 }

-- "passed on", with "the identity to relay"
abbrev pub forward_numbers : Identity → ℕ → Numbers
forward_numbers i n = record { refusal = 0; kind = kind_number Kinds.Forward; ticket = 0; starts = 0; length = n; identity = identity_number i }

-- "a question (ticket, whether it only starts an exchange, decoded length, 0 for a start)"
abbrev pub query_numbers : ℕ → Bool → ℕ → Numbers
query_numbers t b n = record { refusal = 0; kind = kind_number Kinds.Query; ticket = t; starts = bit b; length = n; identity = 0 }

-- "a reply", of so many octets
abbrev pub reply_numbers : ℕ → Numbers
reply_numbers n = record { refusal = 0; kind = kind_number Kinds.Answered; ticket = 0; starts = 0; length = n; identity = 0 }

-- m: how many octets the client hears
abbrev pub numbers : Answer → ℕ → Numbers
numbers (Answers.Refused r) m = refused_numbers r
numbers (Answers.Forward i n) m = forward_numbers i n
numbers (Answers.Query t b n) m = query_numbers t b n
numbers (Answers.Reply e) m = reply_numbers m
numbers Answers.EmptyChallenge m = reply_numbers m
numbers Answers.Challenge m = reply_numbers m

-- "An SMTP challenge begins with the four octets 334 and a space, then base64; POP3 has plus and a space. The space stays when the
-- challenge is empty." d: the challenge's octets
abbrev pub challenge : Profile → List ℕ → List ℕ
challenge p d = challenge_prefix p ++ (Base64.encode d ++ crlf)

-- what the client hears; d: the verdict's data
unfoldable pub heard : Profile → List ℕ → Answer → List ℕ
heard p d (Answers.Refused r) = []
heard p d (Answers.Forward i n) = []
heard p d (Answers.Query t b n) = []
heard p d (Answers.Reply e) = reply p e
heard p d Answers.EmptyChallenge = challenge p []
heard p d Answers.Challenge = challenge p d

abbrev pub is_challenge_answer : Answer → Bool
is_challenge_answer (Answers.Refused r) = false
is_challenge_answer (Answers.Forward i n) = false
is_challenge_answer (Answers.Query t b n) = false
is_challenge_answer (Answers.Reply e) = false
is_challenge_answer Answers.EmptyChallenge = true
is_challenge_answer Answers.Challenge = true

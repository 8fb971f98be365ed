-- What an answer says of a line's octets, where it is so.
use Rattle.std.specs.Prelude.{◌≡◌, Bool, true, false, List, ℕ, ◌≤◌, eqb, length}
use Rattle.base64text.specs.Base64
use Rattle.xtext.specs.Xtext
use Rattle.profile.specs.declared.numbers.Identity.{Identity}
use Rattle.profile.specs.declared.numbers.Identity.TheVariants as Identities
use Rattle.session.specs.declared.answer.Answer.{Answer}
use Rattle.session.specs.declared.answer.Answer.TheVariants as Answers
use Rattle.session.specs.declared.view.View.{View}
use Rattle.session.specs.Limits.{unissued, answer_buffer}
use Rattle.session.specs.Octets.{response_text, query_octets, relay_text, relay_octets}

-- an address is of the length told; any other identity has no octets
abbrev pub Relays : View → List ℕ → Identity → ℕ → Type 0
Relays v l Identities.NoMail n = n ≡ 0
Relays v l Identities.Null n = n ≡ 0
Relays v l Identities.Absent n = n ≡ 0
Relays v l Identities.Address n = (Xtext.valid (relay_text v l) ≡ true) × (n ≡ length (relay_octets v l)) × (n ≤ answer_buffer)

-- a query under the ticket u, where t was handed in
pub record Asks (v : View) (l : List ℕ) (t u : ℕ) (b : Bool) (n : ℕ) : Type 0 where
  pub ticket : u ≡ t
  -- "2^64-1 is never issued."
  pub issued : eqb u unissued ≡ false
  -- "decoded length, 0 for a start"
  pub starts : b ≡ true → n ≡ 0
  -- the response is base64 of the length told, and fits its buffer
  pub valid : Base64.valid (response_text v l) ≡ true
  pub measured : n ≡ length (query_octets v l)
  pub fits : n ≤ answer_buffer

abbrev pub Measures : View → List ℕ → ℕ → Answer → Type 0
Measures v l t (Answers.Refused r) = Unit {0}
Measures v l t (Answers.Forward i n) = Relays v l i n
Measures v l t (Answers.Query u b n) = Asks v l t u b n
Measures v l t (Answers.Reply e) = Unit {0}
Measures v l t Answers.EmptyChallenge = Unit {0}
Measures v l t Answers.Challenge = Unit {0}

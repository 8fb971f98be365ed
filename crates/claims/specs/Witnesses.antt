-- The claims are not empty: document 01's example signs in, and so does a mechanism in small letters; a late verdict signs nobody in, two lists of
-- calls that differ in passwords meet the premise of the third demand, and exchanges that fail that of what an exchange leaves.
use Rattle.std.specs.Prelude.{◌≡◌, false, true, List, [], ◌∷◌, ◌++◌, map, ℕ, ◌≤◌, length}
use Rattle.std.proofs.Math.Option.{none, some}
use Prim.Native.String.{String}
use Rattle.octets.specs.Ascii.{ascii}
use Rattle.lines.specs.Alike.{SpelledAlike}
use Rattle.profile.specs.Texts.{crlf}
use Rattle.profile.specs.declared.Reply.{Reply}
use Rattle.profile.specs.declared.Reply.TheVariants as Replies
use Rattle.profile.specs.declared.numbers.Identity.TheVariants as Identities
use Rattle.profile.specs.declared.numbers.Refusal.TheVariants as Refusals
use Rattle.session.specs.Limits.{reply_buffer, answer_buffer, longest_name}
use Rattle.session.specs.declared.answer.Answer.TheVariants as Answers
use Rattle.server.specs.Outcome.{Result, refused, done, opened, answered, borne}
use Rattle.server.specs.declared.Connection.{Connection}
use Rattle.image.specs.Image.{Image}
use Rattle.image.specs.Sizes.{image_size}
use Rattle.calls.specs.Call.{Call, make, add, opens, line, verdict, who, close}
use Rattle.calls.specs.Step.{Out, run, left}
use Rattle.claims.specs.Exchanges.{AllInExchange}
use Rattle.claims.specs.Secrecy.{ListsAlike}
use Rattle.claims.specs.Told.{connection_at}

-- a reply buffer, an answer buffer and a name buffer
pub record Buffers : Type 0 where
  pub reply : List ℕ
  pub answer : List ℕ
  pub name : List ℕ

pub record LongEnough (b : Buffers) : Type 0 where
  pub reply : reply_buffer ≤ length b.reply
  pub answer : answer_buffer ≤ length b.answer
  pub name : longest_name ≤ length b.name

module _ (b : Buffers) where
  -- a client's line on a connection
  abbrev pub says : ℕ → String → Call
  says n l = line n (ascii l) b.reply b.answer

  -- verdicts on a ticket: success with a name, and a challenge
  abbrev pub succeeds : ℕ → String → Call
  succeeds t n = verdict t 1 (ascii n) b.reply b.answer

  abbrev pub challenges : ℕ → String → Call
  challenges t d = verdict t 0 (ascii d) b.reply b.answer

  -- "The program deskrun (PLAIN client-first and protected, CRAM-MD5 server-first; numbers from 1)", its example, and who after the sign-in
  abbrev pub example : List Call
  example =
      make 1 1
      ∷ add (ascii "PLAIN") 1 1
      ∷ add (ascii "CRAM-MD5") 0 0
      ∷ opens 0 1
      ∷ says 1 "EHLO a.example"
      ∷ says 1 "AUTH PLAIN Zm9v"
      ∷ succeeds 1 "anna"
      ∷ who 1 b.name
      ∷ says 1 "AUTH PLAIN Zm9v"
      ∷ close 1
      ∷ succeeds 1 "anna"
      ∷ []

  -- three connections sign in: by a response to the empty challenge, by an initial response on POP3, and by a response to a challenge of the
  -- service; p: base64
  abbrev pub sign_ins : String → List Call
  sign_ins p =
      make 1 1
      ∷ add (ascii "PLAIN") 1 0
      ∷ add (ascii "CRAM-MD5") 0 0
      ∷ opens 0 0
      ∷ says 1 "EHLO a.example"
      ∷ says 1 "AUTH PLAIN"
      ∷ says 1 p
      ∷ succeeds 1 "anna"
      ∷ opens 1 1
      ∷ line 2 (ascii "AUTH PLAIN " ++ ascii p) b.reply b.answer
      ∷ succeeds 2 "anna"
      ∷ opens 1 0
      ∷ says 3 "AUTH CRAM-MD5"
      ∷ challenges 3 "x"
      ∷ says 3 p
      ∷ succeeds 4 "anna"
      ∷ who 1 b.name
      ∷ who 2 b.name
      ∷ who 3 b.name
      ∷ []

  -- what the mission fears of a key that is given out again: connection 1 is closed while its ticket waits, and connection 2 takes its slot and
  -- asks under a ticket of its own. The late verdict is refused and signs nobody in. Then 2 signs in, and its MAIL, in which SUBMITTER comes
  -- before AUTH, is passed on with the address that AUTH says
  abbrev pub late_verdict : List Call
  late_verdict =
      make 1 1
      ∷ add (ascii "PLAIN") 1 0
      ∷ opens 0 0
      ∷ says 1 "EHLO a.example"
      ∷ says 1 "AUTH PLAIN Zm9v"
      ∷ close 1
      ∷ opens 0 0
      ∷ says 2 "EHLO b.example"
      ∷ says 2 "AUTH PLAIN Zm9v"
      ∷ succeeds 1 "mill-lane"
      ∷ who 2 b.name
      ∷ succeeds 2 "brook-street"
      ∷ who 2 b.name
      ∷ says 2 "MAIL FROM:<a@example.com> SUBMITTER=x@example.org AUTH=e+3Dmc2@example.com"
      ∷ []

-- what a call gives, and the octets that it hands over
abbrev pub shown : Out → Result × List ℕ
shown o = (o.result, o.handed)

abbrev pub gave : Result → Result × List ℕ
gave r = (r, [])

abbrev pub hears : Reply → String → Result × List ℕ
hears e t = gave (answered (Answers.Reply e) (ascii t ++ crlf) [])

-- what each call of the example comes to
abbrev pub example_shows : List (Result × List ℕ)
example_shows =
    gave done
    ∷ gave done
    ∷ gave done
    ∷ gave (opened 1)
    ∷ gave (answered (Answers.Forward Identities.NoMail 0) [] [])
    ∷ (answered (Answers.Query 1 false 3) [] [], ascii "foo")
    ∷ hears Replies.Success "235 2.7.0 Authentication succeeded"
    ∷ gave (borne (some (ascii "anna")))
    ∷ hears Replies.WrongMoment "503 5.5.1 Not permitted now"
    ∷ gave done
    ∷ gave (refused Refusals.NoTicket)
    ∷ []

abbrev pub SignsIn : Type 0
SignsIn = (i : Image) (b : Buffers) → length i ≡ image_size → LongEnough b → map shown (run i (example b)) ≡ example_shows

-- of the late verdict
abbrev pub late_verdict_shows : List (Result × List ℕ)
late_verdict_shows =
    gave done
    ∷ gave done
    ∷ gave (opened 1)
    ∷ gave (answered (Answers.Forward Identities.NoMail 0) [] [])
    ∷ (answered (Answers.Query 1 false 3) [] [], ascii "foo")
    ∷ gave done
    ∷ gave (opened 2)
    ∷ gave (answered (Answers.Forward Identities.NoMail 0) [] [])
    ∷ (answered (Answers.Query 2 false 3) [] [], ascii "foo")
    ∷ gave (refused Refusals.NoTicket)
    ∷ gave (borne none)
    ∷ hears Replies.Success "235 2.7.0 Authentication succeeded"
    ∷ gave (borne (some (ascii "brook-street")))
    ∷ (answered (Answers.Forward Identities.Address 17) [] (ascii "e=mc2@example.com"), ascii "e=mc2@example.com")
    ∷ []

abbrev pub LateVerdict : Type 0
LateVerdict = (i : Image) (b : Buffers) → length i ≡ image_size → LongEnough b → map shown (run i (late_verdict b)) ≡ late_verdict_shows

-- of the sign-ins; w: what the base64 stands for, of 12 octets
abbrev pub sign_ins_show : List ℕ → List (Result × List ℕ)
sign_ins_show w =
    gave done
    ∷ gave done
    ∷ gave done
    ∷ gave (opened 1)
    ∷ gave (answered (Answers.Forward Identities.NoMail 0) [] [])
    ∷ gave (answered Answers.EmptyChallenge (ascii "334 " ++ crlf) [])
    ∷ (answered (Answers.Query 1 false 12) [] [], w)
    ∷ hears Replies.Success "235 2.7.0 Authentication succeeded"
    ∷ gave (opened 2)
    ∷ (answered (Answers.Query 2 false 12) [] [], w)
    ∷ hears Replies.Success "+OK Authenticated"
    ∷ gave (opened 3)
    ∷ gave (answered (Answers.Query 3 true 0) [] [])
    ∷ gave (answered Answers.Challenge (ascii "+ eA==" ++ crlf) [])
    ∷ (answered (Answers.Query 4 false 12) [] [], w)
    ∷ hears Replies.Success "+OK Authenticated"
    ∷ gave (borne (some (ascii "anna")))
    ∷ gave (borne (some (ascii "anna")))
    ∷ gave (borne (some (ascii "anna")))
    ∷ []

-- the passwords sesame and tomato of one user, in PLAIN's form: NUL, a name, NUL, a password
abbrev pub sesame : String
sesame = "AGFubmEAc2VzYW1l"

abbrev pub tomato : String
tomato = "AGFubmEAdG9tYXRv"

abbrev pub plain : String → List ℕ
plain p = (0 ∷ ascii "anna") ++ (0 ∷ ascii p)

-- two lists that differ in the password, at three places, and nowhere else; what they come to differs in what the service is handed
pub record PasswordsDiffer (i : Image) (b : Buffers) : Type 0 where
  pub alike : ListsAlike i [] i (sign_ins b sesame) (sign_ins b tomato)
  pub first : map shown (run i (sign_ins b sesame)) ≡ sign_ins_show (plain "sesame")
  pub second : map shown (run i (sign_ins b tomato)) ≡ sign_ins_show (plain "tomato")

abbrev pub PasswordsAlike : Type 0
PasswordsAlike = (i : Image) (b : Buffers) → length i ≡ image_size → LongEnough b → PasswordsDiffer i b

module _ (b : Buffers) where
  -- a connection is opened and greeted
  abbrev pub greets : List Call
  greets = make 1 1 ∷ add (ascii "PLAIN") 1 0 ∷ opens 0 0 ∷ says b 1 "EHLO a.example" ∷ []

  -- two exchanges fail, by "*" and by a rejected verdict, with who after each; no other EHLO is needed between them
  abbrev pub fails : List Call
  fails =
      says b 1 "AUTH PLAIN"
      ∷ says b 1 "*"
      ∷ who 1 b.name
      ∷ says b 1 "AUTH PLAIN Zm9v"
      ∷ verdict 1 2 [] b.reply b.answer
      ∷ who 1 b.name
      ∷ []

  -- then MAIL, with an address that is not relayed since nobody is signed in, and AUTH in its transaction
  abbrev pub goes_on : List Call
  goes_on = says b 1 "MAIL FROM:<a@example.com> AUTH=e+3Dmc2@example.com" ∷ says b 1 "AUTH PLAIN Zm9v" ∷ []

-- what each of them comes to
abbrev pub failed_exchange_shows : List (Result × List ℕ)
failed_exchange_shows =
    gave done
    ∷ gave done
    ∷ gave (opened 1)
    ∷ gave (answered (Answers.Forward Identities.NoMail 0) [] [])
    ∷ gave (answered Answers.EmptyChallenge (ascii "334 " ++ crlf) [])
    ∷ hears Replies.Cancelled "501 5.7.0 Authentication cancelled"
    ∷ gave (borne none)
    ∷ (answered (Answers.Query 1 false 3) [] [], ascii "foo")
    ∷ hears Replies.Rejected "535 5.7.8 Credentials not accepted"
    ∷ gave (borne none)
    ∷ gave (answered (Answers.Forward Identities.Null 0) [] [])
    ∷ hears Replies.WrongMoment "503 5.5.1 Not permitted now"
    ∷ []

-- the exchanges meet the premises of `ExchangeKeeps`, on a connection that is greeted
pub record ExchangesFail (i : Image) (b : Buffers) : Type 0 where
  pub greeted : (c : Connection) × (connection_at (left i (greets b)) 1 ≡ some c) × (c.session.greeted ≡ true)
  pub in_exchange : AllInExchange 1 (left i (greets b)) (fails b)
  pub shows : map shown (run i (greets b ++ (fails b ++ goes_on b))) ≡ failed_exchange_shows

abbrev pub FailedExchange : Type 0
FailedExchange = (i : Image) (b : Buffers) → length i ≡ image_size → LongEnough b → ExchangesFail i b

-- M-105: small letters. No mechanism is added by a name that has them. A client who names by them one that is not there hears 504, with a dot or
-- 21 letters 501; one who writes PLAIN with some signs in
module _ (b : Buffers) where
  abbrev pub small_letters : List Call
  small_letters =
      make 1 1
      ∷ add (ascii "plain") 1 1
      ∷ add (ascii "PLAIN") 1 1
      ∷ opens 0 1
      ∷ says b 1 "EHLO a.example"
      ∷ says b 1 "AUTH nosuch"
      ∷ says b 1 "AUTH plain."
      ∷ says b 1 "AUTH abcdefghijklmnopqrstu"
      ∷ says b 1 "AUTH pLaIn Zm9v"
      ∷ succeeds b 1 "anna"
      ∷ who 1 b.name
      ∷ []

abbrev pub small_letters_show : List (Result × List ℕ)
small_letters_show =
    gave done
    ∷ gave (refused Refusals.BadName)
    ∷ gave done
    ∷ gave (opened 1)
    ∷ gave (answered (Answers.Forward Identities.NoMail 0) [] [])
    ∷ hears Replies.Unavailable "504 5.5.4 Mechanism not available"
    ∷ hears Replies.Syntax "501 5.5.2 Syntax error"
    ∷ hears Replies.Syntax "501 5.5.2 Syntax error"
    ∷ (answered (Answers.Query 1 false 3) [] [], ascii "foo")
    ∷ hears Replies.Success "235 2.7.0 Authentication succeeded"
    ∷ gave (borne (some (ascii "anna")))
    ∷ []

-- its line and the example's meet the premise of `SpellingsServed`
pub record SignsInSmall (i : Image) (b : Buffers) : Type 0 where
  pub alike : SpelledAlike (ascii "AUTH pLaIn Zm9v") (ascii "AUTH PLAIN Zm9v")
  pub shows : map shown (run i (small_letters b)) ≡ small_letters_show

abbrev pub SmallLetters : Type 0
SmallLetters = (i : Image) (b : Buffers) → length i ≡ image_size → LongEnough b → SignsInSmall i b

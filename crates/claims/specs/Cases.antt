-- "The cases marked P are proved of the definitions as a single table under one claim" (document 01): those of its "Both sides of each line".
use Rattle.std.specs.Prelude.{Option, Some, None, Result, Ok, Err}
use Rattle.std.specs.Prelude.{◌≡◌, Bool, true, false, cond, List, [], ◌∷◌, ◌++◌, map, ℕ}
use Prim.Native.String.{String}
use Rattle.octets.specs.Ascii.{ascii}
use Rattle.base64text.specs.Base64
use Rattle.xtext.specs.Xtext
use Rattle.profile.specs.Numbers.{refusal_number}
use Rattle.profile.specs.Texts.{crlf}
use Rattle.profile.specs.declared.Profile.{Profile}
use Rattle.profile.specs.declared.Profile.TheVariants.{Smtp, Pop3}
use Rattle.lines.specs.Mechanism.{mechanism}
use Rattle.session.specs.Session.{opened}
use Rattle.session.specs.View.{view}
use Rattle.session.specs.Octets.{query_octets}
use Rattle.session.specs.Answer.{heard}
use Rattle.session.specs.Line.{after_line}
use Rattle.session.specs.declared.Session.{Session}
use Rattle.session.specs.declared.answer.Answer.{Answer}
use Rattle.session.specs.declared.answer.Answer.TheVariants as Answers
use Rattle.session.specs.declared.view.Offer.{Offer}

-- what is put in
pub data Input : Type 0 where
  -- a text, to be decoded
  base64_text : String → Input
  xtext_text : String → Input
  -- a mechanism's name
  mechanism_name : String → Input
  -- the lines that a client sends, one after the other; the last one counts
  client_lines : Profile → List String → Input

-- what comes out
pub data Effect : Type 0 where
  refused : Effect
  taken : Effect
  -- the octets that a text stands for
  gives : List ℕ → Effect
  -- of a line: nothing was sent; a refusal's number; it is passed on; the service is asked, whether only to start, with so many octets and
  -- these; the client hears a text
  nothing : Effect
  refusal : ℕ → Effect
  forwards : Effect
  asks : Bool → ℕ → List ℕ → Effect
  hears : List ℕ → Effect

-- a connection is protected, and the mechanism that its AUTH line names is client-first and needs protection; the ticket is 1
abbrev pub offer : Option Offer
offer = Some (record { client_first = true; needs_protection = true })

abbrev pub answer_effect : Profile → List ℕ → Answer → Effect
answer_effect p o (Answers.Refused r) = refusal (refusal_number r)
answer_effect p o (Answers.Forward i n) = forwards
answer_effect p o (Answers.Query t b n) = asks b n o
answer_effect p o (Answers.Reply e) = hears (heard p [] (Answers.Reply e))
answer_effect p o Answers.EmptyChallenge = hears (heard p [] Answers.EmptyChallenge)
answer_effect p o Answers.Challenge = hears (heard p [] Answers.Challenge)

-- c: what came of the line before
abbrev pub sends : Profile → Session → Effect → List String → Effect
sends p s c [] = c
sends p s c (l ∷ ls) =
    sends p (after_line s (view s (ascii l)) offer 1).session (answer_effect p (query_octets (view s (ascii l)) (ascii l)) (after_line s (view s (ascii l)) offer 1).answer) ls

abbrev pub effect : Input → Effect
effect (base64_text t) = cond (Base64.valid (ascii t)) (gives (Base64.octets (ascii t))) refused
effect (xtext_text t) = cond (Xtext.valid (ascii t)) (gives (Xtext.octets (ascii t))) refused
effect (mechanism_name n) = cond (mechanism (ascii n)) taken refused
effect (client_lines p ls) = sends p (opened p true) nothing ls

pub record Row : Type 0 where
  pub input : Input
  pub expected : Effect

abbrev pub row : Input → Effect → Row
row i o = record { input = i; expected = o }

-- an exchange in which an answer is awaited
abbrev pub smtp : String → Input
smtp l = client_lines Smtp ("EHLO a.example" ∷ "AUTH PLAIN" ∷ l ∷ [])

abbrev pub pop3 : String → Input
pop3 l = client_lines Pop3 ("AUTH PLAIN" ∷ l ∷ [])

abbrev pub cases : List Row
cases =
    -- "P `Zm9v` is foo; P `Zg==` is f; P `Zh==` refused; P `=AAA` refused; P `AAA=BBB` refused; P an empty answer is zero octets."
    row (base64_text "Zm9v") (gives (ascii "foo"))
    ∷ row (base64_text "Zg==") (gives (ascii "f"))
    ∷ row (base64_text "Zh==") refused
    ∷ row (base64_text "=AAA") refused
    ∷ row (base64_text "AAA=BBB") refused
    ∷ row (smtp "") (asks false 0 [])
    ∷ row (pop3 "") (asks false 0 [])
    -- "P "=" as initial response: zero octets; P "=" as an answer: 501."
    ∷ row (client_lines Smtp ("EHLO a.example" ∷ "AUTH PLAIN =" ∷ [])) (asks false 0 [])
    ∷ row (client_lines Pop3 ("AUTH PLAIN =" ∷ [])) (asks false 0 [])
    ∷ row (smtp "=") (hears (ascii "501 5.5.2 Syntax error" ++ crlf))
    ∷ row (pop3 "=") (hears (ascii "-ERR Syntax error" ++ crlf))
    -- "P `e+3Dmc2@example.com` is e=mc2@example.com (001); P `+3d` refused."
    ∷ row (xtext_text "e+3Dmc2@example.com") (gives (ascii "e=mc2@example.com"))
    ∷ row (xtext_text "+3d") refused
    -- "P QUIT while an answer is awaited is three octets for the service."
    ∷ row (smtp "QUIT") (asks false 3 (0x41 ∷ 0x42 ∷ 0x13 ∷ []))
    ∷ row (pop3 "QUIT") (asks false 3 (0x41 ∷ 0x42 ∷ 0x13 ∷ []))
    -- "P mechanism names: 20 letters pass, 21 do not."
    ∷ row (mechanism_name "ABCDEFGHIJKLMNOPQRST") taken
    ∷ row (mechanism_name "ABCDEFGHIJKLMNOPQRSTU") refused
    ∷ []

-- the claim: every row's input comes to what is expected
abbrev pub Cases : Type 0
Cases = map (λ (r : Row). effect r.input) cases ≡ map (λ (r : Row). r.expected) cases

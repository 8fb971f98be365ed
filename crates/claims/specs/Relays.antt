-- What a MAIL is passed on with (document 01, "Base64, xtext and MAIL"): "<>" where nobody is signed in, and else what the line's AUTH says.
use Rattle.std.specs.Prelude.{◌≡◌, true, List, ℕ}
use Rattle.std.proofs.Math.Option.{some}
use Rattle.profile.specs.declared.numbers.Identity.{Identity}
use Rattle.mail.specs.Says.{line_says}
use Rattle.session.specs.Relayed.{is_mail, is_vouched, relay_of}
use Rattle.session.specs.Session.{signed_in}
use Rattle.session.specs.declared.answer.Answer.TheVariants as Answers
use Rattle.server.specs.Outcome.{answered}
use Rattle.server.specs.declared.Connection.{Connection}
use Rattle.image.specs.Image.{Image}
use Rattle.calls.specs.Call.{line}
use Rattle.calls.specs.Step.{Out, step}
use Rattle.claims.specs.History.{OfEveryList}
use Rattle.claims.specs.Names.{Granted}
use Rattle.claims.specs.Told.{connection_at}

-- none, and an address, are relayed only for a connection that was granted a name
abbrev pub RelaysGranted : Type 0
RelaysGranted =
    OfEveryList
    (λ h i. (n k : ℕ) (j : Identity) (l r a x y : List ℕ) → is_vouched j ≡ true → (step i (line n l r a)).result ≡ answered (Answers.Forward j k) x y
    → (m : List ℕ) × Granted n m h)

-- of every image: a MAIL for connection n is passed on with the identity, and the octets that are handed over, of the line's own AUTH and of
-- whether the connection is signed in
pub record Relayed (i : Image) (n : ℕ) (l : List ℕ) (j : Identity) (y : List ℕ) (o : Out) : Type 0 where
  pub connection : Connection
  pub found : connection_at i n ≡ some connection
  pub said : (j, y) ≡ relay_of (signed_in connection.session.phase) (line_says l)
  pub handed : o.handed ≡ y

abbrev pub RelaysSaid : Type 0
RelaysSaid =
    (i : Image) (n k : ℕ) (j : Identity) (l r a x y : List ℕ) → is_mail j ≡ true → (step i (line n l r a)).result ≡ answered (Answers.Forward j k) x y
    → Relayed i n l j y (step i (line n l r a))

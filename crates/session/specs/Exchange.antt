-- Exchanges: a line whose verb is AUTH, then verdicts, and lines while one runs.
use Rattle.std.specs.Prelude.{Option}
use Rattle.std.specs.Prelude.{◌≡◌, Bool, true, false, List, ℕ}
use Rattle.profile.specs.declared.numbers.Verdict.{Verdict}
use Rattle.lines.specs.declared.command.Command.{Command}
use Rattle.lines.specs.declared.command.Command.TheVariants as Commands
use Rattle.session.specs.declared.Session.{Session}
use Rattle.session.specs.declared.view.Offer.{Offer}
use Rattle.session.specs.declared.view.View.{View}
use Rattle.session.specs.declared.view.View.TheVariants as Views
use Rattle.session.specs.Line.{after_line}
use Rattle.session.specs.Session.{signed_in}
use Rattle.session.specs.Standing.{quiet, standing}
use Rattle.session.specs.Verdict.{after_verdict}

-- what a line whose verb is AUTH can be read as: AUTH, well formed or not; or not understood, where it is too long or holds NUL, CR or LF
abbrev pub can_be_auth : Command → Bool
can_be_auth Commands.NotUnderstood = true
can_be_auth Commands.Malformed = false
can_be_auth Commands.Ehlo = false
can_be_auth Commands.Helo = false
can_be_auth Commands.Rset = false
can_be_auth Commands.Quit = false
can_be_auth (Commands.Mail m) = false
can_be_auth (Commands.Auth a) = true
can_be_auth Commands.Barred = false
can_be_auth Commands.Other = false

-- a line that may begin an exchange where none runs
abbrev pub may_begin : View → Bool
may_begin (Views.Command c) = can_be_auth c
may_begin (Views.Response r) = false
may_begin Views.Unread = false

-- from a session s to one in the course of an exchange or at its end, and on through further ones: where none runs, a line may begin one
pub data Exchange (s : Session) : Session → Type 0 where
  none : Exchange s s
  line : {u : Session} → Exchange s u → (v : View) → (standing u.phase ≡ quiet → may_begin v ≡ true) → (o : Option Offer) (t : ℕ)
      → Exchange s (after_line u v o t).session
  verdict : {u : Session} → Exchange s u → (t : ℕ) (v : Verdict) (d : List ℕ) → Exchange s (after_verdict u t v d).session

-- greeting and transaction are as they were, whoever was signed in still is, and the name is as it was unless somebody was signed in meanwhile
-- (document 01, "A session's steps")
pub record Kept (s u : Session) : Type 0 where
  pub greeted : u.greeted ≡ s.greeted
  pub transaction : u.transaction ≡ s.transaction
  pub signed : signed_in s.phase ≡ true → signed_in u.phase ≡ true
  pub name : signed_in u.phase ≡ signed_in s.phase → u.name ≡ s.name

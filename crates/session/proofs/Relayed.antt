-- A MAIL line is passed on with what its AUTH says. Assumes nothing.
use mathlib.Core.Path.{◌≡◌, refl, sym, ap, ◌∙◌}
use mathlib.Core.Bool.{Bool, true, false, cond, false≢true}
use mathlib.Core.List.{List, []}
use Prim.Native.Nat.{ℕ}
use Rattle.xtext.specs.Xtext as Xtext
use Rattle.profile.specs.declared.Profile.{Profile}
use Rattle.profile.specs.declared.numbers.Identity.{Identity}
use Rattle.mail.specs.Mail.{address_text}
use Rattle.mail.specs.Says.{line_says, points_to}
use Rattle.mail.specs.declared.Mail.{Mail}
use Rattle.mail.specs.declared.Mail.TheVariants as Mails
use Rattle.mail.proofs.Laws.{mail-says}
use Rattle.std.specs.Prelude.{Option, Some, None}
use Rattle.lines.specs.Command.{command}
use Rattle.lines.specs.declared.command.Command.{Command}
use Rattle.lines.specs.declared.command.Command.TheVariants as Commands
use Rattle.lines.proofs.Laws.{Holds, command-read}
use Rattle.session.specs.declared.Phase.{Phase}
use Rattle.session.specs.declared.Phase.TheVariants as Phases
use Rattle.session.specs.declared.Session.{Session}
use Rattle.session.specs.declared.answer.Answer.TheVariants as Answers
use Rattle.session.specs.declared.change.Change.{Change}
use Rattle.session.specs.declared.view.Offer.{Offer}
use Rattle.session.specs.declared.view.View.{View}
use Rattle.session.specs.declared.view.View.TheVariants as Views
use Rattle.session.specs.Line.{after_line}
use Rattle.session.specs.Octets.{mail_in, relay_octets}
use Rattle.session.specs.Relayed.{is_mail, is_vouched, is_address, relay_of}
use Rattle.session.specs.Session.{signed_in}
use Rattle.session.specs.View.{view_in, view}
use Rattle.session.proofs.Makes.{identity_in, Makes, refused, replied, failed, forwarded, challenged, asked, makes}

-- the identity that a line is passed on with is that of its reading
told-identity : {s : Session} {v : View} {t : ℕ} {c : Change} → Makes s v t c → (i : Identity) (n : ℕ) → c.answer ≡ Answers.Forward i n
    → i ≡ identity_in (signed_in s.phase) (mail_in v)
told-identity (refused r u) i n e = cc
told-identity (replied q r) i n e = cc
told-identity (failed u r) i n e = cc
told-identity (forwarded q a g x j m w u) i n e = let k : j ≡ i = cc in sym k ∙ u
told-identity (challenged u) i n e = cc
told-identity (asked j u k f b m z w) i n e = cc

-- and so is what the reading points to
module _ (l : List ℕ) where
  relayed : (b : Bool) (m : Option Mail) → is_mail (identity_in b m) ≡ true
      → (identity_in b m, cond (is_address (identity_in b m)) (Xtext.octets (address_text m l)) []) ≡ relay_of b (points_to m l)
  relayed b None e = absurd (false≢true e)
  relayed true (Some Mails.Absent) e = refl
  relayed false (Some Mails.Absent) e = refl
  relayed b (Some Mails.Null) e = refl
  relayed true (Some (Mails.Address from to n)) e = refl
  relayed false (Some (Mails.Address from to n)) e = refl

  -- a reading that is passed on as a MAIL is of the line
  abbrev Pointed : View → Type 0
  Pointed v = (b : Bool) → is_mail (identity_in b (mail_in v)) ≡ true → points_to (mail_in v) l ≡ line_says l

  command-pointed : (p : Profile) (c : Command) → Holds p l c → Pointed (Views.Command c)
  command-pointed p Commands.NotUnderstood h b e = absurd (false≢true e)
  command-pointed p Commands.Malformed h b e = absurd (false≢true e)
  command-pointed p Commands.Ehlo h b e = absurd (false≢true e)
  command-pointed p Commands.Helo h b e = absurd (false≢true e)
  command-pointed p Commands.Rset h b e = absurd (false≢true e)
  command-pointed p Commands.Quit h b e = absurd (false≢true e)
  command-pointed p (Commands.Mail m) h b e = ap (λ (x : Option Mail). points_to x l) h.0 ∙ mail-says l
  command-pointed p (Commands.Auth a) h b e = absurd (false≢true e)
  command-pointed p Commands.Barred h b e = absurd (false≢true e)
  command-pointed p Commands.Other h b e = absurd (false≢true e)

  view-pointed : (p : Profile) (q : Phase) → Pointed (view_in p q l)
  unfolding view_in
  view-pointed p Phases.Idle b e = command-pointed p (command p l) (command-read l p) b e
  view-pointed p Phases.SignedIn b e = command-pointed p (command p l) (command-read l p) b e
  view-pointed p (Phases.Awaiting k) b e = absurd (false≢true e)
  view-pointed p (Phases.Waiting t k) b e = absurd (false≢true e)

  -- identity and octets of a MAIL that is passed on
  pub line-says : (s : Session) (o : Option Offer) (t : ℕ) (i : Identity) (n : ℕ) → is_mail i ≡ true → (after_line s (view s l) o t).answer ≡ Answers.Forward i n
      → (i, cond (is_address i) (relay_octets (view s l) l) []) ≡ relay_of (signed_in s.phase) (line_says l)
  unfolding after_line relay_octets
  line-says s o t i n h e =
      let b = signed_in s.phase in
      let u = told-identity (makes s t (view s l) o) i n e in
      let k = sym (ap is_mail u) ∙ h in
      ap (λ (j : Identity). (j, cond (is_address j) (relay_octets (view s l) l) [])) u
      ∙ relayed b (mail_in (view s l)) k
      ∙ ap (relay_of b) (view-pointed s.profile s.phase b k)

vouched : (b : Bool) (m : Option Mail) → is_vouched (identity_in b m) ≡ true → b ≡ true
vouched true m e = refl
vouched false None e = absurd (false≢true e)
vouched false (Some Mails.Absent) e = absurd (false≢true e)
vouched false (Some Mails.Null) e = absurd (false≢true e)
vouched false (Some (Mails.Address from to n)) e = absurd (false≢true e)

pub line-relays : (s : Session) (v : View) (o : Option Offer) (t : ℕ) (i : Identity) (n : ℕ) → is_vouched i ≡ true → (after_line s v o t).answer ≡ Answers.Forward i n
    → signed_in s.phase ≡ true
unfolding after_line
line-relays s v o t i n h e = vouched (signed_in s.phase) (mail_in v) (sym (ap is_vouched (told-identity (makes s t v o) i n e)) ∙ h)

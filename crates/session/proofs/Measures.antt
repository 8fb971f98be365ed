-- What an answer says of a line's octets is so. Assumes nothing.
use mathlib.Core.Path.{◌≡◌, refl, sym}
use mathlib.Core.Bool.{true}
use mathlib.Core.List.{List}
use Prim.Native.Nat.{ℕ, ◌≤◌}
use native.Mathlib.Omega.{arith}
use lib.ListN.{length}
use Rattle.base64text.specs.Base64
use Rattle.xtext.specs.Xtext
use Rattle.profile.specs.Limits.{command_limit, mail_limit}
use Rattle.profile.specs.declared.Profile.{Profile}
use Rattle.profile.specs.declared.Profile.TheVariants.{Smtp, Pop3}
use Rattle.profile.specs.declared.numbers.Identity.{Identity}
use Rattle.profile.specs.declared.numbers.Identity.TheVariants as Identities
use Rattle.mail.specs.Mail.{mail}
use Rattle.mail.specs.declared.Mail.{Mail}
use Rattle.mail.specs.declared.Mail.TheVariants as Mails
use Rattle.mail.proofs.Laws.{address_read, address-within}
use Rattle.std.specs.Prelude.{Option, Some, None, Result, Ok, Err}
use Rattle.lines.specs.Auth.{auth}
use Rattle.lines.specs.Command.{command}
use Rattle.lines.specs.Response.{response}
use Rattle.lines.specs.declared.auth.Auth.{Auth}
use Rattle.lines.specs.declared.auth.Auth.TheVariants as Auths
use Rattle.lines.specs.declared.command.Command.{Command}
use Rattle.lines.specs.declared.command.Command.TheVariants as Commands
use Rattle.lines.specs.declared.response.ResponseError.{ResponseError}
use Rattle.lines.specs.declared.response.ResponseError.TheVariants as Responses
use Rattle.lines.proofs.Laws.{initial-read, initial-fits, response-read, Holds, command-read}
use Rattle.session.specs.declared.Phase.{Phase}
use Rattle.session.specs.declared.Phase.TheVariants as Phases
use Rattle.session.specs.declared.Session.{Session}
use Rattle.session.specs.declared.change.Change.{Change}
use Rattle.session.specs.declared.view.Offer.{Offer}
use Rattle.session.specs.declared.view.View.{View}
use Rattle.session.specs.declared.view.View.TheVariants as Views
use Rattle.session.specs.Limits.{answer_buffer}
use Rattle.session.specs.View.{view_in, view}
use Rattle.session.specs.Octets.{response_text, query_octets, relay_text, relay_octets}
use Rattle.session.specs.Line.{after_line}
use Rattle.session.specs.Measures.{Relays, Measures}
use Rattle.session.proofs.Makes.{response_length, address_length, Told, Makes, refused, replied, failed, forwarded, challenged, asked, makes}

-- the lengths that a view of the line l tells
abbrev Responds : List ℕ → View → Type 0
Responds l v = (n : ℕ) → response_length v ≡ Some n → (Base64.valid (response_text v l) ≡ true) × (n ≡ length (query_octets v l)) × (n ≤ answer_buffer)

abbrev Relayed : List ℕ → View → Type 0
Relayed l v = (n : ℕ) → address_length v ≡ Some n → (Xtext.valid (relay_text v l) ≡ true) × (n ≡ length (relay_octets v l)) × (n ≤ answer_buffer)

some_same : {m n : ℕ} → Some m ≡ Some n → m ≡ n
some_same e = cc

module _ (l : List ℕ) where
  initial : (p : Profile) (a : Option Auth) → a ≡ auth l → length l ≤ command_limit p → Responds l (Views.Command (Commands.Auth a))
  unfolding query_octets
  initial p None e h n f = cc
  initial p (Some (Auths.Alone to)) e h n f = rw (← (some_same f)) (unfold Base64.valid in refl, unfold Base64.octets in refl, omega arith)
  initial p (Some (Auths.Initial to from m)) e h n f =
      let r = initial-read l to from m (sym e) in
      rw (← (some_same f)) (r.0, r.1, within p h)
    where
      within : (p : Profile) → length l ≤ command_limit p → m ≤ answer_buffer
      within Smtp k = omega (arith, initial-fits l to from m (sym e))
      within Pop3 k = omega (arith, initial-fits l to from m (sym e))

  mailed : (p : Profile) (m : Option Mail) → m ≡ mail l → length l ≤ mail_limit p → Relayed l (Views.Command (Commands.Mail m))
  unfolding relay_octets
  mailed p None e h n f = cc
  mailed p (Some Mails.Absent) e h n f = cc
  mailed p (Some Mails.Null) e h n f = cc
  mailed p (Some (Mails.Address from to m)) e h n f =
      let r = address_read l from to m (sym e) in
      rw (← (some_same f)) (r.0, r.1, within p h)
    where
      within : (p : Profile) → length l ≤ mail_limit p → m ≤ answer_buffer
      within Smtp k = omega (arith, address-within l from to m (sym e))
      within Pop3 k = omega (arith, address-within l from to m (sym e))

  untold : (v : View) → response_length v ≡ None → address_length v ≡ None → Responds l v × Relayed l v
  untold v e f = ((λ n g. cc), (λ n g. cc))

  commanded : (p : Profile) (c : Command) → Holds p l c → Responds l (Views.Command c) × Relayed l (Views.Command c)
  commanded p Commands.NotUnderstood h = untold (Views.Command Commands.NotUnderstood) refl refl
  commanded p Commands.Malformed h = untold (Views.Command Commands.Malformed) refl refl
  commanded p Commands.Ehlo h = untold (Views.Command Commands.Ehlo) refl refl
  commanded p Commands.Helo h = untold (Views.Command Commands.Helo) refl refl
  commanded p Commands.Rset h = untold (Views.Command Commands.Rset) refl refl
  commanded p Commands.Quit h = untold (Views.Command Commands.Quit) refl refl
  commanded p (Commands.Mail m) h = ((λ n f. cc), mailed p m h.0 h.1)
  commanded p (Commands.Auth a) h = (initial p a h.0 h.1, (λ n f. cc))
  commanded p Commands.Barred h = untold (Views.Command Commands.Barred) refl refl
  commanded p Commands.Other h = untold (Views.Command Commands.Other) refl refl

  responded : (p : Profile) (r : Result ℕ ResponseError) → response p l ≡ r → Responds l (Views.Response r)
  unfolding query_octets
  responded p (Err Responses.TooLong) e n f = cc
  responded p (Err Responses.Cancelled) e n f = cc
  responded p (Err Responses.Malformed) e n f = cc
  responded p (Ok m) e n f = rw (← (some_same f)) (response-read p l m e)

  viewed : (p : Profile) (q : Phase) → Responds l (view_in p q l) × Relayed l (view_in p q l)
  unfolding view_in
  viewed p Phases.Idle = commanded p (command p l) (command-read l p)
  viewed p Phases.SignedIn = commanded p (command p l) (command-read l p)
  viewed p (Phases.Awaiting k) = (responded p (response p l) refl, (λ n f. cc))
  viewed p (Phases.Waiting t k) = untold Views.Unread refl refl

  told : (v : View) (i : Identity) (n : ℕ) → Relayed l v → Told v i n → Relays v l i n
  told v Identities.NoMail n h w = w
  told v Identities.Null n h w = w
  told v Identities.Absent n h w = w
  told v Identities.Address n h w = h n w

  measured : {s : Session} {v : View} {t : ℕ} {c : Change} → Responds l v × Relayed l v → Makes s v t c → Measures v l t c.answer
  measured h (refused r u) = tt
  measured h (replied q r) = tt
  measured h (failed u r) = tt
  measured {v = v} h (forwarded q a g x i n w u) = told v i n h.1 w
  measured h (challenged u) = tt
  measured h (asked i u k f b n z w) = let m = h.0 n w in record { ticket = refl; issued = i; starts = z; valid = m.0; measured = m.1; fits = m.2 }

  pub line-measures : (s : Session) (o : Option Offer) (t : ℕ) → Measures (view s l) l t (after_line s (view s l) o t).answer
  unfolding after_line
  line-measures s o t = measured (viewed s.profile s.phase) (makes s t (view s l) o)

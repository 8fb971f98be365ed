-- All that a line can make of a session, rule by rule. What the laws need of a line's step they have from here. Assumes nothing.
use mathlib.Core.Path.{◌≡◌, refl, sym, ◌∙◌, ap}
use mathlib.Core.Bool.{Bool, true, false, cond, false≢true}
use Prim.Native.Nat.{ℕ}
use lib.Dec.{leb, eqb}
use Rattle.octets.proofs.Cases.{neither, picked}
use Rattle.profile.specs.declared.Profile.{Profile}
use Rattle.profile.specs.declared.Profile.TheVariants.{Smtp, Pop3}
use Rattle.profile.specs.declared.Reply.{Reply}
use Rattle.profile.specs.declared.Reply.TheVariants as Replies
use Rattle.profile.specs.declared.numbers.Identity.{Identity}
use Rattle.profile.specs.declared.numbers.Identity.TheVariants as Identities
use Rattle.profile.specs.declared.numbers.Refusal.{Refusal}
use Rattle.profile.specs.declared.numbers.Refusal.TheVariants as Refusals
use Rattle.mail.specs.declared.Mail.{Mail}
use Rattle.mail.specs.declared.Mail.TheVariants as Mails
use Rattle.std.specs.Prelude.{Option, Some, None, Result, Ok, Err}
use Rattle.lines.specs.declared.auth.Auth.{Auth}
use Rattle.lines.specs.declared.auth.Auth.TheVariants as Auths
use Rattle.lines.specs.declared.command.Command.{Command}
use Rattle.lines.specs.declared.command.Command.TheVariants as Commands
use Rattle.lines.specs.declared.response.ResponseError.{ResponseError}
use Rattle.lines.specs.declared.response.ResponseError.TheVariants as Responses
use Rattle.session.specs.declared.Phase.{Phase}
use Rattle.session.specs.declared.Phase.TheVariants as Phases
use Rattle.session.specs.declared.Session.{Session}
use Rattle.session.specs.declared.answer.Answer.TheVariants as Answers
use Rattle.session.specs.declared.change.Change.{Change}
use Rattle.session.specs.declared.view.Offer.{Offer}
use Rattle.session.specs.declared.view.View.{View}
use Rattle.session.specs.declared.view.View.TheVariants as Views
use Rattle.session.specs.Session.{signed_in}
use Rattle.session.specs.Octets.{auth_command, mail_in}
use Rattle.session.specs.Change.{moves, says, refuses, fails}
use Rattle.session.specs.Limits.{most_challenges, unissued}
use Rattle.session.specs.Query.{asks}
use Rattle.session.specs.Auth.{wrong_moment, available, client_first, alone, with_initial, timely, on_auth}
use Rattle.session.specs.Mail.{relays, begins, on_mail}
use Rattle.session.specs.Command.{on_command}
use Rattle.session.specs.Response.{on_response}
use Rattle.session.specs.Exchange.{may_begin}
use Rattle.session.specs.Line.{at_rest, awaiting, on_line}
use Rattle.session.specs.Standing.{quiet, standing}
use Rattle.session.specs.WellFormed.{sent_within}

-- the length that a view tells of a response, which is of zero octets where the mechanism is only named, and of an address
abbrev initial_length : Option Auth → Option ℕ
initial_length None = None
initial_length (Some (Auths.Alone to)) = Some 0
initial_length (Some (Auths.Initial to from n)) = Some n

abbrev line_length : Result ℕ ResponseError → Option ℕ
line_length (Err Responses.TooLong) = None
line_length (Err Responses.Cancelled) = None
line_length (Err Responses.Malformed) = None
line_length (Ok n) = Some n

abbrev pub response_length : View → Option ℕ
response_length (Views.Command c) = initial_length (auth_command c)
response_length (Views.Response r) = line_length r
response_length Views.Unread = None

abbrev mail_length : Option Mail → Option ℕ
mail_length None = None
mail_length (Some Mails.Absent) = None
mail_length (Some Mails.Null) = None
mail_length (Some (Mails.Address from to n)) = Some n

abbrev pub address_length : View → Option ℕ
address_length v = mail_length (mail_in v)

-- what an identity to relay has of the view
abbrev pub Told : View → Identity → ℕ → Type 0
Told v Identities.NoMail n = n ≡ 0
Told v Identities.Null n = n ≡ 0
Told v Identities.Absent n = n ≡ 0
Told v Identities.Address n = address_length v ≡ Some n

-- the identity to relay of a reading; b: whether somebody is signed in
abbrev pub identity_in : Bool → Option Mail → Identity
identity_in b None = Identities.NoMail
identity_in b (Some Mails.Absent) = cond b Identities.Absent Identities.Null
identity_in b (Some Mails.Null) = Identities.Null
identity_in b (Some (Mails.Address from to n)) = cond b Identities.Address Identities.Null

-- 3 and 7: the refusals that a line may get from its session
abbrev pub is_of_line : Refusal → Bool
is_of_line Refusals.ShortBuffer = false
is_of_line Refusals.NoConnection = false
is_of_line Refusals.Waiting = true
is_of_line Refusals.NoTicket = false
is_of_line Refusals.NotListed = false
is_of_line Refusals.Full = false
is_of_line Refusals.Exhausted = true
is_of_line Refusals.BadName = false
is_of_line Refusals.NamePresent = false
is_of_line Refusals.TableFull = false
is_of_line Refusals.Sealed = false
is_of_line Refusals.NotTaken = false

-- t: the ticket handed in
pub data Makes (s : Session) (v : View) (t : ℕ) : Change → Type 0 where
  refused : (r : Refusal) → is_of_line r ≡ true → Makes s v t (refuses s r)
  replied : standing s.phase ≡ quiet → (r : Reply) → Makes s v t (says s r)
  failed : signed_in s.phase ≡ false → (r : Reply) → Makes s v t (fails s r)
  forwarded : standing s.phase ≡ quiet → may_begin v ≡ false → (g x : Bool) (i : Identity) (n : ℕ) → Told v i n
      → i ≡ identity_in (signed_in s.phase) (mail_in v)
      → Makes s v t (record { greeted = g; transaction = x; phase = s.phase; answer = Answers.Forward i n })
  challenged : signed_in s.phase ≡ false → Makes s v t (moves s (Phases.Awaiting 1) Answers.EmptyChallenge)
  asked : eqb t unissued ≡ false → signed_in s.phase ≡ false → (k : ℕ) → (sent_within s.phase ≡ true → leb k most_challenges ≡ true) → (b : Bool) (n : ℕ)
      → (b ≡ true → n ≡ 0) → response_length v ≡ Some n → Makes s v t (moves s (Phases.Waiting t k) (Answers.Query t b n))

module _ (s : Session) (t : ℕ) where
  asking : (v : View) (k : ℕ) (b : Bool) (n : ℕ) → signed_in s.phase ≡ false → (sent_within s.phase ≡ true → leb k most_challenges ≡ true) → (b ≡ true → n ≡ 0)
      → response_length v ≡ Some n → Makes s v t (asks s t k b n)
  asking v k b n h f z e = go (eqb t unissued) refl
    where
      go : (x : Bool) → eqb t unissued ≡ x → Makes s v t (cond x (refuses s Refusals.Exhausted) (moves s (Phases.Waiting t k) (Answers.Query t b n)))
      go true i = refused Refusals.Exhausted refl
      go false i = asked i h k f b n z e

  -- where no exchange runs
  module _ (q : standing s.phase ≡ quiet) where
    relaying : (v : View) (i : Identity) (n : ℕ) → may_begin v ≡ false → Told v i n → ((b : Bool) → identity_in b (mail_in v) ≡ cond b i Identities.Null)
        → Makes s v t (relays s i n)
    relaying v i n a h w = go (signed_in s.phase) refl
      where
        go : (b : Bool) → signed_in s.phase ≡ b
            → Makes s v t (record { greeted = s.greeted; transaction = true; phase = s.phase; answer = cond b (Answers.Forward i n) (Answers.Forward Identities.Null 0) })
        go true e = forwarded q a s.greeted true i n h (sym (ap (λ (b : Bool). identity_in b (mail_in v)) e ∙ w true))
        go false e = forwarded q a s.greeted true Identities.Null 0 refl (sym (ap (λ (b : Bool). identity_in b (mail_in v)) e ∙ w false))

    same : (b : Bool) → cond b Identities.Null Identities.Null ≡ Identities.Null
    same true = refl
    same false = refl

    beginning : (m : Option Mail) → Makes s (Views.Command (Commands.Mail m)) t (begins s m)
    beginning None = replied q Replies.Syntax
    beginning (Some Mails.Absent) = relaying (Views.Command (Commands.Mail (Some Mails.Absent))) Identities.Absent 0 refl refl (λ b. refl)
    beginning (Some Mails.Null) = relaying (Views.Command (Commands.Mail (Some Mails.Null))) Identities.Null 0 refl refl (λ b. sym (same b))
    beginning (Some (Mails.Address from to n)) = relaying (Views.Command (Commands.Mail (Some (Mails.Address from to n)))) Identities.Address n refl refl (λ b. refl)

    mailing : (m : Option Mail) → Makes s (Views.Command (Commands.Mail m)) t (on_mail s m)
    unfolding on_mail
    mailing m = picked (Makes s (Views.Command (Commands.Mail m)) t) s.transaction _ _ (replied q Replies.WrongMoment) (beginning m)

    authenticating : signed_in s.phase ≡ false → (a : Option Auth) (o : Option Offer) → Makes s (Views.Command (Commands.Auth a)) t (timely s a o t)
    authenticating h None o = replied q Replies.Syntax
    authenticating h (Some (Auths.Alone to)) o =
        let v = Views.Command (Commands.Auth (Some (Auths.Alone to))) in
        picked (Makes s v t) (available s o) (alone s o t) (says s Replies.Unavailable)
        (picked (Makes s v t) (client_first o) _ _ (challenged h) (asking v 0 true 0 h (λ e. refl) (λ e. refl) refl))
        (replied q Replies.Unavailable)
    authenticating h (Some (Auths.Initial to from n)) o =
        let v = Views.Command (Commands.Auth (Some (Auths.Initial to from n))) in
        picked (Makes s v t) (available s o) (with_initial s o n t) (says s Replies.Unavailable)
        (picked (Makes s v t) (client_first o) _ _ (asking v 0 false n h (λ e. refl) (λ e. absurd (false≢true e)) refl) (replied q Replies.InitialResponse))
        (replied q Replies.Unavailable)

    unsigned : (p : Profile) → wrong_moment p s ≡ false → signed_in s.phase ≡ false
    unsigned Smtp e = (neither _ _ (neither _ _ e).0).0
    unsigned Pop3 e = e

    authorising : (a : Option Auth) (o : Option Offer) → Makes s (Views.Command (Commands.Auth a)) t (on_auth s a o t)
    unfolding on_auth
    authorising a o = go (wrong_moment s.profile s) refl
      where
        go : (b : Bool) → wrong_moment s.profile s ≡ b → Makes s (Views.Command (Commands.Auth a)) t (cond b (says s Replies.WrongMoment) (timely s a o t))
        go true e = replied q Replies.WrongMoment
        go false e = authenticating (unsigned s.profile e) a o

    commanding : (c : Command) (o : Option Offer) → Makes s (Views.Command c) t (on_command s c o t)
    unfolding on_command
    commanding Commands.NotUnderstood o = replied q Replies.NotUnderstood
    commanding Commands.Malformed o = replied q Replies.Syntax
    commanding Commands.Ehlo o = forwarded q refl true false Identities.NoMail 0 refl refl
    commanding Commands.Helo o = forwarded q refl false false Identities.NoMail 0 refl refl
    commanding Commands.Rset o = forwarded q refl s.greeted false Identities.NoMail 0 refl refl
    commanding Commands.Quit o = forwarded q refl s.greeted s.transaction Identities.NoMail 0 refl refl
    commanding (Commands.Mail m) o = mailing m
    commanding (Commands.Auth a) o = authorising a o
    commanding Commands.Barred o = replied q Replies.WrongMoment
    commanding Commands.Other o = forwarded q refl s.greeted s.transaction Identities.NoMail 0 refl refl

    resting : (v : View) (o : Option Offer) → Makes s v t (at_rest s v o t)
    resting (Views.Command c) o = commanding c o
    resting (Views.Response r) o = replied q Replies.Syntax
    resting Views.Unread o = replied q Replies.Syntax

  -- where a response is awaited
  module _ (h : signed_in s.phase ≡ false) (k : ℕ) (f : sent_within s.phase ≡ true → leb k most_challenges ≡ true) where
    responding : (r : Result ℕ ResponseError) → Makes s (Views.Response r) t (on_response s k r t)
    unfolding on_response
    responding (Err Responses.TooLong) = failed h Replies.ResponseTooLong
    responding (Err Responses.Cancelled) = failed h Replies.Cancelled
    responding (Err Responses.Malformed) = failed h Replies.Syntax
    responding (Ok n) = asking (Views.Response (Ok n)) k false n h f (λ e. absurd (false≢true e)) refl

    answering : (v : View) → Makes s v t (awaiting s k v t)
    answering (Views.Command c) = failed h Replies.Syntax
    answering (Views.Response r) = responding r
    answering Views.Unread = failed h Replies.Syntax

  pub makes : (v : View) (o : Option Offer) → Makes s v t (on_line s.phase s v o t)
  makes v o = go s.phase refl
    where
      go : (p : Phase) → s.phase ≡ p → Makes s v t (on_line p s v o t)
      go Phases.Idle e = resting (ap standing e) v o
      go Phases.SignedIn e = resting (ap standing e) v o
      go (Phases.Awaiting k) e = answering (ap signed_in e) k (λ g. sym (ap sent_within e) ∙ g) v
      go (Phases.Waiting u k) e = refused Refusals.Waiting refl

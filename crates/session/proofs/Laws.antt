-- The laws of a session's steps. Assumes nothing.
use Rattle.std.specs.Prelude.{Option}
use mathlib.Core.Path.{◌≡◌, refl, ap}
use mathlib.Core.Bool.{Bool, true, cond, not, ◌&&◌}
use mathlib.Core.List.{List, []}
use mathlib.Core.Option.{none, some}
use Prim.Native.Nat.{ℕ, ◌≤◌}
use native.Mathlib.Omega.{arith}
use lib.ListN.{length, replicate, length-append}
use Rattle.octets.specs.Lists.{same, padded_to}
use Rattle.octets.proofs.Cases.{both}
use Rattle.octets.proofs.Every.{at_most}
use Rattle.octets.proofs.Words.{same_refl}
use Rattle.base64text.proofs.Laws.{length-encode}
use Rattle.profile.specs.Texts.{is_challenge}
use Rattle.profile.specs.declared.Profile.{Profile}
use Rattle.profile.specs.declared.Profile.TheVariants.{Smtp, Pop3}
use Rattle.profile.specs.declared.numbers.Refusal.{Refusal}
use Rattle.profile.specs.declared.numbers.Verdict.{Verdict}
use Rattle.profile.proofs.Laws.{not-challenge, challenge-begins, reply-length}
use Rattle.session.specs.declared.Session.{Session}
use Rattle.session.specs.declared.answer.Answer.{Answer}
use Rattle.session.specs.declared.answer.Answer.TheVariants as Answers
use Rattle.session.specs.declared.view.Offer.{Offer}
use Rattle.session.specs.declared.view.View.{View}
use Rattle.session.specs.Limits.{longest_challenge, longest_name, reply_buffer}
use Rattle.session.specs.Session.{opened, signed_in, name_of}
use Rattle.session.specs.declared.Phase.{Phase}
use Rattle.session.specs.declared.Phase.TheVariants as Phases
use Rattle.session.specs.Answer.{challenge, heard, is_challenge_answer}
use Rattle.session.specs.Line.{after_line}
use Rattle.session.specs.Verdict.{graphic, is_name, given, after_verdict}
use Rattle.session.specs.MailEnded.{after_mail}
use Rattle.session.specs.Standing.{quiet, standing, stands, is_heard, is_refused}
use Rattle.session.specs.Named.{bears, waits_on, grants}
use Rattle.session.specs.WellFormed.{name_within, well_formed}
use Rattle.session.proofs.Makes.{makes}
pub use Rattle.session.proofs.Within.{session-parts}
pub use Rattle.session.proofs.Makes.{is_of_line}
use Rattle.session.proofs.Sound.{sound}
use Rattle.session.proofs.Judged.{verdicts, heard-or-refused, heard-short}
-- a step depends on the view of a line alone, and lines that are alike are seen alike
pub use Rattle.session.proofs.Views.{Seen, same_view}
-- so are AUTH lines that differ in the case of letters alone, and what such lines ask the service is the same
pub use Rattle.session.proofs.Views.{spelled-view, spelled-octets}
-- a MAIL is passed on with what its AUTH says, and with an identity other than "<>" for who is signed in alone
pub use Rattle.session.proofs.Relayed.{line-says, line-relays}
-- what an answer says of a line's octets is so
pub use Rattle.session.proofs.Measures.{line-measures}
-- an exchange leaves greeting and transaction as they were, and the name unless it signs somebody in; a line whose verb is AUTH begins one
pub use Rattle.session.proofs.Exchanges.{exchange-keeps, auth-begins}
-- a name that was kept is read back
pub use Rattle.session.proofs.Judged.{name-kept}

module _ (s : Session) (v : View) (o : Option Offer) (t : ℕ) where
  -- a session awaits a response exactly after a challenge, and waits on a ticket exactly after a query under it
  pub line-stands : standing (after_line s v o t).session.phase ≡ stands (standing s.phase) (after_line s v o t).answer
  unfolding after_line
  line-stands = (sound (makes s t v o)).stands

  -- a refusal changes nothing
  pub line_refused : is_refused (after_line s v o t).answer ≡ true → (after_line s v o t).session ≡ s
  unfolding after_line
  line_refused e = (sound (makes s t v o)).refused e

  -- no line alters whom the session bears, nor profile and protection
  pub line-bears : bears (after_line s v o t).session ≡ bears s
  unfolding after_line name_of
  line-bears = ap (λ (b : Bool). cond b (some (name_of s)) none) (sound (makes s t v o)).signed

  -- a line is refused with 3 or 7 alone
  pub line_refusals : (k : Refusal) → (after_line s v o t).answer ≡ Answers.Refused k → is_of_line k ≡ true
  unfolding after_line
  line_refusals k e = rw e at (sound (makes s t v o)).refuses

  pub line-fixed : ((after_line s v o t).session.profile ≡ s.profile) × ((after_line s v o t).session.protected ≡ s.protected)
  unfolding after_line
  line-fixed = (refl, refl)

  pub line-within : well_formed s ≡ true → well_formed (after_line s v o t).session ≡ true
  unfolding after_line name_within name_of
  line-within w =
      let l = sound (makes s t v o) in
      let h = session-parts s w in
      rw (l.sent h.0, l.signed) h.1

module _ (s : Session) (t : ℕ) (v : Verdict) (d : List ℕ) where
  pub verdict-stands : standing (after_verdict s t v d).session.phase ≡ stands (standing s.phase) (after_verdict s t v d).answer
  verdict-stands = (verdicts s d t v).stands

  pub verdict-refused : is_refused (after_verdict s t v d).answer ≡ true → (after_verdict s t v d).session ≡ s
  verdict-refused e = (verdicts s d t v).refused e

  -- only a success verdict with a name signs somebody in, under that name, and only where the session waits on its ticket
  pub verdict-bears : bears (after_verdict s t v d).session ≡ cond (grants s t v d) (some d) (bears s)
  verdict-bears = (verdicts s d t v).borne

  pub verdict-fixed : ((after_verdict s t v d).session.profile ≡ s.profile) × ((after_verdict s t v d).session.protected ≡ s.protected)
  verdict-fixed = let j = verdicts s d t v in (j.profile, j.protected)

  pub verdict-keeps : ((after_verdict s t v d).session.greeted ≡ s.greeted) × ((after_verdict s t v d).session.transaction ≡ s.transaction)
  verdict-keeps = let j = verdicts s d t v in (j.greeted, j.transaction)

  -- it is heard exactly where the session waits on its ticket and its data are in order, and refused everywhere else
  pub verdict-heard : is_heard (after_verdict s t v d).answer ≡ (waits_on t s.phase && given v d)
  verdict-heard = (heard-or-refused s d t v).0

  pub verdict-refuses : is_refused (after_verdict s t v d).answer ≡ not (waits_on t s.phase && given v d)
  verdict-refuses = (heard-or-refused s d t v).1

  pub verdict-within : well_formed s ≡ true → well_formed (after_verdict s t v d).session ≡ true
  verdict-within w = (verdicts s d t v).within w

-- nobody is signed in who waits on a ticket
pub waiting-nobody : (s : Session) (t k : ℕ) → s.phase ≡ Phases.Waiting t k → bears s ≡ none
waiting-nobody s t k e = ap (λ (p : Phase). cond (signed_in p) (some (name_of s)) none) e

-- a name has at most 64 octets
pub name-fits : (s : Session) → well_formed s ≡ true → signed_in s.phase ≡ true → length (name_of s) ≤ longest_name
unfolding name_within
name-fits s w e =
    at_most longest_name graphic (name_of s) (both (is_name (name_of s)) (same s.name (padded_to longest_name (name_of s))) (rw e at (session-parts s w).1)).0

-- the end of a transaction alters nothing else
module _ (s : Session) where
  pub mail-stands : standing (after_mail s).phase ≡ standing s.phase
  mail-stands = refl

  pub mail-bears : bears (after_mail s) ≡ bears s
  unfolding name_of
  mail-bears = refl

  pub mail-within : well_formed s ≡ true → well_formed (after_mail s) ≡ true
  unfolding name_within name_of
  mail-within w = w

-- a connection is opened with nobody signed in and no exchange
module _ (p : Profile) (b : Bool) where
  pub opened-stands : standing (opened p b).phase ≡ quiet
  opened-stands = refl

  pub opened-bears : bears (opened p b) ≡ none
  opened-bears = refl

  pub opened-within : well_formed (opened p b) ≡ true
  unfolding name_within
  opened-within = same_refl (replicate longest_name 0)

-- what the client hears begins like a challenge exactly where it is one
module _ (p : Profile) (d : List ℕ) where
  pub heard-challenge : (a : Answer) → is_challenge (heard p d a) ≡ is_challenge_answer a
  unfolding heard
  heard-challenge (Answers.Refused r) = unfold is_challenge same in refl
  heard-challenge (Answers.Forward i n) = unfold is_challenge same in refl
  heard-challenge (Answers.Query t b n) = unfold is_challenge same in refl
  heard-challenge (Answers.Reply e) = not-challenge p e
  heard-challenge Answers.EmptyChallenge = challenge-begins p _
  heard-challenge Answers.Challenge = challenge-begins p _

-- and it fits "a reply buffer (at least 12,288 octets)"
challenge-fits : (p : Profile) (d : List ℕ) → length d ≤ longest_challenge → length (challenge p d) ≤ reply_buffer
challenge-fits Smtp d h = simp (length-append, length-encode) (omega arith)
challenge-fits Pop3 d h = simp (length-append, length-encode) (omega arith)

heard-fits : (p : Profile) (d : List ℕ) (a : Answer) → (is_heard a ≡ true → length d ≤ longest_challenge) → length (heard p d a) ≤ reply_buffer
unfolding heard
heard-fits p d (Answers.Refused r) h = omega arith
heard-fits p d (Answers.Forward i n) h = omega arith
heard-fits p d (Answers.Query t b n) h = omega arith
heard-fits p d (Answers.Reply e) h = omega (arith, reply-length p e)
heard-fits p d Answers.EmptyChallenge h = challenge-fits p [] (omega arith)
heard-fits p d Answers.Challenge h = challenge-fits p d (h refl)

pub line-heard-fits : (p : Profile) (a : Answer) → length (heard p [] a) ≤ reply_buffer
line-heard-fits p a = heard-fits p [] a (λ e. omega arith)

pub verdict-heard-fits : (p : Profile) (s : Session) (t : ℕ) (v : Verdict) (d : List ℕ) → length (heard p d (after_verdict s t v d).answer) ≤ reply_buffer
verdict-heard-fits p s t v d = heard-fits p d (after_verdict s t v d).answer (heard-short s d t v)

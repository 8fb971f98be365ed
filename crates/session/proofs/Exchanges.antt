-- What an exchange leaves as it was. Assumes nothing.
use Rattle.std.specs.Prelude.{Option}
use mathlib.Core.Path.{◌≡◌, refl, sym, ◌∙◌, ap}
use mathlib.Core.Bool.{Bool, true, false, cond, ◌&&◌, ◌||◌, true≢false, false≢true}
use mathlib.Core.List.{List}
use Prim.Native.Nat.{ℕ}
use Rattle.octets.specs.Ascii.{ascii}
use Rattle.octets.specs.Lists.{same}
use Rattle.profile.specs.declared.Profile.{Profile}
use Rattle.profile.specs.declared.Profile.TheVariants.{Smtp, Pop3}
use Rattle.profile.specs.declared.numbers.Verdict.{Verdict}
use Rattle.lines.specs.Command.{understood, by, command}
use Rattle.lines.specs.Verb.{verb, verb_of}
use Rattle.lines.specs.declared.command.Command.TheVariants as Commands
use Rattle.lines.specs.declared.verb.Verb.TheVariants as Verbs
use Rattle.session.specs.declared.Phase.{Phase}
use Rattle.session.specs.declared.Phase.TheVariants as Phases
use Rattle.session.specs.declared.Session.{Session}
use Rattle.session.specs.declared.change.Change.{Change}
use Rattle.session.specs.declared.view.Offer.{Offer}
use Rattle.session.specs.declared.view.View.{View}
use Rattle.session.specs.Exchange.{can_be_auth, may_begin, Exchange, none, line, verdict, Kept}
use Rattle.session.specs.Line.{after_line}
use Rattle.session.specs.Named.{waits_on, is_success, grants}
use Rattle.session.specs.Session.{signed_in}
use Rattle.session.specs.Standing.{quiet, standing}
use Rattle.session.specs.Verdict.{is_name, after_verdict}
use Rattle.session.specs.View.{view_in, view}
use Rattle.session.proofs.Judged.{verdicts}
use Rattle.session.proofs.Makes.{Makes, refused, replied, failed, forwarded, challenged, asked, makes}
use Rattle.session.proofs.Sound.{sound}

-- ---- one step

-- a line that begins an exchange, or comes while one runs, is not passed on, and nothing else alters greeting or transaction
keeps : {s : Session} {v : View} {t : ℕ} {c : Change} → (standing s.phase ≡ quiet → may_begin v ≡ true) → Makes s v t c
    → (c.greeted ≡ s.greeted) × (c.transaction ≡ s.transaction)
keeps x (refused r u) = (refl, refl)
keeps x (replied q r) = (refl, refl)
keeps x (failed h r) = (refl, refl)
keeps x (forwarded q a g y i n w u) = absurd (true≢false (sym (x q) ∙ a))
keeps x (challenged h) = (refl, refl)
keeps x (asked i h k f b n z w) = (refl, refl)

module _ (s : Session) where
  line_kept : (v : View) → (standing s.phase ≡ quiet → may_begin v ≡ true) → (o : Option Offer) (t : ℕ) → Kept s (after_line s v o t).session
  unfolding after_line
  line_kept v x o t =
      let m = makes s t v o in
      let k = keeps x m in
      record { greeted = k.0; transaction = k.1; signed = λ e. (sound m).signed ∙ e; name = λ e. refl }

  -- a verdict that signs somebody in finds nobody signed in
  unsigned : (t : ℕ) (v : Verdict) (d : List ℕ) → grants s t v d ≡ true → signed_in s.phase ≡ false
  unfolding grants
  unsigned t v d = go s.phase
    where
      go : (p : Phase) → (waits_on t p && is_success v && is_name d) ≡ true → signed_in p ≡ false
      go Phases.Idle e = refl
      go Phases.SignedIn e = absurd (false≢true e)
      go (Phases.Awaiting k) e = refl
      go (Phases.Waiting u k) e = refl

  verdict-kept : (t : ℕ) (v : Verdict) (d : List ℕ) → Kept s (after_verdict s t v d).session
  verdict-kept t v d = go (grants s t v d) refl
    where
      go : (g : Bool) → grants s t v d ≡ g → Kept s (after_verdict s t v d).session
      go true e =
          let j = verdicts s d t v in
          let before : signed_in s.phase ≡ false = unsigned t v d e in
          let after : signed_in (after_verdict s t v d).session.phase ≡ true = j.signed ∙ ap (λ (b : Bool). b || signed_in s.phase) e in
          record {
            greeted = j.greeted;
            transaction = j.transaction;
            signed = λ h. after;
            name = λ h. absurd (true≢false (sym after ∙ h ∙ before));
          }
      go false e =
          let j = verdicts s d t v in
          let same-signed : signed_in (after_verdict s t v d).session.phase ≡ signed_in s.phase = j.signed ∙ ap (λ (b : Bool). b || signed_in s.phase) e in
          record {
            greeted = j.greeted;
            transaction = j.transaction;
            signed = λ h. same-signed ∙ h;
            name = λ h. j.name e;
          }

-- ---- an exchange

-- whoever is signed in stays so: where the first and the last of three agree, so does the one between
between : (a b c : Bool) → (a ≡ true → b ≡ true) → (b ≡ true → c ≡ true) → c ≡ a → b ≡ a
between true b c f g e = f refl
between false true c f g e = sym (g refl) ∙ e
between false false c f g e = refl

followed : {s u w : Session} → Kept s u → Kept u w → Kept s w
followed {s} {u} {w} h k =
    record {
      greeted = k.greeted ∙ h.greeted;
      transaction = k.transaction ∙ h.transaction;
      signed = λ e. k.signed (h.signed e);
      name = λ e.
          let m : signed_in u.phase ≡ signed_in s.phase = between (signed_in s.phase) (signed_in u.phase) (signed_in w.phase) h.signed k.signed e in
          k.name (e ∙ sym m) ∙ h.name m;
    }

pub exchange-keeps : {s u : Session} → Exchange s u → Kept s u
exchange-keeps none = record { greeted = refl; transaction = refl; signed = λ e. e; name = λ e. refl }
exchange-keeps (line {u = u} x v b o t) = followed (exchange-keeps x) (line_kept u v b o t)
exchange-keeps (verdict {u = u} x t v d) = followed (exchange-keeps x) (verdict-kept u t v d)

-- ---- which lines begin one

auth-verb : (l : List ℕ) → verb l ≡ ascii "AUTH" → verb_of (verb l) ≡ Verbs.Auth
unfolding verb_of same
auth-verb l e = ap verb_of e

auth-read : (p : Profile) (l : List ℕ) → verb l ≡ ascii "AUTH" → can_be_auth (command p l) ≡ true
unfolding command
auth-read p l e = rw (auth-verb l e) (go p (understood p Verbs.Auth l))
  where
    go : (p : Profile) (b : Bool) → can_be_auth (cond b (by p Verbs.Auth l) Commands.NotUnderstood) ≡ true
    go Smtp true = refl
    go Smtp false = refl
    go Pop3 true = refl
    go Pop3 false = refl

pub auth-begins : (s : Session) (l : List ℕ) → verb l ≡ ascii "AUTH" → standing s.phase ≡ quiet → may_begin (view s l) ≡ true
unfolding view_in
auth-begins s l e = go s.phase
  where
    go : (p : Phase) → standing p ≡ quiet → may_begin (view_in s.profile p l) ≡ true
    go Phases.Idle q = auth-read s.profile l e
    go Phases.SignedIn q = auth-read s.profile l e
    go (Phases.Awaiting k) q = cc
    go (Phases.Waiting t k) q = cc

-- What holds of every session after a verdict, case by case. Assumes nothing.
use mathlib.Core.Path.{◌≡◌, refl, sym, ◌∙◌, ap}
use mathlib.Core.Bool.{Bool, true, false, cond, not, ◌&&◌, ◌||◌, false≢true}
use mathlib.Core.List.{List, [], ◌∷◌}
use mathlib.Core.Option.{none, some}
use Prim.Native.Nat.{ℕ, ◌+◌, ◌≤◌}
use native.Mathlib.Omega.{arith}
use borrow.Author.Tests.{leb-true, le-leb, ltb-true}
use lib.Dec.{leb, ltb, eqb}
use lib.ListN.{length, replicate}
use Rattle.octets.specs.Lists.{is_empty, same, padded_to}
use Rattle.octets.proofs.Cases.{both, picked}
use Rattle.octets.proofs.Words.{same_refl}
use Rattle.octets.proofs.Every.{at_most, unpadded}
use Rattle.profile.specs.declared.Reply.{Reply}
use Rattle.profile.specs.declared.Reply.TheVariants as Replies
use Rattle.profile.specs.declared.numbers.Refusal.{Refusal}
use Rattle.profile.specs.declared.numbers.Refusal.TheVariants as Refusals
use Rattle.profile.specs.declared.numbers.Verdict.{Verdict}
use Rattle.profile.specs.declared.numbers.Verdict.TheVariants as Verdicts
use Rattle.session.specs.declared.Phase.{Phase}
use Rattle.session.specs.declared.Phase.TheVariants as Phases
use Rattle.session.specs.declared.Session.{Session}
use Rattle.session.specs.declared.Stepped.{Stepped}
use Rattle.session.specs.declared.answer.Answer.TheVariants as Answers
use Rattle.session.specs.Session.{signed_in, name_of, named}
use Rattle.session.specs.Change.{moves, fails, refuses, stepped}
use Rattle.session.specs.Verdict.{graphic, is_name, given, challenged, accepted, on_verdict, on_ticket, after_verdict}
use Rattle.session.specs.Standing.{standing, stands, is_heard, is_refused}
use Rattle.session.specs.Limits.{most_challenges, longest_challenge, longest_name}
use Rattle.session.specs.declared.change.Change.{Change}
use Rattle.session.specs.Named.{bears, waits_on, is_success, grants}
use Rattle.session.specs.WellFormed.{sent_within, name_within, well_formed}
use Rattle.session.proofs.Within.{session-parts}

-- a name that is kept in 64 octets is read back
pub name-kept : (s : Session) (n : List ℕ) → is_name n ≡ true → name_of (named s n) ≡ n
unfolding name_of
name-kept s n h = unpadded longest_name graphic n refl h

pub record Judged (s : Session) (g : Bool) (d : List ℕ) (r : Stepped) : Type 0 where
  -- how the session stands after it is told by the answer
  pub stands : standing r.session.phase ≡ stands (standing s.phase) r.answer
  -- a refusal changes nothing
  pub refused : is_refused r.answer ≡ true → r.session ≡ s
  -- whom the session bears: g, whether the verdict signs somebody in
  pub borne : bears r.session ≡ cond g (some d) (bears s)
  pub signed : signed_in r.session.phase ≡ (g || signed_in s.phase)
  -- all but the name and the phase stay; the name too where the verdict signs nobody in
  pub greeted : r.session.greeted ≡ s.greeted
  pub transaction : r.session.transaction ≡ s.transaction
  pub profile : r.session.profile ≡ s.profile
  pub protected : r.session.protected ≡ s.protected
  pub name : g ≡ false → r.session.name ≡ s.name
  pub within : well_formed s ≡ true → well_formed r.session ≡ true

module _ (s : Session) (d : List ℕ) where
  refusing : (r : Refusal) → Judged s false d (stepped s (refuses s r))
  refusing r =
      record {
        stands = refl;
        refused = λ e. refl;
        borne = refl;
        signed = refl;
        greeted = refl;
        transaction = refl;
        profile = refl;
        protected = refl;
        name = λ e. refl;
        within = λ e. e;
      }

  module _ (t k : ℕ) (e : s.phase ≡ Phases.Waiting t k) where
    nobody : bears s ≡ none
    nobody = ap (λ (p : Phase). cond (signed_in p) (some (name_of s)) none) e

    unsigned : signed_in s.phase ≡ false
    unsigned = ap signed_in e

    -- what the limits say of a session that waits: of its count, and of its name
    sent : well_formed s ≡ true → leb k 16 ≡ true
    sent w = sym (ap sent_within e) ∙ (session-parts s w).0

    blank : well_formed s ≡ true → same s.name (replicate 64 0) ≡ true
    unfolding name_within
    blank w =
        sym (ap (λ (p : Phase). cond (signed_in p) (is_name (name_of s) && same s.name (padded_to 64 (name_of s))) (same s.name (replicate 64 0))) e)
        ∙ (session-parts s w).1

    failing : (r : Reply) → Judged s false d (stepped s (fails s r))
    unfolding name_within
    failing r =
        record {
          stands = refl;
          refused = λ f. absurd (false≢true f);
          borne = sym nobody;
          signed = sym unsigned;
          greeted = refl;
          transaction = refl;
          profile = refl;
          protected = refl;
          name = λ f. refl;
          within = blank;
        }

    challenging : Judged s false d (stepped s (challenged s k))
    unfolding name_within
    challenging = go (ltb k 16) refl
      where
        go : (b : Bool) → ltb k 16 ≡ b → Judged s false d (stepped s (cond b (moves s (Phases.Awaiting (k + 1)) Answers.Challenge) (fails s Replies.Temporary)))
        go true h =
            let z : k + 1 ≤ 16 = omega (arith, ltb-true k 16 h) in
            record {
              stands = refl;
              refused = λ f. absurd (false≢true f);
              borne = sym nobody;
              signed = sym unsigned;
              greeted = refl;
              transaction = refl;
              profile = refl;
              protected = refl;
              name = λ f. refl;
              within = λ w. rw (le-leb (k + 1) 16 z) (blank w);
            }
        go false h = failing Replies.Temporary

    granting : is_name d ≡ true → Judged s true d (accepted s k Verdicts.Success d)
    unfolding name_within name_of
    granting h =
        record {
          stands = refl;
          refused = λ f. absurd (false≢true f);
          borne = ap some (name-kept s d h);
          signed = refl;
          greeted = refl;
          transaction = refl;
          profile = refl;
          protected = refl;
          name = λ f. absurd (false≢true (sym f));
          within = λ w. rw (name-kept s d h, h, same_refl (padded_to 64 d));
        }

    judging : (v : Verdict) → given v d ≡ true → Judged s (is_success v && is_name d) d (accepted s k v d)
    judging Verdicts.Challenge h = challenging
    judging Verdicts.Success h = rw h (granting h)
    judging Verdicts.Rejected h = failing Replies.Rejected
    judging Verdicts.Temporary h = failing Replies.Temporary
    judging Verdicts.Transition h = failing Replies.Transition
    judging Verdicts.Weak h = failing Replies.Weak

  -- data that are not in order sign nobody in
  ungranted : (v : Verdict) → given v d ≡ false → (is_success v && is_name d) ≡ false
  ungranted Verdicts.Challenge h = refl
  ungranted Verdicts.Success h = h
  ungranted Verdicts.Rejected h = refl
  ungranted Verdicts.Temporary h = refl
  ungranted Verdicts.Transition h = refl
  ungranted Verdicts.Weak h = refl

  deciding : (t k : ℕ) → s.phase ≡ Phases.Waiting t k → (v : Verdict) → Judged s (is_success v && is_name d) d (on_verdict s k v d)
  unfolding on_verdict
  deciding t k e v = go (given v d) refl
    where
      go : (b : Bool) → given v d ≡ b → Judged s (is_success v && is_name d) d (cond b (accepted s k v d) (stepped s (refuses s Refusals.NotListed)))
      go true h = judging t k e v h
      go false h = rw (ungranted v h) (refusing Refusals.NotListed)

  pub verdicts : (t : ℕ) (v : Verdict) → Judged s (grants s t v d) d (after_verdict s t v d)
  unfolding grants after_verdict
  verdicts t v = go s.phase refl
    where
      asked : (b : Bool) (k u : ℕ) → s.phase ≡ Phases.Waiting u k → Judged s (b && is_success v && is_name d) d (cond b (on_verdict s k v d) (stepped s (refuses s Refusals.NoTicket)))
      asked true k u e = deciding u k e v
      asked false k u e = refusing Refusals.NoTicket

      go : (p : Phase) → s.phase ≡ p → Judged s (waits_on t p && is_success v && is_name d) d (on_ticket p s t v d)
      go Phases.Idle e = refusing Refusals.NoTicket
      go Phases.SignedIn e = refusing Refusals.NoTicket
      go (Phases.Awaiting k) e = refusing Refusals.NoTicket
      go (Phases.Waiting u k) e = asked (eqb u t) k u e

empty-short : (d : List ℕ) → is_empty d ≡ true → length d ≤ longest_challenge
empty-short [] e = omega arith
empty-short (x ∷ d) e = absurd (false≢true e)

-- a verdict is heard exactly where the session waits on its ticket and its data are in order, and refused everywhere else
module _ (s : Session) (d : List ℕ) where
  accepted-heard : (k : ℕ) (v : Verdict) → (is_heard (accepted s k v d).answer ≡ true) × (is_refused (accepted s k v d).answer ≡ false)
  accepted-heard k Verdicts.Challenge = picked (λ (c : Change). (is_heard c.answer ≡ true) × (is_refused c.answer ≡ false)) (ltb k most_challenges) _ _ (refl, refl) (refl, refl)
  accepted-heard k Verdicts.Success = (refl, refl)
  accepted-heard k Verdicts.Rejected = (refl, refl)
  accepted-heard k Verdicts.Temporary = (refl, refl)
  accepted-heard k Verdicts.Transition = (refl, refl)
  accepted-heard k Verdicts.Weak = (refl, refl)

  pub heard-or-refused : (t : ℕ) (v : Verdict)
      → (is_heard (after_verdict s t v d).answer ≡ (waits_on t s.phase && given v d)) × (is_refused (after_verdict s t v d).answer ≡ not (waits_on t s.phase && given v d))
  unfolding after_verdict on_verdict
  heard-or-refused t v = go s.phase
    where
      data-tested : (k : ℕ) (g : Bool)
          → (is_heard (cond g (accepted s k v d) (stepped s (refuses s Refusals.NotListed))).answer ≡ g)
          × (is_refused (cond g (accepted s k v d) (stepped s (refuses s Refusals.NotListed))).answer ≡ not g)
      data-tested k true = accepted-heard k v
      data-tested k false = (refl, refl)

      ticket-tested : (k : ℕ) (b : Bool)
          → (is_heard (cond b (on_verdict s k v d) (stepped s (refuses s Refusals.NoTicket))).answer ≡ (b && given v d))
          × (is_refused (cond b (on_verdict s k v d) (stepped s (refuses s Refusals.NoTicket))).answer ≡ not (b && given v d))
      ticket-tested k true = data-tested k (given v d)
      ticket-tested k false = (refl, refl)

      go : (p : Phase) → (is_heard (on_ticket p s t v d).answer ≡ (waits_on t p && given v d)) × (is_refused (on_ticket p s t v d).answer ≡ not (waits_on t p && given v d))
      go Phases.Idle = (refl, refl)
      go Phases.SignedIn = (refl, refl)
      go (Phases.Awaiting k) = (refl, refl)
      go (Phases.Waiting u k) = ticket-tested k (eqb u t)

  -- a verdict's challenge is not too long
  given-short : (v : Verdict) → given v d ≡ true → length d ≤ longest_challenge
  given-short Verdicts.Challenge g = leb-true (length d) longest_challenge g
  given-short Verdicts.Success g = omega (arith, at_most longest_name graphic d g)
  given-short Verdicts.Rejected g = empty-short d g
  given-short Verdicts.Temporary g = empty-short d g
  given-short Verdicts.Transition g = empty-short d g
  given-short Verdicts.Weak g = empty-short d g

  pub heard-short : (t : ℕ) (v : Verdict) → is_heard (after_verdict s t v d).answer ≡ true → length d ≤ longest_challenge
  heard-short t v h = given-short v (both (waits_on t s.phase) (given v d) (sym (heard-or-refused t v).0 ∙ h)).1

-- The laws of the limits, the replies and the numbers. Assumes nothing.
use mathlib.Core.Path.{◌≡◌, refl}
use mathlib.Core.Bool.{Bool, true, false, not}
use mathlib.Core.List.{List, [], ◌∷◌, ◌++◌}
use Prim.Native.Nat.{ℕ, zero, suc, ◌<◌, ◌≤◌}
use native.Mathlib.Omega.{arith}
use borrow.Author.Tests.{leb-true, not-true, ne_eqb}
use lib.Dec.{leb}
use lib.ListN.{length, drop}
use Rattle.octets.specs.Lists.{every, same, after}
use Rattle.octets.proofs.Cases as Cases
use Rattle.profile.specs.Texts.{events, reply, words, challenge_prefix, is_challenge}
use Rattle.profile.specs.Numbers.{profile_number, profile_of, verdict_number, verdict_of, refusal_number}
use Rattle.profile.specs.declared.Profile.{Profile}
use Rattle.profile.specs.declared.Profile.TheVariants.{Smtp, Pop3}
use Rattle.std.specs.Prelude.{Result, Ok, Err}
use Rattle.profile.specs.declared.Reply.{Reply}
use Rattle.profile.specs.declared.Reply.TheVariants as Replies
use Rattle.profile.specs.declared.numbers.Verdict.{Verdict}
use Rattle.profile.specs.declared.numbers.Verdict.TheVariants as Verdicts
use Rattle.profile.specs.declared.numbers.Refusal.{Refusal}
use Rattle.profile.specs.declared.numbers.Refusal.TheVariants as Refusals

-- what a test that antt computes finds of every row of the table holds of each event
module _ (f : Reply → Bool) where
  later : (k : ℕ) (l : List Reply) → every f l ≡ true → every f (drop k l) ≡ true
  unfolding every
  later zero l e = e
  later (suc k) [] e = e
  later (suc k) (r ∷ l) e = later k l (Cases.both (f r) (every f l) e).1

  row : (k : ℕ) (r : Reply) (l : List Reply) → drop k events ≡ r ∷ l → every f events ≡ true → f r ≡ true
  unfolding every
  row k r l h e = (Cases.both (f r) (every f l) (rw h at (later k events e))).0

  each : every f events ≡ true → (r : Reply) → f r ≡ true
  each e Replies.Success = row 0 _ _ refl e
  each e Replies.Transition = row 1 _ _ refl e
  each e Replies.Temporary = row 2 _ _ refl e
  each e Replies.ResponseTooLong = row 3 _ _ refl e
  each e Replies.NotUnderstood = row 4 _ _ refl e
  each e Replies.Syntax = row 5 _ _ refl e
  each e Replies.Cancelled = row 6 _ _ refl e
  each e Replies.InitialResponse = row 7 _ _ refl e
  each e Replies.WrongMoment = row 8 _ _ refl e
  each e Replies.Unavailable = row 9 _ _ refl e
  each e Replies.Weak = row 10 _ _ refl e
  each e Replies.Rejected = row 11 _ _ refl e

-- no text but a challenge begins like a challenge
pub not-challenge : (p : Profile) (r : Reply) → is_challenge (reply p r) ≡ false
not-challenge Smtp r = not-true _ (each (λ x. not (is_challenge (reply Smtp x))) (unfold is_challenge reply words after same every in refl) r)
not-challenge Pop3 r = not-true _ (each (λ x. not (is_challenge (reply Pop3 x))) (unfold is_challenge reply words after same every in refl) r)

-- and what begins with a profile's challenge prefix does
pub challenge-begins : (p : Profile) (l : List ℕ) → is_challenge (challenge_prefix p ++ l) ≡ true
unfolding is_challenge same
challenge-begins Smtp l = refl
challenge-begins Pop3 l = refl

-- every reply is short
pub reply-length : (p : Profile) (r : Reply) → length (reply p r) ≤ 64
reply-length Smtp r = leb-true _ _ (each (λ x. leb (length (reply Smtp x)) 64) (unfold reply words after every in refl) r)
reply-length Pop3 r = leb-true _ _ (each (λ x. leb (length (reply Pop3 x)) 64) (unfold reply words after every in refl) r)

-- a profile and a verdict are told by their numbers, and have no other
pub profile-known : (p : Profile) → profile_of (profile_number p) ≡ Ok p
profile-known Smtp = refl
profile-known Pop3 = refl

pub verdict-known : (v : Verdict) → verdict_of (verdict_number v) ≡ Ok v
verdict-known Verdicts.Challenge = refl
verdict-known Verdicts.Success = refl
verdict-known Verdicts.Rejected = refl
verdict-known Verdicts.Temporary = refl
verdict-known Verdicts.Transition = refl
verdict-known Verdicts.Weak = refl

pub profile-unlisted : (n : ℕ) → ((p : Profile) → n ≡ profile_number p → ⊥) → profile_of n ≡ Err Refusals.NotListed
profile-unlisted n h = rw (ne_eqb n 0 (h Smtp), ne_eqb n 1 (h Pop3))

pub verdict-unlisted : (n : ℕ) → ((v : Verdict) → n ≡ verdict_number v → ⊥) → verdict_of n ≡ Err Refusals.NotListed
verdict-unlisted n h =
    rw (ne_eqb n 0 (h Verdicts.Challenge), ne_eqb n 1 (h Verdicts.Success), ne_eqb n 2 (h Verdicts.Rejected), ne_eqb n 3 (h Verdicts.Temporary), ne_eqb n 4 (h Verdicts.Transition), ne_eqb n 5 (h Verdicts.Weak))

-- no refusal has the number 0
pub refusal-number : (r : Refusal) → 0 < refusal_number r
refusal-number Refusals.ShortBuffer = omega arith
refusal-number Refusals.NoConnection = omega arith
refusal-number Refusals.Waiting = omega arith
refusal-number Refusals.NoTicket = omega arith
refusal-number Refusals.NotListed = omega arith
refusal-number Refusals.Full = omega arith
refusal-number Refusals.Exhausted = omega arith
refusal-number Refusals.BadName = omega arith
refusal-number Refusals.NamePresent = omega arith
refusal-number Refusals.TableFull = omega arith
refusal-number Refusals.Sealed = omega arith
refusal-number Refusals.NotTaken = omega arith

-- What is kept of a step and put into the buffers is what its outcome says. Assumes nothing.
use Rattle.std.specs.Prelude.{Option, Some, None}
use mathlib.Core.Path.{◌≡◌, refl, sym, ap, ◌∙◌}
use mathlib.Core.Bool.{Bool, true, false, cond, false≢true}
use mathlib.Core.List.{List, []}
use mathlib.Core.Option.{some}
use Prim.Native.Nat.{ℕ, ◌+◌, ◌≤◌}
use native.Mathlib.Omega.{arith}
use borrow.Author.Tests.{le-leb}
use lib.ListN.{length}
use Rattle.octets.proofs.Answers.{nothing_written}
use Rattle.octets.specs.Answers.{written, encoded}
use Rattle.std.specs.Prelude.{Option, Some, None, Result, Ok, Err}
use Rattle.profile.specs.declared.Profile.{Profile}
use Rattle.profile.specs.declared.numbers.Identity.{Identity}
use Rattle.profile.specs.declared.numbers.Identity.TheVariants as Identities
use Rattle.session.specs.Answer.{heard, numbers}
use Rattle.session.specs.Measures.{Relays, Measures}
use Rattle.session.specs.Octets.{query_octets, relay_octets}
use Rattle.session.specs.Standing.{is_refused}
use Rattle.session.specs.declared.Session.{Session}
use Rattle.session.specs.declared.answer.Answer.{Answer}
use Rattle.session.specs.declared.answer.Answer.TheVariants as Answers
use Rattle.session.specs.declared.view.View.{View}
use Rattle.server.specs.Line.{is_query, is_address, relays_address, with_session}
use Rattle.server.specs.Outcome.{answered, settled}
use Rattle.server.specs.Server.{Slot, Server, with_slots}
use Rattle.server.specs.Slots.{replaced}
use Rattle.server.specs.declared.Connection.{Connection}
use Rattle.image.specs.Image.{Image, image_of}
use Rattle.image.specs.InPlace.{is_taken, read_server, header_read, slot_found, header_written, slot_written}
use Rattle.image.proofs.Laws.{own-size, header_read_lem, header-written, found-replaced}
use Rattle.calls.specs.Buffers.{heard_in}
use Rattle.calls.specs.Numbers.{answer_numbers}
use Rattle.calls.specs.Step.{result_in, image_in, is_queried, relayed_in}
use Rattle.umbrelnic.specs.Private.{next_of, kept_in, issued, issued_in, handed_in}

-- ---- what the client hears

-- what fits is written, and its end told
module _ (h b : List ℕ) (f : length h ≤ length b) where
  fits : encoded h (length b) 0 ≡ Some (0 + length h)
  fits = rw (le-leb (0 + length h) (length b) (omega arith))

  pub said-end : (n : ℕ) → Some n ≡ encoded h (length b) 0 → n ≡ length h
  said-end n e = let z : Some n ≡ Some (0 + length h) = e ∙ fits in let y : n ≡ 0 + length h = cc in omega arith

  pub said-short : {X : Type 0} → None ≡ encoded h (length b) 0 → X
  said-short e = let z : None ≡ Some (0 + length h) = e ∙ fits in let y : ◌≡◌ {A = ℕ} 0 1 = cc in absurd (omega arith)

-- ---- an outcome, by the step's answer

pub record Settled (l : Image) (a : Answer) (h x : List ℕ) (z : Server) : Type 0 where
  pub gives : answer_numbers (result_in (settled a (answered a h x) z)) ≡ numbers a (length h)
  pub hears : heard_in (result_in (settled a (answered a h x) z)) ≡ h
  pub leaves : image_in l (settled a (answered a h x) z) ≡ cond (is_refused a) l (image_of z)
  pub queries : is_queried (result_in (settled a (answered a h x) z)) ≡ is_query a
  pub relays : relayed_in (result_in (settled a (answered a h x) z)) ≡ x

pub settles : (l : Image) (a : Answer) (p : Profile) (d x : List ℕ) (z : Server) → (is_refused a ≡ true → x ≡ []) → Settled l a (heard p d a) x z
unfolding heard
settles l (Answers.Refused k) p d x z w = record { gives = refl; hears = refl; leaves = refl; queries = refl; relays = sym (w refl) }
settles l (Answers.Forward i n) p d x z w = record { gives = refl; hears = refl; leaves = refl; queries = refl; relays = refl }
settles l (Answers.Query t b n) p d x z w = record { gives = refl; hears = refl; leaves = refl; queries = refl; relays = refl }
settles l (Answers.Reply e) p d x z w = record { gives = refl; hears = refl; leaves = refl; queries = refl; relays = refl }
settles l Answers.EmptyChallenge p d x z w = record { gives = refl; hears = refl; leaves = refl; queries = refl; relays = refl }
settles l Answers.Challenge p d x z w = record { gives = refl; hears = refl; leaves = refl; queries = refl; relays = refl }

-- ---- the image

module _ (l : Image) (t : is_taken l ≡ true) (q : Slot → Bool) (i : ℕ) (e : slot_found q l ≡ Some i) (c : Connection) (z : Session) where
  written_next : (a : Answer) → slot_written l i (some (next_of c.number (record { session = z; answer = a })))
      ≡ image_of (with_slots (read_server l) (replaced q (some (record { session = z; number = c.number })) (read_server l).slots))
  written_next a = found-replaced q l i e (some (record { session = z; number = c.number })) t

  -- a step that asks nothing
  pub keeps : (a : Answer) → is_query a ≡ false
      → kept_in l i c.number (record { session = z; answer = a }) ≡ cond (is_refused a) l (image_of (with_session (read_server l) q c (record { session = z; answer = a })))
  unfolding kept_in
  keeps (Answers.Refused k) n = refl
  keeps (Answers.Forward j m) n = written_next (Answers.Forward j m)
  keeps (Answers.Query u b m) n = absurd (false≢true (sym n))
  keeps (Answers.Reply k) n = written_next (Answers.Reply k)
  keeps Answers.EmptyChallenge n = written_next Answers.EmptyChallenge
  keeps Answers.Challenge n = written_next Answers.Challenge

  -- one that may
  pub keeps-issued : (a : Answer)
      → issued_in (kept_in l i c.number (record { session = z; answer = a })) (header_read l) a
      ≡ cond (is_refused a) l (image_of (with_session (read_server l) q c (record { session = z; answer = a })))
  unfolding issued_in
  keeps-issued (Answers.Refused k) = keeps (Answers.Refused k) refl
  keeps-issued (Answers.Forward j m) = keeps (Answers.Forward j m) refl
  keeps-issued (Answers.Query u b m) = unfold kept_in in
      (ap (λ (x : Image). header_written x (issued (header_read l))) (written_next (Answers.Query u b m))
      ∙ header-written (with_slots (read_server l) (replaced q (some (record { session = z; number = c.number })) (read_server l).slots)) (issued (header_read l))
      ∙ rw (header_read_lem l (own-size l t)))
  keeps-issued (Answers.Reply k) = keeps (Answers.Reply k) refl
  keeps-issued Answers.EmptyChallenge = keeps Answers.EmptyChallenge refl
  keeps-issued Answers.Challenge = keeps Answers.Challenge refl

-- ---- what a line hands over

module _ (v : View) (l b : List ℕ) where
  relays : (j : Identity) (n : ℕ) → Relays v l j n → handed_in (Answers.Forward j n) v l b ≡ written b 0 (cond (is_address j) (relay_octets v l) [])
  unfolding handed_in relay_octets
  relays Identities.NoMail n m = sym (nothing_written b)
  relays Identities.Null n m = sym (nothing_written b)
  relays Identities.Absent n m = sym (nothing_written b)
  relays Identities.Address n m = rw m.0

  pub hands : (t : ℕ) (a : Answer) → Measures v l t a
      → handed_in a v l b ≡ written b 0 (cond (is_query a) (query_octets v l) (cond (relays_address a) (relay_octets v l) []))
  unfolding handed_in query_octets
  hands t (Answers.Refused k) m = sym (nothing_written b)
  hands t (Answers.Forward j n) m = relays j n m
  hands t (Answers.Query u x n) m = rw m.valid
  hands t (Answers.Reply k) m = sym (nothing_written b)
  hands t Answers.EmptyChallenge m = sym (nothing_written b)
  hands t Answers.Challenge m = sym (nothing_written b)

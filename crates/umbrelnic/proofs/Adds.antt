-- Add, exit by exit. Assumes nothing.
use mathlib.Core.Path.{◌≡◌, refl, sym, ap, ◌∙◌}
use mathlib.Core.Bool.{Bool, true, false, ◌&&◌}
use mathlib.Core.List.{List}
use Prim.Native.Nat.{ℕ, ◌<◌, ◌≤◌}
use borrow.Author.Tests.{lt-ltb, le-ltb}
use lib.ListN.{length}
use Rattle.lines.specs.Mechanism.{mechanism, padded}
use Rattle.profile.specs.declared.numbers.Refusal.TheVariants as Refusals
use Rattle.server.specs.Add.{kept_as, with_mechanism, adds_to, on_add}
use Rattle.server.specs.Limits.{most_mechanisms}
use Rattle.server.specs.Mechanisms.{listed, offered, is_present}
use Rattle.server.specs.Outcome.{refuses, gives, done, is_yes_or_no, is_yes}
use Rattle.server.specs.Requests.{on}
use Rattle.server.specs.declared.Header.{Header}
use Rattle.server.specs.declared.Mechanism.{Mechanism}
use Rattle.image.specs.Image.{Image, image_of}
use Rattle.image.specs.InPlace.{is_taken, read_server, header_read, mechanisms_read, mechanism_written}
use Rattle.image.proofs.Laws.{taken_own, own-size, header_read_lem, mechanisms-read, count-taken, mechanism-written}
use Rattle.calls.specs.Call as Call
use Rattle.calls.specs.Call.{request}
use Rattle.calls.specs.Step.{out_of, step}
use Rattle.umbrelnic.proofs.Exits.{refused_out, step-on}

module _ (l : Image) (t : is_taken l ≡ true) (n : List ℕ) (f p : Bool) where
  sealed-own : (b : Bool) → (header_read l).sealed ≡ b → (read_server l).header.sealed ≡ b
  sealed-own b e = ap (λ (x : Header). x.sealed) (sym (header_read_lem l (own-size l t))) ∙ e

  pub add-sealed : (header_read l).sealed ≡ true → adds_to (read_server l) n f p ≡ refuses Refusals.Sealed
  add-sealed e = rw (sealed-own true e)

  module _ (e : (header_read l).sealed ≡ false) where
    pub add-bad : mechanism n ≡ false → adds_to (read_server l) n f p ≡ refuses Refusals.BadName
    add-bad m = rw (sealed-own false e, m)

    module _ (m : mechanism n ≡ true) where
      present-own : (b : Bool) → is_present (offered (listed (mechanisms_read l)) (padded n)) ≡ b → is_present (offered (read_server l).mechanisms (padded n)) ≡ b
      present-own b x = ap (λ (ms : List Mechanism). is_present (offered ms (padded n))) (sym (mechanisms-read l (own-size l t))) ∙ x

      pub add-present : is_present (offered (listed (mechanisms_read l)) (padded n)) ≡ true → adds_to (read_server l) n f p ≡ refuses Refusals.NamePresent
      add-present x = rw (sealed-own false e, m, present-own true x)

      module _ (x : is_present (offered (listed (mechanisms_read l)) (padded n)) ≡ false) where
        count-own : (mechanisms_read l).count ≡ length (read_server l).mechanisms
        count-own = count-taken l (read_server l) (taken_own l t).0

        pub add-full : most_mechanisms ≤ (mechanisms_read l).count → adds_to (read_server l) n f p ≡ refuses Refusals.TableFull
        add-full h = rw (sealed-own false e, m, present-own false x, ← count-own, le-ltb (mechanisms_read l).count most_mechanisms h)

        module _ (h : (mechanisms_read l).count < most_mechanisms) where
          pub add-gives : adds_to (read_server l) n f p ≡ gives done (with_mechanism (read_server l) (kept_as n f p))
          add-gives = rw (sealed-own false e, m, present-own false x, ← count-own, lt-ltb (mechanisms_read l).count most_mechanisms h)

          pub add-leaves : (k : Mechanism) → mechanism_written l (mechanisms_read l).count k ≡ image_of (with_mechanism (read_server l) k)
          add-leaves k =
              ap (λ (i : Image). mechanism_written i (mechanisms_read l).count k) (taken_own l t).1
              ∙ mechanism-written (read_server l) (mechanisms_read l).count k count-own h

-- the whole call
module _ (l : Image) (t : is_taken l ≡ true) (n : List ℕ) (f p : ℕ) where
  pub add-unlisted : (is_yes_or_no f && is_yes_or_no p) ≡ false → step l (Call.add n f p) ≡ refused_out l Refusals.NotListed
  unfolding on on_add
  add-unlisted e = step-on l (Call.add n f p) (read_server l) refl (taken_own l t).0 ∙ rw e

  pub add-listed : (is_yes_or_no f && is_yes_or_no p) ≡ true → step l (Call.add n f p) ≡ out_of l (request (Call.add n f p)) (adds_to (read_server l) n (is_yes f) (is_yes p))
  unfolding on on_add
  add-listed e = step-on l (Call.add n f p) (read_server l) refl (taken_own l t).0 ∙ rw e

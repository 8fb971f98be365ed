-- Open, exit by exit. Assumes nothing.
use Rattle.std.specs.Prelude.{Option, Some, None}
use Rattle.std.specs.Prelude.{Result, Ok, Err}
use mathlib.Core.Path.{◌≡◌, refl, sym, ap, ◌∙◌}
use mathlib.Core.Bool.{Bool, true}
use mathlib.Core.Option.{some}
use Prim.Native.Nat.{ℕ, ◌<◌, ◌≤◌}
use borrow.Author.Tests.{eq-eqb, ne_eqb, le-leb, lt-leb}
use Rattle.profile.specs.Numbers.{profile_of}
use Rattle.profile.specs.declared.numbers.Refusal.{Refusal}
use Rattle.profile.specs.declared.Profile.{Profile}
use Rattle.profile.specs.declared.numbers.Refusal.TheVariants as Refusals
use Rattle.session.specs.Limits.{unissued}
use Rattle.server.specs.Open.{entered, opens, with_connection, enters, opens_as, on_open}
use Rattle.server.specs.Outcome.{refuses, gives, opened, is_yes}
use Rattle.server.specs.Requests.{on}
use Rattle.server.specs.Server.{with_slots}
use Rattle.server.specs.Slots.{is_free, replaced}
use Rattle.server.specs.declared.Header.{Header}
use Rattle.image.specs.Image.{Image, image_of}
use Rattle.image.specs.InPlace.{is_taken, read_server, header_read, slot_found, header_written, slot_written}
use Rattle.image.proofs.Laws.{taken_own, own-size, header_read_lem, header-written, free-found, free-absent, found-replaced}
use Rattle.calls.specs.Call as Call
use Rattle.calls.specs.Call.{request}
use Rattle.calls.specs.Step.{out_of, step}
use Rattle.umbrelnic.proofs.Exits.{refused_out, step-on}

module _ (l : Image) (t : is_taken l ≡ true) (p : Profile) (b : Bool) where
  pub open_full : slot_found is_free l ≡ None → enters (read_server l) p b ≡ refuses Refusals.Full
  open_full e = rw (free-absent l (own-size l t) e)

  header-own : header_read l ≡ (read_server l).header
  header-own = header_read_lem l (own-size l t)

  module _ (i : ℕ) (e : slot_found is_free l ≡ Some i) where
    pub open_exhausted : (header_read l).connection ≡ unissued → enters (read_server l) p b ≡ refuses Refusals.Exhausted
    open_exhausted h = rw (free-found l i e, eq-eqb (read_server l).header.connection unissued (ap (λ (x : Header). x.connection) (sym header-own) ∙ h))

    module _ (h : (header_read l).connection ≡ unissued → ⊥) where
      pub open_gives : enters (read_server l) p b ≡ gives (opened (header_read l).connection) (with_connection (read_server l) (entered (header_read l) p b))
      open_gives =
          rw header-own
          (rw (free-found l i e, ne_eqb (read_server l).header.connection unissued (λ z. h (ap (λ (x : Header). x.connection) header-own ∙ z))))

      pub open-leaves : header_written (slot_written l i (some (entered (header_read l) p b))) (opens (header_read l))
          ≡ image_of (with_connection (read_server l) (entered (header_read l) p b))
      open-leaves =
          ap (λ (m : Image). header_written m (opens (header_read l))) (found-replaced is_free l i e (some (entered (header_read l) p b)) t)
          ∙ header-written (with_slots (read_server l) (replaced is_free (some (entered (header_read l) p b)) (read_server l).slots)) (opens (header_read l))
          ∙ rw header-own

-- the whole call
module _ (l : Image) (t : is_taken l ≡ true) (k b : ℕ) where
  opens_as_lem : (p : Result Profile Refusal) → p ≡ profile_of k → step l (Call.opens k b) ≡ out_of l (request (Call.opens k b)) (opens_as (read_server l) p b)
  unfolding on on_open
  opens_as_lem p e =
      step-on l (Call.opens k b) (read_server l) refl (taken_own l t).0
      ∙ ap (λ (x : Result Profile Refusal). out_of l (request (Call.opens k b)) (opens_as (read_server l) x b)) (sym e)

  pub open-unlisted : {r : Refusal} → Err r ≡ profile_of k → step l (Call.opens k b) ≡ refused_out l Refusals.NotListed
  open-unlisted {r} e = opens_as_lem (Err r) e

  pub open-neither : (p : Profile) → Ok p ≡ profile_of k → 1 < b → step l (Call.opens k b) ≡ refused_out l Refusals.NotListed
  open-neither p e h = opens_as_lem (Ok p) e ∙ rw (lt-leb b 1 h)

  pub open-listed : (p : Profile) → Ok p ≡ profile_of k → b ≤ 1
      → step l (Call.opens k b) ≡ out_of l (request (Call.opens k b)) (enters (read_server l) p (is_yes b))
  open-listed p e h = opens_as_lem (Ok p) e ∙ rw (le-leb b 1 h)

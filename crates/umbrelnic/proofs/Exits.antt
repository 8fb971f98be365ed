-- One call on an image, exit by exit: refused, or done by what was written in place. Assumes nothing.
use Rattle.std.specs.Prelude.{Result, Ok, Err, ok_or}
use Rattle.std.specs.Prelude as Rust
use Rattle.std.specs.Prelude.{Some, None}
use mathlib.Core.Path.{◌≡◌, refl, sym, ap, ◌∙◌}
use mathlib.Core.Bool.{Bool, true, false, cond}
use mathlib.Core.List.{List, []}
use mathlib.Core.Option.{Option, none, some}
use Prim.Native.Nat.{ℕ}
use native.Mathlib.Omega.{arith}
use borrow.Author.Tests.{eqb-true, eq-eqb}
use lib.Dec.{eqb}
use lib.ListN.{length}
use Rattle.profile.specs.declared.numbers.Refusal.{Refusal}
use Rattle.profile.specs.declared.numbers.Refusal.TheVariants as Refusals
use Rattle.server.specs.Close.{close_found, on_close}
use Rattle.server.specs.Make.{fresh}
use Rattle.server.specs.MailEnded.{mail_found, on_mail_ended}
use Rattle.server.specs.Outcome.{refused, done, borne, refuses}
use Rattle.server.specs.Requests.{on}
use Rattle.server.specs.Who.{who_found, on_who}
use Rattle.server.specs.Server.{Slot, Server, with_slots}
use Rattle.server.specs.Slots.{is_numbered, holding, found, replaced}
use Rattle.server.specs.declared.Connection.{Connection}
use Rattle.server.proofs.Kept.{parts, found-open}
use Rattle.session.specs.Named.{bears}
use Rattle.session.specs.WellFormed.{well_formed}
use Rattle.image.specs.Image.{Image, image_of, taken}
use Rattle.image.specs.InPlace.{is_taken, read_server, connection_read, slot_found, slot_written, fresh_written}
use Rattle.image.specs.Sizes.{image_size}
use Rattle.image.proofs.Laws.{taken_own, taken-within, not_taken, own-size, found-replaced, connection-found, connection-passes, connection-absent}
use Rattle.calls.specs.Call.{Call, request, is_short}
use Rattle.calls.specs.Step.{Out, lent, out_of, outcome, step}
use Rattle.umbrelnic.specs.Private.{placed, ended}

-- what a refused call comes to
abbrev pub refused_out : Image → Refusal → Out
refused_out l k = record { result = refused k; handed = []; image = l }

module _ (l : Image) (c : Call) where
  pub step-short : is_short c ≡ true → step l c ≡ refused_out l Refusals.ShortBuffer
  unfolding step outcome
  step-short e = rw e

  pub step-untaken : is_short c ≡ false → lent l (request c) ≡ none → step l c ≡ refused_out l Refusals.NotTaken
  unfolding step outcome
  step-untaken e f = rw (e, f)

  pub step-on : (s : Server) → is_short c ≡ false → lent l (request c) ≡ some s → step l c ≡ out_of l (request c) (on s (request c))
  unfolding step outcome
  step-on s e f = rw (e, f)

-- ---- the connection that a call is for

module _ (k : Refusal) (p : Slot → Bool) (l : Image) where
  -- where it was found the image is taken
  pub placed_at : (i : ℕ) → Ok i ≡ placed k p l → (is_taken l ≡ true) × (slot_found p l ≡ Some i)
  unfolding placed
  placed_at i e = go (is_taken l) refl (slot_found p l) refl e
    where
      go : (b : Bool) → is_taken l ≡ b → (f : Rust.Option ℕ) → slot_found p l ≡ f → Ok i ≡ cond b (ok_or f k) (Err Refusals.NotTaken)
          → (is_taken l ≡ true) × (slot_found p l ≡ Some i)
      go true et (Some j) ef h = let z : i ≡ j = cc in (et, ef ∙ ap Some (sym z))
      go true et None ef h = let z : ◌≡◌ {A = ℕ} 0 1 = cc in absurd (omega arith)
      go false et f ef h = let z : ◌≡◌ {A = ℕ} 0 1 = cc in absurd (omega arith)

-- a call for a connection that passes a test is refused as the search says; k: the refusal where there is none
module _ (l : Image) (c : Call) (k : Refusal) (q : Connection → Bool) (long : is_short c ≡ false) (on-image : lent l (request c) ≡ taken l)
    (absent : (s : Server) → found q s.slots ≡ none → on s (request c) ≡ refuses k) where
  pub step-refused : (j : Refusal) → Err j ≡ placed k (holding q) l → step l c ≡ refused_out l j
  unfolding placed
  step-refused j e = go (is_taken l) refl (slot_found (holding q) l) refl e
    where
      go : (b : Bool) → is_taken l ≡ b → (f : Rust.Option ℕ) → slot_found (holding q) l ≡ f
          → Err j ≡ cond b (ok_or f k) (Err Refusals.NotTaken) → step l c ≡ refused_out l j
      go true et (Some i) ef h = let z : ◌≡◌ {A = ℕ} 0 1 = cc in absurd (omega arith)
      go true et None ef h =
          let z : k ≡ j = cc in
          step-on l c (read_server l) long (on-image ∙ (taken_own l et).0)
          ∙ ap (out_of l (request c)) (absent (read_server l) (connection-absent q l (own-size l et) ef))
          ∙ ap (refused_out l) z
      go false et f ef h = let z : Refusals.NotTaken ≡ j = cc in step-untaken l c long (on-image ∙ not_taken l et) ∙ ap (refused_out l) z

-- ---- make

pub make-refused : (l : Image) (n t : ℕ) → (length l ≡ image_size → ⊥) → step l (Call.make n t) ≡ refused_out l Refusals.NotTaken
make-refused l n t e = step-untaken l (Call.make n t) refl (go (eqb (length l) image_size) refl)
  where
    go : (b : Bool) → eqb (length l) image_size ≡ b → cond b (some (fresh n t)) none ≡ none
    go true h = absurd (e (eqb-true (length l) image_size h))
    go false h = refl

pub make-done : (l : Image) (n t : ℕ) → length l ≡ image_size → step l (Call.make n t) ≡ record { result = done; handed = []; image = fresh_written l n t }
unfolding on fresh_written
make-done l n t e =
    let w = eq-eqb (length l) image_size e in
    step-on l (Call.make n t) (fresh n t) refl (rw w) ∙ rw w

-- ---- mail ended, who and close

module _ (l : Image) (n : ℕ) where
  pub mail-refused : (j : Refusal) → Err j ≡ placed Refusals.NoConnection (holding (is_numbered n)) l → step l (Call.mail_ended n) ≡ refused_out l j
  unfolding on on_mail_ended
  mail-refused = step-refused l (Call.mail_ended n) Refusals.NoConnection (is_numbered n) refl refl (λ s e. ap (mail_found s) e)

  pub who-refused : (b : List ℕ) → is_short (Call.who n b) ≡ false → (j : Refusal)
      → Err j ≡ placed Refusals.NoConnection (holding (is_numbered n)) l → step l (Call.who n b) ≡ refused_out l j
  unfolding on on_who
  who-refused b long = step-refused l (Call.who n b) Refusals.NoConnection (is_numbered n) long refl (λ s e. ap (who_found s) e)

  pub close-refused : (j : Refusal) → Err j ≡ placed Refusals.NoConnection (holding (is_numbered n)) l → step l (Call.close n) ≡ refused_out l j
  unfolding on on_close
  close-refused = step-refused l (Call.close n) Refusals.NoConnection (is_numbered n) refl refl (λ s e. ap (close_found s) e)

  module _ (i : ℕ) (place : Ok i ≡ placed Refusals.NoConnection (holding (is_numbered n)) l) where
    is-taken : is_taken l ≡ true
    is-taken = (placed_at Refusals.NoConnection (holding (is_numbered n)) l i place).0

    is_found : slot_found (holding (is_numbered n)) l ≡ Some i
    is_found = (placed_at Refusals.NoConnection (holding (is_numbered n)) l i place).1

    is_read : found (is_numbered n) (read_server l).slots ≡ some (connection_read l i)
    is_read = connection-found (is_numbered n) l i is_found

    -- another slot written there replaces the one with the connection's own number
    replaces : (y : Slot) → slot_written l i y ≡ image_of (with_slots (read_server l) (replaced (holding (is_numbered (connection_read l i).number)) y (read_server l).slots))
    replaces y =
        rw (eqb-true (connection_read l i).number n (connection-passes (is_numbered n) l i is_found))
        (found-replaced (holding (is_numbered n)) l i is_found y is-taken)

    pub mail-done : step l (Call.mail_ended n) ≡ record { result = done; handed = []; image = slot_written l i (some (ended (connection_read l i))) }
    unfolding on on_mail_ended
    mail-done =
        step-on l (Call.mail_ended n) (read_server l) refl (taken_own l is-taken).0
        ∙ ap (λ (x : Option Connection). out_of l (request (Call.mail_ended n)) (mail_found (read_server l) x)) is_read
        ∙ ap (λ (x : Image). record { result = done; handed = []; image = x }) (sym (replaces (some (ended (connection_read l i)))))

    pub who-done : (b : List ℕ) → is_short (Call.who n b) ≡ false
        → step l (Call.who n b) ≡ record { result = borne (bears (connection_read l i).session); handed = []; image = l }
    unfolding on on_who
    who-done b long =
        step-on l (Call.who n b) (read_server l) long (taken_own l is-taken).0
        ∙ ap (λ (x : Option Connection). out_of l (request (Call.who n b)) (who_found (read_server l) x)) is_read
        ∙ ap (λ (x : Image). record { result = borne (bears (connection_read l i).session); handed = []; image = x }) (sym (taken_own l is-taken).1)

    pub close-done : step l (Call.close n) ≡ record { result = done; handed = []; image = slot_written l i none }
    unfolding on on_close
    close-done =
        step-on l (Call.close n) (read_server l) refl (taken_own l is-taken).0
        ∙ ap (λ (x : Option Connection). out_of l (request (Call.close n)) (close_found (read_server l) x)) is_read
        ∙ ap (λ (x : Image). record { result = done; handed = []; image = x }) (sym (replaces none))

    pub session-within : well_formed (connection_read l i).session ≡ true
    session-within =
        (found-open (read_server l) (parts (read_server l) (taken-within l (read_server l) (taken_own l is-taken).0)) (is_numbered n) (connection_read l i) is_read).session

-- One call on an image: the server that it is on and the one that it leaves. Assumes nothing.
use mathlib.Core.Path.{◌≡◌, refl, sym, ap, ◌∙◌}
use mathlib.Core.Bool.{Bool, true, false, cond, true≢false}
use mathlib.Core.Option.{Option, none, some}
use Prim.Native.Nat.{ℕ}
use native.Mathlib.Omega.{arith}
use lib.Dec.{eqb}
use lib.ListN.{length}
use Rattle.profile.specs.declared.numbers.Refusal.{Refusal}
use Rattle.profile.specs.declared.numbers.Refusal.TheVariants as Refusals
use Rattle.server.specs.Make.{fresh}
use Rattle.server.specs.Outcome.{Result, Outcome, refuses, gives}
use Rattle.server.specs.Requests as Requests
use Rattle.server.specs.Requests.{Request, Sized, on}
use Rattle.server.specs.Server.{Server}
use Rattle.server.specs.WellFormed.{well_formed}
use Rattle.server.proofs.Kept.{within, fresh-within}
use Rattle.server.proofs.Moves.{Moves, Unrefused, moves}
use Rattle.image.specs.Image as Images
use Rattle.image.specs.Image.{Image, image_of, taken}
use Rattle.image.specs.Sizes.{image_size}
use Rattle.image.proofs.Taken.{taken-written, taken-within}
use Rattle.calls.specs.Call.{Call, request, is_short}
use Rattle.calls.specs.Step.{lent, on_lent, outcome, result_in, image_in, step}
use Rattle.claims.specs.Told.{is_refusal, tells, made_tells, server_stands, seen}
use Rattle.claims.proofs.Follows.{look, follows}

-- what is given without a refusal is no refusal
pub given_unrefused : {s z : Server} {r : Request} {a : Result} → Moves s r a z → is_refusal a ≡ false
given_unrefused (Moves.makes c t) = refl
given_unrefused (Moves.adds n f p e a l) = refl
given_unrefused (Moves.opens k b p f e) = refl
given_unrefused (Moves.steps n l c f e) = refl
given_unrefused (Moves.judges t k d c v g f e) = refl
given_unrefused (Moves.ends n c f) = refl
given_unrefused (Moves.tells n c f) = refl
given_unrefused (Moves.closes n c f) = refl

abbrev pub is_make : Request → Bool
is_make (Requests.make c t) = true
is_make (Requests.add n f p) = false
is_make (Requests.opens p b) = false
is_make (Requests.line n l) = false
is_make (Requests.verdict t v d) = false
is_make (Requests.mail_ended n) = false
is_make (Requests.who n) = false
is_make (Requests.close n) = false

-- the server that a call is on: well formed, that of the image unless the call is a make, and what it tells of a connection is told of the image
pub record Lent (i : Image) (r : Request) (s : Server) : Type 0 where
  pub within : well_formed s ≡ true
  pub taken : is_make r ≡ false → Images.taken i ≡ some s
  pub tells : (a : Result) (n : ℕ) → tells r a n (look n s.slots) ≡ tells r a n (seen i n)

module _ (i : Image) (s : Server) where
  on-taken : (r : Request) → taken i ≡ some s → Lent i r s
  unfolding seen
  on-taken r e = record { within = taken-within i s e; taken = λ m. e; tells = λ a n. sym (ap (λ (o : Option Server). tells r a n (server_stands o n)) e) }

  on-fresh : (c t : ℕ) → Sized (Requests.make c t) → (b : Bool) → cond b (some (fresh c t)) none ≡ some s → Lent i (Requests.make c t) s
  on-fresh c t z true e =
      let f : fresh c t ≡ s = cc in
      record { within = ap well_formed (sym f) ∙ fresh-within c t z.0 z.1; taken = λ m. absurd (true≢false m); tells = λ a n. refl }
  on-fresh c t z false e = let f : ◌≡◌ {A = ℕ} 0 1 = cc in absurd (omega arith)

  pub on-lent : (r : Request) → Sized r → lent i r ≡ some s → Lent i r s
  on-lent (Requests.make c t) z e = on-fresh c t z (eqb (length i) image_size) e
  on-lent (Requests.add n f p) z e = on-taken (Requests.add n f p) e
  on-lent (Requests.opens p b) z e = on-taken (Requests.opens p b) e
  on-lent (Requests.line n l) z e = on-taken (Requests.line n l) e
  on-lent (Requests.verdict t v d) z e = on-taken (Requests.verdict t v d) e
  on-lent (Requests.mail_ended n) z e = on-taken (Requests.mail_ended n) e
  on-lent (Requests.who n) z e = on-taken (Requests.who n) e
  on-lent (Requests.close n) z e = on-taken (Requests.close n) e

-- what one call comes to: a refusal, or a move of the server that it is on
pub data Comes (i : Image) (r : Request) : Outcome → Type 0 where
  refusal : (k : Refusal) → Comes i r (refuses k)
  move : (s z : Server) (a : Result) → Lent i r s → lent i r ≡ some s → Moves s r a z → Comes i r (gives a z)

comes-on : (i : Image) (r : Request) (s : Server) → Lent i r s → lent i r ≡ some s → (o : Outcome) → Unrefused (Moves s r) o → Comes i r o
comes-on i r s l e (refuses k) m = refusal k
comes-on i r s l e (gives a z) m = move s z a l e m

comes-lent : (i : Image) (r : Request) → Sized r → (x : Option Server) → lent i r ≡ x → Comes i r (on_lent x r)
comes-lent i r z none e = refusal Refusals.NotTaken
comes-lent i r z (some s) e = comes-on i r s (on-lent i s r z e) e (on s r) (moves s r)

pub comes : (i : Image) (c : Call) → Sized (request c) → Comes i (request c) (outcome i c)
unfolding outcome
comes i c z = go (is_short c)
  where
    go : (b : Bool) → Comes i (request c) (cond b (refuses Refusals.ShortBuffer) (on_lent (lent i (request c)) (request c)))
    go true = refusal Refusals.ShortBuffer
    go false = comes-lent i (request c) z (lent i (request c)) refl

-- the image that it leaves is taken for the server that it leaves
pub left-taken : (i : Image) (r : Request) (s z : Server) (a : Result) → Sized r → Lent i r s → Moves s r a z → taken (image_of z) ≡ some z
left-taken i r s z a k l m = taken-written z (within m l.within k)

pub stands-left : (z : Server) (n : ℕ) → taken (image_of z) ≡ some z → seen (image_of z) n ≡ look n z.slots
unfolding seen
stands-left z n e = ap (λ (o : Option Server). server_stands o n) e

-- how a connection stands after a call is what the call tells
pub tracks : (i : Image) (c : Call) → Sized (request c) → (n : ℕ)
    → seen (step i c).image n ≡ made_tells (record { request = request c; result = (step i c).result }) n (seen i n)
unfolding step
tracks i c k n = go (comes i c k)
  where
    go : {o : Outcome} → Comes i (request c) o → seen (image_in i o) n ≡ made_tells (record { request = request c; result = result_in o }) n (seen i n)
    go (refusal j) = refl
    go (move s z a l e m) =
        stands-left z n (left-taken i (request c) s z a k l m)
        ∙ follows m l.within n
        ∙ l.tells a n
        ∙ sym (ap (λ (b : Bool). cond b (seen i n) (tells (request c) a n (seen i n))) (given_unrefused m))

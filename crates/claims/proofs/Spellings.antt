-- Two spellings of a mechanism come to the same. Assumes nothing.
use mathlib.Core.Path.{◌≡◌, refl, sym, ap, ◌∙◌}
use mathlib.Core.Bool.{Bool, true, false, cond}
use mathlib.Core.List.{List}
use mathlib.Core.Option.{Option, none, some}
use Prim.Native.Nat.{ℕ}
use Rattle.lines.specs.Alike.{SpelledAlike}
use Rattle.lines.specs.Mechanism.{padded}
use Rattle.profile.specs.declared.numbers.Refusal.TheVariants as Refusals
use Rattle.session.specs.Octets.{mechanism_text}
use Rattle.session.specs.View.{view}
use Rattle.session.proofs.Laws.{spelled-view, spelled-octets, line-measures}
use Rattle.server.specs.Line.{line_step, line_found, on_line, response_found, response_on}
use Rattle.server.specs.Mechanisms.{offered}
use Rattle.server.specs.Outcome.{Outcome, refuses}
use Rattle.server.specs.Requests as Requests
use Rattle.server.specs.Requests.{on}
use Rattle.server.specs.Server.{Server}
use Rattle.server.specs.Slots.{is_numbered, found}
use Rattle.server.specs.declared.Connection.{Connection}
use Rattle.server.proofs.Alike.{same_line}
use Rattle.image.specs.Image.{Image, taken}
use Rattle.calls.specs.Call as Calls
use Rattle.calls.specs.Call.{is_short}
use Rattle.calls.specs.Step.{on_lent, outcome, result_in, image_in, response_lent, is_queried, relayed_in, out_of, step}
use Rattle.claims.specs.Spellings.{SpellingsServed}
use Rattle.claims.proofs.Secrecy.{queried_settled, query-valid, queried_long}

module _ (n : ℕ) (l k : List ℕ) (h : SpelledAlike l k) where
  -- what the call comes to
  served-found : (s : Server) (x : Option Connection) → line_found s l x ≡ line_found s k x
  served-found s none = refl
  served-found s (some c) = same_line s c (spelled-view c.session h)

  served-lent : (o : Option Server) → on_lent o (Requests.line n l) ≡ on_lent o (Requests.line n k)
  unfolding on on_line
  served-lent none = refl
  served-lent (some s) = served-found s (found (is_numbered n) s.slots)

  -- the octets of a query
  octets-found : (s : Server) (x : Option Connection) → is_queried (result_in (line_found s l x)) ≡ true → response_found l x ≡ response_found k x
  octets-found s none q = refl
  octets-found s (some c) q =
      let o = offered s.mechanisms (padded (mechanism_text (view c.session l) l)) in
      let asks = sym (queried_settled (line_step s c l).answer _ _ _) ∙ q in
      let measures = line-measures l c.session o s.header.ticket in
      spelled-octets c.session h (query-valid (view c.session l) l s.header.ticket (line_step s c l).answer measures asks)

  octets-lent : (o : Option Server) → is_queried (result_in (on_lent o (Requests.line n l))) ≡ true
      → response_lent o (Requests.line n l) ≡ response_lent o (Requests.line n k)
  unfolding on on_line response_on
  octets-lent none q = refl
  octets-lent (some s) q = octets-found s (found (is_numbered n) s.slots) q

  module _ (i : Image) (r a : List ℕ) where
    outcomes : outcome i (Calls.line n l r a) ≡ outcome i (Calls.line n k r a)
    unfolding outcome
    outcomes = ap (cond (is_short (Calls.line n l r a)) (refuses Refusals.ShortBuffer)) (served-lent (taken i))

    -- whatever is not a query hands over what the outcome relays
    handed : (o : Outcome) → (is_queried (result_in o) ≡ true → response_lent (taken i) (Requests.line n l) ≡ response_lent (taken i) (Requests.line n k))
        → out_of i (Requests.line n l) o ≡ out_of i (Requests.line n k) o
    handed o f = ap (λ (x : List ℕ). record { result = result_in o; handed = x; image = image_in i o }) (go (is_queried (result_in o)) f)
      where
        go : (b : Bool) → (b ≡ true → response_lent (taken i) (Requests.line n l) ≡ response_lent (taken i) (Requests.line n k))
            → cond b (response_lent (taken i) (Requests.line n l)) (relayed_in (result_in o)) ≡ cond b (response_lent (taken i) (Requests.line n k)) (relayed_in (result_in o))
        go true g = g refl
        go false g = refl

    queried : is_queried (result_in (outcome i (Calls.line n k r a))) ≡ true → is_queried (result_in (on_lent (taken i) (Requests.line n l))) ≡ true
    unfolding outcome
    queried q = queried_long (is_short (Calls.line n l r a)) (on_lent (taken i) (Requests.line n l)) (ap (λ (o : Outcome). is_queried (result_in o)) outcomes ∙ q)

pub spellings-served : SpellingsServed
unfolding step
spellings-served i n l k r a h =
    ap (out_of i (Requests.line n l)) (outcomes n l k h i r a)
    ∙ handed n l k h i r a (outcome i (Calls.line n k r a)) (λ q. octets-lent n l k h (taken i) (queried n l k h i r a q))

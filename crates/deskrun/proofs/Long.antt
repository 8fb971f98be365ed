-- Lines and verdicts' data that are too long: the call comes to the same whatever they hold. Assumes nothing.
use mathlib.Core.Path.{◌≡◌, refl, sym, ap}
use mathlib.Core.Bool.{Bool, true, false, cond}
use mathlib.Core.List.{List, [], ◌∷◌}
use mathlib.Core.Option.{Option, none, some}
use Prim.Native.Nat.{ℕ, ◌<◌, ◌≤◌}
use native.Mathlib.Omega.{arith}
use borrow.Author.Tests.{lt-leb, lt-ltb}
use lib.Dec.{eqb}
use lib.ListN.{length}
use Rattle.octets.proofs.Every.{too_long}
use Rattle.profile.specs.Limits.{command_limit, mail_limit}
use Rattle.profile.specs.Numbers.{verdict_of}
use Rattle.profile.specs.declared.Profile.{Profile}
use Rattle.profile.specs.declared.Profile.TheVariants.{Smtp, Pop3}
use Rattle.profile.specs.declared.numbers.Refusal.{Refusal}
use Rattle.profile.specs.declared.numbers.Refusal.TheVariants.{ShortBuffer, NoTicket, NotListed}
use Rattle.profile.specs.declared.numbers.Verdict.{Verdict}
use Rattle.profile.specs.declared.numbers.Verdict.TheVariants.{Challenge, Success, Rejected, Temporary, Transition, Weak}
use Rattle.std.specs.Prelude as Rust
use Rattle.std.specs.Prelude.{Some, None, Result, Ok, Err}
use Rattle.lines.specs.declared.verb.Verb.TheVariants as Verbs
use Rattle.lines.specs.declared.command.Command.TheVariants as Commands
use Rattle.lines.specs.declared.response.ResponseError.TheVariants as Responses
use Rattle.lines.specs.Command.{limit, understood, command}
use Rattle.lines.specs.Response.{response}
use Rattle.lines.specs.Verb.{verb, verb_of}
use Rattle.lines.specs.declared.verb.Verb.{Verb}
use Rattle.session.specs.Verdict as Verdicts
use Rattle.session.specs.declared.view.View.TheVariants as Views
use Rattle.session.specs.Change.{refuses, stepped}
use Rattle.session.specs.Line.{after_line}
use Rattle.session.specs.Limits.{longest_name}
use Rattle.session.specs.Octets.{mechanism_text, query_octets, relay_octets}
use Rattle.session.specs.Response.{on_response}
use Rattle.session.specs.Verdict.{given, graphic, on_ticket, after_verdict}
use Rattle.session.specs.View.{view_in}
use Rattle.session.specs.declared.Phase.{Phase}
use Rattle.session.specs.declared.Phase.TheVariants.{Idle, SignedIn, Awaiting, Waiting}
use Rattle.session.specs.declared.Session.{Session}
use Rattle.session.specs.declared.view.View.{View}
use Rattle.server.specs.Outcome as Outcomes
use Rattle.server.specs.Requests as Requests
use Rattle.server.specs.Line.{line_found, on_line, response_found, response_on}
use Rattle.server.specs.Requests.{on}
use Rattle.server.specs.Server.{Server}
use Rattle.server.specs.Slots.{is_numbered, is_waiting, found}
use Rattle.server.specs.Verdict.{verdict_listed, verdict_found, on_verdict}
use Rattle.server.specs.declared.Connection.{Connection}
use Rattle.image.specs.Image.{Image, taken}
use Rattle.calls.specs.Call.{line, verdict, is_short}
use Rattle.calls.specs.Step.{on_lent, outcome, result_in, is_queried, relayed_in, response_lent, step}

-- no command is as long as a response may be
command-most : (p : Profile) → command_limit p ≤ 12286
command-most Smtp = omega arith
command-most Pop3 = omega arith

mail-most : (p : Profile) → mail_limit p ≤ 12286
mail-most Smtp = omega arith
mail-most Pop3 = omega arith

limit-most : (p : Profile) (v : Verb) → limit p v ≤ 12286
limit-most p Verbs.Ehlo = command-most p
limit-most p Verbs.Helo = command-most p
limit-most p Verbs.Rset = command-most p
limit-most p Verbs.Quit = command-most p
limit-most p Verbs.Mail = mail-most p
limit-most p Verbs.Auth = command-most p
limit-most p Verbs.User = command-most p
limit-most p Verbs.Pass = command-most p
limit-most p Verbs.Apop = command-most p
limit-most p Verbs.Other = command-most p

by-phase : {X : Type 0} (f : Phase) → (f ≡ Idle → X) → (f ≡ SignedIn → X) → ((k : ℕ) → f ≡ Awaiting k → X) → ((t k : ℕ) → f ≡ Waiting t k → X) → X
by-phase Idle a b c d = a refl
by-phase SignedIn a b c d = b refl
by-phase (Awaiting k) a b c d = c k refl
by-phase (Waiting t k) a b c d = d t k refl

-- what a session sees of a line that is too long, which points to nothing
abbrev long_view : Phase → View
long_view Idle = Views.Command Commands.NotUnderstood
long_view SignedIn = Views.Command Commands.NotUnderstood
long_view (Awaiting k) = Views.Response (Err Responses.TooLong)
long_view (Waiting t k) = Views.Unread

not-understood : (p : Profile) (l : List ℕ) → 12286 < length l → command p l ≡ Commands.NotUnderstood
unfolding command understood
not-understood p l h =
    let k : limit p (verb_of (verb l)) < length l = omega (arith, limit-most p (verb_of (verb l))) in
    rw (lt-leb _ _ k)

view-long : (p : Profile) (f : Phase) (l : List ℕ) → 12286 < length l → view_in p f l ≡ long_view f
unfolding view_in response
view-long p Idle l h = ap Views.Command (not-understood p l h)
view-long p SignedIn l h = ap Views.Command (not-understood p l h)
view-long p (Awaiting k) l h = rw (lt-ltb _ _ h)
view-long p (Waiting t k) l h = refl

no-mechanism : (f : Phase) (l : List ℕ) → mechanism_text (long_view f) l ≡ []
no-mechanism Idle l = refl
no-mechanism SignedIn l = refl
no-mechanism (Awaiting k) l = refl
no-mechanism (Waiting t k) l = refl

no_address : (f : Phase) (l : List ℕ) → relay_octets (long_view f) l ≡ relay_octets (long_view f) []
unfolding relay_octets
no_address Idle l = refl
no_address SignedIn l = refl
no_address (Awaiting k) l = refl
no_address (Waiting t k) l = refl

-- two such lines
module _ (l m : List ℕ) (h : 12286 < length l) (k : 12286 < length m) where
  found-long : (s : Server) (c : Option Connection) → line_found s l c ≡ line_found s m c
  found-long s none = refl
  found-long s (some c) =
      let f = c.session.phase in
      let p = c.session.profile in
      rw (view-long p f l h, view-long p f m k, no-mechanism f l, no-mechanism f m, no_address f l, no_address f m)

  line-long : (s : Server) (n : ℕ) → on_line s n l ≡ on_line s n m
  unfolding on_line
  line-long s n = found-long s (found (is_numbered n) s.slots)

  -- no octets of either are handed on
  queried_long : (s : Server) (c : Option Connection) (x : List ℕ)
      → cond (is_queried (result_in (line_found s l c))) (response_found l c) x ≡ cond (is_queried (result_in (line_found s l c))) (response_found m c) x
  unfolding query_octets after_line on_response
  queried_long s none x = refl
  queried_long s (some c) x = rw (view-long c.session.profile c.session.phase l h, view-long c.session.profile c.session.phase m k)
      (by-phase c.session.phase (λ e. rw e) (λ e. rw e) (λ j e. rw e) (λ t j e. rw e))

  outcome-long : (i : Image) (n : ℕ) (r a : List ℕ) → outcome i (line n l r a) ≡ outcome i (line n m r a)
  unfolding outcome on
  outcome-long i n r a = go (taken i)
    where
      go : (s : Option Server) → cond (is_short (line n l r a)) (Outcomes.refuses ShortBuffer) (on_lent s (Requests.line n l)) ≡ cond (is_short (line n m r a)) (Outcomes.refuses ShortBuffer) (on_lent s (Requests.line n m))
      go none = refl
      go (some s) = rw (line-long s n)

  handed-long : (i : Image) (n : ℕ) (r a x : List ℕ)
      → cond (is_queried (result_in (outcome i (line n l r a)))) (response_lent (taken i) (Requests.line n l)) x
      ≡ cond (is_queried (result_in (outcome i (line n l r a)))) (response_lent (taken i) (Requests.line n m)) x
  unfolding outcome on on_line response_on
  handed-long i n r a x = go (is_short (line n l r a)) (taken i)
    where
      given_by : Bool → Option Server → Bool
      given_by b s = is_queried (result_in (cond b (Outcomes.refuses ShortBuffer) (on_lent s (Requests.line n l))))

      go : (b : Bool) (s : Option Server) → cond (given_by b s) (response_lent s (Requests.line n l)) x ≡ cond (given_by b s) (response_lent s (Requests.line n m)) x
      go true s = refl
      go false none = refl
      go false (some s) = queried_long s (found (is_numbered n) s.slots) x

  pub step-long : (i : Image) (n : ℕ) (r a : List ℕ) → step i (line n l r a) ≡ step i (line n m r a)
  unfolding step
  step-long i n r a = rw (← (outcome-long i n r a), handed-long i n r a (relayed_in (result_in (outcome i (line n l r a)))))

-- data that no verdict may have
not-given : (v : Verdict) (d : List ℕ) → 9210 < length d → given v d ≡ false
not-given Challenge d h = lt-leb _ _ h
not-given Success d h = sym (too_long longest_name graphic d (omega arith))
not-given Rejected (x ∷ d) h = refl
not-given Rejected [] h = absurd (omega arith)
not-given Temporary (x ∷ d) h = refl
not-given Temporary [] h = absurd (omega arith)
not-given Transition (x ∷ d) h = refl
not-given Transition [] h = absurd (omega arith)
not-given Weak (x ∷ d) h = refl
not-given Weak [] h = absurd (omega arith)

-- are refused, with 5 where the session waits on the ticket
abbrev why : Phase → ℕ → Refusal
why Idle t = NoTicket
why SignedIn t = NoTicket
why (Awaiting k) t = NoTicket
why (Waiting u k) t = cond (eqb u t) NotListed NoTicket

refused-long : (f : Phase) (s : Session) (t : ℕ) (v : Verdict) (d : List ℕ) → 9210 < length d → on_ticket f s t v d ≡ stepped s (refuses s (why f t))
unfolding Verdicts.on_verdict
refused-long Idle s t v d h = refl
refused-long SignedIn s t v d h = refl
refused-long (Awaiting k) s t v d h = refl
refused-long (Waiting u k) s t v d h = rw (not-given v d h) (go (eqb u t))
  where
    go : (b : Bool) → cond b (stepped s (refuses s NotListed)) (stepped s (refuses s NoTicket)) ≡ stepped s (refuses s (cond b NotListed NoTicket))
    go true = refl
    go false = refl

module _ (d e : List ℕ) (h : 9210 < length d) (k : 9210 < length e) where
  listed-long : (s : Server) (c : Connection) (t : ℕ) (v : Result Verdict Refusal) → verdict_listed s c t d v ≡ verdict_listed s c t e v
  unfolding after_verdict
  listed-long s c t (Err r) = refl
  listed-long s c t (Ok v) =
      rw (refused-long c.session.phase c.session t v d h, refused-long c.session.phase c.session t v e k)

  verdict-long : (s : Server) (t v : ℕ) → on_verdict s t v d ≡ on_verdict s t v e
  unfolding on_verdict
  verdict-long s t v = go (found (is_waiting t) s.slots)
    where
      go : (c : Option Connection) → verdict_found s t (verdict_of v) d c ≡ verdict_found s t (verdict_of v) e c
      go none = refl
      go (some c) = listed-long s c t (verdict_of v)

  outcome-data-long : (i : Image) (t v : ℕ) (r a : List ℕ) → outcome i (verdict t v d r a) ≡ outcome i (verdict t v e r a)
  unfolding outcome on
  outcome-data-long i t v r a = go (taken i)
    where
      go : (s : Option Server) → cond (is_short (verdict t v d r a)) (Outcomes.refuses ShortBuffer) (on_lent s (Requests.verdict t v d)) ≡ cond (is_short (verdict t v e r a)) (Outcomes.refuses ShortBuffer) (on_lent s (Requests.verdict t v e))
      go none = refl
      go (some s) = rw (verdict-long s t v)

  pub step-data-long : (i : Image) (t v : ℕ) (r a : List ℕ) → step i (verdict t v d r a) ≡ step i (verdict t v e r a)
  unfolding step
  step-data-long i t v r a = rw (outcome-data-long i t v r a, no-response (taken i) d, no-response (taken i) e)
    where
      no-response : (s : Option Server) (x : List ℕ) → response_lent s (Requests.verdict t v x) ≡ []
      no-response none x = refl
      no-response (some s) x = refl

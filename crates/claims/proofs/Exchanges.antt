-- The calls of an exchange leave a connection's session as an exchange of that session does. Assumes nothing.
use Rattle.std.specs.Prelude as Rust
use Rattle.std.specs.Prelude.{Ok, Err}
use mathlib.Core.Path.{◌≡◌, refl, sym, ap, ◌∙◌}
use mathlib.Core.Bool.{Bool, true, false, cond, true≢false}
use mathlib.Core.List.{List, [], ◌∷◌}
use mathlib.Core.Option.{Option, none, some, none-ne-some}
use Prim.Native.Nat.{ℕ}
use native.Mathlib.Omega.{arith}
use Rattle.octets.specs.Ascii.{ascii}
use Rattle.lines.specs.Mechanism.{padded}
use Rattle.lines.specs.Verb.{verb}
use Rattle.profile.specs.Numbers.{verdict_of}
use Rattle.profile.specs.declared.numbers.Verdict.{Verdict}
use Rattle.profile.specs.declared.numbers.Refusal.{Refusal}
use Rattle.profile.specs.declared.numbers.Refusal.TheVariants as Refusals
use Rattle.session.specs.Exchange as Exchanges
use Rattle.session.specs.Exchange.{may_begin, Exchange}
use Rattle.session.specs.Octets.{mechanism_text}
use Rattle.session.specs.Standing.{Standing, quiet, standing, is_refused}
use Rattle.session.specs.Verdict.{after_verdict}
use Rattle.session.specs.View.{view}
use Rattle.session.specs.declared.Session.{Session}
use Rattle.session.specs.declared.Stepped.{Stepped}
use Rattle.session.specs.declared.answer.Answer.{Answer}
use Rattle.session.specs.declared.answer.Answer.TheVariants as Answers
use Rattle.session.proofs.Laws as Laws
use Rattle.server.specs.Line.{line_step, line_gives}
use Rattle.server.specs.Mechanisms.{offered}
use Rattle.server.specs.Outcome.{Result, refused, Outcome, refuses}
use Rattle.server.specs.Requests as Requests
use Rattle.server.specs.Requests.{Sized}
use Rattle.server.specs.Server.{Server}
use Rattle.server.specs.Slots.{is_waiting}
use Rattle.server.specs.Verdict.{verdict_gives}
use Rattle.server.specs.declared.Connection.{Connection}
use Rattle.server.proofs.Moves.{Moves}
use Rattle.image.specs.Image.{Image, taken}
use Rattle.calls.specs.Call as Calls
use Rattle.calls.specs.Call.{Call, request, is_short}
use Rattle.calls.specs.Step.{lent, on_lent, outcome, result_in, image_in, step, left}
use Rattle.claims.specs.Exchanges.{InExchange, line, verdict, other, AllInExchange, ExchangeKeeps}
use Rattle.claims.specs.Others.{is_for}
use Rattle.claims.specs.Sessions.{numbered, Steps}
use Rattle.claims.specs.Told.{is_waiting_on, server_has, connection_at, found_stands, seen}
use Rattle.claims.proofs.Follows.{waits-standing}
use Rattle.claims.proofs.Others.{others-stay}
use Rattle.claims.proofs.Refusals.{refused_unaltered}
use Rattle.claims.proofs.Sessions.{sessions_stepped}
use Rattle.claims.proofs.Steps.{Comes, refusal, move, comes}

-- ---- an image with an open connection

module _ (i : Image) (n : ℕ) (c : Connection) (e : connection_at i n ≡ some c) where
  is-taken : (s : Server) × (taken i ≡ some s)
  unfolding connection_at
  is-taken = go (taken i) refl
    where
      go : (o : Option Server) → taken i ≡ o → (s : Server) × (taken i ≡ some s)
      go none f = absurd (none-ne-some c (sym (ap (λ (o : Option Server). server_has o n) f) ∙ e))
      go (some s) f = (s, f)

  stands : seen i n ≡ standing c.session.phase
  unfolding seen connection_at
  stands = ap found_stands e

  waits : (t : ℕ) → is_waiting_on t (seen i n) ≡ is_waiting t c
  waits t = ap (is_waiting_on t) stands ∙ sym (waits-standing t (some c))

-- ---- calls that leave it as it was

short-refused : (i : Image) (c : Call) → is_short c ≡ true → (step i c).result ≡ refused Refusals.ShortBuffer
unfolding step outcome
short-refused i c e = ap (λ (b : Bool). result_in (cond b (refuses Refusals.ShortBuffer) (on_lent (lent i (request c)) (request c)))) e

-- 5: a number that is no verdict's
unlisted-stays : (i : Image) (t v : ℕ) (d r a : List ℕ) {j : Refusal} → verdict_of v ≡ Err j → (step i (Calls.verdict t v d r a)).image ≡ i
unfolding step
unlisted-stays i t v d r a {j} e = go (comes i (Calls.verdict t v d r a) tt)
  where
    unmoved : {s z : Server} {x : Result} → Moves s (Requests.verdict t v d) x z → ⊥
    unmoved (Moves.judges u j b c w g f y) = let z : ◌≡◌ {A = ℕ} 0 1 = cc in omega arith

    go : {o : Outcome} → Comes i (Requests.verdict t v d) o → image_in i o ≡ i
    go (refusal k) = refl
    go (move s z x l f m) = absurd (unmoved m)

-- a make is for every connection
sized : (c : Call) (r : Result) (n : ℕ) (w : Standing) → is_for (request c) r n w ≡ false → Sized (request c)
sized (Calls.make c t) r n w e = absurd (true≢false e)
sized (Calls.add m f p) r n w e = tt
sized (Calls.opens p b) r n w e = tt
sized (Calls.line m l x y) r n w e = tt
sized (Calls.verdict t v d x y) r n w e = tt
sized (Calls.mail_ended m) r n w e = tt
sized (Calls.who m b) r n w e = tt
sized (Calls.close m) r n w e = tt

-- ---- one call of an exchange

-- how far an exchange that began with session s has come for connection n
abbrev Reached : ℕ → Session → Image → Type 0
Reached n s i = (c : Connection) × (connection_at i n ≡ some c) × Exchange s c.session

module _ (n : ℕ) (s : Session) (i : Image) (h : Reached n s i) where
  stays : (j : Image) → connection_at j n ≡ connection_at i n → Reached n s j
  stays j e = (h.0, e ∙ h.1, h.2)

  image-stays : (j : Image) → j ≡ i → Reached n s j
  image-stays j e = stays j (ap (λ (k : Image). connection_at k n) e)

  -- after a call
  abbrev After : Call → Type 0
  After c = Reached n s (step i c).image

  refused-stays : (c : Call) (k : Refusal) → (step i c).result ≡ refused k → After c
  refused-stays c k e = image-stays (step i c).image (refused_unaltered i c k e).image

  by-other : (c : Call) → is_for (request c) (step i c).result n (seen i n) ≡ false → After c
  by-other c e = stays (step i c).image (others-stay i c (sized c (step i c).result n (seen i n) e) n e)

  -- a call that steps the session, or is refused
  by-step : (c : Call) (t : Stepped) (r : Result) → Steps n t r (step i c) → Exchange s t.session → After c
  by-step c t r p x = go t.answer refl
    where
      given : is_refused t.answer ≡ false → After c
      given e = (numbered n t.session, p.session e, x)

      go : (a : Answer) → t.answer ≡ a → After c
      go (Answers.Refused k) e = refused-stays c k (p.refuses k e)
      go (Answers.Forward j m) e = given (ap is_refused e)
      go (Answers.Query u b m) e = given (ap is_refused e)
      go (Answers.Reply y) e = given (ap is_refused e)
      go Answers.EmptyChallenge e = given (ap is_refused e)
      go Answers.Challenge e = given (ap is_refused e)

  -- a buffer that is too short is refused first
  unless-short : (c : Call) → (is_short c ≡ false → After c) → After c
  unless-short c f = go (is_short c) refl
    where
      go : (b : Bool) → is_short c ≡ b → After c
      go true e = refused-stays c Refusals.ShortBuffer (short-refused i c e)
      go false e = f e

  by-line : (l r a : List ℕ) → (seen i n ≡ quiet → verb l ≡ ascii "AUTH") → After (Calls.line n l r a)
  by-line l r a p = unless-short (Calls.line n l r a) go
    where
      go : is_short (Calls.line n l r a) ≡ false → After (Calls.line n l r a)
      go e =
          let c = h.0 in
          let t = is-taken i n c h.1 in
          let v = view c.session l in
          let may : standing c.session.phase ≡ quiet → may_begin v ≡ true = λ q. Laws.auth-begins c.session l (p (stands i n c h.1 ∙ q)) q in
          by-step (Calls.line n l r a) (line_step t.0 c l) (line_gives c l (line_step t.0 c l)) ((sessions_stepped i t.0 t.1 n c h.1).line l r a e)
          (Exchanges.line h.2 v may (offered t.0.mechanisms (padded (mechanism_text v l))) t.0.header.ticket)

  by-verdict : (t k : ℕ) (d r a : List ℕ) → After (Calls.verdict t k d r a)
  by-verdict t k d r a = unless-short (Calls.verdict t k d r a) (λ e. waiting e (is_waiting t h.0) refl)
    where
      listed : is_short (Calls.verdict t k d r a) ≡ false → is_waiting t h.0 ≡ true → (v : Rust.Result Verdict Refusal) → verdict_of k ≡ v → After (Calls.verdict t k d r a)
      listed e w (Err j) g = image-stays (step i (Calls.verdict t k d r a)).image (unlisted-stays i t k d r a g)
      listed e w (Ok v) g =
          let c = h.0 in
          let y = is-taken i n c h.1 in
          let x = after_verdict c.session t v d in
          by-step (Calls.verdict t k d r a) x (verdict_gives c d x) ((sessions_stepped i y.0 y.1 n c h.1).verdict t k v d r a e g w)
          (Exchanges.verdict h.2 t v d)

      waiting : is_short (Calls.verdict t k d r a) ≡ false → (b : Bool) → is_waiting t h.0 ≡ b → After (Calls.verdict t k d r a)
      waiting e true w = listed e w (verdict_of k) refl
      waiting e false w = by-other (Calls.verdict t k d r a) (waits i n h.0 h.1 t ∙ w)

  by_call : {c : Call} → InExchange n i c → After c
  by_call (line {l = l} {r = r} {a = a} p) = by-line l r a p
  by_call (verdict {t = t} {v = k} {d = d} {r = r} {a = a}) = by-verdict t k d r a
  by_call (other {c = c} e) = by-other c e

-- ---- all of them

by-calls : (n : ℕ) (s : Session) (i : Image) → Reached n s i → (cs : List Call) → AllInExchange n i cs → Reached n s (left i cs)
unfolding left
by-calls n s i h [] p = h
by-calls n s i h (c ∷ cs) p = by-calls n s (step i c).image (by_call n s i h p.0) cs p.1

pub exchange-keeps : ExchangeKeeps
exchange-keeps i n c e cs p =
    let h = by-calls n c.session i (c, e, Exchanges.none) cs p in
    (h.0, h.1, Laws.exchange-keeps h.2)

-- What a call puts into a buffer is of the length stated. Assumes nothing.
use mathlib.Core.Path.{◌≡◌, refl, sym, ap, ◌∙◌}
use mathlib.Core.Bool.{Bool, true, false, cond, ◌||◌, or-true, false≢true}
use mathlib.Core.List.{List, [], ◌++◌}
use mathlib.Core.Option.{Option, none, some}
use Prim.Native.Nat.{ℕ, ◌+◌, ◌≤◌}
use native.Mathlib.Nat.{zero-add, add-zero}
use native.Mathlib.Omega.{arith}
use lib.ListN.{length, drop}
use Rattle.octets.specs.Answers.{written}
use Rattle.octets.specs.Lists.{is_empty}
use Rattle.octets.proofs.Answers.{written_is}
use Rattle.profile.specs.declared.Profile.{Profile}
use Rattle.profile.specs.declared.numbers.Identity.{Identity}
use Rattle.profile.specs.declared.numbers.Identity.TheVariants as Identities
use Rattle.session.specs.Answer.{heard, numbers}
use Rattle.session.specs.Limits.{reply_buffer, answer_buffer, longest_name}
use Rattle.session.specs.Measures.{Relays, Measures}
use Rattle.session.specs.Named.{bears}
use Rattle.session.specs.Octets.{mechanism_text, query_octets, relay_octets}
use Rattle.session.specs.Session.{signed_in, name_of}
use Rattle.session.specs.Standing.{is_heard}
use Rattle.session.specs.Verdict.{after_verdict}
use Rattle.session.specs.View.{view}
use Rattle.session.specs.WellFormed as Sessions
use Rattle.session.specs.declared.Session.{Session}
use Rattle.session.specs.declared.answer.Answer.{Answer}
use Rattle.session.specs.declared.answer.Answer.TheVariants as Answers
use Rattle.session.specs.declared.view.View.{View}
use Rattle.session.proofs.Laws.{line-measures, line-heard-fits, verdict-heard-fits, name-fits}
use Rattle.lines.specs.Mechanism.{padded}
use Rattle.server.specs.Line.{is_query, relays_address, line_step, response_found, response_on}
use Rattle.server.specs.Mechanisms.{offered}
use Rattle.server.specs.Outcome.{Outcome, gives, Result, answered}
use Rattle.server.specs.Requests as Requests
use Rattle.server.specs.Requests.{Request}
use Rattle.server.specs.Server.{Server}
use Rattle.server.specs.Slots.{is_numbered, found}
use Rattle.server.specs.WellFormed.{well_formed}
use Rattle.server.specs.declared.Connection.{Connection}
use Rattle.server.proofs.Issues.{verdict-heard-one}
use Rattle.server.proofs.Kept.{parts, found-open}
use Rattle.server.proofs.Moves.{Moves}
use Rattle.image.specs.Image.{Image}
use Rattle.calls.specs.Buffers.{heard_in, name_in, borne_in}
use Rattle.calls.specs.Call.{request}
use Rattle.calls.specs.Numbers.{answer_numbers}
use Rattle.calls.specs.Step.{Out, lent, outcome, response_lent, out_of, step}
use Rattle.claims.specs.Lengths.{Starts, Lengths, LengthsStated}
use Rattle.claims.proofs.Steps.{Comes, refusal, move, comes}

-- what a call gives and hands over, by its lengths
record Measured (o : Out) : Type 0 where
  alone : (is_empty (heard_in o.result) || is_empty o.handed) ≡ true
  stated : (answer_numbers o.result).length ≡ length (heard_in o.result) + length o.handed
  reply : length (heard_in o.result) ≤ reply_buffer
  answer : length o.handed ≤ answer_buffer
  name : length (borne_in o.result) ≤ longest_name

starts : (w b : List ℕ) (n : ℕ) → length w ≤ n → n ≤ length b → Starts w b (written b 0 w)
starts w b n f g = written_is b 0 w (omega arith) ∙ ap (λ (k : ℕ). w ++ drop k b) (zero-add (length w))

lengths-of : (o : Out) → Measured o → Lengths o
lengths-of o m =
    record {
      alone = m.alone;
      stated = m.stated;
      reply = λ b g. starts (heard_in o.result) b reply_buffer m.reply g;
      answer = λ b g. starts o.handed b answer_buffer m.answer g;
      name = λ b g. starts (borne_in o.result) b longest_name m.name g;
    }

-- an answer, with what is put into the answer buffer where it is a query (q) and where it is passed on (x)
pub record Stated (a : Answer) (h q x : List ℕ) : Type 0 where
  pub only : (is_empty h || is_empty (cond (is_query a) q (cond (relays_address a) x []))) ≡ true
  pub fits : length (cond (is_query a) q (cond (relays_address a) x [])) ≤ answer_buffer
  pub states : (numbers a (length h)).length ≡ length h + length (cond (is_query a) q (cond (relays_address a) x []))

forwarded : (v : View) (l : List ℕ) (j : Identity) (n : ℕ) (q : List ℕ) → Relays v l j n → Stated (Answers.Forward j n) [] q (relay_octets v l)
forwarded v l Identities.NoMail n q m = record { only = refl; fits = omega arith; states = m }
forwarded v l Identities.Null n q m = record { only = refl; fits = omega arith; states = m }
forwarded v l Identities.Absent n q m = record { only = refl; fits = omega arith; states = m }
forwarded v l Identities.Address n q m =
    let e = m.1 in
    let f = m.2 in
    record { only = refl; fits = rw (← e) f; states = e ∙ sym (zero-add (length (relay_octets v l))) }

line-stated : (p : Profile) (v : View) (l : List ℕ) (t : ℕ) (a : Answer) → Measures v l t a → Stated a (heard p [] a) (query_octets v l) (relay_octets v l)
unfolding heard
line-stated p v l t (Answers.Refused r) m = record { only = refl; fits = omega arith; states = refl }
line-stated p v l t (Answers.Forward j n) m = forwarded v l j n (query_octets v l) m
line-stated p v l t (Answers.Query u b n) m =
    let e = m.measured in
    let f = m.fits in
    record { only = refl; fits = rw (← e) f; states = e ∙ sym (zero-add (length (query_octets v l))) }
line-stated p v l t (Answers.Reply e) m = record { only = or-true (is_empty (heard p [] (Answers.Reply e))); fits = omega arith; states = sym (add-zero _) }
line-stated p v l t Answers.EmptyChallenge m = record { only = or-true (is_empty (heard p [] Answers.EmptyChallenge)); fits = omega arith; states = sym (add-zero _) }
line-stated p v l t Answers.Challenge m = record { only = or-true (is_empty (heard p [] Answers.Challenge)); fits = omega arith; states = sym (add-zero _) }

-- a name has at most 64 octets
borne-fits : (s : Session) → Sessions.well_formed s ≡ true → length (name_in (bears s)) ≤ longest_name
borne-fits s w = go (signed_in s.phase) refl
  where
    go : (b : Bool) → signed_in s.phase ≡ b → length (name_in (cond b (some (name_of s)) none)) ≤ longest_name
    go true e = name-fits s w e
    go false e = omega arith

-- the octets that a line has for the service
response : (s : Server) (n : ℕ) (l : List ℕ) (c : Connection) → found (is_numbered n) s.slots ≡ some c
    → response_lent (some s) (Requests.line n l) ≡ query_octets (view c.session l) l
unfolding response_on
response s n l c f = ap (response_found l) f

-- an answer with its octets
module _ (a : Answer) (h q x : List ℕ) (f : length h ≤ reply_buffer) (t : Stated a h q x) (i : Image) (r : Request) (z : Server)
    (e : cond (is_query a) (response_lent (lent i r) r) (cond (relays_address a) x []) ≡ cond (is_query a) q (cond (relays_address a) x [])) where
  answer-lengths : Measured (out_of i r (gives (answered a h (cond (relays_address a) x [])) z))
  answer-lengths =
      record {
        alone = ap (λ (w : List ℕ). is_empty h || is_empty w) e ∙ t.only;
        reply = f;
        answer = rw e t.fits;
        name = omega arith;
        stated = t.states ∙ ap (λ (w : List ℕ). length h + length w) (sym e);
      }

-- a verdict that is not refused is a reply
module _ (i : Image) (r : Request) (z : Server) (h : List ℕ) (f : length h ≤ reply_buffer) where
  verdict-lengths : (a : Answer) → is_heard a ≡ true → Measured (out_of i r (gives (answered a h []) z))
  verdict-lengths (Answers.Refused k) e = absurd (false≢true e)
  verdict-lengths (Answers.Forward j n) e = absurd (false≢true e)
  verdict-lengths (Answers.Query u b n) e = absurd (false≢true e)
  verdict-lengths (Answers.Reply k) e = record { alone = or-true (is_empty h); reply = f; answer = omega arith; name = omega arith; stated = sym (add-zero (length h)) }
  verdict-lengths Answers.EmptyChallenge e = record { alone = or-true (is_empty h); reply = f; answer = omega arith; name = omega arith; stated = sym (add-zero (length h)) }
  verdict-lengths Answers.Challenge e = record { alone = or-true (is_empty h); reply = f; answer = omega arith; name = omega arith; stated = sym (add-zero (length h)) }

lengths : (i : Image) {r : Request} {s z : Server} {a : Result} → well_formed s ≡ true → lent i r ≡ some s → Moves s r a z → Measured (out_of i r (gives a z))
lengths i w e (Moves.makes c t) = record { alone = refl; reply = omega arith; answer = omega arith; name = omega arith; stated = refl }
lengths i w e (Moves.adds n f p x y l) = record { alone = refl; reply = omega arith; answer = omega arith; name = omega arith; stated = refl }
lengths i w e (Moves.opens k b p f x) = record { alone = refl; reply = omega arith; answer = omega arith; name = omega arith; stated = refl }
lengths i {s = s} {z = z} w e (Moves.steps n l c f x) =
    let t = line_step s c l in
    let o = offered s.mechanisms (padded (mechanism_text (view c.session l) l)) in
    let q = query_octets (view c.session l) l in
    let y = relay_octets (view c.session l) l in
    answer-lengths t.answer (heard c.session.profile [] t.answer) q y (line-heard-fits c.session.profile t.answer)
    (line-stated c.session.profile (view c.session l) l s.header.ticket t.answer (line-measures l c.session o s.header.ticket))
    i (Requests.line n l) z
    (ap (λ (k : List ℕ). cond (is_query t.answer) k (cond (relays_address t.answer) y [])) (ap (λ (k : Option Server). response_lent k (Requests.line n l)) e ∙ response s n l c f))
lengths i {s = s} {z = z} w e (Moves.judges t k d c v g f x) =
    let u = after_verdict c.session t v d in
    verdict-lengths i (Requests.verdict t k d) z (heard c.session.profile d u.answer) (verdict-heard-fits c.session.profile c.session t v d) u.answer
    (verdict-heard-one c.session t v d x)
lengths i w e (Moves.ends n c f) = record { alone = refl; reply = omega arith; answer = omega arith; name = omega arith; stated = refl }
lengths i {s = s} w e (Moves.tells n c f) =
    record { alone = refl; reply = omega arith; answer = omega arith; name = borne-fits c.session (found-open s (parts s w) (is_numbered n) c f).session; stated = refl }
lengths i w e (Moves.closes n c f) = record { alone = refl; reply = omega arith; answer = omega arith; name = omega arith; stated = refl }

pub lengths-stated : LengthsStated
unfolding step
lengths-stated i c k = lengths-of (out_of i (request c) (outcome i c)) (go (comes i c k))
  where
    go : {o : Outcome} → Comes i (request c) o → Measured (out_of i (request c) o)
    go (refusal j) = record { alone = refl; reply = omega arith; answer = omega arith; name = omega arith; stated = refl }
    go (move s z a l e m) = lengths i l.within e m

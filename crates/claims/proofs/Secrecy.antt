-- The third demand holds: two lists of calls that are alike come to the same. Assumes nothing.
use mathlib.Core.Path.{◌≡◌, refl, sym, ap, ap₂, ◌∙◌}
use mathlib.Core.Bool.{Bool, true, false, cond, not, ◌&&◌, false≢true}
use mathlib.Core.List.{List}
use mathlib.Core.Option.{Option, none, some}
use Prim.Native.Nat.{ℕ}
use lib.Dec.{leb}
use lib.ListN.{length}
use Rattle.base64text.specs.Base64 as Base64
use Rattle.lines.specs.Mechanism.{padded}
use Rattle.profile.specs.declared.numbers.Refusal.TheVariants as Refusals
use Rattle.session.specs.Alike.{LinesAlike}
use Rattle.session.specs.Limits.{reply_buffer, answer_buffer, longest_name}
use Rattle.session.specs.Measures.{Measures}
use Rattle.session.specs.Octets.{mechanism_text, response_text}
use Rattle.session.specs.Standing.{Standing}
use Rattle.session.specs.View.{view}
use Rattle.session.specs.declared.answer.Answer.{Answer}
use Rattle.session.specs.declared.answer.Answer.TheVariants as Answers
use Rattle.session.specs.declared.view.View.{View}
use Rattle.session.proofs.Laws.{same_view, line-measures}
use Rattle.server.specs.Line.{is_query, line_step, line_found, on_line, response_found, response_on}
use Rattle.server.specs.Mechanisms.{offered}
use Rattle.server.specs.Outcome.{answered, Outcome, refuses, settled}
use Rattle.server.specs.Requests as Requests
use Rattle.server.specs.Requests.{Request, Sized, on}
use Rattle.server.specs.Server.{Server}
use Rattle.server.specs.Slots.{is_numbered, found}
use Rattle.server.specs.declared.Connection.{Connection}
use Rattle.server.proofs.Alike.{same_line}
use Rattle.image.specs.Image.{Image, taken}
use Rattle.calls.specs.Call as Calls
use Rattle.calls.specs.Call.{Call, request, is_short}
use Rattle.calls.specs.Step.{lent, on_lent, outcome, result_in, image_in, response_lent, is_queried, relayed_in, out_of, step, run}
use Rattle.claims.specs.Secrecy as Secrecy
use Rattle.claims.specs.Secrecy.{CallsAlike, ListsAlike, line_in, response_in, letters_of, octet_at, Agree, AgreeAll}
use Rattle.claims.specs.Told.{Made, found_stands, server_stands, seen, told}
use Rattle.claims.proofs.Responses.{query-octet}
use Rattle.claims.proofs.Tells.{told-on}

-- ---- a line

line-found : (s : Server) {l k : List ℕ} (x : Option Connection) → LinesAlike (found_stands x) l k → line_found s l x ≡ line_found s k x
line-found s none h = refl
line-found s (some c) h = same_line s c (same_view c.session h)

line-lent : (o : Option Server) (n : ℕ) (l k : List ℕ) → LinesAlike (server_stands o n) l k → on_lent o (Requests.line n l) ≡ on_lent o (Requests.line n k)
unfolding on on_line
line-lent none n l k h = refl
line-lent (some s) n l k h = line-found s (found (is_numbered n) s.slots) h

-- refusal 1, by the lengths of a reply and an answer buffer, and of a name buffer
abbrev two_short : ℕ → ℕ → Outcome → Outcome
two_short r a o = cond (not (leb reply_buffer r && leb answer_buffer a)) (refuses Refusals.ShortBuffer) o

abbrev name_short : ℕ → Outcome → Outcome
name_short b o = cond (not (leb longest_name b)) (refuses Refusals.ShortBuffer) o

module _ (i : Image) where
  outcomes : {c d : Call} → CallsAlike (seen i) c d → outcome i c ≡ outcome i d
  unfolding outcome seen
  outcomes (Secrecy.make a) = refl
  outcomes Secrecy.add = refl
  outcomes Secrecy.opens = refl
  outcomes (Secrecy.line {n} {l} {k} {r} {q} {a} {b} h e f) =
      ap (two_short (length r) (length a)) (line-lent (taken i) n l k h) ∙ ap₂ (λ x y. two_short x y (on_lent (taken i) (Requests.line n k))) e f
  outcomes (Secrecy.verdict {t} {v} {d} {r} {q} {a} {b} e f) = ap₂ (λ x y. two_short x y (on_lent (taken i) (Requests.verdict t v d))) e f
  outcomes Secrecy.mail_ended = refl
  outcomes (Secrecy.who {n} {b} {a} e) = ap (λ x. name_short x (on_lent (taken i) (Requests.who n))) e
  outcomes Secrecy.close = refl

-- ---- a query's octets

pub queried_settled : (a : Answer) (h x : List ℕ) (z : Server) → is_queried (result_in (settled a (answered a h x) z)) ≡ is_query a
queried_settled (Answers.Refused r) h x z = refl
queried_settled (Answers.Forward j n) h x z = refl
queried_settled (Answers.Query t b n) h x z = refl
queried_settled (Answers.Reply e) h x z = refl
queried_settled Answers.EmptyChallenge h x z = refl
queried_settled Answers.Challenge h x z = refl

pub query-valid : (v : View) (l : List ℕ) (t : ℕ) (a : Answer) → Measures v l t a → is_query a ≡ true → Base64.valid (response_text v l) ≡ true
query-valid v l t (Answers.Refused r) m e = absurd (false≢true e)
query-valid v l t (Answers.Forward j n) m e = absurd (false≢true e)
query-valid v l t (Answers.Query u b n) m e = m.valid
query-valid v l t (Answers.Reply r) m e = absurd (false≢true e)
query-valid v l t Answers.EmptyChallenge m e = absurd (false≢true e)
query-valid v l t Answers.Challenge m e = absurd (false≢true e)

module _ (n : ℕ) (l k : List ℕ) (j : ℕ) (g : letters_of j (response_in l) ≡ letters_of j (response_in k)) where
  octet-found : (s : Server) (x : Option Connection) → LinesAlike (found_stands x) l k → is_queried (result_in (line_found s l x)) ≡ true
      → octet_at j (response_found l x) ≡ octet_at j (response_found k x)
  octet-found s none h e = absurd (false≢true e)
  octet-found s (some c) h e =
      let o = offered s.mechanisms (padded (mechanism_text (view c.session l) l)) in
      let q = sym (queried_settled (line_step s c l).answer _ _ _) ∙ e in
      query-octet c.session h (query-valid (view c.session l) l s.header.ticket (line_step s c l).answer (line-measures l c.session o s.header.ticket) q) j g

  octet-lent : (o : Option Server) → LinesAlike (server_stands o n) l k → is_queried (result_in (on_lent o (Requests.line n l))) ≡ true
      → octet_at j (response_lent o (Requests.line n l)) ≡ octet_at j (response_lent o (Requests.line n k))
  unfolding on on_line response_on
  octet-lent none h e = absurd (false≢true e)
  octet-lent (some s) h e = octet-found s (found (is_numbered n) s.slots) h e

-- a call that was not refused for its buffers
pub queried_long : (b : Bool) (o : Outcome) → is_queried (result_in (cond b (refuses Refusals.ShortBuffer) o)) ≡ true → is_queried (result_in o) ≡ true
queried_long true o e = absurd (false≢true e)
queried_long false o e = e

-- ---- one call

module _ (i : Image) where
  abbrev handed_by : Call → Outcome → List ℕ
  handed_by c o = (out_of i (request c) o).handed

  relayed : (c d : Call) → outcome i c ≡ outcome i d → is_queried (result_in (outcome i c)) ≡ false → handed_by c (outcome i c) ≡ handed_by d (outcome i d)
  relayed c d e q =
      ap (λ (b : Bool). cond b (response_lent (lent i (request c)) (request c)) (relayed_in (result_in (outcome i c)))) q
      ∙ ap (λ (o : Outcome). relayed_in (result_in o)) e
      ∙ sym (ap (λ (b : Bool). cond b (response_lent (lent i (request d)) (request d)) (relayed_in (result_in (outcome i d)))) (ap (λ (o : Outcome). is_queried (result_in o)) (sym e) ∙ q))

  same-request : (c d : Call) → outcome i c ≡ outcome i d → request c ≡ request d → handed_by c (outcome i c) ≡ handed_by d (outcome i d)
  same-request c d e r = ap₂ (λ (q : Request) (o : Outcome). (out_of i q o).handed) r e

  -- where the lines are equal too, the requests are
  requests : {c d : Call} → CallsAlike (seen i) c d → line_in c ≡ line_in d → request c ≡ request d
  requests (Secrecy.make a) e = refl
  requests Secrecy.add e = refl
  requests Secrecy.opens e = refl
  requests (Secrecy.line {n} h x y) e = ap (Requests.line n) e
  requests (Secrecy.verdict x y) e = refl
  requests Secrecy.mail_ended e = refl
  requests (Secrecy.who x) e = refl
  requests Secrecy.close e = refl

  octet-line : (n : ℕ) (l k r q a b : List ℕ) → LinesAlike (seen i n) l k → outcome i (Calls.line n l r a) ≡ outcome i (Calls.line n k q b)
      → (j : ℕ) → letters_of j (response_in l) ≡ letters_of j (response_in k)
      → (t : Bool) → is_queried (result_in (outcome i (Calls.line n l r a))) ≡ t
      → octet_at j (handed_by (Calls.line n l r a) (outcome i (Calls.line n l r a))) ≡ octet_at j (handed_by (Calls.line n k q b) (outcome i (Calls.line n k q b)))
  unfolding outcome seen
  octet-line n l k r q a b h e j g false w = ap (octet_at j) (relayed (Calls.line n l r a) (Calls.line n k q b) e w)
  octet-line n l k r q a b h e j g true w =
      let u = ap (λ (o : Outcome). is_queried (result_in o)) (sym e) ∙ w in
      ap (λ (t : Bool). octet_at j (cond t (response_lent (taken i) (Requests.line n l)) (relayed_in (result_in (outcome i (Calls.line n l r a)))))) w
      ∙ octet-lent n l k j g (taken i) h (queried_long (is_short (Calls.line n l r a)) (on_lent (taken i) (Requests.line n l)) w)
      ∙ sym (ap (λ (t : Bool). octet_at j (cond t (response_lent (taken i) (Requests.line n k)) (relayed_in (result_in (outcome i (Calls.line n k q b)))))) u)

  octet : {c d : Call} → CallsAlike (seen i) c d → (j : ℕ) → letters_of j (response_in (line_in c)) ≡ letters_of j (response_in (line_in d))
      → octet_at j (handed_by c (outcome i c)) ≡ octet_at j (handed_by d (outcome i d))
  octet (Secrecy.make a) j g = refl
  octet Secrecy.add j g = refl
  octet Secrecy.opens j g = refl
  octet (Secrecy.line {n} {l} {k} {r} {q} {a} {b} h x y) j g =
      octet-line n l k r q a b h (outcomes i (Secrecy.line h x y)) j g (is_queried (result_in (outcome i (Calls.line n l r a)))) refl
  octet (Secrecy.verdict {t} {v} {d} {r} {q} {a} {b} x y) j g =
      ap (octet_at j) (same-request (Calls.verdict t v d r a) (Calls.verdict t v d q b) (outcomes i (Secrecy.verdict x y)) refl)
  octet Secrecy.mail_ended j g = refl
  octet (Secrecy.who {n} {b} {a} x) j g = ap (octet_at j) (same-request (Calls.who n b) (Calls.who n a) (outcomes i (Secrecy.who x)) refl)
  octet Secrecy.close j g = refl

  agrees : {c d : Call} → CallsAlike (seen i) c d → Agree c d (step i c) (step i d)
  unfolding step
  agrees {c} {d} h =
      let e = outcomes i h in
      record {
        result = ap result_in e;
        image = ap (image_in i) e;
        relayed = relayed c d e;
        query = λ l. same-request c d e (requests h l);
        octet = octet h;
      }

-- ---- two lists

sized : {w : ℕ → Standing} {c d : Call} → CallsAlike w c d → Sized (request c)
sized (Secrecy.make a) = a
sized Secrecy.add = tt
sized Secrecy.opens = tt
sized (Secrecy.line h x y) = tt
sized (Secrecy.verdict x y) = tt
sized Secrecy.mail_ended = tt
sized (Secrecy.who x) = tt
sized Secrecy.close = tt

lists : (f : Image) {h : List Made} {i : Image} {cs ds : List Call} → told f h ≡ seen i → ListsAlike f h i cs ds → AgreeAll cs ds (run i cs) (run i ds)
unfolding run
lists f e Secrecy.none = Secrecy.none
lists f {h} {i} e (Secrecy.more {c = c} {d = d} {cs = cs} {ds = ds} a w) =
    let g : Agree c d (step i c) (step i d) = agrees i (rw e at a) in
    let t = told-on f h i c (sized a) e in
    let r : AgreeAll cs ds (run (step i c).image cs) (run (step i d).image ds) = rw (← g.image) (lists f t w) in
    Secrecy.more g r

pub secrecy : Secrecy.Secrecy
unfolding told
secrecy i cs ds w = lists i refl w

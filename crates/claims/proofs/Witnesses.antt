-- The examples, by computation over servers: what a list of calls gives on an image is what it gives on the server that the image is taken for.
-- Assumes nothing.
use mathlib.Core.Path.{◌≡◌, refl, sym, ap, ap₂, ◌∙◌}
use mathlib.Core.Bool.{Bool, true, false, cond, not, ◌&&◌}
use mathlib.Core.List.{List, [], ◌∷◌, ◌++◌, map}
use mathlib.Core.Option.{Option, none, some}
use Prim.Native.Nat.{ℕ}
use Prim.Native.String.{String}
use native.Mathlib.Omega.{arith}
use lib.Dec.{leb}
use lib.ListN.{length, take, drop}
use borrow.Author.Tests.{eq-eqb, le-leb}
use Rattle.octets.specs.Ascii.{ascii, capital, capitals}
use Rattle.octets.specs.Lists.{every, one_to, same, before, after, padded_to}
use Rattle.base64text.specs.Base64 as Base64
use Rattle.xtext.specs.Xtext as Xtext
use Rattle.mail.specs.Mail as Mails
use Rattle.mail.specs.Parameter as Parameters
use Rattle.mail.specs.Address as Addresses
use Rattle.profile.specs.Texts.{words, reply}
use Rattle.lines.specs.Alike.{Alike, SpelledAlike, initial}
use Rattle.lines.specs.Auth as Auths
use Rattle.lines.specs.Command.{forbidden, understood, command}
use Rattle.lines.specs.Mechanism.{padded}
use Rattle.lines.specs.Response.{response}
use Rattle.lines.specs.Verb.{verb, verb_of}
use Rattle.session.specs.Alike as Lines
use Rattle.session.specs.Answer.{heard}
use Rattle.session.specs.Auth.{on_auth}
use Rattle.session.specs.Command.{on_command}
use Rattle.session.specs.Limits.{reply_buffer, answer_buffer, longest_name}
use Rattle.session.specs.Line.{after_line}
use Rattle.session.specs.Mail.{on_mail}
use Rattle.session.specs.Octets.{query_octets, relay_octets}
use Rattle.session.specs.Response.{on_response}
use Rattle.session.specs.Session.{name_of}
use Rattle.session.specs.Standing.{Standing, quiet, awaits}
use Rattle.session.specs.Verdict as Verdicts
use Rattle.session.specs.View.{view_in}
use Rattle.server.specs.Add.{on_add}
use Rattle.server.specs.Close.{on_close}
use Rattle.server.specs.Line.{on_line, response_on}
use Rattle.server.specs.Make.{fresh}
use Rattle.server.specs.Mechanisms.{offered}
use Rattle.server.specs.Open.{on_open}
use Rattle.server.specs.Outcome.{Result, done, Outcome, refuses, gives}
use Rattle.server.specs.Requests as Requests
use Rattle.server.specs.Requests.{Request, Sized, on}
use Rattle.server.specs.Server.{Server}
use Rattle.server.specs.Slots.{is_numbered, any_free, found, replaced}
use Rattle.server.specs.Verdict.{on_verdict}
use Rattle.server.specs.Who.{on_who}
use Rattle.server.specs.declared.Connection.{Connection}
use Rattle.server.proofs.Kept.{within, fresh-within}
use Rattle.server.proofs.Moves.{Moves, Unrefused, moves}
use Rattle.image.specs.Image.{Image, taken}
use Rattle.image.specs.Sizes.{image_size}
use Rattle.image.proofs.Taken.{taken-written, taken-within}
use Rattle.calls.specs.Call.{Call, make, request}
use Rattle.calls.specs.Step.{on_lent, outcome, result_in, image_in, response_lent, is_queried, relayed_in, out_of, step, run, left}
use Rattle.claims.specs.Exchanges as Exchanges
use Rattle.claims.specs.History.{history, AllSized}
use Rattle.claims.specs.Secrecy as Secrecy
use Rattle.claims.specs.Told.{connection_at, seen, told}
use Rattle.claims.proofs.Served.{later, Plain, lent-plain, outcome-plain}
use Rattle.claims.specs.Witnesses.{Buffers, LongEnough, shown, gave, example, example_shows, SignsIn, late_verdict, late_verdict_shows, LateVerdict}
use Rattle.claims.specs.Witnesses.{sign_ins, sign_ins_show, sesame, tomato, plain, PasswordsAlike}
use Rattle.claims.specs.Witnesses.{greets, fails, goes_on, failed_exchange_shows, FailedExchange}
use Rattle.claims.specs.Witnesses.{small_letters, small_letters_show, SmallLetters}
use Rattle.claims.proofs.Follows.{look}
use Rattle.claims.proofs.Others.{has-taken, stands-taken}
use Rattle.claims.proofs.Tells.{told-stands}

-- the server after a request, and after a list of them
abbrev server_in : Server → Outcome → Server
server_in s (refuses k) = s
server_in s (gives a z) = z

abbrev after-request : Server → Request → Server
after-request s r = server_in s (on s r)

abbrev after_requests : Server → List Request → Server
after_requests s [] = s
after_requests s (r ∷ rs) = after_requests (after-request s r) rs

-- what a request shows, and a list of them
abbrev shows : Server → Request → Outcome → Result × List ℕ
shows s r o = (result_in o, cond (is_queried (result_in o)) (response_lent (some s) r) (relayed_in (result_in o)))

abbrev all-show : Server → List Request → List (Result × List ℕ)
all-show s [] = []
all-show s (r ∷ rs) = shows s r (on s r) ∷ all-show (after-request s r) rs

-- ---- from servers to images

abbrev Plains : List Call → Type 0
Plains [] = Unit {0}
Plains (c ∷ cs) = Plain c × Plains cs

module _ (i : Image) (s : Server) (t : taken i ≡ some s) (c : Call) (p : Plain c) where
  left_in : (o : Outcome) → Unrefused (Moves s (request c)) o → taken (image_in i o) ≡ some (server_in s o)
  left_in (refuses k) m = t
  left_in (gives a z) m = taken-written z (within m (taken-within i s t) (later c p.0).sized)

  step-shows : shown (step i c) ≡ shows s (request c) (on s (request c))
  unfolding step
  step-shows =
      ap (λ (o : Outcome). shown (out_of i (request c) o)) (outcome-plain i s t c p)
      ∙ ap
      (λ (x : Option Server). (result_in (on s (request c)), cond (is_queried (result_in (on s (request c)))) (response_lent x (request c)) (relayed_in (result_in (on s (request c))))))
      (lent-plain i s t c p)

  step-taken : taken (step i c).image ≡ some (after-request s (request c))
  unfolding step
  step-taken = ap (λ (o : Outcome). taken (image_in i o)) (outcome-plain i s t c p) ∙ left_in (on s (request c)) (moves s (request c))

run-shows : (i : Image) (s : Server) (cs : List Call) → taken i ≡ some s → Plains cs → map shown (run i cs) ≡ all-show s (map request cs)
unfolding run
run-shows i s [] t p = refl
run-shows i s (c ∷ cs) t p =
    ap₂ (λ (x : Result × List ℕ) (xs : List (Result × List ℕ)). x ∷ xs) (step-shows i s t c p.0)
    (run-shows (step i c).image (after-request s (request c)) cs (step-taken i s t c p.0) p.1)

run-taken : (i : Image) (s : Server) (cs : List Call) → taken i ≡ some s → Plains cs → taken (left i cs) ≡ some (after_requests s (map request cs))
unfolding left
run-taken i s [] t p = t
run-taken i s (c ∷ cs) t p = run-taken (step i c).image (after-request s (request c)) cs (step-taken i s t c p.0) p.1

sizes : (cs : List Call) → Plains cs → AllSized cs
sizes [] p = tt
sizes (c ∷ cs) p = ((later c p.0.0).sized, sizes cs p.1)

-- make on an image of the right length
one-sized : Sized (Requests.make 1 1)
one-sized = (omega arith, omega arith)

module _ (i : Image) (e : length i ≡ image_size) where
  make-outcome : outcome i (make 1 1) ≡ gives done (fresh 1 1)
  unfolding outcome on
  make-outcome = ap (λ (b : Bool). on_lent (cond b (some (fresh 1 1)) none) (Requests.make 1 1)) (eq-eqb (length i) image_size e)

  make-shows : shown (step i (make 1 1)) ≡ gave done
  unfolding step
  make-shows = ap (λ (o : Outcome). shown (out_of i (Requests.make 1 1) o)) make-outcome

  make-taken : taken (step i (make 1 1)).image ≡ some (fresh 1 1)
  unfolding step
  make-taken = ap (λ (o : Outcome). taken (image_in i o)) make-outcome ∙ taken-written (fresh 1 1) (fresh-within 1 1 one-sized.0 one-sized.1)

  made-shows : (cs : List Call) → Plains cs → map shown (run i (make 1 1 ∷ cs)) ≡ gave done ∷ all-show (fresh 1 1) (map request cs)
  unfolding run
  made-shows cs p =
      ap₂ (λ (x : Result × List ℕ) (xs : List (Result × List ℕ)). x ∷ xs) make-shows (run-shows (step i (make 1 1)).image (fresh 1 1) cs make-taken p)

  made-left : (cs : List Call) → Plains cs → taken (left i (make 1 1 ∷ cs)) ≡ some (after_requests (fresh 1 1) (map request cs))
  unfolding left
  made-left cs p = run-taken (step i (make 1 1)).image (fresh 1 1) cs make-taken p

  made-seen : (cs : List Call) → Plains cs → (n : ℕ) (w : Standing) → look n (after_requests (fresh 1 1) (map request cs)).slots ≡ w
      → seen (left i (make 1 1 ∷ cs)) n ≡ w
  made-seen cs p n w f = stands-taken (left i (make 1 1 ∷ cs)) (after_requests (fresh 1 1) (map request cs)) n (made-left cs p) ∙ f

  made_told : (cs : List Call) → Plains cs → (n : ℕ) (w : Standing) → look n (after_requests (fresh 1 1) (map request cs)).slots ≡ w
      → told i (history [] i (make 1 1 ∷ cs)) n ≡ w
  made_told cs p n w f = told-stands i (make 1 1 ∷ cs) (one-sized, sizes cs p) n ∙ made-seen cs p n w f

module _ (b : Buffers) (l : LongEnough b) where
  long-two : not (leb reply_buffer (length b.reply) && leb answer_buffer (length b.answer)) ≡ false
  long-two = rw (le-leb reply_buffer (length b.reply) l.reply, le-leb answer_buffer (length b.answer) l.answer)

  long-name : not (leb longest_name (length b.name)) ≡ false
  long-name = rw (le-leb longest_name (length b.name) l.name)

-- ---- what the examples compute with: who unfolds this unfolds all that its line names

computes : Unit {0}
unfolding fresh on on_add on_open on_line on_verdict on_who on_close any_free found replaced offered response_on padded every one_to same before after
    padded_to capital words reply verb verb_of Auths.initial Auths.arguments Auths.auth forbidden understood command response view_in heard name_of query_octets relay_octets
    on_auth on_mail on_command on_response after_line Verdicts.on_verdict Verdicts.after_verdict Base64.alphabet Base64.letter Base64.value Base64.group_of
    Base64.valid Base64.octets Base64.encode Mails.opens Mails.path_ends Mails.rest Mails.words Mails.count Mails.all_good Mails.said Mails.identity
    Mails.well_formed Mails.mail_at Mails.mail Parameters.keyword Parameters.value Parameters.parameter Parameters.named Parameters.auth_value
    Parameters.submitter_value Parameters.good Addresses.address Xtext.digits Xtext.digit Xtext.number Xtext.valid Xtext.octets
computes = tt

-- ---- the example

example_requests : List Request
example_requests =
    Requests.add (ascii "PLAIN") 1 1
    ∷ Requests.add (ascii "CRAM-MD5") 0 0
    ∷ Requests.opens 0 1
    ∷ Requests.line 1 (ascii "EHLO a.example")
    ∷ Requests.line 1 (ascii "AUTH PLAIN Zm9v")
    ∷ Requests.verdict 1 1 (ascii "anna")
    ∷ Requests.who 1
    ∷ Requests.line 1 (ascii "AUTH PLAIN Zm9v")
    ∷ Requests.close 1
    ∷ Requests.verdict 1 1 (ascii "anna")
    ∷ []

example-computed : gave done ∷ all-show (fresh 1 1) example_requests ≡ example_shows
unfolding example_requests computes
example-computed = refl

pub signs_in : SignsIn
unfolding example_requests
signs_in i b e l =
    let two = long-two b l in
    made-shows i e (drop 1 (example b))
    ((refl, refl), ((refl, refl), ((refl, refl), ((refl, two), ((refl, two), ((refl, two), ((refl, long-name b l), ((refl, two), ((refl, refl), ((refl, two), tt))))))))))
    ∙ example-computed

-- ---- the late verdict

late_requests : List Request
late_requests =
    Requests.add (ascii "PLAIN") 1 0
    ∷ Requests.opens 0 0
    ∷ Requests.line 1 (ascii "EHLO a.example")
    ∷ Requests.line 1 (ascii "AUTH PLAIN Zm9v")
    ∷ Requests.close 1
    ∷ Requests.opens 0 0
    ∷ Requests.line 2 (ascii "EHLO b.example")
    ∷ Requests.line 2 (ascii "AUTH PLAIN Zm9v")
    ∷ Requests.verdict 1 1 (ascii "mill-lane")
    ∷ Requests.who 2
    ∷ Requests.verdict 2 1 (ascii "brook-street")
    ∷ Requests.who 2
    ∷ Requests.line 2 (ascii "MAIL FROM:<a@example.com> SUBMITTER=x@example.org AUTH=e+3Dmc2@example.com")
    ∷ []

late-computed : gave done ∷ all-show (fresh 1 1) late_requests ≡ late_verdict_shows
unfolding late_requests computes
late-computed = refl

pub late-verdict : LateVerdict
unfolding late_requests
late-verdict i b e l =
    let t = long-two b l in
    let n = long-name b l in
    made-shows i e (drop 1 (late_verdict b))
    ((refl, refl), ((refl, refl), ((refl, t), ((refl, t), ((refl, refl), ((refl, refl), ((refl, t), ((refl, t), ((refl, t), ((refl, n), ((refl, t), ((refl, n), ((refl, t), tt)))))))))))))
    ∙ late-computed

-- ---- the passwords

-- the requests of the sign-ins but for the make
sign_in_requests : List ℕ → List Request
sign_in_requests p =
    Requests.add (ascii "PLAIN") 1 0
    ∷ Requests.add (ascii "CRAM-MD5") 0 0
    ∷ Requests.opens 0 0
    ∷ Requests.line 1 (ascii "EHLO a.example")
    ∷ Requests.line 1 (ascii "AUTH PLAIN")
    ∷ Requests.line 1 p
    ∷ Requests.verdict 1 1 (ascii "anna")
    ∷ Requests.opens 1 1
    ∷ Requests.line 2 (ascii "AUTH PLAIN " ++ p)
    ∷ Requests.verdict 2 1 (ascii "anna")
    ∷ Requests.opens 1 0
    ∷ Requests.line 3 (ascii "AUTH CRAM-MD5")
    ∷ Requests.verdict 3 0 (ascii "x")
    ∷ Requests.line 3 p
    ∷ Requests.verdict 4 1 (ascii "anna")
    ∷ Requests.who 1
    ∷ Requests.who 2
    ∷ Requests.who 3
    ∷ []

sesame-computed : gave done ∷ all-show (fresh 1 1) (sign_in_requests (ascii "AGFubmEAc2VzYW1l")) ≡ sign_ins_show (plain "sesame")
unfolding sign_in_requests computes
sesame-computed = refl

tomato-computed : gave done ∷ all-show (fresh 1 1) (sign_in_requests (ascii "AGFubmEAdG9tYXRv")) ≡ sign_ins_show (plain "tomato")
unfolding sign_in_requests computes
tomato-computed = refl

-- an answer is awaited after the empty challenge, and after that of the service
awaits-first : look 1 (after_requests (fresh 1 1) (take 5 (sign_in_requests (ascii "AGFubmEAc2VzYW1l")))).slots ≡ awaits
unfolding sign_in_requests computes
awaits-first = refl

awaits-third : look 3 (after_requests (fresh 1 1) (take 13 (sign_in_requests (ascii "AGFubmEAc2VzYW1l")))).slots ≡ awaits
unfolding sign_in_requests computes
awaits-third = refl

sesame-tomato : Alike (ascii "AGFubmEAc2VzYW1l") (ascii "AGFubmEAdG9tYXRv")
unfolding Base64.alphabet Base64.value Base64.group_of Base64.valid Base64.closing
sesame-tomato = record { left = refl; right = refl; lengths = refl; closings = refl }

auth-capitals : capitals (ascii "AUTH") ≡ ascii "AUTH"
unfolding capital
auth-capitals = refl

module _ (b : Buffers) (l : LongEnough b) where
  first-plains : Plains (drop 1 (take 6 (sign_ins b sesame)))
  first-plains = let two = long-two b l in ((refl, refl), ((refl, refl), ((refl, refl), ((refl, two), ((refl, two), tt)))))

  third-plains : Plains (drop 1 (take 14 (sign_ins b sesame)))
  third-plains =
      let two = long-two b l in (
        (refl, refl),
        (
          (refl, refl),
          (
            (refl, refl),
            (
              (refl, two),
              (
                (refl, two),
                (
                  (refl, two),
                  (
                    (refl, two),
                    (
                      (refl, refl),
                      (
                        (refl, two),
                        (
                          (refl, two),
                          (
                            (refl, refl),
                            (
                              (refl, two),
                              ((refl, two), tt),
                            ),
                          ),
                        ),
                      ),
                    ),
                  ),
                ),
              ),
            ),
          ),
        ),
      )

  all-plains : (p : String) → Plains (drop 1 (sign_ins b p))
  all-plains p =
      let two = long-two b l in
      let name = long-name b l in (
        (refl, refl),
        (
          (refl, refl),
          (
            (refl, refl),
            (
              (refl, two),
              (
                (refl, two),
                (
                  (refl, two),
                  (
                    (refl, two),
                    (
                      (refl, refl),
                      (
                        (refl, two),
                        (
                          (refl, two),
                          (
                            (refl, refl),
                            (
                              (refl, two),
                              ((refl, two), ((refl, two), ((refl, two), ((refl, name), ((refl, name), ((refl, name), tt)))))),
                            ),
                          ),
                        ),
                      ),
                    ),
                  ),
                ),
              ),
            ),
          ),
        ),
      )

passwords : (i : Image) (b : Buffers) → length i ≡ image_size → LongEnough b → Secrecy.ListsAlike i [] i (sign_ins b sesame) (sign_ins b tomato)
unfolding history sign_in_requests
passwords i b e l =
    Secrecy.more (Secrecy.make {c = 1} {t = 1} one-sized)
    (Secrecy.more Secrecy.add
    (Secrecy.more Secrecy.add
    (Secrecy.more Secrecy.opens
    (Secrecy.more (Secrecy.line (Lines.equal _) refl refl)
    (Secrecy.more (Secrecy.line (Lines.equal _) refl refl)
    (Secrecy.more (Secrecy.line (Lines.response (made_told i e (drop 1 (take 6 (sign_ins b sesame))) (first-plains b l) 1 awaits awaits-first) sesame-tomato) refl refl)
    (Secrecy.more (Secrecy.verdict refl refl)
    (Secrecy.more Secrecy.opens
    (Secrecy.more (Secrecy.line (Lines.initial (ascii "AUTH") (ascii "PLAIN") auth-capitals refl sesame-tomato) refl refl)
    (Secrecy.more (Secrecy.verdict refl refl)
    (Secrecy.more Secrecy.opens
    (Secrecy.more (Secrecy.line (Lines.equal _) refl refl)
    (Secrecy.more (Secrecy.verdict refl refl)
    (Secrecy.more (Secrecy.line (Lines.response (made_told i e (drop 1 (take 14 (sign_ins b sesame))) (third-plains b l) 3 awaits awaits-third) sesame-tomato) refl refl)
    (Secrecy.more (Secrecy.verdict refl refl)
    (Secrecy.more (Secrecy.who refl)
    (Secrecy.more (Secrecy.who refl)
    (Secrecy.more (Secrecy.who refl)
    Secrecy.none))))))))))))))))))

pub passwords_alike : PasswordsAlike
unfolding sign_in_requests
passwords_alike i b e l =
    record {
      alike = passwords i b e l;
      first = made-shows i e (drop 1 (sign_ins b sesame)) (all-plains b l sesame) ∙ sesame-computed;
      second = made-shows i e (drop 1 (sign_ins b tomato)) (all-plains b l tomato) ∙ tomato-computed;
    }

-- ---- the exchanges that fail

fail_requests : List Request
fail_requests =
    Requests.add (ascii "PLAIN") 1 0
    ∷ Requests.opens 0 0
    ∷ Requests.line 1 (ascii "EHLO a.example")
    ∷ Requests.line 1 (ascii "AUTH PLAIN")
    ∷ Requests.line 1 (ascii "*")
    ∷ Requests.who 1
    ∷ Requests.line 1 (ascii "AUTH PLAIN Zm9v")
    ∷ Requests.verdict 1 2 []
    ∷ Requests.who 1
    ∷ Requests.line 1 (ascii "MAIL FROM:<a@example.com> AUTH=e+3Dmc2@example.com")
    ∷ Requests.line 1 (ascii "AUTH PLAIN Zm9v")
    ∷ []

fails-computed : gave done ∷ all-show (fresh 1 1) fail_requests ≡ failed_exchange_shows
unfolding fail_requests computes
fails-computed = refl

-- the connection is greeted before the first AUTH, and awaits a response after it
greeted-found : (c : Connection) × (found (is_numbered 1) (after_requests (fresh 1 1) (take 3 fail_requests)).slots ≡ some c) × (c.session.greeted ≡ true)
unfolding fail_requests computes
greeted-found = (_, refl, refl)

awaits-star : look 1 (after_requests (fresh 1 1) (take 4 fail_requests)).slots ≡ awaits
unfolding fail_requests computes
awaits-star = refl

awaits_unquiet : quiet ≡ awaits → ⊥
awaits_unquiet e = let z : ◌≡◌ {A = ℕ} 0 1 = cc in omega arith

module _ (i : Image) (b : Buffers) (e : length i ≡ image_size) (l : LongEnough b) where
  greeted-first : (c : Connection) × (connection_at (left i (greets b)) 1 ≡ some c) × (c.session.greeted ≡ true)
  unfolding fail_requests
  greeted-first =
      let g = greeted-found in
      let t = made-left i e (drop 1 (greets b)) ((refl, refl), ((refl, refl), ((refl, long-two b l), tt))) in
      (g.0, has-taken (left i (greets b)) (after_requests (fresh 1 1) (take 3 fail_requests)) 1 t ∙ g.1, g.2)

  fails_in_exchange : Exchanges.AllInExchange 1 (left i (greets b)) (fails b)
  unfolding fail_requests left verb before capital
  fails_in_exchange =
      let two = long-two b l in
      let star = made-seen i e (drop 1 (greets b ++ take 1 (fails b))) ((refl, refl), ((refl, refl), ((refl, two), ((refl, two), tt)))) 1 awaits awaits-star in (
        Exchanges.line (λ q. refl),
        (
          Exchanges.line (λ q. absurd (awaits_unquiet (sym q ∙ star))),
          (Exchanges.other refl, (Exchanges.line (λ q. refl), (Exchanges.verdict, (Exchanges.other refl, tt)))),
        ),
      )

  fails-show : map shown (run i (greets b ++ (fails b ++ goes_on b))) ≡ failed_exchange_shows
  unfolding fail_requests
  fails-show =
      let two = long-two b l in
      let name = long-name b l in
      let last : Plains (drop 3 (fails b) ++ goes_on b) = ((refl, two), ((refl, two), ((refl, name), ((refl, two), ((refl, two), tt))))) in
      made-shows i e (drop 1 (greets b ++ (fails b ++ goes_on b))) ((refl, refl), ((refl, refl), ((refl, two), ((refl, two), ((refl, two), ((refl, name), last))))))
      ∙ fails-computed

pub failed-exchange : FailedExchange
failed-exchange i b e l = record { greeted = greeted-first i b e l; in_exchange = fails_in_exchange i b e l; shows = fails-show i b e l }

-- ---- small letters

small_requests : List Request
small_requests =
    Requests.add (ascii "plain") 1 1
    ∷ Requests.add (ascii "PLAIN") 1 1
    ∷ Requests.opens 0 1
    ∷ Requests.line 1 (ascii "EHLO a.example")
    ∷ Requests.line 1 (ascii "AUTH nosuch")
    ∷ Requests.line 1 (ascii "AUTH plain.")
    ∷ Requests.line 1 (ascii "AUTH abcdefghijklmnopqrstu")
    ∷ Requests.line 1 (ascii "AUTH pLaIn Zm9v")
    ∷ Requests.verdict 1 1 (ascii "anna")
    ∷ Requests.who 1
    ∷ []

small-computed : gave done ∷ all-show (fresh 1 1) small_requests ≡ small_letters_show
unfolding small_requests computes
small-computed = refl

plain-spelled : SpelledAlike (ascii "AUTH pLaIn Zm9v") (ascii "AUTH PLAIN Zm9v")
unfolding capital
plain-spelled = initial (ascii "AUTH") (ascii "AUTH") (ascii "pLaIn") (ascii "PLAIN") (ascii "Zm9v") refl refl refl refl

pub small-letters : SmallLetters
unfolding small_requests
small-letters i b e l =
    let two = long-two b l in
    let lines : Plains (drop 4 (small_letters b)) = ((refl, two), ((refl, two), ((refl, two), ((refl, two), ((refl, two), ((refl, two), ((refl, long-name b l), tt))))))) in
    record {
      alike = plain-spelled;
      shows = made-shows i e (drop 1 (small_letters b)) ((refl, refl), ((refl, refl), ((refl, refl), lines))) ∙ small-computed;
    }

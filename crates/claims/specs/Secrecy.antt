-- The third demand: "It is a single claim about two whole lists of these calls .. The first images are equal, of whatever octets and length. Each
-- position has the same call in both lists, with reply, answer and name buffers of equal length, whatever they hold, and equal arguments, a
-- verdict's data and a mechanism's name among them, save that a line may differ as demand 3 says."
use Rattle.std.specs.Prelude.{◌≡◌, Bool, false, cond, ◌&&◌, List, [], ◌∷◌, ℕ, ◌+◌, ◌/◌, length, take, drop}
use Rattle.octets.specs.Ascii.{ascii, capitals, space}
use Rattle.octets.specs.Lists.{holds, same, before, after}
use Rattle.session.specs.Alike.{LinesAlike}
use Rattle.session.specs.Standing.{Standing}
use Rattle.server.specs.Requests as Requests
use Rattle.server.specs.Requests.{Sized}
use Rattle.image.specs.Image.{Image}
use Rattle.calls.specs.Call as Calls
use Rattle.calls.specs.Call.{Call, request}
use Rattle.calls.specs.Step.{Out, is_queried, step, run}
use Rattle.claims.specs.Told.{Made, made, told}

-- two calls that are alike; w: how each connection stands. `LinesAlike` has the lines that may differ
pub data CallsAlike (w : ℕ → Standing) : Call → Call → Type 0 where
  -- "a first connection number and a first ticket (64 bits)"
  make : {c t : ℕ} → Sized (Requests.make c t) → CallsAlike w (Calls.make c t) (Calls.make c t)
  add : {n : List ℕ} {f p : ℕ} → CallsAlike w (Calls.add n f p) (Calls.add n f p)
  opens : {p b : ℕ} → CallsAlike w (Calls.opens p b) (Calls.opens p b)
  line : {n : ℕ} {l k r q a b : List ℕ} → LinesAlike (w n) l k → length r ≡ length q → length a ≡ length b
      → CallsAlike w (Calls.line n l r a) (Calls.line n k q b)
  verdict : {t v : ℕ} {d r q a b : List ℕ} → length r ≡ length q → length a ≡ length b → CallsAlike w (Calls.verdict t v d r a) (Calls.verdict t v d q b)
  mail_ended : {n : ℕ} → CallsAlike w (Calls.mail_ended n) (Calls.mail_ended n)
  who : {n : ℕ} {b a : List ℕ} → length b ≡ length a → CallsAlike w (Calls.who n b) (Calls.who n a)
  close : {n : ℕ} → CallsAlike w (Calls.close n) (Calls.close n)

-- two lists that are alike at each position, told from the first run: f the first image, h the calls made so far, the last one first, i the
-- image that they left
pub data ListsAlike (f : Image) : List Made → Image → List Call → List Call → Type 0 where
  none : {h : List Made} {i : Image} → ListsAlike f h i [] []
  more : {h : List Made} {i : Image} {c d : Call} {cs ds : List Call} → CallsAlike (told f h) c d
      → ListsAlike f (made (request c) (step i c).result ∷ h) (step i c).image cs ds
      → ListsAlike f h i (c ∷ cs) (d ∷ ds)

-- the line of a call
abbrev pub line_in : Call → List ℕ
line_in (Calls.make c t) = []
line_in (Calls.add n f p) = []
line_in (Calls.opens p b) = []
line_in (Calls.line n l r a) = l
line_in (Calls.verdict t v d r a) = []
line_in (Calls.mail_ended n) = []
line_in (Calls.who n b) = []
line_in (Calls.close n) = []

-- "An initial response is what follows `AUTH` (case ignored), one space, octets without a space, and one space"; any other line is a response as a
-- whole
abbrev pub has_initial : List ℕ → Bool
has_initial l = same (capitals (before space l)) (ascii "AUTH") && (holds space l && holds space (after space l))

unfoldable pub response_in : List ℕ → List ℕ
response_in l = cond (has_initial l) (after space (after space l)) l

-- RFC 4648 section 4: three octets are four letters, six bits to a letter, so an octet is held by two letters side by side. Counted from 0,
-- octet 3k + i is held by letters 4k + i and 4k + i + 1, for i of 0, 1 and 2: of octet j, those from index j + j / 3 on
abbrev pub letters_of : ℕ → List ℕ → List ℕ
letters_of j l = take 2 (drop (j + j / 3) l)

-- octet j of some octets, counted from 0: a list of one, or of none where there are no more than j
abbrev pub octet_at : ℕ → List ℕ → List ℕ
octet_at j l = take 1 (drop j l)

-- "Equal are each refusal, each answer's kind, numbers, lengths and identity, whether a question only starts an exchange, signed in or not, the
-- octets of reply and name, MAIL's octets in the answer buffer, and the whole image. A question's octets in the answer buffer may differ only
-- where the two lines do." A result holds all of the former, the octets that a client hears and a name among them.
pub record Agree (c d : Call) (o p : Out) : Type 0 where
  pub result : o.result ≡ p.result
  pub image : o.image ≡ p.image
  pub relayed : is_queried o.result ≡ false → o.handed ≡ p.handed
  pub query : line_in c ≡ line_in d → o.handed ≡ p.handed
  pub octet : (j : ℕ) → letters_of j (response_in (line_in c)) ≡ letters_of j (response_in (line_in d)) → octet_at j o.handed ≡ octet_at j p.handed

pub data AgreeAll : List Call → List Call → List Out → List Out → Type 0 where
  none : AgreeAll [] [] [] []
  more : {c d : Call} {cs ds : List Call} {o p : Out} {os ps : List Out} → Agree c d o p → AgreeAll cs ds os ps → AgreeAll (c ∷ cs) (d ∷ ds) (o ∷ os) (p ∷ ps)

abbrev pub Secrecy : Type 0
Secrecy = (i : Image) (cs ds : List Call) → ListsAlike i [] i cs ds → AgreeAll cs ds (run i cs) (run i ds)

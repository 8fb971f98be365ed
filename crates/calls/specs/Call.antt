-- The calls (document 01, "Calls and numbered refusals"). A host lends an image to each; "Line and verdict take a reply buffer (at least 12,288
-- octets) and an answer buffer (at least 9,213); who takes a name buffer (at least 64)."
use Rattle.std.specs.Prelude.{Bool, false, not, ◌&&◌, List, ℕ, leb, length}
use Rattle.session.specs.Limits.{reply_buffer, answer_buffer, longest_name}
use Rattle.server.specs.Requests.{Request}
use Rattle.server.specs.Requests as Requests

pub data Call : Type 0 where
  -- the first connection's number, the first ticket
  make : ℕ → ℕ → Call
  -- name, whether the client speaks first, whether it needs protection
  add : List ℕ → ℕ → ℕ → Call
  -- profile, protected or not (`open` is a word of the language)
  opens : ℕ → ℕ → Call
  -- connection, line, reply buffer, answer buffer
  line : ℕ → List ℕ → List ℕ → List ℕ → Call
  -- ticket, verdict, data, reply buffer, answer buffer
  verdict : ℕ → ℕ → List ℕ → List ℕ → List ℕ → Call
  -- connection
  mail_ended : ℕ → Call
  -- connection, name buffer
  who : ℕ → List ℕ → Call
  -- connection
  close : ℕ → Call

-- what is asked, without the buffers
abbrev pub request : Call → Request
request (make c t) = Requests.make c t
request (add n f p) = Requests.add n f p
request (opens p b) = Requests.opens p b
request (line n l r a) = Requests.line n l
request (verdict t v d r a) = Requests.verdict t v d
request (mail_ended n) = Requests.mail_ended n
request (who n b) = Requests.who n
request (close n) = Requests.close n

-- refusal 1: "a lent buffer is shorter than above"
abbrev pub is_short : Call → Bool
is_short (make c t) = false
is_short (add n f p) = false
is_short (opens p b) = false
is_short (line n l r a) = not (leb reply_buffer (length r) && leb answer_buffer (length a))
is_short (verdict t v d r a) = not (leb reply_buffer (length r) && leb answer_buffer (length a))
is_short (mail_ended n) = false
is_short (who n b) = not (leb longest_name (length b))
is_short (close n) = false

-- The AUTH line (document 01, "A session's steps"; RFC 4954 section 4, RFC 5034 section 4).
use Rattle.std.specs.Prelude.{cond, List, [], ℕ, ◌+◌, length, take, drop}
use Rattle.octets.specs.Ascii.{ascii, capitals}
use Rattle.octets.specs.Lists.{is_empty, holds, same, before, after}
use Rattle.std.specs.Prelude.{Option, Some, None}
use Rattle.base64text.specs.Base64
use Rattle.lines.specs.Mechanism.{spelling}
use Rattle.lines.specs.Verb.{space}
use Rattle.lines.specs.declared.auth.Auth.{Auth}
use Rattle.lines.specs.declared.auth.Auth.TheVariants.{Alone, Initial}

-- ""=" or non-empty base64", after a mechanism that ends at index `to` and one space: ""=" means zero octets", and after it stands
-- an empty text
abbrev pub given : ℕ → Option ℕ → Option Auth
given to (Some n) = Some (Initial to (to + 1) n)
given to None = None

unfoldable pub initial : ℕ → List ℕ → Option Auth
initial to t = cond (same t (ascii "=")) (Some (Initial to (to + 2) 0)) (cond (is_empty t) None (given to (Base64.measured t)))

-- the mechanism, in letters of either case (M-105), and after one space an initial response, or nothing; from index 5 of the line on
unfoldable pub arguments : List ℕ → Option Auth
arguments r =
    cond (spelling (before space r))
    (cond (holds space r) (initial (5 + length (before space r)) (after space r)) (Some (Alone (5 + length (before space r)))))
    None

-- "`AUTH`, one space", and the arguments
unfoldable pub auth : List ℕ → Option Auth
auth l = cond (same (capitals (take 5 l)) (ascii "AUTH ")) (arguments (drop 5 l)) None

-- the mechanism's name, which is the text there in capitals (M-105), and the base64 of the initial response, that a line's reading points to
abbrev pub name_text : Option Auth → List ℕ → List ℕ
name_text None l = []
name_text (Some (Alone to)) l = capitals (drop 5 (take to l))
name_text (Some (Initial to from n)) l = capitals (drop 5 (take to l))

abbrev pub initial_text : Option Auth → List ℕ → List ℕ
initial_text None l = []
initial_text (Some (Alone to)) l = []
initial_text (Some (Initial to from n)) l = drop from l

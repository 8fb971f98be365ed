-- What an AUTH line says, with no index in it (document 01, "A session's steps"; RFC 4954 section 4, RFC 5034 section 4): AUTH, one space, a
-- mechanism's name in letters of either case (M-105), and then nothing, or one space and either "=" or base64 that is not empty.
use Rattle.std.specs.Prelude.{cond, List, [], ℕ, take, drop}
use Rattle.octets.specs.Ascii.{ascii, capitals}
use Rattle.octets.specs.Lists.{is_empty, holds, same, before, after}
use Rattle.base64text.specs.Base64
use Rattle.std.specs.Prelude.{Option, Some, None}
use Rattle.lines.specs.Auth.{name_text, initial_text}
use Rattle.lines.specs.Mechanism.{spelling}
use Rattle.lines.specs.Verb.{space}
use Rattle.lines.specs.declared.auth.Auth.{Auth}
use Rattle.lines.specs.declared.auth.Auth.TheVariants.{Alone, Initial}

-- the line is not of the form; it names a mechanism, here in capitals; it names one and has an initial response of these octets
pub data Says : Type 0 where
  malformed : Says
  alone : List ℕ → Says
  initial : List ℕ → List ℕ → Says

-- the text t after the name m and a space: "=" stands for no octets, an empty text for nothing
unfoldable pub initial_says : List ℕ → List ℕ → Says
initial_says m t =
    cond (same t (ascii "=")) (initial m [])
    (cond (is_empty t) malformed
    (cond (Base64.valid t) (initial m (Base64.octets t))
    malformed))

unfoldable pub arguments_say : List ℕ → Says
arguments_say r =
    cond (spelling (before space r))
    (cond (holds space r) (initial_says (capitals (before space r)) (after space r)) (alone (capitals (before space r))))
    malformed

unfoldable pub auth_says : List ℕ → Says
auth_says l = cond (same (capitals (take 5 l)) (ascii "AUTH ")) (arguments_say (drop 5 l)) malformed

-- what a reading points to in the line l that was read
abbrev pub points_to : Option Auth → List ℕ → Says
points_to None l = malformed
points_to (Some (Alone to)) l = alone (name_text (Some (Alone to)) l)
points_to (Some (Initial to from n)) l = initial (name_text (Some (Initial to from n)) l) (Base64.octets (initial_text (Some (Initial to from n)) l))

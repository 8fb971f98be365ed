-- What a script line says: the rows of docs/DESKRUN.md's first table. "Any other line is unreadable".
use Rattle.std.specs.Prelude.{Bool, true, false, cond, ◌&&◌, List, [], ◌∷◌, ℕ, ◌+◌, ◌%◌, eqb, length, Option, None, option_map, option_and_then}
use Rattle.std.specs.Option.{option_or}
use Rattle.octets.specs.Ascii.{ascii, space}
use Rattle.octets.specs.Lists.{every, before, after}
use Rattle.profile.specs.declared.Profile.TheVariants.{Smtp, Pop3}
use Rattle.script.specs.declared.word.Word.TheVariants as Words
use Rattle.script.specs.declared.kept.Rest.{Rest}
use Rattle.script.specs.declared.word.Word.{Word}
use Rattle.script.specs.declared.command.Command.{Command}
use Rattle.script.specs.declared.command.Command.TheVariants.{Open, Line, Hexline, Verdict, Ended, Who, Close}
use Rattle.script.specs.Hex.{hexdig}
use Rattle.script.specs.Number.{number}
use Rattle.script.specs.Texts.{found}
use Rattle.script.specs.Word.{word_of, takes_text}

-- the call of a word with a number, and a text that stands from an index on
abbrev pub made : Word → ℕ → ℕ → Command
made Words.Line n from = Line n from
made Words.Hexline n from = Hexline n from
made (Words.Verdict v) n from = Verdict n v from
made Words.Ended n from = Ended n
made Words.Who n from = Who n
made Words.Close n from = Close n

-- "hex digits, two for each octet": the text and the rest of it that is not kept
unfoldable pub hex_text : List ℕ → Rest → Bool
hex_text t r = every hexdig t && r.digits && eqb ((length t + r.parity) % 2) 0

abbrev pub fitting : Word → List ℕ → Rest → Bool
fitting Words.Hexline t r = hex_text t r
fitting w t r = true

-- "A text begins after exactly one space and runs to the line's end": the number ends at the next space where a text may follow, and
-- else at the line's end.
abbrev pub digits_of : Word → List ℕ → List ℕ
digits_of w l = cond (takes_text w) (before space l) l

-- the arguments l of a word, which stand from index `at` on
unfoldable pub arguments : Word → ℕ → List ℕ → Rest → Option Command
arguments w at l r = cond (fitting w (after space l) r) (option_map (λ (n : ℕ). made w n (at + length (digits_of w l) + 1)) (number (digits_of w l))) None

-- a word, one space and its arguments
unfoldable pub call : List ℕ → Rest → Option Command
call t r = option_and_then (λ (w : Word). arguments w (length (before space t) + 1) (after space t) r) (word_of (before space t))

-- the lines with the word open: a profile, and whether it is protected
abbrev pub openings : List (List ℕ × Command)
openings =
    (ascii "open smtp protected", Open Smtp true)
    ∷ (ascii "open smtp plain", Open Smtp false)
    ∷ (ascii "open pop3 protected", Open Pop3 true)
    ∷ (ascii "open pop3 plain", Open Pop3 false)
    ∷ []

-- the call of a line with the word open
unfoldable pub opening : List ℕ → Option Command
opening t = found openings t

-- t: what is kept of the line; r: the rest of it, `none` where all of it is kept
unfoldable pub command : List ℕ → Rest → Option Command
command t r = option_or (opening t) (call t r)

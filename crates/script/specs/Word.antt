-- The words that a script line begins with (docs/DESKRUN.md): "in small letters".
use Rattle.std.specs.Prelude.{Bool, true, false, List, [], ◌∷◌, ℕ, Option}
use Rattle.octets.specs.Ascii.{ascii}
use Rattle.profile.specs.declared.numbers.Verdict as Verdicts
use Rattle.profile.specs.declared.numbers.Verdict.TheVariants.{Challenge, Success, Rejected, Temporary, Transition, Weak}
use Rattle.script.specs.Texts.{found}
use Rattle.script.specs.declared.word.Word.{Word}
use Rattle.script.specs.declared.word.Word.TheVariants.{Line, Hexline, Verdict, Ended, Who, Close}

-- each with what it says
abbrev pub words : List (List ℕ × Word)
words =
    (ascii "line", Line)
    ∷ (ascii "hexline", Hexline)
    ∷ (ascii "challenge", Verdict Challenge)
    ∷ (ascii "success", Verdict Success)
    ∷ (ascii "rejected", Verdict Rejected)
    ∷ (ascii "temporary", Verdict Temporary)
    ∷ (ascii "transition", Verdict Transition)
    ∷ (ascii "weak", Verdict Weak)
    ∷ (ascii "ended", Ended)
    ∷ (ascii "who", Who)
    ∷ (ascii "close", Close)
    ∷ []

-- the word that a text is
unfoldable pub word_of : List ℕ → Option Word
word_of t = found words t

-- document 01: "challenge (0 to 9,210 octets); success with a name (..); rejected, temporary, transition, weak, these four with no data"
abbrev pub has_data : Verdicts.Verdict → Bool
has_data Challenge = true
has_data Success = true
has_data Rejected = false
has_data Temporary = false
has_data Transition = false
has_data Weak = false

-- whether a text may follow the number
abbrev pub takes_text : Word → Bool
takes_text Line = true
takes_text Hexline = true
takes_text (Verdict v) = has_data v
takes_text w = false

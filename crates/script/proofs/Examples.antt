-- Examples of script lines. Assumes nothing.
use mathlib.Core.Path.{◌≡◌, refl}
use mathlib.Core.Bool.{true, false}
use Prim.Native.String.{String}
use Rattle.std.specs.Prelude.{Option, Some, None}
use Rattle.octets.specs.Ascii.{ascii}
use Rattle.octets.specs.Lists.{same, before, after, every}
use Rattle.profile.specs.declared.numbers.Verdict.TheVariants as Verdicts
use Rattle.profile.specs.declared.Profile.TheVariants.{Smtp, Pop3}
use Rattle.script.specs.Command.{command, opening, call, arguments, hex_text}
use Rattle.script.specs.Hex.{digit}
use Rattle.script.specs.Kept.{none}
use Rattle.script.specs.Number.{number, digits_from, value_from}
use Rattle.script.specs.Texts.{found}
use Rattle.script.specs.Word.{word_of}
use Rattle.script.specs.declared.command.Command.{Command}
use Rattle.script.specs.declared.command.Command.TheVariants.{Open, Line, Hexline, Verdict, Ended, Who, Close}

abbrev said : String → Option Command
said s = command (ascii s) none

pub examples : (said "open smtp protected" ≡ Some (Open Smtp true))
    × (said "open pop3 plain" ≡ Some (Open Pop3 false))
    × (said "open pop3 plain " ≡ None)
    × (said "line 1 NOOP" ≡ Some (Line 1 7))
    × (said "line 1" ≡ Some (Line 1 7))
    × (said "line 1 " ≡ Some (Line 1 7))
    × (said "line 01" ≡ None)
    × (said "line 0" ≡ Some (Line 0 7))
    × (said "line 18446744073709551615 x" ≡ Some (Line 18446744073709551615 26))
    × (said "line 18446744073709551616 x" ≡ None)
    × (said "hexline 12 0a" ≡ Some (Hexline 12 11))
    × (said "hexline 12 0a0" ≡ None)
    × (said "hexline 12 0A" ≡ None)
    × (said "success 3 anna" ≡ Some (Verdict 3 Verdicts.Success 10))
    × (said "weak 3" ≡ Some (Verdict 3 Verdicts.Weak 7))
    × (said "weak 3 " ≡ None)
    × (said "ended 2" ≡ Some (Ended 2))
    × (said "who 2" ≡ Some (Who 2))
    × (said "close 2" ≡ Some (Close 2))
    × (said "Close 2" ≡ None)
    × (said "" ≡ None)
unfolding command opening call arguments word_of found same before after number digits_from value_from every hex_text digit
examples = (refl, refl, refl, refl, refl, refl, refl, refl, refl, refl, refl, refl, refl, refl, refl, refl, refl, refl, refl, refl, refl)

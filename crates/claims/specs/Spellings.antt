-- M-105: who writes a mechanism in small letters is served like who writes it in capitals.
use Rattle.std.specs.Prelude.{◌≡◌, List, ℕ}
use Rattle.lines.specs.Alike.{SpelledAlike}
use Rattle.image.specs.Image.{Image}
use Rattle.calls.specs.Call.{line}
use Rattle.calls.specs.Step.{step}

-- of every image, for every connection and whatever is lent: two AUTH lines that differ in the case of letters alone, those of AUTH and of the
-- mechanism's name, come to the same, in what the call gives, in the octets that it hands over and in the image that it leaves. r, a: the
-- reply buffer and the answer buffer
abbrev pub SpellingsServed : Type 0
SpellingsServed = (i : Image) (n : ℕ) (l k r a : List ℕ) → SpelledAlike l k → step i (line n l r a) ≡ step i (line n k r a)

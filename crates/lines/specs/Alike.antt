-- Texts and lines that a reading may not tell apart.
use Rattle.std.specs.Prelude.{◌≡◌, true, false, List, ◌∷◌, ◌++◌, ℕ, length}
use Rattle.octets.specs.Ascii.{ascii, capitals}
use Rattle.octets.specs.Lists.{holds}
use Rattle.base64text.specs.Base64.{valid, closing}
use Rattle.lines.specs.Verb.{space}

-- client responses of equal shape: of equal length, both valid base64, with equally many closing "="
pub record Alike (r s : List ℕ) : Type 0 where
  pub left : valid r ≡ true
  pub right : valid s ≡ true
  pub lengths : length r ≡ length s
  pub closings : closing r ≡ closing s

-- "An initial response is what follows `AUTH` (case ignored), one space, octets without a space, and one space" (document 01)
abbrev pub auth_line : List ℕ → List ℕ → List ℕ → List ℕ
auth_line a m r = a ++ (space ∷ (m ++ (space ∷ r)))

-- AUTH lines that differ in the case of letters alone, those of AUTH and those of the mechanism's name (M-105): with nothing after the name,
-- and with one initial response
pub data SpelledAlike : List ℕ → List ℕ → Type 0 where
  alone : (a b m n : List ℕ) → capitals a ≡ ascii "AUTH" → capitals b ≡ ascii "AUTH" → capitals m ≡ capitals n → holds space m ≡ false
      → SpelledAlike (a ++ (space ∷ m)) (b ++ (space ∷ n))
  initial : (a b m n r : List ℕ) → capitals a ≡ ascii "AUTH" → capitals b ≡ ascii "AUTH" → capitals m ≡ capitals n → holds space m ≡ false
      → SpelledAlike (auth_line a m r) (auth_line b n r)

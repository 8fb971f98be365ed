-- Numbers in a script (docs/DESKRUN.md): "decimal, with no sign and no leading zero (`0` itself is one), and at most 2^64-1".
use Rattle.std.specs.Prelude.{Bool, false, cond, ◌&&◌, ◌||◌, List, [], ◌∷◌, ℕ, ◌+◌, ◌-◌, ◌*◌, ◌^◌, eqb, leb, Option, Some, None}
use Rattle.octets.specs.Ascii.{is_digit}
use Rattle.octets.specs.Lists.{is_empty, every}

-- what decimal digits stand for, after others that stand for n
unfoldable pub value_from : ℕ → List ℕ → ℕ
value_from n [] = n
value_from n (x ∷ l) = value_from (n * 10 + (x - 0x30)) l

-- "at most 2^64-1"
abbrev pub most : ℕ
most = 2 ^ 64 - 1

-- "no leading zero"
abbrev pub leading_zero : List ℕ → Bool
leading_zero [] = false
leading_zero (x ∷ []) = false
leading_zero (x ∷ y ∷ l) = eqb x 0x30

-- digits alone, after others that stand for n
unfoldable pub digits_from : ℕ → List ℕ → Option ℕ
digits_from n l = cond (every is_digit l && leb (value_from n l) most) (Some (value_from n l)) None

unfoldable pub number : List ℕ → Option ℕ
number l = cond (is_empty l || leading_zero l) None (digits_from 0 l)

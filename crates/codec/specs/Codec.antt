-- Layouts of fixed length. A codec of a type says how many octets a value takes, which octets these are, and which value stands at an
-- index of a list of octets. Reading is total: octets that no value writes are read as some value, and whoever wants to refuse them writes
-- that value again and compares (`decode`). So octets that mean nothing need no rule of their own.
--   octet, number k, flag               one octet; k octets, the least significant first; a yes-or-no
--   pair, array n, option, listed n     one layout after another; n values; a value or none; a list of at most n values
--   mapped                              a layout of another type
use Rattle.std.specs.Prelude.{Bool, cond, ◌&&◌, List, [], ◌∷◌, ◌++◌, ℕ, zero, suc, ◌+◌, ◌*◌, ◌/◌, ◌%◌, eqb, length, get_or, take, drop, replicate}
use Rattle.std.proofs.Math.Option.{Option, none, some}
use Rattle.octets.specs.Lists.{same}

pub record Codec (A : Type 0) : Type 0 where
  pub size : ℕ
  pub put : A → List ℕ
  pub get : List ℕ → ℕ → A

-- ---- one value

unfoldable pub put_octet : ℕ → List ℕ
put_octet x = x ∷ []

abbrev pub octet : Codec ℕ
octet = record { size = 1; put = put_octet; get = λ l at. get_or l at 0 }

unfoldable pub put_number : ℕ → ℕ → List ℕ
put_number zero x = []
put_number (suc k) x = (x % 256) ∷ put_number k (x / 256)

unfoldable pub get_number : ℕ → List ℕ → ℕ → ℕ
get_number zero l at = 0
get_number (suc k) l at = get_or l at 0 + 256 * get_number k l (at + 1)

abbrev pub number : ℕ → Codec ℕ
number k = record { size = k; put = put_number k; get = get_number k }

-- ---- a layout of another type

abbrev pub mapped : {A B : Type 0} → Codec A → (A → B) → (B → A) → Codec B
mapped a to from = record { size = a.size; put = λ b. a.put (from b); get = λ l at. to (a.get l at) }

-- a yes-or-no is 0 or 1
abbrev pub is_one : ℕ → Bool
is_one x = eqb x 1

abbrev pub bit : Bool → ℕ
bit b = cond b 1 0

abbrev pub flag : Codec Bool
flag = mapped octet is_one bit

-- ---- several values

abbrev pub pair : {A B : Type 0} → Codec A → Codec B → Codec (A × B)
pair a b =
    record {
      size = a.size + b.size;
      put = λ x. a.put x.0 ++ b.put x.1;
      get = λ l at. (a.get l at, b.get l (at + a.size));
    }

module _ {A : Type 0} (a : Codec A) where
  -- what stands at i, or past the end what no octets are read as
  abbrev pub element : List A → ℕ → A
  element xs i = get_or xs i (a.get [] 0)

  unfoldable pub put_array : ℕ → List A → List ℕ
  put_array zero xs = []
  put_array (suc n) xs = a.put (element xs 0) ++ put_array n (drop 1 xs)

  unfoldable pub get_array : ℕ → List ℕ → ℕ → List A
  get_array zero l at = []
  get_array (suc n) l at = a.get l at ∷ get_array n l (at + a.size)

  abbrev pub array : ℕ → Codec (List A)
  array n = record { size = n * a.size; put = put_array n; get = get_array n }

  -- 1 and the value, or zeros
  unfoldable pub put_option : Option A → List ℕ
  put_option none = put_octet 0 ++ replicate a.size 0
  put_option (some x) = put_octet 1 ++ a.put x

  unfoldable pub get_option : List ℕ → ℕ → Option A
  get_option l at = cond (is_one (get_or l at 0)) (some (a.get l (at + 1))) none

  abbrev pub option : Codec (Option A)
  option = record { size = 1 + a.size; put = put_option; get = get_option }

  -- n values, with zeros for those that the list has not
  unfoldable pub put_up_to : ℕ → List A → List ℕ
  put_up_to zero xs = []
  put_up_to (suc n) [] = replicate a.size 0 ++ put_up_to n []
  put_up_to (suc n) (x ∷ xs) = a.put x ++ put_up_to n xs

  -- how many they are, and the values
  abbrev pub listed : ℕ → Codec (List A)
  listed n = record { size = 1 + n * a.size; put = λ xs. put_octet (length xs) ++ put_up_to n xs; get = λ l at. take (get_or l at 0) (get_array n l (at + 1)) }

-- ---- the reading that refuses

-- the value that the list l is written for, where there is one within the conditions
unfoldable pub decode : {A : Type 0} → Codec A → (A → Bool) → List ℕ → Option A
decode a within l = cond (same (a.put (a.get l 0)) l && within (a.get l 0)) (some (a.get l 0)) none

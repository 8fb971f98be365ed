-- UTF-8 without NUL: RFC 4616 section 2's SAFE, whose octets are RFC 3629 section 4's. The grammar, and a test for it that goes from octet to octet;
-- they agree (`safe-grammar`, `grammar-safe`, proofs/Grammar.antt).
use Rattle.std.specs.Prelude.{Bool, false, cond, ◌&&◌, List, [], ◌∷◌, ◌++◌, ℕ, ◌-◌, ◌≤◌, leb, eqb, Option, Some, None}
use Rattle.plain.specs.declared.utf8.Need.{Need}

-- ---- the grammar

abbrev pub In : ℕ → ℕ → ℕ → Type 0
In lo hi x = (lo ≤ x) × (x ≤ hi)

-- UTF0 = %x80-BF
abbrev pub Tail : ℕ → Type 0
Tail x = In 0x80 0xBF x

-- SAFE = UTF1 / UTF2 / UTF3 / UTF4: a character but NUL, in UTF-8
pub data Safe : List ℕ → Type 0 where
  -- UTF1 = %x01-7F
  utf1 : {a : ℕ} → In 0x01 0x7F a → Safe (a ∷ [])
  -- UTF2 = %xC2-DF UTF0
  utf2 : {a b : ℕ} → In 0xC2 0xDF a → Tail b → Safe (a ∷ b ∷ [])
  -- UTF3 = %xE0 %xA0-BF UTF0 / %xE1-EC 2(UTF0) / %xED %x80-9F UTF0 / %xEE-EF 2(UTF0)
  utf3_E0 : {a b c : ℕ} → In 0xE0 0xE0 a → In 0xA0 0xBF b → Tail c → Safe (a ∷ b ∷ c ∷ [])
  utf3_E1 : {a b c : ℕ} → In 0xE1 0xEC a → Tail b → Tail c → Safe (a ∷ b ∷ c ∷ [])
  utf3_ED : {a b c : ℕ} → In 0xED 0xED a → In 0x80 0x9F b → Tail c → Safe (a ∷ b ∷ c ∷ [])
  utf3_EE : {a b c : ℕ} → In 0xEE 0xEF a → Tail b → Tail c → Safe (a ∷ b ∷ c ∷ [])
  -- UTF4 = %xF0 %x90-BF 2(UTF0) / %xF1-F3 3(UTF0) / %xF4 %x80-8F 2(UTF0)
  utf4_F0 : {a b c d : ℕ} → In 0xF0 0xF0 a → In 0x90 0xBF b → Tail c → Tail d → Safe (a ∷ b ∷ c ∷ d ∷ [])
  utf4_F1 : {a b c d : ℕ} → In 0xF1 0xF3 a → Tail b → Tail c → Tail d → Safe (a ∷ b ∷ c ∷ d ∷ [])
  utf4_F4 : {a b c d : ℕ} → In 0xF4 0xF4 a → In 0x80 0x8F b → Tail c → Tail d → Safe (a ∷ b ∷ c ∷ d ∷ [])

-- *SAFE
pub data Safes : List ℕ → Type 0 where
  none : Safes []
  more : {c l : List ℕ} → Safe c → Safes l → Safes (c ++ l)

-- ---- the test

abbrev pub within : ℕ → ℕ → ℕ → Bool
within lo hi x = leb lo x && leb x hi

-- what must follow: so many octets, the next of them from lo to hi and the others from 80 to BF; with no more a character may begin
abbrev pub need : ℕ → ℕ → ℕ → Need
need k lo hi = record { more = k; lo = lo; hi = hi }

abbrev pub tails : ℕ → Need
tails k = need k 0x80 0xBF

-- after the first octet of a character: the rows of UTF1 to UTF4; no character begins with another
unfoldable pub lead : ℕ → Option Need
lead x =
    cond (within 0x01 0x7F x) (Some (tails 0))
    (cond (within 0xC2 0xDF x) (Some (tails 1))
    (cond (within 0xE0 0xE0 x) (Some (need 2 0xA0 0xBF))
    (cond (within 0xE1 0xEC x) (Some (tails 2))
    (cond (within 0xED 0xED x) (Some (need 2 0x80 0x9F))
    (cond (within 0xEE 0xEF x) (Some (tails 2))
    (cond (within 0xF0 0xF0 x) (Some (need 3 0x90 0xBF))
    (cond (within 0xF1 0xF3 x) (Some (tails 3))
    (cond (within 0xF4 0xF4 x) (Some (need 3 0x80 0x8F))
    None))))))))

-- after one octet more, which may be none that can follow
abbrev pub follow : Need → ℕ → Option Need
follow n x = cond (eqb n.more 0) (lead x) (cond (within n.lo n.hi x) (Some (tails (n.more - 1))) None)

-- octets that may follow, to the end of a character
unfoldable pub safe_from : Option Need → List ℕ → Bool
safe_from None l = false
safe_from (Some n) [] = eqb n.more 0
safe_from (Some n) (x ∷ l) = safe_from (follow n x) l

abbrev pub safe : List ℕ → Bool
safe l = safe_from (Some (tails 0)) l

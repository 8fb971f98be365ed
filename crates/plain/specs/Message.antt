-- A message of the mechanism PLAIN: three fields with a NUL between each two (RFC 4616 section 2; M-100 of document 02).
use Rattle.std.specs.Prelude.{◌≡◌, Bool, false, cond, not, ◌&&◌, List, ◌∷◌, ◌++◌, ℕ, leb, length, Option, Some, None, Result, Ok, Err}
use Rattle.octets.specs.Answers as Answers
use Rattle.octets.specs.Lists.{is_empty, holds, before, after}
use Rattle.base64text.specs.Base64 as Base64
use Rattle.plain.specs.declared.Lengths.{Lengths}
use Rattle.plain.specs.declared.WriteError.{WriteError}
use Rattle.plain.specs.declared.WriteError.TheVariants.{Unfit, Short}
use Rattle.plain.specs.Utf8.{Safes, safe}

-- message = [authzid] UTF8NUL authcid UTF8NUL passwd
abbrev pub joined : List ℕ → List ℕ → List ℕ → List ℕ
joined a c p = a ++ (0 ∷ (c ++ (0 ∷ p)))

-- ---- the grammar: authzid = 1*SAFE, authcid = 1*SAFE, passwd = 1*SAFE; that authzid may be left out makes it *SAFE

pub record Message (a c p : List ℕ) : Type 0 where
  pub authzid : Safes a
  pub authcid : Safes c
  pub named : is_empty c ≡ false
  pub password : Safes p
  pub secret : is_empty p ≡ false

-- ---- the same as a test of three fields, and of a message

abbrev pub fit : List ℕ → List ℕ → List ℕ → Bool
fit a c p = safe a && (safe c && not (is_empty c)) && (safe p && not (is_empty p))

-- the authorization identity stands before the first NUL, the authentication identity before the second, and the rest is the password
abbrev pub authzid_in : List ℕ → List ℕ
authzid_in m = before 0 m

abbrev pub authcid_in : List ℕ → List ℕ
authcid_in m = before 0 (after 0 m)

abbrev pub password_in : List ℕ → List ℕ
password_in m = after 0 (after 0 m)

-- there are two NUL, and the fields make a message; a third NUL would be in the password, and no safe field holds one
unfoldable pub well_formed : List ℕ → Bool
well_formed m = holds 0 m && holds 0 (after 0 m) && fit (authzid_in m) (authcid_in m) (password_in m)

-- how many octets each of the three has
abbrev pub lengths : ℕ → ℕ → ℕ → Lengths
lengths a c p = record { authzid = a; authcid = c; password = p }

unfoldable pub fields : List ℕ → Option Lengths
fields m = cond (well_formed m) (Some (lengths (length (authzid_in m)) (length (authcid_in m)) (length (password_in m)))) None

-- of a response in base64
abbrev pub measured : List ℕ → Option Lengths
measured t = fields (Base64.octets t)

-- ---- the writer: refused where the fields make no message (21), then where the buffer is shorter than it (1); m: the buffer's length

unfoldable pub writing : List ℕ → List ℕ → List ℕ → ℕ → Result ℕ WriteError
writing a c p m = cond (fit a c p) (cond (leb (length (joined a c p)) m) (Ok (length (joined a c p))) (Err Short)) (Err Unfit)

-- b: the buffer as it was lent
unfoldable pub written_into : List ℕ → List ℕ → List ℕ → List ℕ → List ℕ
written_into a c p b = cond (fit a c p) (Answers.written b 0 (joined a c p)) b

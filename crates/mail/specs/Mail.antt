-- The MAIL line (document 01, "Base64, xtext and MAIL"; RFC 4954 section 5; RFC 4405 section 3).
use Rattle.std.specs.Prelude.{Bool, cond, ◌&&◌, ◌||◌, List, [], ◌∷◌, ℕ, suc, ◌+◌, ◌-◌, leb, eqb, length, get_or, take, drop, Option, Some, None}
use Rattle.octets.specs.Ascii.{ascii, capitals}
pub use Rattle.octets.specs.Ascii.{space}
use Rattle.octets.specs.Lists.{is_empty, holds, every, same, after}
use Rattle.xtext.specs.Xtext
use Rattle.mail.specs.Parameter.{equals, named, good, null, AUTH, SUBMITTER}
use Rattle.mail.specs.declared.Mail.{Mail}
use Rattle.mail.specs.declared.Mail.TheVariants.{Absent, Null, Address}

-- "`MAIL FROM:` (case ignored), "<""
unfoldable pub opens : List ℕ → Bool
opens l = same (capitals (take 11 l)) (ascii "MAIL FROM:<")

-- "octets to the first ">"": whether there is one, and what follows it
abbrev pub greater : ℕ
greater = 0x3E

unfoldable pub path_ends : List ℕ → Bool
path_ends l = holds greater (drop 11 l)

unfoldable pub rest : List ℕ → List ℕ
rest l = after greater (drop 11 l)

-- "then parameters, each after one space": what is cut at each space
abbrev pub onto : ℕ → List (List ℕ) → List (List ℕ)
onto x [] = (x ∷ []) ∷ []
onto x (w ∷ ws) = (x ∷ w) ∷ ws

unfoldable pub words : List ℕ → List (List ℕ)
words [] = [] ∷ []
words (x ∷ l) = cond (eqb x space) ([] ∷ words l) (onto x (words l))

abbrev pub spaced : List ℕ → Bool
spaced r = is_empty r || eqb (get_or r 0 0) space

abbrev pub parameters : List ℕ → List (List ℕ)
parameters r = cond (is_empty r) [] (words (drop 1 r))

-- "AUTH and SUBMITTER at most once each"
unfoldable pub count : List ℕ → List (List ℕ) → ℕ
count k [] = 0
count k (w ∷ ws) = cond (named k w) (suc (count k ws)) (count k ws)

unfoldable pub all_good : List (List ℕ) → Bool
all_good ws = every good ws && leb (count AUTH ws) 1 && leb (count SUBMITTER ws) 1

-- what AUTH says, of parameters the first of which stands at index i: nothing, "<>", or an address with where its xtext stands
-- and how many octets it decodes to
unfoldable pub said : ℕ → List ℕ → Mail
said from v = cond (null v) Null (Address from (from + length v) (length (Xtext.octets v)))

unfoldable pub identity : ℕ → List (List ℕ) → Mail
identity i [] = Absent
identity i (w ∷ ws) = cond (named AUTH w) (said (i + length AUTH + 1) (after equals w)) (identity (i + length w + 1) ws)

-- the whole line
unfoldable pub well_formed : List ℕ → Bool
well_formed l = opens l && path_ends l && spaced (rest l) && all_good (parameters (rest l))

-- what it says, where it begins at an index of a line and goes on to the line's end; and where it is the whole line. None: it is not of the form
unfoldable pub mail_at : List ℕ → ℕ → Option Mail
mail_at l at = cond (well_formed (drop at l)) (Some (identity (length l - length (rest (drop at l)) + 1) (parameters (rest (drop at l))))) None

unfoldable pub mail : List ℕ → Option Mail
mail l = mail_at l 0

-- the xtext of the address, which a line's reading points to: the part of the line from one index up to another
abbrev pub address_text : Option Mail → List ℕ → List ℕ
address_text None l = []
address_text (Some Absent) l = []
address_text (Some Null) l = []
address_text (Some (Address from to n)) l = drop from (take to l)

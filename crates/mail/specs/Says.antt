-- What a MAIL line's AUTH says, with no index in it (document 01, "Base64, xtext and MAIL"; RFC 4954 section 5): AUTH's value is xtext, and decoded
-- it is "<>" or an address.
use Rattle.std.specs.Prelude.{cond, List, [], ◌∷◌, ℕ, Option, Some, None}
use Rattle.octets.specs.Lists.{after}
use Rattle.xtext.specs.Xtext
use Rattle.mail.specs.Parameter as Parameter
use Rattle.mail.specs.Parameter.{equals, named, AUTH}
use Rattle.mail.specs.Mail.{rest, parameters, well_formed, address_text}
use Rattle.mail.specs.declared.Mail.{Mail}
use Rattle.mail.specs.declared.Mail.TheVariants.{Absent, Null, Address}

-- the line is not of the form; it has no AUTH; AUTH is "<>"; AUTH is an address of these octets
pub data Says : Type 0 where
  malformed : Says
  absent : Says
  null : Says
  address : List ℕ → Says

-- the value of an AUTH parameter
abbrev pub value_says : List ℕ → Says
value_says v = cond (Parameter.null v) null (address (Xtext.octets v))

-- the first parameter whose keyword is AUTH, letters of either case; no other parameter counts
unfoldable pub auth_says : List (List ℕ) → Says
auth_says [] = absent
auth_says (w ∷ ws) = cond (named AUTH w) (value_says (after equals w)) (auth_says ws)

abbrev pub line_says : List ℕ → Says
line_says l = cond (well_formed l) (auth_says (parameters (rest l))) malformed

-- what a reading points to in the line l that was read
abbrev pub points_to : Option Mail → List ℕ → Says
points_to None l = malformed
points_to (Some Absent) l = absent
points_to (Some Null) l = null
points_to (Some (Address from to n)) l = address (Xtext.octets (address_text (Some (Address from to n)) l))

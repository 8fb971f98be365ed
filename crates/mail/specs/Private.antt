-- What only the promises of private functions cite: a line read from left to right, one octet and one parameter after the other.
use Rattle.std.specs.Prelude.{Bool, true, false, cond, ◌&&◌, List, [], ◌∷◌, ℕ, ◌+◌, eqb, length, get_or, drop, Option, Some, None, option_map, option_and_then}
use Rattle.octets.specs.Lists.{before, after}
use Rattle.octets.specs.declared.reader.Reading.{Reading}
use Rattle.mail.specs.Parameter.{equals, value, named, good, AUTH, SUBMITTER, auth_value}
use Rattle.mail.specs.Mail.{space, spaced, parameters, said}
use Rattle.mail.specs.declared.Mail.{Mail}
use Rattle.mail.specs.declared.address.State.{State}
use Rattle.mail.specs.declared.parameter.Parameter.{Parameter}

-- what the octets read so far are
abbrev pub passed : ℕ → State
passed x = cond (eqb x 0x40) State.At State.Inner

abbrev pub step : State → ℕ → State
step State.Start x = cond (eqb x 0x3C) State.Less State.Inner
step State.Less x = cond (eqb x 0x3E) State.Null (passed x)
step State.Null x = passed x
step State.Inner x = passed x
step State.At x = State.Address
step State.Address x = State.Address

unfoldable pub run : State → List ℕ → State
run s [] = s
run s (x ∷ l) = run (step s x) l

-- something read, and the index after it
abbrev pub ends_at : {A : Type 0} → A → ℕ → Reading A
ends_at x to = record { answer = x; at = to }

abbrev pub at_end : State → ℕ → ℕ → ℕ → Option (Reading Mail)
at_end State.Null from to n = Some (ends_at Mail.Null to)
at_end State.Address from to n = Some (ends_at (Mail.Address from to n) to)
at_end _ from to n = None

-- what the value v stands for, which begins at an index
unfoldable pub judged : ℕ → List ℕ → Option (Reading Mail)
judged from v = cond (auth_value v) (Some (ends_at (said from v) (from + length v))) None

-- what stands from index k on, after a keyword: whether it begins with "=", and its value
abbrev pub marked : List ℕ → Bool
marked r = eqb (get_or r 0 0) equals

abbrev pub value_of : List ℕ → List ℕ
value_of r = before space (drop 1 r)

-- after AUTH and SUBMITTER, and as each of the two; SUBMITTER may not be "<>"
unfoldable pub identity_from : ℕ → List ℕ → Option (Reading Mail)
identity_from k r = cond (marked r) (judged (k + 1) (value_of r)) None

unfoldable pub auth_from : ℕ → List ℕ → Option (Reading Parameter)
auth_from k r = option_map (λ v. ends_at (Parameter.Auth v.answer) v.at) (identity_from k r)

abbrev pub submitted : Mail → ℕ → Option (Reading Parameter)
submitted Mail.Null to = None
submitted _ to = Some (ends_at Parameter.Submitter to)

unfoldable pub submitter_from : ℕ → List ℕ → Option (Reading Parameter)
submitter_from k r = option_and_then (λ v. submitted v.answer v.at) (identity_from k r)

-- after any other keyword
unfoldable pub other_from : ℕ → List ℕ → Option (Reading Parameter)
other_from k r =
    cond (spaced r) (Some (ends_at Parameter.Other k)) (cond (marked r && value (value_of r)) (Some (ends_at Parameter.Other (k + 1 + length (value_of r)))) None)

-- the word w at index i, which is to be a parameter
unfoldable pub found : ℕ → List ℕ → Parameter
found i w = cond (named AUTH w) (Parameter.Auth (said (i + length AUTH + 1) (after equals w))) (cond (named SUBMITTER w) Parameter.Submitter Parameter.Other)

unfoldable pub read : ℕ → List ℕ → Option (Reading Parameter)
read i w = cond (good w) (Some (ends_at (found i w) (i + length w))) None

abbrev pub is_absent : Mail → Bool
is_absent Mail.Absent = true
is_absent _ = false

-- after what AUTH said and whether SUBMITTER was met: what is read on with a parameter, and nothing where it may not come
abbrev pub onward : Mail → Bool → Parameter → (Mail → Bool → Option Mail) → Option Mail
onward a s (Parameter.Auth m) k = cond (is_absent a) (k m s) None
onward a s Parameter.Submitter k = cond s None (k a true)
onward a s Parameter.Other k = k a s

-- all parameters, the first of which stands at index i
unfoldable pub read_words : Mail → Bool → ℕ → List (List ℕ) → Option Mail
read_words a s i [] = Some a
read_words a s i (w ∷ ws) = option_and_then (λ p. onward a s p.answer (λ b t. read_words b t (p.at + 1) ws)) (read i w)

-- what stands after the path, from index i on
unfoldable pub read_parameters : Mail → Bool → ℕ → List ℕ → Option Mail
read_parameters a s i r = cond (spaced r) (read_words a s (i + 1) (parameters r)) None

-- A list of calls as it was made, and the lists about which names and tickets are claimed: "Statements about a sequence of calls hold where each
-- call is lent the desk that the one before left, written by nobody else meanwhile; those about names borne or tickets issued, where the
-- first call is make and no later one is."
use Rattle.std.specs.Prelude.{◌≡◌, Bool, true, false, List, [], ◌∷◌, ℕ}
use Rattle.octets.specs.Lists.{every}
use Rattle.server.specs.Requests as Requests
use Rattle.server.specs.Requests.{Sized}
use Rattle.image.specs.Image.{Image}
use Rattle.calls.specs.Call.{Call, make, add, opens, line, verdict, mail_ended, who, close, request}
use Rattle.calls.specs.Step.{step, left}
use Rattle.claims.specs.Told.{Made, made, seen, told}

-- the calls of a list on an image with what each gave, the last one first, after those of h
unfoldable pub history : List Made → Image → List Call → List Made
history h i [] = h
history h i (c ∷ cs) = history (made (request c) (step i c).result ∷ h) (step i c).image cs

abbrev pub is_no_make : Call → Bool
is_no_make (make c t) = false
is_no_make (add n f p) = true
is_no_make (opens p b) = true
is_no_make (line n l r a) = true
is_no_make (verdict t v d r a) = true
is_no_make (mail_ended n) = true
is_no_make (who n b) = true
is_no_make (close n) = true

abbrev pub NoMake : List Call → Type 0
NoMake cs = every is_no_make cs ≡ true

-- S of every list that begins with a make and has no later one: of what was made, and of the image that the list leaves. The first image is of
-- whatever octets and length, so the make may be refused
abbrev pub OfEveryList : (List Made → Image → Type 0) → Type 0
OfEveryList S =
    (i : Image) (c t : ℕ) (cs : List Call) → Sized (Requests.make c t) → NoMake cs → S (history [] i (make c t ∷ cs)) (left i (make c t ∷ cs))

-- what is told of a list is so: how each connection stands, told from the calls, is how the image that they leave has it. This is of every image
-- and every list, makes and refused calls among them
abbrev pub AllSized : List Call → Type 0
AllSized [] = Unit {0}
AllSized (c ∷ cs) = Sized (request c) × AllSized cs

abbrev pub ToldStands : Type 0
ToldStands = (i : Image) (cs : List Call) → AllSized cs → (n : ℕ) → told i (history [] i cs) n ≡ seen (left i cs) n

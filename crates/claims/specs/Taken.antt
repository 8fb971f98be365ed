-- "An image is taken exactly when the desk writes it for some desk in which ..", and what a call leaves is taken by the next.
use Rattle.std.specs.Prelude.{◌≡◌, true, ◌↔◌}
use Rattle.std.proofs.Math.Option.{some}
use Rattle.server.specs.Outcome.{Result, gives}
use Rattle.server.specs.Requests.{Sized}
use Rattle.server.specs.Server.{Server}
use Rattle.server.specs.WellFormed.{well_formed}
use Rattle.image.specs.Image.{Image, image_of, taken}
use Rattle.calls.specs.Call.{Call, request}
use Rattle.calls.specs.Step.{outcome, step}

abbrev pub TakenExactly : Type 0
TakenExactly = (i : Image) (s : Server) → (taken i ≡ some s) ↔ ((i ≡ image_of s) × (well_formed s ≡ true))

-- the image that a call leaves, make on octets of any kind among them, is taken for the server that the call gives
abbrev pub GivenTaken : Type 0
GivenTaken = (i : Image) (c : Call) (r : Result) (s : Server) → Sized (request c) → outcome i c ≡ gives r s → taken (step i c).image ≡ some s

-- so an image that is taken stays taken
abbrev pub Taken : Image → Type 0
Taken i = (s : Server) × (taken i ≡ some s)

abbrev pub TakenStays : Type 0
TakenStays = (i : Image) (c : Call) → Sized (request c) → Taken i → Taken (step i c).image

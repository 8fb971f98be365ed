-- The image that a call leaves is taken. Assumes nothing.
use mathlib.Core.Path.{◌≡◌, ap, ◌∙◌}
use mathlib.Core.Option.{some}
use Rattle.server.specs.Outcome.{Result, Outcome, gives}
use Rattle.server.specs.Requests.{Sized}
use Rattle.server.specs.Server.{Server}
use Rattle.image.specs.Image.{Image, taken}
use Rattle.image.proofs.Taken.{taken-iff}
use Rattle.calls.specs.Call.{Call, request}
use Rattle.calls.specs.Step.{image_in, step}
use Rattle.claims.specs.Taken.{TakenExactly, GivenTaken, Taken, TakenStays}
use Rattle.claims.proofs.Steps.{Comes, refusal, move, comes, left-taken}

pub taken-exactly : TakenExactly
taken-exactly i s = taken-iff i s

given : (i : Image) (c : Call) → Sized (request c) → {o : Outcome} → Comes i (request c) o → (r : Result) (s : Server) → o ≡ gives r s → taken (image_in i o) ≡ some s
given i c k (refusal j) r s e = cc
given i c k (move t z a l f m) r s e = let g : z ≡ s = cc in left-taken i (request c) t z a k l m ∙ ap some g

pub given-taken : GivenTaken
unfolding step
given-taken i c r s k e = given i c k (comes i c k) r s e

pub taken-stays : TakenStays
unfolding step
taken-stays i c k t = go (comes i c k)
  where
    go : {o : Outcome} → Comes i (request c) o → Taken (image_in i o)
    go (refusal j) = t
    go (move s z a l e m) = (z, left-taken i (request c) s z a k l m)

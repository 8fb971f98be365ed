-- How a connection stands, told from the calls, is how the image that they leave has it. Assumes nothing.
use mathlib.Core.Path.{◌≡◌, refl, sym, ap, ◌∙◌, fun_ext}
use mathlib.Core.List.{List, [], ◌∷◌}
use Prim.Native.Nat.{ℕ}
use Rattle.session.specs.Standing.{Standing}
use Rattle.server.specs.Requests.{Sized}
use Rattle.image.specs.Image.{Image}
use Rattle.calls.specs.Call.{Call, request}
use Rattle.calls.specs.Step.{step, left}
use Rattle.claims.specs.History.{history, AllSized, ToldStands}
use Rattle.claims.specs.Told.{Made, made, made_tells, seen, told}
use Rattle.claims.proofs.Steps.{tracks}

-- one call more
pub told-on : (f : Image) (h : List Made) (i : Image) (c : Call) → Sized (request c) → told f h ≡ seen i → told f (made (request c) (step i c).result ∷ h) ≡ seen (step i c).image
unfolding told
told-on f h i c k e =
    fun_ext (λ n. ap (λ (u : ℕ → Standing). made_tells (made (request c) (step i c).result) n (u n)) e ∙ sym (tracks i c k n))

lists : (f : Image) (h : List Made) (i : Image) (cs : List Call) → AllSized cs → told f h ≡ seen i → told f (history h i cs) ≡ seen (left i cs)
unfolding history left
lists f h i [] k e = e
lists f h i (c ∷ cs) k e = lists f (made (request c) (step i c).result ∷ h) (step i c).image cs k.1 (told-on f h i c k.0 e)

pub told-stands : ToldStands
unfolding told
told-stands i cs k n = ap (λ (u : ℕ → Standing). u n) (lists i [] i cs k refl)

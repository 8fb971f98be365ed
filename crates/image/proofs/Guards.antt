-- What a guard lets through: an index of a whole image. docs/PORT.md gives these laws; no proof cites them now. Assumes nothing.
use mathlib.Core.Path.{◌≡◌, sym, ap, ◌∙◌}
use mathlib.Core.Bool.{Bool, true, false, cond}
use Prim.Native.Nat.{ℕ, ◌<◌}
use lib.Dec.{ltb}
use borrow.Author.Tests.{eqb-true, ltb-true}
use lib.ListN.{length}
use Rattle.octets.proofs.Cases.{both}
use Rattle.server.specs.Limits.{most_connections, most_mechanisms}
use Rattle.image.specs.Sizes.{image_size}
use Rattle.image.specs.Image.{Image}
use Rattle.image.specs.InPlace.{is_whole, has_slot, has_record}

-- b is the guard
module _ (l : Image) (i : ℕ) (b : Bool) where
  pub slot-within : b ≡ has_slot l i → b ≡ true → (length l ≡ image_size) × (i < most_connections)
  unfolding has_slot
  slot-within e h =
      let k = both (is_whole l) (ltb i most_connections) (sym e ∙ h) in
      (eqb-true (length l) image_size k.0, ltb-true i most_connections k.1)

  pub place-within : b ≡ has_record l i → b ≡ true → (length l ≡ image_size) × (i < most_mechanisms)
  unfolding has_record
  place-within e h =
      let k = both (is_whole l) (ltb i most_mechanisms) (sym e ∙ h) in
      (eqb-true (length l) image_size k.0, ltb-true i most_mechanisms k.1)

-- what a guard t refuses and what it lets through
module _ {A : Type 0} (b t : Bool) (x y : A) (e : b ≡ t) where
  pub refused : b ≡ false → y ≡ cond t x y
  refused h = ap (λ (u : Bool). cond u x y) (sym (sym e ∙ h))

  pub admitted : b ≡ true → x ≡ cond t x y
  admitted h = ap (λ (u : Bool). cond u x y) (sym (sym e ∙ h))

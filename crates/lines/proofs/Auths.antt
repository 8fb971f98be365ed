-- The parts of reading an AUTH line. Assumes nothing.
use mathlib.Core.Path.{◌≡◌, refl, sym, ◌∙◌, ap}
use mathlib.Core.Bool.{◌&&◌, and-true, and-false}
use mathlib.Core.List.{List, [], ◌∷◌}
use Prim.Native.Nat.{ℕ, suc, ◌+◌, ◌-◌}
use native.Mathlib.Omega.{arith}
use borrow.Author.Tests.{ne_eqb}
use lib.Dec.{eqb}
use Rattle.std.proofs.lemmas.Bool.Decides.{nat_tests}
use Rattle.std.proofs.lemmas.List.{take_rest}
use lib.ListN.{length, get_or, take, drop, length-drop}
use lib.Seq.{slice, drop-drop}
use Rattle.octets.specs.Lists.{same, before, after}
use Rattle.octets.proofs.Lists.{cut}
use Rattle.octets.proofs.Words.{before-take, after-drop, holds-before}
use Rattle.lines.proofs.Lists.{empty-length}
use Rattle.lines.specs.Verb.{space}

-- one octet, and none, as the code tells them
pub same-one : (u : List ℕ) (x : ℕ) → same u (x ∷ []) ≡ (eqb (length u) 1 && eqb (get_or u 0 0) x)
unfolding same
same-one [] x = refl
same-one (y ∷ []) x = and-true (eqb y x)
same-one (y ∷ z ∷ u) x = rw (ne_eqb (length (y ∷ z ∷ u)) 1 (λ e. omega arith)) (and-false (eqb y x))

pub ruleset texts = (same-one, empty-length, take_rest, nat_tests)

-- the mechanism, which ends at the first space or the line's end, and what stands after that space
module _ (l : List ℕ) (to : ℕ) (e : to ≡ 5 + length (before space (drop 5 l))) where
  pub name : slice 5 to l ≡ before space (drop 5 l)
  name =
      let z : to - 5 ≡ length (before space (drop 5 l)) = omega arith in
      sym (cut 5 to l) ∙ ap (λ (n : ℕ). take n (drop 5 l)) z ∙ sym (before-take space (drop 5 l))

  pub rest : after space (drop 5 l) ≡ drop (to + 1) l
  rest =
      let z : 5 + suc (length (before space (drop 5 l))) ≡ to + 1 = omega arith in
      after-drop space (drop 5 l) ∙ drop-drop (suc (length (before space (drop 5 l)))) 5 l ∙ ap (λ (n : ℕ). drop n l) z

pub ruleset names = (name, rest, holds-before, length-drop, nat_tests)

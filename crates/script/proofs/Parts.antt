-- Where the parts of a script line stand. Assumes nothing.
use mathlib.Core.Path.{◌≡◌, sym, ◌∙◌}
use mathlib.Core.Bool.{Bool, true, false, cond}
use mathlib.Core.List.{List}
use Prim.Native.Nat.{ℕ, suc, ◌+◌, ◌-◌, ◌≤◌}
use native.Mathlib.Numerals.{add-one}
use native.Mathlib.Omega.{arith}
use lib.ListN.{length, take, drop, length-drop}
use lib.Seq.{drop-drop, take-length, slice}
use Rattle.std.specs.Prelude.{None, option_map, option_and_then}
use Rattle.octets.specs.Ascii.{space}
use Rattle.octets.specs.Lists.{before, after}
use Rattle.octets.proofs.Lists.{cut, to_end}
use Rattle.octets.proofs.Words.{after-drop, before-take, length_before}
use Rattle.script.specs.declared.kept.Rest.{Rest}
use Rattle.script.specs.declared.word.Word.{Word}
use Rattle.script.specs.Command.{digits_of, fitting, made, arguments, call}
use Rattle.script.specs.Number.{number}
use Rattle.script.specs.Word.{word_of, takes_text}

-- the digits are what the arguments begin with
digits-take : (b : Bool) (l : List ℕ) → cond b (before space l) l ≡ take (length (cond b (before space l) l)) l
digits-take true l = before-take space l
digits-take false l = sym (take-length l)

digits-most : (b : Bool) (l : List ℕ) → length (cond b (before space l) l) ≤ length l
digits-most b l = grind (arith, length_before)

-- and the text is what stands after them and a space
text_at : (t : List ℕ) (at : ℕ) → drop (at + length (before space (drop at t)) + 1) t ≡ after space (drop at t)
text_at t at =
    let z : at + length (before space (drop at t)) + 1 ≡ at + suc (length (before space (drop at t))) = omega arith in
    rw z (sym (drop-drop (suc (length (before space (drop at t)))) at t) ∙ sym (after-drop space (drop at t)))

fitting-at : (w : Word) (t : List ℕ) (at : ℕ) (r : Rest) → fitting w (drop (at + length (digits_of w (drop at t)) + 1) t) r ≡ fitting w (after space (drop at t)) r
fitting-at w t at r = grind (arith, text_at)

-- the arguments of a word
module _ (w : Word) (t : List ℕ) (at : ℕ) where
  pub ends-within : at + length (digits_of w (drop at t)) ≤ at + (length t - at)
  ends-within = omega (arith, digits-most (takes_text w) (drop at t), length-drop at t)

  digits-at : slice at (at + length (digits_of w (drop at t))) t ≡ digits_of w (drop at t)
  digits-at =
      let z : at + length (digits_of w (drop at t)) - at ≡ length (digits_of w (drop at t)) = omega arith in
      sym (cut at (at + length (digits_of w (drop at t))) t) ∙ rw z (sym (digits-take (takes_text w) (drop at t)))

  pub arguments-at : (r : Rest) → arguments w at (drop at t) r
      ≡ cond (fitting w (slice (at + length (digits_of w (drop at t)) + 1) (length t) t) r)
      (option_map (λ (n : ℕ). made w n (at + length (digits_of w (drop at t)) + 1)) (number (slice at (at + length (digits_of w (drop at t))) t)))
      None
  unfolding arguments
  arguments-at r = rw (to_end (at + length (digits_of w (drop at t)) + 1) t, digits-at, fitting-at w t at r)

-- a word and its arguments
pub call-at : (t : List ℕ) (r : Rest) → call t r
    ≡ option_and_then (λ (w : Word). arguments w (length (before space t) + 1) (drop (length (before space t) + 1) t) r) (word_of (slice 0 (length (before space t)) t))
unfolding call
call-at t r = rw (← (before-take space t), after-drop space t, add-one)

pub ruleset parts = (ends-within, arguments-at, call-at, length_before)

-- The verb is told by a line's first five octets: four of a word, and a space or the line's end. Assumes nothing.
use Rattle.std.proofs.Common.{◌≡◌, ℕ, ◌<◌, ◌≤◌, Bool, true, false, cond, ◌⊎◌, ◌&&◌, ◌||◌, List, [], ◌∷◌, length, get_or, map, take, drop, eqb, arith, refl, sym, ap, ◌∙◌}
use Rattle.std.specs.Char.{to_ascii_uppercase}
use Rattle.std.proofs.lemmas.Bool.Decides.{nat_tests}
use Rattle.std.proofs.lemmas.List.{length-map}
use borrow.Author.Tests.{ne_eqb, eqb-true, eqb-false}
use Rattle.octets.specs.Ascii.{capital, capitals}
use Rattle.octets.specs.Lists.{same, before, holds}
use Rattle.octets.proofs.Chains.{capitals_is}
use Rattle.octets.proofs.Cases.{neither}
use Rattle.octets.proofs.Words.{same-lengths, length_before}
use Rattle.lines.specs.Verb.{space, verb, verb_of}
use Rattle.lines.specs.declared.verb.Verb.TheVariants.{Other}

-- four octets as the code compares them with a word
same-four : (u : List ℕ) (a b c d : ℕ) → length u ≡ 4
    → same u (a ∷ b ∷ c ∷ d ∷ []) ≡ (eqb (get_or u 0 0) a && (eqb (get_or u 1 0) b && (eqb (get_or u 2 0) c && (eqb (get_or u 3 0) d && true))))
unfolding same
same-four (p ∷ q ∷ r ∷ s ∷ []) a b c d h = refl
same-four _ a b c d h = absurd (omega arith)

abbrev upper : List ℕ → ℕ → ℕ
upper w i = get_or (map to_ascii_uppercase w) i 0

pub same-word : (w : List ℕ) (a b c d : ℕ) → length w ≡ 4
    → same (capitals w) (a ∷ b ∷ c ∷ d ∷ []) ≡ (eqb (upper w 0) a && (eqb (upper w 1) b && (eqb (upper w 2) c && (eqb (upper w 3) d && true))))
same-word w a b c d h = rw (capitals_is w) (same-four (map to_ascii_uppercase w) a b c d (length-map w to_ascii_uppercase ∙ h))

pub ruleset words = (ne_eqb, same-word)

-- where a space or the line's end comes after as many octets as a word has, the verb is that word exactly where these octets are; a space stands in no word
front : (l w : List ℕ) → holds space w ≡ false → before space (drop (length w) l) ≡ [] → same (capitals (before space l)) w ≡ same (capitals (take (length w) l)) w
unfolding before same capital
front [] [] h e = refl
front [] (y ∷ w) h e = refl
front (x ∷ l) [] h e = rw e refl
front (x ∷ l) (y ∷ w) h e = go (eqb x space) refl (front l w (neither (eqb y space) (holds space w) h).1 e)
  where
    go : (t : Bool) → eqb x space ≡ t → same (capitals (before space l)) w ≡ same (capitals (take (length w) l)) w
        → same (capitals (cond t [] (x ∷ before space l))) (y ∷ w) ≡ (eqb (capital x) y && same (capitals (take (length w) l)) w)
    go true f k = rw (eqb-true x space f, ne_eqb space y (λ g. eqb-false y space (neither (eqb y space) (holds space w) h).0 (sym g)))
    go false f k = ap (λ (b : Bool). eqb (capital x) y && b) k

fourth : (l : List ℕ) → before space (drop 4 l) ≡ [] → verb_of (verb l) ≡ verb_of (capitals (take 4 l))
unfolding verb verb_of
fourth l e = grind (arith, front)

-- a line whose verb has four octets, and any other
pub four : (l : List ℕ) → 4 ≤ length l → (length l < 5) ⊎ (get_or l 4 0 ≡ space)
    → verb_of (capital (get_or l 0 0) ∷ capital (get_or l 1 0) ∷ capital (get_or l 2 0) ∷ capital (get_or l 3 0) ∷ []) ≡ verb_of (verb l)
unfolding before
four (a ∷ b ∷ c ∷ d ∷ []) h k = sym (fourth (a ∷ b ∷ c ∷ d ∷ []) refl)
four (a ∷ b ∷ c ∷ d ∷ x ∷ l) h k = sym (fourth (a ∷ b ∷ c ∷ d ∷ x ∷ l) (grind (arith, nat_tests)))
four _ h k = absurd (omega arith)

other : (l : List ℕ) → (length (before space l) ≡ 4 → ⊥) → verb_of (verb l) ≡ Other
unfolding verb verb_of
other l h = grind (arith, same-lengths, length-map)

pub shorter : (l : List ℕ) → length l < 4 → verb_of (verb l) ≡ Other
shorter l h = other l (λ e. omega (arith, length_before space l))

fifth : (a b c d x : ℕ) (l : List ℕ) → (x ≡ space → ⊥) → length (before space (a ∷ b ∷ c ∷ d ∷ x ∷ l)) ≡ 4 → ⊥
unfolding before
fifth a b c d x l k = grind (arith, nat_tests)

pub longer : (l : List ℕ) → 5 ≤ length l → (get_or l 4 0 ≡ space → ⊥) → verb_of (verb l) ≡ Other
longer (a ∷ b ∷ c ∷ d ∷ x ∷ l) h k = other (a ∷ b ∷ c ∷ d ∷ x ∷ l) (fifth a b c d x l k)
longer _ h k = absurd (omega arith)

pub ruleset verbs = (shorter, longer)

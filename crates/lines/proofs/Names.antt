-- Mechanism names in twenty octets. Assumes nothing.
use mathlib.Core.Path.{◌≡◌, refl, sym, ◌∙◌, ap}
use mathlib.Core.Bool.{Bool, true, false, cond, ◌&&◌, ◌||◌, or-false}
use native.Mathlib.Omega.{arith}
use lib.Dec.{leb}
use Rattle.std.proofs.lemmas.Bool.Decides.{nat_tests}
use mathlib.Core.List.{List, [], ◌∷◌, ◌++◌, map, map-append}
use Prim.Native.Nat.{ℕ}
use lib.ListN.{length, take, replicate, length-map}
use Rattle.std.proofs.lemmas.List.{take-map}
use Rattle.std.specs.Char.{to_ascii_uppercase}
use Rattle.octets.specs.Ascii.{capital, capitals}
use Rattle.octets.specs.Lists.{every, one_to, before, padded_to}
use Rattle.octets.proofs.Every.{unpadded}
use Rattle.octets.proofs.Padded.{length-padded}
use Rattle.lines.specs.Mechanism.{mech_char, mechanism, longest_mechanism, spelling, padded}
use Rattle.octets.proofs.Chains.{capitals_is}

-- names of the form are told apart by their twenty octets
pub padded-length : (m : List ℕ) → length (padded m) ≡ 20
unfolding padded
padded-length m = length-padded 20 m

read_back : (m : List ℕ) → mechanism m ≡ true → before 0 (padded m) ≡ m
unfolding padded
read_back m h = unpadded 20 mech_char m refl h

pub padded-same : (m n : List ℕ) → mechanism m ≡ true → mechanism n ≡ true → padded m ≡ padded n → m ≡ n
padded-same m n h k e = sym (read_back m h) ∙ ap (before 0) e ∙ read_back n k

-- the name that a text spells, made of the text in twenty octets
pub spelled : (t : List ℕ) → padded (capitals t) ≡ map to_ascii_uppercase (padded t)
unfolding padded padded_to capital
spelled t = rw (← (capitals_is (take 20 (t ++ replicate 20 0))), ← (take-map capital 20 (t ++ replicate 20 0)), map-append capital t (replicate 20 0))

-- where small letters are read as capitals, what may stand in a name and the small letters may stand in it
pub name-char : (x : ℕ) (b : Bool) → (mech_char x || (b && leb 97 x && leb x 122)) ≡ mech_char (cond b (capital x) x)
unfolding capital
name-char x true = grind (arith, nat_tests)
name-char x false = or-false (mech_char x)

-- a text spells a name if it is of the form with its small letters read as capitals
every-capitals : (l : List ℕ) → every (λ x. mech_char (capital x)) l ≡ every mech_char (capitals l)
unfolding every
every-capitals [] = refl
every-capitals (x ∷ l) = ap (λ (b : Bool). mech_char (capital x) && b) (every-capitals l)

pub formed-spelling : (l : List ℕ) → one_to longest_mechanism (λ x. mech_char (capital x)) l ≡ spelling l
unfolding one_to
formed-spelling l = rw (length-map l capital, every-capitals l)

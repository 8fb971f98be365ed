-- The parameters of a line, one after the other, each after a space. Assumes nothing.
use mathlib.Core.Path.{◌≡◌, refl, sym, ◌∙◌, ap}
use mathlib.Core.Bool.{Bool, true, false, cond}
use mathlib.Core.List.{List, [], ◌∷◌}
use Prim.Native.Nat.{ℕ, ◌+◌, ◌<◌, ◌≤◌}
use native.Mathlib.Numerals.{add-one}
use native.Mathlib.Omega.{arith}
use borrow.Author.Tests.{eq-eqb, ne_eqb}
use lib.Dec.{eqb}
use lib.ListN.{length, get_or, drop, drop_of_length-le}
use lib.Seq.{drop-cons, drop-drop}
use Rattle.octets.specs.Lists.{before}
use Rattle.mail.specs.Parameter.{good}
use Rattle.mail.specs.Mail.{space, spaced, onto, words, parameters}
use Rattle.mail.specs.Private.{ends_at, found, read, onward, read_words, read_parameters}
use Rattle.std.proofs.lemmas.Option.{cond_some}
use Rattle.std.specs.Prelude.{Option, Some, None, option_and_then}
use Rattle.mail.specs.declared.Mail.{Mail}
use Rattle.octets.specs.declared.reader.Reading.{Reading}
use Rattle.mail.specs.declared.parameter.Parameter.{Parameter}

-- the first word, and what stands after it
abbrev past : List ℕ → List ℕ
past m = drop (length (before space m)) m

onto-cons : (x : ℕ) (w : List ℕ) (ws v : List (List ℕ)) → v ≡ w ∷ ws → onto x v ≡ (x ∷ w) ∷ ws
onto-cons x w ws v e = rw e

words_are : (m : List ℕ) → words m ≡ before space m ∷ parameters (past m)
unfolding words before
words_are [] = refl
words_are (x ∷ m) = go (eqb x space) (words_are m)
  where
    go : (b : Bool) → words m ≡ before space m ∷ parameters (past m)
        → cond b ([] ∷ words m) (onto x (words m)) ≡ cond b [] (x ∷ before space m) ∷ parameters (drop (length (cond b [] (x ∷ before space m))) (x ∷ m))
    go true ih = refl
    go false ih = onto-cons x _ _ _ ih

spaced-past : (m : List ℕ) → spaced (past m) ≡ true
unfolding before
spaced-past [] = refl
spaced-past (x ∷ m) = go (eqb x space) refl (spaced-past m)
  where
    go : (b : Bool) → eqb x space ≡ b → spaced (past m) ≡ true → spaced (drop (length (cond b [] (x ∷ before space m))) (x ∷ m)) ≡ true
    go true e ih = e
    go false e ih = ih

-- a parameter that is read ends where the word does
read-ends : (i : ℕ) (w : List ℕ) (p : Reading Parameter) → read i w ≡ Some p → p.at ≡ i + length w
unfolding read
read-ends i w p e = sym (ap (λ (p : Reading Parameter). p.at) (cond_some (good w) (ends_at (found i w) (i + length w)) p e).1)

module _ (l : List ℕ) (i : ℕ) (a : Mail) (s : Bool) where
  -- the line's end, and what is no space
  pub rest_end : length l ≤ i → read_parameters a s i (drop i l) ≡ Some a
  unfolding read_parameters read_words
  rest_end h = rw (drop_of_length-le l {i = i} h)

  pub no-space : i < length l → (get_or l i 0 ≡ space → ⊥) → read_parameters a s i (drop i l) ≡ None
  unfolding read_parameters
  no-space h e = rw (drop-cons l i 0 h, ne_eqb (get_or l i 0) space e)

  -- a turn: the parameter after a space, as it was read
  module _ (h : i < length l) (g : get_or l i 0 ≡ space) where
    abbrev onwards : Reading Parameter → Option Mail
    onwards p = onward a s p.answer (λ b t. read_words b t (p.at + 1) (parameters (past (drop (i + 1) l))))

    turn : read_parameters a s i (drop i l) ≡ option_and_then onwards (read (i + 1) (before space (drop (i + 1) l)))
    unfolding read_parameters read_words
    turn = rw (drop-cons l i 0 h, eq-eqb (get_or l i 0) space g, ← add-one i) (ap (read_words a s (i + 1)) (words_are (drop (i + 1) l)))

    pub no-word : read (i + 1) (before space (drop (i + 1) l)) ≡ None → read_parameters a s i (drop i l) ≡ None
    no-word e = turn ∙ rw e

    module _ (p : Reading Parameter) (e : read (i + 1) (before space (drop (i + 1) l)) ≡ Some p) where
      pub moves : i < p.at
      moves = omega (arith, read-ends (i + 1) (before space (drop (i + 1) l)) p e)

      goes_on : (b : Mail) (t : Bool) → read_parameters b t p.at (drop p.at l) ≡ read_words b t (p.at + 1) (parameters (past (drop (i + 1) l)))
      unfolding read_parameters
      goes_on b t =
          let m = drop (i + 1) l in
          let z : past m ≡ drop p.at l = drop-drop (length (before space m)) (i + 1) l ∙ ap (λ (j : ℕ). drop j l) (sym (read-ends (i + 1) (before space m) p e)) in
          rw (← z, spaced-past m)

      -- AUTH, the first and a second one
      pub first-auth : (m : Mail) → p.answer ≡ Parameter.Auth m → a ≡ Mail.Absent → read_parameters a s i (drop i l) ≡ read_parameters m s p.at (drop p.at l)
      first-auth m f z = turn ∙ rw (e, f, z) (sym (goes_on m s))

      pub second-auth : (p.answer ≡ Parameter.Submitter → ⊥) → (p.answer ≡ Parameter.Other → ⊥) → (a ≡ Mail.Absent → ⊥) → read_parameters a s i (drop i l) ≡ None
      second-auth f g z = turn ∙ rw e (go p.answer a f g z)
        where
          go : (q : Parameter) (a : Mail) → (q ≡ Parameter.Submitter → ⊥) → (q ≡ Parameter.Other → ⊥) → (a ≡ Mail.Absent → ⊥) → onward a s q (λ b t. read_words b t (p.at + 1) (parameters (past (drop (i + 1) l)))) ≡ None
          go Parameter.Submitter a f g z = absurd (f refl)
          go Parameter.Other a f g z = absurd (g refl)
          go (Parameter.Auth m) Mail.Absent f g z = absurd (z refl)
          go (Parameter.Auth m) Mail.Null f g z = refl
          go (Parameter.Auth m) (Mail.Address from to n) f g z = refl

      -- the same of SUBMITTER
      module _ (f : p.answer ≡ Parameter.Submitter) where
        pub first_submitter : s ≡ false → read_parameters a s i (drop i l) ≡ read_parameters a true p.at (drop p.at l)
        first_submitter z = turn ∙ rw (e, f, z) (sym (goes_on a true))

        pub second_submitter : s ≡ true → read_parameters a s i (drop i l) ≡ None
        second_submitter z = turn ∙ rw (e, f, z)

      pub other-word : p.answer ≡ Parameter.Other → read_parameters a s i (drop i l) ≡ read_parameters a s p.at (drop p.at l)
      other-word f = turn ∙ rw (e, f) (sym (goes_on a s))

pub ruleset turns = (rest_end, no-space, no-word, moves, first-auth, second-auth, first_submitter, second_submitter, other-word)

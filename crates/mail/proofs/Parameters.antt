-- One parameter, read from left to right. Assumes nothing.
use mathlib.Core.Path.{◌≡◌, refl, sym, ◌∙◌, ap}
use mathlib.Core.Bool.{Bool, true, false, cond, not, ◌&&◌, and-false, false≢true}
use mathlib.Core.List.{List, [], ◌∷◌, ◌++◌}
use Prim.Native.Nat.{ℕ, suc, ◌+◌, ◌-◌, ◌<◌, ◌≤◌}
use native.Mathlib.Numerals.{add-one}
use native.Mathlib.Omega.{arith}
use Rattle.std.proofs.lemmas.Bool.Decides.{nat_tests}
use Rattle.std.specs.Char.{is_ascii_alphanumeric}
use borrow.Author.Tests.{eq-eqb, ne_eqb, eqb-true}
use lib.Dec.{eqb}
use lib.ListN.{length, get_or, take, drop, drop_of_length-le, length-map, length-append}
use lib.Seq.{drop-cons, drop-drop}
use Rattle.std.specs.List.{prefix_len, take_while}
use Rattle.std.proofs.lemmas.List.{take-append-drop, append-nil, take_rest}
use Rattle.std.proofs.lemmas.List.Folds.{length-prefix_len}
use Rattle.octets.specs.Ascii.{capital, capitals}
use Rattle.octets.specs.Lists.{is_empty, holds, every, same, before, after}
use Rattle.octets.proofs.Cases.{both, split}
use Rattle.octets.proofs.Every.{every_append}
use Rattle.octets.proofs.Words.{same_true}
use Rattle.mail.specs.Parameter.{equals, keyword_first, keyword_char, keyword, value_char, value, parameter, named, good, null, AUTH, SUBMITTER, auth_value}
use Rattle.mail.specs.Mail.{space, spaced, said}
use Rattle.std.specs.Prelude.{Some, None}
use Rattle.mail.specs.Private.{ends_at, judged, marked, value_of, identity_from, auth_from, submitted, submitter_from, other_from, found, read}
use Rattle.mail.specs.declared.Mail.{Mail}
use Rattle.mail.specs.declared.parameter.Parameter.{Parameter}
use Rattle.xtext.specs.Xtext
use Rattle.mail.proofs.Values.{none_before, auth-none, auth-value, submitter-is}
use Rattle.mail.proofs.Fronts.{rest, front-passes, rest-fails, before-front, after-front, holds_front}

-- ---- a value

-- what a list begins with that is not at its end, and no space
on-from : {X : Type 0} (r : List ℕ) → spaced r ≡ false → ((y : ℕ) (t : List ℕ) → r ≡ y ∷ t → before space r ≡ y ∷ before space t → X) → X
unfolding before
on-from [] e g = absurd (false≢true (sym e))
on-from (y ∷ t) e g = g y t refl (rw e)

module _ (m : List ℕ) where
  value-front : before space m ≡ take_while value_char m ++ before space (rest value_char m)
  value-front = ap (before space) (sym (take-append-drop (prefix_len value_char m) m)) ∙ before-front value_char space refl (take_while value_char m) (rest value_char m) (front-passes value_char m)

  pub value-whole : spaced (rest value_char m) ≡ true → length (before space m) ≡ prefix_len value_char m
  value-whole e = ap length (value-front ∙ ap (λ (t : List ℕ). take_while value_char m ++ t) (none_before (rest value_char m) e) ∙ append-nil (take_while value_char m)) ∙ length-prefix_len value_char m

  -- one or more characters of a value, and then a space or the end
  pub value-is : value (before space m) ≡ (not (eqb (prefix_len value_char m) 0) && spaced (rest value_char m))
  unfolding value every
  value-is =
      let u = take_while value_char m in
      let r = rest value_char m in
      split (spaced r)
      (λ e. rw (value-front, none_before r e, append-nil u, front-passes value_char m, e) (ap (λ b. b && true) (not-empty u ∙ ap (λ n. not (eqb n 0)) (length-prefix_len value_char m))))
      (λ e. on-from r e (λ y t h b. rw (value-front, b, every_append value_char u (y ∷ before space t), front-passes value_char m, rest-fails value_char m t y h, e, and-false (not (is_empty (u ++ y ∷ before space t))), and-false (not (eqb (prefix_len value_char m) 0)))))
    where
      not-empty : (u : List ℕ) → not (is_empty u) ≡ not (eqb (length u) 0)
      not-empty [] = refl
      not-empty (x ∷ u) = rw (ne_eqb (suc (length u)) 0 (λ e. omega arith))

-- what stands after a keyword other than AUTH and SUBMITTER, which goes on with "=": n characters of a value
module _ (l : List ℕ) (k n : ℕ) (p : n ≡ prefix_len value_char (take (length l - (k + 1)) (drop (k + 1) l))) (e : spaced (drop k l) ≡ false) (f : marked (drop k l) ≡ true) where
  valued-is : other_from k (drop k l) ≡ cond (not (eqb n 0) && spaced (drop (k + 1 + n) l)) (Some (ends_at Parameter.Other (k + 1 + n))) None
  unfolding other_from
  valued-is =
      let m = drop (k + 1) l in
      let q : n ≡ prefix_len value_char m = p ∙ ap (prefix_len value_char) (take_rest l (k + 1)) in
      let z : rest value_char m ≡ drop (k + 1 + n) l = drop-drop (prefix_len value_char m) (k + 1) l ∙ ap (λ (n : ℕ). drop (k + 1 + n) l) (sym q) in
      let y : spaced (drop (k + 1 + n) l) ≡ true → length (before space m) ≡ n = λ g. value-whole m (rw z g) ∙ sym q in
      rw (e, f, drop-drop 1 k l, value-is m, z, ← q) (go (eqb n 0) (spaced (drop (k + 1 + n) l)) y)
    where
      go : (b t : Bool) → (t ≡ true → length (before space (drop (k + 1) l)) ≡ n) → cond (not b && t) (Some (ends_at Parameter.Other (k + 1 + length (before space (drop (k + 1) l))))) None ≡ cond (not b && t) (Some (ends_at Parameter.Other (k + 1 + n))) None
      go true t h = refl
      go false true h = rw (h refl)
      go false false h = refl

  pub no_value : n ≡ 0 → other_from k (drop k l) ≡ None
  no_value g = rw (valued-is, eq-eqb n 0 g)

  pub no_end : spaced (drop (k + 1 + n) l) ≡ false → other_from k (drop k l) ≡ None
  no_end g = rw (valued-is, g, and-false)

  pub valued : (n ≡ 0 → ⊥) → spaced (drop (k + 1 + n) l) ≡ true → other_from k (drop k l) ≡ Some (ends_at Parameter.Other (k + 1 + n))
  valued g h = rw (valued-is, ne_eqb n 0 g, h)

-- ---- a whole parameter

-- a keyword is not two words
pub not-both : (w : List ℕ) → same w AUTH ≡ true → same w SUBMITTER ≡ false
unfolding same
not-both w e = rw (same_true w AUTH e)

keyword-passes : (u : List ℕ) → keyword u ≡ true → every keyword_char u ≡ true
unfolding keyword every
keyword-passes [] h = absurd (false≢true h)
keyword-passes (x ∷ u) h = let k = both (keyword_first x) (every keyword_char u) h in rw (k.0, k.1)

keyword_broken : (u t : List ℕ) (y : ℕ) → keyword u ≡ true → keyword_char y ≡ false → keyword (u ++ y ∷ t) ≡ false
unfolding keyword every
keyword_broken [] t y h f = absurd (false≢true h)
keyword_broken (x ∷ u) t y h f = rw (every_append keyword_char u (y ∷ t), f, and-false, and-false)

-- SUBMITTER, by what a value says
submitted-said : (from to : ℕ) (v : List ℕ) → submitted (said from v) to ≡ cond (null v) None (Some (ends_at Parameter.Submitter to))
unfolding said
submitted-said from to v = go (null v)
  where
    go : (b : Bool) → submitted (cond b Mail.Null (Mail.Address from (from + length v) (length (Xtext.octets v)))) to ≡ cond b None (Some (ends_at Parameter.Submitter to))
    go true = refl
    go false = refl

-- a keyword u from index i up to index k, after which r stands in the line
module _ (i k : ℕ) (t u r : List ℕ) (c : t ≡ u ++ r) (o : k ≡ i + length u) (e : keyword u ≡ true) where
  abbrev word : List ℕ
  word = before space t

  word-is : word ≡ u ++ before space r
  word-is = ap (before space) c ∙ before-front keyword_char space refl u r (keyword-passes u e)

  -- it ends with the keyword
  bare : spaced r ≡ true → (before equals word ≡ u) × (after equals word ≡ []) × (parameter word ≡ true) × (length word ≡ length u)
  unfolding before after parameter
  bare s =
      let w : word ≡ u = word-is ∙ ap (λ (t : List ℕ). u ++ t) (none_before r s) ∙ append-nil u in
      let b : before equals u ≡ u = rw append-nil at (before-front keyword_char equals refl u [] (keyword-passes u e)) in
      let a : after equals u ≡ [] = rw append-nil at (after-front keyword_char equals refl u [] (keyword-passes u e)) in
      let h : holds equals u ≡ false = rw append-nil at (holds_front keyword_char equals refl u [] (keyword-passes u e)) in
      (rw w b, rw w a, rw (w, b, e, h), rw w)

  -- it goes on with "="
  mark : marked r ≡ true → (before equals word ≡ u) × (after equals word ≡ value_of r) × (parameter word ≡ value (value_of r)) × (length word ≡ length u + 1 + length (value_of r))
  unfolding before after parameter
  mark m = go r m refl
    where
      go : (t : List ℕ) → marked t ≡ true → r ≡ t → (before equals word ≡ u) × (after equals word ≡ value_of r) × (parameter word ≡ value (value_of r)) × (length word ≡ length u + 1 + length (value_of r))
      go [] h f = absurd (false≢true h)
      go (y ∷ t) h f =
          let w : word ≡ u ++ equals ∷ value_of r = word-is ∙ ap (λ (t : List ℕ). u ++ t) (rw (f, eqb-true y equals h)) in
          let b : before equals word ≡ u = rw (w, before-front keyword_char equals refl u (equals ∷ value_of r) (keyword-passes u e)) (append-nil u) in
          let a : after equals word ≡ value_of r = rw (w, after-front keyword_char equals refl u (equals ∷ value_of r) (keyword-passes u e)) in
          let g : holds equals word ≡ true = rw (w, holds_front keyword_char equals refl u (equals ∷ value_of r) (keyword-passes u e)) in
          (b, a, rw (b, a, e, g), rw (w, length-append) (omega arith))

  -- it goes on with what is neither
  neither : ((y : ℕ) (t : List ℕ) → r ≡ y ∷ t → keyword_char y ≡ false) → spaced r ≡ false → marked r ≡ false → parameter word ≡ false
  unfolding before parameter
  neither f s m =
      on-from r s (λ y t h b.
      let w : word ≡ u ++ y ∷ before space t = word-is ∙ ap (λ (t : List ℕ). u ++ t) b in
      let z : eqb y equals ≡ false = rw h at m in
      rw (w, before-front keyword_char equals refl u (y ∷ before space t) (keyword-passes u e), z, keyword_broken u (before equals (before space t)) y e (f y t h)))

  -- each keyword, after which r stands: a space, "=" and a value, or what makes the word no parameter
  module _ (f : (y : ℕ) (t : List ℕ) → r ≡ y ∷ t → keyword_char y ≡ false) where
    none_read : parameter word ≡ false → read i word ≡ None
    unfolding read good
    none_read g = rw g

    auth-word : same (capitals u) AUTH ≡ true → read i word ≡ auth_from k r
    unfolding read good found named auth_from identity_from judged
    auth-word a =
        let b = not-both (capitals u) a in
        split (marked r)
        (λ m.
        let w = mark m in
        let v = value_of r in
        let y : length u ≡ length AUTH = sym (length-map u capital) ∙ ap length (same_true (capitals u) AUTH a) in
        let z : i + length AUTH + 1 ≡ k + 1 = omega arith in
        let t : i + (length u + 1 + length v) ≡ k + 1 + length v = omega arith in
        split (auth_value v)
        (λ c. rw (w.0, w.1, w.2, w.3, m, a, b, c, auth-value v c, z, t))
        (λ c. rw (w.0, w.1, w.2, m, a, b, c, and-false)))
        (λ m.
        split (spaced r)
        (λ s. let w = bare s in rw (w.0, w.1, w.2, m, a, b, auth-none))
        (λ s. rw m (none_read (neither f s m))))

    module _ (a : same (capitals u) AUTH ≡ false) where
      submitter_word : same (capitals u) SUBMITTER ≡ true → read i word ≡ submitter_from k r
      unfolding read good found named submitter_from identity_from judged
      submitter_word b =
          split (marked r)
          (λ m.
          let w = mark m in
          let v = value_of r in
          let t : i + (length u + 1 + length v) ≡ k + 1 + length v = omega arith in
          split (auth_value v)
          (λ c. split (null v) (λ n. rw (w.0, w.1, w.2, m, a, b, submitter-is v, c, submitted-said, n, and-false)) (λ n. rw (w.0, w.1, w.2, w.3, m, a, b, submitter-is v, c, auth-value v c, submitted-said, n, t)))
          (λ c. rw (w.0, w.1, w.2, m, a, b, submitter-is v, c, and-false)))
          (λ m.
          split (spaced r)
          (λ s. let w = bare s in rw (w.0, w.1, w.2, m, a, b, submitter-is [], auth-none))
          (λ s. rw m (none_read (neither f s m))))

      other_word : same (capitals u) SUBMITTER ≡ false → read i word ≡ other_from k r
      unfolding read good found named other_from
      other_word b =
          split (spaced r)
          (λ s. let w = bare s in rw (w.0, w.1, w.2, w.3, s, a, b, o))
          (λ s.
          split (marked r)
          (λ m.
          let w = mark m in
          let v = value_of r in
          let t : i + (length u + 1 + length v) ≡ k + 1 + length v = omega arith in
          split (value v) (λ c. rw (w.0, w.1, w.2, w.3, s, m, a, b, c, t)) (λ c. rw (w.0, w.1, w.2, s, m, a, b, c)))
          (λ m. rw (s, m) (none_read (neither f s m))))

-- ---- a parameter at an index of a line, as it is read

letters : (x : ℕ) → keyword_first x ≡ is_ascii_alphanumeric x
letters x = grind (arith, nat_tests)

module _ (l : List ℕ) (i : ℕ) where
  pub no-parameter : length l ≤ i → read i (before space (drop i l)) ≡ None
  unfolding read good parameter keyword before
  no-parameter h = rw (drop_of_length-le l {i = i} h)

  module _ (x : ℕ) (h : i < length l) (g : x ≡ get_or l i x) where
    here : drop i l ≡ x ∷ drop (i + 1) l
    here = rw (add-one, drop-cons l i x h, ← g)

    pub no-first : is_ascii_alphanumeric x ≡ false → read i (before space (drop i l)) ≡ None
    unfolding read good parameter keyword before
    no-first p =
        split (eqb x space)
        (λ e. rw (here, e))
        (λ e. split (eqb x equals) (λ f. rw (here, e, f)) (λ f. rw (here, e, f, letters x, p)))

    module _ (p : is_ascii_alphanumeric x ≡ true) (n : ℕ) (q : n ≡ prefix_len keyword_char (take (length l - (i + 1)) (drop (i + 1) l))) where
      abbrev m : List ℕ
      m = drop (i + 1) l

      counted : n ≡ prefix_len keyword_char m
      counted = q ∙ ap (prefix_len keyword_char) (take_rest l (i + 1))

      key-is : take (i + 1 + n - i) (drop i l) ≡ x ∷ take_while keyword_char m
      key-is =
          let z : i + 1 + n - i ≡ suc n = omega arith in
          rw (z, here) (ap (λ (n : ℕ). x ∷ take n m) counted)

      rest-is : drop (i + 1 + n) l ≡ rest keyword_char m
      rest-is = sym (drop-drop n (i + 1) l) ∙ ap (λ (k : ℕ). drop k m) counted

      line-is : drop i l ≡ take (i + 1 + n - i) (drop i l) ++ drop (i + 1 + n) l
      line-is = here ∙ rw (key-is, rest-is) (ap (λ (t : List ℕ). x ∷ t) (sym (take-append-drop (prefix_len keyword_char m) m)))

      key-good : keyword (take (i + 1 + n - i) (drop i l)) ≡ true
      unfolding keyword
      key-good = rw (key-is, letters x, p) (front-passes keyword_char m)

      key-ends : (y : ℕ) (t : List ℕ) → drop (i + 1 + n) l ≡ y ∷ t → keyword_char y ≡ false
      key-ends y t e = rest-fails keyword_char m t y (sym rest-is ∙ e)

      key-length : i + 1 + n ≡ i + length (take (i + 1 + n - i) (drop i l))
      key-length = rw key-is (omega (arith, counted, length-prefix_len keyword_char m))

      -- each keyword
      pub auth-is : same (capitals (take (i + 1 + n - i) (drop i l))) AUTH ≡ true → read i (before space (drop i l)) ≡ auth_from (i + 1 + n) (drop (i + 1 + n) l)
      auth-is = auth-word i (i + 1 + n) (drop i l) (take (i + 1 + n - i) (drop i l)) (drop (i + 1 + n) l) line-is key-length key-good key-ends

      pub submitter_is : same (capitals (take (i + 1 + n - i) (drop i l))) AUTH ≡ false → same (capitals (take (i + 1 + n - i) (drop i l))) SUBMITTER ≡ true
          → read i (before space (drop i l)) ≡ submitter_from (i + 1 + n) (drop (i + 1 + n) l)
      submitter_is = submitter_word i (i + 1 + n) (drop i l) (take (i + 1 + n - i) (drop i l)) (drop (i + 1 + n) l) line-is key-length key-good key-ends

      pub other_is : same (capitals (take (i + 1 + n - i) (drop i l))) AUTH ≡ false → same (capitals (take (i + 1 + n - i) (drop i l))) SUBMITTER ≡ false
          → read i (before space (drop i l)) ≡ other_from (i + 1 + n) (drop (i + 1 + n) l)
      other_is = other_word i (i + 1 + n) (drop i l) (take (i + 1 + n - i) (drop i l)) (drop (i + 1 + n) l) line-is key-length key-good key-ends

pub ruleset values = (no_value, no_end, valued)

pub ruleset readings = (no-parameter, no-first, auth-is, submitter_is, other_is)

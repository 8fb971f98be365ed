-- All parameters: reading them one after the other is what the definitions say of them together. Assumes nothing.
use mathlib.Core.Path.{◌≡◌, refl, sym, ◌∙◌, ap}
use mathlib.Core.Bool.{Bool, true, false, cond, not, ◌&&◌, ◌||◌, and-false, false≢true}
use mathlib.Core.List.{List, [], ◌∷◌}
use Prim.Native.Nat.{ℕ, suc, ◌+◌, ◌-◌, ◌<◌, ◌≤◌}
use native.Mathlib.Omega.{arith}
use borrow.Author.Tests.{lt-leb, lt-ltb, le-ltb}
use lib.Dec.{leb, leb-suc-suc}
use lib.ListN.{length, drop, length-drop, length-map, drop_of_length-le}
use lib.Seq.{slice, drop-drop}
use Rattle.octets.specs.Ascii.{ascii, capital, capitals}
use Rattle.octets.specs.Lists.{holds, every, same, before, after}
use Rattle.octets.proofs.Cases.{both, split}
use Rattle.octets.proofs.Lists.{cut}
use Rattle.octets.proofs.Words.{same_true, after-drop, holds-before}
use Rattle.xtext.specs.Xtext
use Rattle.mail.specs.Parameter.{equals, parameter, named, good, null, AUTH, SUBMITTER, auth_value, submitter_value}
use Rattle.mail.specs.Mail.{opens, path_ends, greater, rest, spaced, parameters, count, all_good, said, identity, well_formed, mail_at}
use Rattle.mail.specs.Private.{found, read, is_absent, read_words, read_parameters}
use Rattle.std.specs.Prelude.{Option, Some, None}
use Rattle.mail.specs.declared.Mail.{Mail}
use Rattle.mail.proofs.Parameters.{not-both}

-- how many parameters of a keyword may come, and what AUTH said before
abbrev room : Bool → ℕ
room true = 1
room false = 0

abbrev kept : Mail → Mail → Mail
kept Mail.Absent m = m
kept a m = a

abbrev may : Mail → Bool → List (List ℕ) → Bool
may a s ws = every good ws && leb (count AUTH ws) (room (is_absent a)) && leb (count SUBMITTER ws) (room (not s))

-- one more does not fit where none may come
none-fits : (n : ℕ) → leb (suc n) 0 ≡ false
none-fits n = lt-leb (suc n) 0 (omega arith)

one-fits : (n : ℕ) → leb (suc n) 1 ≡ leb n 0
one-fits n = leb-suc-suc n 0

-- a good AUTH parameter has such a value
pub good-auth : (w : List ℕ) → good w ≡ true → named AUTH w ≡ true → auth_value (after equals w) ≡ true
unfolding good
good-auth w e a =
    let h = both (parameter w && (not (named AUTH w) || auth_value (after equals w))) (not (named SUBMITTER w) || submitter_value (after equals w)) e in
    rw a at (both (parameter w) (not (named AUTH w) || auth_value (after equals w)) h.0).1

-- the value of an AUTH parameter, which ends where the parameter does
module _ (w : List ℕ) (a : named AUTH w ≡ true) where
  key-length : length (before equals w) ≡ length AUTH
  unfolding named
  key-length = sym (length-map (before equals w) capital) ∙ ap length (same_true (capitals (before equals w)) AUTH a)

  pub value-drop : after equals w ≡ drop (suc (length AUTH)) w
  value-drop = after-drop equals w ∙ ap (λ (n : ℕ). drop (suc n) w) key-length

  pub value-length : length (after equals w) ≡ length w - suc (length AUTH)
  value-length = ap length value-drop ∙ length-drop (suc (length AUTH)) w

-- what AUTH says, after which it may not come again
said-kept : (from : ℕ) (v : List ℕ) (m : Mail) → (is_absent (said from v) ≡ false) × (kept (said from v) m ≡ said from v)
unfolding said
said-kept from v m = go (null v)
  where
    go : (b : Bool) → let x = cond b Mail.Null (Mail.Address from (from + length v) (length (Xtext.octets v))) in (is_absent x ≡ false) × (kept x m ≡ x)
    go true = (refl, refl)
    go false = (refl, refl)

absent-is : (m : Mail) → is_absent m ≡ true → m ≡ Mail.Absent
absent-is Mail.Absent e = refl
absent-is Mail.Null e = absurd (false≢true e)
absent-is (Mail.Address from to n) e = absurd (false≢true e)

kept-absent : (m : Mail) → kept m Mail.Absent ≡ m
kept-absent Mail.Absent = refl
kept-absent Mail.Null = refl
kept-absent (Mail.Address from to n) = refl

-- what the definitions say of parameters, after what was met
abbrev outcome : Mail → Bool → ℕ → List (List ℕ) → Option Mail
outcome a s i ws = cond (may a s ws) (Some (kept a (identity i ws))) None

module _ (a : Mail) (s : Bool) (i : ℕ) (w : List ℕ) (ws : List (List ℕ)) (ih : (b : Mail) (t : Bool) → read_words b t (i + length w + 1) ws ≡ outcome b t (i + length w + 1) ws) (g : good w ≡ true) where
  auth-word : named AUTH w ≡ true → read_words a s i (w ∷ ws) ≡ outcome a s i (w ∷ ws)
  unfolding read_words read found every count identity named
  auth-word n =
      let m = said (i + length AUTH + 1) (after equals w) in
      let k = said-kept (i + length AUTH + 1) (after equals w) (identity (i + length w + 1) ws) in
      split (is_absent a)
      (λ c. rw (absent-is a c, g, n, not-both (capitals (before equals w)) n, ih m s, k.0, k.1, one-fits (count AUTH ws)))
      (λ c. rw (g, n, not-both (capitals (before equals w)) n, c, none-fits (count AUTH ws), and-false))

  submitter_word : named AUTH w ≡ false → named SUBMITTER w ≡ true → read_words a s i (w ∷ ws) ≡ outcome a s i (w ∷ ws)
  unfolding read_words read found every count identity
  submitter_word n m =
      split s
      (λ c. rw (g, n, m, c, none-fits (count SUBMITTER ws), and-false))
      (λ c. rw (g, n, m, c, ih a true, one-fits (count SUBMITTER ws)))

  other_word : named AUTH w ≡ false → named SUBMITTER w ≡ false → read_words a s i (w ∷ ws) ≡ outcome a s i (w ∷ ws)
  unfolding read_words read found every count identity
  other_word n m = rw (g, n, m, ih a s)

read_all : (ws : List (List ℕ)) (a : Mail) (s : Bool) (i : ℕ) → read_words a s i ws ≡ outcome a s i ws
unfolding read_words read every count identity
read_all [] a s i = go (is_absent a) (not s)
  where
    go : (b c : Bool) → Some a ≡ cond (leb 0 (room b) && leb 0 (room c)) (Some (kept a Mail.Absent)) None
    go true true = ap Some (sym (kept-absent a))
    go true false = ap Some (sym (kept-absent a))
    go false true = ap Some (sym (kept-absent a))
    go false false = ap Some (sym (kept-absent a))
read_all (w ∷ ws) a s i =
    let ih : (b : Mail) (t : Bool) → read_words b t (i + length w + 1) ws ≡ outcome b t (i + length w + 1) ws = λ b t. read_all ws b t (i + length w + 1) in
    split (good w)
    (λ g. split (named AUTH w) (auth-word a s i w ws ih g) (λ n. split (named SUBMITTER w) (submitter_word a s i w ws ih g n) (other_word a s i w ws ih g n)))
    (λ g. rw g)

-- from index i on, with nothing met
rest-is : (i : ℕ) (r : List ℕ) → read_parameters Mail.Absent false i r ≡ cond (spaced r && all_good (parameters r)) (Some (identity (i + 1) (parameters r))) None
unfolding read_parameters all_good
rest-is i r = go (spaced r)
  where
    go : (b : Bool) → cond b (read_words Mail.Absent false (i + 1) (parameters r)) None
        ≡ cond (b && (every good (parameters r) && leb (count AUTH (parameters r)) 1 && leb (count SUBMITTER (parameters r)) 1)) (Some (identity (i + 1) (parameters r))) None
    go true = read_all (parameters r) Mail.Absent false (i + 1)
    go false = refl

-- what follows the path
pub rest-drop : (t : List ℕ) → rest t ≡ drop (11 + suc (length (before greater (drop 11 t)))) t
unfolding rest
rest-drop t = after-drop greater (drop 11 t) ∙ drop-drop (suc (length (before greater (drop 11 t)))) 11 t

-- a line that begins at an index
module _ (l : List ℕ) (at : ℕ) where
  pub begins-past : length l < at → mail_at l at ≡ None
  unfolding mail_at well_formed opens same
  begins-past h = rw (drop_of_length-le l {i = at} (omega arith))

  opens-is : opens (drop at l) ≡ same (capitals (slice at (at + 11) l)) (ascii "MAIL FROM:<")
  unfolding opens
  opens-is = let y : at + 11 - at ≡ 11 = omega arith in rw (← cut at (at + 11) l, y)

  pub no-opening : same (capitals (slice at (at + 11) l)) (ascii "MAIL FROM:<") ≡ false → mail_at l at ≡ None
  unfolding mail_at well_formed
  no-opening e = rw (opens-is, e)

  -- the path's end, as an index of the line
  module _ (o : same (capitals (slice at (at + 11) l)) (ascii "MAIL FROM:<") ≡ true) (e : ℕ) (q : e ≡ at + 11 + length (before greater (drop (at + 11) l))) where
    after-path : drop 11 (drop at l) ≡ drop (at + 11) l
    after-path = drop-drop 11 at l

    pub no-path : length l ≤ e → mail_at l at ≡ None
    unfolding mail_at well_formed path_ends
    no-path h =
        let z : holds greater (drop (at + 11) l) ≡ false = holds-before greater (drop (at + 11) l) ∙ le-ltb (length (before greater (drop (at + 11) l))) (length (drop (at + 11) l)) (omega (arith, length-drop (at + 11) l)) in
        rw (opens-is, o, after-path, z)

    pub whole : e < length l → mail_at l at ≡ read_parameters Mail.Absent false (e + 1) (drop (e + 1) l)
    unfolding mail_at well_formed path_ends
    whole h =
        let z : holds greater (drop (at + 11) l) ≡ true = holds-before greater (drop (at + 11) l) ∙ lt-ltb (length (before greater (drop (at + 11) l))) (length (drop (at + 11) l)) (omega (arith, length-drop (at + 11) l)) in
        let y : at + (11 + suc (length (before greater (drop (at + 11) l)))) ≡ e + 1 = omega arith in
        let r : rest (drop at l) ≡ drop (e + 1) l = rest-drop (drop at l) ∙ ap (λ (t : List ℕ). drop (11 + suc (length (before greater t))) (drop at l)) after-path ∙ drop-drop (11 + suc (length (before greater (drop (at + 11) l)))) at l ∙ ap (λ (n : ℕ). drop n l) y in
        let x : length l - length (drop (e + 1) l) ≡ e + 1 = omega (arith, length-drop (e + 1) l) in
        rw (opens-is, o, after-path, z, r, x) (sym (rest-is (e + 1) (drop (e + 1) l)))

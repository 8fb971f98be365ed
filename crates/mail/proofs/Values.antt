-- The values of AUTH and SUBMITTER, read in a line up to a space or its end. Assumes nothing.
use mathlib.Core.Path.{◌≡◌, refl, sym, ◌∙◌, ap, subst}
use Rattle.std.proofs.lemmas.Bool.Decides.{nat_tests}
use mathlib.Core.Bool.{Bool, true, false, not, ◌&&◌, ◌||◌, and-false, false≢true}
use mathlib.Core.List.{List, [], ◌∷◌}
use Prim.Native.Nat.{ℕ, zero, suc, ◌+◌, ◌-◌, ◌<◌, ◌≤◌}
use native.Mathlib.Nat.{add-zero}
use native.Mathlib.Omega.{arith}
use borrow.Author.Tests.{eqb-true}
use lib.Dec.{eqb}
use lib.ListN.{length, take, drop, length-take, length-drop}
use lib.Seq.{drop-drop}
use Rattle.octets.specs.Ascii.{ascii}
use Rattle.octets.specs.Lists.{every, same, before}
use Rattle.octets.proofs.Cases.{both, split}
use Rattle.octets.proofs.Lists.{cut}
use Rattle.octets.proofs.Words.{same_true, before-take}
use Rattle.xtext.specs.Xtext
use Rattle.xtext.specs.declared.Character.{Character}
use Rattle.xtext.proofs.Characters.{digit-xchar}
use Rattle.xtext.proofs.Grammar as Grammar
use Rattle.xtext.proofs.Walk.{Told, told}
use Rattle.mail.specs.Address.{address}
use Rattle.mail.specs.Parameter.{value_char, value, null, auth_value, submitter_value}
use Rattle.mail.specs.Mail.{space, spaced}
use Rattle.mail.specs.Private.{step, run, at_end}
use Rattle.mail.specs.declared.address.State.{State}
use Rattle.std.specs.Prelude.{None}
use Rattle.mail.proofs.States.{going, going_start}

-- what stands before an octet, from an element of it on
drop-before : (x k : ℕ) (l : List ℕ) → k ≤ length (before x l) → drop k (before x l) ≡ before x (drop k l)
unfolding before
drop-before x zero l h = refl
drop-before x (suc k) [] h = refl
drop-before x (suc k) (y ∷ l) h =
    split (eqb y x) (λ e. let z = rw e at h in absurd (omega arith)) (λ e. let z = rw e at h in rw e (drop-before x k l (omega arith)))

pub none_before : (m : List ℕ) → spaced m ≡ true → before space m ≡ []
unfolding before
none_before [] e = refl
none_before (x ∷ m) e = rw e

-- a space is no character, so the characters of a line are those of what stands before a space
escape-before : (i : ℕ) (l : List ℕ) → Xtext.escape_at i (before space l) ≡ Xtext.escape_at i l
unfolding Xtext.escape_at Xtext.number Xtext.digits before
escape-before i [] = refl
escape-before i (y ∷ []) = split (eqb y space) (λ e. rw e) (λ e. rw e)
escape-before i (y ∷ z ∷ r) =
    split (eqb y space)
    (λ e. rw (eqb-true y space e))
    (λ e. split (eqb z space) (λ f. rw (e, eqb-true z space f, and-false)) (λ f. rw (e, f)))

character-before : (i : ℕ) (m : List ℕ) → spaced m ≡ false → Xtext.character_at i (before space m) ≡ Xtext.character_at i m
unfolding Xtext.character_at before
character-before i [] e = refl
character-before i (x ∷ m) e = rw (e, escape-before i m)

octet-here : (i : ℕ) (m : List ℕ) (x n : ℕ) → Xtext.character_at i m ≡ Character.Octet x n → spaced m ≡ false
unfolding Xtext.character_at
octet-here i [] x n e = let z : ◌≡◌ {A = ℕ} 0 1 = cc in absurd (omega arith)
octet-here i (y ∷ m) x n e =
    split (eqb y space) (λ f. let g = rw (eqb-true y space f) at e in let z : ◌≡◌ {A = ℕ} 0 1 = cc in absurd (omega arith)) (λ f. f)

-- the rest of a value, which stands from index i of a line on and ends at an index
module _ (l : List ℕ) (i to : ℕ) (a : i + length (before space (drop i l)) ≡ to) where
  word_at : drop i (take to l) ≡ before space (drop i l)
  word_at =
      let z : length (before space (drop i l)) ≡ to - i = omega arith in
      sym (before-take space (drop i l) ∙ ap (λ (n : ℕ). take n (drop i l)) z ∙ cut i to l)

  here : (d : Character) → d ≡ Xtext.character_at i (drop i l) → spaced (drop i l) ≡ false → Told (take to l) i d
  here d q g = subst (Told (take to l) i) (ap (Xtext.character_at i) word_at ∙ character-before i (drop i l) g ∙ sym q) (told (take to l) i)

  -- what is said of the value where nothing is left, and where no character stands there
  module _ (s : State) (from n : ℕ) where
    pub finished : spaced (drop i l) ≡ true → going s from to n (before space (drop i l)) ≡ at_end s from i n
    unfolding Xtext.valid Xtext.octets run
    finished e =
        let f = none_before (drop i l) e in
        let z : to ≡ i = omega (arith, ap length f) in
        rw (f, z, add-zero)

    pub broken : (c : Character) → c ≡ Xtext.character_at i (drop i l) → ((x m : ℕ) → c ≡ Character.Octet x m → ⊥) → spaced (drop i l) ≡ false
        → going s from to n (before space (drop i l)) ≡ None
    broken Character.End q h g = absurd (false≢true (sym g ∙ ap spaced (subst (Told l i) (sym q) (told l i))))
    broken Character.Malformed q h g = rw (← word_at, here Character.Malformed q g)
    broken (Character.Octet x m) q h g = absurd (h x m refl)

  -- after an octet
  module _ (x m : ℕ) (q : Character.Octet x m ≡ Xtext.character_at i (drop i l)) where
    octet : Told (take to l) i (Character.Octet x m)
    octet = here (Character.Octet x m) q (octet-here i (drop i l) x m (sym q))

    pub moves : (i < m) × (m ≤ length l)
    moves = (octet.0, omega (arith, octet.1, length-take to l))

    from_next : drop (m - i) (before space (drop i l)) ≡ before space (drop m l)
    from_next =
        let z : i + (m - i) ≡ m = omega (arith, octet.0) in
        drop-before space (m - i) (drop i l) (omega (arith, octet.0, octet.1, length-take to l))
        ∙ ap (before space) (drop-drop (m - i) i l ∙ ap (λ (k : ℕ). drop k l) z)

    next-at : drop m (take to l) ≡ before space (drop m l)
    next-at =
        let z : i + (m - i) ≡ m = omega (arith, octet.0) in
        ap (λ (k : ℕ). drop k (take to l)) (sym z) ∙ sym (drop-drop (m - i) i (take to l)) ∙ ap (drop (m - i)) word_at ∙ from_next

    pub same_end : m + length (before space (drop m l)) ≡ to
    same_end = omega (arith, octet.0, octet.1, length-take to l, ap length from_next, length-drop (m - i) (before space (drop i l)))

    pub goes_on : (s : State) (from n : ℕ) → going (step s x) from to (n + 1) (before space (drop m l)) ≡ going s from to n (before space (drop i l))
    unfolding run
    goes_on s from n =
        let v : Xtext.valid (before space (drop i l)) ≡ Xtext.valid (before space (drop m l)) = rw (word_at, next-at) at octet.2 in
        let o : Xtext.octets (before space (drop i l)) ≡ x ∷ Xtext.octets (before space (drop m l)) = rw (word_at, next-at) at octet.3 in
        let z : n + suc (length (Xtext.octets (before space (drop m l)))) ≡ n + 1 + length (Xtext.octets (before space (drop m l))) = omega arith in
        rw (v, o, z)

pub ruleset turns = (going_start, finished, broken, moves, same_end, goes_on)

-- xtext has no other characters than a value may have
xchar-value : (x : ℕ) → Xtext.xchar x ≡ true → value_char x ≡ true
xchar-value x h = grind (arith, nat_tests)

xtext-value : {v : List ℕ} → Grammar.Xtext v → every value_char v ≡ true
unfolding every
xtext-value Grammar.none = refl
xtext-value (Grammar.self {x} {l} h r) = rw (xchar-value x h) (xtext-value r)
xtext-value (Grammar.escape {y} {z} {l} p q r) = rw (xchar-value y (digit-xchar y p), xchar-value z (digit-xchar z q)) (xtext-value r)

-- "<>" and an address are not empty, so what AUTH may have is a value
pub auth-none : auth_value [] ≡ false
unfolding auth_value Xtext.valid Xtext.octets address same
auth-none = refl

pub auth-value : (v : List ℕ) → auth_value v ≡ true → value v ≡ true
unfolding value auth_value
auth-value [] e = absurd (false≢true (sym auth-none ∙ e))
auth-value (x ∷ v) e = xtext-value (Grammar.grammar (x ∷ v) (both (Xtext.valid (x ∷ v)) _ e).0)

-- "<>" is no address, so SUBMITTER may have what AUTH may have but "<>"
pub submitter-is : (v : List ℕ) → submitter_value v ≡ (auth_value v && not (null v))
unfolding submitter_value auth_value address
submitter-is v = go (Xtext.valid v) (null v) (address (Xtext.octets v)) (λ e. rw (same_true (Xtext.octets v) (ascii "<>") e))
  where
    go : (a b c : Bool) → (b ≡ true → c ≡ false) → (a && c) ≡ (a && (b || c) && not b)
    go false b c h = refl
    go true true c h = h refl
    go true false c h = grind arith

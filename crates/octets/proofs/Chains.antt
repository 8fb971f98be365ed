-- This product's words for lists, and what std's methods on slices, chains of iterators and loops say of them. Assumes nothing.
-- Above each law stands how the proof of a function cites it. "Named" means that the function needs no answer where its attribute has the law:
-- #[tactic(auto, using(octets::proofs::Chains::same_is))].
use mathlib.Core.Path.{◌≡◌, refl, sym, ◌∙◌, ap}
use mathlib.Core.Bool.{Bool, true, false, not, cond, ◌&&◌, ◌||◌, and_assoc}
use mathlib.Core.List.{List, [], ◌∷◌, ◌++◌, map}
use Prim.Native.Nat.{ℕ, suc, ◌+◌, ◌<◌, ◌≤◌}
use native.Mathlib.Nat.{zero-add}
use native.Mathlib.Numerals.{add-one}
use native.Mathlib.Omega.{arith}
use borrow.Rule.Slice.PartMut.{put_mid}
use denote.Param.Members.{Mut}
use denote.Ref.{Bor}
use lib.Dec.{eqb}
use lib.ListN.{length, get_or, drop, drop_of_length-le}
use lib.Seq.{drop-cons, take_all, sets, sets-eq}
use Rattle.std.proofs.iter.Yields.{fronts}
use Rattle.std.proofs.lemmas.Bool.Decides.{nat_tests}
use Rattle.std.proofs.lemmas.Iterator.{YieldsList-from_slice, YieldsList-from_zip, zips}
use Rattle.std.proofs.lemmas.Iterator.Search.{all_from_yields_List, any_from_yields_List, position_from_yields_List}
use Rattle.std.proofs.lemmas.Slice.{put_mid-paste}
use Rattle.std.specs.Char.{to_ascii_uppercase}
use Rattle.std.specs.Cmp.Lexicographic.{pointwise}
use Rattle.std.specs.Fn.{Called}
use Rattle.std.specs.Iterator.{ChecksAll, ChecksAny, FindsPosition}
use Rattle.std.specs.Iterator.Adapters.{zip_first, zip_second}
use Rattle.std.specs.List.{list_all, list_any, position_or_len, zip}
use Rattle.std.specs.Option.{unwrap_or}
use Rattle.std.specs.Prelude.{Option, Some, None}
use Rattle.std.specs.Slice.Iter.{iter_rest}
use Rattle.std.specs.declared.iter.Zip.{Zip}
use Rattle.std.specs.declared.slice.Iter.{Iter}
use Rattle.octets.specs.Ascii.{capital}
use Rattle.octets.specs.Lists.{holds, every, one_to, same, before}
use Rattle.octets.proofs.Every.{fitting}
use Rattle.octets.proofs.Words.{holds-before}

-- ---- each word is one of std's

-- any law of std on list_all: rw every_is
pub every_is : {A : Type 0} (f : A → Bool) (l : List A) → every f l ≡ list_all f l
unfolding every
every_is f [] = refl
every_is f (x ∷ l) = rw (every_is f l)

-- s.contains(&x): named, with no answer
pub holds_is : (x : ℕ) (l : List ℕ) → holds x l ≡ list_any (λ (y : ℕ). eqb y x) l
holds_is x [] = refl
holds_is x (y ∷ l) = rw (holds_is x l)

-- a == b, of slices and of arrays: named, with no answer
pub same_is : (a b : List ℕ) → same a b ≡ pointwise eqb a b
unfolding same
same_is [] [] = refl
same_is [] (y ∷ b) = refl
same_is (x ∷ a) [] = refl
same_is (x ∷ a) (y ∷ b) = rw (same_is a b)

capital_is : (x : ℕ) → capital x ≡ to_ascii_uppercase x
unfolding capital
capital_is x = grind (arith, nat_tests)

-- s.make_ascii_uppercase(): named, with no answer
pub capitals_is : (l : List ℕ) → map capital l ≡ map to_ascii_uppercase l
capitals_is [] = refl
capitals_is (x ∷ l) = rw (capitals_is l, capital_is x)

-- any law of std on position_or_len: rw before_is
pub before_is : (x : ℕ) (l : List ℕ) → length (before x l) ≡ position_or_len (λ (y : ℕ). eqb y x) l
unfolding before
before_is x [] = refl
before_is x (y ∷ l) = go (eqb y x) (before_is x l)
  where
    go : (t : Bool) → length (before x l) ≡ position_or_len (λ (y : ℕ). eqb y x) l → length (cond t [] (y ∷ before x l)) ≡ cond (not t) (1 + position_or_len (λ (y : ℕ). eqb y x) l) 0
    go true e = refl
    go false e = ap suc e ∙ omega arith

-- list_any of a test in parts, as matches!(x, 0 | b'\r' | b'\n'): simp any_either
pub any_either : {A : Type 0} (f g : A → Bool) (l : List A) → list_any (λ (y : A). f y || g y) l ≡ (list_any f l || list_any g l)
any_either f g [] = refl
any_either f g (y ∷ l) = rw (any_either f g l) (go (f y) (g y) (list_any f l))
  where
    go : (a b c : Bool) → ((a || b) || (c || list_any g l)) ≡ ((a || c) || (b || list_any g l))
    go true b c = refl
    go false true true = refl
    go false true false = refl
    go false false c = refl

-- ---- chains of iterators: s is the list that the chain begins with, as c.args.text.now; the last argument says what the closure answers

module _ {A F : Type 0} {s u : Iter A} {p : F} {g : Mut F (Bor A × Unit {0}) Bool} {r : Bool} where
  -- s.iter().all(|x| f(*x)): every_all f s c.all.ensures.ran (cc) (λ x b q k. search (rules, tests))
  pub every_all : (f : A → Bool) (l : List A) → ChecksAll fronts g s p r u → iter_rest s ≡ l
      → ((x : Bor A) (b : Bool) (q : F) → Called g p (x, tt) b q → (q ≡ p) × (b ≡ f x.now)) → r ≡ every f l
  every_all f l h e k = all_from_yields_List f u p r h (YieldsList-from_slice l e) k ∙ sym (every_is f l)

module _ {F : Type 0} {s u : Iter ℕ} {p : F} {g : Mut F (Bor ℕ × Unit {0}) Bool} where
  -- (1..=n).contains(&s.len()) && s.iter().all(|x| f(*x)): where the test holds, with m = c.if-contains.ensures.value bound by a let,
  --   one_to_all n f s (search (rules, tests)) (search (rules, tests)) c.all.ensures.ran (cc) (λ x b q k. search (rules, tests))
  -- and elsewhere no answer, where octets::proofs::Every::too_short and too_long are named
  pub one_to_all : {r : Bool} (n : ℕ) (f : ℕ → Bool) (l : List ℕ) → 1 ≤ length l → length l ≤ n → ChecksAll fronts g s p r u → iter_rest s ≡ l
      → ((x : Bor ℕ) (b : Bool) (q : F) → Called g p (x, tt) b q → (q ≡ p) × (b ≡ f x.now)) → r ≡ one_to n f l
  one_to_all n f l a b h e k = every_all f l h e k ∙ fitting n f l a b

  -- s.iter().any(|y| *y == x): holds_any x s c.any.ensures.ran (cc) (λ y b q k. search (rules, tests))
  pub holds_any : {r : Bool} (x : ℕ) (l : List ℕ) → ChecksAny fronts g s p r u → iter_rest s ≡ l
      → ((y : Bor ℕ) (b : Bool) (q : F) → Called g p (y, tt) b q → (q ≡ p) × (b ≡ eqb y.now x)) → r ≡ holds x l
  holds_any {r = r} x l h e k = any_from_yields_List (λ (y : ℕ). eqb y x) u p r h (YieldsList-from_slice l e) k ∙ sym (holds_is x l)

  -- s.iter().position(|y| *y == x): before_position x s c.position.ensures.ran (cc) (λ y b q k. search (rules, tests))
  pub before_position : {r : Option ℕ} (x : ℕ) (l : List ℕ) → FindsPosition fronts g s p r u → iter_rest s ≡ l
      → ((y : Bor ℕ) (b : Bool) (q : F) → Called g p (y, tt) b q → (q ≡ p) × (b ≡ eqb y.now x)) → r ≡ cond (holds x l) (Some (length (before x l))) None
  before_position {r = r} x l h e k =
      position_from_yields_List (λ (y : ℕ). eqb y x) u p r h (YieldsList-from_slice l e) k
      ∙ rw (← before_is x l, holds-before x l)

-- .unwrap_or(s.len()) after it: c.unwrap_or.ensures ∙ ap (λ (o : Option ℕ). unwrap_or o (length s)) e ∙ before_or_end x s, where e is before_position's fact
pub before_or_end : (x : ℕ) (l : List ℕ) → unwrap_or (cond (holds x l) (Some (length (before x l))) None) (length l) ≡ length (before x l)
unfolding before
before_or_end x [] = refl
before_or_end x (y ∷ l) = go (eqb y x) (holds x l) (before_or_end x l)
  where
    go : (t b : Bool) → unwrap_or (cond b (Some (length (before x l))) None) (length l) ≡ length (before x l)
        → unwrap_or (cond (t || b) (Some (length (cond t [] (y ∷ before x l)))) None) (suc (length l)) ≡ length (cond t [] (y ∷ before x l))
    go true b e = refl
    go false true e = refl
    go false false e = ap suc e

zipped : (h : ℕ → ℕ) (a b : List ℕ) → length a ≡ length b → list_all (λ (t : ℕ × ℕ). eqb (h t.0) t.1) (zip a b) ≡ same (map h a) b
unfolding same
zipped h [] [] e = refl
zipped h [] (y ∷ b) e = absurd (omega arith)
zipped h (x ∷ a) [] e = absurd (omega arith)
zipped h (x ∷ a) (y ∷ b) e = rw (zipped h a b (omega arith))

-- a.iter().zip(b).all(|(x, y)| h(*x) == *y), where e : length a ≡ length b:
--   same_all h a b c.all.new.self e c.all.ensures.ran (cc) (cc) (λ t v q k. search (rules, tests))
pub same_all : {F : Type 0} {s : Zip (Iter ℕ) (Iter ℕ)} {p : F} {g : Mut F ((Bor ℕ × Bor ℕ) × Unit {0}) Bool} {r : Bool} (h : ℕ → ℕ) (a b : List ℕ) (u : Zip (Iter ℕ) (Iter ℕ))
    → length a ≡ length b → ChecksAll (zips fronts fronts) g s p r u → iter_rest (zip_first s) ≡ a → iter_rest (zip_second s) ≡ b
    → ((t : Bor ℕ × Bor ℕ) (v : Bool) (q : F) → Called g p (t, tt) v q → (q ≡ p) × (v ≡ eqb (h (t.0).now) (t.1).now)) → r ≡ same (map h a) b
same_all {p = p} {r = r} h a b u e ran f k m =
    all_from_yields_List (λ (t : ℕ × ℕ). eqb (h t.0) t.1) u p r ran (YieldsList-from_zip (YieldsList-from_slice a f) (YieldsList-from_slice b k)) m ∙ zipped h a b e

-- ---- loops: `loops`, named, and the invariant
-- for x in s, return false where f(*x) is false:    every f (drop l.x-index l.s) ≡ every f l.s
-- for x in s, ok = ok & f(*x):                      (l.ok && every f (drop l.x-index l.s)) ≡ every f l.s
-- for y in s, return true where *y is x:            holds l.x (drop l.y-index l.s) ≡ holds l.x l.s
-- for i in at..s.len(), return i where s[i] is x:   l.i + length (before l.x (drop l.i l.s)) ≡ l.at + length (before l.x (drop l.at l.s))

length_cons : (t : Bool) (y : ℕ) (l : List ℕ) → length (cond t [] (y ∷ l)) ≡ cond t 0 (length l + 1)
length_cons true y l = refl
length_cons false y l = omega arith

module _ (l : List ℕ) (i : ℕ) where
  pub every_more : (f : ℕ → Bool) → i < length l → every f (drop i l) ≡ (f (get_or l i 0) && every f (drop (i + 1) l))
  unfolding every
  every_more f h = rw (add-one, drop-cons l i 0 h)

  pub every_done : (f : ℕ → Bool) → length l ≤ i → every f (drop i l) ≡ true
  unfolding every
  every_done f h = rw (drop_of_length-le l {i = i} h)

  pub holds_more : (x : ℕ) → i < length l → holds x (drop i l) ≡ (eqb (get_or l i 0) x || holds x (drop (i + 1) l))
  holds_more x h = rw (add-one, drop-cons l i 0 h)

  pub holds_done : (x : ℕ) → length l ≤ i → holds x (drop i l) ≡ false
  holds_done x h = rw (drop_of_length-le l {i = i} h)

  pub before_more : (x : ℕ) → i < length l → length (before x (drop i l)) ≡ cond (eqb (get_or l i 0) x) 0 (length (before x (drop (i + 1) l)) + 1)
  unfolding before
  before_more x h =
      rw (drop-cons l i 0 h)
      (length_cons (eqb (get_or l i 0) x) _ _
      ∙ ap (λ (k : ℕ). cond (eqb (get_or l i 0) x) 0 (length (before x (drop k l)) + 1)) {x = suc i} {y = i + 1} (omega arith))

  pub before_done : (x : ℕ) → length l ≤ i → length (before x (drop i l)) ≡ 0
  unfolding before
  before_done x h = rw (drop_of_length-le l {i = i} h)

pub ruleset loops = (every_more, every_done, holds_more, holds_done, before_more, before_done, and_assoc, nat_tests)

-- ---- o[at..at + n].copy_from_slice(l), o[at..] and o[..n] likewise, which leave sets o at l or written o at l: `copies`, named
-- where the bounds are numerals: rw c.copy_from_slice.ensures.after (copied o l at n (omega arith) (omega arith))

module _ {A : Type 0} (o l : List A) where
  pub copied : (at n : ℕ) → n ≡ length l → at + length l ≤ length o → put_mid at n o l ≡ sets o at l
  copied at n e h = put_mid-paste at n o l l n refl refl e ∙ rw (take_all n l (omega arith), e) (sym (sets-eq l o at h))

  pub copied_first : (n : ℕ) → n ≡ length l → length l ≤ length o → l ++ drop n o ≡ sets o 0 l
  copied_first n e h = rw (e, sets-eq l o 0 (omega arith), zero-add)

pub ruleset copies = (copied, copied_first, nat_tests)

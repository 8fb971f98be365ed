-- A turn of the loops over a text and over octets. Assumes nothing.
use mathlib.Core.Path.{◌≡◌, refl}
use mathlib.Core.Bool.{Bool, true, false, cond, ◌&&◌}
use mathlib.Core.List.{List, [], ◌∷◌, ◌++◌}
use Prim.Native.Nat.{ℕ, suc, ◌+◌, ◌-◌, ◌*◌, ◌<◌, ◌≤◌}
use native.Mathlib.Nat.{add-zero, not-suc-le-zero}
use native.Mathlib.Numerals.{add-one}
use native.Mathlib.Omega.{arith}
use lib.Dec.{eqb}
use lib.ListN.{length, get_or, take, drop, length-drop, drop_of_length-le}
use lib.Seq.{get_or-drop, drop-drop, drop-cons, sets-eq}
use Rattle.std.specs.Prelude.{Option, Some, None, not, count_by}
use Rattle.std.proofs.lemmas.Grind.{common_steps}
use Rattle.std.proofs.lemmas.List.{drop_more, take_all}
use Rattle.octets.proofs.Answers.{resumed, resumed-zero, one_more}
use Rattle.octets.proofs.Cases.{both, split}
use Rattle.octets.proofs.Lists.{sets-append}
use Rattle.xtext.specs.Xtext.{xchar, number, hexdig, hexchar, plus, valid, octets, measured, encode}
use Rattle.xtext.specs.Private.{begins}
use Rattle.xtext.proofs.Characters.{xchar-not-plus, begins_long}
use Rattle.xtext.proofs.Grammar.{Xtext, none, self, escape, valid-self, octets-self, grammar, is-valid}

-- the measure of a text of which n octets are read
unfoldable pub from : ℕ → List ℕ → Option ℕ
from n l = resumed n (valid l) (octets l)

pub starts : (t : List ℕ) → from 0 t ≡ measured t
unfolding from
starts t = resumed-zero (valid t) (octets t)

-- a turn over an xchar, over a hexchar, and where neither stands
xchar-first : (n : ℕ) (x : ℕ) (l : List ℕ) → xchar x ≡ true → from n (x ∷ l) ≡ from (n + 1) l
unfolding from
xchar-first n x l e = rw (valid-self x e l, octets-self x e l) (one_more (valid l) n x (octets l))

hexchar-first : (n : ℕ) (l : List ℕ) → 3 ≤ length l → begins l ≡ true → from n l ≡ from (n + 1) (drop 3 l)
unfolding from begins valid octets
hexchar-first n [] h e = absurd (omega arith)
hexchar-first n (x ∷ []) h e = absurd (omega arith)
hexchar-first n (x ∷ y ∷ []) h e = absurd (omega arith)
hexchar-first n (x ∷ y ∷ z ∷ r) h e =
    let a = both _ (hexdig z) e in
    let b = both (eqb x plus) (hexdig y) a.0 in
    rw (b.0, b.1, a.1) (one_more (valid r) n (hexchar y z) (octets r))

none-first : (n : ℕ) (x : ℕ) (l : List ℕ) → xchar x ≡ false → begins (x ∷ l) ≡ false → from n (x ∷ l) ≡ None
unfolding from begins valid
none-first n x [] e f = rw e
none-first n x (y ∷ []) e f = rw e
none-first n x (y ∷ z ∷ r) e f = rw e (go (eqb x plus) (hexdig y) (hexdig z) f)
  where
    go : (a b c : Bool) → (a && b && c) ≡ false → resumed n (cond a (b && c && valid r) false) (octets (x ∷ y ∷ z ∷ r)) ≡ None
    go true b c g = rw g
    go false b c g = refl

-- at index i of a text, of which k octets so far are more than what it stands for
module _ (t : List ℕ) (i k : ℕ) where
  pub xchar_turn : k ≤ i → i < length t → xchar (get_or t i 0) ≡ true → from (i - k) (drop i t) ≡ from (i + 1 - k) (drop (i + 1) t)
  xchar_turn h p e =
      let z : i - k + 1 ≡ i + 1 - k = omega arith in
      rw (drop_more t i 0 p, ← z) (xchar-first (i - k) (get_or t i 0) (drop (i + 1) t) e)

  -- the rest of the text, as code cuts it out
  rest : take (length t - i) (drop i t) ≡ drop i t
  rest = take_all (length t - i) (drop i t) (simp length-drop (omega arith))

  pub hexchar_turn : k ≤ i → begins (take (length t - i) (drop i t)) ≡ true → (from (i - k) (drop i t) ≡ from (i + 3 - (k + 2)) (drop (i + 3) t)) × (i + 3 ≤ length t)
  hexchar_turn h e =
      let f = rw rest at e in
      let z : i - k + 1 ≡ i + 3 - (k + 2) = omega arith in
      let p = begins_long (drop i t) f in
      (rw (← z) (simp drop-drop at (hexchar-first (i - k) (drop i t) p f)), omega (arith, p, length-drop i t))

  pub no_turn : i < length t → xchar (get_or t i 0) ≡ false → begins (take (length t - i) (drop i t)) ≡ false → from (i - k) (drop i t) ≡ None
  no_turn p e f = let d = drop_more t i 0 p in rw d (none-first (i - k) (get_or t i 0) (drop (i + 1) t) e (rw (rest, d) at f))

  pub finished : length t ≤ i → from (i - k) (drop i t) ≡ Some (i - k)
  unfolding from valid octets
  finished p = rw (drop_of_length-le t {i = i} p, add-zero)

-- in a valid text an xchar or a hexchar stands first
self-first : {l : List ℕ} → Xtext l → 0 < length l → (get_or l 0 0 ≡ plus → ⊥) → (octets l ≡ get_or l 0 0 ∷ octets (drop 1 l)) × (valid (drop 1 l) ≡ true)
self-first none h e = absurd (not-suc-le-zero h)
self-first (self {x} {l} k r) h e = (octets-self x k l, is-valid r)
self-first (escape p q r) h e = absurd (e refl)

escape-first : {l : List ℕ} → Xtext l → get_or l 0 0 ≡ plus
    → (octets l ≡ hexchar (get_or l 1 0) (get_or l 2 0) ∷ octets (drop 3 l)) × (valid (drop 3 l) ≡ true) × (3 ≤ length l) × (number (get_or l 1 0) < 16) × (number (get_or l 2 0) < 16)
unfolding octets
escape-first none e = absurd (omega arith)
escape-first (self {x} {l} h r) e = absurd (xchar-not-plus x h e)
escape-first (escape {y} {z} {l} p q r) e = (refl, is-valid r, omega arith, p, q)

module _ (t : List ℕ) (i : ℕ) (v : valid (drop i t) ≡ true) where
  pub self_stands : i < length t → (get_or t i 0 ≡ plus → ⊥) → (octets (drop i t) ≡ get_or t i 0 ∷ octets (drop (i + 1) t)) × (valid (drop (i + 1) t) ≡ true)
  self_stands h e = simp (get_or-drop, drop-drop, add-zero) at (self-first (grammar (drop i t) v) (simp length-drop (omega arith)) (simp (get_or-drop, add-zero) e))

  pub escape_stands : get_or t i 0 ≡ plus
      → (octets (drop i t) ≡ hexchar (get_or t (i + 1) 0) (get_or t (i + 2) 0) ∷ octets (drop (i + 3) t)) × (valid (drop (i + 3) t) ≡ true)
      × (i + 3 ≤ length t) × (number (get_or t (i + 1) 0) < 16) × (number (get_or t (i + 2) 0) < 16)
  escape_stands e =
      let h = simp (get_or-drop, drop-drop) at (escape-first (grammar (drop i t) v) (simp (get_or-drop, add-zero) e)) in
      (h.0, h.1, omega (arith, h.2, length-drop i t), h.3, h.4)

pub no_octets : (t : List ℕ) (i : ℕ) → length t ≤ i → octets (drop i t) ≡ []
unfolding octets
no_octets t i h = rw (drop_of_length-le t {i = i} h)

-- the writer: the text of an octet and of the octets after it
encode-cons : (x : ℕ) (l : List ℕ) → encode (x ∷ l) ≡ encode (x ∷ []) ++ encode l
unfolding encode
encode-cons x l = split (xchar x) (λ e. rw e) (λ e. rw e)

pub encode_turn : (l : List ℕ) (i : ℕ) → i < length l → encode (drop i l) ≡ encode (get_or l i 0 ∷ []) ++ encode (drop (i + 1) l)
encode_turn l i h = rw (add-one, drop-cons l i 0 h) (encode-cons (get_or l i 0) (drop (suc i) l))

pub encode_end : (l : List ℕ) (i : ℕ) → length l ≤ i → encode (drop i l) ≡ []
unfolding encode
encode_end l i h = rw (drop_of_length-le l {i = i} h)

-- an escape is two octets longer than what it stands for
pub length_encode : (l : List ℕ) → length l + count_by (λ x. not (xchar x)) l * 2 ≡ length (encode l)
unfolding encode
length_encode [] = refl
length_encode (x ∷ l) = split (xchar x) (λ e. grind (arith, common_steps, length_encode l)) (λ e. grind (arith, common_steps, length_encode l))

-- what the check tries at a turn of measure, at decode's end and at a turn of spell
pub ruleset measuring = (common_steps, starts, xchar_turn, hexchar_turn, no_turn, finished)

pub ruleset filling = (common_steps, self_stands, escape_stands, no_octets)

pub ruleset stored = (common_steps, sets-eq)

pub ruleset writing = (common_steps, encode_turn, encode_end, sets-append)

-- The mechanisms of an image judged where they stand. Assumes nothing.
use mathlib.Core.Path.{◌≡◌, refl, sym, ap, ap₂, ◌∙◌}
use mathlib.Core.Bool.{Bool, true, false, not, ◌&&◌, ◌||◌, and_assoc, and_comm, and-true, and-false, or_comm, or-true, true≢false}
use mathlib.Core.List.{List}
use Prim.Native.Nat.{ℕ, zero, suc, ◌+◌, ◌-◌, ◌*◌, ◌<◌, ◌≤◌}
use native.Mathlib.Omega.{arith}
use native.Mathlib.Nat.{add-zero}
use lib.Dec.{eqb, leb}
use borrow.Author.Tests.{eqb-true, eq-eqb, le-leb, lt-leb}
use lib.ListN.{length, get_or, replicate}
use Rattle.octets.specs.Lists.{every, same}
use Rattle.octets.proofs.Cases.{both}
use Rattle.octets.proofs.Padding.{run, padded-run}
use Rattle.codec.specs.Codec.{octet, get_number, get_array}
use Rattle.codec.specs.Codec as Codec
use Rattle.codec.specs.InPlace.{stands_at, canonical_at, every_at}
use Rattle.codec.proofs.Arrays.{get_array-length, take-array, every-array}
use Rattle.codec.proofs.Listed.{canonical-listed-every}
use Rattle.lines.specs.Mechanism.{mech_char, padded}
use Rattle.server.specs.Limits.{most_mechanisms}
use Rattle.server.specs.Mechanisms.{listed}
use Rattle.server.specs.WellFormed.{apart, same_name, mechanism_within, mechanisms_within}
use Rattle.image.specs.Sizes.{mechanism_size, server_mechanisms}
use Rattle.image.specs.Layout.{mechanism}
use Rattle.image.specs.InPlace.{mechanism_offset, table_at}
use Rattle.image.specs.Private.{may_stand_at, may_end, mechanism_fits, mechanisms_fit, is_other_at}
use Rattle.image.proofs.Lawful.{mechanism-lawful}
use Rattle.image.proofs.Offsets.{mechanism-size, mechanism-get}
use Rattle.image.proofs.Pieces.{places-split, places-shared}
use Rattle.image.proofs.Fields.{mechanism-canonical}

-- ---- a name

-- a name told forwards, each octet by the one after it: y, the octet at an index
module _ (l : List ℕ) where
  step : (f z g u r : Bool) → (z ≡ true → f ≡ false) → ((f || z) && ((u || g && not z) && r)) ≡ ((f || z && u) && ((g || u) && r))
  step true true g u r e = absurd (true≢false (e refl))
  step true false g u r e = rw (and-true g, or_comm g u)
  step false true g true r e = rw (or-true g)
  step false true g false r e = rw (and-false g)
  step false false g u r e = refl

  no_nul : (x : ℕ) → eqb x 0 ≡ true → mech_char x ≡ false
  no_nul x e = rw (eqb-true x 0 e)

  run-places : (n at : ℕ)
      → (may_end (get_or l at 0) && run mech_char (get_or l at 0) (get_array octet n l (at + 1))) ≡ (every_at (may_stand_at l) 1 n at && may_end (get_or l (at + n) 0))
  unfolding run get_array every_at
  run-places zero at = rw add-zero (and-true (may_end (get_or l at 0)))
  run-places (suc n) at =
      let x = get_or l at 0 in
      let y = get_or l (at + 1) 0 in
      let e : at + suc n ≡ at + 1 + n = omega arith in
      step (mech_char x) (eqb x 0) (mech_char y) (eqb y 0) (run mech_char y (get_array octet n l (at + 1 + 1))) (no_nul x)
      ∙ ap (λ (b : Bool). may_stand_at l at && b) (run-places n (at + 1))
      ∙ rw e (sym (and_assoc (may_stand_at l at) (every_at (may_stand_at l) 1 n (at + 1)) (may_end (get_or l (at + 1 + n) 0))))

  first : (f z r : Bool) → (z ≡ true → f ≡ false) → (not z && ((f || z) && r)) ≡ (f && r)
  first true true r e = absurd (true≢false (e refl))
  first true false r e = refl
  first false true r e = refl
  first false false r e = refl

  -- where the last four octets are NUL they may stand there
  last-blank : (at : ℕ) → stands_at (replicate 4 0) l at ≡ true → true ≡ (every_at (may_stand_at l) 1 3 at && may_end (get_or l (at + 3) 0))
  unfolding stands_at every_at
  last-blank at e =
      let k : at + 1 + 1 + 1 ≡ at + 3 = omega arith in
      let b = both _ _ e in
      let d = both _ _ b.1 in
      let g = both _ _ d.1 in
      let h = both _ _ g.1 in
      rw (← k, ← eqb-true 0 (get_or l at 0) b.0, ← eqb-true 0 (get_or l (at + 1) 0) d.0, ← eqb-true 0 (get_or l (at + 1 + 1) 0) g.0, ← eqb-true 0 (get_or l (at + 1 + 1 + 1) 0) h.0)

module _ (l : List ℕ) (at : ℕ) where
  within : (not (eqb (get_or l at 0) 0) && (every_at (may_stand_at l) 1 19 at && may_end (get_or l (at + 19) 0))) ≡ mechanism_within (mechanism.get l at)
  unfolding mechanism_within padded get_array
  within =
      let x = get_or l at 0 in
      rw (mechanism-get l at)
      (ap (λ (b : Bool). not (eqb x 0) && b) (sym (run-places l 19 at))
      ∙ first l (mech_char x) (eqb x 0) (run mech_char x (get_array octet 19 l (at + 1))) (no_nul l x)
      ∙ padded-run mech_char 20 (get_array octet 20 l at) refl (get_array-length octet 20 l at) (omega arith))

  abbrev starts : Bool
  starts = not (eqb (get_or l at 0) 0) && every_at (may_stand_at l) 1 16 at

  -- a name whose last four octets are NUL, and any
  pub short_name : stands_at (replicate 4 0) l (at + 16) ≡ true → starts ≡ mechanism_within (mechanism.get l at)
  short_name e =
      let k : at + 16 + 3 ≡ at + 19 = omega arith in
      let z : true ≡ (every_at (may_stand_at l) 1 3 (at + 16) && may_end (get_or l (at + 19) 0)) = rw k at (last-blank l (at + 16) e) in
      ap (λ (b : Bool). not (eqb (get_or l at 0) 0) && b)
      (sym (and-true (every_at (may_stand_at l) 1 16 at))
      ∙ ap (λ (b : Bool). every_at (may_stand_at l) 1 16 at && b) z
      ∙ sym (and_assoc (every_at (may_stand_at l) 1 16 at) (every_at (may_stand_at l) 1 3 (at + 16)) (may_end (get_or l (at + 19) 0)))
      ∙ ap (λ (b : Bool). b && may_end (get_or l (at + 19) 0)) (sym (places-split (may_stand_at l) 16 3 at)))
      ∙ within

  pub long_name : (starts && (every_at (may_stand_at l) 1 16 (at + 3) && may_end (get_or l (at + 19) 0))) ≡ mechanism_within (mechanism.get l at)
  long_name =
      and_assoc (not (eqb (get_or l at 0) 0)) (every_at (may_stand_at l) 1 16 at) (every_at (may_stand_at l) 1 16 (at + 3) && may_end (get_or l (at + 19) 0))
      ∙ ap (λ (b : Bool). not (eqb (get_or l at 0) 0) && b)
      (sym (and_assoc (every_at (may_stand_at l) 1 16 at) (every_at (may_stand_at l) 1 16 (at + 3)) (may_end (get_or l (at + 19) 0)))
      ∙ ap (λ (b : Bool). b && may_end (get_or l (at + 19) 0)) (places-shared (may_stand_at l) 3 13 3 at))
      ∙ within

  pub mechanism_tests : ((leb (get_or l (at + 20) 0) 1 && leb (get_or l (at + 21) 0) 1) && mechanism_within (mechanism.get l at)) ≡ mechanism_fits l at
  unfolding mechanism_fits
  mechanism_tests = ap (λ (b : Bool). b && mechanism_within (mechanism.get l at)) (mechanism-canonical l at)

-- ---- two names: m, the octets where the second stands

agree : (a b : Bool) → (a ≡ true → b ≡ true) → (b ≡ true → a ≡ true) → a ≡ b
agree true b f g = sym (f refl)
agree false true f g = g refl
agree false false f g = refl

module _ (l m : List ℕ) where
  -- octets are the same exactly where the numbers are that they are read as
  numbers-same : ((i : ℕ) → get_or l i 0 < 256) → ((i : ℕ) → get_or m i 0 < 256) → (k a b : ℕ)
      → eqb (get_number k l a) (get_number k m b) ≡ same (get_array octet k l a) (get_array octet k m b)
  unfolding get_number get_array same
  numbers-same o q zero a b = refl
  numbers-same o q (suc k) a b =
      let x = get_or l a 0 in
      let y = get_or m b 0 in
      let n = get_number k l (a + 1) in
      let r = get_number k m (b + 1) in
      let u : x < 256 = o a in
      let v : y < 256 = q b in
      agree (eqb (x + 256 * n) (y + 256 * r)) (eqb x y && eqb n r)
      (λ h. let s = eqb-true (x + 256 * n) (y + 256 * r) h in rw (eq-eqb x y (omega arith), eq-eqb n r (omega arith)))
      (λ h. let t = both (eqb x y) (eqb n r) h in let s = eqb-true x y t.0 in let z = eqb-true n r t.1 in eq-eqb (x + 256 * n) (y + 256 * r) (omega arith))
      ∙ ap (λ (t : Bool). eqb x y && t) (numbers-same o q k (a + 1) (b + 1))

  module _ (a b : ℕ) where
    abbrev same_at : ℕ → Bool
    same_at i = eqb (get_or l (a + i) 0) (get_or m (b + i) 0)

    same-places : (n i : ℕ) → same (get_array octet n l (a + i)) (get_array octet n m (b + i)) ≡ every_at same_at 1 n i
    unfolding get_array same every_at
    same-places zero i = refl
    same-places (suc n) i =
        let e : a + i + 1 ≡ a + (i + 1) = omega arith in
        let f : b + i + 1 ≡ b + (i + 1) = omega arith in
        rw (e, f) (ap (λ (t : Bool). same_at i && t) (same-places n (i + 1)))

    from_start : (n : ℕ) → same (get_array octet n l a) (get_array octet n m b) ≡ every_at same_at 1 n 0
    from_start n =
        ap₂ (λ (x y : ℕ). same (get_array octet n l x) (get_array octet n m y)) (sym (add-zero a)) (sym (add-zero b)) ∙ same-places n 0

    names_same : ((i : ℕ) → get_or l i 0 < 256) → ((i : ℕ) → get_or m i 0 < 256)
        → (eqb (get_number 8 l a) (get_number 8 m b)
        && (eqb (get_number 8 l (a + 8)) (get_number 8 m (b + 8)) && eqb (get_number 8 l (a + 12)) (get_number 8 m (b + 12))))
        ≡ same (get_array octet 20 l a) (get_array octet 20 m b)
    names_same o q =
        let first : eqb (get_number 8 l a) (get_number 8 m b) ≡ every_at same_at 1 8 0 = numbers-same o q 8 a b ∙ from_start 8 in
        ap₂ ◌&&◌ first
        (ap₂ ◌&&◌ (numbers-same o q 8 (a + 8) (b + 8) ∙ same-places 8 8) (numbers-same o q 8 (a + 12) (b + 12) ∙ same-places 8 12)
        ∙ places-shared same_at 4 4 4 8)
        ∙ sym (places-split same_at 8 12 0)
        ∙ sym (from_start 20)

    module _ (o : (i : ℕ) → get_or l i 0 < 256) (q : (i : ℕ) → get_or m i 0 < 256) where
      pub names-other : eqb (get_number 8 l a) (get_number 8 m b) ≡ false → false ≡ same (get_array octet 20 l a) (get_array octet 20 m b)
      names-other e = rw e at (names_same o q)

      pub names-rest : eqb (get_number 8 l a) (get_number 8 m b) ≡ true
          → (eqb (get_number 8 l (a + 8)) (get_number 8 m (b + 8)) && eqb (get_number 8 l (a + 12)) (get_number 8 m (b + 12)))
          ≡ same (get_array octet 20 l a) (get_array octet 20 m b)
      names-rest e = rw e at (names_same o q)

pub same-name-at : (l : List ℕ) (a b : ℕ) → same_name (mechanism.get l a) (mechanism.get l b) ≡ same (get_array octet 20 l a) (get_array octet 20 l b)
same-name-at l a b = rw (mechanism-get l a, mechanism-get l b)

-- ---- the records: a loop that does not leave early, where w is what the whole comes to and ok what came of the first i records

sorted : (k f g a b : Bool) → (k && ((f && g) && (a && b))) ≡ ((k && (f && a)) && (g && b))
sorted false f g a b = refl
sorted true false g a b = refl
sorted true true g true b = refl
sorted true true true false b = refl
sorted true true false false b = refl

module _ (l : List ℕ) where
  abbrev pub records_fit : ℕ → ℕ → Bool
  records_fit n at = every_at (mechanism_fits l) mechanism_size n at && apart same_name (get_array mechanism n l at)

  apart-turn : (n at : ℕ) → apart same_name (get_array mechanism (suc n) l at)
      ≡ (every_at (is_other_at l at) mechanism_size n (at + mechanism_size) && apart same_name (get_array mechanism n l (at + mechanism_size)))
  unfolding get_array apart
  apart-turn n at =
      ap
      (λ (k : ℕ). every (λ x. not (same_name (mechanism.get l at) x)) (get_array mechanism n l (at + k)) && apart same_name (get_array mechanism n l (at + k)))
      mechanism-size
      ∙ ap (λ (t : Bool). t && apart same_name (get_array mechanism n l (at + mechanism_size)))
      (every-array mechanism mechanism_size mechanism-size n l (at + mechanism_size) (λ x. not (same_name (mechanism.get l at) x)))

  module _ (w ok : Bool) (i n at : ℕ) (inv : w ≡ (ok && records_fit (n - i) (at + i * mechanism_size))) where
    pub records-turn : i < n
        → w ≡ ((ok && (mechanism_fits l (at + i * mechanism_size) && every_at (is_other_at l (at + i * mechanism_size)) mechanism_size (n - (i + 1)) (at + i * mechanism_size + mechanism_size)))
        && records_fit (n - (i + 1)) (at + (i + 1) * mechanism_size))
    unfolding every_at
    records-turn h =
        let e : n - i ≡ suc (n - (i + 1)) = omega arith in
        let b = at + i * mechanism_size in
        let f : at + (i + 1) * mechanism_size ≡ b + mechanism_size = omega arith in
        inv ∙ rw (e, f, apart-turn (n - (i + 1)) b)
        (sorted ok (mechanism_fits l b) (every_at (mechanism_fits l) mechanism_size (n - (i + 1)) (b + mechanism_size))
        (every_at (is_other_at l b) mechanism_size (n - (i + 1)) (b + mechanism_size)) (apart same_name (get_array mechanism (n - (i + 1)) l (b + mechanism_size))))

    pub records-end : n ≤ i → w ≡ ok
    unfolding every_at get_array apart
    records-end h =
        let e : n - i ≡ 0 = omega arith in
        inv ∙ rw e (and-true ok)

-- ---- the table

swapped : (c k e a : Bool) → (c && (k && (e && a))) ≡ ((c && e) && (k && a))
swapped true k true a = refl
swapped true true false a = refl
swapped true false false a = refl
swapped false k e a = refl

gathered : (f z a : Bool) → ((f && a) && z) ≡ ((f && z) && a)
gathered true z a = and_comm a z
gathered false z a = refl

module _ (l : List ℕ) where
  abbrev count : ℕ
  count = get_or l server_mechanisms 0

  -- the mechanisms that are listed stand in the first records
  table-listed : count ≤ most_mechanisms → listed (table_at l) ≡ get_array mechanism count l (mechanism_offset 0)
  table-listed h = take-array mechanism count most_mechanisms l (mechanism_offset 0) h

  parted : mechanisms_fit l
      ≡ ((leb count most_mechanisms
      && (every_at (mechanism_fits l) mechanism_size count (mechanism_offset 0)
      && stands_at (replicate ((most_mechanisms - count) * mechanism_size) 0) l (mechanism_offset 0 + count * mechanism_size)))
      && (leb (length (listed (table_at l))) most_mechanisms && apart same_name (listed (table_at l))))
  unfolding mechanisms_fit mechanisms_within mechanism_fits
  parted =
      let ms = listed (table_at l) in
      swapped (canonical_at (Codec.listed mechanism most_mechanisms) l server_mechanisms) (leb (length ms) most_mechanisms) (every mechanism_within ms) (apart same_name ms)
      ∙ ap (λ (t : Bool). t && (leb (length ms) most_mechanisms && apart same_name ms))
      (canonical-listed-every mechanism-lawful mechanism_size mechanism-size most_mechanisms l server_mechanisms mechanism_within)

  pub table_many : most_mechanisms < count → false ≡ mechanisms_fit l
  table_many h = sym (parted ∙ rw (lt-leb count most_mechanisms h))

  pub table_fits : count ≤ most_mechanisms
      → ((every_at (mechanism_fits l) mechanism_size count (mechanism_offset 0) && apart same_name (get_array mechanism count l (mechanism_offset 0)))
      && stands_at (replicate ((most_mechanisms - count) * mechanism_size) 0) l (mechanism_offset 0 + count * mechanism_size))
      ≡ mechanisms_fit l
  table_fits h =
      let xs = get_array mechanism count l (mechanism_offset 0) in
      let len : length xs ≡ count = get_array-length mechanism count l (mechanism_offset 0) in
      sym (parted ∙ rw (table-listed h, len, le-leb count most_mechanisms h)
      (sym (gathered (every_at (mechanism_fits l) mechanism_size count (mechanism_offset 0))
      (stands_at (replicate ((most_mechanisms - count) * mechanism_size) 0) l (mechanism_offset 0 + count * mechanism_size)) (apart same_name xs))))

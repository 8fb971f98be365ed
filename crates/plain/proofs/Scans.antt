-- A message read from octet to octet comes to its fields. Assumes nothing.
use mathlib.Core.Path.{◌≡◌, refl, sym, ◌∙◌, ap}
use mathlib.Core.Bool.{Bool, true, false, cond, not, ◌&&◌, and-false}
use mathlib.Core.List.{List, [], ◌∷◌, ◌++◌}
use Prim.Native.Nat.{ℕ, zero, suc, ◌+◌, ◌-◌, ◌/◌, ◌<◌, ◌≤◌}
use native.Mathlib.Nat.{add-zero, zero-add}
use native.Mathlib.Omega.{arith}
use borrow.Author.Tests.{lt-ltb, ne_eqb}
use lib.Dec.{ltb, eqb}
use lib.ListN.{length, get_or, drop}
use Rattle.std.proofs.lemmas.List.{drop_more, drop_all}
use Rattle.std.specs.Prelude.{Option, Some, None, option_and_then}
use Rattle.octets.specs.Lists.{is_empty, holds, before, after}
use Rattle.octets.proofs.Cases.{picked}
use Rattle.std.specs.List.{flat_map}
use Rattle.std.specs.Simd.{first_chunks}
use Rattle.base64text.specs.Base64.{octets, octets_of}
use Rattle.base64text.proofs.Laws.{octets_at, octets_groups}
use Rattle.base64text.specs.declared.Group.{Group}
use Rattle.base64text.specs.declared.Group.TheVariants.{One, Two, Three}
use Rattle.plain.specs.declared.Lengths.{Lengths}
use Rattle.plain.specs.declared.scan.Field.{Field}
use Rattle.plain.specs.declared.scan.Field.TheVariants.{Authzid, Authcid, Password}
use Rattle.plain.specs.declared.scan.Scan.{Scan}
use Rattle.plain.specs.declared.utf8.Need.{Need}
use Rattle.plain.specs.Utf8.{within, tails, lead, follow, safe_from, safe}
use Rattle.plain.specs.Message.{lengths, well_formed, fields}
use Rattle.plain.specs.Private.{scanned, started, next, begun, ended, gone_on, longer, step, scan, finished}
use Rattle.plain.proofs.Grammar.{Row, row-utf1, row-utf2, row_utf3_E0, row_utf3_E1, row_utf3_ED, row_utf3_EE, row_utf4_F0, row_utf4_F1, row_utf4_F4}
use Rattle.plain.proofs.Grammar.{no_row, row, below}

-- what is read from a scan on
abbrev pub result : Option Scan → List ℕ → Option Lengths
result s l = option_and_then finished (scan s l)

-- in two parts
pub scan-append : (s : Option Scan) (l r : List ℕ) → scan s (l ++ r) ≡ scan (scan s l) r
unfolding scan
scan-append None l r = refl
scan-append (Some s) [] r = refl
scan-append (Some s) (x ∷ l) r = scan-append (step s x) l r

-- NUL goes on no character
abbrev Sound : Need → Type 0
Sound n = 1 ≤ n.lo

abbrev Sounds : Option Need → Type 0
Sounds None = Unit {0}
Sounds (Some n) = Sound n

row-sound : (x : ℕ) (n : Option Need) → Row x n → Sounds n
row-sound x n (row-utf1 h) = omega arith
row-sound x n (row-utf2 h) = omega arith
row-sound x n (row_utf3_E0 h) = omega arith
row-sound x n (row_utf3_E1 h) = omega arith
row-sound x n (row_utf3_ED h) = omega arith
row-sound x n (row_utf3_EE h) = omega arith
row-sound x n (row_utf4_F0 h) = omega arith
row-sound x n (row_utf4_F1 h) = omega arith
row-sound x n (row_utf4_F4 h) = omega arith
row-sound x n no_row = tt

follow-sound : (n : Need) (x : ℕ) → Sounds (follow n x)
follow-sound n x = go (eqb n.more 0) (within n.lo n.hi x)
  where
    go : (b c : Bool) → Sounds (cond b (lead x) (cond c (Some (tails (n.more - 1))) None))
    go true c = row-sound x (lead x) (row x)
    go false true = omega arith
    go false false = tt

-- NUL, and any other octet
nul : (s : Scan) → step s 0 ≡ ended s
unfolding step
nul s = refl

other : (s : Scan) (x : ℕ) → (x ≡ 0 → ⊥) → step s x ≡ longer s x
unfolding step
other s x e = rw (ne_eqb x 0 e)

-- ---- a field that NUL ends: f, of which k octets are read, and what must follow is n

module _ (f : Field) (h : (n : Need) (k : ℕ) → finished (scanned n f k) ≡ None) where
  -- where NUL comes
  at-nul : (l : List ℕ) (n : Need) (k : ℕ) (b : Bool) → eqb n.more 0 ≡ b
      → result (cond (eqb n.more 0) (begun (next f k)) None) l ≡ cond (eqb n.more 0) (result (begun (next f (k + 0))) l) None
  unfolding scan
  at-nul l n k true e = rw (e, add-zero)
  at-nul l n k false e = rw e

  field-read : (l : List ℕ) (n : Need) (k : ℕ)
      → result (Some (scanned n f k)) l ≡ cond (holds 0 l && safe_from (Some n) (before 0 l)) (result (begun (next f (k + length (before 0 l)))) (after 0 l)) None
  unfolding scan step before after safe_from
  field-read [] n k = h n k
  field-read (zero ∷ l) n k = at-nul l n k (eqb n.more 0) refl
  field-read (suc x ∷ l) n k =
      let z : eqb (suc x) 0 ≡ false = ne_eqb (suc x) 0 (λ e. omega arith) in
      ap (λ o. result o l) (other (scanned n f k) (suc x) (λ e. omega arith))
      ∙ rw z (go (follow n (suc x)) (λ m. field-read l m (k + 1)))
    where
      go : (o : Option Need)
          → ((m : Need) → result (Some (scanned m f (k + 1))) l ≡ cond (holds 0 l && safe_from (Some m) (before 0 l)) (result (begun (next f (k + 1 + length (before 0 l)))) (after 0 l)) None)
          → result (gone_on o (scanned n f k)) l ≡ cond (holds 0 l && safe_from o (before 0 l)) (result (begun (next f (k + suc (length (before 0 l))))) (after 0 l)) None
      go None ih = rw (and-false (holds 0 l))
      go (Some m) ih = let e : k + 1 + length (before 0 l) ≡ k + suc (length (before 0 l)) = omega arith in rw e at (ih m)

-- ---- the last field

follow-nul : (n : Need) → Sound n → follow n 0 ≡ None
unfolding lead
follow-nul n h = go (eqb n.more 0)
  where
    go : (b : Bool) → cond b (lead 0) (cond (within n.lo n.hi 0) (Some (tails (n.more - 1))) None) ≡ None
    go true = refl
    go false = rw (below n.lo n.hi 0 h)

module _ (a c : ℕ) where
  abbrev whole : Bool → ℕ → Option Lengths
  whole b k = cond (b && ltb 0 c && ltb 0 k) (Some (lengths a c k)) None

  last-read : (l : List ℕ) (n : Need) (k : ℕ) → Sound n → result (Some (scanned n (Password a c) k)) l ≡ whole (safe_from (Some n) l) (k + length l)
  unfolding scan finished safe_from
  last-read [] n k h = rw add-zero
  last-read (zero ∷ l) n k h =
      ap (λ o. result o l) (nul (scanned n (Password a c) k) ∙ picked (λ (o : Option Scan). o ≡ None) (eqb n.more 0) None None refl refl)
      ∙ ap (λ o. whole (safe_from o l) (k + suc (length l))) (sym (follow-nul n h))
  last-read (suc x ∷ l) n k h =
      ap (λ o. result o l) (other (scanned n (Password a c) k) (suc x) (λ e. omega arith))
      ∙ go (follow n (suc x)) (follow-sound n (suc x)) (λ m s. last-read l m (k + 1) s)
    where
      go : (o : Option Need) → Sounds o → ((m : Need) → Sound m → result (Some (scanned m (Password a c) (k + 1))) l ≡ whole (safe_from (Some m) l) (k + 1 + length l))
          → result (gone_on o (scanned n (Password a c) k)) l ≡ whole (safe_from o l) (k + suc (length l))
      go None s ih = refl
      go (Some m) s ih = let e : k + 1 + length l ≡ k + suc (length l) = omega arith in rw e at (ih m s)

-- ---- a message

-- a list is not empty exactly where it has octets
some-octets : (l : List ℕ) → ltb 0 (length l) ≡ not (is_empty l)
some-octets [] = refl
some-octets (x ∷ l) = lt-ltb 0 (suc (length l)) (omega arith)

-- the tests one after the other, and all at once
module _ (x y : Option Lengths) (k c n p m : Bool) where
  in_turn : (h a : Bool) → cond (h && a) (cond (k && c) (cond (p && n && m) x y) y) y ≡ cond (h && k && (a && (c && n) && (p && m))) x y
  in_turn false a = refl
  in_turn true false = rw (and-false k)
  in_turn true true = second k c
    where
      third : (p n m : Bool) → cond (p && n && m) x y ≡ cond (n && (p && m)) x y
      third false n m = rw (and-false n)
      third true true m = refl
      third true false m = refl

      second : (k c : Bool) → cond (k && c) (cond (p && n && m) x y) y ≡ cond (k && (c && n && (p && m))) x y
      second false c = refl
      second true false = refl
      second true true = third p n m

pub scanned-fields : (m : List ℕ) → result (Some started) m ≡ fields m
unfolding well_formed fields finished
scanned-fields m =
    let a = before 0 m in
    let r = after 0 m in
    field-read Authzid (λ n k. refl) m (tails 0) 0
    ∙ rw (
      zero-add (length a),
      field-read (Authcid (length a)) (λ n k. refl) r (tails 0) 0,
      zero-add (length (before 0 r)),
      last-read (length a) (length (before 0 r)) (after 0 r) (tails 0) 0 (omega arith),
      zero-add (length (after 0 r)),
      some-octets (before 0 r),
      some-octets (after 0 r),
    )
    (in_turn _ _ (holds 0 r) (safe (before 0 r)) _ (safe (after 0 r)) _ (holds 0 m) (safe a))

-- ---- turns of the loops

-- over a field
module _ (n : Need) (l : List ℕ) (i : ℕ) where
  pub safe_turn : i < length l → safe_from (Some n) (drop i l) ≡ safe_from (follow n (get_or l i 0)) (drop (i + 1) l)
  unfolding safe_from
  safe_turn h = ap (safe_from (Some n)) (drop_more l i 0 h)

  pub safe_end : length l ≤ i → safe_from (Some n) (drop i l) ≡ eqb n.more 0
  unfolding safe_from
  safe_end h = ap (safe_from (Some n)) (drop_all i l h)

pub safe_none : (l : List ℕ) → safe_from None l ≡ false
unfolding safe_from
safe_none l = refl

pub ruleset checking = (safe_turn, safe_end, safe_none)

-- an octet adds one at the most to a field's length
pub grown : (s u : Scan) (x : ℕ) → step s x ≡ Some u → u.length ≤ s.length + 1
unfolding step
grown s u x e = go (eqb x 0) (eqb s.need.more 0) (next s.field s.length) (follow s.need x) e
  where
    go : (b c : Bool) (f : Option Field) (n : Option Need) → cond b (cond c (begun f) None) (gone_on n s) ≡ Some u → u.length ≤ s.length + 1
    go true true None n e = absurd (cc)
    go true true (Some f) n e = let k : scanned (tails 0) f 0 ≡ u = cc in omega (arith, ap (λ (z : Scan). z.length) k)
    go true false f n e = absurd (cc)
    go false c f None e = absurd (cc)
    go false c f (Some n) e = let k : scanned n s.field (s.length + 1) ≡ u = cc in omega (arith, ap (λ (z : Scan). z.length) k)

-- over a message
module _ (s : Scan) (l : List ℕ) (i : ℕ) where
  pub read_turn : i < length l → result (Some s) (drop i l) ≡ result (step s (get_or l i 0)) (drop (i + 1) l)
  unfolding scan
  read_turn h = ap (result (Some s)) (drop_more l i 0 h)

  pub read_end : length l ≤ i → result (Some s) (drop i l) ≡ finished s
  unfolding scan
  read_end h = ap (result (Some s)) (drop_all i l h)

pub nothing_more : (l : List ℕ) → result None l ≡ None
unfolding scan
nothing_more l = refl

pub read_all : (m : List ℕ) → fields m ≡ result (Some started) m
read_all m = sym (scanned-fields m)

pub ruleset reading = (read_turn, read_end, read_all, nothing_more, grown)

-- over a response in base64, group by group
pub grown_by : (l : List ℕ) (s u : Scan) → scan (Some s) l ≡ Some u → u.length ≤ s.length + length l
unfolding scan
grown_by [] s u e = let k : s ≡ u = cc in omega (arith, ap (λ (z : Scan). z.length) k)
grown_by (x ∷ l) s u e = go (step s x) refl e (λ v f. grown_by l v u f)
  where
    go : (o : Option Scan) → step s x ≡ o → scan o l ≡ Some u → ((v : Scan) → scan (Some v) l ≡ Some u → u.length ≤ v.length + length l) → u.length ≤ s.length + suc (length l)
    go None f e rec = absurd (cc)
    go (Some v) f e rec = omega (arith, grown s v x f, rec v e)

pub three_most : (g : Group) → length (octets_of g) ≤ 3
three_most (One x) = omega arith
three_most (Two x y) = omega arith
three_most (Three x y z) = omega arith

module _ (s : Scan) (gs : List (List ℕ)) (i : ℕ) where
  pub group_turn : i < length gs → result (Some s) (flat_map octets_at (drop i gs)) ≡ result (scan (Some s) (octets_at (get_or gs i []))) (flat_map octets_at (drop (i + 1) gs))
  group_turn h =
      ap (λ l. result (Some s) (flat_map octets_at l)) (drop_more gs i [] h)
      ∙ ap (option_and_then finished) (scan-append (Some s) (octets_at (get_or gs i [])) (flat_map octets_at (drop (i + 1) gs)))

  pub groups_end : length gs ≤ i → result (Some s) (flat_map octets_at (drop i gs)) ≡ finished s
  unfolding scan
  groups_end h = ap (λ l. result (Some s) (flat_map octets_at l)) (drop_all i gs h)

pub no_octets : (s : Scan) → scan (Some s) [] ≡ Some s
unfolding scan
no_octets s = refl

pub measure_all : (t : List ℕ) → fields (octets t) ≡ result (Some started) (flat_map octets_at (first_chunks 4 (length t / 4) t))
measure_all t = sym (scanned-fields (octets t)) ∙ ap (result (Some started)) (octets_groups t)

pub ruleset measuring = (group_turn, groups_end, measure_all, no_octets, nothing_more, grown_by, three_most)

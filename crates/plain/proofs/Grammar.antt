-- Octets pass the test exactly where they are of the grammar. Assumes nothing.
use mathlib.Core.Path.{◌≡◌, refl, sym, ◌∙◌, ap}
use mathlib.Core.Bool.{Bool, true, false, cond, ◌&&◌, false≢true}
use mathlib.Core.List.{List, [], ◌∷◌, ◌++◌}
use Prim.Native.Nat.{ℕ, zero, suc, ◌-◌, ◌<◌, ◌≤◌}
use native.Mathlib.Omega.{arith}
use borrow.Author.Tests.{le-leb, lt-leb, leb-true, ne_eqb}
use lib.Dec.{leb, eqb}
use lib.ListN.{length}
use Rattle.std.specs.Prelude.{Option, Some, None}
use Rattle.octets.specs.Lists.{holds}
use Rattle.octets.proofs.Cases.{both}
use Rattle.plain.specs.declared.utf8.Need.{Need}
use Rattle.plain.specs.Utf8.{In, Tail, Safe, utf1, utf2, utf3_E0, utf3_E1, utf3_ED, utf3_EE, utf4_F0, utf4_F1, utf4_F4, Safes, none, more}
use Rattle.plain.specs.Utf8.{within, need, tails, lead, follow, safe_from, safe}

-- a range and its test
module _ (lo hi x : ℕ) where
  pub in_within : In lo hi x → within lo hi x ≡ true
  in_within h = rw (le-leb _ _ h.0, le-leb _ _ h.1)

  pub within_in : within lo hi x ≡ true → In lo hi x
  within_in e = let h = both (leb lo x) (leb x hi) e in (leb-true _ _ h.0, leb-true _ _ h.1)

  above : hi < x → within lo hi x ≡ false
  above h = go (leb lo x)
    where
      go : (b : Bool) → (b && leb x hi) ≡ false
      go true = lt-leb _ _ h
      go false = refl

  pub below : x < lo → within lo hi x ≡ false
  below h = rw (lt-leb _ _ h)

-- what follows a first octet, row by row: it is past the rows before its own
module _ (x : ℕ) where
  past : {m : ℕ} → m ≤ x → (lo hi : ℕ) → hi < m → within lo hi x ≡ false
  past h lo hi k = above lo hi x (omega (arith, h, k))

  pub lead-utf1 : In 0x01 0x7F x → lead x ≡ Some (tails 0)
  unfolding lead
  lead-utf1 h = rw (in_within 0x01 0x7F x h)

  pub lead-utf2 : In 0xC2 0xDF x → lead x ≡ Some (tails 1)
  unfolding lead
  lead-utf2 h =
      let p = past h.0 in
      rw (p 0x01 0x7F (omega arith), in_within 0xC2 0xDF x h)

  pub lead_utf3_E0 : In 0xE0 0xE0 x → lead x ≡ Some (need 2 0xA0 0xBF)
  unfolding lead
  lead_utf3_E0 h =
      let p = past h.0 in
      rw (p 0x01 0x7F (omega arith), p 0xC2 0xDF (omega arith), in_within 0xE0 0xE0 x h)

  pub lead_utf3_E1 : In 0xE1 0xEC x → lead x ≡ Some (tails 2)
  unfolding lead
  lead_utf3_E1 h =
      let p = past h.0 in
      rw (p 0x01 0x7F (omega arith), p 0xC2 0xDF (omega arith), p 0xE0 0xE0 (omega arith), in_within 0xE1 0xEC x h)

  pub lead_utf3_ED : In 0xED 0xED x → lead x ≡ Some (need 2 0x80 0x9F)
  unfolding lead
  lead_utf3_ED h =
      let p = past h.0 in
      rw (p 0x01 0x7F (omega arith), p 0xC2 0xDF (omega arith), p 0xE0 0xE0 (omega arith), p 0xE1 0xEC (omega arith), in_within 0xED 0xED x h)

  pub lead_utf3_EE : In 0xEE 0xEF x → lead x ≡ Some (tails 2)
  unfolding lead
  lead_utf3_EE h =
      let p = past h.0 in
      rw (
        p 0x01 0x7F (omega arith),
        p 0xC2 0xDF (omega arith),
        p 0xE0 0xE0 (omega arith),
        p 0xE1 0xEC (omega arith),
        p 0xED 0xED (omega arith),
        in_within 0xEE 0xEF x h,
      )

  pub lead_utf4_F0 : In 0xF0 0xF0 x → lead x ≡ Some (need 3 0x90 0xBF)
  unfolding lead
  lead_utf4_F0 h =
      let p = past h.0 in
      rw (
        p 0x01 0x7F (omega arith),
        p 0xC2 0xDF (omega arith),
        p 0xE0 0xE0 (omega arith),
        p 0xE1 0xEC (omega arith),
        p 0xED 0xED (omega arith),
        p 0xEE 0xEF (omega arith),
        in_within 0xF0 0xF0 x h,
      )

  pub lead_utf4_F1 : In 0xF1 0xF3 x → lead x ≡ Some (tails 3)
  unfolding lead
  lead_utf4_F1 h =
      let p = past h.0 in
      rw (
        p 0x01 0x7F (omega arith),
        p 0xC2 0xDF (omega arith),
        p 0xE0 0xE0 (omega arith),
        p 0xE1 0xEC (omega arith),
        p 0xED 0xED (omega arith),
        p 0xEE 0xEF (omega arith),
        p 0xF0 0xF0 (omega arith),
        in_within 0xF1 0xF3 x h,
      )

  pub lead_utf4_F4 : In 0xF4 0xF4 x → lead x ≡ Some (need 3 0x80 0x8F)
  unfolding lead
  lead_utf4_F4 h =
      let p = past h.0 in
      rw (
        p 0x01 0x7F (omega arith),
        p 0xC2 0xDF (omega arith),
        p 0xE0 0xE0 (omega arith),
        p 0xE1 0xEC (omega arith),
        p 0xED 0xED (omega arith),
        p 0xEE 0xEF (omega arith),
        p 0xF0 0xF0 (omega arith),
        p 0xF1 0xF3 (omega arith),
        in_within 0xF4 0xF4 x h,
      )

-- and back: the row of a first octet
pub data Row (x : ℕ) : Option Need → Type 0 where
  row-utf1 : In 0x01 0x7F x → Row x (Some (tails 0))
  row-utf2 : In 0xC2 0xDF x → Row x (Some (tails 1))
  row_utf3_E0 : In 0xE0 0xE0 x → Row x (Some (need 2 0xA0 0xBF))
  row_utf3_E1 : In 0xE1 0xEC x → Row x (Some (tails 2))
  row_utf3_ED : In 0xED 0xED x → Row x (Some (need 2 0x80 0x9F))
  row_utf3_EE : In 0xEE 0xEF x → Row x (Some (tails 2))
  row_utf4_F0 : In 0xF0 0xF0 x → Row x (Some (need 3 0x90 0xBF))
  row_utf4_F1 : In 0xF1 0xF3 x → Row x (Some (tails 3))
  row_utf4_F4 : In 0xF4 0xF4 x → Row x (Some (need 3 0x80 0x8F))
  no_row : Row x None

pick : (x : ℕ) (b : Bool) (n m : Option Need) → (b ≡ true → Row x n) → Row x m → Row x (cond b n m)
pick x true n m f g = f refl
pick x false n m f g = g

pub row : (x : ℕ) → Row x (lead x)
unfolding lead
row x =
    pick x _ _ _ (λ e. row-utf1 (within_in _ _ x e)) (
    pick x _ _ _ (λ e. row-utf2 (within_in _ _ x e)) (
    pick x _ _ _ (λ e. row_utf3_E0 (within_in _ _ x e)) (
    pick x _ _ _ (λ e. row_utf3_E1 (within_in _ _ x e)) (
    pick x _ _ _ (λ e. row_utf3_ED (within_in _ _ x e)) (
    pick x _ _ _ (λ e. row_utf3_EE (within_in _ _ x e)) (
    pick x _ _ _ (λ e. row_utf4_F0 (within_in _ _ x e)) (
    pick x _ _ _ (λ e. row_utf4_F1 (within_in _ _ x e)) (
    pick x _ _ _ (λ e. row_utf4_F4 (within_in _ _ x e)) no_row))))))))

-- the next octet of a character
data Next (lo hi k : ℕ) : List ℕ → Type 0 where
  next : {b : ℕ} {l : List ℕ} → In lo hi b → safe_from (Some (tails k)) l ≡ true → Next lo hi k (b ∷ l)

not-met : (k : ℕ) → eqb (suc k) 0 ≡ false
not-met k = ne_eqb (suc k) 0 (λ e. omega arith)

one_less : (k : ℕ) → suc k - 1 ≡ k
one_less k = omega arith

follow-more : (k lo hi b : ℕ) → follow (need (suc k) lo hi) b ≡ cond (within lo hi b) (Some (tails k)) None
follow-more k lo hi b = rw (not-met k, one_less k)

next_of : (k lo hi : ℕ) (l : List ℕ) → safe_from (Some (need (suc k) lo hi)) l ≡ true → Next lo hi k l
unfolding safe_from
next_of k lo hi [] e = absurd (false≢true (sym (not-met k) ∙ e))
next_of k lo hi (b ∷ l) e = go (within lo hi b) refl (ap (λ o. safe_from o l) (sym (follow-more k lo hi b)) ∙ e)
  where
    go : (t : Bool) → within lo hi b ≡ t → safe_from (cond t (Some (tails k)) None) l ≡ true → Next lo hi k (b ∷ l)
    go true h e = next (within_in lo hi b h) e
    go false h e = absurd (false≢true e)

-- characters from their first octet a on; rec: what follows is of the grammar
module _ (a : ℕ) where
  abbrev Rest : ℕ → Type 0
  Rest n = (m : List ℕ) → length m ≤ n → safe_from (Some (tails 0)) m ≡ true → Safes m

  two : (l : List ℕ) → ((b : ℕ) → Tail b → Safe (a ∷ b ∷ [])) → Next 0x80 0xBF 0 l → Rest (length l) → Safes (a ∷ l)
  two l con (next {b = b} {l = m} t e) rec = more (con b t) (rec m (omega arith) e)

  three_2 : (b : ℕ) (l : List ℕ) → ((c : ℕ) → Tail c → Safe (a ∷ b ∷ c ∷ [])) → Next 0x80 0xBF 0 l → Rest (length l) → Safes (a ∷ b ∷ l)
  three_2 b l con (next {b = c} {l = m} t e) rec = more (con c t) (rec m (omega arith) e)

  three : (lo hi : ℕ) (l : List ℕ) → ((b c : ℕ) → In lo hi b → Tail c → Safe (a ∷ b ∷ c ∷ [])) → Next lo hi 1 l → Rest (length l) → Safes (a ∷ l)
  three lo hi l con (next {b = b} {l = m} t e) rec = three_2 b m (λ c u. con b c t u) (next_of 0 0x80 0xBF m e) (λ n h. rec n (omega arith))

  four_3 : (b c : ℕ) (l : List ℕ) → ((d : ℕ) → Tail d → Safe (a ∷ b ∷ c ∷ d ∷ [])) → Next 0x80 0xBF 0 l → Rest (length l) → Safes (a ∷ b ∷ c ∷ l)
  four_3 b c l con (next {b = d} {l = m} t e) rec = more (con d t) (rec m (omega arith) e)

  four_2 : (b : ℕ) (l : List ℕ) → ((c d : ℕ) → Tail c → Tail d → Safe (a ∷ b ∷ c ∷ d ∷ [])) → Next 0x80 0xBF 1 l → Rest (length l) → Safes (a ∷ b ∷ l)
  four_2 b l con (next {b = c} {l = m} t e) rec = four_3 b c m (λ d u. con c d t u) (next_of 0 0x80 0xBF m e) (λ n h. rec n (omega arith))

  four : (lo hi : ℕ) (l : List ℕ) → ((b c d : ℕ) → In lo hi b → Tail c → Tail d → Safe (a ∷ b ∷ c ∷ d ∷ [])) → Next lo hi 2 l → Rest (length l) → Safes (a ∷ l)
  four lo hi l con (next {b = b} {l = m} t e) rec = four_2 b m (λ c d u v. con b c d t u v) (next_of 1 0x80 0xBF m e) (λ n h. rec n (omega arith))

  begun : (n : Option Need) → Row a n → (l : List ℕ) → safe_from n l ≡ true → Rest (length l) → Safes (a ∷ l)
  unfolding safe_from
  begun n (row-utf1 h) l e rec = more (utf1 h) (rec l (omega arith) e)
  begun n (row-utf2 h) l e rec = two l (λ b t. utf2 h t) (next_of 0 0x80 0xBF l e) rec
  begun n (row_utf3_E0 h) l e rec = three 0xA0 0xBF l (λ b c t u. utf3_E0 h t u) (next_of 1 0xA0 0xBF l e) rec
  begun n (row_utf3_E1 h) l e rec = three 0x80 0xBF l (λ b c t u. utf3_E1 h t u) (next_of 1 0x80 0xBF l e) rec
  begun n (row_utf3_ED h) l e rec = three 0x80 0x9F l (λ b c t u. utf3_ED h t u) (next_of 1 0x80 0x9F l e) rec
  begun n (row_utf3_EE h) l e rec = three 0x80 0xBF l (λ b c t u. utf3_EE h t u) (next_of 1 0x80 0xBF l e) rec
  begun n (row_utf4_F0 h) l e rec = four 0x90 0xBF l (λ b c d t u v. utf4_F0 h t u v) (next_of 2 0x90 0xBF l e) rec
  begun n (row_utf4_F1 h) l e rec = four 0x80 0xBF l (λ b c d t u v. utf4_F1 h t u v) (next_of 2 0x80 0xBF l e) rec
  begun n (row_utf4_F4 h) l e rec = four 0x80 0x8F l (λ b c d t u v. utf4_F4 h t u v) (next_of 2 0x80 0x8F l e) rec
  begun n no_row l e rec = absurd (false≢true e)

-- n: so many octets at the most
of_length : (n : ℕ) (l : List ℕ) → length l ≤ n → safe_from (Some (tails 0)) l ≡ true → Safes l
unfolding safe_from
of_length zero [] h e = none
of_length zero (a ∷ l) h e = absurd (omega arith)
of_length (suc n) [] h e = none
of_length (suc n) (a ∷ l) h e = begun a (lead a) (row a) l e (λ m k. of_length n m (omega arith))

-- what passes the test is of the grammar
pub safe-grammar : (l : List ℕ) → safe l ≡ true → Safes l
safe-grammar l e = of_length (length l) l (omega arith) e

-- and what is of the grammar passes
after-character : {c : List ℕ} → Safe c → (l : List ℕ) → safe_from (Some (tails 0)) (c ++ l) ≡ safe_from (Some (tails 0)) l
unfolding safe_from
after-character (utf1 {a} ha) l = rw (safe_from, lead-utf1 a ha)
after-character (utf2 {a} {b} ha hb) l = rw (safe_from, lead-utf2 a ha, in_within _ _ b hb)
after-character (utf3_E0 {a} {b} {c} ha hb hc) l = rw (safe_from, lead_utf3_E0 a ha, in_within _ _ b hb, in_within _ _ c hc)
after-character (utf3_E1 {a} {b} {c} ha hb hc) l = rw (safe_from, lead_utf3_E1 a ha, in_within _ _ b hb, in_within _ _ c hc)
after-character (utf3_ED {a} {b} {c} ha hb hc) l = rw (safe_from, lead_utf3_ED a ha, in_within _ _ b hb, in_within _ _ c hc)
after-character (utf3_EE {a} {b} {c} ha hb hc) l = rw (safe_from, lead_utf3_EE a ha, in_within _ _ b hb, in_within _ _ c hc)
after-character (utf4_F0 {a} {b} {c} {d} ha hb hc hd) l = rw (safe_from, lead_utf4_F0 a ha, in_within _ _ b hb, in_within _ _ c hc, in_within _ _ d hd)
after-character (utf4_F1 {a} {b} {c} {d} ha hb hc hd) l = rw (safe_from, lead_utf4_F1 a ha, in_within _ _ b hb, in_within _ _ c hc, in_within _ _ d hd)
after-character (utf4_F4 {a} {b} {c} {d} ha hb hc hd) l = rw (safe_from, lead_utf4_F4 a ha, in_within _ _ b hb, in_within _ _ c hc, in_within _ _ d hd)

pub grammar-safe : {l : List ℕ} → Safes l → safe l ≡ true
unfolding safe_from
grammar-safe none = refl
grammar-safe (more {c} {l} h r) = after-character h l ∙ grammar-safe r

-- NUL is in no character
module _ (l : List ℕ) where
  not_nul : (x : ℕ) → 1 ≤ x → eqb x 0 ≡ false
  not_nul x h = ne_eqb x 0 (λ e. omega arith)

  no_nul : {c : List ℕ} → Safe c → holds 0 (c ++ l) ≡ holds 0 l
  no_nul (utf1 {a} ha) = rw (not_nul a (omega (arith, ha.0)))
  no_nul (utf2 {a} {b} ha hb) = rw (not_nul a (omega (arith, ha.0)), not_nul b (omega (arith, hb.0)))
  no_nul (utf3_E0 {a} {b} {c} ha hb hc) = rw (not_nul a (omega (arith, ha.0)), not_nul b (omega (arith, hb.0)), not_nul c (omega (arith, hc.0)))
  no_nul (utf3_E1 {a} {b} {c} ha hb hc) = rw (not_nul a (omega (arith, ha.0)), not_nul b (omega (arith, hb.0)), not_nul c (omega (arith, hc.0)))
  no_nul (utf3_ED {a} {b} {c} ha hb hc) = rw (not_nul a (omega (arith, ha.0)), not_nul b (omega (arith, hb.0)), not_nul c (omega (arith, hc.0)))
  no_nul (utf3_EE {a} {b} {c} ha hb hc) = rw (not_nul a (omega (arith, ha.0)), not_nul b (omega (arith, hb.0)), not_nul c (omega (arith, hc.0)))
  no_nul (utf4_F0 {a} {b} {c} {d} ha hb hc hd) = rw (not_nul a (omega (arith, ha.0)), not_nul b (omega (arith, hb.0)), not_nul c (omega (arith, hc.0)), not_nul d (omega (arith, hd.0)))
  no_nul (utf4_F1 {a} {b} {c} {d} ha hb hc hd) = rw (not_nul a (omega (arith, ha.0)), not_nul b (omega (arith, hb.0)), not_nul c (omega (arith, hc.0)), not_nul d (omega (arith, hd.0)))
  no_nul (utf4_F4 {a} {b} {c} {d} ha hb hc hd) = rw (not_nul a (omega (arith, ha.0)), not_nul b (omega (arith, hb.0)), not_nul c (omega (arith, hc.0)), not_nul d (omega (arith, hd.0)))

nul_free : {l : List ℕ} → Safes l → holds 0 l ≡ false
nul_free none = refl
nul_free (more {c} {l} h r) = no_nul l h ∙ nul_free r

pub safe-no_nul : (l : List ℕ) → safe l ≡ true → holds 0 l ≡ false
safe-no_nul l e = nul_free (safe-grammar l e)

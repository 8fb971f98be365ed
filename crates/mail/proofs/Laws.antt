-- The laws of the MAIL line's reading. Assumes nothing.
use mathlib.Core.Path.{◌≡◌, refl, sym, ◌∙◌, ap}
use mathlib.Core.Bool.{Bool, true, false, cond, ◌&&◌, ◌||◌, false≢true}
use mathlib.Core.List.{List, [], ◌∷◌}
use Prim.Native.Nat.{ℕ, suc, ◌+◌, ◌-◌, ◌≤◌}
use native.Mathlib.Nat.{add-zero}
use native.Mathlib.Omega.{arith}
use lib.Dec.{leb, eqb}
use lib.ListN.{length, take, drop, length-take, length-drop}
use lib.Seq.{slice, drop-drop}
use Rattle.octets.specs.Lists.{every, before, after}
use Rattle.octets.proofs.Cases.{both, split}
use Rattle.octets.proofs.Lists.{cut}
use Rattle.xtext.specs.Xtext
use Rattle.xtext.proofs.Laws.{length-octets}
use Rattle.mail.specs.Address.{address}
use Rattle.mail.specs.Parameter.{equals, named, good, null, AUTH, SUBMITTER, auth_value}
use Rattle.mail.specs.Mail.{space, greater, opens, path_ends, rest, onto, words, spaced, parameters, count, all_good, said, identity, well_formed, mail_at, mail, address_text}
use Rattle.std.specs.Prelude.{Some, None}
use Rattle.mail.specs.declared.Mail.TheVariants.{Null, Address}
use Rattle.mail.specs.Says.{malformed, absent, value_says, auth_says, line_says, points_to}
use Rattle.mail.specs.Says as Say
use Rattle.mail.proofs.Whole.{value-drop, value-length, good-auth, rest-drop}

-- words stand in a line one after the other, the first at index i
abbrev Placed : List ℕ → ℕ → List (List ℕ) → Type 0
Placed l i [] = Unit {0}
Placed l i (w ∷ ws) = (take (length w) (drop i l) ≡ w) × Placed l (i + length w + 1) ws

module _ (l : List ℕ) where
  onto-placed : (x : ℕ) (m : List ℕ) (i : ℕ) (ws : List (List ℕ)) → drop i l ≡ x ∷ m → drop (i + 1) l ≡ m → Placed l (i + 1) ws → Placed l i (onto x ws)
  onto-placed x m i [] e f h = (rw e, tt)
  onto-placed x m i (w ∷ ws) e f h =
      let z : i + 1 + length w + 1 ≡ i + suc (length w) + 1 = omega arith in
      (rw e (ap (λ (t : List ℕ). x ∷ t) (rw f at h.0)), rw z at h.1)

  placed : (m : List ℕ) (i : ℕ) → drop i l ≡ m → Placed l i (words m)
  unfolding words
  placed [] i e = (refl, tt)
  placed (x ∷ m) i e = go (eqb x space) (placed m (i + 1) next)
    where
      next : drop (i + 1) l ≡ m
      next = sym (drop-drop 1 i l) ∙ ap (drop 1) e

      go : (b : Bool) → Placed l (i + 1) (words m) → Placed l i (cond b ([] ∷ words m) (onto x (words m)))
      go true h = (refl, rw add-zero h)
      go false h = onto-placed x m i (words m) e next h

-- the value of an AUTH parameter that stands at index i
module _ (l w : List ℕ) (i : ℕ) (p : take (length w) (drop i l) ≡ w) (a : named AUTH w ≡ true) where
  value-placed : slice (i + length AUTH + 1) (i + length AUTH + 1 + length (after equals w)) l ≡ after equals w
  value-placed =
      let from = i + length AUTH + 1 in
      let y : from + length (after equals w) - from ≡ length w - suc (length AUTH) = omega (arith, value-length w a) in
      let z : i + suc (length AUTH) ≡ from = omega arith in
      sym (cut from (from + length (after equals w)) l)
      ∙ ap (λ (n : ℕ). take n (drop from l)) y
      ∙ ap (λ (n : ℕ). take (length w - suc (length AUTH)) (drop n l)) (sym z)
      ∙ ap (take (length w - suc (length AUTH))) (sym (drop-drop (suc (length AUTH)) i l))
      ∙ cut (suc (length AUTH)) (length w) (drop i l)
      ∙ rw p (sym (value-drop w a))

-- what a text has that is xtext of an address of n octets
abbrev pub Reads : List ℕ → ℕ → Type 0
Reads t n = (Xtext.valid t ≡ true) × (n ≡ length (Xtext.octets t)) × (address (Xtext.octets t) ≡ true)

said-address : (v : List ℕ) (i from to n : ℕ) → auth_value v ≡ true → said i v ≡ Address from to n → (from ≡ i) × (to ≡ i + length v) × Reads v n
unfolding auth_value said
said-address v i from to n e f = go (Xtext.valid v) (null v) (address (Xtext.octets v)) e f
  where
    go : (a b c : Bool) → (a && (b || c)) ≡ true → cond b Null (Address i (i + length v) (length (Xtext.octets v))) ≡ Address from to n
        → (from ≡ i) × (to ≡ i + length v) × ((a ≡ true) × (n ≡ length (Xtext.octets v)) × (c ≡ true))
    go false b c e f = absurd (false≢true e)
    go true true c e f = let z : ◌≡◌ {A = ℕ} 0 1 = cc in absurd (omega arith)
    go true false true e f = ((cc), (cc), (refl, (cc), refl))
    go true false false e f = absurd (false≢true e)

identity-read : (l : List ℕ) (ws : List (List ℕ)) (i from to n : ℕ) → Placed l i ws → every good ws ≡ true → identity i ws ≡ Address from to n → Reads (slice from to l) n
unfolding identity every
identity-read l [] i from to n h e f = let z : ◌≡◌ {A = ℕ} 0 1 = cc in absurd (omega arith)
identity-read l (w ∷ ws) i from to n h e f =
    let g = both (good w) (every good ws) e in
    split (named AUTH w)
    (λ a.
    let s = said-address (after equals w) (i + length AUTH + 1) from to n (good-auth w g.0 a) (rw a at f) in
    rw (s.0, s.1, value-placed l w i h.0 a) s.2)
    (λ a. identity-read l ws (i + length w + 1) from to n h.1 g.1 (rw a at f))

-- what a reading points to is xtext of an address of the length told
module _ (l : List ℕ) (from to n : ℕ) (e : mail l ≡ Some (Address from to n)) where
  rest_read : (r : List ℕ) (j : ℕ) → r ≡ drop j l → every good (parameters r) ≡ true → identity (length l - length r + 1) (parameters r) ≡ Address from to n → Reads (slice from to l) n
  unfolding identity
  rest_read [] j g h f = let z : ◌≡◌ {A = ℕ} 0 1 = cc in absurd (omega arith)
  rest_read (x ∷ r) j g h f =
      let y : length l - length (x ∷ r) + 1 ≡ j + 1 = omega (arith, ap length g, length-drop j l) in
      let z : drop (j + 1) l ≡ r = sym (drop-drop 1 j l) ∙ ap (drop 1) (sym g) in
      identity-read l (words r) (j + 1) from to n (placed l r (j + 1) z) h (rw y at f)

  pub address_read : (Xtext.valid (address_text (Some (Address from to n)) l) ≡ true) × (n ≡ length (Xtext.octets (address_text (Some (Address from to n)) l))) × (address (Xtext.octets (address_text (Some (Address from to n)) l)) ≡ true)
  unfolding mail mail_at well_formed all_good
  address_read = go (well_formed l) refl e
    where
      go : (b : Bool) → well_formed l ≡ b → cond b (Some (identity (length l - length (rest l) + 1) (parameters (rest l)))) None ≡ Some (Address from to n) → Reads (slice from to l) n
      go true w f =
          let ps = parameters (rest l) in
          let h = (both (opens l && path_ends l && spaced (rest l)) (all_good ps) w).1 in
          let k = (both (every good ps && leb (count AUTH ps) 1) (leb (count SUBMITTER ps) 1) h).0 in
          rest_read (rest l) (11 + suc (length (before greater (drop 11 l)))) (rest-drop l) (both (every good ps) (leb (count AUTH ps) 1) k).0 (cc)
      go false w f = let z : ◌≡◌ {A = ℕ} 0 1 = cc in absurd (omega arith)

  -- so its octets fit where the line does
  pub address-within : n ≤ length l
  address-within =
      let t = address_text (Some (Address from to n)) l in
      omega (arith, address_read.1, length-octets t, length-drop from (take to l), length-take to l)

-- ---- what a reading points to is what the line's AUTH says

said-says : (l v : List ℕ) (i : ℕ) → slice i (i + length v) l ≡ v → points_to (Some (said i v)) l ≡ value_says v
unfolding said
said-says l v i e = go (null v)
  where
    go : (b : Bool) → points_to (Some (cond b Null (Address i (i + length v) (length (Xtext.octets v))))) l ≡ cond b Say.null (Say.address (Xtext.octets v))
    go true = refl
    go false = ap (λ (t : List ℕ). Say.address (Xtext.octets t)) e

identity-says : (l : List ℕ) (ws : List (List ℕ)) (i : ℕ) → Placed l i ws → points_to (Some (identity i ws)) l ≡ auth_says ws
unfolding identity auth_says
identity-says l [] i h = refl
identity-says l (w ∷ ws) i h =
    split (named AUTH w)
    (λ a. rw a (said-says l (after equals w) (i + length AUTH + 1) (value-placed l w i h.0 a)))
    (λ a. rw a (identity-says l ws (i + length w + 1) h.1))

rest-says : (l r : List ℕ) (j : ℕ) → r ≡ drop j l → points_to (Some (identity (length l - length r + 1) (parameters r))) l ≡ auth_says (parameters r)
unfolding identity auth_says
rest-says l [] j g = refl
rest-says l (x ∷ r) j g =
    let y : length l - length (x ∷ r) + 1 ≡ j + 1 = omega (arith, ap length g, length-drop j l) in
    let z : drop (j + 1) l ≡ r = sym (drop-drop 1 j l) ∙ ap (drop 1) (sym g) in
    rw y (identity-says l (words r) (j + 1) (placed l r (j + 1) z))

-- a reading of a MAIL line points to its AUTH parameter and to no other
pub mail-says : (l : List ℕ) → points_to (mail l) l ≡ line_says l
unfolding mail mail_at
mail-says l = go (well_formed l)
  where
    go : (b : Bool) → points_to (cond b (Some (identity (length l - length (rest l) + 1) (parameters (rest l)))) None) l ≡ cond b (auth_says (parameters (rest l))) malformed
    go true = rest-says l (rest l) (11 + suc (length (before greater (drop 11 l)))) (rest-drop l)
    go false = refl

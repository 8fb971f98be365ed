-- The laws of a message's definitions. Assumes nothing.
use mathlib.Core.Path.{◌≡◌, refl, sym, ◌∙◌, ap}
use mathlib.Core.Bool.{Bool, true, false, cond, not, ◌&&◌, ◌||◌, false≢true}
use mathlib.Core.List.{List, [], ◌∷◌, ◌++◌}
use Prim.Native.Nat.{ℕ, ◌+◌, ◌≤◌}
use native.Mathlib.Nat.{zero-add}
use native.Mathlib.Omega.{arith}
use borrow.Author.Tests.{eqb-true, not-true, leb-true}
use lib.Dec.{leb, eqb}
use lib.ListN.{length, take, length-append}
use lib.Seq.{take-append_seam}
use Rattle.octets.specs.Answers.{written}
use Rattle.octets.proofs.Answers.{written_is, length-written, written-append}
use Rattle.std.specs.Prelude.{Some, None, Ok, Err}
use Rattle.plain.specs.declared.WriteError.TheVariants.{Unfit, Short}
use Rattle.octets.specs.Lists.{is_empty, holds, before, after}
use Rattle.octets.proofs.Cases.{both}
use Rattle.octets.proofs.Words.{before-cut, after-cut, holds-cut}
use Rattle.plain.specs.declared.Lengths.{Lengths}
use Rattle.plain.specs.Utf8.{safe}
use Rattle.plain.specs.Message.{joined, Message, fit, authzid_in, authcid_in, password_in, well_formed, lengths, fields, writing, written_into}
use Rattle.plain.proofs.Grammar.{safe-grammar, grammar-safe, safe-no_nul}

-- a list that is cut at its first x
module _ (x : ℕ) where
  cut : (l : List ℕ) → holds x l ≡ true → l ≡ before x l ++ (x ∷ after x l)
  unfolding before after
  cut [] e = absurd (false≢true e)
  cut (y ∷ l) e = go (eqb y x) refl e (cut l)
    where
      go : (b : Bool) → eqb y x ≡ b → (b || holds x l) ≡ true → (holds x l ≡ true → l ≡ before x l ++ (x ∷ after x l))
          → y ∷ l ≡ cond b [] (y ∷ before x l) ++ (x ∷ cond b l (after x l))
      go true f e rec = ap (λ z. z ∷ l) (eqb-true y x f)
      go false f e rec = ap (λ m. y ∷ m) (rec e)

-- fields are fit exactly where they are those of a message of the grammar
pub fit-grammar : (a c p : List ℕ) → fit a c p ≡ true → Message a c p
fit-grammar a c p e =
    let h = both (safe a && (safe c && not (is_empty c))) _ e in
    let k = both (safe a) _ h.0 in
    let m = both (safe c) _ k.1 in
    let n = both (safe p) _ h.1 in
    record {
      authzid = safe-grammar a k.0;
      authcid = safe-grammar c m.0;
      named = not-true (is_empty c) m.1;
      password = safe-grammar p n.0;
      secret = not-true (is_empty p) n.1;
    }

pub grammar-fit : (a c p : List ℕ) → Message a c p → fit a c p ≡ true
grammar-fit a c p m = rw (grammar-safe m.authzid, grammar-safe m.authcid, m.named, grammar-safe m.password, m.secret)

-- reading a message that was put together gives its fields back
module _ (a c p : List ℕ) (e : fit a c p ≡ true) where
  abbrev no-first : holds 0 a ≡ false
  no-first = safe-no_nul a (both (safe a) _ (both (safe a && (safe c && not (is_empty c))) _ e).0).0

  abbrev no_second : holds 0 c ≡ false
  no_second = safe-no_nul c (both (safe c) _ (both (safe a) _ (both (safe a && (safe c && not (is_empty c))) _ e).0).1).0

  pub authzid-joined : authzid_in (joined a c p) ≡ a
  authzid-joined = before-cut 0 a (c ++ (0 ∷ p)) no-first

  pub authcid-joined : authcid_in (joined a c p) ≡ c
  authcid-joined = rw (after-cut 0 a (c ++ (0 ∷ p)) no-first) (before-cut 0 c p no_second)

  pub password-joined : password_in (joined a c p) ≡ p
  password-joined = rw (after-cut 0 a (c ++ (0 ∷ p)) no-first) (after-cut 0 c p no_second)

  pub well-joined : well_formed (joined a c p) ≡ true
  unfolding well_formed
  well-joined =
      rw (holds-cut 0 a (c ++ (0 ∷ p)), authzid-joined, after-cut 0 a (c ++ (0 ∷ p)) no-first, holds-cut 0 c p, before-cut 0 c p no_second, after-cut 0 c p no_second) e

  pub fields-joined : fields (joined a c p) ≡ Some (lengths (length a) (length c) (length p))
  unfolding fields
  fields-joined = rw (well-joined, authzid-joined, authcid-joined, password-joined)

-- a well-formed message is put together from its fields, which are fit
module _ (m : List ℕ) (e : well_formed m ≡ true) where
  pub message-fit : fit (authzid_in m) (authcid_in m) (password_in m) ≡ true
  unfolding well_formed
  message-fit = (both (holds 0 m && holds 0 (after 0 m)) _ e).1

  pub message-joined : m ≡ joined (authzid_in m) (authcid_in m) (password_in m)
  unfolding well_formed
  message-joined =
      let h = both (holds 0 m) _ (both (holds 0 m && holds 0 (after 0 m)) _ e).0 in
      cut 0 m h.0 ∙ ap (λ r. before 0 m ++ (0 ∷ r)) (cut 0 (after 0 m) h.1)

  -- "message = [authzid] UTF8NUL authcid UTF8NUL passwd"
  pub message-grammar : Message (authzid_in m) (authcid_in m) (password_in m)
  message-grammar = fit-grammar _ _ _ message-fit

  pub message-length : length m ≡ length (authzid_in m) + length (authcid_in m) + length (password_in m) + 2
  message-length =
      ap length message-joined ∙ length-append (authzid_in m) (0 ∷ (authcid_in m ++ (0 ∷ password_in m)))
      ∙ omega (arith, length-append (authcid_in m) (0 ∷ password_in m))

-- where three lengths are read, the message is well formed and they are its fields'
pub lengths_read : (m : List ℕ) (k : Lengths) → fields m ≡ Some k
    → (well_formed m ≡ true) × (k.authzid ≡ length (authzid_in m)) × (k.authcid ≡ length (authcid_in m)) × (k.password ≡ length (password_in m))
unfolding fields
lengths_read m k e = go (well_formed m) e
  where
    go : (b : Bool) → cond b (Some (lengths (length (authzid_in m)) (length (authcid_in m)) (length (password_in m)))) None ≡ Some k
        → (b ≡ true) × (k.authzid ≡ length (authzid_in m)) × (k.authcid ≡ length (authcid_in m)) × (k.password ≡ length (password_in m))
    go true f = let g : lengths (length (authzid_in m)) (length (authcid_in m)) (length (password_in m)) ≡ k = cc in
        (refl, sym (ap (λ (x : Lengths). x.authzid) g), sym (ap (λ (x : Lengths). x.authcid) g), sym (ap (λ (x : Lengths). x.password) g))
    go false f = absurd (cc)

-- so these and two are its length
pub lengths-sum : (m : List ℕ) (k : Lengths) → fields m ≡ Some k → length m ≡ k.authzid + k.authcid + k.password + 2
lengths-sum m k e = let r = lengths_read m k e in omega (arith, message-length m r.0, r.1, r.2, r.3)

-- and what the grammar puts together is well formed
pub grammar-message : (a c p : List ℕ) → Message a c p → fields (joined a c p) ≡ Some (lengths (length a) (length c) (length p))
grammar-message a c p m = fields-joined a c p (grammar-fit a c p m)

-- ---- the writer

module _ (a c p : List ℕ) where
  pub length-joined : length (joined a c p) ≡ length a + (length c + length p + 2)
  length-joined = length-append a (0 ∷ (c ++ (0 ∷ p))) ∙ omega (arith, length-append c (0 ∷ p))

  -- five writes, one after the other
  module _ (o : List ℕ) (h : length a + (length c + length p + 2) ≤ length o) where
    parts : written (written (written (written (written o 0 a) (length a) (0 ∷ [])) (length a + 1) c) (length a + 1 + length c) (0 ∷ [])) (length a + 1 + length c + 1) p
        ≡ written o 0 (joined a c p)
    parts =
        let n = length-joined in
        let o1 = written o 0 a in
        let o2 = written o1 (length a) (0 ∷ []) in
        let o3 = written o2 (length a + 1) c in
        let e1 : length o1 ≡ length o = length-written o 0 a in
        let e2 : length o2 ≡ length o1 = length-written o1 (length a) (0 ∷ []) in
        let e3 : length o3 ≡ length o2 = length-written o2 (length a + 1) c in
        written-append o3 (length a + 1 + length c) (0 ∷ []) p (omega (arith, n))
        ∙ written-append o2 (length a + 1) c (0 ∷ p) (omega (arith, n, length-append c (0 ∷ p)))
        ∙ written-append o1 (length a) (0 ∷ []) (c ++ (0 ∷ p)) (omega (arith, n, length-append c (0 ∷ p)))
        ∙ ap (λ (k : ℕ). written o1 k (0 ∷ (c ++ (0 ∷ p)))) (sym (zero-add (length a)))
        ∙ written-append o 0 a (0 ∷ (c ++ (0 ∷ p))) (omega (arith, n))

    pub five-parts : {o1 o2 o3 o4 o5 : List ℕ} → o1 ≡ written o 0 a → o2 ≡ written o1 (length a) (0 ∷ []) → o3 ≡ written o2 (length a + 1) c
        → o4 ≡ written o3 (length a + 1 + length c) (0 ∷ []) → o5 ≡ written o4 (length a + 1 + length c + 1) p
        → (length a + 1 + length c + 1 + length p ≡ length (joined a c p)) × (o5 ≡ written o 0 (joined a c p))
    five-parts e1 e2 e3 e4 e5 = (omega (arith, length-joined), rw (e5, e4, e3, e2, e1) parts)

  -- what is written, by the two tests
  module _ (o : List ℕ) where
    pub unfit : fit a c p ≡ false → (Err Unfit ≡ writing a c p (length o)) × (o ≡ written_into a c p o)
    unfolding writing written_into
    unfit e = (rw e, rw e)

    pub short : fit a c p ≡ true → leb (length a + (length c + length p + 2)) (length o) ≡ false → (Err Short ≡ writing a c p (length o)) × (o ≡ written_into a c p o)
    unfolding writing written_into
    short e f =
        let g : leb (length (joined a c p)) (length o) ≡ false = rw length-joined f in
        let k : leb (0 + length (joined a c p)) (length o) ≡ false = rw (zero-add (length (joined a c p))) g in
        (rw (e, g), rw (e, k))

    pub wrote : fit a c p ≡ true → leb (length a + (length c + length p + 2)) (length o) ≡ true → (n : ℕ) (w : List ℕ) → n ≡ length (joined a c p) → w ≡ written o 0 (joined a c p)
        → (Ok n ≡ writing a c p (length o)) × (w ≡ written_into a c p o)
    unfolding writing written_into
    wrote e f n w u v = let g : leb (length (joined a c p)) (length o) ≡ true = rw length-joined f in (rw (e, g, u), rw e v)

-- what the writer wrote, read again, has the fields' lengths, and is these fields joined (M-100 of document 02)
pub read_back : (a c p o : List ℕ) (n : ℕ) → writing a c p (length o) ≡ Ok n
    → (fields (take n (written_into a c p o)) ≡ Some (lengths (length a) (length c) (length p))) × (take n (written_into a c p o) ≡ joined a c p)
unfolding writing written_into
read_back a c p o n e = go (fit a c p) refl (leb (length (joined a c p)) (length o)) refl e
  where
    go : (f : Bool) → fit a c p ≡ f → (g : Bool) → leb (length (joined a c p)) (length o) ≡ g → cond f (cond g (Ok (length (joined a c p))) (Err Short)) (Err Unfit) ≡ Ok n
        → (fields (take n (cond f (written o 0 (joined a c p)) o)) ≡ Some (lengths (length a) (length c) (length p))) × (take n (cond f (written o 0 (joined a c p)) o) ≡ joined a c p)
    go true f true g e =
        let z : length (joined a c p) ≡ n = cc in
        let h : 0 + length (joined a c p) ≤ length o = omega (arith, leb-true (length (joined a c p)) (length o) g) in
        let t : take n (written o 0 (joined a c p)) ≡ joined a c p = ap (take n) (written_is o 0 (joined a c p) h) ∙ rw (← z) (take-append_seam (joined a c p) _) in
        (rw t (fields-joined a c p f), t)
    go true f false g e = absurd (cc)
    go false f g h e = absurd (cc)

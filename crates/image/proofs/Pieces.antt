-- Places in a row tested in two pieces that share some, zeros among them, and a number that is zero. Assumes nothing.
use mathlib.Core.Path.{◌≡◌, refl, sym, ap, ap₂, ◌∙◌}
use mathlib.Core.Bool.{Bool, true, false, ◌&&◌, and_assoc, and-true}
use mathlib.Core.List.{List}
use Prim.Native.Nat.{ℕ, zero, suc, ◌+◌, ◌-◌, ◌*◌, ◌<◌, ◌≤◌}
use native.Mathlib.Omega.{arith}
use native.Mathlib.Nat.{add-zero}
use lib.Dec.{eqb}
use borrow.Author.Tests.{eqb-true, eq-eqb, ne_eqb}
use lib.ListN.{get_or, replicate, length-replicate, replicate-append-replicate}
use Rattle.octets.proofs.Cases.{both}
use Rattle.codec.specs.Codec.{put_number, get_number}
use Rattle.codec.specs.InPlace.{stands_at, every_at}
use Rattle.codec.proofs.InPlace.{stands_at-append}

shared : (a b c : Bool) → ((a && b) && (b && c)) ≡ (a && (b && c))
shared true true c = refl
shared true false c = refl
shared false b c = refl

-- ---- a test at places in turn, in two pieces that share places

module _ (p : ℕ → Bool) where
  pub places-split : (m n at : ℕ) → every_at p 1 (m + n) at ≡ (every_at p 1 m at && every_at p 1 n (at + m))
  unfolding every_at
  places-split zero n at = let z : 0 + n ≡ n = omega arith in rw (z, add-zero)
  places-split (suc m) n at =
      let e : suc m + n ≡ suc (m + n) = omega arith in
      let f : at + suc m ≡ at + 1 + m = omega arith in
      rw (e, f, places-split m n (at + 1)) (sym (and_assoc (p at) (every_at p 1 m (at + 1)) (every_at p 1 n (at + 1 + m))))

  -- they share b places: the first has a more, the second c more
  pub places-shared : (a b c at : ℕ) → (every_at p 1 (a + b) at && every_at p 1 (b + c) (at + a)) ≡ every_at p 1 (a + (b + c)) at
  places-shared a b c at =
      let z : every_at p 1 (b + c) (at + a) ≡ (every_at p 1 b (at + a) && every_at p 1 c (at + a + b)) = places-split b c (at + a) in
      ap₂ ◌&&◌ (places-split a b at) z
      ∙ shared (every_at p 1 a at) (every_at p 1 b (at + a)) (every_at p 1 c (at + a + b))
      ∙ ap (λ (t : Bool). every_at p 1 a at && t) (sym z)
      ∙ sym (places-split a (b + c) at)

  -- a loop over the places that does not leave early: w is what the whole comes to, ok what came of the first i places
  module _ (w ok : Bool) (n at i : ℕ) (inv : w ≡ (ok && every_at p 1 (n - i) (at + i))) where
    pub places-turn : i < n → w ≡ ((ok && p (at + i)) && every_at p 1 (n - (i + 1)) (at + (i + 1)))
    unfolding every_at
    places-turn h =
        let e : n - i ≡ suc (n - (i + 1)) = omega arith in
        let f : at + i + 1 ≡ at + (i + 1) = omega arith in
        inv ∙ rw (e, ← f) (sym (and_assoc ok (p (at + i)) (every_at p 1 (n - (i + 1)) (at + i + 1))))

    pub places-end : n ≤ i → w ≡ ok
    unfolding every_at
    places-end h =
        let e : n - i ≡ 0 = omega arith in
        inv ∙ rw e (and-true ok)

-- ---- zeros

agree : (a b : Bool) → (a ≡ true → b ≡ true) → (b ≡ true → a ≡ true) → a ≡ b
agree true b f g = sym (f refl)
agree false true f g = g refl
agree false false f g = refl

-- 0 stands where 0 is read
pub number-zero : (l : List ℕ) (k at : ℕ) → stands_at (put_number k 0) l at ≡ eqb (get_number k l at) 0
unfolding stands_at put_number get_number
number-zero l zero at = refl
number-zero l (suc k) at =
    let x = get_or l at 0 in
    let n = get_number k l (at + 1) in
    ap (λ (b : Bool). eqb 0 x && b) (number-zero l k (at + 1))
    ∙ agree (eqb 0 x && eqb n 0) (eqb (x + 256 * n) 0)
    (λ h. let b = both (eqb 0 x) (eqb n 0) h in let u = eqb-true 0 x b.0 in let v = eqb-true n 0 b.1 in eq-eqb (x + 256 * n) 0 (omega arith))
    (λ h. let s = eqb-true (x + 256 * n) 0 h in rw (eq-eqb 0 x (omega arith), eq-eqb n 0 (omega arith)))

module _ (l : List ℕ) where
  abbrev zeros : ℕ → ℕ → Bool
  zeros n at = stands_at (replicate n 0) l at

  -- one piece after another
  pub zeros-split : (m n at : ℕ) → zeros (m + n) at ≡ (zeros m at && zeros n (at + m))
  zeros-split m n at =
      ap (λ (v : List ℕ). stands_at v l at) (sym (replicate-append-replicate {A = ℕ} m n 0))
      ∙ stands_at-append (replicate m 0) (replicate n 0) l at
      ∙ rw (length-replicate {A = ℕ} m 0)

  -- two pieces that share b octets: the first has a more, the second c more
  zeros-shared : (a b c at to : ℕ) → at + a ≡ to → (zeros (a + b) at && zeros (b + c) to) ≡ zeros (a + (b + c)) at
  zeros-shared a b c at to e =
      let z : zeros (b + c) (at + a) ≡ (zeros b (at + a) && zeros c (at + a + b)) = zeros-split b c (at + a) in
      rw (← e)
      (ap₂ ◌&&◌ (zeros-split a b at) z
      ∙ shared (zeros a at) (zeros b (at + a)) (zeros c (at + a + b))
      ∙ ap (λ (t : Bool). zeros a at && t) (sym z)
      ∙ sym (zeros-split a (b + c) at))

  -- n zeros, told by the first p and the last q, which share some or meet
  module _ (p q n at : ℕ) (first : p ≤ n) (last : q ≤ n) (all : n ≤ p + q) where
    pieces : (zeros p at && zeros q (at + (n - q))) ≡ zeros n at
    pieces =
        let a : n - q + (p + q - n) ≡ p = omega arith in
        let b : p + q - n + (n - p) ≡ q = omega arith in
        let c : n - q + q ≡ n = omega arith in
        rw (a, b, c) at (zeros-shared (n - q) (p + q - n) (n - p) at (at + (n - q)) refl)

    pub pieces-first : zeros p at ≡ false → false ≡ zeros n at
    pieces-first e = rw e at pieces

    pub pieces-last : (to : ℕ) → at + (n - q) ≡ to → zeros p at ≡ true → zeros q to ≡ zeros n at
    pieces-last to f e = rw (e, f) at pieces

  module _ (at : ℕ) where
    -- what is no zero is not one of some
    pub zeros-first : (n : ℕ) → zeros (suc n) at ≡ true → get_or l at 0 ≡ 0
    unfolding stands_at
    zeros-first n e = sym (eqb-true 0 (get_or l at 0) (both (eqb 0 (get_or l at 0)) (zeros n (at + 1)) e).0)

    pub zeros-none : (n : ℕ) → (get_or l at 0 ≡ 0 → ⊥) → false ≡ zeros (suc n) at
    unfolding stands_at
    zeros-none n f = sym (rw (ne_eqb 0 (get_or l at 0) (λ e. f (sym e))))

-- The lawful codecs: every value takes its size, and a value that is good comes back. What is built of lawful codecs is lawful.
-- Assumes nothing.
use mathlib.Core.Path.{◌≡◌, refl, sym, ap, ap₂, ◌∙◌}
use mathlib.Core.Bool.{Bool, true, false}
use mathlib.Core.Option.{Option, none, some}
use mathlib.Core.List.{List, [], ◌∷◌, ◌++◌, append_assoc}
use Prim.Native.Nat.{ℕ, zero, suc, ◌+◌, ◌*◌, ◌/◌, ◌%◌, ◌^◌, ◌<◌, ◌≤◌, suc-le-suc}
use native.Mathlib.Omega.{arith}
use native.Mathlib.Nat.{zero-mul, suc-mul, add_comm, pow-suc}
use lib.ListN.{length, get_or, take, drop, replicate, length-append, length-replicate}
use lib.Seq.{get_or_at}
use Rattle.codec.specs.Codec.{Codec, put_octet, octet, put_number, get_number, number, mapped, is_one, bit, flag, pair, element, put_array, get_array, array}
use Rattle.codec.specs.Codec.{put_option, get_option, option, put_up_to, listed}

pub record Lawful {A : Type 0} (a : Codec A) : Type 1 where
  pub Good : A → Type 0
  pub put-length : (x : A) → length (a.put x) ≡ a.size
  -- p is what stands before the value, q what stands after it
  pub get-put : (p : List ℕ) (x : A) (q : List ℕ) (at : ℕ) → length p ≡ at → Good x → a.get (p ++ (a.put x ++ q)) at ≡ x

-- ---- one value

pub put_octet-length : (x : ℕ) → length (put_octet x) ≡ 1
unfolding put_octet
put_octet-length x = refl

pub get_octet_put : (p : List ℕ) (x : ℕ) (q : List ℕ) (at : ℕ) → length p ≡ at → get_or (p ++ (put_octet x ++ q)) at 0 ≡ x
unfolding put_octet
get_octet_put p x q at e = get_or_at p x q 0 at e

abbrev pub octet-lawful : Lawful octet
octet-lawful = record { Good = λ x. x < 256; put-length = put_octet-length; get-put = λ p x q at e h. get_octet_put p x q at e }

pub put_number-length : (k x : ℕ) → length (put_number k x) ≡ k
unfolding put_number
put_number-length zero x = refl
put_number-length (suc k) x = ap suc (put_number-length k (x / 256))

pub get_number-put : (k : ℕ) (p : List ℕ) (x : ℕ) (q : List ℕ) (at : ℕ) → length p ≡ at → x < 256 ^ k → get_number k (p ++ (put_number k x ++ q)) at ≡ x
unfolding put_number get_number
get_number-put zero p x q at e h = omega arith
get_number-put (suc k) p x q at e h =
    let h₁ : x < 256 ^ k * 256 = rw pow-suc at h in
    let e₁ : length (p ++ ((x % 256) ∷ [])) ≡ at + 1 = rw length-append (omega arith) in
    let r : get_number k (p ++ ((x % 256) ∷ (put_number k (x / 256) ++ q))) (at + 1) ≡ x / 256 =
    rw append_assoc at (get_number-put k (p ++ ((x % 256) ∷ [])) (x / 256) q (at + 1) e₁ (omega arith)) in
    rw (r, get_or_at p (x % 256) (put_number k (x / 256) ++ q) 0 at e) (omega arith)

abbrev pub number-lawful : (k : ℕ) → Lawful (number k)
number-lawful k = record { Good = λ x. x < 256 ^ k; put-length = put_number-length k; get-put = get_number-put k }

-- ---- a layout of another type: good is what comes back from the other type, and is good there

abbrev pub mapped-lawful : {A B : Type 0} {a : Codec A} → Lawful a → (to : A → B) (from : B → A) → Lawful (mapped a to from)
mapped-lawful w to from =
    record {
      Good = λ b. w.Good (from b) × (to (from b) ≡ b);
      put-length = λ b. w.put-length (from b);
      get-put = λ p b q at e h. ap to (w.get-put p (from b) q at e h.0) ∙ h.1;
    }

one_bit : (b : Bool) → is_one (bit b) ≡ b
one_bit true = refl
one_bit false = refl

pub get_flag_put : (p : List ℕ) (b : Bool) (q : List ℕ) (at : ℕ) → length p ≡ at → is_one (get_or (p ++ (put_octet (bit b) ++ q)) at 0) ≡ b
get_flag_put p b q at e = ap is_one (get_octet_put p (bit b) q at e) ∙ one_bit b

abbrev pub flag-lawful : Lawful flag
flag-lawful = record { Good = λ b. Unit {0}; put-length = λ b. put_octet-length (bit b); get-put = λ p b q at e h. get_flag_put p b q at e }

-- ---- several values

module _ {A B : Type 0} {a : Codec A} {b : Codec B} (v : Lawful a) (w : Lawful b) where
  pub pair-get-put : (p : List ℕ) (x : A × B) (q : List ℕ) (at : ℕ) → length p ≡ at → v.Good x.0 × w.Good x.1
      → (pair a b).get (p ++ ((pair a b).put x ++ q)) at ≡ x
  pair-get-put p x q at e h =
      let e₁ : length (p ++ a.put x.0) ≡ at + a.size = length-append p (a.put x.0) ∙ ap₂ ◌+◌ e (v.put-length x.0) in
      let r : b.get (p ++ (a.put x.0 ++ (b.put x.1 ++ q))) (at + a.size) ≡ x.1 =
      rw append_assoc at (w.get-put (p ++ a.put x.0) x.1 q (at + a.size) e₁ h.1) in
      rw (append_assoc (a.put x.0) (b.put x.1) q) (λ i. (v.get-put p x.0 (b.put x.1 ++ q) at e h.0 i, r i))

  abbrev pub pair-lawful : Lawful (pair a b)
  pair-lawful =
      record {
        Good = λ x. v.Good x.0 × w.Good x.1;
        put-length = λ x. length-append (a.put x.0) (b.put x.1) ∙ ap₂ ◌+◌ (v.put-length x.0) (w.put-length x.1);
        get-put = pair-get-put;
      }

module _ {A : Type 0} {a : Codec A} (w : Lawful a) where
  -- each of the first n values is good
  abbrev pub EachGood : ℕ → List A → Type 0
  EachGood n xs = (i : ℕ) → i < n → w.Good (element a xs i)

  pub put_array-length : (n : ℕ) (xs : List A) → length (put_array a n xs) ≡ n * a.size
  unfolding put_array
  put_array-length zero xs = sym (zero-mul a.size)
  put_array-length (suc n) xs =
      length-append (a.put (element a xs 0)) (put_array a n (drop 1 xs))
      ∙ ap₂ ◌+◌ (w.put-length (element a xs 0)) (put_array-length n (drop 1 xs))
      ∙ add_comm a.size (n * a.size)
      ∙ sym (suc-mul n a.size)

  pub get_array-put : (n : ℕ) (p : List ℕ) (xs : List A) (q : List ℕ) (at : ℕ) → length p ≡ at → (length xs ≡ n) × EachGood n xs
      → get_array a n (p ++ (put_array a n xs ++ q)) at ≡ xs
  unfolding put_array get_array
  get_array-put zero p [] q at e h = refl
  get_array-put zero p (x ∷ xs) q at e h = absurd (omega arith)
  get_array-put (suc n) p [] q at e h = absurd (omega arith)
  get_array-put (suc n) p (x ∷ xs) q at e h =
      let e₁ : length (p ++ a.put x) ≡ at + a.size = length-append p (a.put x) ∙ ap₂ ◌+◌ e (w.put-length x) in
      let r : get_array a n (p ++ (a.put x ++ (put_array a n xs ++ q))) (at + a.size) ≡ xs =
      rw append_assoc at (get_array-put n (p ++ a.put x) xs q (at + a.size) e₁ (omega arith, λ k hk. h.1 (suc k) (suc-le-suc hk))) in
      rw (append_assoc (a.put x) (put_array a n xs) q) (λ i. w.get-put p x (put_array a n xs ++ q) at e (h.1 0 (omega arith)) i ∷ r i)

  -- good are n values, each of them good
  abbrev pub array_lawful : (n : ℕ) → Lawful (array a n)
  array_lawful n = record { Good = λ xs. (length xs ≡ n) × EachGood n xs; put-length = put_array-length n; get-put = get_array-put n }

  abbrev pub GoodOption : Option A → Type 0
  GoodOption none = Unit {0}
  GoodOption (some x) = w.Good x

  pub put_option-length : (o : Option A) → length (put_option a o) ≡ 1 + a.size
  unfolding put_option
  put_option-length none = length-append (put_octet 0) (replicate a.size 0) ∙ ap₂ ◌+◌ (put_octet-length 0) (length-replicate a.size 0)
  put_option-length (some x) = length-append (put_octet 1) (a.put x) ∙ ap₂ ◌+◌ (put_octet-length 1) (w.put-length x)

  pub get_option-put : (p : List ℕ) (o : Option A) (q : List ℕ) (at : ℕ) → length p ≡ at → GoodOption o → get_option a (p ++ (put_option a o ++ q)) at ≡ o
  unfolding put_option get_option
  get_option-put p none q at e h =
      rw (append_assoc (put_octet 0) (replicate a.size 0) q, get_octet_put p 0 (replicate a.size 0 ++ q) at e)
  get_option-put p (some x) q at e h =
      let e₁ : length (p ++ put_octet 1) ≡ at + 1 = length-append p (put_octet 1) ∙ ap₂ ◌+◌ e (put_octet-length 1) in
      let r : a.get (p ++ (put_octet 1 ++ (a.put x ++ q))) (at + 1) ≡ x = rw append_assoc at (w.get-put (p ++ put_octet 1) x q (at + 1) e₁ h) in
      rw (append_assoc (put_octet 1) (a.put x) q, get_octet_put p 1 (a.put x ++ q) at e, r)

  abbrev pub option-lawful : Lawful (option a)
  option-lawful = record { Good = GoodOption; put-length = put_option-length; get-put = get_option-put }

  pub put_up_to-length : (n : ℕ) (xs : List A) → length (put_up_to a n xs) ≡ n * a.size
  unfolding put_up_to
  put_up_to-length zero xs = sym (zero-mul a.size)
  put_up_to-length (suc n) [] =
      length-append (replicate a.size 0) (put_up_to a n [])
      ∙ ap₂ ◌+◌ (length-replicate a.size 0) (put_up_to-length n [])
      ∙ add_comm a.size (n * a.size)
      ∙ sym (suc-mul n a.size)
  put_up_to-length (suc n) (x ∷ xs) =
      length-append (a.put x) (put_up_to a n xs)
      ∙ ap₂ ◌+◌ (w.put-length x) (put_up_to-length n xs)
      ∙ add_comm a.size (n * a.size)
      ∙ sym (suc-mul n a.size)

  pub get_array-up_to : (n : ℕ) (p : List ℕ) (xs : List A) (q : List ℕ) (at : ℕ) → length p ≡ at → length xs ≤ n → EachGood (length xs) xs
      → take (length xs) (get_array a n (p ++ (put_up_to a n xs ++ q)) at) ≡ xs
  unfolding put_up_to get_array
  get_array-up_to zero p [] q at e h g = refl
  get_array-up_to zero p (x ∷ xs) q at e h g = absurd (omega arith)
  get_array-up_to (suc n) p [] q at e h g = refl
  get_array-up_to (suc n) p (x ∷ xs) q at e h g =
      let e₁ : length (p ++ a.put x) ≡ at + a.size = length-append p (a.put x) ∙ ap₂ ◌+◌ e (w.put-length x) in
      let r : take (length xs) (get_array a n (p ++ (a.put x ++ (put_up_to a n xs ++ q))) (at + a.size)) ≡ xs =
      rw append_assoc at (get_array-up_to n (p ++ a.put x) xs q (at + a.size) e₁ (omega arith) (λ k hk. g (suc k) (suc-le-suc hk))) in
      rw (append_assoc (a.put x) (put_up_to a n xs) q) (λ i. w.get-put p x (put_up_to a n xs ++ q) at e (g 0 (omega arith)) i ∷ r i)

  pub put_listed_length : (n : ℕ) (xs : List A) → length ((listed a n).put xs) ≡ 1 + n * a.size
  put_listed_length n xs = length-append (put_octet (length xs)) (put_up_to a n xs) ∙ ap₂ ◌+◌ (put_octet-length (length xs)) (put_up_to-length n xs)

  pub get_listed_put : (n : ℕ) (p : List ℕ) (xs : List A) (q : List ℕ) (at : ℕ) → length p ≡ at → (length xs ≤ n) × EachGood (length xs) xs
      → (listed a n).get (p ++ ((listed a n).put xs ++ q)) at ≡ xs
  get_listed_put n p xs q at e h =
      let e₁ : length (p ++ put_octet (length xs)) ≡ at + 1 = length-append p (put_octet (length xs)) ∙ ap₂ ◌+◌ e (put_octet-length (length xs)) in
      let r : take (length xs) (get_array a n (p ++ (put_octet (length xs) ++ (put_up_to a n xs ++ q))) (at + 1)) ≡ xs =
      rw append_assoc at (get_array-up_to n (p ++ put_octet (length xs)) xs q (at + 1) e₁ h.0 h.1) in
      rw (append_assoc (put_octet (length xs)) (put_up_to a n xs) q, get_octet_put p (length xs) (put_up_to a n xs ++ q) at e) r

  -- good are at most n values, each of them good; how many they are is an octet
  abbrev pub listed-lawful : (n : ℕ) → n < 256 → Lawful (listed a n)
  listed-lawful n small =
      record { Good = λ xs. (length xs ≤ n) × EachGood (length xs) xs; put-length = put_listed_length n; get-put = get_listed_put n }

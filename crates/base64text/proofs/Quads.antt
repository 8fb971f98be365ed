-- The text of some octets, as code takes them apart: groups of three, and one or two behind them. Assumes nothing.
use mathlib.Core.Path.{◌≡◌, refl, ◌∙◌, ap}
use mathlib.Core.List.{List, [], ◌∷◌, ◌++◌}
use Prim.Native.Nat.{ℕ, suc, ◌+◌, ◌*◌, ◌/◌, ◌≤◌}
use native.Mathlib.Omega.{arith}
use lib.ListN.{length, get_or, take, drop}
use Rattle.std.specs.List.{flat_map}
use Rattle.std.specs.Simd.{first_chunks}
use Rattle.std.proofs.lemmas.List.{length-take-le}
use Rattle.base64text.specs.Base64.{encode, quad1, quad2, quad3}
use Rattle.base64text.proofs.Stores.{stores}

-- the text of a group of three
abbrev pub quad_in : List ℕ → List ℕ
quad_in q = quad3 (get_or q 0 0) (get_or q 1 0) (get_or q 2 0)

-- by its groups of three and by what stands behind them
encode-groups : (l : List ℕ) (n : ℕ) → n ≡ length l / 3 → encode l ≡ flat_map quad_in (first_chunks 3 n l) ++ encode (drop (n * 3) l)
unfolding encode
encode-groups [] n e = rw e
encode-groups (a ∷ []) n e = rw e
encode-groups (a ∷ b ∷ []) n e = rw e
encode-groups (a ∷ b ∷ c ∷ r) n e = go (length r / 3) (encode-groups r _ refl) (omega arith)
  where
    go : (m : ℕ) → encode r ≡ flat_map quad_in (first_chunks 3 m r) ++ encode (drop (m * 3) r) → n ≡ suc m
        → quad3 a b c ++ encode r ≡ flat_map quad_in (first_chunks 3 n (a ∷ b ∷ c ∷ r)) ++ encode (drop (n * 3) (a ∷ b ∷ c ∷ r))
    go m ih k = let s : suc m * 3 ≡ suc (suc (suc (m * 3))) = omega arith in rw (k, s) (ap (λ (t : List ℕ). quad3 a b c ++ t) ih)

pub encode_parts : (l : List ℕ) → encode l ≡ flat_map quad_in (first_chunks 3 (length l / 3) l) ++ encode (drop (length l / 3 * 3) l)
encode_parts l = encode-groups l (length l / 3) refl

-- how many octets of text they are
length-quads : (qs : List (List ℕ)) → length (flat_map quad_in qs) ≡ length qs * 4
length-quads [] = refl
length-quads (q ∷ qs) = omega (arith, length-quads qs)

pub quads_count : (qs : List (List ℕ)) (i : ℕ) → i ≤ length qs → length (flat_map quad_in (take i qs)) ≡ i * 4
quads_count qs i h = length-quads (take i qs) ∙ ap (λ n. n * 4) (length-take-le i qs h)

-- behind the groups
pub encode_none : (l : List ℕ) → length l ≡ 0 → encode l ≡ []
unfolding encode
encode_none [] h = refl
encode_none (a ∷ l) h = absurd (omega arith)

pub encode_one : (l : List ℕ) → length l ≡ 1 → encode l ≡ quad1 (get_or l 0 0)
unfolding encode
encode_one [] h = absurd (omega arith)
encode_one (a ∷ []) h = refl
encode_one (a ∷ b ∷ l) h = absurd (omega arith)

pub encode_two : (l : List ℕ) → length l ≡ 2 → encode l ≡ quad2 (get_or l 0 0) (get_or l 1 0)
unfolding encode
encode_two [] h = absurd (omega arith)
encode_two (a ∷ []) h = absurd (omega arith)
encode_two (a ∷ b ∷ []) h = refl
encode_two (a ∷ b ∷ c ∷ l) h = absurd (omega arith)

-- "For n octets the encoded length is 4 times n/3 rounded up" (document 01)
pub length-encode : (l : List ℕ) → length (encode l) ≡ (length l + 2) / 3 * 4
unfolding encode
length-encode [] = refl
length-encode (a ∷ []) = refl
length-encode (a ∷ b ∷ []) = refl
length-encode (a ∷ b ∷ c ∷ r) = let ih : length (encode r) ≡ (length r + 2) / 3 * 4 = length-encode r in omega arith

pub ruleset spelling = (encode_parts, length-encode, quads_count, encode_none, encode_one, encode_two, stores)

pub ruleset fitting = (length-encode)

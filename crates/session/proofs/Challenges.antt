-- A challenge, written in three parts. Assumes nothing.
use mathlib.Core.Path.{◌≡◌, sym, ◌∙◌, ap}
use mathlib.Core.List.{List, ◌++◌}
use Prim.Native.Nat.{ℕ, ◌+◌, ◌*◌, ◌<◌, ◌≤◌}
use native.Mathlib.Omega.{arith}
use borrow.Author.Tests.{le-leb}
use lib.ListN.{length, length-append}
use Rattle.std.specs.Int.{div_ceil}
use Rattle.octets.specs.Answers.{written, encoded}
use Rattle.std.specs.Prelude.{Option, Some, None}
use Rattle.octets.proofs.Answers.{no_room, length-written, written-append}
use Rattle.base64text.specs.Base64
use Rattle.base64text.proofs.Laws.{length-encode}
use Rattle.profile.specs.Texts.{crlf, challenge_prefix}
use Rattle.profile.specs.declared.Profile.{Profile}
use Rattle.session.specs.Answer.{challenge}

-- from: where the base64 begins; n: how many groups of four letters it has; to: where it ends
module _ (p : Profile) (d o : List ℕ) (from n : ℕ) (e : from ≡ length (challenge_prefix p)) (f : n ≡ div_ceil (length d) 3) where
  abbrev to : ℕ
  to = from + n * 4

  long : length (challenge p d) ≡ to + 2
  long = simp (length-append, length-encode) (omega arith)

  pub no-challenge : length o < to + 2 → (None ≡ encoded (challenge p d) (length o) 0) × (o ≡ written o 0 (challenge p d))
  no-challenge h = no_room (challenge p d) o 0 (omega (arith, long))

  module _ (h : to + 2 ≤ length o) where
    parts : written (written (written o 0 (challenge_prefix p)) from (Base64.encode d)) to crlf ≡ written o 0 (challenge p d)
    parts =
        let b = Base64.encode d in
        let y : 0 + length (challenge_prefix p) ≡ from = omega arith in
        let z : from + length b ≡ to = omega (arith, length-encode d) in
        let w : from + length (b ++ crlf) ≤ length (written o 0 (challenge_prefix p)) = omega (arith, length-append b crlf, length-encode d, length-written o 0 (challenge_prefix p)) in
        ap (λ (n : ℕ). written (written (written o 0 (challenge_prefix p)) from b) n crlf) (sym z)
        ∙ written-append (written o 0 (challenge_prefix p)) from b crlf w
        ∙ ap (λ (n : ℕ). written (written o 0 (challenge_prefix p)) n (b ++ crlf)) (sym y)
        ∙ written-append o 0 (challenge_prefix p) (b ++ crlf) (omega (arith, long))

    ends : (m : ℕ) → m ≡ length o → encoded crlf m to ≡ encoded (challenge p d) (length o) 0
    ends m g =
        let x : to + 2 ≤ m = omega arith in
        let y : 0 + length (challenge p d) ≤ length o = omega (arith, long) in
        let z : to + 2 ≡ 0 + length (challenge p d) = omega (arith, long) in
        rw (le-leb (to + 2) m x, le-leb (0 + length (challenge p d)) (length o) y) (ap (λ (n : ℕ). Some n) z)

    pub three-parts : {o₁ o₂ o₃ : List ℕ} {r : Option ℕ} → o₁ ≡ written o 0 (challenge_prefix p) → o₂ ≡ written o₁ from (Base64.encode d)
        → (r ≡ encoded crlf (length o₂) to) × (o₃ ≡ written o₂ to crlf) → (r ≡ encoded (challenge p d) (length o) 0) × (o₃ ≡ written o 0 (challenge p d))
    three-parts {o₁} {o₂} {o₃} {r} x y z =
        let m : length o₂ ≡ length o = ap length y ∙ length-written o₁ from (Base64.encode d) ∙ ap length x ∙ length-written o 0 (challenge_prefix p) in (
          z.0 ∙ ends (length o₂) m,
          z.1
              ∙ ap (λ (l : List ℕ). written l to crlf) y
              ∙ ap (λ (l : List ℕ). written (written l from (Base64.encode d)) to crlf) x
              ∙ parts,
        )

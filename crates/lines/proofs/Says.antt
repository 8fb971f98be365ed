-- What a reading of an AUTH line points to is what the line says. Assumes nothing.
use mathlib.Core.Path.{◌≡◌, refl, sym, ◌∙◌, ap}
use mathlib.Core.Bool.{Bool, true, false, cond}
use mathlib.Core.List.{List, []}
use Prim.Native.Nat.{ℕ, ◌+◌}
use native.Mathlib.Omega.{arith}
use lib.ListN.{length, take, drop}
use lib.Seq.{drop-drop}
use Rattle.octets.specs.Ascii.{ascii, capitals}
use Rattle.octets.specs.Lists.{is_empty, holds, same, before, after}
use Rattle.std.specs.Prelude.{Some, None}
use Rattle.octets.proofs.Words.{same_true}
use Rattle.base64text.specs.Base64.{valid, octets, measured}
use Rattle.lines.specs.Auth.{auth, arguments, initial, given}
use Rattle.lines.specs.Mechanism.{spelling}
use Rattle.lines.specs.Verb.{space}
use Rattle.lines.specs.Says as Say
use Rattle.lines.specs.Says.{malformed, alone, initial_says, arguments_say, auth_says, points_to}
use Rattle.lines.specs.declared.auth.Auth.TheVariants.{Alone, Initial}
use Rattle.lines.proofs.Auths.{name, rest}

-- the mechanism's name m ends at the index `to`, and after a space the text t stands
module _ (l : List ℕ) (to : ℕ) (m t : List ℕ) (e : to ≡ 5 + length (before space (drop 5 l))) (em : m ≡ capitals (before space (drop 5 l))) (et : t ≡ drop (to + 1) l) where
  named : capitals (drop 5 (take to l)) ≡ m
  named = ap capitals (name l to e) ∙ sym em

  -- base64, of which v says whether it is that; b: whether it is empty
  text_says : (b v : Bool)
      → points_to (cond b None (given to (cond v (Some (length (octets t))) None))) l
      ≡ cond b malformed (cond v (Say.initial m (octets t)) malformed)
  text_says true v = refl
  text_says false true = ap (λ (n : List ℕ). Say.initial n (octets (drop (to + 1) l))) named ∙ ap (λ (u : List ℕ). Say.initial m (octets u)) (sym et)
  text_says false false = refl

  equals-says : t ≡ ascii "=" → points_to (Some (Initial to (to + 2) 0)) l ≡ Say.initial m []
  unfolding octets
  equals-says h =
      let z : to + 1 + 1 ≡ to + 2 = omega arith in
      let y : drop (to + 2) l ≡ [] = ap (λ (n : ℕ). drop n l) (sym z) ∙ sym (drop-drop 1 (to + 1) l) ∙ ap (drop 1) (sym et ∙ h) in
      ap (λ (u : List ℕ). Say.initial (capitals (drop 5 (take to l))) (octets u)) y ∙ ap (λ (n : List ℕ). Say.initial n []) named

  initial-says : points_to (initial to t) l ≡ initial_says m t
  unfolding initial initial_says
  initial-says = go (same t (ascii "=")) refl
    where
      go : (b : Bool) → same t (ascii "=") ≡ b
          → points_to (cond b (Some (Initial to (to + 2) 0)) (cond (is_empty t) None (given to (measured t)))) l
          ≡ cond b (Say.initial m []) (cond (is_empty t) malformed (cond (valid t) (Say.initial m (octets t)) malformed))
      go true h = equals-says (same_true t (ascii "=") h)
      go false h = text_says (is_empty t) (valid t)

-- what follows AUTH and a space, of which b says whether it has a space
spaced-says : (l : List ℕ) (b : Bool)
    → points_to (cond b (initial (5 + length (before space (drop 5 l))) (after space (drop 5 l))) (Some (Alone (5 + length (before space (drop 5 l)))))) l
    ≡ cond b (initial_says (capitals (before space (drop 5 l))) (after space (drop 5 l))) (alone (capitals (before space (drop 5 l))))
spaced-says l true =
    let to = 5 + length (before space (drop 5 l)) in
    initial-says l to (capitals (before space (drop 5 l))) (after space (drop 5 l)) refl refl (rest l to refl)
spaced-says l false = ap (λ (m : List ℕ). alone (capitals m)) (name l (5 + length (before space (drop 5 l))) refl)

arguments-say : (l : List ℕ) (m : Bool)
    → points_to (cond m (cond (holds space (drop 5 l)) (initial (5 + length (before space (drop 5 l))) (after space (drop 5 l))) (Some (Alone (5 + length (before space (drop 5 l)))))) None) l
    ≡ cond m (cond (holds space (drop 5 l)) (initial_says (capitals (before space (drop 5 l))) (after space (drop 5 l))) (alone (capitals (before space (drop 5 l))))) malformed
arguments-say l true = spaced-says l (holds space (drop 5 l))
arguments-say l false = refl

pub auth-says : (l : List ℕ) → points_to (auth l) l ≡ auth_says l
unfolding auth arguments auth_says arguments_say
auth-says l = go (same (capitals (take 5 l)) (ascii "AUTH "))
  where
    go : (a : Bool) → points_to (cond a (arguments (drop 5 l)) None) l ≡ cond a (arguments_say (drop 5 l)) malformed
    go true = arguments-say l (spelling (before space (drop 5 l)))
    go false = refl

-- An octet of a query differs only where one of the two letters that hold it does. Assumes nothing.
use mathlib.Core.Path.{◌≡◌, refl, sym, ap, ◌∙◌}
use mathlib.Core.Bool.{Bool, true, false, cond, ◌&&◌, false≢true}
use mathlib.Core.List.{List, [], ◌∷◌, ◌++◌}
use Prim.Native.Nat.{ℕ}
use Rattle.octets.specs.Ascii.{ascii, capitals, space}
use Rattle.octets.specs.Lists.{holds, same, before, after}
use Rattle.octets.proofs.Words.{same_refl, before-cut, after-cut, holds-cut}
use Rattle.base64text.specs.Base64 as Base64
use Rattle.base64text.proofs.Laws.{clean, same-octet}
use Rattle.profile.specs.declared.Profile.{Profile}
use Rattle.std.specs.Prelude.{Option, Some, None, Result, Ok, Err}
use Rattle.lines.specs.Alike.{Alike, auth_line}
use Rattle.lines.specs.Auth.{auth, initial_text}
use Rattle.lines.specs.Command.{command, understood}
use Rattle.lines.specs.declared.auth.Auth.{Auth}
use Rattle.lines.specs.declared.auth.Auth.TheVariants.{Alone, Initial}
use Rattle.lines.specs.declared.command.Command.{Command}
use Rattle.lines.specs.declared.command.Command.TheVariants as Commands
use Rattle.lines.specs.declared.verb.Verb.TheVariants as Verbs
use Rattle.lines.proofs.Laws.{command-line, initial-text, same-command, spaceless}
use Rattle.session.specs.Alike.{LinesAlike, equal, initial, response}
use Rattle.session.specs.Octets.{auth_command, response_text, query_octets}
use Rattle.session.specs.Standing.{standing, awaits}
use Rattle.session.specs.View.{view_in, view}
use Rattle.session.specs.declared.Phase.{Phase}
use Rattle.session.specs.declared.Phase.TheVariants as Phases
use Rattle.session.specs.declared.Session.{Session}
use Rattle.claims.specs.Secrecy.{response_in, letters_of, octet_at}

-- ---- the response of a line, by its form

initial_in : (a m r : List ℕ) → capitals a ≡ ascii "AUTH" → holds space m ≡ false → response_in (auth_line a m r) ≡ r
unfolding response_in
initial_in a m r e f =
    let n : holds space a ≡ false = spaceless a (ap (holds space) e) in
    rw (before-cut space a (m ++ (space ∷ r)) n, e, same_refl, holds-cut space a (m ++ (space ∷ r)), after-cut space a (m ++ (space ∷ r)) n, holds-cut space m r, after-cut space m r f)

whole_in : (r : List ℕ) → Base64.valid r ≡ true → response_in r ≡ r
unfolding response_in
whole_in r v = rw (clean r v).3 (go (same (capitals (before space r)) (ascii "AUTH")))
  where
    go : (b : Bool) → cond (b && (false && holds space (after space r))) (after space (after space r)) r ≡ r
    go true = refl
    go false = refl

-- ---- the text that an AUTH line's reading points to

abbrev pick : Option Auth → List ℕ → List ℕ
pick None r = []
pick (Some (Alone to)) r = []
pick (Some (Initial to from n)) r = r

module _ (p : Profile) (a m r : List ℕ) (e : capitals a ≡ ascii "AUTH") (f : holds space m ≡ false) (v : Base64.valid r ≡ true) where
  reading : (k : Option Auth) → auth (auth_line a m r) ≡ k → initial_text k (auth_line a m r) ≡ pick k r
  reading None h = refl
  reading (Some (Alone to)) h = refl
  reading (Some (Initial to from n)) h = initial-text a m r to from n e f v h

  picked-text : initial_text (auth_command (command p (auth_line a m r))) (auth_line a m r) ≡ pick (auth_command (command p (auth_line a m r))) r
  picked-text = rw (command-line p a (m ++ (space ∷ r)) e) (go (understood p Verbs.Auth (auth_line a m r)))
    where
      go : (b : Bool) → initial_text (auth_command (cond b (Commands.Auth (auth (auth_line a m r))) Commands.NotUnderstood)) (auth_line a m r)
          ≡ pick (auth_command (cond b (Commands.Auth (auth (auth_line a m r))) Commands.NotUnderstood)) r
      go true = reading (auth (auth_line a m r)) refl
      go false = refl

-- texts of which one is read and the other likewise
picked-octet : (k : Option Auth) (r q : List ℕ) → Alike r q → (j : ℕ) → letters_of j r ≡ letters_of j q → octet_at j (Base64.octets (pick k r)) ≡ octet_at j (Base64.octets (pick k q))
picked-octet None r q h j e = refl
picked-octet (Some (Alone to)) r q h j e = refl
picked-octet (Some (Initial to from n)) r q h j e = same-octet r q h.left h.right j e

-- ---- lines that are alike

spaced : (a m r : List ℕ) → Base64.valid (auth_line a m r) ≡ true → ⊥
spaced a m r v = false≢true (sym (clean (auth_line a m r) v).3 ∙ holds-cut space a (m ++ (space ∷ r)))

module _ (p : Profile) where
  initials : (x : Phase) (a m r q : List ℕ) → capitals a ≡ ascii "AUTH" → holds space m ≡ false → Alike r q
      → Base64.valid (response_text (view_in p x (auth_line a m r)) (auth_line a m r)) ≡ true → (j : ℕ) → letters_of j r ≡ letters_of j q
      → octet_at j (query_octets (view_in p x (auth_line a m r)) (auth_line a m r)) ≡ octet_at j (query_octets (view_in p x (auth_line a m q)) (auth_line a m q))
  unfolding view_in query_octets
  initials x a m r q e f h = go x
    where
      commands : (j : ℕ) → letters_of j r ≡ letters_of j q
          → octet_at j (Base64.octets (initial_text (auth_command (command p (auth_line a m r))) (auth_line a m r)))
          ≡ octet_at j (Base64.octets (initial_text (auth_command (command p (auth_line a m q))) (auth_line a m q)))
      commands j g =
          ap (λ (t : List ℕ). octet_at j (Base64.octets t)) (picked-text p a m r e f h.left)
          ∙ picked-octet (auth_command (command p (auth_line a m r))) r q h j g
          ∙ ap (λ (c : Command). octet_at j (Base64.octets (pick (auth_command c) q))) (same-command p a m r q e f h)
          ∙ sym (ap (λ (t : List ℕ). octet_at j (Base64.octets t)) (picked-text p a m q e f h.right))

      go : (x : Phase) → Base64.valid (response_text (view_in p x (auth_line a m r)) (auth_line a m r)) ≡ true → (j : ℕ) → letters_of j r ≡ letters_of j q
          → octet_at j (query_octets (view_in p x (auth_line a m r)) (auth_line a m r)) ≡ octet_at j (query_octets (view_in p x (auth_line a m q)) (auth_line a m q))
      go Phases.Idle v j g = commands j g
      go Phases.SignedIn v j g = commands j g
      go (Phases.Awaiting k) v j g = absurd (spaced a m r v)
      go (Phases.Waiting t k) v j g = refl

  responses : (x : Phase) (r q : List ℕ) → standing x ≡ awaits → Alike r q → (j : ℕ) → letters_of j r ≡ letters_of j q
      → octet_at j (query_octets (view_in p x r) r) ≡ octet_at j (query_octets (view_in p x q) q)
  unfolding view_in query_octets
  responses Phases.Idle r q e h j g = cc
  responses Phases.SignedIn r q e h j g = cc
  responses (Phases.Awaiting k) r q e h j g = same-octet r q h.left h.right j g
  responses (Phases.Waiting t k) r q e h j g = cc

-- octet by octet, where the response that the first line has is base64
pub query-octet : (s : Session) {l k : List ℕ} → LinesAlike (standing s.phase) l k → Base64.valid (response_text (view s l) l) ≡ true
    → (j : ℕ) → letters_of j (response_in l) ≡ letters_of j (response_in k) → octet_at j (query_octets (view s l) l) ≡ octet_at j (query_octets (view s k) k)
query-octet s (equal l) v j g = refl
query-octet s (initial a m {r = r} {q = q} e f h) v j g =
    initials s.profile s.phase a m r q e f h v j (ap (letters_of j) (sym (initial_in a m r e f)) ∙ g ∙ ap (letters_of j) (initial_in a m q e f))
query-octet s (response {r = r} {q = q} e h) v j g =
    responses s.profile s.phase r q e h j (ap (letters_of j) (sym (whole_in r h.left)) ∙ g ∙ ap (letters_of j) (whole_in q h.right))

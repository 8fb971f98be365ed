-- Readings of texts and lines of equal shape are equal. Assumes nothing.
use mathlib.Core.Path.{◌≡◌, refl, sym, ◌∙◌, ap}
use mathlib.Core.Bool.{Bool, true, false, cond, false≢true}
use mathlib.Core.List.{List, [], ◌∷◌, ◌++◌, append_assoc, map-append}
use Prim.Native.Nat.{ℕ, ◌+◌, ◌-◌}
use native.Mathlib.Omega.{arith}
use lib.Dec.{ltb}
use lib.ListN.{length, take, drop, length-append, length-map}
use lib.Seq.{take_at, drop_at, drop-drop}
use Rattle.octets.specs.Ascii.{ascii, capital, capitals}
use Rattle.octets.specs.Lists.{is_empty, holds, same}
use Rattle.std.specs.Prelude.{Option, Some, None, Err}
use Rattle.octets.proofs.Cases.{split}
use Rattle.octets.proofs.Lists.{cut}
use Rattle.octets.proofs.Words.{same-apart, before-cut, after-cut, holds-cut}
use Rattle.base64text.specs.Base64.{valid, measured}
use Rattle.base64text.proofs.Laws.{same-measure, clean}
use Rattle.profile.specs.Limits.{response_limit}
use Rattle.profile.specs.declared.Profile.{Profile}
use Rattle.profile.specs.declared.Profile.TheVariants.{Smtp, Pop3}
use Rattle.lines.specs.Mechanism.{spelling}
use Rattle.lines.specs.Verb.{space, verb, verb_of}
use Rattle.lines.specs.Auth.{auth, arguments, initial, given, name_text}
use Rattle.lines.specs.Response.{response, decoding}
use Rattle.lines.specs.Command.{forbidden, understood, command}
use Rattle.lines.specs.Alike.{Alike, auth_line}
use Rattle.lines.specs.declared.auth.Auth.{Auth}
use Rattle.lines.specs.declared.auth.Auth.TheVariants.{Initial}
use Rattle.lines.specs.declared.verb.Verb.TheVariants as Verbs
use Rattle.lines.specs.declared.response.ResponseError.TheVariants as Responses
use Rattle.lines.specs.declared.command.Command.TheVariants as Commands
use Rattle.lines.proofs.Lists.{holds-end, holds-capitals, same-empty}

-- base64 is neither "*" nor "="
not-star : (r : List ℕ) → valid r ≡ true → same r (ascii "*") ≡ false
unfolding valid
not-star r h = same-apart r (ascii "*") (λ e. false≢true (sym (ap valid e) ∙ h))

not-equals : (r : List ℕ) → valid r ≡ true → same r (ascii "=") ≡ false
unfolding valid
not-equals r h = same-apart r (ascii "=") (λ e. false≢true (sym (ap valid e) ∙ h))

measures : (r s : List ℕ) → Alike r s → measured r ≡ measured s
measures r s a = same-measure r s a.left a.right a.lengths a.closings

-- a response's reading tells nothing of base64 but its shape
text-response : (p : Profile) (r : List ℕ) → valid r ≡ true
    → response p r ≡ cond (ltb (response_limit p) (length r)) (Err Responses.TooLong) (decoding (measured r))
unfolding response
text-response p r h = rw (not-star r h)

pub same-response : (p : Profile) (r s : List ℕ) → Alike r s → response p r ≡ response p s
same-response p r s a = rw (text-response p r a.left, text-response p s a.right, measures r s a, a.lengths)

-- of a line with a space, which is neither "*" nor base64, only its length counts
pub spaced : (p : Profile) (l : List ℕ) → holds space l ≡ true → response p l ≡ cond (ltb (response_limit p) (length l)) (Err Responses.TooLong) (Err Responses.Malformed)
unfolding response
spaced p l h =
    let s : same l (ascii "*") ≡ false = same-apart l (ascii "*") (λ e. false≢true (sym (ap (holds space) e) ∙ h)) in
    let v : valid l ≡ false = split (valid l) (λ e. absurd (false≢true (sym (clean l e).3 ∙ h))) (λ e. e) in
    rw (s, v)

lengths-line : (a m r s : List ℕ) → length r ≡ length s → length (auth_line a m r) ≡ length (auth_line a m s)
lengths-line a m r s e = simp length-append (omega arith)

pub spaced-response : (p : Profile) (a m r s : List ℕ) → length r ≡ length s → response p (auth_line a m r) ≡ response p (auth_line a m s)
spaced-response p a m r s e =
    rw (spaced p (auth_line a m r) (holds-cut space a (m ++ (space ∷ r))), spaced p (auth_line a m s) (holds-cut space a (m ++ (space ∷ s))), lengths-line a m r s e)

-- an AUTH line: four letters and a space, a mechanism without a space, a space, and the response
module _ (a : List ℕ) (e : capitals a ≡ ascii "AUTH") (x : List ℕ) where
  five : length (a ++ (space ∷ [])) ≡ 5
  five = simp length-append (omega (arith, length-map a capital, ap length e))

  pub first-five : capitals (take 5 (a ++ (space ∷ x))) ≡ ascii "AUTH "
  unfolding capital
  first-five =
      let z : take 5 (a ++ (space ∷ x)) ≡ a ++ (space ∷ []) = rw (← (append_assoc a (space ∷ []) x)) (take_at (a ++ (space ∷ [])) x 5 five) in
      ap capitals z ∙ map-append capital a (space ∷ []) ∙ ap (λ (l : List ℕ). l ++ (space ∷ [])) e

  pub after-five : drop 5 (a ++ (space ∷ x)) ≡ x
  after-five = rw (← (append_assoc a (space ∷ []) x)) (drop_at (a ++ (space ∷ [])) x 5 five)

  pub auth-line : auth (a ++ (space ∷ x)) ≡ arguments x
  unfolding auth same
  auth-line = rw (first-five, after-five)

arguments-line : (m r : List ℕ) → holds space m ≡ false → arguments (m ++ (space ∷ r)) ≡ cond (spelling m) (initial (5 + length m) r) None
unfolding arguments
arguments-line m r h = rw (before-cut space m r h, after-cut space m r h, holds-cut space m r)

text-initial : (to : ℕ) (r : List ℕ) → valid r ≡ true → initial to r ≡ cond (is_empty r) None (given to (measured r))
unfolding initial
text-initial to r h = rw (not-equals r h)

same-initial : (to : ℕ) (r s : List ℕ) → Alike r s → initial to r ≡ initial to s
same-initial to r s a = rw (text-initial to r a.left, text-initial to s a.right, same-empty r s a.lengths, measures r s a)

-- an AUTH line's reading tells nothing of the response but its shape
pub same-auth : (a m r s : List ℕ) → Alike r s → holds space m ≡ false → capitals a ≡ ascii "AUTH" → auth (auth_line a m r) ≡ auth (auth_line a m s)
same-auth a m r s k h e =
    rw (auth-line a e (m ++ (space ∷ r)), auth-line a e (m ++ (space ∷ s)), arguments-line m r h, arguments-line m s h, same-initial (5 + length m) r s k)

-- nor does the mechanism's name that it points to
name-line : (a m r : List ℕ) → capitals a ≡ ascii "AUTH" → drop 5 (take (5 + length m) (auth_line a m r)) ≡ m
name-line a m r e =
    let z : 5 + length m - 5 ≡ length m = omega arith in
    sym (cut 5 (5 + length m) (auth_line a m r))
    ∙ ap (λ (j : ℕ). take j (drop 5 (auth_line a m r))) z
    ∙ ap (take (length m)) (after-five a e (m ++ (space ∷ r)))
    ∙ take_at m (space ∷ r) (length m) refl

named : (b c : Bool) (to : ℕ) (x : Option ℕ) (l k : List ℕ) → drop 5 (take to l) ≡ drop 5 (take to k)
    → name_text (cond b (Some (Initial to (to + 2) 0)) (cond c None (given to x))) l ≡ name_text (cond b (Some (Initial to (to + 2) 0)) (cond c None (given to x))) k
named true c to x l k e = ap capitals e
named false true to x l k e = refl
named false false to (Some n) l k e = ap capitals e
named false false to None l k e = refl

name-initial : (b : Bool) (to : ℕ) (r l k : List ℕ) → drop 5 (take to l) ≡ drop 5 (take to k)
    → name_text (cond b (initial to r) None) l ≡ name_text (cond b (initial to r) None) k
unfolding initial
name-initial true to r l k e = named (same r (ascii "=")) (is_empty r) to (measured r) l k e
name-initial false to r l k e = refl

pub same-name-text : (a m r s : List ℕ) → Alike r s → holds space m ≡ false → capitals a ≡ ascii "AUTH"
    → name_text (auth (auth_line a m r)) (auth_line a m r) ≡ name_text (auth (auth_line a m s)) (auth_line a m s)
same-name-text a m r s k h e =
    let n = name-line a m r e ∙ sym (name-line a m s e) in
    rw (auth-line a e (m ++ (space ∷ r)), arguments-line m r h) (name-initial (spelling m) (5 + length m) r (auth_line a m r) (auth_line a m s) n)
    ∙ ap (λ (x : Option Auth). name_text x (auth_line a m s)) (same-auth a m r s k h e)

-- and the text that it points to is the response
text-line : (a m r : List ℕ) → capitals a ≡ ascii "AUTH" → drop (5 + length m + 1) (auth_line a m r) ≡ r
text-line a m r e =
    let z : 5 + (length m + 1) ≡ 5 + length m + 1 = omega arith in
    ap (λ (j : ℕ). drop j (auth_line a m r)) (sym z)
    ∙ sym (drop-drop (length m + 1) 5 (auth_line a m r))
    ∙ ap (drop (length m + 1)) (after-five a e (m ++ (space ∷ r)))
    ∙ (rw (← (append_assoc m (space ∷ []) r)) (drop_at (m ++ (space ∷ [])) r (length m + 1) (simp length-append (omega arith))))

after-space : (b c : Bool) (k : Option ℕ) (i to from n : ℕ) → cond b (cond c None (given i k)) None ≡ Some (Initial to from n) → from ≡ i + 1
after-space true false (Some j) i to from n e = cc
after-space true false None i to from n e = absurd (cc)
after-space true true k i to from n e = absurd (cc)
after-space false c k i to from n e = absurd (cc)

pub initial-text : (a m r : List ℕ) (to from n : ℕ) → capitals a ≡ ascii "AUTH" → holds space m ≡ false → valid r ≡ true
    → auth (auth_line a m r) ≡ Some (Initial to from n) → drop from (auth_line a m r) ≡ r
initial-text a m r to from n e h v f =
    let g = sym (arguments-line m r h) ∙ sym (auth-line a e (m ++ (space ∷ r))) ∙ f in
    let z = after-space (spelling m) (is_empty r) (measured r) (5 + length m) to from n (rw (text-initial (5 + length m) r v) at g) in
    rw z (text-line a m r e)

-- a word without a space in capitals has none
pub spaceless : (l : List ℕ) → holds space (capitals l) ≡ false → holds space l ≡ false
spaceless l h = sym (holds-capitals space (omega arith) l) ∙ h

verb-line : (a x : List ℕ) → capitals a ≡ ascii "AUTH" → verb_of (verb (a ++ (space ∷ x))) ≡ Verbs.Auth
unfolding verb verb_of same
verb-line a x e = rw (before-cut space a x (spaceless a (ap (holds space) e)), e)

-- a line that begins with AUTH and a space is an AUTH line, or not understood
pub command-line : (p : Profile) (a x : List ℕ) → capitals a ≡ ascii "AUTH"
    → command p (a ++ (space ∷ x)) ≡ cond (understood p Verbs.Auth (a ++ (space ∷ x))) (Commands.Auth (auth (a ++ (space ∷ x)))) Commands.NotUnderstood
unfolding command
command-line Smtp a x e = rw (verb-line a x e)
command-line Pop3 a x e = rw (verb-line a x e)

holds-line : (x : ℕ) (a m r s : List ℕ) → holds x r ≡ false → holds x s ≡ false → holds x (auth_line a m r) ≡ holds x (auth_line a m s)
holds-line x a m r s h k =
    holds-end x a (space ∷ (m ++ (space ∷ r))) (space ∷ (m ++ (space ∷ s))) (rw (holds-end x m (space ∷ r) (space ∷ s) (rw (h, k) refl)) refl)

same-forbidden : (a m r s : List ℕ) → Alike r s → forbidden (auth_line a m r) ≡ forbidden (auth_line a m s)
unfolding forbidden
same-forbidden a m r s k =
    let c = clean r k.left in
    let d = clean s k.right in
    rw (holds-line 0x00 a m r s c.0 d.0, holds-line 0x0D a m r s c.2 d.2, holds-line 0x0A a m r s c.1 d.1)

same-understood : (p : Profile) (a m r s : List ℕ) → Alike r s → understood p Verbs.Auth (auth_line a m r) ≡ understood p Verbs.Auth (auth_line a m s)
unfolding understood
same-understood p a m r s k = rw (lengths-line a m r s k.lengths, same-forbidden a m r s k)

-- so a command's reading tells nothing of an initial response but its shape, whatever the line's length and mechanism
pub same-command : (p : Profile) (a m r s : List ℕ) → capitals a ≡ ascii "AUTH" → holds space m ≡ false → Alike r s → command p (auth_line a m r) ≡ command p (auth_line a m s)
same-command p a m r s e h k =
    rw (command-line p a (m ++ (space ∷ r)) e, command-line p a (m ++ (space ∷ s)) e, same-understood p a m r s k, same-auth a m r s k h e)

-- What a reading points to is of the form and the length told. Assumes nothing.
use mathlib.Core.Path.{◌≡◌, refl, sym, ◌∙◌, ap}
use mathlib.Core.Bool.{Bool, true, false, cond, not}
use mathlib.Core.List.{List, []}
use Prim.Native.Nat.{ℕ, ◌+◌, ◌≤◌}
use native.Mathlib.Omega.{arith}
use borrow.Author.Tests.{ltb-false, leb-true}
use lib.Dec.{leb, ltb}
use lib.ListN.{length, take, drop, length-drop}
use lib.Seq.{drop-drop}
use Rattle.octets.specs.Ascii.{ascii, capitals}
use Rattle.octets.specs.Lists.{is_empty, holds, same, before, after}
use Rattle.std.specs.Prelude.{Option, Some, None, Ok, Err}
use Rattle.octets.proofs.Cases.{both}
use Rattle.octets.proofs.Words.{same_true}
use Rattle.base64text.specs.Base64.{valid, octets, measured}
use Rattle.base64text.proofs.Laws.{length-octets}
use Rattle.profile.specs.Limits.{command_limit, mail_limit, response_limit}
use Rattle.profile.specs.declared.Profile.{Profile}
use Rattle.profile.specs.declared.Profile.TheVariants.{Smtp, Pop3}
use Rattle.mail.specs.Mail.{mail}
use Rattle.lines.specs.Mechanism.{mechanism, spelling}
use Rattle.lines.specs.Verb.{space, verb, verb_of}
use Rattle.lines.specs.Auth.{auth, arguments, initial, given, name_text}
use Rattle.lines.specs.Response.{response, decoding}
use Rattle.lines.specs.Command.{limit, forbidden, understood, by, command}
use Rattle.lines.specs.declared.auth.Auth.{Auth}
use Rattle.lines.specs.declared.auth.Auth.TheVariants.{Alone, Initial}
use Rattle.lines.specs.declared.command.Command.{Command}
use Rattle.lines.specs.declared.command.Command.TheVariants as Commands
use Rattle.lines.specs.declared.response.ResponseError.TheVariants as Responses
use Rattle.lines.specs.declared.verb.Verb.{Verb}
use Rattle.lines.specs.declared.verb.Verb.TheVariants as Verbs
use Rattle.lines.proofs.Auths.{name, rest}

-- what a reading of an AUTH line points to: a spelling of a mechanism's name, and base64 of the length told
data Reads (l : List ℕ) : Option Auth → Type 0 where
  nothing : Reads l None
  alone : {to : ℕ} → to ≡ 5 + length (before space (drop 5 l)) → spelling (before space (drop 5 l)) ≡ true → Reads l (Some (Alone to))
  more : {to from n : ℕ} → to ≡ 5 + length (before space (drop 5 l)) → spelling (before space (drop 5 l)) ≡ true → valid (drop from l) ≡ true
      → n ≡ length (octets (drop from l)) → Reads l (Some (Initial to from n))

module _ (l : List ℕ) (to : ℕ) (e : to ≡ 5 + length (before space (drop 5 l))) (m : spelling (before space (drop 5 l)) ≡ true) where
  reads-given : (v : Bool) → valid (drop (to + 1) l) ≡ v → Reads l (given to (cond v (Some (length (octets (drop (to + 1) l)))) None))
  reads-given true h = more e m h refl
  reads-given false h = nothing

  reads-text : (b : Bool) → Reads l (cond b None (given to (measured (drop (to + 1) l))))
  reads-text true = nothing
  reads-text false = reads-given (valid (drop (to + 1) l)) refl

  reads-equals : drop (to + 1) l ≡ ascii "=" → Reads l (Some (Initial to (to + 2) 0))
  unfolding valid octets
  reads-equals h =
      let z : to + 1 + 1 ≡ to + 2 = omega arith in
      let y : drop (to + 2) l ≡ [] = ap (λ (n : ℕ). drop n l) (sym z) ∙ sym (drop-drop 1 (to + 1) l) ∙ ap (drop 1) h in
      more e m (ap valid y) (sym (ap (λ (t : List ℕ). length (octets t)) y))

  reads-initial : (b : Bool) → same (drop (to + 1) l) (ascii "=") ≡ b
      → Reads l (cond b (Some (Initial to (to + 2) 0)) (cond (is_empty (drop (to + 1) l)) None (given to (measured (drop (to + 1) l)))))
  reads-initial true h = reads-equals (same_true (drop (to + 1) l) (ascii "=") h)
  reads-initial false h = reads-text (is_empty (drop (to + 1) l))

  reads_more : (b : Bool) → Reads l (cond b (initial to (after space (drop 5 l))) (Some (Alone to)))
  unfolding initial
  reads_more true = rw (rest l to e) (reads-initial (same (drop (to + 1) l) (ascii "=")) refl)
  reads_more false = alone e m

reads-arguments : (l : List ℕ) (b : Bool) → spelling (before space (drop 5 l)) ≡ b
    → Reads l (cond b (cond (holds space (drop 5 l)) (initial (5 + length (before space (drop 5 l))) (after space (drop 5 l))) (Some (Alone (5 + length (before space (drop 5 l)))))) None)
reads-arguments l true h = reads_more l (5 + length (before space (drop 5 l))) refl h (holds space (drop 5 l))
reads-arguments l false h = nothing

reads : (l : List ℕ) → Reads l (auth l)
unfolding auth arguments
reads l = go (same (capitals (take 5 l)) (ascii "AUTH "))
  where
    go : (b : Bool) → Reads l (cond b (arguments (drop 5 l)) None)
    go true = reads-arguments l (spelling (before space (drop 5 l))) refl
    go false = nothing

alone-told : (l : List ℕ) (to : ℕ) {x : Option Auth} → Reads l x → x ≡ Some (Alone to) → (to ≡ 5 + length (before space (drop 5 l))) × (spelling (before space (drop 5 l)) ≡ true)
alone-told l to nothing e = absurd (cc)
alone-told l to (alone {to = t} h k) e = let z : to ≡ t = cc in (z ∙ h, k)
alone-told l to (more h k v w) e = absurd (cc)

initial-told : (l : List ℕ) (to from n : ℕ) {x : Option Auth} → Reads l x → x ≡ Some (Initial to from n)
    → (to ≡ 5 + length (before space (drop 5 l))) × (spelling (before space (drop 5 l)) ≡ true) × (valid (drop from l) ≡ true) × (n ≡ length (octets (drop from l)))
initial-told l to from n nothing e = absurd (cc)
initial-told l to from n (alone h k) e = absurd (cc)
initial-told l to from n (more {to = t} {from = f} {n = m} h k v w) e =
    let y : to ≡ t = cc in
    let z : from ≡ f = cc in
    let x : n ≡ m = cc in
    rw z (y ∙ h, k, v, x ∙ w)

pub name-read : (l : List ℕ) (to : ℕ) → auth l ≡ Some (Alone to) → mechanism (name_text (Some (Alone to)) l) ≡ true
name-read l to e = let t = alone-told l to (reads l) e in rw (name l to t.0) t.1

pub name-read-initial : (l : List ℕ) (to from n : ℕ) → auth l ≡ Some (Initial to from n) → mechanism (name_text (Some (Initial to from n)) l) ≡ true
name-read-initial l to from n e = let t = initial-told l to from n (reads l) e in rw (name l to t.0) t.1

pub initial-read : (l : List ℕ) (to from n : ℕ) → auth l ≡ Some (Initial to from n) → (valid (drop from l) ≡ true) × (n ≡ length (octets (drop from l)))
initial-read l to from n e = let t = initial-told l to from n (reads l) e in (t.2, t.3)

pub initial-fits : (l : List ℕ) (to from n : ℕ) → auth l ≡ Some (Initial to from n) → n ≤ length l
initial-fits l to from n e =
    let t = initial-read l to from n e in
    omega (arith, length-octets (drop from l) t.0, length-drop from l)

-- what a response's reading measures is base64 of that length, and no longer than the limit of a response allows
response-told : (n k : ℕ) (b c v : Bool) → cond b (Err Responses.TooLong) (cond c (Err Responses.Cancelled) (decoding (cond v (Some k) None))) ≡ Ok n
    → (b ≡ false) × (v ≡ true) × (n ≡ k)
response-told n k true c v e = absurd (cc)
response-told n k false true v e = absurd (cc)
response-told n k false false true e = (refl, refl, (cc))
response-told n k false false false e = absurd (cc)

pub response-read : (p : Profile) (l : List ℕ) (n : ℕ) → response p l ≡ Ok n → (valid l ≡ true) × (n ≡ length (octets l)) × (n ≤ 9213)
unfolding response
response-read p l n e =
    let t = response-told n (length (octets l)) (ltb (response_limit p) (length l)) (same l (ascii "*")) (valid l) e in
    (t.1, t.2, omega (arith, t.2, length-octets l t.1, ltb-false (response_limit p) (length l) t.0))

-- a command's reading holds that of the MAIL or AUTH line that it is, which is within its limit
abbrev pub Holds : Profile → List ℕ → Command → Type 0
Holds p l (Commands.Mail m) = (m ≡ mail l) × (length l ≤ mail_limit p)
Holds p l (Commands.Auth a) = (a ≡ auth l) × (length l ≤ command_limit p)
Holds p l _ = Unit {0}

module _ (l : List ℕ) where
  formed : (p : Profile) (b : Bool) (c : Command) → Holds p l c → Holds p l (cond b Commands.Malformed c)
  formed p true c h = tt
  formed p false c h = h

  by-verb : (p : Profile) (v : Verb) → length l ≤ limit p v → Holds p l (by p v l)
  by-verb Smtp Verbs.Ehlo h = formed Smtp (is_empty (after space l)) Commands.Ehlo tt
  by-verb Smtp Verbs.Helo h = formed Smtp (is_empty (after space l)) Commands.Helo tt
  by-verb Smtp Verbs.Rset h = formed Smtp (holds space l) Commands.Rset tt
  by-verb Smtp Verbs.Quit h = formed Smtp (holds space l) Commands.Quit tt
  by-verb Smtp Verbs.Mail h = (refl, h)
  by-verb Smtp Verbs.Auth h = (refl, h)
  by-verb Smtp _ h = tt
  by-verb Pop3 Verbs.Auth h = (refl, h)
  by-verb Pop3 _ h = tt

  pub command-read : (p : Profile) → Holds p l (command p l)
  unfolding command understood
  command-read p = go (understood p (verb_of (verb l)) l) refl
    where
      go : (b : Bool) → understood p (verb_of (verb l)) l ≡ b → Holds p l (cond b (by p (verb_of (verb l)) l) Commands.NotUnderstood)
      go true h = by-verb p (verb_of (verb l)) (leb-true _ _ (both (leb (length l) (limit p (verb_of (verb l)))) (not (forbidden l)) h).0)
      go false h = tt

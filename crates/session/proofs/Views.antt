-- What a session sees of lines that differ in a response, or in the case of a mechanism's letters, alone. Assumes nothing.
use mathlib.Core.Path.{◌≡◌, refl, sym, ◌∙◌, ap}
use mathlib.Core.Bool.{Bool, true, false, cond, false≢true}
use mathlib.Core.List.{List, ◌∷◌, ◌++◌}
use Prim.Native.Nat.{ℕ}
use Rattle.octets.specs.Ascii.{ascii, space, capitals}
use Rattle.octets.specs.Lists.{holds}
use Rattle.base64text.specs.Base64.{valid, octets}
use Rattle.profile.specs.declared.Profile.{Profile}
use Rattle.std.specs.Prelude.{Option, None}
use Rattle.lines.specs.Auth.{auth, name_text, initial_text}
use Rattle.lines.specs.Command.{understood, command}
use Rattle.lines.specs.Response.{response}
use Rattle.lines.specs.declared.verb.Verb.TheVariants as Verbs
use Rattle.lines.specs.Alike.{Alike, auth_line, SpelledAlike}
use Rattle.lines.specs.Alike as Alikes
use Rattle.lines.specs.declared.auth.Auth.{Auth}
use Rattle.lines.specs.declared.command.Command.{Command}
use Rattle.lines.specs.declared.command.Command.TheVariants as Commands
use Rattle.lines.proofs.Laws.{same-response, spaced-response, same-name-text, same-command, command-line, ReadAlike, spelled-alike, Holds, command-read}
use Rattle.session.specs.Standing.{awaits, standing}
use Rattle.session.specs.Alike as Lines
use Rattle.session.specs.Alike.{LinesAlike}
use Rattle.session.specs.declared.Phase.{Phase}
use Rattle.session.specs.declared.Phase.TheVariants as Phases
use Rattle.session.specs.declared.Session.{Session}
use Rattle.session.specs.declared.view.View.TheVariants as Views
use Rattle.session.specs.View.{view_in, view}
use Rattle.session.specs.Octets.{auth_command, mail_command, mechanism_text, response_text, query_octets, relay_text}

-- an AUTH line is no MAIL line
unmailed : (p : Profile) (a x : List ℕ) → capitals a ≡ ascii "AUTH" → mail_command (command p (a ++ (space ∷ x))) ≡ None
unmailed p a x e = rw (command-line p a x e) (go (understood p Verbs.Auth (a ++ (space ∷ x))))
  where
    go : (b : Bool) → mail_command (cond b (Commands.Auth (auth (a ++ (space ∷ x)))) Commands.NotUnderstood) ≡ None
    go true = refl
    go false = refl

-- what an AUTH line's reading points to, g, is the same of two commands that are read alike if it is the same of two AUTH lines
module _ (g : Option Auth → List ℕ → List ℕ) (l k : List ℕ) (z : g None l ≡ g None k) (e : g (auth l) l ≡ g (auth k) k) where
  same-pointed : (p : Profile) (c : Command) → Holds p l c → Holds p k c → g (auth_command c) l ≡ g (auth_command c) k
  same-pointed p Commands.NotUnderstood x y = z
  same-pointed p Commands.Malformed x y = z
  same-pointed p Commands.Ehlo x y = z
  same-pointed p Commands.Helo x y = z
  same-pointed p Commands.Rset x y = z
  same-pointed p Commands.Quit x y = z
  same-pointed p (Commands.Mail m) x y = z
  same-pointed p (Commands.Auth a) x y = ap (λ (b : Option Auth). g b l) x.0 ∙ e ∙ ap (λ (b : Option Auth). g b k) (sym y.0)
  same-pointed p Commands.Barred x y = z
  same-pointed p Commands.Other x y = z

  pointed : (p : Profile) → command p l ≡ command p k → g (auth_command (command p l)) l ≡ g (auth_command (command p k)) k
  pointed p c =
      same-pointed p (command p l) (command-read l p) (rw (← c) at (command-read k p))
      ∙ ap (λ (m : Command). g (auth_command m) k) c

-- what a session sees of a line, in a phase: the view, the mechanism that it names, and the xtext to relay
pub record Seen (p : Profile) (x : Phase) (l k : List ℕ) : Type 0 where
  pub view : view_in p x l ≡ view_in p x k
  pub mechanism : mechanism_text (view_in p x l) l ≡ mechanism_text (view_in p x k) k
  pub relay : relay_text (view_in p x l) l ≡ relay_text (view_in p x k) k

-- AUTH lines, whatever follows AUTH and a space: where they are read alike as commands and as responses, they are seen alike
module _ (p : Profile) (a b x y : List ℕ) (e : capitals a ≡ ascii "AUTH") (f : capitals b ≡ ascii "AUTH") where
  abbrev l : List ℕ
  l = a ++ (space ∷ x)

  abbrev k : List ℕ
  k = b ++ (space ∷ y)

  auth-lines : command p l ≡ command p k → name_text (auth l) l ≡ name_text (auth k) k → response p l ≡ response p k → (s : Phase) → Seen p s l k
  unfolding view_in
  auth-lines c n r s = go s
    where
      commands : Seen p Phases.Idle l k
      commands =
          record {
            view = ap Views.Command c;
            mechanism = pointed name_text l k refl n p c;
            relay = rw (unmailed p a x e, unmailed p b y f);
          }

      go : (s : Phase) → Seen p s l k
      go Phases.Idle = commands
      go Phases.SignedIn = record { view = commands.view; mechanism = commands.mechanism; relay = commands.relay }
      go (Phases.Awaiting m) = record { view = ap Views.Response r; mechanism = refl; relay = refl }
      go (Phases.Waiting t m) = record { view = refl; mechanism = refl; relay = refl }

module _ (p : Profile) where
  initials : (x : Phase) (a m r q : List ℕ) → capitals a ≡ ascii "AUTH" → holds space m ≡ false → Alike r q → Seen p x (auth_line a m r) (auth_line a m q)
  initials x a m r q e f h =
      auth-lines p a a (m ++ (space ∷ r)) (m ++ (space ∷ q)) e e (same-command p a m r q e f h) (same-name-text a m r q h f e) (spaced-response p a m r q h.lengths) x

  responses : (x : Phase) (r q : List ℕ) → standing x ≡ awaits → Alike r q → Seen p x r q
  unfolding view_in
  responses Phases.Idle r q e h = cc
  responses Phases.SignedIn r q e h = cc
  responses (Phases.Awaiting k) r q e h = record { view = ap Views.Response (same-response p r q h); mechanism = refl; relay = refl }
  responses (Phases.Waiting t k) r q e h = cc

-- so lines that are alike are seen alike
pub same_view : (s : Session) {l k : List ℕ} → LinesAlike (standing s.phase) l k → Seen s.profile s.phase l k
same_view s (Lines.equal l) = record { view = refl; mechanism = refl; relay = refl }
same_view s (Lines.initial a m {r = r} {q = q} e f h) = initials s.profile s.phase a m r q e f h
same_view s (Lines.response {r = r} {q = q} e h) = responses s.profile s.phase r q e h

-- and so are AUTH lines that differ in the case of letters alone
pub spelled-view : (s : Session) {l k : List ℕ} → SpelledAlike l k → Seen s.profile s.phase l k
spelled-view s h = go h (spelled-alike h)
  where
    go : {l k : List ℕ} → SpelledAlike l k → ReadAlike l k → Seen s.profile s.phase l k
    go (Alikes.alone a b m n e f c j) r = auth-lines s.profile a b m n e f (r.commands s.profile) r.name (r.responses s.profile) s.phase
    go (Alikes.initial a b m n t e f c j) r =
        auth-lines s.profile a b (m ++ (space ∷ t)) (n ++ (space ∷ t)) e f (r.commands s.profile) r.name (r.responses s.profile) s.phase

-- and where the first has a response, they hand on the same octets
pub spelled-octets : (s : Session) {l k : List ℕ} → SpelledAlike l k → valid (response_text (view s l) l) ≡ true → query_octets (view s l) l ≡ query_octets (view s k) k
unfolding view_in query_octets
spelled-octets s {l} {k} h = go s.phase
  where
    r : ReadAlike l k
    r = spelled-alike h

    commands : octets (initial_text (auth_command (command s.profile l)) l) ≡ octets (initial_text (auth_command (command s.profile k)) k)
    commands = pointed (λ (a : Option Auth) (t : List ℕ). octets (initial_text a t)) l k refl r.octets s.profile (r.commands s.profile)

    go : (x : Phase) → valid (response_text (view_in s.profile x l) l) ≡ true → query_octets (view_in s.profile x l) l ≡ query_octets (view_in s.profile x k) k
    go Phases.Idle v = commands
    go Phases.SignedIn v = commands
    go (Phases.Awaiting m) v = absurd (false≢true (sym r.malformed ∙ v))
    go (Phases.Waiting t m) v = refl

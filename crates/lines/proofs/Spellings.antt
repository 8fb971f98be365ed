-- AUTH lines that differ in the case of letters alone are read alike (M-105). Assumes nothing.
use mathlib.Core.Path.{◌≡◌, refl, sym, ◌∙◌, ap, ap₂}
use mathlib.Core.Bool.{false, false≢true}
use mathlib.Core.List.{List, [], ◌∷◌, ◌++◌, map-append}
use Prim.Native.Nat.{ℕ, ◌<◌}
use native.Mathlib.Omega.{arith}
use lib.ListN.{length, length-map}
use Rattle.octets.specs.Ascii.{ascii, capital, capitals}
use Rattle.octets.specs.Lists.{holds, same, before, after}
use Rattle.octets.proofs.Cases.{split}
use Rattle.octets.proofs.Words.{before-cut, after-cut, holds-cut}
use Rattle.base64text.specs.Base64 as Base64
use Rattle.base64text.proofs.Laws.{clean}
use Rattle.profile.specs.declared.Profile.{Profile}
use Rattle.std.specs.Prelude.{Option, Some, None}
use Rattle.lines.specs.Alike.{SpelledAlike, alone, initial}
use Rattle.lines.specs.Auth.{auth, arguments, name_text, initial_text}
use Rattle.lines.specs.Command.{forbidden, understood, command}
use Rattle.lines.specs.Response.{response}
use Rattle.lines.specs.Says as Say
use Rattle.lines.specs.Says.{Says, arguments_say, auth_says, points_to}
use Rattle.lines.specs.Verb.{space}
use Rattle.lines.specs.declared.auth.Auth.{Auth}
use Rattle.lines.specs.declared.auth.Auth.TheVariants.{Alone, Initial}
use Rattle.lines.specs.declared.verb.Verb.TheVariants as Verbs
use Rattle.lines.proofs.Alikes.{first-five, after-five, auth-line, command-line, spaced}
use Rattle.lines.proofs.Lists.{holds-capitals, before-none, after_none}
use Rattle.lines.proofs.Says.{auth-says}

-- texts whose capitals are the same are of one length, and the same octets that come before the letters stand in them
module _ (l k : List ℕ) (e : capitals l ≡ capitals k) where
  lengths : length l ≡ length k
  lengths = sym (length-map l capital) ∙ ap length e ∙ length-map k capital

  held : (y : ℕ) → y < 0x41 → holds y l ≡ holds y k
  held y h = sym (holds-capitals y h l) ∙ ap (holds y) e ∙ holds-capitals y h k

  are-understood : (p : Profile) → understood p Verbs.Auth l ≡ understood p Verbs.Auth k
  unfolding understood forbidden
  are-understood p = rw (lengths, held 0x00 (omega arith), held 0x0D (omega arith), held 0x0A (omega arith))

-- what follows AUTH and a space, twice
record SameArguments (x y : List ℕ) : Type 0 where
  names : capitals (before space x) ≡ capitals (before space y)
  spaces : holds space x ≡ holds space y
  rests : after space x ≡ after space y

module _ (x y : List ℕ) (s : SameArguments x y) where
  arguments-same : arguments x ≡ arguments y
  unfolding arguments
  arguments-same = rw (lengths (before space x) (before space y) s.names, s.names, s.spaces, s.rests)

  arguments-say-same : arguments_say x ≡ arguments_say y
  unfolding arguments_say
  arguments-say-same = rw (s.names, s.spaces, s.rests)

-- a name m, spelled n as well, with nothing after it and with a response
module _ (m n : List ℕ) (e : capitals m ≡ capitals n) (h : holds space m ≡ false) where
  other_spaceless : holds space n ≡ false
  other_spaceless = sym (held m n e space (omega arith)) ∙ h

  names-alone : SameArguments m n
  names-alone =
      let k = other_spaceless in
      record {
        names = ap capitals (before-none space m h) ∙ e ∙ sym (ap capitals (before-none space n k));
        spaces = h ∙ sym k;
        rests = after_none space m h ∙ sym (after_none space n k);
      }

  names-initial : (r : List ℕ) → SameArguments (m ++ (space ∷ r)) (n ++ (space ∷ r))
  names-initial r =
      let k = other_spaceless in
      record {
        names = ap capitals (before-cut space m r h) ∙ e ∙ sym (ap capitals (before-cut space n r k));
        spaces = holds-cut space m r ∙ sym (holds-cut space n r);
        rests = after-cut space m r h ∙ sym (after-cut space n r k);
      }

-- the capitals of two texts with a space between them
capitals-line : (a b x y : List ℕ) → capitals a ≡ capitals b → capitals x ≡ capitals y → capitals (a ++ (space ∷ x)) ≡ capitals (b ++ (space ∷ y))
capitals-line a b x y e f =
    map-append capital a (space ∷ x)
    ∙ ap₂ (λ (u v : List ℕ). u ++ (capital space ∷ v)) e f
    ∙ sym (map-append capital b (space ∷ y))

-- the name and the octets that a reading points to, by what the line says
abbrev name_said : Says → List ℕ
name_said Say.malformed = []
name_said (Say.alone m) = m
name_said (Say.initial m t) = m

abbrev octets_said : Says → List ℕ
octets_said Say.malformed = []
octets_said (Say.alone m) = []
octets_said (Say.initial m t) = t

name-said : (x : Option Auth) (l : List ℕ) → name_text x l ≡ name_said (points_to x l)
name-said None l = refl
name-said (Some (Alone to)) l = refl
name-said (Some (Initial to from n)) l = refl

octets-said : (x : Option Auth) (l : List ℕ) → Base64.octets (initial_text x l) ≡ octets_said (points_to x l)
unfolding Base64.octets
octets-said None l = refl
octets-said (Some (Alone to)) l = refl
octets-said (Some (Initial to from n)) l = refl

-- two lines that are read alike, where no exchange runs and where one does
pub record ReadAlike (l k : List ℕ) : Type 0 where
  pub name : name_text (auth l) l ≡ name_text (auth k) k
  pub octets : Base64.octets (initial_text (auth l) l) ≡ Base64.octets (initial_text (auth k) k)
  pub commands : (p : Profile) → command p l ≡ command p k
  pub responses : (p : Profile) → response p l ≡ response p k
  -- as a response the first is no base64
  pub malformed : Base64.valid l ≡ false

module _ (a b x y : List ℕ) (e : capitals a ≡ ascii "AUTH") (f : capitals b ≡ ascii "AUTH") (s : SameArguments x y) (c : capitals x ≡ capitals y) where
  abbrev l : List ℕ
  l = a ++ (space ∷ x)

  abbrev k : List ℕ
  k = b ++ (space ∷ y)

  line-capitals : capitals l ≡ capitals k
  line-capitals = capitals-line a b x y (e ∙ sym f) c

  line_auths : auth l ≡ auth k
  line_auths = auth-line a e x ∙ arguments-same x y s ∙ sym (auth-line b f y)

  line-says : auth_says l ≡ auth_says k
  unfolding auth_says same
  line-says = rw (first-five a e x, first-five b f y, after-five a e x, after-five b f y) (arguments-say-same x y s)

  points : points_to (auth l) l ≡ points_to (auth k) k
  points = auth-says l ∙ line-says ∙ sym (auth-says k)

  line-commands : (p : Profile) → command p l ≡ command p k
  line-commands p = rw (command-line p a x e, command-line p b y f, are-understood l k line-capitals p, line_auths)

  line-responses : (p : Profile) → response p l ≡ response p k
  line-responses p = rw (spaced p l (holds-cut space a x), spaced p k (holds-cut space b y), lengths l k line-capitals)

  line-malformed : Base64.valid l ≡ false
  line-malformed = split (Base64.valid l) (λ v. absurd (false≢true (sym (clean l v).3 ∙ holds-cut space a x))) (λ v. v)

  line-alike : ReadAlike l k
  line-alike =
      record {
        name = name-said (auth l) l ∙ ap name_said points ∙ sym (name-said (auth k) k);
        octets = octets-said (auth l) l ∙ ap octets_said points ∙ sym (octets-said (auth k) k);
        commands = line-commands;
        responses = line-responses;
        malformed = line-malformed;
      }

pub spelled-alike : {l k : List ℕ} → SpelledAlike l k → ReadAlike l k
spelled-alike (alone a b m n e f c h) = line-alike a b m n e f (names-alone m n c h) c
spelled-alike (initial a b m n r e f c h) =
    line-alike a b (m ++ (space ∷ r)) (n ++ (space ∷ r)) e f (names-initial m n c h r) (capitals-line m n r r c refl)

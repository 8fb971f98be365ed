-- The image of a well formed server is a list of octets. Assumes nothing.
use mathlib.Core.Path.{◌≡◌, refl, sym, subst}
use mathlib.Core.Bool.{Bool, true, false, cond, ◌&&◌, ◌||◌, false≢true}
use mathlib.Core.List.{List, [], ◌∷◌, ◌++◌}
use mathlib.Core.Option.{none, some}
use Prim.Native.Nat.{ℕ, zero, suc, ◌<◌, ◌/◌, suc-le-suc}
use native.Mathlib.Omega.{arith}
use lib.Dec.{leb, eqb, lit<}
use lib.ListN.{length, take, replicate}
use borrow.Author.Tests.{leb-true, eqb-true}
use Rattle.octets.specs.Lists.{Octets, every, same, one_to, before, padded_to}
use Rattle.octets.proofs.Cases.{both}
use Rattle.octets.proofs.Words.{same_true}
use Rattle.lines.specs.Mechanism.{mech_char, padded}
use Rattle.octets.specs.Ascii.{is_capital, is_digit}
use Rattle.codec.specs.Codec.{Codec, octet, put_octet, put_number, bit, element, put_array, put_option, put_up_to}
use Rattle.codec.proofs.Arrays.{octets-put}
use Rattle.profile.specs.Numbers.{profile_number}
use Rattle.profile.specs.declared.Profile.{Profile}
use Rattle.profile.specs.declared.Profile.TheVariants.{Smtp, Pop3}
use Rattle.session.specs.Limits.{most_challenges, longest_name}
use Rattle.session.specs.Session.{signed_in, name_of}
use Rattle.session.specs.Verdict.{graphic, is_name}
use Rattle.session.specs.WellFormed.{sent_within, name_within}
use Rattle.session.specs.declared.Phase.{Phase}
use Rattle.session.specs.declared.Phase.TheVariants.{Idle, SignedIn, Awaiting, Waiting}
use Rattle.session.specs.declared.Session.{Session}
use Rattle.server.specs.Limits.{most_connections, most_mechanisms}
use Rattle.server.specs.Server.{Slot, Server}
use Rattle.server.specs.WellFormed.{slot_within, mechanism_within, well_formed}
use Rattle.server.specs.declared.Header.{Header}
use Rattle.server.specs.declared.Mechanism.{Mechanism}
use Rattle.image.specs.Layout.{profile, phase_number, phase_sent, phase_waits, phase, session, connection, slot, mechanism, header}
use Rattle.image.specs.Image.{image_of}
use Rattle.image.proofs.Lawful.{name-length, mechanism-length, every-each}
use Rattle.session.proofs.Laws.{session-parts}
use Rattle.server.proofs.Within.{server-parts, mechanisms-parts, mechanism-parts, slots-parts, connection-parts}
use Rattle.image.proofs.Stores.{image-parts}

-- ---- lists

append-octets : (l m : List ℕ) → Octets l → Octets m → Octets (l ++ m)
append-octets [] m h k = k
append-octets (x ∷ l) m h k = (h.0, append-octets l m h.1 k)

zeros-octets : (n : ℕ) → Octets (replicate n 0)
zeros-octets zero = tt
zeros-octets (suc n) = (lit< tt, zeros-octets n)

take-octets : (n : ℕ) (l : List ℕ) → Octets l → Octets (take n l)
take-octets zero l h = tt
take-octets (suc n) [] h = tt
take-octets (suc n) (x ∷ l) h = (h.0, take-octets n l h.1)

padded-octets : (n : ℕ) (l : List ℕ) → Octets l → Octets (padded_to n l)
unfolding padded_to
padded-octets n l h = take-octets n (l ++ replicate n 0) (append-octets l (replicate n 0) h (zeros-octets n))

every-octets : (p : ℕ → Bool) → ((x : ℕ) → p x ≡ true → x < 256) → (l : List ℕ) → every p l ≡ true → Octets l
unfolding every
every-octets p f [] e = tt
every-octets p f (x ∷ l) e = let b = both (p x) (every p l) e in (f x b.0, every-octets p f l b.1)

one_to-octets : (n : ℕ) (p : ℕ → Bool) → ((x : ℕ) → p x ≡ true → x < 256) → (l : List ℕ) → one_to n p l ≡ true → Octets l
unfolding one_to
one_to-octets n p f l e = every-octets p f l (both (leb 1 (length l) && leb (length l) n) (every p l) e).1

-- ---- layouts

octet-octets : (x : ℕ) → x < 256 → Octets (put_octet x)
unfolding put_octet
octet-octets x h = (h, tt)

bit-octets : (b : Bool) → Octets (put_octet (bit b))
bit-octets true = octet-octets 1 (lit< tt)
bit-octets false = octet-octets 0 (lit< tt)

number-octets : (k x : ℕ) → Octets (put_number k x)
unfolding put_number
number-octets zero x = tt
number-octets (suc k) x = (omega arith, number-octets k (x / 256))

name-octets : (n : ℕ) (l : List ℕ) → length l ≡ n → Octets l → Octets (put_array octet n l)
name-octets n l e h = subst Octets (sym (octets-put n l e)) h

module _ {A : Type 0} (a : Codec A) where
  array-octets : (n : ℕ) (xs : List A) → ((i : ℕ) → i < n → Octets (a.put (element a xs i))) → Octets (put_array a n xs)
  unfolding put_array
  array-octets zero xs h = tt
  array-octets (suc n) [] h = append-octets (a.put (element a [] 0)) (put_array a n []) (h 0 (omega arith)) (array-octets n [] (λ i k. h (suc i) (suc-le-suc k)))
  array-octets (suc n) (x ∷ xs) h = append-octets (a.put x) (put_array a n xs) (h 0 (omega arith)) (array-octets n xs (λ i k. h (suc i) (suc-le-suc k)))

  up_to-octets : (n : ℕ) (xs : List A) → ((i : ℕ) → i < length xs → Octets (a.put (element a xs i))) → Octets (put_up_to a n xs)
  unfolding put_up_to
  up_to-octets zero xs h = tt
  up_to-octets (suc n) [] h = append-octets (replicate a.size 0) (put_up_to a n []) (zeros-octets a.size) (up_to-octets n [] h)
  up_to-octets (suc n) (x ∷ xs) h = append-octets (a.put x) (put_up_to a n xs) (h 0 (omega arith)) (up_to-octets n xs (λ i k. h (suc i) (suc-le-suc k)))

-- ---- the parts of a server

header-octets : (h : Header) → Octets (header.put h)
unfolding header
header-octets h =
    append-octets (put_number 8 h.connection) (put_number 8 h.ticket ++ put_octet (bit h.sealed)) (number-octets 8 h.connection)
    (append-octets (put_number 8 h.ticket) (put_octet (bit h.sealed)) (number-octets 8 h.ticket) (bit-octets h.sealed))

letter-small : (x : ℕ) → graphic x ≡ true → x < 256
letter-small x e = let h = leb-true x 0x7E (both (leb 0x21 x) (leb x 0x7E) e).1 in omega arith

mech_small : (x : ℕ) → mech_char x ≡ true → x < 256
mech_small x e = go (is_capital x) refl (is_digit x) refl (eqb x 0x2D) refl (eqb x 0x5F) refl e
  where
    go : (a : Bool) → is_capital x ≡ a → (b : Bool) → is_digit x ≡ b → (c : Bool) → eqb x 0x2D ≡ c → (d : Bool) → eqb x 0x5F ≡ d
        → (a || b || c || d) ≡ true → x < 256
    go true ea b eb c ec d ed h = let k = leb-true x 0x5A (both (leb 0x41 x) (leb x 0x5A) ea).1 in omega arith
    go false ea true eb c ec d ed h = let k = leb-true x 0x39 (both (leb 0x30 x) (leb x 0x39) eb).1 in omega arith
    go false ea false eb true ec d ed h = let k = eqb-true x 0x2D ec in omega arith
    go false ea false eb false ec true ed h = let k = eqb-true x 0x5F ed in omega arith
    go false ea false eb false ec false ed h = absurd (false≢true h)

name-kept : (m : Mechanism) → mechanism_within m ≡ true → Octets m.name
unfolding padded
name-kept m e =
    let k = mechanism-parts m e in
    subst Octets (sym k.1) (padded-octets 20 (before 0 m.name) (one_to-octets 20 mech_char mech_small (before 0 m.name) k.0))

mechanism-octets : (m : Mechanism) → mechanism_within m ≡ true → Octets (mechanism.put m)
unfolding mechanism
mechanism-octets m e =
    append-octets (put_array octet 20 m.name) (put_octet (bit m.client_first) ++ put_octet (bit m.needs_protection))
    (name-octets 20 m.name (mechanism-length m e) (name-kept m e))
    (append-octets (put_octet (bit m.client_first)) (put_octet (bit m.needs_protection)) (bit-octets m.client_first) (bit-octets m.needs_protection))

profile-octets : (p : Profile) → Octets (put_octet (profile_number p))
profile-octets Smtp = octet-octets 0 (lit< tt)
profile-octets Pop3 = octet-octets 1 (lit< tt)

phase-small : (p : Phase) → sent_within p ≡ true → (phase_number p < 256) × (phase_sent p < 256)
phase-small Idle e = (lit< tt, lit< tt)
phase-small SignedIn e = (lit< tt, lit< tt)
phase-small (Awaiting k) e = let h = leb-true k most_challenges e in (lit< tt, omega arith)
phase-small (Waiting t k) e = let h = leb-true k most_challenges e in (lit< tt, omega arith)

phase-octets : (p : Phase) → sent_within p ≡ true → Octets (phase.put p)
unfolding phase
phase-octets p e =
    let h = phase-small p e in
    append-octets (put_octet (phase_number p)) (put_octet (phase_sent p) ++ put_number 8 (phase_waits p)) (octet-octets (phase_number p) h.0)
    (append-octets (put_octet (phase_sent p)) (put_number 8 (phase_waits p)) (octet-octets (phase_sent p) h.1) (number-octets 8 (phase_waits p)))

session-name : (s : Session) → name_within s ≡ true → Octets s.name
unfolding name_within
session-name s e = go (signed_in s.phase) e
  where
    go : (b : Bool) → cond b (is_name (name_of s) && same s.name (padded_to longest_name (name_of s))) (same s.name (replicate longest_name 0)) ≡ true
        → Octets s.name
    go true h =
        let b = both (is_name (name_of s)) (same s.name (padded_to longest_name (name_of s))) h in
        subst Octets (sym (same_true s.name (padded_to longest_name (name_of s)) b.1))
        (padded-octets longest_name (name_of s) (one_to-octets longest_name graphic letter-small (name_of s) b.0))
    go false h = subst Octets (sym (same_true s.name (replicate longest_name 0) h)) (zeros-octets longest_name)

session-octets : (s : Session) → sent_within s.phase ≡ true → name_within s ≡ true → Octets (session.put s)
unfolding session profile
session-octets s e w =
    let name = put_array octet longest_name s.name in
    let p = put_octet (profile_number s.profile) in
    let b = put_octet (bit s.protected) in
    let g = put_octet (bit s.greeted) in
    let x = put_octet (bit s.transaction) in
    append-octets p (b ++ (g ++ (x ++ (phase.put s.phase ++ name)))) (profile-octets s.profile)
    (append-octets b (g ++ (x ++ (phase.put s.phase ++ name))) (bit-octets s.protected)
    (append-octets g (x ++ (phase.put s.phase ++ name)) (bit-octets s.greeted)
    (append-octets x (phase.put s.phase ++ name) (bit-octets s.transaction)
    (append-octets (phase.put s.phase) name (phase-octets s.phase e) (name-octets longest_name s.name (name-length s w) (session-name s w))))))

slot-octets : (h : Header) (x : Slot) → slot_within h x ≡ true → Octets (slot.put x)
unfolding slot put_option connection
slot-octets h none e = append-octets (put_octet 0) (replicate connection.size 0) (octet-octets 0 (lit< tt)) (zeros-octets connection.size)
slot-octets h (some c) e =
    let k = connection-parts h c e in
    let w = session-parts c.session k.3 in
    append-octets (put_octet 1) (put_number 8 c.number ++ session.put c.session) (octet-octets 1 (lit< tt))
    (append-octets (put_number 8 c.number) (session.put c.session) (number-octets 8 c.number) (session-octets c.session w.0 w.1))

-- ---- the whole

pub image-octets : (s : Server) → well_formed s ≡ true → Octets (image_of s)
image-octets s w =
    let ms = s.mechanisms in
    let xs = s.slots in
    let h = s.header in
    let k = server-parts s w in
    let m = mechanisms-parts ms k.1 in
    let x = slots-parts h xs k.2 in
    let table = put_up_to mechanism most_mechanisms ms in
    let slots = put_array slot most_connections xs in
    let named = every-each mechanism_within (λ y. Octets (mechanism.put y)) mechanism-octets ms (mechanism.get [] 0) m.1 in
    let held = every-each (slot_within h) (λ y. Octets (slot.put y)) (slot-octets h) xs (slot.get [] 0) x.1 in
    subst Octets (sym (image-parts s))
    (append-octets (header.put h) ((put_octet (length ms) ++ table) ++ slots) (header-octets h)
    (append-octets (put_octet (length ms) ++ table) slots
    (append-octets (put_octet (length ms)) table (octet-octets (length ms) (omega (arith, m.0))) (up_to-octets mechanism most_mechanisms ms named))
    (array-octets slot most_connections xs (λ i b. held i (omega (arith, x.0))))))

-- An open connection judged where it stands, field by field as numbers. l: octets; o: each is below 256. Assumes nothing.
use mathlib.Core.Path.{◌≡◌, refl, sym, ap, ◌∙◌}
use mathlib.Core.Bool.{Bool, true, false, ◌&&◌, and_assoc, and-true}
use mathlib.Core.List.{List}
use Prim.Native.Nat.{ℕ, zero, suc, ◌+◌, ◌<◌}
use native.Mathlib.Omega.{arith}
use native.Mathlib.Nat.{add_assoc}
use lib.Dec.{eqb, leb, ltb}
use Rattle.std.proofs.lemmas.Bool.Decides.{nat_tests}
use borrow.Author.Tests.{eq-eqb}
use lib.ListN.{get_or, replicate}
use Rattle.octets.specs.Lists.{same}
use Rattle.octets.proofs.Padding.{run, padded-run}
use Rattle.codec.specs.Codec.{octet, put_octet, put_number, get_number, put_array, get_array, bit, is_one}
use Rattle.codec.specs.InPlace.{stands_at, canonical_at, every_at}
use Rattle.codec.proofs.Lawful.{put_number-length, put_array-length}
use Rattle.codec.proofs.InPlace.{stands_at-append}
use Rattle.codec.proofs.Arrays.{octets-put, get_array-length}
use Rattle.profile.specs.Numbers.{profile_number}
use Rattle.session.specs.Limits.{most_challenges, longest_name}
use Rattle.session.specs.Session.{signed_in, name_of}
use Rattle.session.specs.Verdict.{graphic}
use Rattle.session.specs.WellFormed.{sent_within, name_within}
use Rattle.session.specs.declared.Phase.{Phase}
use Rattle.session.specs.declared.Session.{Session}
use Rattle.server.specs.WellFormed.{is_below, phase_ticket, slot_within}
use Rattle.server.specs.declared.Header.{Header}
use Rattle.server.specs.declared.Mechanism.{Mechanism}
use Rattle.image.specs.Sizes.{phase_size, session_phase, session_name, connection_session}
use Rattle.image.specs.Layout.{profile_at, profile, phase_number, phase_sent, phase_waits, phase_at, phase, session, connection, mechanism, header}
use Rattle.image.specs.Private.{header_fits, phase_fits, follows_at, runs_at, name_at, name_fits, phased_fits, connection_fits}
use Rattle.image.proofs.Lawful.{any-lawful, phase-lawful}
use Rattle.image.proofs.Offsets.{phase-size, phase-get, session-get, connection-get, mechanism-get, header-get}
use Rattle.image.proofs.Parts.{header-below}
use Rattle.image.proofs.Values.{zero-here}
use Rattle.image.proofs.Pieces.{places-shared, number-zero, zeros-split}

-- ---- one octet, 0 or 1

flag_same : (x : ℕ) → eqb (bit (is_one x)) x ≡ leb x 1
flag_same x = grind (arith, nat_tests)

profile-same : (x : ℕ) → eqb (profile_number (profile_at x)) x ≡ leb x 1
profile-same x = grind (arith, nat_tests)

-- ---- numbers

-- a number that is read stands there
number-self : (l : List ℕ) → ((i : ℕ) → get_or l i 0 < 256) → (k at : ℕ) → stands_at (put_number k (get_number k l at)) l at ≡ true
unfolding stands_at put_number get_number
number-self l o zero at = refl
number-self l o (suc k) at = grind (arith, nat_tests, o at, number-self l o k (at + 1))

-- ---- a phase

at-most-zero : (k : ℕ) → eqb k 0 ≡ leb k 0
at-most-zero k = grind (arith, nat_tests)

below_one : (t : ℕ) → eqb t 0 ≡ ltb t 1
below_one t = grind (arith, nat_tests)

-- w n: whether n stands there as the ticket
phase-cases : (x k t b : ℕ) (w : ℕ → Bool) → w 0 ≡ eqb t 0 → w t ≡ true
    → ((eqb (phase_number (phase_at x k t)) x && (eqb (phase_sent (phase_at x k t)) k && w (phase_waits (phase_at x k t))))
    && (is_below (phase_ticket (phase_at x k t)) b && sent_within (phase_at x k t)))
    ≡ phase_fits x k t b
unfolding phase_fits
phase-cases x k t b w e f = grind (arith, nat_tests)

signed-at : (x k t : ℕ) → signed_in (phase_at x k t) ≡ eqb x 1
signed-at x k t = grind (arith, nat_tests)

module _ (l : List ℕ) (at : ℕ) where
  phase-stands : (p : Phase) → stands_at (phase.put p) l at
      ≡ (eqb (phase_number p) (get_or l at 0) && (eqb (phase_sent p) (get_or l (at + 1) 0) && stands_at (put_number 8 (phase_waits p)) l (at + 2)))
  unfolding phase stands_at put_octet
  phase-stands p = simp add_assoc

  phase-same : ((i : ℕ) → get_or l i 0 < 256) → (b : ℕ)
      → (canonical_at phase l at && (is_below (phase_ticket (phase.get l at)) b && sent_within (phase.get l at)))
      ≡ phase_fits (get_or l at 0) (get_or l (at + 1) 0) (get_number 8 l (at + 2)) b
  phase-same o b =
      let x = get_or l at 0 in
      let k = get_or l (at + 1) 0 in
      let t = get_number 8 l (at + 2) in
      rw (phase-get l at, phase-stands (phase_at x k t))
      (phase-cases x k t b (λ n. stands_at (put_number 8 n) l (at + 2)) (number-zero l 8 (at + 2)) (number-self l o 8 (at + 2)))

-- ---- a name

run-runs : (l : List ℕ) (n at : ℕ) → run graphic (get_or l at 0) (get_array octet n l (at + 1)) ≡ every_at (follows_at l) 1 n at
unfolding run get_array every_at
run-runs l zero at = refl
run-runs l (suc n) at = ap (λ (b : Bool). follows_at l at && b) (run-runs l n (at + 1))

stands-own : (l : List ℕ) (n at : ℕ) → stands_at (get_array octet n l at) l at ≡ true
unfolding stands_at get_array
stands-own l zero at = refl
stands-own l (suc n) at = rw (eq-eqb (get_or l at 0) (get_or l at 0) refl) (stands-own l n (at + 1))

zeros-own : (l : List ℕ) (n at : ℕ) → same (get_array octet n l at) (replicate n 0) ≡ stands_at (replicate n 0) l at
unfolding stands_at get_array same
zeros-own l zero at = refl
zeros-own l (suc n) at = rw (zero-here (get_or l at 0), zeros-own l n (at + 1))

module _ (l : List ℕ) (at : ℕ) where
  octets-canonical : (n : ℕ) → stands_at (put_array octet n (get_array octet n l at)) l at ≡ true
  octets-canonical n = ap (λ (v : List ℕ). stands_at v l at) (octets-put n (get_array octet n l at) (get_array-length octet n l at)) ∙ stands-own l n at

  name_runs : (graphic (get_or l at 0) && (runs_at l 32 at && runs_at l 32 (at + 31))) ≡ name_fits l true at
  unfolding name_fits get_array
  name_runs =
      ap (λ (b : Bool). graphic (get_or l at 0) && b) (places-shared (follows_at l) 31 1 31 at ∙ sym (run-runs l 63 at))
      ∙ padded-run graphic longest_name (name_at l at) refl (get_array-length octet longest_name l at) (omega arith)

  pub name-signed : graphic (get_or l at 0) ≡ true → (runs_at l 32 at && runs_at l 32 (at + 31)) ≡ name_fits l true at
  name-signed e = grind (arith, name_runs)

  pub name-none : graphic (get_or l at 0) ≡ false → false ≡ name_fits l true at
  name-none e = grind (arith, name_runs)

  pub name_signed : graphic (get_or l at 0) ≡ true → (runs_at l 32 at && runs_at l 32 (at + 31)) ≡ name_fits l true at
  name_signed e = rw e at name_runs

  pub name_none : graphic (get_or l at 0) ≡ false → false ≡ name_fits l true at
  name_none e = rw e at name_runs

-- ---- a session from its phase on

module _ (l : List ℕ) (at : ℕ) where
  -- no ticket is eight zeros
  no-ticket : ltb (get_number 8 l (at + 2)) 1 ≡ stands_at (replicate 8 0) l (at + 2)
  unfolding put_number
  no-ticket = grind (arith, below_one, number-zero l 8 (at + 2))

  pub phased_waiting : (b : ℕ) → get_or l at 0 ≡ 3
      → (leb (get_or l (at + 1) 0) most_challenges && (ltb (get_number 8 l (at + 2)) b && stands_at (replicate longest_name 0) l (at + phase_size))) ≡ phased_fits l b at
  unfolding phased_fits phase_fits name_fits
  phased_waiting b e = grind (arith, nat_tests)

  pub phased_signed_in : (b : ℕ) → get_or l at 0 ≡ 1
      → (leb (get_or l (at + 1) 0) 0 && (stands_at (replicate 8 0) l (at + 2) && name_fits l true (at + phase_size))) ≡ phased_fits l b at
  unfolding phased_fits phase_fits
  phased_signed_in b e = grind (arith, nat_tests, no-ticket)

  pub phased_awaiting : (b : ℕ) → get_or l at 0 ≡ 2 → (leb (get_or l (at + 1) 0) most_challenges && stands_at (replicate (8 + longest_name) 0) l (at + 2)) ≡ phased_fits l b at
  unfolding phased_fits phase_fits name_fits
  phased_awaiting b e = grind (arith, nat_tests, no-ticket, zeros-split l 8 longest_name (at + 2))

  pub phased_idle : (b : ℕ) → get_or l at 0 ≡ 0 → stands_at (replicate (1 + (8 + longest_name)) 0) l (at + 1) ≡ phased_fits l b at
  unfolding phased_fits phase_fits name_fits stands_at
  phased_idle b e =
      let f : at + 1 + 1 ≡ at + 2 = omega arith in
      let g : at + 2 + 8 ≡ at + phase_size = omega arith in
      let z : stands_at (replicate 1 0) l (at + 1) ≡ leb (get_or l (at + 1) 0) 0 =
      and-true (eqb 0 (get_or l (at + 1) 0)) ∙ zero-here (get_or l (at + 1) 0) ∙ at-most-zero (get_or l (at + 1) 0) in
      rw (e, no-ticket, zeros-split l 1 (8 + longest_name) (at + 1), z, f, zeros-split l 8 longest_name (at + 2), g)
      (sym (and_assoc (leb (get_or l (at + 1) 0) 0) (stands_at (replicate 8 0) l (at + 2)) (stands_at (replicate longest_name 0) l (at + phase_size))))

  pub phased_other : (b : ℕ) → (get_or l at 0 ≡ 3 → ⊥) → (get_or l at 0 ≡ 1 → ⊥) → (get_or l at 0 ≡ 2 → ⊥) → (get_or l at 0 ≡ 0 → ⊥) → false ≡ phased_fits l b at
  unfolding phased_fits phase_fits
  phased_other b n3 n1 n2 n0 = grind (arith, nat_tests)

pub ruleset phases = (phased_waiting, phased_signed_in, phased_awaiting, phased_idle, phased_other)

-- ---- a connection

gather : (n s f c b e w : Bool) → ((n && s) && (f && ((c && (b && e)) && w))) ≡ ((f && c) && (n && (b && (s && (e && w)))))
gather n s f c b e w = grind arith

none-sealed : (n s r : Bool) → s ≡ false → false ≡ ((n && s) && r)
none-sealed n s r e = grind arith

all-before : (n s f p : Bool) → n ≡ true → s ≡ true → f ≡ true → p ≡ ((n && s) && (f && p))
all-before n s f p en es ef = grind arith

first_sealed : (n s f p : Bool) → ((n && s) && (f && p)) ≡ (s && (n && (f && p)))
first_sealed true s f p = refl
first_sealed false true f p = refl
first_sealed false false f p = refl

flags : (p q r s c : Bool) → (p && (q && (r && (s && (c && true))))) ≡ ((p && (q && (r && s))) && c)
flags p q r s c = grind arith

module _ (l : List ℕ) (at : ℕ) where
  session-stands : (x : Session) → stands_at (session.put x) l at
      ≡ (eqb (profile_number x.profile) (get_or l at 0)
      && (eqb (bit x.protected) (get_or l (at + 1) 0)
      && (eqb (bit x.greeted) (get_or l (at + 2) 0)
      && (eqb (bit x.transaction) (get_or l (at + 3) 0)
      && (stands_at (phase.put x.phase) l (at + session_phase) && stands_at (put_array octet longest_name x.name) l (at + session_name))))))
  unfolding session profile stands_at put_octet
  session-stands x = simp (stands_at-append, phase-lawful.put-length, phase-size, add_assoc)

  session-canonical : canonical_at session l at
      ≡ ((leb (get_or l at 0) 1 && (leb (get_or l (at + 1) 0) 1 && (leb (get_or l (at + 2) 0) 1 && leb (get_or l (at + 3) 0) 1)))
      && canonical_at phase l (at + session_phase))
  session-canonical =
      rw (
        session-get l at,
        session-stands,
        octets-canonical l (at + session_name) longest_name,
        profile-same (get_or l at 0),
        flag_same (get_or l (at + 1) 0),
        flag_same (get_or l (at + 2) 0),
        flag_same (get_or l (at + 3) 0),
      )
      (flags (leb (get_or l at 0) 1) (leb (get_or l (at + 1) 0) 1) (leb (get_or l (at + 2) 0) 1) (leb (get_or l (at + 3) 0) 1) (canonical_at phase l (at + session_phase)))

  name-within : name_within (session.get l at) ≡ name_fits l (eqb (get_or l (at + session_phase) 0) 1) (at + session_name)
  unfolding name_within name_fits name_of
  name-within = rw (session-get l at, phase-get l (at + session_phase), signed-at, zeros-own)

module _ (l : List ℕ) (o : (i : ℕ) → get_or l i 0 < 256) (h : Header) (at : ℕ) where
  connection-canonical : canonical_at connection l at ≡ canonical_at session l (at + connection_session)
  unfolding connection
  connection-canonical =
      stands_at-append (put_number 8 (get_number 8 l at)) (session.put (session.get l (at + connection_session))) l at
      ∙ rw (put_number-length 8 (get_number 8 l at), number-self l o 8 at)

  abbrev flagged : Bool
  flagged =
      leb (get_or l (at + connection_session) 0) 1
      && (leb (get_or l (at + connection_session + 1) 0) 1 && (leb (get_or l (at + connection_session + 2) 0) 1 && leb (get_or l (at + connection_session + 3) 0) 1))

  connection-fits : ((ltb (get_number 8 l at) h.connection && h.sealed)
      && (flagged
      && phased_fits l h.ticket (at + connection_session + session_phase)))
      ≡ connection_fits l h at
  unfolding connection_fits slot_within phased_fits
  connection-fits =
      let s = at + connection_session in
      let p = s + session_phase in
      let n : p + phase_size ≡ s + session_name = omega arith in
      let e : (connection.get l at).session.phase ≡ phase.get l p = rw (connection-get, session-get) in
      rw (n, connection-canonical, session-canonical l s, e, connection-get l at, name-within l s, ← phase-same l p o h.ticket)
      (gather (ltb (get_number 8 l at) h.connection) h.sealed
      (leb (get_or l s 0) 1 && (leb (get_or l (s + 1) 0) 1 && (leb (get_or l (s + 2) 0) 1 && leb (get_or l (s + 3) 0) 1)))
      (canonical_at phase l p) (is_below (phase_ticket (phase.get l p)) h.ticket) (sent_within (phase.get l p))
      (name_fits l (eqb (get_or l p 0) 1) (s + session_name)))

  -- the tests one after another
  pub connection_unsealed : h.sealed ≡ false → false ≡ connection_fits l h at
  connection_unsealed e = grind (arith, connection-fits)

  pub connection-late : ltb (get_number 8 l at) h.connection ≡ false → false ≡ connection_fits l h at
  connection-late e = grind (arith, connection-fits)

  pub connection_unflagged : flagged ≡ false → false ≡ connection_fits l h at
  connection_unflagged e = grind (arith, connection-fits)

  pub connection_phased : h.sealed ≡ true → ltb (get_number 8 l at) h.connection ≡ true → flagged ≡ true
      → phased_fits l h.ticket (at + connection_session + session_phase) ≡ connection_fits l h at
  connection_phased es en ef = grind (arith, connection-fits)

  pub connection_is : connection_fits l h at ≡ (h.sealed && (ltb (get_number 8 l at) h.connection && (flagged && phased_fits l h.ticket (at + connection_session + session_phase))))
  connection_is =
      sym connection-fits ∙ first_sealed (ltb (get_number 8 l at) h.connection) h.sealed flagged (phased_fits l h.ticket (at + connection_session + session_phase))

-- ---- a header, and a mechanism

module _ (l : List ℕ) (at : ℕ) where
  header-stands : (h : Header) → stands_at (header.put h) l at
      ≡ (stands_at (put_number 8 h.connection) l at && (stands_at (put_number 8 h.ticket) l (at + 8) && (eqb (bit h.sealed) (get_or l (at + 16) 0) && true)))
  unfolding header stands_at put_octet
  header-stands h = simp (stands_at-append, put_number-length, add_assoc)

  header-canonical : ((i : ℕ) → get_or l i 0 < 256) → canonical_at header l at ≡ leb (get_or l (at + 16) 0) 1
  header-canonical o = grind (arith, header-get, header-stands, number-self, flag_same)

  mechanism-stands : (m : Mechanism) → stands_at (mechanism.put m) l at
      ≡ (stands_at (put_array octet 20 m.name) l at && (eqb (bit m.client_first) (get_or l (at + 20) 0) && (eqb (bit m.needs_protection) (get_or l (at + 21) 0) && true)))
  unfolding mechanism stands_at put_octet
  mechanism-stands m = simp (stands_at-append, put_array-length any-lawful, add_assoc)

  pub mechanism-canonical : (leb (get_or l (at + 20) 0) 1 && leb (get_or l (at + 21) 0) 1) ≡ canonical_at mechanism l at
  mechanism-canonical =
      sym (rw (mechanism-get l at, mechanism-stands, octets-canonical l at 20, flag_same (get_or l (at + 20) 0), flag_same (get_or l (at + 21) 0), and-true (leb (get_or l (at + 21) 0) 1)))

pub header_tests : (l : List ℕ) → ((i : ℕ) → get_or l i 0 < 256) → leb (get_or l 16 0) 1 ≡ header_fits l
unfolding header_fits
header_tests l o = rw (header-canonical l 0 o, header-below l o) (sym (and-true (leb (get_or l 16 0) 1)))

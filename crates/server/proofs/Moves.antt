-- What a call that is not refused does to a server: one case for each call, with what was found on the way. Laws of calls are by these cases.
-- Assumes nothing.
use Rattle.std.specs.Prelude as Rust
use Rattle.std.specs.Prelude.{Ok, Err}
use mathlib.Core.Path.{◌≡◌, refl}
use mathlib.Core.Bool.{Bool, true, false, cond, ◌&&◌}
use mathlib.Core.List.{List}
use mathlib.Core.Option.{Option, none, some}
use Prim.Native.Nat.{ℕ, ◌<◌}
use lib.Dec.{eqb, ltb}
use lib.ListN.{length}
use borrow.Author.Tests.{ltb-true}
use Rattle.lines.specs.Mechanism.{mechanism, padded}
use Rattle.profile.specs.Numbers.{profile_of, verdict_of}
use Rattle.profile.specs.declared.numbers.Refusal.{Refusal}
use Rattle.profile.specs.declared.Profile.{Profile}
use Rattle.profile.specs.declared.numbers.Refusal.TheVariants as Refusals
use Rattle.profile.specs.declared.numbers.Verdict.{Verdict}
use Rattle.session.specs.Limits.{unissued}
use Rattle.session.specs.Named.{bears}
use Rattle.session.specs.Standing.{is_refused}
use Rattle.session.specs.Verdict.{after_verdict}
use Rattle.session.specs.declared.answer.Answer.{Answer}
use Rattle.session.specs.declared.answer.Answer.TheVariants as Answers
use Rattle.server.specs.declared.Connection.{Connection}
use Rattle.server.specs.Add.{kept, with_mechanism, on_add}
use Rattle.server.specs.Close.{close_leaves, close_found, on_close}
use Rattle.server.specs.Limits.{most_mechanisms}
use Rattle.server.specs.Line.{line_step, line_gives, line_leaves, line_found, on_line}
use Rattle.server.specs.MailEnded.{mail_leaves, mail_found, on_mail_ended}
use Rattle.server.specs.Make.{fresh}
use Rattle.server.specs.Mechanisms.{offered, is_present}
use Rattle.server.specs.Open.{entered, with_connection, opens_as, on_open}
use Rattle.server.specs.Outcome.{Result, done, opened, borne, Outcome, refuses, gives, settled, is_yes_or_no, is_yes}
use Rattle.server.specs.Requests as Requests
use Rattle.server.specs.Requests.{Request, on}
use Rattle.server.specs.Server.{Server}
use Rattle.server.specs.Slots.{is_numbered, is_waiting, any_free, found}
use Rattle.server.specs.Verdict.{verdict_gives, verdict_leaves, verdict_found, on_verdict}
use Rattle.server.specs.Who.{who_found, on_who}

pub data Moves (s : Server) : Request → Result → Server → Type 0 where
  makes : (c t : ℕ) → Moves s (Requests.make c t) done (fresh c t)
  adds : (n : List ℕ) (f p : ℕ) → mechanism n ≡ true → is_present (offered s.mechanisms (padded n)) ≡ false → length s.mechanisms < most_mechanisms
      → Moves s (Requests.add n f p) done (with_mechanism s (kept n f p))
  opens : (k b : ℕ) (p : Profile) → any_free s.slots ≡ true → eqb s.header.connection unissued ≡ false
      → Moves s (Requests.opens k b) (opened s.header.connection) (with_connection s (entered s.header p (is_yes b)))
  steps : (n : ℕ) (l : List ℕ) (c : Connection) → found (is_numbered n) s.slots ≡ some c → is_refused (line_step s c l).answer ≡ false
      → Moves s (Requests.line n l) (line_gives c l (line_step s c l)) (line_leaves s c l)
  judges : (t k : ℕ) (d : List ℕ) (c : Connection) (v : Verdict) → verdict_of k ≡ Ok v → found (is_waiting t) s.slots ≡ some c
      → is_refused (after_verdict c.session t v d).answer ≡ false
      → Moves s (Requests.verdict t k d) (verdict_gives c d (after_verdict c.session t v d)) (verdict_leaves s c t (after_verdict c.session t v d))
  ends : (n : ℕ) (c : Connection) → found (is_numbered n) s.slots ≡ some c
      → Moves s (Requests.mail_ended n) done (mail_leaves s c)
  tells : (n : ℕ) (c : Connection) → found (is_numbered n) s.slots ≡ some c → Moves s (Requests.who n) (borne (bears c.session)) s
  closes : (n : ℕ) (c : Connection) → found (is_numbered n) s.slots ≡ some c
      → Moves s (Requests.close n) done (close_leaves s c)

-- what holds of an outcome that is no refusal
abbrev pub Unrefused : (Result → Server → Type 0) → Outcome → Type 0
Unrefused P (refuses k) = Unit {0}
Unrefused P (gives r s) = P r s

unrefused_settled : (P : Result → Server → Type 0) (a : Answer) (r : Result) (s : Server) → (is_refused a ≡ false → P r s) → Unrefused P (settled a r s)
unrefused_settled P (Answers.Refused k) r s h = tt
unrefused_settled P (Answers.Forward i n) r s h = h refl
unrefused_settled P (Answers.Query t b n) r s h = h refl
unrefused_settled P (Answers.Reply e) r s h = h refl
unrefused_settled P Answers.EmptyChallenge r s h = h refl
unrefused_settled P Answers.Challenge r s h = h refl

module _ (s : Server) where
  abbrev Moved : Request → Outcome → Type 0
  Moved r o = Unrefused (Moves s r) o

  moved-add : (n : List ℕ) (f p : ℕ) → Moved (Requests.add n f p) (on_add s n f p)
  unfolding on_add
  moved-add n f p =
      go (is_yes_or_no f && is_yes_or_no p) s.header.sealed (mechanism n) refl (is_present (offered s.mechanisms (padded n))) refl (ltb (length s.mechanisms) most_mechanisms) refl
    where
      go : (a b c : Bool) → mechanism n ≡ c → (d : Bool) → is_present (offered s.mechanisms (padded n)) ≡ d → (e : Bool) → ltb (length s.mechanisms) most_mechanisms ≡ e
          → Moved (Requests.add n f p)
          (cond a
          (cond b (refuses Refusals.Sealed)
          (cond c
          (cond d (refuses Refusals.NamePresent) (cond e (gives done (with_mechanism s (kept n f p))) (refuses Refusals.TableFull)))
          (refuses Refusals.BadName)))
          (refuses Refusals.NotListed))
      go false b c ec d ed e ee = tt
      go true true c ec d ed e ee = tt
      go true false false ec d ed e ee = tt
      go true false true ec true ed e ee = tt
      go true false true ec false ed false ee = tt
      go true false true ec false ed true ee = adds n f p ec ed (ltb-true (length s.mechanisms) most_mechanisms ee)

  moved_open : (k b : ℕ) (p : Rust.Result Profile Refusal) → Moved (Requests.opens k b) (opens_as s p b)
  moved_open k b (Err r) = tt
  moved_open k b (Ok p) = go (is_yes_or_no b) (any_free s.slots) refl (eqb s.header.connection unissued) refl
    where
      go : (x y : Bool) → any_free s.slots ≡ y → (z : Bool) → eqb s.header.connection unissued ≡ z
          → Moved (Requests.opens k b)
          (cond x
          (cond y
          (cond z (refuses Refusals.Exhausted) (gives (opened s.header.connection) (with_connection s (entered s.header p (is_yes b)))))
          (refuses Refusals.Full))
          (refuses Refusals.NotListed))
      go false y ey z ez = tt
      go true false ey z ez = tt
      go true true ey true ez = tt
      go true true ey false ez = opens k b p ey ez

  moved-line : (n : ℕ) (l : List ℕ) (x : Option Connection) → found (is_numbered n) s.slots ≡ x → Moved (Requests.line n l) (line_found s l x)
  moved-line n l none e = tt
  moved-line n l (some c) e = unrefused_settled (Moves s (Requests.line n l)) (line_step s c l).answer _ _ (steps n l c e)

  moved-verdict : (t k : ℕ) (d : List ℕ) (v : Rust.Result Verdict Refusal) → verdict_of k ≡ v → (x : Option Connection) → found (is_waiting t) s.slots ≡ x
      → Moved (Requests.verdict t k d) (verdict_found s t v d x)
  moved-verdict t k d v ev none e = tt
  moved-verdict t k d (Err r) ev (some c) e = tt
  moved-verdict t k d (Ok v) ev (some c) e =
      unrefused_settled (Moves s (Requests.verdict t k d)) (after_verdict c.session t v d).answer _ _ (judges t k d c v ev e)

  moved-mail : (n : ℕ) (x : Option Connection) → found (is_numbered n) s.slots ≡ x → Moved (Requests.mail_ended n) (mail_found s x)
  moved-mail n none e = tt
  moved-mail n (some c) e = ends n c e

  moved-who : (n : ℕ) (x : Option Connection) → found (is_numbered n) s.slots ≡ x → Moved (Requests.who n) (who_found s x)
  moved-who n none e = tt
  moved-who n (some c) e = tells n c e

  moved-close : (n : ℕ) (x : Option Connection) → found (is_numbered n) s.slots ≡ x → Moved (Requests.close n) (close_found s x)
  moved-close n none e = tt
  moved-close n (some c) e = closes n c e

  pub moves : (r : Request) → Unrefused (Moves s r) (on s r)
  unfolding on on_open on_line on_verdict on_mail_ended on_who on_close
  moves (Requests.make c t) = makes c t
  moves (Requests.add n f p) = moved-add n f p
  moves (Requests.opens k b) = moved_open k b (profile_of k)
  moves (Requests.line n l) = moved-line n l (found (is_numbered n) s.slots) refl
  moves (Requests.verdict t k d) = moved-verdict t k d (verdict_of k) refl (found (is_waiting t) s.slots) refl
  moves (Requests.mail_ended n) = moved-mail n (found (is_numbered n) s.slots) refl
  moves (Requests.who n) = moved-who n (found (is_numbered n) s.slots) refl
  moves (Requests.close n) = moved-close n (found (is_numbered n) s.slots) refl

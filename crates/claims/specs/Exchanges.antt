-- What an exchange leaves as it was, over calls: greeting and transaction in every case, and the name unless it signs somebody in (document 01, "A
-- session's steps").
use Rattle.std.specs.Prelude.{◌≡◌, false, List, [], ◌∷◌, ℕ}
use Rattle.std.proofs.Math.Option.{some}
use Rattle.octets.specs.Ascii.{ascii}
use Rattle.lines.specs.Verb.{verb}
use Rattle.session.specs.Exchange.{Kept}
use Rattle.session.specs.Standing.{quiet}
use Rattle.server.specs.declared.Connection.{Connection}
use Rattle.image.specs.Image.{Image}
use Rattle.calls.specs.Call as Calls
use Rattle.calls.specs.Call.{Call, request}
use Rattle.calls.specs.Step.{step, left}
use Rattle.claims.specs.Others.{is_for}
use Rattle.claims.specs.Told.{connection_at, seen}

-- a call on image i in an exchange of connection n: a line, with the verb AUTH where none runs; a verdict; meanwhile, any call that is for others.
-- Refused calls are among them
pub data InExchange (n : ℕ) (i : Image) : Call → Type 0 where
  line : {l r a : List ℕ} → (seen i n ≡ quiet → verb l ≡ ascii "AUTH") → InExchange n i (Calls.line n l r a)
  verdict : {t v : ℕ} {d r a : List ℕ} → InExchange n i (Calls.verdict t v d r a)
  other : {c : Call} → is_for (request c) (step i c).result n (seen i n) ≡ false → InExchange n i c

-- one exchange, a part of it, or several one after another
abbrev pub AllInExchange : ℕ → Image → List Call → Type 0
AllInExchange n i [] = Unit {0}
AllInExchange n i (c ∷ cs) = InExchange n i c × AllInExchange n (step i c).image cs

-- of every image; c: connection n before the calls, and so before AUTH; d: after them
abbrev pub ExchangeKeeps : Type 0
ExchangeKeeps =
    (i : Image) (n : ℕ) (c : Connection) → connection_at i n ≡ some c → (cs : List Call) → AllInExchange n i cs
    → (d : Connection) × (connection_at (left i cs) n ≡ some d) × Kept c.session d.session

-- A call is for one connection and leaves every other as it was: "Brook Street's order" does not go out "under Mill Lane's name".
use Rattle.std.specs.Prelude.{◌≡◌, Bool, true, false, ℕ, eqb}
use Rattle.session.specs.Standing.{Standing}
use Rattle.server.specs.Outcome.{Result}
use Rattle.server.specs.Requests.{Request, make, add, opens, line, verdict, mail_ended, who, close, Sized}
use Rattle.image.specs.Image.{Image}
use Rattle.calls.specs.Call.{Call, request}
use Rattle.calls.specs.Step.{step}
use Rattle.claims.specs.Told.{is_opened, is_waiting_on, connection_at, seen}

-- whether a call may alter connection n, which stands as w before it: make alters all, a verdict the one that waits on its ticket
abbrev pub is_for : Request → Result → ℕ → Standing → Bool
is_for (make c t) r n w = true
is_for (add m f p) r n w = false
is_for (opens p b) r n w = is_opened n r
is_for (line m l) r n w = eqb m n
is_for (verdict t v d) r n w = is_waiting_on t w
is_for (mail_ended m) r n w = eqb m n
is_for (who m) r n w = false
is_for (close m) r n w = eqb m n

-- the number and the whole session, its name and its ticket among them
abbrev pub OthersStay : Type 0
OthersStay =
    (i : Image) (c : Call) → Sized (request c) → (n : ℕ) → is_for (request c) (step i c).result n (seen i n) ≡ false
    → connection_at (step i c).image n ≡ connection_at i n

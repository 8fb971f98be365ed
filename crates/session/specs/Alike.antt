-- Lines that a session may not tell apart: "differ only in client answers: initial responses, or lines for a connection that itself awaits an
-- answer" (the third demand).
use Rattle.std.specs.Prelude.{◌≡◌, false, List, ℕ}
use Rattle.octets.specs.Ascii.{ascii, space, capitals}
use Rattle.octets.specs.Lists.{holds}
use Rattle.lines.specs.Alike.{Alike, auth_line}
use Rattle.session.specs.Standing.{Standing, awaits}

-- w: how the session stands
pub data LinesAlike (w : Standing) : List ℕ → List ℕ → Type 0 where
  equal : (l : List ℕ) → LinesAlike w l l
  initial : (a m : List ℕ) {r q : List ℕ} → capitals a ≡ ascii "AUTH" → holds space m ≡ false → Alike r q → LinesAlike w (auth_line a m r) (auth_line a m q)
  response : {r q : List ℕ} → w ≡ awaits → Alike r q → LinesAlike w r q

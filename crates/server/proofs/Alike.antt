-- Lines that a connection's session sees alike come to the same. Assumes nothing.
use mathlib.Core.Path.{◌≡◌, ap, ◌∙◌}
use mathlib.Core.List.{List}
use mathlib.Core.Option.{some}
use Prim.Native.Nat.{ℕ}
use Rattle.session.specs.Octets.{relay_octets}
use Rattle.session.specs.declared.Stepped.{Stepped}
use Rattle.session.proofs.Laws.{Seen}
use Rattle.server.specs.declared.Connection.{Connection}
use Rattle.server.specs.Line.{with_session, line_step, line_gives, line_found}
use Rattle.server.specs.Outcome.{Result, settled}
use Rattle.server.specs.Server.{Server}
use Rattle.server.specs.Slots.{is_numbered, holding}

module _ (s : Server) (c : Connection) {l k : List ℕ} (e : Seen c.session.profile c.session.phase l k) where
  -- the step is handed the view and the mechanism that the line names
  same_step : line_step s c l ≡ line_step s c k
  same_step = cc (e.view, e.mechanism)

  -- what is given depends on the address that the line relays besides
  same-given : (t : Stepped) → line_gives c l t ≡ line_gives c k t
  unfolding relay_octets
  same-given t = cc e.relay

  pub same_line : line_found s l (some c) ≡ line_found s k (some c)
  same_line =
      ap (λ (t : Stepped). settled t.answer (line_gives c l t) (with_session s (holding (is_numbered c.number)) c t)) same_step
      ∙ ap (λ (r : Result). settled (line_step s c k).answer r (with_session s (holding (is_numbered c.number)) c (line_step s c k))) (same-given (line_step s c k))

-- "Make a desk from a first connection number and a first ticket (64 bits)."
use Rattle.std.specs.Prelude.{false, [], ℕ, replicate}
use Rattle.std.proofs.Math.Option.{none}
use Rattle.server.specs.declared.Header.{Header}
use Rattle.server.specs.Limits.{most_connections}
use Rattle.server.specs.Server.{Server}

abbrev pub made : ℕ → ℕ → Header
made c t = record { connection = c; ticket = t; sealed = false }

unfoldable pub fresh : ℕ → ℕ → Server
fresh c t = record { header = made c t; mechanisms = []; slots = replicate most_connections none }

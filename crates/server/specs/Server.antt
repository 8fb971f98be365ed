-- A server: document 01's desk.
use Rattle.std.specs.Prelude.{List}
use Rattle.std.proofs.Math.Option.{Option}
use Rattle.server.specs.declared.Connection.{Connection}
use Rattle.server.specs.declared.Header.{Header}
use Rattle.server.specs.declared.Mechanism.{Mechanism}

-- a slot (document 01: a place) is free or holds an open connection
abbrev pub Slot : Type 0
Slot = Option Connection

-- the next connection's number, the next ticket and whether adding has ended; the mechanisms, as they were added; the slots, the lowest first
pub record Server : Type 0 where
  pub header : Header
  pub mechanisms : List Mechanism
  pub slots : List Slot

-- a server with other slots
abbrev pub with_slots : Server → List Slot → Server
with_slots s x = record { header = s.header; mechanisms = s.mechanisms; slots = x }

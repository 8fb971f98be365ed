-- How many octets each part of an image takes, and where the larger parts stand in it. The code's constants are these, and the codecs' sizes
-- come to them (`server-size`, proofs/Offsets.antt).
use Rattle.std.specs.Prelude.{ℕ, ◌+◌, ◌*◌}
use Rattle.lines.specs.Mechanism.{longest_mechanism}
use Rattle.session.specs.Limits.{longest_name}
use Rattle.server.specs.Limits.{most_connections, most_mechanisms}

-- which phase it is, the challenges sent, the ticket
abbrev pub phase_size : ℕ
phase_size = 10

-- a profile, three flags, a phase, a name
abbrev pub session_phase : ℕ
session_phase = 4

abbrev pub session_name : ℕ
session_name = session_phase + phase_size

abbrev pub session_size : ℕ
session_size = session_name + longest_name

-- a number, a session
abbrev pub connection_session : ℕ
connection_session = 8

abbrev pub connection_size : ℕ
connection_size = connection_session + session_size

-- a flag, a connection
abbrev pub slot_size : ℕ
slot_size = 1 + connection_size

-- a name, two flags
abbrev pub mechanism_size : ℕ
mechanism_size = longest_mechanism + 2

-- two numbers and a flag
abbrev pub header_size : ℕ
header_size = 17

-- a header, how many mechanisms there are, the mechanisms, the slots
abbrev pub server_mechanisms : ℕ
server_mechanisms = header_size

abbrev pub server_slots : ℕ
server_slots = server_mechanisms + (1 + most_mechanisms * mechanism_size)

abbrev pub image_size : ℕ
image_size = server_slots + most_connections * slot_size

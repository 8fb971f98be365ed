-- The layout of an image: that of each part of a server, by the codecs of `codec`. docs/IMAGE.md sets it out offset by offset.
use Rattle.std.specs.Prelude.{cond, ℕ, eqb}
use Rattle.codec.specs.Codec.{Codec, octet, number, flag, pair, array, option, listed, mapped}
use Rattle.lines.specs.Mechanism.{longest_mechanism}
use Rattle.profile.specs.Numbers.{profile_number}
use Rattle.profile.specs.declared.Profile.{Profile}
use Rattle.profile.specs.declared.Profile.TheVariants.{Smtp, Pop3}
use Rattle.session.specs.Limits.{longest_name}
use Rattle.session.specs.declared.Phase.{Phase}
use Rattle.session.specs.declared.Phase.TheVariants.{Idle, SignedIn, Awaiting, Waiting}
use Rattle.session.specs.declared.Session.{Session}
use Rattle.server.specs.Limits.{most_connections, most_mechanisms}
use Rattle.server.specs.Server.{Slot, Server}
use Rattle.server.specs.declared.Connection.{Connection}
use Rattle.server.specs.declared.Header.{Header}
use Rattle.server.specs.declared.Mechanism.{Mechanism}

-- a profile: its number
abbrev pub profile_at : ℕ → Profile
profile_at x = cond (eqb x (profile_number Pop3)) Pop3 Smtp

unfoldable pub profile : Codec Profile
profile = mapped octet profile_at profile_number

-- a phase: which of the four it is, the challenges sent, the ticket; 0 where it has none
abbrev pub phase_number : Phase → ℕ
phase_number Idle = 0
phase_number SignedIn = 1
phase_number (Awaiting k) = 2
phase_number (Waiting t k) = 3

abbrev pub phase_sent : Phase → ℕ
phase_sent Idle = 0
phase_sent SignedIn = 0
phase_sent (Awaiting k) = k
phase_sent (Waiting t k) = k

abbrev pub phase_waits : Phase → ℕ
phase_waits Idle = 0
phase_waits SignedIn = 0
phase_waits (Awaiting k) = 0
phase_waits (Waiting t k) = t

abbrev pub phase_at : ℕ → ℕ → ℕ → Phase
phase_at x k t = cond (eqb x 1) SignedIn (cond (eqb x 2) (Awaiting k) (cond (eqb x 3) (Waiting t k) Idle))

unfoldable pub phase : Codec Phase
phase = mapped (pair octet (pair octet (number 8))) (λ (x, (k, t)). phase_at x k t) (λ p. (phase_number p, (phase_sent p, phase_waits p)))

-- a session: profile, protected, greeted, transaction, phase, name
unfoldable pub session : Codec Session
session =
    mapped (pair profile (pair flag (pair flag (pair flag (pair phase (array octet longest_name))))))
    (λ (p, (b, (g, (x, (h, n))))). record { name = n; profile = p; protected = b; greeted = g; transaction = x; phase = h })
    (λ s. (s.profile, (s.protected, (s.greeted, (s.transaction, (s.phase, s.name))))))

-- a connection: its number, its session; a slot: 1 and its connection, or zeros
unfoldable pub connection : Codec Connection
connection = mapped (pair (number 8) session) (λ (n, s). record { session = s; number = n }) (λ c. (c.number, c.session))

unfoldable pub slot : Codec Slot
slot = option connection

-- a mechanism: its name, whether the client speaks first, whether it needs protection
unfoldable pub mechanism : Codec Mechanism
mechanism =
    mapped (pair (array octet longest_mechanism) (pair flag flag)) (λ (n, (f, p)). record { name = n; client_first = f; needs_protection = p })
    (λ m. (m.name, (m.client_first, m.needs_protection)))

-- the next connection's number, the next ticket, whether adding has ended
unfoldable pub header : Codec Header
header =
    mapped (pair (number 8) (pair (number 8) flag)) (λ (c, (t, b)). record { connection = c; ticket = t; sealed = b })
    (λ h. (h.connection, (h.ticket, h.sealed)))

-- a server: header, mechanisms, slots
unfoldable pub server : Codec Server
server =
    mapped (pair header (pair (listed mechanism most_mechanisms) (array slot most_connections)))
    (λ (h, (m, x)). record { header = h; mechanisms = m; slots = x })
    (λ s. (s.header, (s.mechanisms, s.slots)))

-- Where the fields of each part stand, counted from its start: what is read there (`..-get`), and in which order a writer stores them
-- (`..-put`). All of it follows from the layouts. Assumes nothing.
use mathlib.Core.Path.{◌≡◌, refl}
use mathlib.Core.Bool.{cond}
use mathlib.Core.Option.{none, some}
use mathlib.Core.List.{List}
use Prim.Native.Nat.{ℕ, ◌+◌}
use native.Mathlib.Nat.{add_assoc}
use lib.ListN.{get_or, take, replicate}
use Rattle.codec.specs.Codec.{octet, put_octet, put_number, get_number, put_array, get_array, put_option, get_option, bit, is_one}
use Rattle.codec.specs.Stored.{stored}
use Rattle.codec.proofs.Lawful.{put_octet-length, put_number-length, put_array-length}
use Rattle.codec.proofs.Stored.{fields, stored_one}
use Rattle.codec.proofs.Arrays.{octets-put}
use Rattle.profile.specs.Numbers.{profile_number}
use Rattle.session.specs.Limits.{longest_name}
use Rattle.session.specs.declared.Phase.{Phase}
use Rattle.session.specs.declared.Session.{Session}
use Rattle.server.specs.Limits.{most_connections, most_mechanisms}
use Rattle.server.specs.declared.Connection.{Connection}
use Rattle.server.specs.declared.Header.{Header}
use Rattle.server.specs.declared.Mechanism.{Mechanism}
use Rattle.image.specs.Sizes.{phase_size, session_phase, session_name, session_size, connection_session, connection_size, slot_size, mechanism_size, header_size, server_mechanisms, server_slots, image_size}
use Rattle.image.specs.Layout.{profile_at, profile, phase_at, phase_number, phase_sent, phase_waits, phase, session, connection, slot, mechanism, header, server}
use Rattle.image.proofs.Values.{stored_part}
use Rattle.image.proofs.Lawful.{phase-lawful, any-lawful}

pub phase-size : phase.size ≡ phase_size
unfolding phase
phase-size = refl

pub session-size : session.size ≡ session_size
unfolding session phase profile
session-size = refl

pub connection-size : connection.size ≡ connection_size
unfolding connection session phase profile
connection-size = refl

pub slot-size : slot.size ≡ slot_size
unfolding slot connection session phase profile
slot-size = refl

pub mechanism-size : mechanism.size ≡ mechanism_size
unfolding mechanism
mechanism-size = refl

pub header-size : header.size ≡ header_size
unfolding header
header-size = refl

pub server-size : server.size ≡ image_size
unfolding server header mechanism slot connection session phase profile
server-size = refl

module _ (l : List ℕ) (at : ℕ) where
  pub phase-get : phase.get l at ≡ phase_at (get_or l at 0) (get_or l (at + 1) 0) (get_number 8 l (at + 2))
  unfolding phase
  phase-get = simp add_assoc

  pub phase-put : (p : Phase) → stored l at (phase.put p)
      ≡ stored (stored (stored l
      at (put_octet (phase_number p)))
      (at + 1) (put_octet (phase_sent p)))
      (at + 2) (put_number 8 (phase_waits p))
  unfolding phase
  phase-put p = simp (fields, put_octet-length, add_assoc)

  pub session-get : session.get l at
      ≡ record {
        name = get_array octet longest_name l (at + session_name);
        profile = profile_at (get_or l at 0);
        protected = is_one (get_or l (at + 1) 0);
        greeted = is_one (get_or l (at + 2) 0);
        transaction = is_one (get_or l (at + 3) 0);
        phase = phase.get l (at + session_phase);
      }
  unfolding session profile
  session-get = simp (phase-size, add_assoc)

  pub session-put : (x : Session) → stored l at (session.put x)
      ≡ stored (stored (stored (stored (stored (stored l
      at (put_octet (profile_number x.profile)))
      (at + 1) (put_octet (bit x.protected)))
      (at + 2) (put_octet (bit x.greeted)))
      (at + 3) (put_octet (bit x.transaction)))
      (at + session_phase) (phase.put x.phase))
      (at + session_name) (put_array octet longest_name x.name)
  unfolding session profile
  session-put x = simp (fields, put_octet-length, phase-lawful.put-length, phase-size, add_assoc)

  pub connection-get : connection.get l at ≡ record { session = session.get l (at + connection_session); number = get_number 8 l at }
  unfolding connection
  connection-get = refl

  pub connection-put : (c : Connection) → stored l at (connection.put c)
      ≡ stored (stored l
      at (put_number 8 c.number))
      (at + connection_session) (session.put c.session)
  unfolding connection
  connection-put c = simp (fields, put_number-length)

  pub slot-get : slot.get l at ≡ cond (is_one (get_or l at 0)) (some (connection.get l (at + 1))) none
  unfolding slot get_option
  slot-get = refl

  pub slot-put : (c : Connection) → stored l at (slot.put (some c)) ≡ stored (stored l at (put_octet 1)) (at + 1) (connection.put c)
  unfolding slot put_option
  slot-put c = simp (fields, put_octet-length)

  pub mechanism-get : mechanism.get l at
      ≡ record { name = get_array octet 20 l at; client_first = is_one (get_or l (at + 20) 0); needs_protection = is_one (get_or l (at + 21) 0) }
  unfolding mechanism
  mechanism-get = simp add_assoc

  pub mechanism-put : (m : Mechanism) → stored l at (mechanism.put m)
      ≡ stored (stored (stored l
      at (put_array octet 20 m.name))
      (at + 20) (put_octet (bit m.client_first)))
      (at + 21) (put_octet (bit m.needs_protection))
  unfolding mechanism
  mechanism-put m = simp (fields, put_array-length any-lawful, put_octet-length, add_assoc)

  pub header-get : header.get l at ≡ record { connection = get_number 8 l at; ticket = get_number 8 l (at + 8); sealed = is_one (get_or l (at + 16) 0) }
  unfolding header
  header-get = simp add_assoc

  pub header-put : (h : Header) → stored l at (header.put h)
      ≡ stored (stored (stored l
      at (put_number 8 h.connection))
      (at + 8) (put_number 8 h.ticket))
      (at + 16) (put_octet (bit h.sealed))
  unfolding header
  header-put h = simp (fields, put_number-length, add_assoc)

-- a free slot is zeros
pub free-put : slot.put none ≡ replicate slot_size 0
unfolding slot connection session phase profile put_option put_octet
free-put = refl

pub server-get : (l : List ℕ) → server.get l 0
    ≡ record {
      header = header.get l 0;
      mechanisms = take (get_or l server_mechanisms 0) (get_array mechanism most_mechanisms l (server_mechanisms + 1));
      slots = get_array slot most_connections l server_slots;
    }
unfolding server
server-get l = simp (header-size, mechanism-size)

-- each part by its fields, as `records` reads and writes it
pub ruleset parts = (stored_part, stored_one, octets-put, phase-get, phase-put, session-get, session-put, connection-get, connection-put, slot-put, free-put, mechanism-get, mechanism-put, header-get, header-put)

-- "Mail ended, for a connection: clears the transaction; with none open it changes nothing."
use Rattle.std.specs.Prelude.{false}
use Rattle.session.specs.declared.Session.{Session}

abbrev pub after_mail : Session → Session
after_mail s =
    record {
      name = s.name;
      profile = s.profile;
      protected = s.protected;
      greeted = s.greeted;
      transaction = false;
      phase = s.phase;
    }

-- When a session's fields are "within this document's limits".
use Rattle.std.specs.Prelude.{Bool, true, cond, ◌&&◌, leb, replicate}
use Rattle.octets.specs.Lists.{same, padded_to}
use Rattle.session.specs.declared.Phase.{Phase}
use Rattle.session.specs.declared.Phase.TheVariants.{Idle, SignedIn, Awaiting, Waiting}
use Rattle.session.specs.declared.Session.{Session}
use Rattle.session.specs.Limits.{most_challenges, longest_name}
use Rattle.session.specs.Session.{signed_in, name_of}
use Rattle.session.specs.Verdict.{is_name}

-- "An exchange sends at most 16 challenges"
abbrev pub sent_within : Phase → Bool
sent_within Idle = true
sent_within SignedIn = true
sent_within (Awaiting k) = leb k most_challenges
sent_within (Waiting t k) = leb k most_challenges

-- who is signed in has a name, padded with NUL; nobody else has
unfoldable pub name_within : Session → Bool
name_within s = cond (signed_in s.phase) (is_name (name_of s) && same s.name (padded_to longest_name (name_of s))) (same s.name (replicate longest_name 0))

abbrev pub well_formed : Session → Bool
well_formed s = sent_within s.phase && name_within s

-- A response in an exchange: "too long; "*"; not base64; else ask. .. The first three end the exchange."
use Rattle.std.specs.Prelude.{false, ℕ}
use Rattle.profile.specs.declared.Reply.TheVariants as Replies
use Rattle.std.specs.Prelude.{Result, Ok, Err}
use Rattle.lines.specs.declared.response.ResponseError.{ResponseError}
use Rattle.lines.specs.declared.response.ResponseError.TheVariants.{TooLong, Cancelled, Malformed}
use Rattle.session.specs.declared.Session.{Session}
use Rattle.session.specs.declared.change.Change.{Change}
use Rattle.session.specs.Change.{fails}
use Rattle.session.specs.Query.{asks}

-- k: the challenges sent
unfoldable pub on_response : Session → ℕ → Result ℕ ResponseError → ℕ → Change
on_response s k (Err TooLong) t = fails s Replies.ResponseTooLong
on_response s k (Err Cancelled) t = fails s Replies.Cancelled
on_response s k (Err Malformed) t = fails s Replies.Syntax
on_response s k (Ok n) t = asks s t k false n

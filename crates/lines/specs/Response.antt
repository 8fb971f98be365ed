-- A client's response in an exchange (document 01: answer line; RFC 4954 section 4: "*(CRLF [base64])").
use Rattle.std.specs.Prelude.{cond, List, ℕ, ltb, length}
use Rattle.octets.specs.Ascii.{ascii}
use Rattle.octets.specs.Lists.{same}
use Rattle.std.specs.Prelude.{Option, Some, None, Result, Ok, Err}
use Rattle.base64text.specs.Base64
use Rattle.profile.specs.Limits.{response_limit}
use Rattle.profile.specs.declared.Profile.{Profile}
use Rattle.lines.specs.declared.response.ResponseError.{ResponseError}
use Rattle.lines.specs.declared.response.ResponseError.TheVariants.{TooLong, Cancelled, Malformed}

-- what is printed of a response that has no length: the words of the rule below, its cause by cause
abbrev pub printed : ResponseError → List ℕ
printed TooLong = ascii "too long"
printed Cancelled = ascii "cancelled"
printed Malformed = ascii "malformed"

abbrev pub decoding : Option ℕ → Result ℕ ResponseError
decoding (Some n) = Ok n
decoding None = Err Malformed

-- "too long; "*"; not base64; else ask. An empty line is zero octets. "=" is not base64."
unfoldable pub response : Profile → List ℕ → Result ℕ ResponseError
response p l = cond (ltb (response_limit p) (length l)) (Err TooLong) (cond (same l (ascii "*")) (Err Cancelled) (decoding (Base64.measured l)))

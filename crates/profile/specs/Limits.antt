-- The longest lines: "Lines come without CRLF; the limits below leave it out." (document 01)
use Rattle.std.specs.Prelude.{ℕ}
use Rattle.profile.specs.declared.Profile.{Profile}
use Rattle.profile.specs.declared.Profile.TheVariants.{Smtp, Pop3}

-- "command | 510 | 253"
abbrev pub command_limit : Profile → ℕ
command_limit Smtp = 510
command_limit Pop3 = 253

-- "MAIL (house: also with SUBMITTER) | 1,010 | as command"
abbrev pub mail_limit : Profile → ℕ
mail_limit Smtp = 1010
mail_limit Pop3 = command_limit Pop3

-- "answer in an exchange | 12,286 | 12,286"
abbrev pub response_limit : Profile → ℕ
response_limit p = 12286

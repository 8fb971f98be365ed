-- What a client hears: document 01's table, to the letter.
use Rattle.std.specs.Prelude.{Bool, ◌||◌, List, [], ◌∷◌, ◌++◌, ℕ, length, take}
use Rattle.octets.specs.Ascii.{ascii, space}
use Rattle.octets.specs.Lists.{same, after}
use Rattle.profile.specs.declared.Profile.{Profile}
use Rattle.profile.specs.declared.Profile.TheVariants.{Smtp, Pop3}
use Rattle.profile.specs.declared.Reply.{Reply}
use Rattle.profile.specs.declared.Reply.TheVariants.{Success, Transition, Temporary, ResponseTooLong, NotUnderstood, Syntax, Cancelled, InitialResponse, WrongMoment, Unavailable, Weak, Rejected}

-- the rows of the table
abbrev pub events : List Reply
events =
    Success ∷ Transition ∷ Temporary ∷ ResponseTooLong ∷ NotUnderstood ∷ Syntax
    ∷ Cancelled ∷ InitialResponse ∷ WrongMoment ∷ Unavailable ∷ Weak ∷ Rejected ∷ []

abbrev pub smtp : Reply → List ℕ
smtp Success = ascii "235 2.7.0 Authentication succeeded"
smtp Transition = ascii "432 4.7.12 Password transition needed"
smtp Temporary = ascii "454 4.7.0 Temporary authentication failure"
smtp ResponseTooLong = ascii "500 5.5.6 Authentication line too long"
smtp NotUnderstood = ascii "500 5.5.2 Line not understood"
smtp Syntax = ascii "501 5.5.2 Syntax error"
smtp Cancelled = ascii "501 5.7.0 Authentication cancelled"
smtp InitialResponse = ascii "501 5.7.0 Initial response not allowed"
smtp WrongMoment = ascii "503 5.5.1 Not permitted now"
smtp Unavailable = ascii "504 5.5.4 Mechanism not available"
smtp Weak = ascii "534 5.7.9 Mechanism too weak"
smtp Rejected = ascii "535 5.7.8 Credentials not accepted"

-- ""Same" means -ERR, a space and the words after the codes": after the second space
unfoldable pub words : List ℕ → List ℕ
words t = after space (after space t)

abbrev pub same_words : Reply → List ℕ
same_words r = ascii "-ERR " ++ words (smtp r)

abbrev pub pop3 : Reply → List ℕ
pop3 Success = ascii "+OK Authenticated"
pop3 Transition = ascii "-ERR [AUTH] Password transition needed"
pop3 Temporary = ascii "-ERR [SYS/TEMP] Temporary authentication failure"
pop3 ResponseTooLong = same_words ResponseTooLong
pop3 NotUnderstood = same_words NotUnderstood
pop3 Syntax = same_words Syntax
pop3 Cancelled = same_words Cancelled
pop3 InitialResponse = same_words InitialResponse
pop3 WrongMoment = same_words WrongMoment
pop3 Unavailable = same_words Unavailable
pop3 Weak = same_words Weak
pop3 Rejected = ascii "-ERR [AUTH] Credentials not accepted"

abbrev pub text : Profile → Reply → List ℕ
text Smtp r = smtp r
text Pop3 r = pop3 r

-- "Text is followed by CRLF."
abbrev pub crlf : List ℕ
crlf = 0x0D ∷ 0x0A ∷ []

unfoldable pub reply : Profile → Reply → List ℕ
reply p r = text p r ++ crlf

-- "An SMTP challenge begins with the four octets 334 and a space, then base64; POP3 has plus and a space."
abbrev pub challenge_prefix : Profile → List ℕ
challenge_prefix Smtp = ascii "334 "
challenge_prefix Pop3 = ascii "+ "

-- whether a reply begins like a challenge, of either profile
abbrev pub begins : List ℕ → List ℕ → Bool
begins w l = same (take (length w) l) w

unfoldable pub is_challenge : List ℕ → Bool
is_challenge l = begins (challenge_prefix Smtp) l || begins (challenge_prefix Pop3) l

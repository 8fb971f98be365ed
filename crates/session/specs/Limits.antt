-- The limits that no profile has of its own.
use Rattle.std.specs.Prelude.{ℕ}

-- "An exchange sends at most 16 challenges, the empty first one included."
abbrev pub most_challenges : ℕ
most_challenges = 16

-- "challenge (0 to 9,210 octets)"
abbrev pub longest_challenge : ℕ
longest_challenge = 9210

-- "a name (1 to 64 octets of 21-7E hex)"
abbrev pub longest_name : ℕ
longest_name = 64

-- "2^64-1 is never issued."
abbrev pub unissued : ℕ
unissued = 0xFFFFFFFFFFFFFFFF

-- "a reply buffer (at least 12,288 octets) and an answer buffer (at least 9,213)"
abbrev pub reply_buffer : ℕ
reply_buffer = 12288

abbrev pub answer_buffer : ℕ
answer_buffer = 9213

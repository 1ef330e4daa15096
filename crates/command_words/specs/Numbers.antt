-- A number of the command line.
use Rattle.std.specs.Prelude.{◌&&◌, ◌^◌, ℕ, Option, Some, None, if◌then◌else◌, nat_lt, option_and_then}
use Rattle.mail_bytes.specs.Decimal.{number_of}
use Rattle.clap.specs.Words.{Text}

-- the number, if a u32 holds it
abbrev pub as_u32 : ℕ → Option ℕ
as_u32 n = if nat_lt n (2 ^ 32) then Some n else None

-- the user of a decimal text; 0 if there is no text
abbrev pub uid_of : Option Text → Option ℕ
uid_of None = Some 0
uid_of (Some text) = option_and_then as_u32 (number_of text)

-- the number, if it is below a limit
abbrev pub as_below : ℕ → ℕ → Option ℕ
as_below limit n = if nat_lt n limit then Some n else None

-- the number below a limit of a decimal text, which has to stand
abbrev pub number_below : ℕ → Option Text → Option ℕ
number_below limit None = None
number_below limit (Some text) = option_and_then (as_below limit) (number_of text)

-- the number, if it is from 1 to 1,000,000
abbrev pub as_turns : ℕ → Option ℕ
as_turns n = if nat_lt 0 n && nat_lt n 1000001 then Some n else None

-- the turns of a decimal text, which has to stand
abbrev pub turns_of : Option Text → Option ℕ
turns_of None = None
turns_of (Some text) = option_and_then as_turns (number_of text)

-- the number, if it is from 1 to 16
abbrev pub as_threads : ℕ → Option ℕ
as_threads n = if nat_lt 0 n && nat_lt n 17 then Some n else None

-- the threads of a decimal text; 2 if there is no text
abbrev pub threads_of : Option Text → Option ℕ
threads_of None = Some 2
threads_of (Some text) = option_and_then as_threads (number_of text)

-- The commands of users, as far as a world runs them: `exit N` exits with N, and no other command is found.
use Rattle.std.specs.Prelude.{ℕ, List, drop, Option, Some, None, if◌then◌else◌, nat_eq, nat_lt, codes}
use Rattle.std.specs.List.{starts_with}
use Rattle.mail_bytes.specs.Decimal.{number_of}

-- with what a shell exits that finds no such command, and here also one that is told to exit with no number that it can have
abbrev pub not_found : ℕ
not_found = 127

-- with what it exits that is told this number, or none
abbrev pub exits_with : Option ℕ → ℕ
exits_with None = not_found
exits_with (Some number) = if nat_lt number 256 then number else not_found

-- The exit status of a command line. `exit 3` exits with 3; `exit 256`, `exit 07`, `exit` and `true` exit with 127.
abbrev pub command_exits : List ℕ → ℕ
command_exits command = if starts_with nat_eq command (codes "exit ") then exits_with (number_of (drop 5 command)) else not_found

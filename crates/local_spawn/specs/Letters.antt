-- The letter of a local delivery's report (qmail-lspawn(8), qmail-local(8)).
use Rattle.std.specs.Prelude.{ℕ, ◌||◌, if◌then◌else◌, ◌==◌}
use Rattle.outside.specs.declared.spawner.Status.{Status}
use Rattle.outside.specs.declared.spawner.Status.TheVariants.{Ended, Crashed, Failed}

-- The statuses of a delivery that may go well later: 51 for out of memory, 71, 74 and 75 of sysexits(3), and 111. Any other but 0
-- is a failure.
abbrev pub letter_by_code : ℕ → ℕ
letter_by_code code =
    if code == 0 then 75
    else (if code == 51 || (code == 71 || (code == 74 || (code == 75 || code == 111))) then 90 else 68)

-- A status that couldn't be had counts as a crash.
abbrev pub letter_of : Status → ℕ
letter_of (Ended code) = letter_by_code code
letter_of Crashed = 90
letter_of Failed = 90

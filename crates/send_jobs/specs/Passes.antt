-- What a pass over a channel file has to give: its records that read `T`, in order. Of `Ta`, NUL, `Db`, NUL, `Tc`, NUL those
-- are `a` at 0 and `c` at 6.
use Rattle.std.specs.Prelude.{ℕ, List, Bool, Option, Some, None, if◌then◌else◌}
use Rattle.std.specs.List.{filter_map}
use Rattle.envelope_records.specs.declared.channel.Record.{Record}
use Rattle.send_jobs.specs.declared.attempts.Attempt.{Attempt}

-- the attempt at a record, until it goes out
abbrev pub attempt_at : ℕ → Bool → Record → Attempt
attempt_at n dying r = record { n = n; place = r.place; dying = dying; delivery = 0; address = r.address }

-- if it reads `T`
abbrev pub attempt_of : ℕ → Bool → Record → Option Attempt
attempt_of n dying r = if r.done then None else Some (attempt_at n dying r)

-- the attempts of a pass over these records of this message
abbrev pub attempts_of : ℕ → Bool → List Record → List Attempt
attempts_of n dying records = filter_map (attempt_of n dying) records

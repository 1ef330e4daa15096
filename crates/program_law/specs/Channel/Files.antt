-- The files of a channel by their records, and what a mark does to them (qmail-send(8); INTERNALS, section 6).
use Rattle.std.specs.Prelude.{◌≡◌, ℕ, List, map, true, false, if◌then◌else◌, ◌==◌, Option, Some, Contains}
use Rattle.std.specs.Option.{option_map}
use Rattle.call_fs.specs.Maps.{put}
use Rattle.envelope_records.specs.declared.channel.Record.{Record}
use Rattle.send_jobs.specs.declared.attempts.Attempt.{Attempt}

-- of each message that has a file of the channel, the records of that file in order
abbrev pub Files : Type 0
Files = ℕ → Option (List Record)

-- The record of the attempt is in its message's file, and reads `T`.
pub record IsOpen (files : Files) (a : Attempt) : Type 0 where
  pub records : List Record
  pub there : files a.n ≡ Some records
  pub reads : Contains records (record { done = false; place = a.place; address = a.address })

-- the letter at this place became `D`
abbrev pub marked_if : ℕ → Record → Record
marked_if place r = if r.place == place then record r { done = true } else r

abbrev pub marked : ℕ → List Record → List Record
marked place records = map (marked_if place) records

-- the record of the attempt is marked in its message's file
abbrev pub with_mark : Attempt → Files → Files
with_mark a files = put files a.n (option_map (marked a.place) (files a.n))

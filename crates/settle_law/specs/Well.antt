-- Histories in which nothing fails, and in which each delivery succeeds; and disks without a name in `todo`.
use Rattle.std.specs.Prelude.{◌≡◌, ◌<◌, ◌^◌, ℕ, List, ◌∷◌, ◌++◌, Some, None, Bool, true, false, not, ◌&&◌, ◌||◌, ◌==◌, bytes_eq, codes, nat_lt}
use Rattle.std.specs.List.{list_all}
use Rattle.call_fs.specs.Disk.{Disk}
use Rattle.call_fs.specs.declared.calls.Answer.{Answer}
use Rattle.call_fs.specs.declared.calls.Answer.TheVariants.{Created, Refused}
use Rattle.call_fs.specs.declared.calls.FsError.TheVariants.{Fault, Memory}
use Rattle.call_fs.specs.declared.past.GotData.{GotData}
use Rattle.call_fs.specs.declared.past.GotData.TheVariants as came
use Rattle.call_fs.specs.declared.past.NeedData.{NeedData}
use Rattle.call_fs.specs.declared.past.NeedData.TheVariants as needs
use Rattle.call_fs.specs.declared.program.Port.TheVariants.{Output}
use Rattle.queue_law.specs.Cleaners.{IsOnePart}
use Rattle.world_events.specs.declared.event.Program.{Program}
use Rattle.world_events.specs.declared.event.Program.TheVariants.{Injector}
use Rattle.send_core.specs.Papers.{controls_told}
use Rattle.send_known.specs.declared.channel.Channel.{Channel}
use Rattle.send_runs.specs.Status.{allowed}
use Rattle.mail_world.specs.History.{Actor, Event, Legal, State}
use Rattle.mail_world.specs.History.Event.{Start, Act, Child, Generation, Report, End, Stop, Moment, Halt}

-- Nothing fails

-- The call neither failed nor lacked memory, and a file that it made has a number that a program can name.
abbrev pub is_well_answered : Answer → Bool
is_well_answered (Refused Fault) = false
is_well_answered (Refused Memory) = false
is_well_answered (Created fd number) = nat_lt number (2 ^ 64)
is_well_answered answer = true

abbrev pub came_well : GotData → Bool
came_well (came.Answered told) = is_well_answered told.answer
came_well came.Failed = false
came_well came.Memory = false
came_well got = true

-- An injector whose input is too long ends with 31, one that is too slow with 52, and one that finds all its names in `pid` taken with 63.
abbrev pub is_well_ended : ℕ → Bool
is_well_ended status = not (status == 31) && (not (status == 52) && not (status == 63))

-- The user's and the process's number that an injector is started with are u32, as a system's are: it writes both into `todo`. The disk relation and
-- the events have no bound on them.
abbrev pub has_system_numbers : Program → Bool
has_system_numbers (Injector args) = nat_lt args.uid (2 ^ 32) && nat_lt args.pid (2 ^ 32)
has_system_numbers program = true

abbrev pub goes_well : Event → Bool
goes_well (Start a program) = has_system_numbers program
goes_well (Act a own wrote) = came_well own.came
goes_well (Child parent own a program) = has_system_numbers program
goes_well (Generation crew) = true
goes_well (Report slot output) = true
goes_well (End a read ready status) = is_well_ended status
goes_well (Stop a) = false
goes_well (Moment m) = true
goes_well (Halt how contents) = false

-- No call fails, nothing is refused for memory, nothing is stopped, no injector ends so, and each has a system's numbers.
pub record GoesWell (d : Disk) (h : List Event) : Type 0 where
  pub legal : Legal d h
  pub well : list_all goes_well h ≡ true

-- The sender may run a delivery on each channel, by the controls that it has read.
abbrev pub MayDeliver : State → Type 0
MayDeliver s = (x : Actor) → s.actors (codes "sender") ≡ Some x → (c : Channel) → 0 < allowed c (controls_told x.past)

-- Each delivery succeeds

-- Of a report the letter stands after the slot, and `K` is 75. What a spawner gives first is one byte, and no report.
abbrev pub tells_success : NeedData → Bool
tells_success (needs.Give Output (slot ∷ letter ∷ text)) = letter == 75
tells_success due = true

abbrev pub is_spawner : List ℕ → Bool
is_spawner a = bytes_eq a (codes "lspawn") || bytes_eq a (codes "rspawn")

abbrev pub succeeds : Event → Bool
succeeds (Act a own wrote) = not (is_spawner a) || tells_success own.due
succeeds other = true

-- each report that a spawner gave is of a success: also that of a local delivery, which is no event of its own
abbrev pub AllSucceed : List Event → Type 0
AllSucceed h = list_all succeeds h ≡ true

-- No name in `todo`

-- a name in the directory `todo`
abbrev pub todo_name : List ℕ → List ℕ
todo_name part = codes "todo" ++ 47 ∷ part

-- The directory is empty: an opening disk has no numbers there, but may have other names.
abbrev pub TodoIsEmpty : Disk → Type 0
TodoIsEmpty d = (part : List ℕ) → IsOnePart part → d.names (todo_name part) ≡ None

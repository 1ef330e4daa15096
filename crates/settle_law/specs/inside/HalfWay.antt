-- Numbers whose message file is there, but neither their todo file nor their info file (INTERNALS, "Queue structure").
use Rattle.std.specs.Prelude.{◌≡◌, ◌≢◌, ◌<◌, ◌≤◌, ◌^◌, ℕ, Bool, true, false, List, [], ◌++◌, Some, None, codes}
use Rattle.call_fs.specs.Disk.{Disk}
use Rattle.call_fs.specs.declared.program.Port.TheVariants as port
use Rattle.queue_clean.specs.declared.row.Row.{Row as CleanRow}
use Rattle.queue_clean.specs.declared.row.Row.TheVariants as clean
use Rattle.queue_inject.specs.declared.injection.Arguments.{Arguments}
use Rattle.queue_inject.specs.Table.{place_after as inject_after}
use Rattle.queue_paths.specs.Names.{path}
use Rattle.queue_paths.specs.Names.Name.{Of}
use Rattle.queue_paths.specs.Names.Part.{Info, Mess}
use Rattle.queue_paths.specs.Parts.{in_todo, parts_of}
use Rattle.queue_states.specs.States.{state_of}
use Rattle.queue_states.specs.declared.state.State.TheVariants.{S2, S3}
use Rattle.send_parts.specs.declared.row.Row.TheVariants as at
use Rattle.send_parts.specs.declared.rows.FinishRow.TheVariants as finish
use Rattle.world_events.specs.declared.event.Program.TheVariants.{Injector, Sender}
use Rattle.mail_world.specs.History.{Actor, Event, State, after as after_events}
use Rattle.mail_world.specs.History.Life.{Alive}
use Rattle.scenario.specs.Deeds.{Deed, after}
use Rattle.world_law.specs.Crew.{place_in}
use Rattle.world_law.specs.Standing.{number_at}
use Rattle.settle_law.specs.Ends.{Turn, deeds_of}
use Rattle.settle_law.specs.Promised.{IsRest}
use Rattle.settle_law.specs.Suffices.{desk_of}
use Rattle.settle_law.specs.Well.{GoesWell}

-- so it is in S2 and S3
pub record IsHalfWay (d : Disk) (n : ℕ) : Type 0 where
  pub mess : d.names (path (Of Mess n)) ≢ None
  pub no_todo : in_todo (parts_of d.names n) ≡ None
  pub no_info : d.names (path (Of Info n)) ≡ None

-- the cleaner is to give an answer
abbrev pub is_answer : CleanRow → Bool
is_answer (clean.Answer reply) = true
is_answer row = false

-- a program can name it
abbrev pub IsNumber : ℕ → Type 0
IsNumber n = (1 ≤ n) × (n < 2 ^ 64)

-- A living injector is at work on it; or a living sender finishes it, and is to give its cleaner the command to remove it, or was given no answer and
-- none is due.
pub data IsMinded (s : State) (n : ℕ) : Type 0 where
  Injects : (a : List ℕ) (x : Actor) (args : Arguments) → s.actors a ≡ Some x → x.life ≡ Alive → x.program ≡ Injector args → number_at (inject_after args x.past) ≡ Some n → IsMinded s n
  Gives : (x : Actor) (start : ℕ) → s.actors (codes "sender") ≡ Some x → x.life ≡ Alive → x.program ≡ Sender start → (desk_of x.past).row ≡ at.Finish finish.Give n → IsNumber n → IsMinded s n
  Waits : (x : Actor) (start : ℕ) → s.actors (codes "sender") ≡ Some x → x.life ≡ Alive → x.program ≡ Sender start → (desk_of x.past).row ≡ at.Finish finish.Take n → IsNumber n
      → (s.pipework.pipes (codes "sender") port.Clean).bytes ≡ [] → is_answer (place_in (s.actors (codes "clean"))).row ≡ false → IsMinded s n

-- Where nothing fails somebody minds each such number.
abbrev pub HalfWaysAreMinded : Type 0
HalfWaysAreMinded = (d : Disk) (h : List Event) → GoesWell d h → (n : ℕ) → IsHalfWay (after_events d h).disk n → IsMinded (after_events d h) n

-- So none is left at a rest.
abbrev pub NoneIsHalfWay : Type 0
NoneIsHalfWay = (d : Disk) (turns : List Turn) (before : List Deed) → IsRest d turns before
    → (n : ℕ) → (state_of (after d (deeds_of turns ++ before)).disk n ≢ S2) × (state_of (after d (deeds_of turns ++ before)).disk n ≢ S3)

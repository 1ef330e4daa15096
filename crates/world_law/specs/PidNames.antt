-- When a cleaner takes a name in `pid` away, and what no injector has then (qmail-clean(8)).
use Rattle.std.specs.Prelude.{◌≡◌, ◌⊎◌, ℕ, ◌+◌, ◌<◌, List, ◌∷◌, ◌++◌, Option, Some, None}
use Rattle.call_fs.specs.Disk.{Disk}
use Rattle.call_fs.specs.declared.calls.CallData.TheVariants.{Stat, Unlink}
use Rattle.call_fs.specs.declared.past.NeedData.TheVariants as needs
use Rattle.call_fs.specs.declared.past.Own.{Own}
use Rattle.queue_clean.specs.Table.{pid_path}
use Rattle.queue_inject.specs.declared.injection.Arguments.{Arguments}
use Rattle.queue_inject.specs.declared.row.Row.{Row}
use Rattle.queue_inject.specs.declared.row.Row.TheVariants as at
use Rattle.queue_inject.specs.Table.{place_after as inject_after}
use Rattle.queue_law.specs.Injectors.{InTime}
use Rattle.queue_limits.specs.declared.times.TheConstants.{PID_NAME_AGE}
use Rattle.queue_paths.specs.Names.{path}
use Rattle.queue_paths.specs.Names.Name.{Pid}
use Rattle.world_events.specs.declared.event.Program.TheVariants.{Cleaner, Injector}
use Rattle.mail_world.specs.History.{Actor, Event, Legal, State, after}
use Rattle.mail_world.specs.History.Event.{Act}
use Rattle.mail_world.specs.History.Life.{Alive}

-- At its event before, which was a stat of the name `part` in `pid`, the name led to a file that was written last more than 36 hours before
-- this moment. Since then others may have done something, but not this actor.
pub record WasOldFile (d : Disk) (before : List Event) (a part : List ℕ) (now : ℕ) : Type 0 where
  pub since : List Event
  pub own : Own
  pub wrote : ℕ
  pub older : List Event
  pub all : since ++ (Act a own wrote ∷ older) ≡ before
  pub last : (after d before).actors a ≡ (after d (Act a own wrote ∷ older)).actors a
  pub asked : own.due ≡ needs.File (Stat (pid_path part))
  pub file : ℕ
  pub there : (after d older).disk.names (pid_path part) ≡ Some file
  pub old : ((after d older).disk.files file).moment + PID_NAME_AGE < now

-- the last number in the pid name that an injector has, while it has one
abbrev pub sequence_at : Row → Option ℕ
sequence_at (at.LinkMess seq n fd) = Some seq
sequence_at (at.UnlinkPid seq n fd) = Some seq
sequence_at row = None

-- an injector that made the file of this name and hasn't taken the name away, and may call still
pub record HasPid (s : State) (a : List ℕ) (pid start seq : ℕ) : Type 0 where
  pub actor : Actor
  pub is : s.actors a ≡ Some actor
  pub alive : actor.life ≡ Alive
  pub args : Arguments
  pub program : actor.program ≡ Injector args
  pub pid_is : args.pid ≡ pid
  pub start_is : args.start ≡ start
  pub seq_is : sequence_at (inject_after args actor.past) ≡ Some seq
  pub soon : InTime s.now args

-- the file of this name was written last more than 36 hours ago
pub record IsOldFile (s : State) (name : List ℕ) : Type 0 where
  pub file : ℕ
  pub there : s.disk.names name ≡ Some file
  pub old : (s.disk.files file).moment + PID_NAME_AGE < s.now

-- More than 36 hours have gone since the start that the name tells, or since its file was written last; and no injector has it that may
-- call still.
pub record IsLeftOver (s : State) (pid start seq : ℕ) : Type 0 where
  pub out_of_time : (start + PID_NAME_AGE < s.now) ⊎ IsOldFile s (path (Pid pid start seq))
  pub left : (a : List ℕ) → HasPid s a pid start seq → ⊥

-- A cleaner takes a name in `pid` away only directly after a stat of it, at which its file was so old; and if it is an injector's name, it is
-- left over.
abbrev pub PidsAreOld : Type 0
PidsAreOld = (d : Disk) (a : List ℕ) (own : Own) (wrote : ℕ) (before : List Event) → Legal d (Act a own wrote ∷ before)
    → (x : Actor) → (after d before).actors a ≡ Some x → (began : ℕ) → x.program ≡ Cleaner began
    → (part : List ℕ) → own.due ≡ needs.File (Unlink (pid_path part))
    → WasOldFile d before a part (after d before).now × ((pid start seq : ℕ) → path (Pid pid start seq) ≡ pid_path part → IsLeftOver (after d before) pid start seq)

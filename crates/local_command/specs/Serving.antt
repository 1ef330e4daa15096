-- How a need of a delivery is served, and one event of it.
use Rattle.std.specs.Prelude.{◌≡◌, ℕ, ◌≤◌, List, Option, Some, None, Result, Ok, Err}
use Rattle.std.specs.declared.alloc.AllocError.{AllocError}
use Rattle.call_fs.specs.declared.past.ChildData.{ChildData}
use Rattle.call_fs.specs.declared.past.GotData.{GotData}
use Rattle.call_fs.specs.declared.past.GotData.TheVariants as got
use Rattle.call_fs.specs.declared.past.NeedData.{NeedData}
use Rattle.call_fs.specs.declared.past.NeedData.TheVariants.{Take, Give, Start as Begin, Command, Ended}
use Rattle.call_fs.specs.declared.past.Own.{Own}
use Rattle.call_fs.specs.declared.program.Port.TheVariants as port
use Rattle.call_fs.specs.declared.program.Ready.{Ready}
use Rattle.call_fs.specs.declared.program.TheConstants.{INPUT_READY}
use Rattle.call_fs.specs.Disk.{Disk}
use Rattle.call_fs.specs.Past.{Backs, IsRunBy, held, taken}
use Rattle.call_fs.specs.Program.{MayCome}
use Rattle.local_parts.specs.declared.arguments.LocalArgs.{LocalArgs}
use Rattle.local_parts.specs.Inputs.{message_in}
use Rattle.local_deliver.specs.Table.{Next}
use Rattle.mail_bytes.specs.Told.{Meets, OnTold, Rose}
use Rattle.outside.specs.declared.sink.Gave.{Gave}
use Rattle.outside.specs.declared.sink.Gave.TheVariants as gave
use Rattle.outside.specs.declared.source.Took.{Took}
use Rattle.outside.specs.declared.source.Took.TheVariants as took
use Rattle.outside.specs.declared.spawner.Started.{Started}
use Rattle.outside.specs.Children.{Posted, SpawnCall}
use Rattle.program_runner.specs.declared.served.Served.{Served}
use Rattle.program_runner.specs.declared.served.Served.TheVariants as served
use Rattle.program_runner.specs.Lines.{StartsBy, came_of_giving, came_of_start}
use Rattle.program_runner.specs.Outside.{Looks, Outside, Takes, Puts}
use Rattle.program_runner.specs.Runs.{GoesOn}
use Rattle.program_runner.specs.Serving.{Answers, FitsPiece, SpawnerTold, Spawns, came_with}
use Rattle.local_command.specs.Done.{AsksInjector, Children, FeedsInjector, Serves, injector_by, started_on}

-- Which needs are served

-- the injector was started
abbrev pub IsThere : Option ℕ → Type 0
IsThere None = ⊥
IsThere (Some chan) = Unit {0}

-- of a program only the injector is fed, and its status asked, once it was started
abbrev pub HasInjector : Option ℕ → NeedData → Type 0
HasInjector chan (Take (port.Status slot)) = IsThere chan
HasInjector chan (Give (port.Program slot) bytes) = IsThere chan
HasInjector chan due = Unit {0}

-- a need that is no file call and no end
abbrev pub MayServe : Option ℕ → NeedData → Type 0
MayServe chan (Take port.Input) = Unit {0}
MayServe chan (Take (port.Status slot)) = IsThere chan
MayServe chan (Give port.Output bytes) = Unit {0}
MayServe chan (Give (port.Program slot) bytes) = IsThere chan
MayServe chan (Begin child) = Unit {0}
MayServe chan (Command text) = Unit {0}
MayServe chan due = ⊥

-- How they are served

abbrev pub served_took : Took → Served
served_took (took.Got count) = served.Took count
served_took took.End = served.End
served_took took.Failed = served.Failed

abbrev pub served_gave : Gave → Served
served_gave gave.Done = served.Gave
served_gave gave.Failed = served.Failed

-- what a source and a sink tell
pub record Streams : Type 0 where
  pub left : Option (List ℕ)
  pub input_faults : ℕ
  pub taken : Option (List ℕ)
  pub output_faults : ℕ

abbrev pub event_at : ℕ → Ready → NeedData → GotData → Own
event_at read ready due came = record { read = read; ready = ready; due = due; came = came }

-- What came was taken of the input, and what was due given to the output.
pub record Moves (due : NeedData) (came : GotData) (old new : Streams) : Type 0 where
  pub left : (read : ℕ) (ready : Ready) → Meets old.left new.left (Takes (event_at read ready due came))
  pub input_counts : old.input_faults ≤ new.input_faults
  pub input_cause : due ≡ Take port.Input → came ≡ got.Failed → Rose old.input_faults new.input_faults
  pub taken : (read : ℕ) (ready : Ready) → Meets old.taken new.taken (Puts (event_at read ready due came))
  pub output_counts : old.output_faults ≤ new.output_faults
  pub output_cause : (bytes : List ℕ) → due ≡ Give port.Output bytes → came ≡ got.Failed → Rose old.output_faults new.output_faults

-- a need was served: what was asked of posts and spawner, and the channel of the injector then
pub record HasServed (words : ChildData → List (List ℕ)) (message : List ℕ) (chan now : Option ℕ) (due : NeedData) (came : GotData) (old new : Children) : Type 0 where
  pub asked : List Posted
  pub calls : List SpawnCall
  pub serves : Serves words (Some message) chan due came asked calls
  pub may : MayCome due came
  pub channel : now ≡ injector_by due calls chan
  pub posts : Answers asked old.posts new.posts
  pub spawner : Spawns calls old.spawner new.spawner

-- the injector was fed its input
pub record HasFedInjector (chan : Option ℕ) (bytes : List ℕ) (told : Gave) (old new : SpawnerTold) : Type 0 where
  pub calls : List SpawnCall
  pub feeds : FeedsInjector chan bytes (came_of_giving told) calls
  pub spawner : Spawns calls old new

-- its status was asked once its end was known
pub record HasAskedInjector (chan : Option ℕ) (told : Served) (old new : Children) : Type 0 where
  pub asked : List Posted
  pub calls : List SpawnCall
  pub asks : (into : List ℕ) → AsksInjector chan (came_with told into) asked calls
  pub fits : FitsPiece told
  pub posts : Answers asked old.posts new.posts
  pub spawner : Spawns calls old.spawner new.spawner

-- it was to be started by these words
pub record HasStarted (words : List (List ℕ)) (chan now : Option ℕ) (told : Served) (old new : SpawnerTold) : Type 0 where
  pub calls : List SpawnCall
  pub started : Started
  pub starts : StartsBy words started calls
  pub told_is : (into : List ℕ) → came_with told into ≡ came_of_start started
  pub channel : now ≡ started_on calls chan
  pub spawner : Spawns calls old new
  pub fits : FitsPiece told

-- One event

-- A delivery that may go on: it stands for some past that is a run, after which the injector has this channel, and whose open
-- descriptors are open on the disk.
pub record MayGoOn (stands : LocalArgs → List Own → Type 0) (chan : Option ℕ) (disk : Option Disk) : Type 0 where
  pub args : LocalArgs
  pub past : List Own
  pub is : stands args past
  pub run : IsRunBy (Next args) past
  pub injector : (now : ℕ) (ready : Ready) → HasInjector chan (Next args past now ready)
  pub backed : OnTold disk (λ d. Backs d (held past))

-- One event more, and what it asked of posts and spawner, for each past for which the delivery stood.
pub record Goes (words : ChildData → List (List ℕ)) (before after : LocalArgs → List Own → Type 0) (chan next : Option ℕ) (old new : Outside) (children now : Children) : Type 0 where
  pub on : GoesOn Next before after (λ read ready came. Unit {0}) INPUT_READY old new
  pub asked : List Posted
  pub calls : List SpawnCall
  pub serves : (args : LocalArgs) (past : List Own) → before args past → IsRunBy (Next args) past
      → Serves words (message_in (taken past)) chan on.event.due on.event.came asked calls
  pub channel : next ≡ injector_by on.event.due calls chan
  pub posts : Answers asked children.posts now.posts
  pub spawner : Spawns calls children.spawner now.spawner

-- The end: it is due, and nothing was done but a look at the clock.
pub record IsOver (before : LocalArgs → List Own → Type 0) (status : ℕ) (chan next : Option ℕ) (old new : Outside) (children now : Children) : Type 0 where
  pub read : ℕ
  pub due : (args : LocalArgs) (past : List Own) → before args past → Next args past read INPUT_READY ≡ Ended status
  pub looks : Looks read old new
  pub children_are : now ≡ children
  pub channel : next ≡ chan

-- out of memory at what came of an event, that event was done all the same
abbrev pub IsStep : (ChildData → List (List ℕ)) → (LocalArgs → List Own → Type 0) → (LocalArgs → List Own → Type 0) → Option ℕ → Option ℕ → Result (Option ℕ) AllocError → Outside → Outside → Children → Children → Type 0
IsStep words before after chan next (Ok None) old new children now = Goes words before after chan next old new children now
IsStep words before after chan next (Ok (Some status)) old new children now = IsOver before status chan next old new children now
IsStep words before after chan next (Err why) old new children now = Goes words before (λ args past. Unit {0}) chan next old new children now

-- What each event of a local delivery asks of the posts and the spawner of its children.
use Rattle.std.specs.Prelude.{◌≡◌, ℕ, List, [], ◌∷◌, ◌++◌, Option, Some, None}
use Rattle.call_fs.specs.declared.past.ChildData.{ChildData}
use Rattle.call_fs.specs.declared.past.GotData.{GotData}
use Rattle.call_fs.specs.declared.past.NeedData.{NeedData}
use Rattle.call_fs.specs.declared.past.NeedData.TheVariants.{Take, Give, Start as Begin, Command}
use Rattle.call_fs.specs.declared.past.Own.{Own}
use Rattle.call_fs.specs.declared.program.Port.TheVariants as port
use Rattle.call_fs.specs.declared.program.TheConstants.{INPUT_READY}
use Rattle.call_fs.specs.Past.{IsRunBy, taken}
use Rattle.local_parts.specs.declared.arguments.LocalArgs.{LocalArgs}
use Rattle.local_parts.specs.Inputs.{message_in}
use Rattle.local_deliver.specs.Table.{Next}
use Rattle.outside.specs.declared.sink.Gave.{Gave}
use Rattle.outside.specs.declared.spawner.Started.{Started}
use Rattle.outside.specs.declared.spawner.Started.TheVariants as started
use Rattle.outside.specs.declared.spawner.Status.{Status}
use Rattle.outside.specs.Children.{Posted, SpawnCall}
use Rattle.outside.specs.Children.SpawnCall.{Start, Feed, Finish, AskStatus}
use Rattle.program_runner.specs.Lines.{StartsBy, came_of_giving, came_of_start, came_of_status}
use Rattle.program_runner.specs.Outside.{Outside}
use Rattle.program_runner.specs.Runs.{Did, Finds}
use Rattle.program_runner.specs.Serving.{PostsTold, Answers, SpawnerTold, Spawns}
use Rattle.local_command.specs.Commands.{Awaits, RunsCommand}

-- An event, with what the posts were asked in it, and the spawner.
pub record Deed : Type 0 where
  pub event : Own
  pub asked : List Posted
  pub calls : List SpawnCall

-- deeds are listed as a past is, the newest first
abbrev pub events_of : List Deed → List Own
events_of [] = []
events_of (deed ∷ before) = deed.event ∷ events_of before

abbrev pub all_asked : List Deed → List Posted
all_asked [] = []
all_asked (deed ∷ before) = all_asked before ++ deed.asked

abbrev pub all_calls : List Deed → List SpawnCall
all_calls [] = []
all_calls (deed ∷ before) = all_calls before ++ deed.calls

-- The channel of the injector of forwards

abbrev pub started_on : List SpawnCall → Option ℕ → Option ℕ
started_on (Start words (started.Chan chan pid) ∷ more) old = Some chan
started_on calls old = old

abbrev pub injector_by : NeedData → List SpawnCall → Option ℕ → Option ℕ
injector_by (Begin child) calls old = started_on calls old
injector_by due calls old = old

abbrev pub injector_of : List Deed → Option ℕ
injector_of [] = None
injector_of (deed ∷ before) = injector_by deed.event.due deed.calls (injector_of before)

-- An event

-- the injector was fed its whole input, which is ended then
abbrev pub FeedsInjector : Option ℕ → List ℕ → GotData → List SpawnCall → Type 0
FeedsInjector None bytes came calls = ⊥
FeedsInjector (Some chan) bytes came calls = (told : Gave) × (came ≡ came_of_giving told) × (calls ≡ Feed chan bytes told ∷ (Finish chan ∷ []))

-- its status was asked once the posts had told its end
abbrev pub AsksInjector : Option ℕ → GotData → List Posted → List SpawnCall → Type 0
AsksInjector None came asked calls = ⊥
AsksInjector (Some chan) came asked calls = Awaits chan asked × ((told : Status) × (came ≡ came_of_status told) × (calls ≡ AskStatus chan told ∷ []))

-- a command got the message
pub record Commands (text : List ℕ) (message : Option (List ℕ)) (came : GotData) (asked : List Posted) (calls : List SpawnCall) : Type 0 where
  pub body : List ℕ
  pub message_is : message ≡ Some body
  pub runs : RunsCommand text body came asked calls

-- What an event asked of the posts and the spawner, if this is the message that was taken, and the injector has this channel. It
-- is started by these words.
abbrev pub Serves : (ChildData → List (List ℕ)) → Option (List ℕ) → Option ℕ → NeedData → GotData → List Posted → List SpawnCall → Type 0
Serves words message chan (Command text) came asked calls = Commands text message came asked calls
Serves words message chan (Begin child) came asked calls = (asked ≡ []) × ((told : Started) × (came ≡ came_of_start told) × StartsBy (words child) told calls)
Serves words message chan (Give (port.Program slot) bytes) came asked calls = (asked ≡ []) × FeedsInjector chan bytes came calls
Serves words message chan (Take (port.Status slot)) came asked calls = AsksInjector chan came asked calls
Serves words message chan due came asked calls = (asked ≡ []) × (calls ≡ [])

-- so it was at each of these
abbrev pub AreServed : (ChildData → List (List ℕ)) → List Deed → Type 0
AreServed words [] = Unit {0}
AreServed words (deed ∷ before) = AreServed words before
    × Serves words (message_in (taken (events_of before))) (injector_of before) deed.event.due deed.event.came deed.asked deed.calls

-- What stands around a delivery besides its disk, its clock, its input and its output.
pub record Children : Type 0 where
  pub posts : PostsTold
  pub spawner : SpawnerTold

-- These deeds are a run of the delivery's table, and they did outside what they say: the calls, moments, takings and givings are
-- those of the disk, the clock, the input and the output, and what they asked of posts and spawner is all that these were asked.
-- The input counts as ready at any time: a taking waits for it.
pub record HasDone (words : ChildData → List (List ℕ)) (args : LocalArgs) (deeds : List Deed) (start : ℕ) (old new : Outside) (children now : Children) : Type 0 where
  pub run : IsRunBy (Next args) (events_of deeds)
  pub finds : Finds INPUT_READY (events_of deeds)
  pub did : Did start (events_of deeds) old new
  pub served : AreServed words deeds
  pub posts : Answers (all_asked deeds) children.posts now.posts
  pub spawner : Spawns (all_calls deeds) children.spawner now.spawner

-- Why a sender of so many turns ended so: by its past, newest event first, and by what was told of its links.
use Rattle.std.specs.Prelude.{◌≡◌, ◌⊎◌, ℕ, ◌<◌, ◌+◌, List, [], ◌∷◌, Bool, true, false, ◌&&◌, not, cond, ◌==◌, Option, Some, None, IsSome, Contains}
use Rattle.address_rules.specs.Files.{Fault as FileFault, first_fault}
use Rattle.call_fs.specs.declared.calls.Answer.{Answer}
use Rattle.call_fs.specs.declared.calls.Answer.TheVariants.{Refused}
use Rattle.call_fs.specs.declared.calls.CallData.{CallData}
use Rattle.call_fs.specs.declared.calls.CallData.TheVariants.{NextName}
use Rattle.call_fs.specs.declared.calls.FsError.TheVariants.{NotThere, Memory}
use Rattle.call_fs.specs.declared.past.GotData.{GotData}
use Rattle.call_fs.specs.declared.past.GotData.TheVariants as got
use Rattle.call_fs.specs.declared.past.NeedData.{NeedData}
use Rattle.call_fs.specs.declared.past.NeedData.TheVariants.{Take, Give}
use Rattle.call_fs.specs.declared.past.Own.{Own}
use Rattle.call_fs.specs.declared.program.Port.{Port}
use Rattle.call_fs.specs.declared.program.Port.TheVariants as port
use Rattle.call_fs.specs.Past.{HasCall, HoldsOf, IsFault}
use Rattle.mail_bytes.specs.Told.{Rose}
use Rattle.outside.specs.declared.posts.Waiting.TheVariants as waiting
use Rattle.outside.specs.declared.sink.Gave.TheVariants as gave
use Rattle.outside.specs.Children.SpawnCall.{Feed}
use Rattle.program_runner.specs.Lines.{LineState, brought, link_of}
use Rattle.program_runner.specs.Outside.{Outside}
use Rattle.program_runner.specs.Members.{Beside, Step, all_asked, all_calls, events_of}
use Rattle.queue_limits.specs.declared.statuses.TheConstants.{BAD_CONTROL, DONE, MEMORY, NO_CLEANER, NO_LOCAL, NO_REMOTE, NO_START}
use Rattle.send_parts.specs.declared.row.Point.TheVariants as point
use Rattle.send_parts.specs.declared.row.Row.{Row}
use Rattle.send_parts.specs.declared.row.Row.TheVariants as at
use Rattle.send_core.specs.Papers.{papers}
use Rattle.send_core.specs.Papers.Papers.{Reads}
use Rattle.send_core.specs.Table.{place_after}

-- How many turns it made

abbrev pub is_starting : Row → Bool
is_starting (at.Start row) = true
is_starting row = false

-- between two turns, or after the last one
abbrev pub is_turn_over : Row → Bool
is_turn_over (at.Turn point.TakeLocal) = true
is_turn_over (at.Ended status) = status == 0
is_turn_over row = false

-- it is in its start
abbrev pub in_start : ℕ → List Own → Bool
in_start turns past = is_starting (place_after (Some turns) past).row

-- the newest event ended a turn
abbrev pub ends_turn : ℕ → Own → List Own → Bool
ends_turn turns event before = not (in_start turns before) && is_turn_over (place_after (Some turns) (event ∷ before)).row

abbrev pub turns_made : ℕ → List Own → ℕ
turns_made turns [] = 0
turns_made turns (event ∷ before) = cond (ends_turn turns event before) 1 0 + turns_made turns before

-- Causes

-- A link was lost: it had ended, or a taking of it or a giving to it failed.
pub data IsLost (link : Port) : NeedData → GotData → Type 0 where
  HasEnded : IsLost link (Take link) got.End
  Unheard : IsLost link (Take link) got.Failed
  Ungiven : (bytes : List ℕ) → IsLost link (Give link bytes) got.Failed

-- the directory of a search is missing
abbrev pub LacksDir : CallData → Answer → Type 0
LacksDir (NextName dir after) (Refused NotThere) = Unit {0}
LacksDir call answer = ⊥

-- there was no memory for a call
abbrev pub IsStarved : CallData → Answer → Type 0
IsStarved call answer = answer ≡ Refused Memory

-- All control files were read, and one of them is bad.
pub record HasBadFile (past : List Own) : Type 0 where
  pub files : List (Option (List ℕ))
  pub fault : FileFault
  pub read : papers past ≡ Reads files None
  pub bad : first_fault files ≡ Some fault

-- The cause of the status, by the newest event.
pub data EndsBy (turns : ℕ) : List Own → ℕ → Type 0 where
  AllMade : (past : List Own) → (0 < turns → turns_made turns past ≡ turns) → EndsBy turns past DONE
  LostCleaner : (event : Own) (before : List Own) → IsLost port.Clean event.due event.came → EndsBy turns (event ∷ before) NO_CLEANER
  LostLocal : (event : Own) (before : List Own) → IsLost port.Lspawn event.due event.came → EndsBy turns (event ∷ before) NO_LOCAL
  LostRemote : (event : Own) (before : List Own) → IsLost port.Rspawn event.due event.came → EndsBy turns (event ∷ before) NO_REMOTE
  BadFile : (past : List Own) → HasBadFile past → EndsBy turns past BAD_CONTROL
  FailedStart : (event : Own) (before : List Own) → in_start turns before ≡ true → HoldsOf IsFault event ⊎ HoldsOf LacksDir event → EndsBy turns (event ∷ before) NO_START
  Starved : (event : Own) (before : List Own) → in_start turns before ≡ true → HoldsOf IsStarved event → EndsBy turns (event ∷ before) MEMORY

-- What was told of its links

-- a post told the end of this channel
abbrev pub ToldEnd : ℕ → List Step → Type 0
ToldEnd chan before = Contains (brought (all_asked before)) (waiting.End chan)

-- a post told that this channel couldn't be read
abbrev pub ToldFailure : ℕ → List Step → Type 0
ToldFailure chan before = Contains (brought (all_asked before)) (waiting.Failed chan)

-- bytes couldn't be given to it
abbrev pub HasFailedFeed : ℕ → List Step → Type 0
HasFailedFeed chan before = (bytes : List ℕ) × Contains (all_calls before) (Feed chan bytes gave.Failed)

abbrev pub IsCut : ℕ → List Step → Type 0
IsCut chan before = ToldEnd chan before ⊎ (ToldFailure chan before ⊎ HasFailedFeed chan before)

-- of the channel of a link, if it has one
abbrev pub OfLink : Option ℕ → (ℕ → Type 0) → Type 0
OfLink None P = Unit {0}
OfLink (Some chan) P = P chan

-- one of the three links ended
abbrev pub OneEnded : LineState → List Step → Type 0
OneEnded lines before = (i chan : ℕ) × (i < 3) × (link_of lines i ≡ Some chan) × ToldEnd chan before

-- it has a channel for each of the three links
abbrev pub AreLinked : LineState → Type 0
AreLinked lines = (i : ℕ) → i < 3 → IsSome (link_of lines i)

-- Why it ended so. It lost a link only if that link's end was told, its post failed or its feed did. If no count rose, no link ended,
-- no control file is bad and no directory is missing, it ended with 0, or out of memory.
pub record Ended (turns : ℕ) (before : List Step) (status : ℕ) (old new : Outside) (beside now : Beside) : Type 0 where
  pub cause : EndsBy turns (events_of before) status
  pub cleaner : status ≡ NO_CLEANER → OfLink (link_of beside.lines 0) (λ chan. IsCut chan before)
  pub local : status ≡ NO_LOCAL → OfLink (link_of beside.lines 1) (λ chan. IsCut chan before)
  pub remote : status ≡ NO_REMOTE → OfLink (link_of beside.lines 2) (λ chan. IsCut chan before)
  pub complete : AreLinked beside.lines → ¬ (Rose old.disk_faults new.disk_faults) → ¬ (Rose beside.posts.faults now.posts.faults) → ¬ (Rose beside.spawner.faults now.spawner.faults)
      → ¬ (OneEnded beside.lines before) → ¬ (HasBadFile (events_of before)) → ¬ (HasCall (events_of before) LacksDir)
      → (status ≡ DONE) ⊎ (status ≡ MEMORY)

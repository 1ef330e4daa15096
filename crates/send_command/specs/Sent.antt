-- What a sender with its links' children did. Its table and its log are those of its own crate.
use Rattle.std.specs.Prelude.{◌≡◌, ◌⊎◌, ℕ, ◌≤◌, List, [], ◌∷◌, ◌++◌, length, replicate, false, Option, Some, None}
use Rattle.call_fs.specs.declared.past.ChildData.{ChildData}
use Rattle.call_fs.specs.declared.past.Own.{Own}
use Rattle.mail_bytes.specs.Told.{Meets, Rose}
use Rattle.outside.specs.Children.{SpawnCall}
use Rattle.program_runner.specs.ChildWords.{words_of}
use Rattle.program_runner.specs.Lines.{LineState}
use Rattle.program_runner.specs.Outside.{Outside}
use Rattle.program_runner.specs.Runs.{most_turns}
use Rattle.program_runner.specs.Serving.{Spawns}
use Rattle.program_runner.specs.Members.{AreNoEnds, Beside, HasEndedSo, IsRunOf, Step, WasCut, events_of}
use Rattle.queue_limits.specs.declared.statuses.TheConstants.{MEMORY, OUTPUT}
use Rattle.send_core.specs.Log.{log_since}
use Rattle.send_core.specs.Table.{Next}
use Rattle.send_command.specs.Links.{Begins, Finishes, link_words}
use Rattle.send_command.specs.Ends.{Ended}

-- The log

-- What a log took, if it tells, and how often it failed.
pub record Logged : Type 0 where
  pub taken : Option (List ℕ)
  pub faults : ℕ

-- all lines of a past of a sender of so many turns
abbrev pub log_of : ℕ → List Own → List ℕ
log_of turns past = log_since (Some turns) past []

-- The log took these lines, and didn't fail.
pub record TakesAll (lines : List ℕ) (old new : Logged) : Type 0 where
  pub taken : Meets old.taken new.taken (λ first last. last ≡ first ++ lines)
  pub faults : new.faults ≡ old.faults

-- It took a prefix of these lines.
pub record TakesPart (lines : List ℕ) (old new : Logged) : Type 0 where
  pub taken : Meets old.taken new.taken (λ first last. (given more : List ℕ) × (lines ≡ given ++ more) × (last ≡ first ++ given))
  pub counts : old.faults ≤ new.faults

-- The sender's run

-- these links, of which nothing came yet, and no program
abbrev pub lines_with : Option ℕ → Option ℕ → Option ℕ → LineState
lines_with clean lspawn rspawn = record { links = clean ∷ lspawn ∷ rspawn ∷ None ∷ []; programs = replicate 256 None; over = replicate 256 false; kept = [] }

abbrev pub no_lines : LineState
no_lines = lines_with None None None

-- it is the sender of so many turns
abbrev pub Is : ℕ → Option ℕ → Type 0
Is turns asked = asked ≡ Some turns

-- It ran to its end: by its table, over what was handed in; its log took the lines of its past; and why it ended so.
pub record HasRunOver (words : ChildData → List (List ℕ)) (turns status : ℕ) (old new : Outside) (beside now : Beside) (log logged : Logged) : Type 0 where
  pub ran : HasEndedSo Next words (Unit {0}) (Is turns) old.last status old new beside now
  pub took : TakesAll (log_of turns (events_of ran.before)) log logged
  pub why : Ended turns ran.before status old new beside now

-- It was cut short, as by a stop: out of memory, or since its log failed. What it did until then is a run.
pub record WasCutShort (words : ChildData → List (List ℕ)) (turns : ℕ) (old new : Outside) (beside now : Beside) (log logged : Logged) : Type 0 where
  pub cut : WasCut Next words (Unit {0}) (Is turns) old.last old new beside now
  pub took : TakesPart (log_of turns (events_of cut.turns)) log logged

-- it still runs, after as many turns of its runner as a run may take
pub record StillRuns (words : ChildData → List (List ℕ)) (turns : ℕ) (old new : Outside) (beside now : Beside) (log logged : Logged) : Type 0 where
  pub steps : List Step
  pub long : length steps ≡ most_turns
  pub on : AreNoEnds steps
  pub ran : IsRunOf Next words (Unit {0}) (Is turns) steps old.last old new beside now
  pub took : TakesAll (log_of turns (events_of steps)) log logged

-- What a sender of so many turns did, whose children are started by these words. With 51 it may have been cut short; with 53 it was,
-- since the log failed.
abbrev pub HasRun : (ChildData → List (List ℕ)) → ℕ → ℕ → Outside → Outside → Beside → Beside → Logged → Logged → Type 0
HasRun words turns status old new beside now log logged =
    HasRunOver words turns status old new beside now log logged
    ⊎ (((status ≡ OUTPUT) × Rose log.faults logged.faults × WasCutShort words turns old new beside now log logged)
    ⊎ ((status ≡ MEMORY) × (WasCutShort words turns old new beside now log logged ⊎ StillRuns words turns old new beside now log logged)))

-- The whole command

-- A child of a link couldn't be started, or there was no memory for its words: no file call was made, no post was asked for, and
-- the log took nothing. Those that were started were ended again.
pub record WasUnstarted (dir program : List ℕ) (status : ℕ) (old new : Outside) (beside now : Beside) (log logged : Logged) : Type 0 where
  pub chans : List ℕ
  pub starts : List SpawnCall
  pub begins : Begins (link_words dir program) starts chans (Some status)
  pub ends : List SpawnCall
  pub finishes : Finishes chans ends
  pub spawner : Spawns (starts ++ ends) beside.spawner now.spawner
  pub rest : new ≡ old
  pub beside_rest : now ≡ record beside { spawner = now.spawner }
  pub quiet : logged ≡ log

-- The links' children were started first; then it was the sender over their channels; and at last their inputs were ended, and the
-- status of each was taken. Those starts and statuses aren't in its past.
pub record WasRun (dir program : List ℕ) (turns status : ℕ) (old new : Outside) (beside now : Beside) (log logged : Logged) : Type 0 where
  pub clean : ℕ
  pub lspawn : ℕ
  pub rspawn : ℕ
  pub starts : List SpawnCall
  pub begins : Begins (link_words dir program) starts (clean ∷ lspawn ∷ rspawn ∷ []) None
  pub begun : Beside
  pub started : Spawns starts beside.spawner begun.spawner
  pub same : begun ≡ record beside { spawner = begun.spawner; lines = lines_with (Some clean) (Some lspawn) (Some rspawn) }
  pub over : Beside
  pub ran : HasRun (words_of dir program) turns status old new begun over log logged
  pub ends : List SpawnCall
  pub finishes : Finishes (clean ∷ lspawn ∷ rspawn ∷ []) ends
  pub ended : Spawns ends over.spawner now.spawner
  pub last : now ≡ record over { spawner = now.spawner }

-- nothing was done, since there was no memory for the word of the directory
pub record WasNothing (status : ℕ) (old new : Outside) (beside now : Beside) (log logged : Logged) : Type 0 where
  pub memory : status ≡ MEMORY
  pub rest : new ≡ old
  pub beside_rest : now ≡ beside
  pub quiet : logged ≡ log

abbrev pub WasSent : List ℕ → List ℕ → ℕ → ℕ → Outside → Outside → Beside → Beside → Logged → Logged → Type 0
WasSent dir program turns status old new beside now log logged =
    WasRun dir program turns status old new beside now log logged
    ⊎ (WasUnstarted dir program status old new beside now log logged
    ⊎ WasNothing status old new beside now log logged)

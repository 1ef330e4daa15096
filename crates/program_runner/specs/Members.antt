-- A program with channels: one turn, and whole runs. Its input is a channel of its posts, its links and its children are
-- channels of its spawner.
use Rattle.std.specs.Prelude.{◌≡◌, ◌⊎◌, ℕ, ◌≤◌, List, [], ◌∷◌, ◌++◌, length, Option, Some, None, Result, Ok, Err}
use Rattle.std.specs.declared.alloc.AllocError.{AllocError}
use Rattle.call_fs.specs.declared.program.Ready.{Ready}
use Rattle.call_fs.specs.declared.past.ChildData.{ChildData}
use Rattle.call_fs.specs.declared.past.NeedData.{NeedData}
use Rattle.call_fs.specs.declared.past.NeedData.TheVariants.{Take, Command, Wait, Ended}
use Rattle.call_fs.specs.declared.past.Own.{Own}
use Rattle.call_fs.specs.Disk.{Disk}
use Rattle.call_fs.specs.Past.{Table, IsRunBy, Backs, held}
use Rattle.mail_bytes.specs.Told.{Records, OnTold, raised}
use Rattle.outside.specs.Children.{Posted, SpawnCall}
use Rattle.program_runner.specs.Outside.{Outside, AreKept, Looks}
use Rattle.program_runner.specs.Runs.{Change, GoesOn, Did, most_turns}
use Rattle.program_runner.specs.Lines.{LineState, Gathers, Serves, HasToWait, ready_of}
use Rattle.program_runner.specs.Serving.{PostsTold, Answers, SpawnerTold, Spawns, NoneWait, HasBytes, BringsSome}

-- A count that stands at its last value, and so tells nothing: a program with channels has no input of its own.
abbrev pub uncounted : ℕ
uncounted = 18446744073709551615

-- What stands beside the disk, the last moment and the output: the moments that the clock told, the posts, the spawner, and
-- what came of the channels.
pub record Beside : Type 0 where
  pub moments : Option (List ℕ)
  pub posts : PostsTold
  pub spawner : SpawnerTold
  pub lines : LineState

-- A turn: what the posts answered first, and then an event with the calls of the spawner that it made, or a look that led
-- to none.
pub data Step : Type 0 where
  Acted : (asked : List Posted) → (event : Own) → (calls : List SpawnCall) → Step
  Looked : (asked : List Posted) → (read : ℕ) → (ready : Ready) → (due : NeedData) → Step

abbrev pub asked_in : Step → List Posted
asked_in (Acted asked event calls) = asked
asked_in (Looked asked read ready due) = asked

abbrev pub read_in : Step → ℕ
read_in (Acted asked event calls) = event.read
read_in (Looked asked read ready due) = read

abbrev pub ready_in : Step → Ready
ready_in (Acted asked event calls) = event.ready
ready_in (Looked asked read ready due) = ready

abbrev pub calls_in : Step → List SpawnCall
calls_in (Acted asked event calls) = calls
calls_in (Looked asked read ready due) = []

-- it isn't the end
abbrev pub IsNoEnd : NeedData → Type 0
IsNoEnd (Ended status) = ⊥
IsNoEnd other = Unit {0}

-- A look leads to no event if the program has ended, or has to wait. No event is at the end: that isn't served.
abbrev pub LeadsToNone : NeedData → LineState → Type 0
LeadsToNone (Ended status) l = Unit {0}
LeadsToNone Wait l = Unit {0}
LeadsToNone (Take port) l = HasToWait (Take port) l
LeadsToNone other l = ⊥

-- what a turn does with what came of the channels
abbrev pub Moves : (ChildData → List (List ℕ)) → LineState → Step → LineState → Type 0
Moves words l (Acted asked event calls) m = Serves words event.due event.came calls l m
Moves words l (Looked asked read ready due) m = LeadsToNone due l × (m ≡ l)

-- What a turn did beside: the posts were asked until nothing was waiting, what was ready is what had come then, and the
-- clock was read once.
pub record Tends (words : ChildData → List (List ℕ)) (step : Step) (old new : Beside) : Type 0 where
  pub posts : Answers (asked_in step) old.posts new.posts
  pub gathered : LineState
  pub gathers : Gathers old.lines (asked_in step) gathered
  pub none : NoneWait new.posts
  pub ready : ready_in step ≡ ready_of gathered
  pub moments : Records old.moments new.moments (read_in step)
  pub spawner : Spawns (calls_in step) old.spawner new.spawner
  pub moves : Moves words gathered step new.lines

-- One turn

-- what a machine became by a look, at a moment and with what was ready
abbrev pub Look : Type 1
Look = ℕ → Ready → Type 0

-- what a program may do that is run so: all but the commands of a user
abbrev pub IsCarried : NeedData → Type 0
IsCarried (Command bytes) = ⊥
IsCarried other = Unit {0}

-- A machine that may take a turn: it stands for some past that is a run, which only asks for what is carried, and whose
-- open descriptors are open on the disk.
pub record MayAct {A : Type 0} (next : A → Table) (stands : A → List Own → Type 0) (disk : Option Disk) : Type 0 where
  pub args : A
  pub past : List Own
  pub is : stands args past
  pub run : IsRunBy (next args) past
  pub carried : (now : ℕ) (ready : Ready) → IsCarried (next args past now ready)
  pub backed : OnTold disk (λ d. Backs d (held past))

-- One event more: it was due after each past that the machine stood for. If it is a taking, and there was room for any bytes,
-- it brought some.
pub record Acts {A : Type 0} (next : A → Table) (words : ChildData → List (List ℕ)) (room : ℕ) (before after : A → List Own → Type 0) (change : Change) (old new : Outside) (beside now : Beside) : Type 0 where
  pub ready : Ready
  pub on : GoesOn next before after change ready old new
  pub some : BringsSome room on.event.came
  pub asked : List Posted
  pub calls : List SpawnCall
  pub tends : Tends words (Acted asked on.event calls) beside now

-- A look and nothing else: this was due after each past that the machine stood for.
pub record Idles {A : Type 0} (next : A → Table) (words : ChildData → List (List ℕ)) (before : A → List Own → Type 0) (due : NeedData) (old new : Outside) (beside now : Beside) : Type 0 where
  pub asked : List Posted
  pub read : ℕ
  pub ready : Ready
  pub says : (args : A) (past : List Own) → before args past → next args past read ready ≡ due
  pub looks : Looks read old new
  pub tends : Tends words (Looked asked read ready due) beside now

-- It has to wait, so it hasn't ended, and stands for the same pasts as before; and what it became by that look.
pub record Waits {A : Type 0} (next : A → Table) (words : ChildData → List (List ℕ)) (before after : A → List Own → Type 0) (look : Look) (old new : Outside) (beside now : Beside) : Type 0 where
  pub due : NeedData
  pub on : IsNoEnd due
  pub idles : Idles next words before due old new beside now
  pub stands : (args : A) (past : List Own) → before args past → after args past
  pub became : look idles.read idles.ready

-- It looked at this moment, once these posts had come, and something else than the end was due.
pub record LooksOn {A : Type 0} (next : A → Table) (before : A → List Own → Type 0) (asked : List Posted) (read : ℕ) (lines : LineState) : Type 0 where
  pub gathered : LineState
  pub gathers : Gathers lines asked gathered
  pub ready : Ready
  pub is_ready : ready ≡ ready_of gathered
  pub due : NeedData
  pub on : IsNoEnd due
  pub says : (args : A) (past : List Own) → before args past → next args past read ready ≡ due

-- Nothing was done but to ask the posts and maybe the clock. If the clock was asked, the program wasn't at its end.
pub record Asks {A : Type 0} (next : A → Table) (before : A → List Own → Type 0) (old new : Outside) (beside now : Beside) : Type 0 where
  pub asked : List Posted
  pub posts : Answers asked beside.posts now.posts
  pub read : List ℕ
  pub moments : AreKept beside.moments now.moments read
  pub on : (read ≡ []) ⊎ ((moment : ℕ) × (read ≡ moment ∷ []) × LooksOn next before asked moment beside.lines)
  pub later : old.last ≤ new.last
  pub rest : new ≡ record old { last = new.last }
  pub spawner : now.spawner ≡ beside.spawner

-- A turn that ran out of memory: its event is one more, or nothing was done.
abbrev pub IsCut : {A : Type 0} → (A → Table) → (ChildData → List (List ℕ)) → ℕ → (A → List Own → Type 0) → Outside → Outside → Beside → Beside → Type 0
IsCut next words room before old new beside now =
    Acts next words room before (λ args past. Unit {0}) (λ read ready came. Unit {0}) old new beside now ⊎ Asks next before old new beside now

-- A turn, with room for so many bytes of a taking. It answers a status exactly if it finds the program at its end.
abbrev pub IsTurnOf : {A : Type 0} → (A → Table) → (ChildData → List (List ℕ)) → ℕ → (A → List Own → Type 0) → (A → List Own → Type 0) → Change → Look → Result (Option ℕ) AllocError → Outside → Outside → Beside → Beside → Type 0
IsTurnOf next words room before after change look (Ok None) old new beside now =
    Acts next words room before after change old new beside now
    ⊎ Waits next words before after look old new beside now
IsTurnOf next words room before after change look (Ok (Some status)) old new beside now = Idles next words before (Ended status) old new beside now
IsTurnOf next words room before after change look (Err why) old new beside now = IsCut next words room before old new beside now

-- The looks in a row that found nothing to do are counted: one more after a turn that was such a look alone, none after one that
-- did something.
abbrev pub CountsLooks : ℕ → ℕ → Type 0 → Type 0 → Type 0
CountsLooks before after acted looked = ((after ≡ 0) × acted) ⊎ ((after ≡ raised before) × looked)

-- Whole runs

-- the events of some turns
abbrev pub events_of : List Step → List Own
events_of [] = []
events_of (Acted asked event calls ∷ before) = event ∷ events_of before
events_of (Looked asked read ready due ∷ before) = events_of before

-- what was due at each look that led to no event is what the table says
abbrev pub AreDueBy : Table → List Step → Type 0
AreDueBy next [] = Unit {0}
AreDueBy next (Acted asked event calls ∷ before) = AreDueBy next before
AreDueBy next (Looked asked read ready due ∷ before) = AreDueBy next before × (next (events_of before) read ready ≡ due)

-- none of these looks found the program at its end
abbrev pub AreNoEnds : List Step → Type 0
AreNoEnds [] = Unit {0}
AreNoEnds (Acted asked event calls ∷ before) = AreNoEnds before
AreNoEnds (Looked asked read ready due ∷ before) = IsNoEnd due × AreNoEnds before

-- each taking brought some bytes
abbrev pub AllHaveBytes : List Step → Type 0
AllHaveBytes [] = Unit {0}
AllHaveBytes (Acted asked event calls ∷ before) = HasBytes event.came × AllHaveBytes before
AllHaveBytes (Looked asked read ready due ∷ before) = AllHaveBytes before

-- once there was a turn, nothing is waiting
abbrev pub NoneWaitAfter : List Step → PostsTold → Type 0
NoneWaitAfter [] posts = Unit {0}
NoneWaitAfter (step ∷ before) posts = NoneWait posts

-- all answers of the posts, all calls of the spawner, and all moments that were read, in order
abbrev pub all_asked : List Step → List Posted
all_asked [] = []
all_asked (step ∷ before) = all_asked before ++ asked_in step

abbrev pub all_calls : List Step → List SpawnCall
all_calls [] = []
all_calls (step ∷ before) = all_calls before ++ calls_in step

abbrev pub all_read : List Step → List ℕ
all_read [] = []
all_read (step ∷ before) = all_read before ++ read_in step ∷ []

-- one turn of the lines: what the posts brought is kept, what is ready is what came, and the turn goes on from there
pub record Shifts (words : ChildData → List (List ℕ)) (old : LineState) (step : Step) (new : LineState) : Type 0 where
  pub gathered : LineState
  pub gathers : Gathers old (asked_in step) gathered
  pub ready : ready_in step ≡ ready_of gathered
  pub moves : Moves words gathered step new

-- the turns, one after the other, led from these lines to those
abbrev pub Leads : (ChildData → List (List ℕ)) → LineState → List Step → LineState → Type 0
Leads words first [] last = last ≡ first
Leads words first (step ∷ before) last = (mid : LineState) × Leads words first before mid × Shifts words mid step last

-- What some turns did beside the disk and the output.
pub record DidBeside (words : ChildData → List (List ℕ)) (turns : List Step) (old new : Beside) : Type 0 where
  pub moments : AreKept old.moments new.moments (all_read turns)
  pub posts : Answers (all_asked turns) old.posts new.posts
  pub none : NoneWaitAfter turns new.posts
  pub spawner : Spawns (all_calls turns) old.spawner new.spawner
  pub lines : Leads words old.lines turns new.lines

-- A run: some turns, whose events are a run of the table for all arguments for which the machine stood. If the machine always
-- has room for bytes, each taking brought some.
pub record IsRunOf {A : Type 0} (next : A → Table) (words : ChildData → List (List ℕ)) (roomy : Type 0) (possible : A → Type 0) (turns : List Step) (start : ℕ) (old new : Outside) (beside now : Beside) : Type 0 where
  pub run : (args : A) → possible args → IsRunBy (next args) (events_of turns)
  pub due : (args : A) → possible args → AreDueBy (next args) turns
  pub some : roomy → AllHaveBytes turns
  pub did : Did start (events_of turns) old new
  pub did_beside : DidBeside words turns beside now

-- it goes on after so many turns, none of which found it at its end
pub record GoesOnStill {A : Type 0} (next : A → Table) (words : ChildData → List (List ℕ)) (roomy : Type 0) (stands : A → List Own → Type 0) (possible : A → Type 0) (start count : ℕ) (old new : Outside) (beside now : Beside) : Type 0 where
  pub turns : List Step
  pub long : length turns ≡ count
  pub on : AreNoEnds turns
  pub holds : (args : A) → possible args → stands args (events_of turns)
  pub ran : IsRunOf next words roomy possible turns start old new beside now

-- it ended with this status, which was due at its last look and at none before
pub record HasEndedSo {A : Type 0} (next : A → Table) (words : ChildData → List (List ℕ)) (roomy : Type 0) (possible : A → Type 0) (start status : ℕ) (old new : Outside) (beside now : Beside) : Type 0 where
  pub asked : List Posted
  pub read : ℕ
  pub ready : Ready
  pub before : List Step
  pub on : AreNoEnds before
  pub ran : IsRunOf next words roomy possible (Looked asked read ready (Ended status) ∷ before) start old new beside now

-- it ran out of memory: what it did until then is a run that was cut short, and that hadn't ended
pub record WasCut {A : Type 0} (next : A → Table) (words : ChildData → List (List ℕ)) (roomy : Type 0) (possible : A → Type 0) (start : ℕ) (old new : Outside) (beside now : Beside) : Type 0 where
  pub turns : List Step
  pub mid : Outside
  pub mid_beside : Beside
  pub on : AreNoEnds turns
  pub ran : IsRunOf next words roomy possible turns start old mid beside mid_beside
  pub rest : (mid ≡ new) × (mid_beside ≡ now) ⊎ Asks next (λ args past. possible args × (past ≡ events_of turns)) mid new mid_beside now

-- The run of a program. Its machine may always have room for bytes (`roomy`).
abbrev pub RanTo : {A : Type 0} → Result (Option ℕ) AllocError → (A → Table) → (ChildData → List (List ℕ)) → Type 0 → (A → List Own → Type 0) → (A → Type 0) → ℕ → Outside → Outside → Beside → Beside → Type 0
RanTo (Ok (Some status)) next words roomy stands possible start old new beside now = HasEndedSo next words roomy possible start status old new beside now
RanTo (Ok None) next words roomy stands possible start old new beside now = GoesOnStill next words roomy stands possible start most_turns old new beside now
RanTo (Err why) next words roomy stands possible start old new beside now = WasCut next words roomy possible start old new beside now

-- One turn of a program, and whole runs: the events are those of its table, and they did outside what they say.
use Rattle.std.specs.Prelude.{◌≡◌, ◌⊎◌, ℕ, ◌≤◌, List, [], ◌∷◌, ◌++◌, length, Option, Some, None}
use Rattle.call_fs.specs.declared.program.Port.TheVariants as port
use Rattle.call_fs.specs.declared.program.Ready.{Ready}
use Rattle.call_fs.specs.declared.past.NeedData.{NeedData}
use Rattle.call_fs.specs.declared.past.NeedData.TheVariants.{File, Take, Give, Ended}
use Rattle.call_fs.specs.declared.past.GotData.{GotData}
use Rattle.call_fs.specs.declared.past.Own.{Own}
use Rattle.call_fs.specs.Disk.{Disk}
use Rattle.call_fs.specs.Past.{Table, IsRunBy, HasCall, IsFault, LeadsTo, InOrder, Backs, calls_of, moments_of, latest_from, held}
use Rattle.call_fs.specs.Program.{MayCome}
use Rattle.mail_bytes.specs.Told.{Meets, OnTold, Rose}
use Rattle.program_runner.specs.Outside.{Outside, AreKept, Does, Looks, TakesEnd, FailsToTake, FailsToGive, Gives, taken_by}

-- What a machine became: by a look at a moment, with what was ready, and by what came of its need.
abbrev pub Change : Type 1
Change = ℕ → Ready → GotData → Type 0

-- One event more: it was due after each past that the machine stood for, and now it stands for these pasts and the event.
pub record GoesOn {A : Type 0} (next : A → Table) (before after : A → List Own → Type 0) (change : Change) (ready : Ready) (old new : Outside) : Type 0 where
  pub event : Own
  pub found : event.ready ≡ ready
  pub due : (args : A) (past : List Own) → before args past → next args past event.read event.ready ≡ event.due
  pub stands : (args : A) (past : List Own) → before args past → after args (event ∷ past)
  pub came : MayCome event.due event.came
  pub changed : change event.read ready event.came
  pub does : Does event old new

-- The end: it is due after each past that the machine stood for, and nothing was done but a look at the clock.
pub record HasEnded {A : Type 0} (next : A → Table) (before : A → List Own → Type 0) (ready : Ready) (status : ℕ) (old new : Outside) : Type 0 where
  pub read : ℕ
  pub due : (args : A) (past : List Own) → before args past → next args past read ready ≡ Ended status
  pub looks : Looks read old new

abbrev pub IsTurn : {A : Type 0} → (A → Table) → (A → List Own → Type 0) → (A → List Own → Type 0) → Change → Ready → Option ℕ → Outside → Outside → Type 0
IsTurn next before after change ready None old new = GoesOn next before after change ready old new
IsTurn next before after change ready (Some status) old new = HasEnded next before ready status old new

-- what such a turn can do: file calls, takings of the input and givings to the output
abbrev pub IsPlain : NeedData → Type 0
IsPlain (File call) = Unit {0}
IsPlain (Take port.Input) = Unit {0}
IsPlain (Give port.Output bytes) = Unit {0}
IsPlain (Ended status) = Unit {0}
IsPlain due = ⊥

-- A machine that may take a turn: it stands for some past that is a run, which only asks for what a turn can do, and
-- whose open descriptors are open on the disk.
pub record MayTurn {A : Type 0} (next : A → Table) (stands : A → List Own → Type 0) (ready : Ready) (disk : Option Disk) : Type 0 where
  pub args : A
  pub past : List Own
  pub is : stands args past
  pub run : IsRunBy (next args) past
  pub plain : (now : ℕ) → IsPlain (next args past now ready)
  pub backed : OnTold disk (λ d. Backs d (held past))

-- Whole runs

-- the bytes that a past took of the input, in order
abbrev pub taken_in : List Own → List ℕ
taken_in [] = []
taken_in (event ∷ before) = taken_in before ++ taken_by event.due event.came

-- what it gave to the output, in order
abbrev pub GivesInAll : List Own → List ℕ → Type 0
GivesInAll [] given = given ≡ []
GivesInAll (event ∷ before) given = (first more : List ℕ) × GivesInAll before first × Gives event.due event.came more × (given ≡ first ++ more)

-- some event of the past is such
abbrev pub HasEvent : List Own → (Own → Type 0) → Type 0
HasEvent [] P = ⊥
HasEvent (event ∷ before) P = P event ⊎ HasEvent before P

-- its input was ready at each event
abbrev pub Finds : Ready → List Own → Type 0
Finds ready [] = Unit {0}
Finds ready (event ∷ before) = (event.ready ≡ ready) × Finds ready before

-- What a past, from this start, did outside.
pub record Did (start : ℕ) (past : List Own) (old new : Outside) : Type 0 where
  pub in_order : InOrder start past
  pub later : latest_from start past ≤ new.last
  pub calls : AreKept old.calls new.calls (calls_of past)
  pub moments : AreKept old.moments new.moments (moments_of past)
  pub disk : Meets old.disk new.disk (λ before after. LeadsTo before past after)
  pub disk_counts : old.disk_faults ≤ new.disk_faults
  pub disk_cause : HasCall past IsFault → Rose old.disk_faults new.disk_faults
  pub left : Meets old.left new.left (λ before after. before ≡ taken_in past ++ after)
  pub over : HasEvent past TakesEnd → OnTold new.left (λ left. left ≡ [])
  pub input_counts : old.input_faults ≤ new.input_faults
  pub input_cause : HasEvent past FailsToTake → Rose old.input_faults new.input_faults
  pub taken : Meets old.taken new.taken (λ before after. (given : List ℕ) × GivesInAll past given × (after ≡ before ++ given))
  pub output_counts : old.output_faults ≤ new.output_faults
  pub output_cause : HasEvent past FailsToGive → Rose old.output_faults new.output_faults

-- A run that goes on after so many turns: some past, which is a run for all arguments for which the machine stands.
pub record IsRunning {A : Type 0} (next : A → Table) (stands : A → List Own → Type 0) (possible : A → Type 0) (ready : Ready) (start turns : ℕ) (old now : Outside) : Type 0 where
  pub past : List Own
  pub long : length past ≡ turns
  pub finds : Finds ready past
  pub holds : (args : A) → possible args → stands args past
  pub run : (args : A) → possible args → IsRunBy (next args) past
  pub did : Did start past old now

-- A run to its end: at the last moment that was read the program had ended with this status.
pub record HasRun {A : Type 0} (next : A → Table) (possible : A → Type 0) (ready : Ready) (start status : ℕ) (old new : Outside) : Type 0 where
  pub past : List Own
  pub last : ℕ
  pub finds : Finds ready past
  pub run : (args : A) → possible args → IsRunBy (next args) past
  pub ends : (args : A) → possible args → next args past last ready ≡ Ended status
  pub before_last : Outside
  pub did : Did start past old before_last
  pub looks : Looks last before_last new

-- the most turns that a run takes
abbrev pub most_turns : ℕ
most_turns = 18446744073709551615

-- It ran to its end, with this status; or it still runs after as many turns as a run may take.
abbrev pub RunsTo : {A : Type 0} → Option ℕ → (A → Table) → (A → List Own → Type 0) → (A → Type 0) → Ready → ℕ → Outside → Outside → Type 0
RunsTo (Some status) next stands possible ready start old new = HasRun next possible ready start status old new
RunsTo None next stands possible ready start old new = IsRunning next stands possible ready start most_turns old new

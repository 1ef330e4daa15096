-- What comes of asking a machine: a file call, which is made, its end, or what is due and is no call.
use Rattle.std.specs.Prelude.{◌≡◌, ℕ, List, Option}
use Rattle.mail_bytes.specs.Told.{OnTold, Meets}
use Rattle.call_fs.specs.declared.program.Ready.{Ready}
use Rattle.call_fs.specs.declared.past.NeedData.{NeedData}
use Rattle.call_fs.specs.declared.past.NeedData.TheVariants as needs
use Rattle.call_fs.specs.declared.past.GotData.{GotData}
use Rattle.call_fs.specs.declared.past.GotData.TheVariants.{Answered}
use Rattle.call_fs.specs.declared.past.Own.{Own}
use Rattle.call_fs.specs.Apply.{MayCall}
use Rattle.call_fs.specs.Columns.{IsAnswerTo, IsMomentIn}
use Rattle.call_fs.specs.Disk.{Disk}
use Rattle.call_fs.specs.Past.{Table, IsRunBy, Makes}
use Rattle.call_fs.specs.Plan.{Plan}
use Rattle.world_events.specs.declared.asking.Came.{Came}
use Rattle.world_events.specs.declared.asking.Came.TheVariants as came
use Rattle.world_events.specs.Planned.{IsPlannedOwn}
use Rattle.world_pipes.specs.Exchanges.{IsNoAct}

-- the call that is due may be made
abbrev pub MayMake : Disk → NeedData → Type 0
MayMake d (needs.File c) = MayCall d c
MayMake d other = Unit {0}

-- A machine with this table, which stands for such pasts, may be asked at this moment, with this ready: it stands for a run, and a call
-- that is due may be made.
pub record MayBeAsked {A : Type 0} (next : A → Table) (stands : A → List Own → Type 0) (disk : Option Disk) (now : ℕ) (ready : Ready) : Type 0 where
  pub args : A
  pub past : List Own
  pub is : stands args past
  pub run : IsRunBy (next args) past
  pub may : OnTold disk (λ d. MayMake d (next args past now ready))

-- what came was due
abbrev pub due_by : Came → NeedData
due_by (came.Did own) = own.due
due_by (came.Ended status) = needs.Ended status
due_by (came.Due due) = due

-- what an actor does is a file call with an answer, or no file call and not its end
abbrev pub IsCall : NeedData → GotData → Type 0
IsCall (needs.File call) (Answered told) = IsAnswerTo call told.answer × IsMomentIn told.answer
IsCall due came = ⊥

abbrev pub IsStated : Came → Type 0
IsStated (came.Did own) = IsCall own.due own.came
IsStated (came.Ended status) = Unit {0}
IsStated (came.Due due) = IsNoAct due

-- an event has read this moment, and found this ready
abbrev pub IsReadAt : Came → ℕ → Ready → Type 0
IsReadAt (came.Did own) now ready = (own.read ≡ now) × (own.ready ≡ ready)
IsReadAt (came.Ended status) now ready = Unit {0}
IsReadAt (came.Due due) now ready = Unit {0}

-- what an event did to the disk
abbrev pub MakesOf : ℕ → NeedData → GotData → Option Disk → Option Disk → Type 0
MakesOf now due came old new = Meets old new (λ before after. Makes before now due came after)

abbrev pub IsMade : Came → ℕ → Option Disk → Option Disk → Type 0
IsMade (came.Did own) now old new = MakesOf now own.due own.came old new
IsMade (came.Ended status) now old new = new ≡ old
IsMade (came.Due due) now old new = new ≡ old

-- nothing was made of the disk, if it was no call
abbrev pub IsUntouched : {D : Type 0} → Came → D → D → Type 0
IsUntouched (came.Did own) old new = Unit {0}
IsUntouched (came.Ended status) old new = new ≡ old
IsUntouched (came.Due due) old new = new ≡ old

-- what a plan says of it, and what is left of the plan
abbrev pub IsPlannedCame : Came → Option Plan → Option Plan → Option Disk → Option Disk → Type 0
IsPlannedCame (came.Did own) old new disk disk_after = IsPlannedOwn own.due own.came old new disk disk_after
IsPlannedCame (came.Ended status) old new disk disk_after = new ≡ old
IsPlannedCame (came.Due due) old new disk disk_after = new ≡ old

-- What is open, and what a call may open or close.
use Rattle.std.specs.Prelude.{◌≡◌, ◌≢◌, ℕ, List, Option, Some, None, IsSome, IsSomeAnd}
use Rattle.std.specs.Option.{option_map}
use Rattle.call_fs.specs.declared.modes.Mode.{Mode}
use Rattle.call_fs.specs.declared.modes.Mode.TheVariants as made
use Rattle.call_fs.specs.declared.calls.CallData.{CallData}
use Rattle.call_fs.specs.declared.calls.CallData.TheVariants.{CreateExcl, Open, ReadAt, WriteAt, Append, Truncate, Sync, Close}
use Rattle.call_fs.specs.declared.calls.Answer.{Answer}
use Rattle.call_fs.specs.declared.calls.Answer.TheVariants.{Created, Opened, Count, Done}
use Rattle.call_fs.specs.Disk.{IsForAppend, IsForWrite, IsForCut}
use Rattle.host_fs.specs.declared.open_file.OpenFile.{OpenFile}
use Rattle.host_fs.specs.Held.{held}

-- how the file of this number came to be open, if it is
abbrev pub mode_at : {F : Type 0} → List (Option (OpenFile F)) → ℕ → Option Mode
mode_at slots number = option_map (λ file. file.mode) (held slots number)

-- The descriptor wasn't open, and is now, in this way. What else is open stays so.
pub record Opens (old new : ℕ → Option Mode) (fd : ℕ) (mode : Mode) : Type 0 where
  pub not_open : old fd ≡ None
  pub open_now : new fd ≡ Some mode
  pub others : (other : ℕ) → other ≢ fd → new other ≡ old other

-- The descriptor isn't open any more. What else is open stays so.
pub record Closes (old new : ℕ → Option Mode) (fd : ℕ) : Type 0 where
  pub not_open : new fd ≡ None
  pub others : (other : ℕ) → other ≢ fd → new other ≡ old other

-- what is open is as before
abbrev pub OpensNone : (ℕ → Option Mode) → (ℕ → Option Mode) → Type 0
OpensNone old new = (fd : ℕ) → new fd ≡ old fd

-- what each call with its answer does to what is open
abbrev pub Leaves : CallData → Answer → (ℕ → Option Mode) → (ℕ → Option Mode) → Type 0
Leaves (CreateExcl name) (Created fd n) old new = Opens old new fd.0 made.Created
Leaves (Open name how) (Opened fd) old new = Opens old new fd.0 (made.Opened how)
Leaves (Close fd) answer old new = Closes old new fd.0
Leaves call answer old new = OpensNone old new

-- only a descriptor that is open, and fits the call, is served
abbrev pub FitsOpen : CallData → Answer → (ℕ → Option Mode) → Type 0
FitsOpen (ReadAt fd at len) (Count count) opens = IsSome (opens fd.0)
FitsOpen (WriteAt fd at bytes) Done opens = IsSomeAnd (opens fd.0) IsForWrite
FitsOpen (Append fd bytes) Done opens = IsSomeAnd (opens fd.0) IsForAppend
FitsOpen (Truncate fd len) Done opens = IsSomeAnd (opens fd.0) IsForCut
FitsOpen (Sync fd) Done opens = IsSome (opens fd.0)
FitsOpen call answer opens = Unit {0}

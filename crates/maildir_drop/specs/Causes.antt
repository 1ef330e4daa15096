-- Why a drop ended as it did.
use Rattle.std.specs.Prelude.{◌≡◌, ℕ, List, false}
use Rattle.call_fs.specs.declared.calls.Answer.{Answer}
use Rattle.call_fs.specs.declared.calls.Answer.TheVariants.{Done, Refused}
use Rattle.call_fs.specs.declared.calls.CallData.{CallData}
use Rattle.call_fs.specs.declared.calls.CallData.TheVariants.{CreateExcl, Link}
use Rattle.call_fs.specs.declared.calls.FsError.TheVariants as error
use Rattle.call_fs.specs.declared.past.Own.{Own}
use Rattle.call_fs.specs.Past.{HasCall, IsFault}
use Rattle.maildir_drop.specs.declared.names.DropNames.{DropNames}
use Rattle.maildir_drop.specs.declared.row.Attempt.{Attempt}
use Rattle.maildir_drop.specs.declared.row.Attempt.TheVariants.{First, Second, Third}
use Rattle.maildir_drop.specs.declared.row.Why.{Why}
use Rattle.maildir_drop.specs.declared.row.Why.TheVariants as why
use Rattle.maildir_drop.specs.Names.{pair_at, is_name}

-- a link was made
abbrev pub IsLink : CallData → Answer → Type 0
IsLink call answer = (old : List ℕ) × ((new : List ℕ) × (call ≡ Link old new) × (answer ≡ Done))

-- the name of a try was linked into `new`
abbrev pub IsLinked : DropNames → Attempt → CallData → Answer → Type 0
IsLinked names attempt call answer = (call ≡ Link (pair_at names attempt).tmp (pair_at names attempt).new) × (answer ≡ Done)

-- the name of a try was taken in `tmp`
abbrev pub IsTaken : DropNames → Attempt → CallData → Answer → Type 0
IsTaken names attempt call answer = (call ≡ CreateExcl (pair_at names attempt).tmp) × (answer ≡ Refused error.Exists)

-- a name was taken in `new`
abbrev pub IsTakenInNew : CallData → Answer → Type 0
IsTakenInNew call answer = (old : List ℕ) × ((new : List ℕ) × (call ≡ Link old new) × (answer ≡ Refused error.Exists))

-- a call was told that a directory, or the file itself, is missing
abbrev pub LacksSome : CallData → Answer → Type 0
LacksSome call answer = answer ≡ Refused error.NotThere

-- a call found no memory
abbrev pub LacksMemory : CallData → Answer → Type 0
LacksMemory call answer = answer ≡ Refused error.Memory

-- the causes of a failure that another try may not meet
pub data IsDeferred (names : DropNames) (past : List Own) : Type 0 where
  CallFailed : HasCall past IsFault → IsDeferred names past
  IsMissing : HasCall past LacksSome → IsDeferred names past
  HasNoForm : (attempt : Attempt) → is_name (pair_at names attempt).tmp ≡ false → IsDeferred names past
  AllTaken : HasCall past (IsTaken names First) → HasCall past (IsTaken names Second) → HasCall past (IsTaken names Third) → IsDeferred names past
  NewIsTaken : HasCall past IsTakenInNew → IsDeferred names past

abbrev pub IsCause : DropNames → List Own → Why → Type 0
IsCause names past why.Defer = IsDeferred names past
IsCause names past why.Memory = HasCall past LacksMemory

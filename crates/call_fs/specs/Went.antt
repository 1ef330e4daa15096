-- How a file call went, in one record.
use Rattle.std.specs.Prelude.{ℕ, List, Option}
use Rattle.call_fs.specs.declared.calls.CallData.{CallData}
use Rattle.call_fs.specs.declared.calls.Told.{Told}
use Rattle.call_fs.specs.declared.calls.Recorded.{Recorded}
use Rattle.mail_bytes.specs.Told.{Meets, OnTold, Records}
use Rattle.call_fs.specs.Disk.{Disk}
use Rattle.call_fs.specs.Apply.{Apply, IsReadBy}
use Rattle.call_fs.specs.Columns.{IsAnswerTo, IsNumberIn, IsMomentIn}
use Rattle.call_fs.specs.Plan.{Plan, CallKeepsPlan}
use Rattle.call_fs.specs.Told.{CallHasCause}

-- A disk got this call at this moment, and told that. `disk`, `calls`, `chosen` and `failed` are what it tells of itself:
-- what it holds, the calls that it has kept, which call is to fail and which number is next, and how often it has failed.
pub record Went {D : Type 0} (disk : D → Option Disk) (calls : D → Option (List Recorded)) (chosen : D → Option Plan) (failed : D → ℕ) (old new : D) (now : ℕ) (call : CallData) (got : Told) : Type 0 where
  -- the answer may come of what the disk held, and it holds now what that answer leaves
  pub told : Meets (disk old) (disk new) (λ before after. Apply before now call got.answer after)
  -- the bytes of a read are those of the file; another call has none
  pub read : OnTold (disk old) (λ before. IsReadBy before call got)
  -- the call is kept with its answer, if calls are kept
  pub recorded : Records (calls old) (calls new) (record { call = call; told = got })
  -- the answer is one of those that the call may get from any disk; a read counts no more than it asked for
  pub kind : IsAnswerTo call got.answer
  -- the number of a new file is from 1
  pub number : IsNumberIn got.answer
  -- what a stat tells is a moment
  pub moment : IsMomentIn got.answer
  -- a disk that tells what is chosen fails at the chosen call alone, and takes the chosen number
  pub plan : CallKeepsPlan call (chosen old) (chosen new) (disk old) (disk new) got.answer
  -- a fault was counted, if there was room, and a close counts none
  pub cause : CallHasCause call (failed old) (failed new) got.answer

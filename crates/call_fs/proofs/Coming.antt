-- What may come of a file call.
use Rattle.std.proofs.Common.{ℕ, arith}
use Rattle.call_fs.specs.declared.calls.Answer.{Answer}
use Rattle.call_fs.specs.declared.calls.Answer.TheVariants as told
use Rattle.call_fs.specs.declared.calls.CallData.{CallData}
use Rattle.call_fs.specs.declared.calls.CallData.TheVariants as call
use Rattle.call_fs.specs.declared.calls.FsError.TheVariants.{NotThere, Fault, Memory}
use Rattle.call_fs.specs.declared.calls.Told.{Told}
use Rattle.call_fs.specs.declared.past.GotData.{GotData}
use Rattle.call_fs.specs.declared.past.GotData.TheVariants as came
use Rattle.call_fs.specs.declared.past.NeedData.TheVariants.{File}
use Rattle.call_fs.specs.Apply.{Fits, Apply}
use Rattle.call_fs.specs.Columns.{IsAnswerTo}
use Rattle.call_fs.specs.Disk.{Disk}
use Rattle.call_fs.specs.Program.{MayCome}

-- an answer that fits is one to its call
pub fits_answer : (d : Disk) (c : CallData) (answer : Answer) (w : ℕ) → Fits d c answer w → IsAnswerTo c answer
fits_answer d (call.CreateExcl name) (told.Created fd n) w fits = tt
fits_answer d (call.CreateExcl name) (told.Refused why) w fits = tt
fits_answer d (call.CreateExcl name) answer w fits = absurd fits
fits_answer d (call.Open name how) (told.Opened fd) w fits = tt
fits_answer d (call.Open name how) (told.Refused NotThere) w fits = tt
fits_answer d (call.Open name how) (told.Refused Fault) w fits = tt
fits_answer d (call.Open name how) (told.Refused Memory) w fits = tt
fits_answer d (call.Open name how) answer w fits = absurd fits
fits_answer d (call.ReadAt fd at len) (told.Count n) w fits = let is = fits.1 in omega arith
fits_answer d (call.ReadAt fd at len) (told.Refused Fault) w fits = tt
fits_answer d (call.ReadAt fd at len) answer w fits = absurd fits
fits_answer d (call.WriteAt fd at bytes) told.Done w fits = tt
fits_answer d (call.WriteAt fd at bytes) (told.Refused Fault) w fits = tt
fits_answer d (call.WriteAt fd at bytes) (told.Refused Memory) w fits = tt
fits_answer d (call.WriteAt fd at bytes) answer w fits = absurd fits
fits_answer d (call.Append fd bytes) told.Done w fits = tt
fits_answer d (call.Append fd bytes) (told.Refused Fault) w fits = tt
fits_answer d (call.Append fd bytes) (told.Refused Memory) w fits = tt
fits_answer d (call.Append fd bytes) answer w fits = absurd fits
fits_answer d (call.Truncate fd len) told.Done w fits = tt
fits_answer d (call.Truncate fd len) (told.Refused Fault) w fits = tt
fits_answer d (call.Truncate fd len) answer w fits = absurd fits
fits_answer d (call.Sync fd) told.Done w fits = tt
fits_answer d (call.Sync fd) (told.Refused Fault) w fits = tt
fits_answer d (call.Sync fd) answer w fits = absurd fits
fits_answer d (call.Close fd) told.Done w fits = tt
fits_answer d (call.Close fd) answer w fits = absurd fits
fits_answer d (call.Link old new) told.Done w fits = tt
fits_answer d (call.Link old new) (told.Refused why) w fits = tt
fits_answer d (call.Link old new) answer w fits = absurd fits
fits_answer d (call.Unlink name) told.Done w fits = tt
fits_answer d (call.Unlink name) (told.Refused NotThere) w fits = tt
fits_answer d (call.Unlink name) (told.Refused Fault) w fits = tt
fits_answer d (call.Unlink name) answer w fits = absurd fits
fits_answer d (call.Stat name) (told.Stat stat) w fits = tt
fits_answer d (call.Stat name) (told.Refused NotThere) w fits = tt
fits_answer d (call.Stat name) (told.Refused Fault) w fits = tt
fits_answer d (call.Stat name) answer w fits = absurd fits
fits_answer d (call.NextName dir last) (told.Name name) w fits = tt
fits_answer d (call.NextName dir last) told.NoName w fits = tt
fits_answer d (call.NextName dir last) (told.Refused NotThere) w fits = tt
fits_answer d (call.NextName dir last) (told.Refused Fault) w fits = tt
fits_answer d (call.NextName dir last) answer w fits = absurd fits

pub means_kind : (d e : Disk) (now : ℕ) (c : CallData) (a : Answer) → Apply d now c a e → IsAnswerTo c a
means_kind d e now c a (w, fits, is) = fits_answer d c a w fits

-- of a file call only an answer to it
pub by_answer : (c : CallData) (P : GotData → Type 0) (got : GotData) → MayCome (File c) got → ((told : Told) → P (came.Answered told)) → P got
by_answer c P (came.Answered told) may f = f told
by_answer c P (came.Took bytes) may f = absurd may
by_answer c P came.End may f = absurd may
by_answer c P (came.Ended status) may f = absurd may
by_answer c P came.Crashed may f = absurd may
by_answer c P came.Gave may f = absurd may
by_answer c P (came.Started pid) may f = absurd may
by_answer c P came.Failed may f = absurd may
by_answer c P came.Memory may f = absurd may

-- so, with that it is one
pub by_fit : (c : CallData) (P : GotData → Type 0) (got : GotData) → MayCome (File c) got → ((told : Told) → IsAnswerTo c told.answer → P (came.Answered told)) → P got
by_fit c P (came.Answered told) may f = f told may
by_fit c P (came.Took bytes) may f = absurd may
by_fit c P came.End may f = absurd may
by_fit c P (came.Ended status) may f = absurd may
by_fit c P came.Crashed may f = absurd may
by_fit c P came.Gave may f = absurd may
by_fit c P (came.Started pid) may f = absurd may
by_fit c P came.Failed may f = absurd may
by_fit c P came.Memory may f = absurd may

-- What each file reads as is among what a machine stop may leave, and stays so through each call.
use Rattle.std.proofs.Common.{⊎_elim, ℕ, List, [], Option, Some, None, sym, subst}
use Rattle.call_fs.specs.declared.crash_file_system.Survival.{Survival}
use Rattle.call_fs.specs.declared.crash_file_system.Survival.TheVariants.{Keep, Lose, Junk}
use Rattle.call_fs.specs.declared.calls.FsError.TheVariants.{Fault}
use Rattle.call_fs.specs.declared.calls.CallData.{CallData}
use Rattle.call_fs.specs.declared.calls.CallData.TheVariants as call
use Rattle.call_fs.specs.declared.calls.Answer.{Answer}
use Rattle.call_fs.specs.declared.calls.Answer.TheVariants as told
use Rattle.call_fs.specs.Disk.{Disk, File, Open}
use Rattle.call_fs.specs.Apply.{effect, changed, empty_file, grown, overwritten, cut, synced}
use Rattle.call_fs.specs.Survival.{AllSurvive, halted}
use Rattle.call_fs.specs.Choices.{contents_by}
use Rattle.call_fs.specs.Maps.{put}
use Rattle.call_fs.proofs.Maps.{put_cases}
use Rattle.mem_files.proofs.Survivors.{Lasts, lasts-settled, lasts-grown, lasts-overwritten, lasts-cut}
use Rattle.mem_files.proofs.Chosen.{read_survives, kept_survives, junk_survives}

abbrev pub AreLasting : Disk → Type 0
AreLasting d = (n : ℕ) → Lasts (d.files n)

-- a file that never was
pub lasting_empty : (moment : ℕ) → Lasts (empty_file moment)
lasting_empty moment = lasts-settled [] (empty_file moment)

pub lasting_put : (files : ℕ → File) (m : ℕ) (f : File) → ((n : ℕ) → Lasts (files n)) → Lasts f → (n : ℕ) → Lasts (put files m f n)
lasting_put files m f all one n = ⊎_elim
    (λ h. subst Lasts (sym h.1) one)
    (λ h. subst Lasts (sym h.1) (all n))
    (put_cases files m f n)

lasting_changed : (d : Disk) (o : Option Open) (change : File → File) → ((f : File) → Lasts f → Lasts (change f)) → AreLasting d → AreLasting (changed d o change)
lasting_changed d None change stays all = all
lasting_changed d (Some o) change stays all = lasting_put d.files o.number (change (d.files o.number)) all (stays (d.files o.number) (all o.number))

-- each call keeps it; a failed write has written nothing
pub lasting_after : (d : Disk) (now : ℕ) (c : CallData) (answer : Answer) → AreLasting d → AreLasting (effect d now c answer 0)
lasting_after d now (call.CreateExcl name) (told.Created fd n) all = lasting_put d.files n (empty_file now) all (lasting_empty now)
lasting_after d now (call.Open name how) (told.Opened fd) all = all
lasting_after d now (call.WriteAt fd place bytes) told.Done all = lasting_changed d (d.opens fd.0) (overwritten now place bytes) (lasts-overwritten now place bytes) all
lasting_after d now (call.WriteAt fd place bytes) (told.Refused Fault) all = lasting_changed d (d.opens fd.0) (λ f. f) (λ f h. h) all
lasting_after d now (call.Append fd bytes) told.Done all = lasting_changed d (d.opens fd.0) (grown now bytes) (lasts-grown now bytes) all
lasting_after d now (call.Append fd bytes) (told.Refused Fault) all = lasting_changed d (d.opens fd.0) (λ f. f) (λ f h. h) all
lasting_after d now (call.Truncate fd len) told.Done all = lasting_changed d (d.opens fd.0) (cut len) (lasts-cut len) all
lasting_after d now (call.Sync fd) told.Done all = lasting_changed d (d.opens fd.0) synced (λ f h. lasts-settled f.bytes f) all
lasting_after d now (call.Link old new) told.Done all = all
lasting_after d now (call.Unlink name) told.Done all = all
lasting_after d now (call.Close fd) told.Done all = all
lasting_after d now c answer all = all

-- and so does a machine stop
pub lasting_halted : (contents : ℕ → List ℕ) (d : Disk) → AreLasting (halted contents d)
lasting_halted contents d n = lasts-settled (contents n) (d.files n)

-- each name of a choice leaves what may survive
pub halt_survives : (d : Disk) (how : Survival) (named : List ℕ) → AreLasting d → AllSurvive d (contents_by how d named)
halt_survives d Keep named all = λ name n is. read_survives (d.files n) (all n)
halt_survives d Lose named all = λ name n is. kept_survives (d.files n) (all n)
halt_survives d (Junk seed) named all = λ name n is. junk_survives d.files seed named n (all n)

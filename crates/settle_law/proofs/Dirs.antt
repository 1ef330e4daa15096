-- No event makes or removes a directory.
use Rattle.std.proofs.Common.{◌≡◌, ℕ, List, [], ◌∷◌, Option, Some, None, refl, ◌∙◌}
use Rattle.call_fs.specs.Apply.{changed, cut, effect, grown, grown_part, overwritten, overwritten_part, synced}
use Rattle.call_fs.specs.Disk.{Disk, File, Open}
use Rattle.call_fs.specs.declared.calls.Answer.{Answer}
use Rattle.call_fs.specs.declared.calls.Answer.TheVariants as answer
use Rattle.call_fs.specs.declared.calls.CallData.{CallData}
use Rattle.call_fs.specs.declared.calls.CallData.TheVariants as call
use Rattle.call_fs.specs.declared.calls.FsError.TheVariants.{Fault}
use Rattle.call_fs.specs.declared.past.GotData.{GotData}
use Rattle.call_fs.specs.declared.past.GotData.TheVariants.{Answered}
use Rattle.call_fs.specs.declared.past.NeedData.{NeedData}
use Rattle.call_fs.specs.declared.past.NeedData.TheVariants as needs
use Rattle.call_fs.specs.declared.past.Own.{Own}
use Rattle.mail_world.specs.History.{Actor, Event, Life, State, acted, after, disk_after, finished, happens}
use Rattle.mail_world.specs.History.Event.{Start, Act, Child, Generation, Report, End, Stop, Moment, Halt}
use Rattle.mail_world.specs.History.Life.{Over, Stopped}

changed_dirs : (d : Disk) (o : Option Open) (f : File → File) → (changed d o f).dirs ≡ d.dirs
changed_dirs d None f = refl
changed_dirs d (Some o) f = refl

effect_dirs : (d : Disk) (now : ℕ) (c : CallData) (told : Answer) (wrote : ℕ) → (effect d now c told wrote).dirs ≡ d.dirs
effect_dirs d now (call.CreateExcl name) (answer.Created fd n) wrote = refl
effect_dirs d now (call.Open name how) (answer.Opened fd) wrote = refl
effect_dirs d now (call.WriteAt fd at bytes) answer.Done wrote = changed_dirs d (d.opens fd.0) (overwritten now at bytes)
effect_dirs d now (call.WriteAt fd at bytes) (answer.Refused Fault) wrote = changed_dirs d (d.opens fd.0) (overwritten_part now at bytes wrote)
effect_dirs d now (call.Append fd bytes) answer.Done wrote = changed_dirs d (d.opens fd.0) (grown now bytes)
effect_dirs d now (call.Append fd bytes) (answer.Refused Fault) wrote = changed_dirs d (d.opens fd.0) (grown_part now bytes wrote)
effect_dirs d now (call.Truncate fd len) answer.Done wrote = changed_dirs d (d.opens fd.0) (cut len)
effect_dirs d now (call.Sync fd) answer.Done wrote = changed_dirs d (d.opens fd.0) synced
effect_dirs d now (call.Close fd) answer.Done wrote = refl
effect_dirs d now (call.Link old new) answer.Done wrote = refl
effect_dirs d now (call.Unlink name) answer.Done wrote = refl
effect_dirs d now c told wrote = refl

due_dirs : (d : Disk) (read : ℕ) (due : NeedData) (came : GotData) (wrote : ℕ) → (disk_after d read due came wrote).dirs ≡ d.dirs
due_dirs d read (needs.File c) (Answered told) wrote = effect_dirs d read c told.answer wrote
due_dirs d read due came wrote = refl

acted_dirs : (s : State) (a : List ℕ) (own : Own) (wrote : ℕ) (o : Option Actor) → (acted s a own wrote o).disk.dirs ≡ s.disk.dirs
acted_dirs s a own wrote None = refl
acted_dirs s a own wrote (Some x) = due_dirs s.disk own.read own.due own.came wrote

finished_dirs : (s : State) (a : List ℕ) (life : Life) (o : Option Actor) → (finished s a life o).disk.dirs ≡ s.disk.dirs
finished_dirs s a life None = refl
finished_dirs s a life (Some x) = refl

event_dirs : (s : State) (e : Event) → (happens s e).disk.dirs ≡ s.disk.dirs
event_dirs s (Start a program) = refl
event_dirs s (Act a own wrote) = acted_dirs s a own wrote (s.actors a)
event_dirs s (Child parent own a program) = acted_dirs s parent own 0 (s.actors parent)
event_dirs s (Generation crew) = refl
event_dirs s (Report slot output) = refl
event_dirs s (End a read ready status) = finished_dirs s a (Over status) (s.actors a)
event_dirs s (Stop a) = finished_dirs s a Stopped (s.actors a)
event_dirs s (Moment m) = refl
event_dirs s (Halt how contents) = refl

pub same_dirs : (d : Disk) (h : List Event) → (after d h).disk.dirs ≡ d.dirs
same_dirs d [] = refl
same_dirs d (e ∷ h) = event_dirs (after d h) e ∙ same_dirs d h

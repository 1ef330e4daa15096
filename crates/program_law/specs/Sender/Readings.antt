-- A reading of the file of a part that preprocessing made.
use Rattle.std.specs.Prelude.{◌≡◌, ℕ, List, [], ◌++◌, length, None}
use Rattle.call_fs.specs.declared.calls.CallData.{CallData}
use Rattle.call_fs.specs.declared.calls.How.TheVariants as how
use Rattle.call_fs.specs.declared.calls.Told.{Told}
use Rattle.call_fs.specs.declared.past.GotData.TheVariants.{Answered}
use Rattle.call_fs.specs.declared.past.NeedData.TheVariants as needs
use Rattle.call_fs.specs.Apply.{Fits, IsReadBy}
use Rattle.queue_paths.specs.declared.names.Name.{Name}
use Rattle.queue_paths.specs.Names.{Part, name_of}
use Rattle.queue_paths.specs.Names.Name.{Of}
use Rattle.send_parts.specs.declared.reading.Progress.{Progress}
use Rattle.send_parts.specs.declared.reading.Progress.TheVariants.{Goes, Whole, Missing, Failed}
use Rattle.send_parts.specs.declared.reading.Reading.{Reading}
use Rattle.send_parts.specs.declared.step.Step.TheVariants as step
use Rattle.send_parts.specs.Readings.{read_on, reading_step}
use Rattle.send_parts.specs.Replies.{said}
use Rattle.send_parts.specs.Start.{kept}
use Rattle.send_parts.specs.Steps.{due_by}
use Rattle.queue_law.specs.Numbers.{Queue, Sound}
use Rattle.queue_law.specs.Senders.{LeadsOn, called_queue}
use Rattle.program_law.specs.Sender.Rows.{HasText, Reads}

-- where it goes on, and what it has read: once it is whole, all of the file as it is now
abbrev pub ReadsOn : Queue → List ℕ → Part → ℕ → Progress → (before now_read : List ℕ) → Type 0
ReadsOn q a part n (Goes next) before now_read = Reads q a part n next now_read
ReadsOn q a part n Whole before now_read = HasText q part n before
ReadsOn q a part n Missing before now_read = Unit {0}
ReadsOn q a part n Failed before now_read = Unit {0}

pub record ReadingLeads (now : ℕ) (a : List ℕ) (q r : Queue) (part : Part) (n : ℕ) (next : Progress) (before now_read : List ℕ) : Type 0 where
  pub leads : LeadsOn now a None q r
  pub reads : ReadsOn r a part n next before now_read

-- whatever is answered to a call of it that is due
abbrev pub ReadingsKeep : Type 0
ReadingsKeep = (now : ℕ) (q : Queue) (a : List ℕ) (part : Part) (n : ℕ) (name : Name) (g : Reading) (before : List ℕ) (read : ℕ) (call : CallData) (told : Told)
    (wrote : ℕ) → Sound q → name_of name ≡ Of part n → Reads q a part n g before
    → due_by (reading_step g (step.Open name how.Read) (length before)) [] ≡ needs.File call → Fits q.disk call told.answer wrote → IsReadBy q.disk call told
    → ReadingLeads now a q (called_queue q a read call told.answer wrote q.role) part n (read_on g (said (Answered told))) before
    (kept g before ++ (said (Answered told)).bytes)

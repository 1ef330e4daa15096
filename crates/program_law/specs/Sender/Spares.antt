-- What steps of others spare, as a sender relies on it: that a number is taken up, and all that concerns a preprocessed one.
use Rattle.std.specs.Prelude.{◌≡◌, ℕ, ◌≤◌, List, None}
use Rattle.call_fs.specs.declared.calls.CallData.{CallData}
use Rattle.call_fs.specs.declared.calls.Told.{Told}
use Rattle.call_fs.specs.declared.program.Ready.{Ready as Found}
use Rattle.call_fs.specs.declared.past.NeedData.TheVariants as needs
use Rattle.call_fs.specs.declared.past.Own.{Own}
use Rattle.call_fs.specs.Apply.{Fits}
use Rattle.queue_clean.specs.Table.{place_after, Next as CleansNext}
use Rattle.queue_inject.specs.declared.injection.Arguments.{Arguments}
use Rattle.queue_law.specs.Cleaners.{CleanerStands}
use Rattle.queue_law.specs.Numbers.{Queue, Sound}
use Rattle.queue_law.specs.Senders.{called_queue}
use Rattle.queue_law.specs.Steps.{Elsewhere, Foreign, InjectorCalls, queue_after}
use Rattle.program_law.specs.Sender.Stands.{SparesSorted}

pub record OthersSpare : Type 0 where
  -- a call of an injector
  pub injectors : (now : ℕ) (q : Queue) (a : List ℕ) (args : Arguments) (past : List Own) (read : ℕ) (ready : Found) (call : CallData) (told : Told) (wrote : ℕ)
      → (c : InjectorCalls now q a args past read ready call told wrote) → SparesSorted q (queue_after q a args read call told.answer wrote c.role)
  -- a step of a program that is none of the queue's
  pub foreigners : (a : List ℕ) (q r : Queue) → Foreign a q r → SparesSorted q r
  -- a step that concerns no number
  pub reads : (now : ℕ) (a : List ℕ) (q r : Queue) → Elsewhere now a None q r → SparesSorted q r
  -- a call of a cleaner whose number rests as its command needs
  pub cleaners : (now : ℕ) (q : Queue) (a : List ℕ) (past : List Own) (read : ℕ) (ready : Found) (call : CallData) (told : Told) (wrote : ℕ)
      → Sound q → CleanerStands now q (place_after past) → read ≤ now → CleansNext tt past read ready ≡ needs.File call → Fits q.disk call told.answer wrote
      → SparesSorted q (called_queue q a read call told.answer wrote q.role)

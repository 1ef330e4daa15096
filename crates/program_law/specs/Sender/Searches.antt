-- A todo pass inside a sender, from the search that finds its number to the answer of the cleaner.
use Rattle.std.specs.Prelude.{◌≡◌, ◌≢◌, ◌⊎◌, ℕ, ◌≤◌, List, true, Option, Some}
use Rattle.address_rules.specs.declared.controls.Controls.{Controls}
use Rattle.address_rules.specs.Nuls.{HaveNoNul}
use Rattle.call_fs.specs.declared.calls.Answer.{Answer}
use Rattle.call_fs.specs.declared.calls.Answer.TheVariants as answer
use Rattle.call_fs.specs.declared.calls.CallData.{CallData}
use Rattle.call_fs.specs.declared.calls.CallData.TheVariants.{NextName, Unlink}
use Rattle.call_fs.specs.declared.calls.Told.{Told}
use Rattle.call_fs.specs.declared.past.GotData.TheVariants as came
use Rattle.call_fs.specs.declared.past.NeedData.TheVariants as needs
use Rattle.call_fs.specs.Apply.{Fits, IsReadBy}
use Rattle.queue_paths.specs.Names.{Name, path}
use Rattle.queue_paths.specs.Names.Name.{Of}
use Rattle.queue_paths.specs.Names.Part.{Intd, Todo}
use Rattle.send_known.specs.declared.channel.Channel.{Channel}
use Rattle.send_known.specs.declared.known.Known.{Known}
use Rattle.send_parts.specs.declared.dir.Dir.TheVariants as dir
use Rattle.send_parts.specs.Files.{message_number}
use Rattle.send_parts.specs.Steps.{dir_text}
use Rattle.send_core.specs.Turn.{known_of}
use Rattle.todo_pass.specs.declared.row.Row.TheVariants as at
use Rattle.todo_pass.specs.Table.{Pass, begun, moved, due_by as pass_due}
use Rattle.queue_law.specs.Numbers.{Role, Queue, About, about, IsPreprocessed, Sound}
use Rattle.queue_law.specs.Rests.{RestsAs, Spares}
use Rattle.queue_law.specs.Ledgers.Line.{Routes}
use Rattle.queue_law.specs.Passes.{GivesCommand}
use Rattle.queue_law.specs.Senders.{LeadsOn, called_queue, entered_queue}
use Rattle.queue_law.specs.Steps.{Elsewhere}
use Rattle.program_law.specs.Sender.InTodo.{IsExpected, PassGoesOn}
use Rattle.program_law.specs.Sender.Knows.{has_file, IsKnown, Serves}

-- The laws

-- The search of `todo` finds the name of a number that rests, of which a pass begins.
abbrev pub SearchBegins : Type 0
SearchBegins = (controls : Controls) (now : ℕ) (q : Queue) (a : List ℕ) (read : ℕ) (after text : List ℕ) (wrote n : ℕ) → Sound q
    → Fits q.disk (NextName (dir_text dir.Todo) after) (answer.Name text) wrote → message_number text ≡ Some n
    → PassGoesOn controls now (called_queue q a read (NextName (dir_text dir.Todo) after) (answer.Name text) wrote q.role) a (begun n)

-- what a file call of a pass leads to
pub record PassGoesTo (controls : Controls) (now : ℕ) (a : List ℕ) (q r : Queue) (p next : Pass) : Type 0 where
  pub leads : LeadsOn now a (Some p.n) q r
  pub goes_on : PassGoesOn controls now r a next

pub record PassesGoOn : Type 0 where
  -- a file call that is due, with any answer
  pub calls : (controls : Controls) (now : ℕ) (q : Queue) (a : List ℕ) (p : Pass) (read : ℕ) (call : CallData) (told : Told) (wrote : ℕ)
      → Sound q → PassGoesOn controls now q a p → pass_due p ≡ needs.File call → Fits q.disk call told.answer wrote → IsReadBy q.disk call told
      → (role : ℕ → Role) × PassGoesTo controls now a q (called_queue q a read call told.answer wrote role) p (moved controls p read (came.Answered told))
  -- what others do that leaves the number alone
  pub others : (controls : Controls) (now : ℕ) (a o : List ℕ) (m k : Option ℕ) (q r : Queue) (p : Pass) → Elsewhere now o m q r → a ≢ o → Spares now k q r
      → k ≢ Some p.n → about r p.n ≡ about q p.n → PassGoesOn controls now q a p → PassGoesOn controls now r a p
  -- time
  pub later : (controls : Controls) (now m : ℕ) → now ≤ m → (q : Queue) (a : List ℕ) (p : Pass) → PassGoesOn controls now q a p → PassGoesOn controls m q a p

-- When it gives `todo/n`, whatever comes of that, the message is routed by these controls, that rests, and the sender knows the message.
pub record Gives (controls : Controls) (now : ℕ) (q : Queue) (a : List ℕ) (p : Pass) : Type 0 where
  pub given : GivesCommand controls now q a p.n
  pub learned : IsExpected (about (entered_queue q p.n (Routes controls)) p.n) (known_of p)

abbrev pub PassesGive : Type 0
PassesGive = (controls : Controls) (now : ℕ) (q : Queue) (a : List ℕ) (p : Pass) → HaveNoNul controls → Sound q → PassGoesOn controls now q a p → p.row ≡ at.Give → Gives controls now q a p

-- Unlinks of `intd/n` and `todo/n` leave what it knows.
abbrev pub UnlinksLeaveLearned : Type 0
UnlinksLeaveLearned = (q : Queue) (a : List ℕ) (read n m : ℕ) (told : Answer) (wrote : ℕ) (x : Name) (k : Known) → (x ≡ Of Intd m) ⊎ (x ≡ Of Todo m)
    → Fits q.disk (Unlink (path x)) told wrote → IsExpected (about q n) k → IsExpected (about (called_queue q a read (Unlink (path x)) told wrote q.role) n) k

-- When the answer is `+`, the number is preprocessed; it is known from then on, and due on each channel of which it has a file.
pub record IsNowKnown (w : About) (k : Known) : Type 0 where
  pub known : IsKnown w k
  pub due : (ch : Channel) → has_file ch k ≡ true → Serves w ch

abbrev pub DoneIsKnown : Type 0
DoneIsKnown = (now : ℕ) (q : Queue) (n : ℕ) (k : Known) → RestsAs now q n IsPreprocessed → IsExpected (about q n) k
    → IsNowKnown (about q n) k

-- A todo pass inside a sender: what it has done so far, and what the sender knows of its message once the cleaner has the command.
use Rattle.std.specs.Prelude.{◌≡◌, ℕ, List, Some}
use Rattle.address_rules.specs.declared.controls.Controls.{Controls}
use Rattle.call_fs.specs.declared.past.Own.{Own}
use Rattle.call_fs.specs.Disk.{Disk}
use Rattle.send_core.specs.Turn.{known_of}
use Rattle.send_known.specs.declared.channel.Channel.{Channel}
use Rattle.send_known.specs.declared.known.Known.{Known}
use Rattle.todo_pass.specs.declared.row.Row.{Row as PassRow}
use Rattle.todo_pass.specs.declared.row.Row.TheVariants as todo
use Rattle.todo_pass.specs.Disks.{LeadsTo}
use Rattle.todo_pass.specs.Run.{IsRun}
use Rattle.todo_pass.specs.Table.{Pass, place_after as pass_after}
use Rattle.queue_law.specs.Books.{Injection}
use Rattle.queue_law.specs.Numbers.{About, Queue, about}
use Rattle.queue_law.specs.Passes.{PassStands}
use Rattle.queue_law.specs.Routes.{lane_part, sender_of}
use Rattle.program_law.specs.Sender.Knows.{IsThereIf, has_file}

-- A pass that goes on: it did what was due since it began, which led from the disk of that time to the one of now, while others left
-- alone what it holds; and it has what it relies on.
pub record PassGoesOn (controls : Controls) (now : ℕ) (q : Queue) (a : List ℕ) (p : Pass) : Type 0 where
  pub past : List Own
  pub is : p ≡ pass_after controls p.n past
  pub run : IsRun controls p.n past
  pub first : Disk
  pub leads : LeadsTo controls p.n first past q.disk
  pub stands : PassStands now q a p.n p.row

-- What a sender knows of a message whose todo file it gave the cleaner to remove: its sender, and which channel files it has.
pub record IsExpected (w : About) (k : Known) : Type 0 where
  pub injection : Injection
  pub lives : w.living ≡ Some injection
  pub sender_is : k.sender ≡ sender_of injection.args
  pub files : (ch : Channel) → IsThereIf (has_file ch k) (w.parts (lane_part ch))

-- What it rests on at a row: of a pass that is over, nothing.
abbrev pub TodoStands : Controls → ℕ → Queue → List ℕ → PassRow → Pass → Type 0
TodoStands controls now q a todo.Answer p = IsExpected (about q p.n) (known_of p)
TodoStands controls now q a todo.Done p = Unit {0}
TodoStands controls now q a (todo.Left why) p = Unit {0}
TodoStands controls now q a todo.Lost p = Unit {0}
TodoStands controls now q a row p = PassGoesOn controls now q a p

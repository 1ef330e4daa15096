-- A pass that opens: the reading of its channel file, and what it comes to.
use Rattle.std.specs.Prelude.{◌≡◌, ℕ, List}
use Rattle.call_fs.specs.declared.calls.CallData.{CallData}
use Rattle.call_fs.specs.declared.calls.Told.{Told}
use Rattle.call_fs.specs.declared.past.GotData.TheVariants.{Answered}
use Rattle.call_fs.specs.declared.past.NeedData.TheVariants as needs
use Rattle.call_fs.specs.Apply.{Fits, IsReadBy}
use Rattle.send_core.specs.declared.desk.Desk.{Desk}
use Rattle.send_parts.specs.declared.row.Row.TheVariants as at
use Rattle.send_core.specs.Table.{act, due_at}
use Rattle.send_known.specs.declared.channel.Channel.{Channel}
use Rattle.send_parts.specs.declared.reading.Reading.{Reading}
use Rattle.queue_law.specs.Numbers.{Queue, Sound}
use Rattle.queue_law.specs.Senders.{called_queue}
use Rattle.program_law.specs.Sender.Stands.{SenderLeads, StandsAt}

-- Whatever is answered to a call of it that is due: it goes on, the pass begins over the records that the file has then, or it is put off.
abbrev pub PassesOpen : Type 0
PassesOpen = (now : ℕ) (q : Queue) (a : List ℕ) (c : Channel) (n begun : ℕ) (g : Reading) (d : Desk) (read : ℕ) (call : CallData) (told : Told) (wrote : ℕ)
    → Sound q → StandsAt now q a (at.ReadFile c n begun g) d → due_at (at.ReadFile c n begun g) d ≡ needs.File call
    → Fits q.disk call told.answer wrote → IsReadBy q.disk call told
    → SenderLeads now a q (called_queue q a read call told.answer wrote q.role) (act (at.ReadFile c n begun g) read (Answered told) d)

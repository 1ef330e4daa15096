-- The requests of a pass, and the unlink of a channel file once its job is over.
use Rattle.std.specs.Prelude.{◌≡◌, ℕ, List, Some}
use Rattle.call_fs.specs.declared.calls.CallData.{CallData}
use Rattle.call_fs.specs.declared.calls.Told.{Told}
use Rattle.call_fs.specs.declared.past.GotData.{GotData}
use Rattle.call_fs.specs.declared.past.GotData.TheVariants.{Answered}
use Rattle.call_fs.specs.declared.past.NeedData.TheVariants as needs
use Rattle.call_fs.specs.Apply.{Fits}
use Rattle.program_law.specs.Channel.Files.{IsOpen}
use Rattle.program_law.specs.Channel.Laws.{IsAlone}
use Rattle.send_core.specs.declared.desk.Desk.{Desk}
use Rattle.send_parts.specs.declared.row.Point.{Point}
use Rattle.send_parts.specs.declared.row.Row.TheVariants as at
use Rattle.send_core.specs.Table.{act, due_at}
use Rattle.send_jobs.specs.declared.attempts.Attempt.{Attempt}
use Rattle.send_known.specs.declared.channel.Channel.{Channel}
use Rattle.send_jobs.specs.Lanes.{next}
use Rattle.send_jobs.specs.Sending.{lane}
use Rattle.queue_law.specs.Numbers.{Queue, Sound}
use Rattle.queue_law.specs.Senders.{called_queue}
use Rattle.program_law.specs.Sender.Views.{files_of}
use Rattle.program_law.specs.Sender.Stands.{SenderLeads, SenderStands, StandsAt}

-- The next attempt of the open pass is at a record that reads `T` in its channel file as it is now, and no other attempt at that record is
-- in flight.
pub record IsAsked (q : Queue) (c : Channel) (d : Desk) : Type 0 where
  pub attempt : Attempt
  pub next_is : next (lane c d.slots) ≡ Some attempt
  pub reads : IsOpen (files_of q c) attempt
  pub alone : IsAlone attempt (lane c d.slots)

-- whatever comes of the giving
pub record RequestLeads (now : ℕ) (q : Queue) (a : List ℕ) (c : Channel) (d : Desk) (read : ℕ) (came : GotData) : Type 0 where
  pub asked : IsAsked q c d
  pub stands : SenderStands now q a (act (at.Request c) read came d)

abbrev pub RequestsKeep : Type 0
RequestsKeep = (now : ℕ) (q : Queue) (a : List ℕ) (c : Channel) (d : Desk) (read : ℕ) (came : GotData)
    → StandsAt now q a (at.Request c) d → RequestLeads now q a c d read came

-- whatever is answered to the unlink
abbrev pub FilesGo : Type 0
FilesGo = (now : ℕ) (q : Queue) (a : List ℕ) (c : Channel) (n : ℕ) (p : Point) (d : Desk) (read : ℕ) (call : CallData) (told : Told) (wrote : ℕ)
    → Sound q → StandsAt now q a (at.UnlinkFile c n p) d → due_at (at.UnlinkFile c n p) d ≡ needs.File call
    → Fits q.disk call told.answer wrote
    → SenderLeads now a q (called_queue q a read call told.answer wrote q.role) (act (at.UnlinkFile c n p) read (Answered told) d)

-- What is entered in the ledgers as a sender takes reports.
use Rattle.std.specs.Prelude.{ℕ, List, [], ◌∷◌, Option, Some}
use Rattle.address_rules.specs.declared.controls.Controls.{Controls}
use Rattle.call_fs.specs.declared.past.GotData.{GotData}
use Rattle.send_core.specs.declared.desk.Desk.{Desk}
use Rattle.send_parts.specs.declared.row.Row.TheVariants as at
use Rattle.send_core.specs.Booked.{booked_at}
use Rattle.send_core.specs.Table.{act}
use Rattle.send_jobs.specs.Bookings.{Booking}
use Rattle.send_jobs.specs.Bookings.Booking.{Dropped, Noted, Overwritten, ReadNotes, Reported, Returned, Routed}
use Rattle.send_known.specs.declared.channel.Channel.{Channel}
use Rattle.queue_law.specs.Entered.{Child, booked_all, booked_on}
use Rattle.queue_law.specs.Numbers.{Queue, Sound}
use Rattle.queue_law.specs.Rests.{IsClosed}
use Rattle.queue_law.specs.Senders.{LeadsOn}
use Rattle.program_law.specs.Sender.Stands.{SenderStands, StandsAt}

-- the queue after what a sender did of which its books tell, which has this child and has read these controls
abbrev pub booked_queue : Option Child → Controls → List Booking → Queue → Queue
booked_queue child by es q = record { disk = q.disk; holder = q.holder; books = booked_all child by es q.books; role = q.role }

-- the queue after a taking of this channel
abbrev pub taken_queue : Option Child → Channel → GotData → Desk → Queue → Queue
taken_queue child c came d q = booked_queue child d.book.controls (booked_at (at.TakeLink c) came d) q

-- one of these more
abbrev pub one_more : Option Child → Controls → Booking → Queue → Queue
one_more child by e q = record { disk = q.disk; holder = q.holder; books = booked_on child by e q.books; role = q.role }

-- the message that it is about
abbrev pub number_of : Booking → ℕ
number_of (Routed n) = n
number_of (Reported delivered c n place) = n
number_of (Noted c n place) = n
number_of (Overwritten c n place) = n
number_of (ReadNotes n notes) = n
number_of (Returned n) = n
number_of (Dropped n) = n

-- What takes one step or more leads to, from q to t: each step concerns one number, which no injector touches at that point.
pub data LeadsThrough (now : ℕ) (a : List ℕ) : Queue → Queue → Type 0 where
  Stays : (q : Queue) → LeadsThrough now a q q
  Goes : (q r t : Queue) (n : ℕ) → IsClosed now q n → LeadsOn now a (Some n) q r → LeadsThrough now a r t → LeadsThrough now a q t

-- each of them leads on
abbrev pub AllLead : ℕ → List ℕ → Option Child → Controls → List Booking → Queue → Type 0
AllLead now a child by [] q = Unit {0}
AllLead now a child by (e ∷ es) q =
    IsClosed now q (number_of e) × LeadsOn now a (Some (number_of e)) q (one_more child by e q) × AllLead now a child by es (one_more child by e q)

-- A taking enters the recipients of which final reports end in its bytes, one after the other. What holds of the queue holds on, and so does
-- what the sender relies on.
pub record TakingLeads (now : ℕ) (a : List ℕ) (child : Option Child) (q : Queue) (c : Channel) (d : Desk) (read : ℕ) (came : GotData) : Type 0 where
  pub sound : Sound (taken_queue child c came d q)
  pub lead : AllLead now a child d.book.controls (booked_at (at.TakeLink c) came d) q
  pub stands : SenderStands now (taken_queue child c came d q) a (act (at.TakeLink c) read came d)

abbrev pub TakingsKeep : Type 0
TakingsKeep = (now : ℕ) (a : List ℕ) (child : Option Child) (q : Queue) (c : Channel) (d : Desk) (read : ℕ) (came : GotData)
    → Sound q → StandsAt now q a (at.TakeLink c) d → TakingLeads now a child q c d read came

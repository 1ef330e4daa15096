-- What the reports that a sender takes say of recipients, by its past alone (qmail-send(8)): which were delivered to, and which failed for good.
-- A report is of the record of which a request was given last in its slot, if no report of that slot was taken since.
use Rattle.std.specs.Prelude.{◌≡◌, ℕ, List, [], ◌∷◌, ◌++◌, Bool, true, false, Option, Some, None, All, ◌≢◌, filter, ◌==◌, slice_get}
use Rattle.call_fs.specs.Disk.{Among}
use Rattle.call_fs.specs.declared.past.GotData.{GotData}
use Rattle.call_fs.specs.declared.past.GotData.TheVariants as came
use Rattle.call_fs.specs.declared.past.NeedData.{NeedData}
use Rattle.call_fs.specs.declared.past.NeedData.TheVariants as needs
use Rattle.call_fs.specs.declared.past.Own.{Own}
use Rattle.call_fs.specs.Past.{IsRunBy}
use Rattle.send_core.specs.Booked.{booked_at}
use Rattle.send_core.specs.Past.{Account, Happening, Task, account, news, given, settle, settle_all, taken}
use Rattle.send_core.specs.Past.Happening.{Gives, Nothing, Takes}
use Rattle.send_core.specs.Table.{Next, place_after, port_of, row_now}
use Rattle.send_known.specs.declared.channel.Channel.{Channel}
use Rattle.send_known.specs.declared.channel.Channel.TheVariants.{Local, Remote}
use Rattle.send_jobs.specs.Bookings.{Booking}
use Rattle.send_jobs.specs.Bookings.Booking.{Dropped, Noted, Overwritten, ReadNotes, Reported, Returned, Routed}
use Rattle.send_jobs.specs.Failures.{is_final}
use Rattle.spawn_protocol.specs.declared.report.Report.{Report}
use Rattle.spawn_protocol.specs.Report.{counted}

-- Which reports are taken

-- those that end in bytes that are taken now, after these; the first taking has only the spawner's byte
abbrev pub ending_in : Option (List ℕ) → List ℕ → List Report
ending_in None bytes = []
ending_in (Some before) bytes = news before bytes

abbrev pub taken_when : Happening → Option (List ℕ) → List Report
taken_when (Takes bytes) heard = ending_in heard bytes
taken_when other heard = []

-- what was taken of this channel's spawner
abbrev pub taken_by : NeedData → GotData → Channel → Happening
taken_by (needs.Take p) got c = taken p c got
taken_by due got c = Nothing

-- the reports of a channel that an event after this past takes
abbrev pub reports_at : Channel → List Own → Own → List Report
reports_at c past event = taken_when (taken_by event.due event.came c) (account c past).heard

-- What they say

-- if it is final, the record was delivered to, which K says, or has failed for good
abbrev pub said_if : Bool → Bool → Channel → Task → List Booking → List Booking
said_if true delivered c t later = Reported delivered c t.n t.place ∷ later
said_if false delivered c t later = later

abbrev pub said_of : Option Task → Channel → Report → List Booking → List Booking
said_of None c r later = later
said_of (Some t) c r later = said_if (is_final (counted r.letter) t.dying) (counted r.letter == 75) c t later

-- one after the other: after each its slot has nothing in flight
abbrev pub said_by : Channel → List Report → Account → List Booking
said_by c [] a = []
said_by c (r ∷ rs) a = said_of (a.in_flight r.slot) c r (said_by c rs (settle r a))

-- After a request for slot 0 of the record of a@x, at place 0 of message 7, the bytes 0, `Kok`, NUL say that this one was delivered to; the bytes 0,
-- `Znot now`, NUL say nothing, and after them 0, `Kok`, NUL says nothing either.
abbrev pub said_at : Channel → List Own → Own → List Booking
said_at c past event = said_by c (reports_at c past event) (account c past)

-- The law

abbrev pub is_report : Booking → Bool
is_report (Reported delivered c n place) = true
is_report (Routed n) = false
is_report (Noted c n place) = false
is_report (Overwritten c n place) = false
is_report (ReadNotes n notes) = false
is_report (Returned n) = false
is_report (Dropped n) = false

-- What is entered of reports at an event of a run, by what the sender keeps, is just what the reports say that the event takes.
abbrev pub EntriesAreReports : Type 0
EntriesAreReports = (turns : Option ℕ) (past : List Own) (event : Own) → IsRunBy (Next turns) (event ∷ past)
    → let d = place_after turns past in filter is_report (booked_at (row_now d event.read event.ready) event.came d) ≡ said_at Local past event ++ said_at Remote past event

-- What a single entry says

-- The event took a final report of this record, which was in flight in the report's slot when the reports before it had been taken: a K report
-- if it was delivered to, any other final one if it failed.
pub record WasReported (past : List Own) (event : Own) (delivered : Bool) (c : Channel) (n place : ℕ) : Type 0 where
  pub earlier : List Report
  pub report : Report
  pub later : List Report
  pub task : Task
  pub taken : reports_at c past event ≡ earlier ++ report ∷ later
  pub flies : (settle_all earlier (account c past)).in_flight report.slot ≡ Some task
  pub n_is : task.n ≡ n
  pub place_is : task.place ≡ place
  pub final : is_final (counted report.letter) task.dying ≡ true
  pub letter : (counted report.letter == 75) ≡ delivered

-- each entry of a run's event is of one such report, and each such report is entered
pub record EntriesWereReported : Type 0 where
  pub entered : (turns : Option ℕ) (past : List Own) (event : Own) → IsRunBy (Next turns) (event ∷ past) → (delivered : Bool) (c : Channel) (n place : ℕ)
      → let d = place_after turns past in Among (Reported delivered c n place) (booked_at (row_now d event.read event.ready) event.came d) → WasReported past event delivered c n place
  pub reported : (turns : Option ℕ) (past : List Own) (event : Own) → IsRunBy (Next turns) (event ∷ past) → (delivered : Bool) (c : Channel) (n place : ℕ)
      → WasReported past event delivered c n place → let d = place_after turns past in Among (Reported delivered c n place) (booked_at (row_now d event.read event.ready) event.came d)

-- What is in flight

-- whether an event gave a request to the spawner of a channel, and for which slot
abbrev pub given_by : NeedData → GotData → Channel → Happening
given_by (needs.Give p text) got c = given p c text got
given_by due got c = Nothing

-- none of these is of the slot
abbrev pub HasNoReport : ℕ → List Report → Type 0
HasNoReport slot rs = All (λ (r : Report). r.slot ≢ slot) rs

-- no event of these, which came after those, took a report of the slot, and none gave a request for it
abbrev pub IsLeft : Channel → ℕ → List Own → List Own → Type 0
IsLeft c slot [] before = Unit {0}
IsLeft c slot (event ∷ later) before = IsLeft c slot later before × HasNoReport slot (reports_at c (later ++ before) event) × (given_by event.due event.came c ≢ Gives slot)

-- A request for the slot was given, of that record, which came next of those to be given; and since then no report of the slot was taken, and
-- no other request was given for it.
pub record WasGiven (c : Channel) (past : List Own) (slot : ℕ) (t : Task) : Type 0 where
  pub later : List Own
  pub event : Own
  pub before : List Own
  pub rest : List ℕ
  pub all : past ≡ later ++ event ∷ before
  pub due : event.due ≡ needs.Give (port_of c) (slot ∷ rest)
  pub came_is : event.came ≡ came.Gave
  pub next : slice_get (account c before).to_give 0 ≡ Some t
  pub left : IsLeft c slot later (event ∷ before)

-- of what is in flight that is so, in any past
abbrev pub FlightsWereGiven : Type 0
FlightsWereGiven = (c : Channel) (past : List Own) (slot : ℕ) (t : Task) → (account c past).in_flight slot ≡ Some t → WasGiven c past slot t

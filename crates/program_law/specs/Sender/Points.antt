-- The finish of a message and the sweep, row by row: what each call of them leads to.
use Rattle.std.specs.Prelude.{◌≡◌, ◌≢◌, ◌⊎◌, ℕ, ◌≤◌, List, [], ◌∷◌, Option, Some, None, All}
use Rattle.address_rules.specs.declared.controls.Controls.{Controls}
use Rattle.call_fs.specs.declared.calls.CallData.{CallData}
use Rattle.call_fs.specs.declared.calls.Told.{Told}
use Rattle.call_fs.specs.declared.past.GotData.{GotData}
use Rattle.call_fs.specs.declared.past.GotData.TheVariants as came
use Rattle.call_fs.specs.declared.past.NeedData.TheVariants as needs
use Rattle.call_fs.specs.Apply.{Fits, IsReadBy}
use Rattle.bounce_record.specs.declared.return_row.ReturnRow.{ReturnRow}
use Rattle.bounce_record.specs.declared.return_row.ReturnRow.TheVariants as rows
use Rattle.bounce_record.specs.Returning.{Returning, due_by as return_due, return_begun}
use Rattle.queue_clean.specs.declared.command.Command.TheVariants.{Foop}
use Rattle.send_known.specs.declared.known.Known.{Known}
use Rattle.send_known.specs.Known.{forgotten}
use Rattle.send_parts.specs.declared.book.Book.{Book}
use Rattle.send_parts.specs.declared.rows.FinishRow.{FinishRow}
use Rattle.send_parts.specs.declared.rows.FinishRow.TheVariants as finish
use Rattle.send_parts.specs.declared.rows.SweepRow.{SweepRow}
use Rattle.send_parts.specs.declared.rows.SweepRow.TheVariants as sweep
use Rattle.send_core.specs.Booked.{returned_at}
use Rattle.send_core.specs.Finish.{bounce_on, returned_to}
use Rattle.send_jobs.specs.Bookings.{Booking}
use Rattle.send_jobs.specs.Bookings.Booking.{Returned}
use Rattle.send_parts.specs.Finish.{finish_to}
use Rattle.send_parts.specs.Replies.{said}
use Rattle.send_parts.specs.Rows.{finish_step, sweep_step}
use Rattle.send_parts.specs.Steps.{due_by}
use Rattle.send_parts.specs.Sweep.{sweep_to}
use Rattle.send_parts.specs.declared.row.Row.{Row}
use Rattle.send_parts.specs.declared.row.Row.TheVariants as at
use Rattle.queue_law.specs.Entered.{Child}
use Rattle.queue_law.specs.Numbers.{Queue, about, Sound}
use Rattle.queue_law.specs.Rests.{IsClosed, Spares}
use Rattle.queue_law.specs.Senders.{LeadsOn, called_queue}
use Rattle.queue_law.specs.Steps.{Elsewhere}
use Rattle.program_law.specs.Sender.Knows.{Knows}
use Rattle.program_law.specs.Sender.Rows.{FinishStands, IsIdle, ReturnStands, SweepStands}
use Rattle.program_law.specs.Sender.Takings.{booked_queue}
use Rattle.program_law.specs.Sender.Commands.{RestsFor}

-- what is done at such a row of a return is the start of the bounce's injector, or the giving to it
abbrev pub IsBeforeStatus : ReturnRow → Type 0
IsBeforeStatus rows.Start = Unit {0}
IsBeforeStatus (rows.Give pid) = Unit {0}
IsBeforeStatus row = ⊥

-- the injector of a bounce that is entered is the sender's child
abbrev pub HasChild : List Booking → Option Child → Type 0
HasChild [] child = Unit {0}
HasChild (Returned n ∷ es) child = (c : Child) × (child ≡ Some c)
HasChild (e ∷ es) child = HasChild es child

-- what is known of all
abbrev pub KnowsEach : Queue → Row → List Known → Type 0
KnowsEach q row known = All (λ (k : Known). Knows row (about q k.n) k) known

-- What a call at a row of a finish leads to: what holds of the queue holds then too; of all but the number nothing changed, and no injector
-- touches that, if it did; and the next row has what it relies on.
pub record FinishLeads (controls : Controls) (now : ℕ) (a : List ℕ) (q r : Queue) (n : ℕ) (next : FinishRow) (known : List Known) (back : Returning) : Type 0 where
  pub number : Option ℕ
  pub only : (number ≡ None) ⊎ (number ≡ Some n)
  pub closed : (m : ℕ) → number ≡ Some m → IsClosed now q m
  pub leads : LeadsOn now a number q r
  pub stands : FinishStands controls now r a next n known back
  pub knows : KnowsEach r (at.Finish next n) known

-- The calls of a finish: the open of the bounce file, with which its return begins, each call of that, and the unlink of the info file.
-- A close of the bounce file, read to its end, enters what was read.
pub record FinishesLead : Type 0 where
  pub opens : (now : ℕ) (q : Queue) (a : List ℕ) (n : ℕ) (b : Book) (read : ℕ) (call : CallData) (told : Told) (wrote : ℕ)
      → Sound q → KnowsEach q (at.Finish finish.OpenBounce n) b.messages.known → IsIdle n b.messages.known
      → due_by (finish_step finish.OpenBounce n) [] ≡ needs.File call → Fits q.disk call told.answer wrote
      → let r = bounce_on n read (came.Answered told) (return_begun n) b in
      FinishLeads b.controls now a q (called_queue q a read call told.answer wrote q.role) n (returned_to r.row) b.messages.known r
  pub returns : (now : ℕ) (q : Queue) (a : List ℕ) (child : Option Child) (n : ℕ) (b : Book) (back : Returning) (read : ℕ) (call : CallData) (told : Told)
      (wrote : ℕ) → Sound q → KnowsEach q (at.Finish finish.Return n) b.messages.known → ReturnStands b.controls q a n b.messages.known back
      → return_due back ≡ needs.File call → Fits q.disk call told.answer wrote → IsReadBy q.disk call told
      → let r = bounce_on n read (came.Answered told) back b in
      FinishLeads b.controls now a q
      (booked_queue child b.controls (returned_at back.row n back.notes (came.Answered told)) (called_queue q a read call told.answer wrote q.role)) n (returned_to r.row) b.messages.known r
  pub ends : (controls : Controls) (now : ℕ) (q : Queue) (a : List ℕ) (n : ℕ) (known : List Known) (back : Returning) (read : ℕ) (call : CallData) (told : Told) (wrote : ℕ)
      → Sound q → KnowsEach q (at.Finish finish.UnlinkInfo n) known → FinishStands controls now q a finish.UnlinkInfo n known back
      → due_by (finish_step finish.UnlinkInfo n) [] ≡ needs.File call → Fits q.disk call told.answer wrote
      → FinishLeads controls now a q (called_queue q a read call told.answer wrote q.role) n (finish_to finish.UnlinkInfo (said (came.Answered told)).way) known back

-- what the taking of the status leads to
pub record ReturnTakes (controls : Controls) (now : ℕ) (a : List ℕ) (q r : Queue) (n : ℕ) (next : FinishRow) (known : List Known) (back : Returning) : Type 0 where
  pub closed : IsClosed now q n
  pub leads : LeadsOn now a (Some n) q r
  pub stands : FinishStands controls now r a next n known back
  pub knows : KnowsEach r (at.Finish next n) known

-- What of a return is no call: the start of the bounce's injector, the giving of the bounce to it, and the taking of its status, which enters
-- the bounce if it is 0.
pub record ReturnsGoOn : Type 0 where
  pub steps : (now : ℕ) (q : Queue) (a : List ℕ) (n : ℕ) (b : Book) (back : Returning) (read : ℕ) (got : GotData)
      → KnowsEach q (at.Finish finish.Return n) b.messages.known → ReturnStands b.controls q a n b.messages.known back → IsBeforeStatus back.row
      → let r = bounce_on n read got back b in FinishStands b.controls now q a (returned_to r.row) n b.messages.known r
  pub takes : (now : ℕ) (q : Queue) (a : List ℕ) (child : Option Child) (n pid : ℕ) (b : Book) (back : Returning) (read : ℕ) (got : GotData)
      → Sound q → KnowsEach q (at.Finish finish.Return n) b.messages.known → ReturnStands b.controls q a n b.messages.known back
      → back.row ≡ rows.Await pid → HasChild (returned_at back.row n back.notes got) child
      → let r = bounce_on n read got back b in
      ReturnTakes b.controls now a q (booked_queue child b.controls (returned_at back.row n back.notes got) q) n (returned_to r.row) b.messages.known r

-- What a call at a row of the sweep leads to: nothing that concerns a number changes. A message file that is old at the moment of its
-- stat is one that no injector touches, and the row that is next may count on that.
pub record SweepLeads (now : ℕ) (a : List ℕ) (q r : Queue) (next : SweepRow) (known : List Known) : Type 0 where
  pub leads : LeadsOn now a None q r
  pub stands : SweepStands now r a next known

abbrev pub SweepsLead : Type 0
SweepsLead = (now : ℕ) (q : Queue) (a : List ℕ) (row : SweepRow) (b : Book) (words : List ℕ) (read : ℕ) (call : CallData) (told : Told)
    (wrote : ℕ) → Sound q → SweepStands now q a row b.messages.known → read ≤ now
    → due_by (sweep_step row) words ≡ needs.File call → Fits q.disk call told.answer wrote
    → SweepLeads now a q (called_queue q a read call told.answer wrote q.role) (sweep_to row read (said (came.Answered told)) b) b.messages.known

-- The steps of both that aren't calls, and what comes after them
pub record ChoresStand : Type 0 where
  -- what is given rests
  pub finish_gives : (controls : Controls) (now : ℕ) (q : Queue) (a : List ℕ) (n : ℕ) (known : List Known) (back : Returning) → FinishStands controls now q a finish.Give n known back
      → RestsFor now q (Foop n)
  pub sweep_gives : (now : ℕ) (q : Queue) (a : List ℕ) (split n : ℕ) (known : List Known) → SweepStands now q a (sweep.Give split n) known
      → RestsFor now q (Foop n)
  -- once a message is forgotten, what is known of the others stays
  pub forgets : (q : Queue) (row : Row) (rest : Row) (n : ℕ) (known : List Known) → row ≡ at.Finish finish.Take n → KnowsEach q row known
      → KnowsEach q rest (forgotten n known)

-- the number that a row of the sweep is about
abbrev pub number_in : SweepRow → Option ℕ
number_in (sweep.StatMess split n) = Some n
number_in (sweep.StatTodo split n) = Some n
number_in (sweep.StatInfo split n todo) = Some n
number_in (sweep.Give split n) = Some n
number_in row = None

-- what others spare of the message that a finish is about: until its info file is gone all of it, and then that it rests
abbrev pub Spared : Option ℕ → Queue → Queue → FinishRow → ℕ → Type 0
Spared k q r finish.Return n = about r n ≡ about q n
Spared k q r finish.UnlinkInfo n = about r n ≡ about q n
Spared k q r finish.Give n = k ≢ Some n
Spared k q r row n = Unit {0}

-- What others do that spares the number leaves what a finish and a sweep rest on, and so does time.
pub record PointsAreLeftAlone : Type 0 where
  pub finish : (controls : Controls) (now : ℕ) (a o : List ℕ) (m k : Option ℕ) (q r : Queue) → Elsewhere now o m q r → a ≢ o → Spares now k q r → (row : FinishRow) (n : ℕ)
      (known : List Known) (back : Returning) → Spared k q r row n → FinishStands controls now q a row n known back → FinishStands controls now r a row n known back
  pub sweeps : (now : ℕ) (a : List ℕ) (k : Option ℕ) (q r : Queue) → Spares now k q r → (row : SweepRow) (known : List Known)
      → ((n : ℕ) → number_in row ≡ Some n → k ≢ Some n) → SweepStands now q a row known → SweepStands now r a row known
  pub finish_later : (controls : Controls) (now later : ℕ) → now ≤ later → (q : Queue) (a : List ℕ) (row : FinishRow) (n : ℕ) (known : List Known) (back : Returning)
      → FinishStands controls now q a row n known back → FinishStands controls later q a row n known back
  pub sweeps_later : (now later : ℕ) → now ≤ later → (q : Queue) (a : List ℕ) (row : SweepRow) (known : List Known) → SweepStands now q a row known
      → SweepStands later q a row known

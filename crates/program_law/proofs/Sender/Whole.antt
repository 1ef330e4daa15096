-- Each event of a sender, by the row at which it comes.
use Rattle.std.proofs.Common.{◌≡◌, ℕ, ◌≤◌, List, [], ◌∷◌, Option, refl, sym, subst}
use Rattle.address_rules.specs.declared.controls.Controls.{Controls}
use Rattle.bounce_record.specs.declared.return_row.ReturnRow.{ReturnRow}
use Rattle.bounce_record.specs.declared.return_row.ReturnRow.TheVariants as back
use Rattle.bounce_record.specs.Returning.{Returning, due_at as return_due_at}
use Rattle.call_fs.specs.declared.calls.CallData.{CallData}
use Rattle.call_fs.specs.declared.calls.Told.{Told}
use Rattle.call_fs.specs.declared.past.ChildData.{ChildData}
use Rattle.call_fs.specs.declared.past.GotData.{GotData}
use Rattle.call_fs.specs.declared.past.GotData.TheVariants.{Answered}
use Rattle.call_fs.specs.declared.past.NeedData.TheVariants as needs
use Rattle.call_fs.specs.declared.program.Port.{Port}
use Rattle.call_fs.specs.Apply.{Fits, IsReadBy}
use Rattle.send_core.specs.declared.desk.Desk.{Desk}
use Rattle.send_parts.specs.declared.row.MarkRow.TheVariants as mark
use Rattle.send_parts.specs.declared.row.Row.{Row}
use Rattle.send_parts.specs.declared.row.Row.TheVariants as at
use Rattle.todo_pass.specs.declared.row.Row.{Row as PassRow}
use Rattle.todo_pass.specs.declared.row.Row.TheVariants as todo
use Rattle.todo_pass.specs.Table.{Pass, due_at as pass_due}
use Rattle.send_core.specs.Booked.{booked_at, returned_at, routed_at}
use Rattle.send_core.specs.Desk.{ready}
use Rattle.send_core.specs.Table.{act, due_at, row_now}
use Rattle.send_jobs.specs.Bookings.{Booking}
use Rattle.send_known.specs.declared.channel.Channel.TheVariants.{Local, Remote}
use Rattle.send_parts.specs.declared.reading.Reading.TheVariants as reading
use Rattle.send_parts.specs.declared.rows.FinishRow.{FinishRow}
use Rattle.send_parts.specs.declared.rows.FinishRow.TheVariants as finish
use Rattle.send_parts.specs.declared.rows.StartRow.{StartRow}
use Rattle.send_parts.specs.declared.rows.StartRow.TheVariants as start
use Rattle.queue_law.specs.Entered.{Child}
use Rattle.queue_law.specs.Numbers.{Queue, Role, Sound}
use Rattle.queue_law.specs.Senders.{called_queue}
use Rattle.program_law.specs.Sender.Stands.{SenderLeads, SenderStands, StandsAt}
use Rattle.program_law.specs.Sender.Takings.{AllLead, LeadsThrough, booked_queue, number_of, one_more}
use Rattle.program_law.specs.Sender.Takings.LeadsThrough.{Goes, Stays}
use Rattle.program_law.proofs.Sender.Arrive.{arrived}
use Rattle.program_law.proofs.Sender.Entries.{takings}
use Rattle.program_law.proofs.Sender.Gone.{files_go}
use Rattle.program_law.proofs.Sender.Passes.{opens}
use Rattle.program_law.proofs.Sender.Requests.{requests}
use Rattle.program_law.proofs.Sender.Scan.{scans}
use Rattle.program_law.proofs.Sender.Writes.{marks}
use Rattle.program_law.specs.Sender.Whole.{IsTold, SenderTakes, SendersKeep}
use Rattle.program_law.proofs.Sender.Controls.{control_calls}
use Rattle.program_law.proofs.Sender.Finishing.{finish_gives, finish_starts, finish_takes, finishes}
use Rattle.program_law.proofs.Sender.NoteDue.{note_gives, note_takes}
use Rattle.program_law.proofs.Sender.Programs.{starts_of}
use Rattle.program_law.proofs.Sender.Starting.{no_gives, start_takes}
use Rattle.program_law.proofs.Sender.Sweeping.{sweep_gives, sweep_takes, sweeps}
use Rattle.program_law.proofs.Sender.Todos.{finds, todo_calls, todo_gives, todo_takes}

-- what comes first of each channel is addressed anew, and nothing else changes
ready_stands : (now : ℕ) (q : Queue) (a : List ℕ) (d : Desk) → SenderStands now q a d → SenderStands now q a (ready d)
ready_stands now q a d h = h

ready_leads : (now : ℕ) (a : List ℕ) (q r : Queue) (d : Desk) → SenderLeads now a q r d → SenderLeads now a q r (ready d)
ready_leads now a q r d h = record { number = h.number; closed = h.closed; leads = h.leads; stands = ready_stands now r a d h.stands }

-- what a finish gives enters nothing
return_quiet : (row : ReturnRow) (r : Returning) (n : ℕ) (notes : List ℕ) (port : Port) (bytes : List ℕ) (came : GotData) → return_due_at row r ≡ needs.Give port bytes
    → returned_at row n notes came ≡ []
return_quiet (back.CloseNotes fd) r n notes port bytes came due = absurd (cc)
return_quiet (back.Await pid) r n notes port bytes came due = absurd (cc)
return_quiet back.Discard r n notes port bytes came due = absurd (cc)
return_quiet row r n notes port bytes came due = refl

finish_quiet : (row : FinishRow) (n : ℕ) (d : Desk) (port : Port) (bytes : List ℕ) (came : GotData) → due_at (at.Finish row n) d ≡ needs.Give port bytes
    → booked_at (at.Finish row n) came d ≡ []
finish_quiet finish.Return n d port bytes came due = return_quiet d.bounce.row d.bounce n d.bounce.notes port bytes came due
finish_quiet row n d port bytes came due = refl

-- nor does a pass, except as it gives its command
pass_quiet : (row : PassRow) (p : Pass) (call : CallData) → pass_due row p ≡ needs.File call → routed_at row p.n ≡ []
pass_quiet todo.Give p call due = absurd (cc)
pass_quiet row p call due = refl

pass_takes : (row : PassRow) (p : Pass) (port : Port) → pass_due row p ≡ needs.Take port → routed_at row p.n ≡ []
pass_takes todo.Give p port due = absurd (cc)
pass_takes row p port due = refl

module _ (now : ℕ) (q : Queue) (a : List ℕ) (child : Option Child) where
  -- a file call that is due at a row
  module _ (G : Sound q) (read : ℕ) (soon : read ≤ now) (call : CallData) (told : Told) (wrote : ℕ) (fits : Fits q.disk call told.answer wrote)
      (by : IsReadBy q.disk call told) where
    abbrev Leads : Row → Desk → Type 0
    Leads row d = (role : ℕ → Role) × SenderLeads now a q (booked_queue child d.book.controls (booked_at row (Answered told) d) (called_queue q a read call told.answer wrote role)) (act row read (Answered told) d)

    start_calls : (row : StartRow) (d : Desk) → StandsAt now q a (at.Start row) d → due_at (at.Start row) d ≡ needs.File call
        → Leads (at.Start row) d
    start_calls (start.Control f g) d h due = (q.role, control_calls now q a G f g d read call told wrote h due fits)
    start_calls (start.Scan split) d h due = (q.role, scans now q a G d read wrote (start.Scan split) call told tt h due fits by)
    start_calls (start.StatTodo split n) d h due = (q.role, scans now q a G d read wrote (start.StatTodo split n) call told tt h due fits by)
    start_calls (start.ReadInfo split n g) d h due = (q.role, scans now q a G d read wrote (start.ReadInfo split n g) call told tt h due fits by)
    start_calls (start.StatInfo split n) d h due = (q.role, scans now q a G d read wrote (start.StatInfo split n) call told tt h due fits by)
    start_calls (start.StatLocal split n birth) d h due = (q.role, scans now q a G d read wrote (start.StatLocal split n birth) call told tt h due fits by)
    start_calls (start.StatRemote split n birth local) d h due = (q.role, scans now q a G d read wrote (start.StatRemote split n birth local) call told tt h due fits by)
    start_calls row d h due = absurd (cc)

    calls_at : (row : Row) (d : Desk) → StandsAt now q a row d → due_at row d ≡ needs.File call → Leads row d
    calls_at (at.Start row) d h due = start_calls row d h due
    calls_at (at.Mark row m) d h due = marks now q a child G m d read told wrote row call h due fits by
    calls_at (at.UnlinkFile ch n p) d h due = (q.role, files_go now q a G ch n p d read call told wrote h due fits)
    calls_at (at.ReadFile ch n begun g) d h due = (q.role, opens now q a G ch n begun g d read call told wrote h due fits by)
    calls_at (at.FindTodo search) d h due = (q.role, finds now q a G search d read call told wrote h due fits)
    calls_at at.InTodo d h due =
        subst (λ (es : List Booking). (role : ℕ → Role) × SenderLeads now a q (booked_queue child d.book.controls es (called_queue q a read call told.answer wrote role)) (act at.InTodo read (Answered told) d))
        (sym (pass_quiet d.pass.row d.pass call due)) (todo_calls now q a G d read call told wrote h due fits by)
    calls_at (at.Finish row n) d h due = (q.role, finishes now q a child G row n d read call told wrote h due fits by)
    calls_at (at.Sweep row) d h due = (q.role, sweeps now q a G row d read call told wrote soon h due fits)
    calls_at (at.TakeLink Local) d h due = absurd (cc)
    calls_at (at.Request Local) d h due = absurd (cc)
    calls_at row d h due = absurd (cc)

  abbrev Takes : Row → ℕ → GotData → Desk → Type 0
  Takes row read came d = SenderTakes now a q (booked_queue child d.book.controls (booked_at row came d) q) (act row read came d)

  -- one that enters nothing
  enters_none : (next : Desk) → Sound q → SenderStands now q a next → SenderTakes now a q q next
  enters_none next G h = record { leads = Stays q; sound = G; stands = h }

  gives_at : Sound q → (row : Row) (d : Desk) (read : ℕ) (port : Port) (bytes : List ℕ) (came : GotData) → StandsAt now q a row d → due_at row d ≡ needs.Give port bytes
      → Takes row read came d
  gives_at G (at.Request Local) d read port bytes came h due = enters_none (act (at.Request Local) read came d) G (requests now q a Local d read came h).stands
  gives_at G (at.Request Remote) d read port bytes came h due = enters_none (act (at.Request Remote) read came d) G (requests now q a Remote d read came h).stands
  gives_at G at.InTodo d read port bytes came h due = todo_gives now q a G child d read port bytes came h due
  gives_at G (at.Finish row n) d read port bytes came h due =
      subst (λ (es : List Booking). SenderTakes now a q (booked_queue child d.book.controls es q) (act (at.Finish row n) read came d)) (sym (finish_quiet row n d port bytes came due))
      (enters_none (act (at.Finish row n) read came d) G (finish_gives now q a row n d read port bytes came h due))
  gives_at G (at.Sweep row) d read port bytes came h due = enters_none (act (at.Sweep row) read came d) G (sweep_gives now q a row d read port bytes came h due)
  gives_at G (at.Start row) d read port bytes came h due = absurd (no_gives row d port bytes due)
  gives_at G (at.Turn p) d read port bytes came h due = absurd (cc)
  gives_at G (at.TakeLink Local) d read port bytes came h due = absurd (cc)
  gives_at G (at.TakeLink Remote) d read port bytes came h due = absurd (cc)
  gives_at G (at.Mark mark.Note m) d read port bytes came h due = absurd (cc)
  gives_at G (at.Mark mark.Noting m) d read port bytes came h due = absurd (note_gives d.note.row d.note port bytes due)
  gives_at G (at.Mark mark.Open m) d read port bytes came h due = absurd (cc)
  gives_at G (at.Mark (mark.Write fd) m) d read port bytes came h due = absurd (cc)
  gives_at G (at.Mark (mark.Close fd w) m) d read port bytes came h due = absurd (cc)
  gives_at G (at.UnlinkFile ch n p) d read port bytes came h due = absurd (cc)
  gives_at G (at.ReadFile ch n begun reading.Opening) d read port bytes came h due = absurd (cc)
  gives_at G (at.ReadFile ch n begun (reading.Going fd)) d read port bytes came h due = absurd (cc)
  gives_at G (at.ReadFile ch n begun (reading.Closing fd)) d read port bytes came h due = absurd (cc)
  gives_at G (at.ReadFile ch n begun (reading.Shutting fd)) d read port bytes came h due = absurd (cc)
  gives_at G (at.FindTodo search) d read port bytes came h due = absurd (cc)
  gives_at G (at.Ended status) d read port bytes came h due = absurd (cc)

  through : (by : Controls) (es : List Booking) (r : Queue) → AllLead now a child by es r → LeadsThrough now a r (booked_queue child by es r)
  through by [] r l = Stays r
  through by (e ∷ es) r l = Goes r (one_more child by e r) (booked_queue child by es (one_more child by e r)) (number_of e) l.0 l.1 (through by es (one_more child by e r) l.2)

  takes_at : (row : Row) (d : Desk) (read : ℕ) (port : Port) (came : GotData) → Sound q → StandsAt now q a row d → due_at row d ≡ needs.Take port
      → IsTold now child q row came d → Takes row read came d
  takes_at (at.TakeLink ch) d read port came G h due told =
      let w = takings now a child q ch d read came G h in
      record { leads = through d.book.controls (booked_at (at.TakeLink ch) came d) q w.lead; sound = w.sound; stands = w.stands }
  takes_at (at.Start row) d read port came G h due told = enters_none (act (at.Start row) read came d) G (start_takes now q a row d read port came h due)
  takes_at at.InTodo d read port came G h due told =
      subst (λ (es : List Booking). SenderTakes now a q (booked_queue child d.book.controls es q) (act at.InTodo read came d)) (sym (pass_takes d.pass.row d.pass port due))
      (enters_none (act at.InTodo read came d) G (todo_takes now q a d read port came h due told))
  takes_at (at.Finish row n) d read port came G h due told =
      let w = finish_takes now q a G child row n d read port came h due told in
      record { leads = w.through; sound = w.sound; stands = w.stands }
  takes_at (at.Sweep row) d read port came G h due told = enters_none (act (at.Sweep row) read came d) G (sweep_takes now q a row d read port came h due)
  takes_at (at.Turn p) d read port came G h due told = absurd (cc)
  takes_at (at.Mark mark.Note m) d read port came G h due told = absurd (cc)
  takes_at (at.Mark mark.Noting m) d read port came G h due told = absurd (note_takes d.note.row d.note port due)
  takes_at (at.Mark mark.Open m) d read port came G h due told = absurd (cc)
  takes_at (at.Mark (mark.Write fd) m) d read port came G h due told = absurd (cc)
  takes_at (at.Mark (mark.Close fd w) m) d read port came G h due told = absurd (cc)
  takes_at (at.UnlinkFile ch n p) d read port came G h due told = absurd (cc)
  takes_at (at.ReadFile ch n begun reading.Opening) d read port came G h due told = absurd (cc)
  takes_at (at.ReadFile ch n begun (reading.Going fd)) d read port came G h due told = absurd (cc)
  takes_at (at.ReadFile ch n begun (reading.Closing fd)) d read port came G h due told = absurd (cc)
  takes_at (at.ReadFile ch n begun (reading.Shutting fd)) d read port came G h due told = absurd (cc)
  takes_at (at.Request Local) d read port came G h due told = absurd (cc)
  takes_at (at.Request Remote) d read port came G h due told = absurd (cc)
  takes_at (at.FindTodo search) d read port came G h due told = absurd (cc)
  takes_at (at.Ended status) d read port came G h due told = absurd (cc)

-- it starts only the injector of a bounce
starts_at : (now : ℕ) (q : Queue) (a : List ℕ) (row : Row) (d : Desk) (read : ℕ) (asked : ChildData) (came : GotData) → StandsAt now q a row d
    → due_at row d ≡ needs.Start asked → SenderStands now q a (act row read came d)
starts_at now q a row d read asked came h due =
    let w = starts_of d row asked due in
    let there : StandsAt now q a (at.Finish finish.Return w.n) d = subst (λ (x : Row). StandsAt now q a x d) w.at_return h in
    let due_there : due_at (at.Finish finish.Return w.n) d ≡ needs.Start asked = subst (λ (x : Row). due_at x d ≡ needs.Start asked) w.at_return due in
    subst (λ (x : Row). SenderStands now q a (act x read came d)) (sym w.at_return) (finish_starts now q a finish.Return w.n d read asked came there due_there)

pub senders_keep : SendersKeep
senders_keep = record {
  calls = λ now q a child d read found call told wrote G soon moment h due fits by.
      let row = row_now d read found in
      let there = arrived now read q a soon moment d found h in
      let w = calls_at now q a child G read soon call told wrote fits by row d there due in
      (w.0, ready_leads now a q (booked_queue child d.book.controls (booked_at row (Answered told) d) (called_queue q a read call told.answer wrote w.0)) (act row read (Answered told) d) w.1);
  gives = λ now q a child d read found port bytes came G soon moment h due.
      let row = row_now d read found in
      let w = gives_at now q a child G row d read port bytes came (arrived now read q a soon moment d found h) due in
      record { leads = w.leads; sound = w.sound; stands = ready_stands now (booked_queue child d.book.controls (booked_at row came d) q) a (act row read came d) w.stands };
  takes = λ now q a child d read found port came G soon moment h due told.
      let row = row_now d read found in
      let w = takes_at now q a child row d read port came G (arrived now read q a soon moment d found h) due told in
      record { leads = w.leads; sound = w.sound; stands = ready_stands now (booked_queue child d.book.controls (booked_at row came d) q) a (act row read came d) w.stands };
  starts = λ now q a d read found asked came soon moment h due.
      let row = row_now d read found in
      ready_stands now q a (act row read came d) (starts_at now q a row d read asked came (arrived now read q a soon moment d found h) due);
}

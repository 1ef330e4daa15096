-- The events of a sweep, over all that the sender relies on.
use Rattle.std.proofs.Common.{◌≡◌, ℕ, ◌≤◌, List, true, Some, None, refl}
use Rattle.call_fs.specs.declared.calls.CallData.{CallData}
use Rattle.call_fs.specs.declared.calls.Told.{Told}
use Rattle.call_fs.specs.declared.past.GotData.{GotData}
use Rattle.call_fs.specs.declared.past.GotData.TheVariants.{Answered}
use Rattle.call_fs.specs.declared.past.NeedData.TheVariants as needs
use Rattle.call_fs.specs.declared.program.Port.{Port}
use Rattle.call_fs.specs.Apply.{Fits}
use Rattle.send_core.specs.declared.desk.Desk.{Desk}
use Rattle.send_parts.specs.declared.row.Row.TheVariants as at
use Rattle.send_core.specs.Finish.{looked_up, sweep_at, sweep_begun}
use Rattle.send_core.specs.Table.{act, due_at, sweep_words}
use Rattle.send_parts.specs.declared.reply.Way.{Way}
use Rattle.send_parts.specs.declared.reply.Way.TheVariants as way
use Rattle.send_parts.specs.declared.rows.SweepRow.{SweepRow}
use Rattle.send_parts.specs.declared.rows.SweepRow.TheVariants as sweep
use Rattle.send_parts.specs.Replies.{Said, said}
use Rattle.send_parts.specs.Sweep.{named, sweep_given, sweep_taken, sweep_to}
use Rattle.queue_law.specs.Numbers.{Queue, Sound}
use Rattle.queue_law.specs.Senders.{called_queue}
use Rattle.program_law.specs.Sender.Rows.{HasNoMarks, SweepStands}
use Rattle.program_law.specs.Sender.Stands.{SenderLeads, SenderStands, StandsAt}
use Rattle.program_law.proofs.Sender.Closes.{none_closed}
use Rattle.program_law.proofs.Sender.Desks.{OnDesk, on_of, stand}
use Rattle.program_law.proofs.Sender.Gone.{desk_grown}
use Rattle.program_law.proofs.Sender.Passes.{grown_by}
use Rattle.program_law.proofs.Sender.Points.{sweeps_lead}
use Rattle.program_law.proofs.Sender.Turning.{over_on}

-- what a search changes of the book
named_on : (q : Queue) (w : Way) (text : List ℕ) (d : Desk) → OnDesk q d → OnDesk q (record d { book = named w text d.book })
named_on q way.Fine text d h = record { known = h.known; due = h.due; lanes = h.lanes; apart = h.apart; no_nul = h.no_nul }
named_on q way.Over text d h = record { known = h.known; due = h.due; lanes = h.lanes; apart = h.apart; no_nul = h.no_nul }
named_on q way.Absent text d h = record { known = h.known; due = h.due; lanes = h.lanes; apart = h.apart; no_nul = h.no_nul }
named_on q way.NoMemory text d h = record { known = h.known; due = h.due; lanes = h.lanes; apart = h.apart; no_nul = h.no_nul }
named_on q way.Broken text d h = record { known = h.known; due = h.due; lanes = h.lanes; apart = h.apart; no_nul = h.no_nul }

-- the desk after a step of it: only where it searches on, and whether it swept, changed
record AtSweep (now : ℕ) (q : Queue) (a : List ℕ) (row : SweepRow) (d : Desk) : Type 0 where
  on : OnDesk q d
  bare : HasNoMarks d.slots
  rests : SweepStands now q a row d.book.messages.known

searched_on : (now : ℕ) (q : Queue) (a : List ℕ) (next : SweepRow) (w : Way) (text : List ℕ) (d : Desk) → AtSweep now q a next d
    → AtSweep now q a next (record d { book = named w text d.book })
searched_on now q a next way.Fine text d h = record { on = named_on q way.Fine text d h.on; bare = h.bare; rests = h.rests }
searched_on now q a next way.Over text d h = record { on = named_on q way.Over text d h.on; bare = h.bare; rests = h.rests }
searched_on now q a next way.Absent text d h = record { on = named_on q way.Absent text d h.on; bare = h.bare; rests = h.rests }
searched_on now q a next way.NoMemory text d h = record { on = named_on q way.NoMemory text d h.on; bare = h.bare; rests = h.rests }
searched_on now q a next way.Broken text d h = record { on = named_on q way.Broken text d h.on; bare = h.bare; rests = h.rests }

begun_on : (now : ℕ) (q : Queue) (a : List ℕ) (next : SweepRow) (read : ℕ) (d : Desk) → AtSweep now q a next d
    → AtSweep now q a next (record d { swept = Some read; busy = true })
begun_on now q a next read d h = record {
  on = record { known = h.on.known; due = h.on.due; lanes = h.on.lanes; apart = h.on.apart; no_nul = h.on.no_nul };
  bare = h.bare;
  rests = h.rests;
}

still_on : (now : ℕ) (q : Queue) (a : List ℕ) (next : SweepRow) (d : Desk) → AtSweep now q a next d
    → AtSweep now q a next (record d { book = d.book })
still_on now q a next d h = record {
  on = record { known = h.on.known; due = h.on.due; lanes = h.on.lanes; apart = h.on.apart; no_nul = h.on.no_nul };
  bare = h.bare;
  rests = h.rests;
}

looked_on : (now : ℕ) (q : Queue) (a : List ℕ) (row next : SweepRow) (read : ℕ) (s : Said) (d : Desk) → AtSweep now q a next d
    → AtSweep now q a next (looked_up row s (sweep_begun row read d))
looked_on now q a sweep.First next read s d h =
    searched_on now q a next s.way s.bytes (record d { swept = Some read; busy = true }) (begun_on now q a next read d h)
looked_on now q a (sweep.Next split) next read s d h = searched_on now q a next s.way s.bytes d h
looked_on now q a (sweep.StatMess split n) next read s d h = still_on now q a next d h
looked_on now q a (sweep.StatTodo split n) next read s d h = still_on now q a next d h
looked_on now q a (sweep.StatInfo split n todo) next read s d h = still_on now q a next d h
looked_on now q a (sweep.Give split n) next read s d h = still_on now q a next d h
looked_on now q a (sweep.Take split n) next read s d h = still_on now q a next d h
looked_on now q a sweep.Over next read s d h = still_on now q a next d h
looked_on now q a sweep.Lost next read s d h = still_on now q a next d h

module _ (now : ℕ) (q : Queue) (a : List ℕ) where
  at_row : (row : SweepRow) (d : Desk) → AtSweep now q a row d → StandsAt now q a (at.Sweep row) d
  at_row row d h = stand now q a (at.Sweep row) d (λ ch. refl) h.on (h.bare, h.rests)

  next_leads : (row : SweepRow) (d : Desk) → AtSweep now q a row d → SenderStands now q a (sweep_at row d)
  next_leads sweep.First d h = at_row sweep.First d h
  next_leads (sweep.Next split) d h = at_row (sweep.Next split) d h
  next_leads (sweep.StatMess split n) d h = at_row (sweep.StatMess split n) d h
  next_leads (sweep.StatTodo split n) d h = at_row (sweep.StatTodo split n) d h
  next_leads (sweep.StatInfo split n todo) d h = at_row (sweep.StatInfo split n todo) d h
  next_leads (sweep.Give split n) d h = at_row (sweep.Give split n) d h
  next_leads (sweep.Take split n) d h = at_row (sweep.Take split n) d h
  next_leads sweep.Over d h = over_on now q a d h.on
  next_leads sweep.Lost d h = stand now q a (at.Ended 81) d (λ ch. refl) h.on tt

  on_row : (row : SweepRow) (d : Desk) → StandsAt now q a (at.Sweep row) d → OnDesk q d
  on_row row d h = on_of now q a (at.Sweep row) d (record { first = λ ch. refl; controls_read = tt }) (λ n w. w) h

module _ (now : ℕ) (q : Queue) (a : List ℕ) where
  pub sweeps : Sound q → (row : SweepRow) (d : Desk) (read : ℕ) (call : CallData) (told : Told) (wrote : ℕ) → read ≤ now → StandsAt now q a (at.Sweep row) d
      → due_at (at.Sweep row) d ≡ needs.File call → Fits q.disk call told.answer wrote
      → SenderLeads now a q (called_queue q a read call told.answer wrote q.role) (act (at.Sweep row) read (Answered told) d)
  sweeps G row d read call told wrote soon h due fits =
      let r : Queue = called_queue q a read call told.answer wrote q.role in
      let f = sweeps_lead now q a row d.book (sweep_words row d) read call told wrote G h.rests.1 soon due fits in
      let grown = desk_grown q r d (grown_by now a q r f.leads.elsewhere) (on_row now q a row d h) in
      let next : SweepRow = sweep_to row read (said (Answered told)) d.book in
      let there : AtSweep now r a next d = record { on = grown; bare = h.rests.0; rests = f.stands } in
      record {
        number = None;
        closed = none_closed now q;
        leads = f.leads;
        stands = next_leads now r a next (looked_up row (said (Answered told)) (sweep_begun row read d)) (looked_on now r a row next read (said (Answered told)) d there);
      }

  lost_on : (d : Desk) → OnDesk q d → SenderStands now q a (sweep_at sweep.Lost d)
  lost_on d h = stand now q a (at.Ended 81) d (λ ch. refl) h tt

  given_on : (split n : ℕ) (w : Way) (d : Desk) → AtSweep now q a (sweep.Give split n) d → SenderStands now q a (sweep_at (sweep_given w split n) d)
  given_on split n way.Fine d h = at_row now q a (sweep.Take split n) d (record { on = h.on; bare = h.bare; rests = tt })
  given_on split n way.Over d h = lost_on d h.on
  given_on split n way.Absent d h = lost_on d h.on
  given_on split n way.NoMemory d h = lost_on d h.on
  given_on split n way.Broken d h = lost_on d h.on

  taken_on : (split n : ℕ) (w : Way) (d : Desk) → AtSweep now q a (sweep.Take split n) d → SenderStands now q a (sweep_at (sweep_taken w split) d)
  taken_on split n way.Fine d h = at_row now q a (sweep.Next split) d (record { on = h.on; bare = h.bare; rests = tt })
  taken_on split n way.Over d h = lost_on d h.on
  taken_on split n way.Absent d h = lost_on d h.on
  taken_on split n way.NoMemory d h = lost_on d h.on
  taken_on split n way.Broken d h = lost_on d h.on

  there : (row : SweepRow) (d : Desk) → StandsAt now q a (at.Sweep row) d → AtSweep now q a row d
  there row d h = record { on = on_row now q a row d h; bare = h.rests.0; rests = h.rests.1 }

  pub sweep_gives : (row : SweepRow) (d : Desk) (read : ℕ) (port : Port) (bytes : List ℕ) (came : GotData) → StandsAt now q a (at.Sweep row) d
      → due_at (at.Sweep row) d ≡ needs.Give port bytes → SenderStands now q a (act (at.Sweep row) read came d)
  sweep_gives (sweep.Give split n) d read port bytes came h due =
      given_on split n (said came).way (looked_up (sweep.Give split n) (said came) (sweep_begun (sweep.Give split n) read d))
      (looked_on now q a (sweep.Give split n) (sweep.Give split n) read (said came) d (there (sweep.Give split n) d h))
  sweep_gives sweep.First d read port bytes came h due = absurd (cc)
  sweep_gives (sweep.Next split) d read port bytes came h due = absurd (cc)
  sweep_gives (sweep.StatMess split n) d read port bytes came h due = absurd (cc)
  sweep_gives (sweep.StatTodo split n) d read port bytes came h due = absurd (cc)
  sweep_gives (sweep.StatInfo split n todo) d read port bytes came h due = absurd (cc)
  sweep_gives (sweep.Take split n) d read port bytes came h due = absurd (cc)
  sweep_gives sweep.Over d read port bytes came h due = absurd (cc)
  sweep_gives sweep.Lost d read port bytes came h due = absurd (cc)

  pub sweep_takes : (row : SweepRow) (d : Desk) (read : ℕ) (port : Port) (came : GotData) → StandsAt now q a (at.Sweep row) d
      → due_at (at.Sweep row) d ≡ needs.Take port → SenderStands now q a (act (at.Sweep row) read came d)
  sweep_takes (sweep.Take split n) d read port came h due =
      taken_on split n (said came).way (looked_up (sweep.Take split n) (said came) (sweep_begun (sweep.Take split n) read d))
      (looked_on now q a (sweep.Take split n) (sweep.Take split n) read (said came) d (there (sweep.Take split n) d h))
  sweep_takes sweep.First d read port came h due = absurd (cc)
  sweep_takes (sweep.Next split) d read port came h due = absurd (cc)
  sweep_takes (sweep.StatMess split n) d read port came h due = absurd (cc)
  sweep_takes (sweep.StatTodo split n) d read port came h due = absurd (cc)
  sweep_takes (sweep.StatInfo split n todo) d read port came h due = absurd (cc)
  sweep_takes (sweep.Give split n) d read port came h due = absurd (cc)
  sweep_takes sweep.Over d read port came h due = absurd (cc)
  sweep_takes sweep.Lost d read port came h due = absurd (cc)

-- The events of a sender's start outside its scan, over all that the sender relies on.
use Rattle.std.proofs.Common.{◌≡◌, ℕ, List, [], ◌∷◌, min, false, Option, None, refl, arith, count_by}
use Rattle.std.specs.Prelude.{IfSome, replicate}
use Rattle.std.proofs.lemmas.List.Elements.{All-nil, All-replicate, All-weaker}
use Rattle.call_fs.specs.declared.past.GotData.{GotData}
use Rattle.call_fs.specs.declared.past.NeedData.TheVariants as needs
use Rattle.call_fs.specs.declared.program.Port.{Port}
use Rattle.send_core.specs.declared.desk.Desk.{Desk}
use Rattle.send_parts.specs.declared.row.Row.TheVariants as at
use Rattle.send_core.specs.Start.{start_at}
use Rattle.send_core.specs.Table.{act, due_at}
use Rattle.send_jobs.specs.declared.attempts.Attempt.{Attempt}
use Rattle.send_jobs.specs.declared.attempts.Mark.{Mark}
use Rattle.send_known.specs.declared.channel.Channel.{Channel}
use Rattle.send_known.specs.declared.channel.Channel.TheVariants.{Local, Remote}
use Rattle.send_jobs.specs.Lanes.{empty}
use Rattle.send_jobs.specs.Sending.{none_out}
use Rattle.send_known.specs.declared.messages.Messages.{Messages}
use Rattle.send_parts.specs.declared.reading.Reading.TheVariants as reading
use Rattle.send_parts.specs.declared.reply.Way.{Way}
use Rattle.send_parts.specs.declared.reply.Way.TheVariants as way
use Rattle.send_parts.specs.declared.rows.StartRow.{StartRow}
use Rattle.send_parts.specs.declared.rows.StartRow.TheVariants as start
use Rattle.send_parts.specs.Replies.{said}
use Rattle.send_parts.specs.Start.{greeted_local, greeted_remote, remote_limit}
use Rattle.program_law.specs.Channel.Files.{Files, IsOpen}
use Rattle.program_law.specs.Channel.Tied.{IsTied, is_slot_at}
use Rattle.program_law.specs.Channel.Tied.First.{Unwritten}
use Rattle.program_law.proofs.Channel.Counts.{counted_none}
use Rattle.queue_law.specs.Numbers.{Queue, about}
use Rattle.program_law.specs.Sender.Views.{files_of}
use Rattle.program_law.specs.Sender.Knows.{IsEntered}
use Rattle.program_law.specs.Sender.Rows.{HasNoJobs, HasNoMarks, works}
use Rattle.program_law.specs.Sender.Stands.{DueApart, SenderStands, Stands, StandsAt}
use Rattle.program_law.proofs.Sender.Apart.{IsApart}
use Rattle.program_law.proofs.Sender.Desks.{OnDesk, on_of}
use Rattle.program_law.proofs.Sender.Lanes.{OnBoth, OnLane}
use Rattle.program_law.proofs.Sender.Scan.{on_after, on_row, stands_with}

-- Nothing is out yet

none_tied : (files : Files) (n : ℕ) → IsTied files Unwritten (empty n)
none_tied files n =
    let idle : (m place : ℕ) → count_by (is_slot_at m place) (replicate {A = Option Attempt} (min n 120) None) ≡ 0 =
    λ m place. counted_none (is_slot_at m place) (replicate (min n 120) None) (All-replicate (λ s. is_slot_at m place s ≡ false) (min n 120) None refl) in
    record {
      to_come = All-nil (IsOpen files);
      in_flight = All-replicate (λ s. IfSome s (IsOpen files)) (min n 120) None tt;
      to_mark = All-nil (λ (m : Mark). IsOpen files m.attempt);
      of_one = λ a e. absurd (cc);
      once = λ m place. let zero = idle m place in omega (arith, zero);
      owned = λ m place le. absurd (let zero = idle m place in omega (arith, zero, le));
      accounted = λ m job e. absurd (cc);
    }

none_on : (q : Queue) (ch : Channel) (n : ℕ) → OnLane q ch (empty n)
none_on q ch n = record {
  tied = none_tied (files_of q ch) n;
  jobs = λ m job e. absurd (cc);
  marks = All-nil (λ (m : Mark). IsEntered (about q m.attempt.n) ch m);
}

both_none : (q : Queue) (local remote : ℕ) → OnBoth q (none_out local remote)
both_none q local remote Local = none_on q Local local
both_none q local remote Remote = none_on q Remote remote

no_marks : (local remote : ℕ) → HasNoMarks (none_out local remote)
no_marks local remote Local = refl
no_marks local remote Remote = refl

no_jobs : (local remote : ℕ) → HasNoJobs (none_out local remote)
no_jobs local remote Local = refl
no_jobs local remote Remote = refl

none_apart : (m : Messages) (local remote : ℕ) → DueApart m (none_out local remote)
none_apart m local remote Local = All-weaker (λ (e : ℕ × ℕ). Unit {0}) (IsApart []) (λ e _ some. absurd (cc)) m.local (λ k d lt. tt)
none_apart m local remote Remote = All-weaker (λ (e : ℕ × ℕ). Unit {0}) (IsApart []) (λ e _ some. absurd (cc)) m.remote (λ k d lt. tt)

-- The bytes of the spawners

module _ (now : ℕ) (q : Queue) (a : List ℕ) where
  local_on : (w : Way) (bytes : List ℕ) (d : Desk) → OnDesk q d → HasNoMarks d.slots → HasNoJobs d.slots
      → Stands now q a (start_at (greeted_local w bytes d.book).row) (greeted_local w bytes d.book) d.slots (works d)
  local_on way.Fine (byte ∷ rest) d h bare none =
      stands_with now q a d h bare none (greeted_local way.Fine (byte ∷ rest) d.book) (on_row now q a d h bare none (start.GreetRemote (min byte d.book.controls.concurrency_local)), (tt, tt))
  local_on way.Fine [] d h bare none = stands_with now q a d h bare none (greeted_local way.Fine [] d.book) (on_row now q a d h bare none (start.Ended 82), (tt, tt))
  local_on way.Over bytes d h bare none = stands_with now q a d h bare none (greeted_local way.Over bytes d.book) (on_row now q a d h bare none (start.Ended 82), (tt, tt))
  local_on way.Absent bytes d h bare none = stands_with now q a d h bare none (greeted_local way.Absent bytes d.book) (on_row now q a d h bare none (start.Ended 82), (tt, tt))
  local_on way.NoMemory bytes d h bare none = stands_with now q a d h bare none (greeted_local way.NoMemory bytes d.book) (on_row now q a d h bare none (start.Ended 82), (tt, tt))
  local_on way.Broken bytes d h bare none = stands_with now q a d h bare none (greeted_local way.Broken bytes d.book) (on_row now q a d h bare none (start.Ended 82), (tt, tt))

  remote_on : (w : Way) (bytes : List ℕ) (d : Desk) → OnDesk q d → HasNoMarks d.slots → HasNoJobs d.slots
      → Stands now q a (start_at (greeted_remote w bytes d.book).row) (greeted_remote w bytes d.book) d.slots (works d)
  remote_on way.Fine (byte ∷ rest) d h bare none =
      stands_with now q a d h bare none (greeted_remote way.Fine (byte ∷ rest) d.book) (on_after now q a d h bare none (start.Scan 0) [], (tt, tt))
  remote_on way.Fine [] d h bare none = stands_with now q a d h bare none (greeted_remote way.Fine [] d.book) (on_row now q a d h bare none (start.Ended 83), (tt, tt))
  remote_on way.Over bytes d h bare none = stands_with now q a d h bare none (greeted_remote way.Over bytes d.book) (on_row now q a d h bare none (start.Ended 83), (tt, tt))
  remote_on way.Absent bytes d h bare none = stands_with now q a d h bare none (greeted_remote way.Absent bytes d.book) (on_row now q a d h bare none (start.Ended 83), (tt, tt))
  remote_on way.NoMemory bytes d h bare none = stands_with now q a d h bare none (greeted_remote way.NoMemory bytes d.book) (on_row now q a d h bare none (start.Ended 83), (tt, tt))
  remote_on way.Broken bytes d h bare none = stands_with now q a d h bare none (greeted_remote way.Broken bytes d.book) (on_row now q a d h bare none (start.Ended 83), (tt, tt))

  pub start_takes : (row : StartRow) (d : Desk) (read : ℕ) (port : Port) (came : GotData) → StandsAt now q a (at.Start row) d → due_at (at.Start row) d ≡ needs.Take port
      → SenderStands now q a (act (at.Start row) read came d)
  start_takes start.GreetLocal d read port came h due =
      let on = on_of now q a (at.Start start.GreetLocal) d (record { first = λ ch. refl; controls_read = tt }) (λ n w. w) h in
      local_on (said came).way (said came).bytes d on h.rests.0 h.rests.1.0
  start_takes (start.GreetRemote limit) d read port came h due =
      let on = on_of now q a (at.Start (start.GreetRemote limit)) d (record { first = λ ch. refl; controls_read = tt }) (λ n w. w) h in
      let remote : ℕ = remote_limit (said came).bytes d.book.controls in
      let e : Desk = record d { slots = none_out limit remote } in
      let there : OnDesk q e = record { known = on.known; due = on.due; lanes = both_none q limit remote; apart = none_apart d.book.messages limit remote; no_nul = on.no_nul } in
      remote_on (said came).way (said came).bytes e there (no_marks limit remote) (no_jobs limit remote)
  start_takes (start.Control f reading.Opening) d read port came h due = absurd (cc)
  start_takes (start.ReadInfo split n reading.Opening) d read port came h due = absurd (cc)
  start_takes row d read port came h due = absurd (cc)

-- nothing is given in the start
pub no_gives : (row : StartRow) (d : Desk) (port : Port) (bytes : List ℕ) → due_at (at.Start row) d ≡ needs.Give port bytes → ⊥
no_gives (start.Control f reading.Opening) d port bytes due = absurd (cc)
no_gives (start.ReadInfo split n reading.Opening) d port bytes due = absurd (cc)
no_gives row d port bytes due = absurd (cc)

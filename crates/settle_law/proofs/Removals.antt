-- A message that the cleaner was told to remove has no info file.
use Rattle.std.proofs.Common.{◌≡◌, ⊎_elim, ℕ, List, None, refl, sym, ap, ◌∙◌, subst}
use Rattle.call_fs.specs.Program.{MayCome}
use Rattle.call_fs.specs.declared.past.GotData.{GotData}
use Rattle.call_fs.specs.declared.past.GotData.TheVariants as came
use Rattle.call_fs.specs.declared.past.NeedData.{NeedData}
use Rattle.call_fs.specs.declared.past.NeedData.TheVariants as needs
use Rattle.call_fs.specs.declared.program.Port.TheVariants as port
use Rattle.call_fs.specs.declared.program.Ready.{Ready}
use Rattle.program_law.proofs.Sender.Awaits.{arrives, gives}
use Rattle.program_law.proofs.Sender.Frees.{free}
use Rattle.program_law.specs.Errand.Errands.{Awaits}
use Rattle.program_law.specs.Errand.Errands.Awaits.{Answer, Nothing, Over}
use Rattle.program_law.specs.Sender.Stands.{StandsAt}
use Rattle.program_law.specs.Sender.Waits.{GivesAt, IsGive, IsPassGive, awaits, awaits_at, awaits_in}
use Rattle.queue_clean.specs.declared.command.Command.{Command}
use Rattle.queue_clean.specs.declared.command.Command.TheVariants.{Foop, Todo}
use Rattle.queue_law.specs.Numbers.{Queue, look}
use Rattle.queue_paths.specs.Names.Name.{Of}
use Rattle.queue_paths.specs.Names.Part.{Info}
use Rattle.send_core.specs.Table.{due_at, moved_by, row_now}
use Rattle.send_core.specs.declared.desk.Desk.{Desk}
use Rattle.send_parts.specs.declared.row.Row.{Row}
use Rattle.send_parts.specs.declared.row.Row.TheVariants as at
use Rattle.send_parts.specs.declared.reading.Reading.TheVariants.{Closing, Going, Opening, Shutting}
use Rattle.send_parts.specs.declared.rows.FinishRow.TheVariants as finish
use Rattle.send_parts.specs.declared.rows.StartRow.{StartRow}
use Rattle.send_parts.specs.declared.rows.StartRow.TheVariants as start
use Rattle.send_parts.specs.declared.rows.SweepRow.TheVariants as sweep
use Rattle.todo_pass.specs.declared.row.Row.{Row as PassRow}
use Rattle.todo_pass.specs.declared.row.Row.TheVariants as todo
use Rattle.todo_pass.specs.Table.{Pass}
use Rattle.settle_law.specs.inside.Met.{Removes, Shows}

-- What the sender waits for tells that

removes_awaits : (row : Row) (p : Pass) (n : ℕ) → Removes row n → awaits_at row p ≡ Answer (Foop n)
removes_awaits (at.Finish finish.Take m) p n same = ap (λ (k : ℕ). Answer (Foop k)) same
removes_awaits (at.Sweep (sweep.Take dir m)) p n same = ap (λ (k : ℕ). Answer (Foop k)) same
removes_awaits row p n h = absurd h

pass_awaits : {A : Type 0} (row : PassRow) (m n : ℕ) → awaits_in row m ≡ Answer (Foop n) → A
pass_awaits todo.Answer m n e = absurd (cc)
pass_awaits row m n e = absurd (cc)

awaits_removes : (row : Row) (p : Pass) (n : ℕ) → awaits_at row p ≡ Answer (Foop n) → Removes row n
awaits_removes at.InTodo p n e = pass_awaits p.row p.n n e
awaits_removes (at.Finish finish.Take m) p n e = cc
awaits_removes (at.Sweep (sweep.Take dir m)) p n e = cc
awaits_removes row p n e = absurd (cc)

pub arrived_removes : (d : Desk) (now : ℕ) (ready : Ready) (n : ℕ) → Removes (row_now d now ready) n → Removes d.row n
arrived_removes d now ready n h = awaits_removes d.row d.pass n (sym (arrives d.row d now ready) ∙ removes_awaits (row_now d now ready) d.pass n h)

-- So none is removed after an event at which no command is given
pub none_removed : (d : Desk) (read : ℕ) (ready : Ready) (n : ℕ) (got : GotData) → ((text : List ℕ) → due_at (row_now d read ready) d ≡ needs.Give port.Clean text → ⊥)
    → Removes (moved_by (row_now d read ready) read got d).row n → ⊥
none_removed d read ready n got none h =
    let next : Desk = moved_by (row_now d read ready) read got d in
    let is : awaits next ≡ Answer (Foop n) = removes_awaits next.row next.pass n h in
    ⊎_elim
    (λ (e : awaits next ≡ Nothing). let bad : Nothing ≡ Answer (Foop n) = sym e ∙ is in cc)
    (λ (e : awaits next ≡ Over). let bad : Over ≡ Answer (Foop n) = sym e ∙ is in cc)
    (free d read ready got none)

-- The command is given only where the file is gone

module _ (now : ℕ) (q : Queue) (a : List ℕ) (d : Desk) (read : ℕ) (ready : Ready) where
  abbrev row : Row
  row = row_now d read ready

  pass_given : {A : Type 0} (r : PassRow) (m n : ℕ) (command : Command) → IsPassGive r m command → command ≡ Foop n → A
  pass_given todo.Give m n command is same = absurd (let bad : Todo m ≡ Foop n = sym is ∙ same in cc)
  pass_given r m n command is same = absurd is

  given_gone : (r : Row) → StandsAt now q a r d → (n : ℕ) (command : Command) → IsGive r d.pass command → command ≡ Foop n → look q (Of Info n) ≡ None
  given_gone at.InTodo st n command is same = pass_given d.pass.row d.pass.n n command is same
  given_gone (at.Finish finish.Give m) st n command is same =
      let one : m ≡ n = (let both : Foop m ≡ Foop n = sym is ∙ same in cc) in subst (λ (k : ℕ). look q (Of Info k) ≡ None) one (st.rests.1.1.rest.unsorted Info refl)
  given_gone (at.Sweep (sweep.Give dir m)) st n command is same =
      let one : m ≡ n = (let both : Foop m ≡ Foop n = sym is ∙ same in cc) in subst (λ (k : ℕ). look q (Of Info k) ≡ None) one (st.rests.1.1.0.rest.unsorted Info refl)
  given_gone r st n command is same = absurd is

  abbrev Given : ℕ → Type 0
  Given n = (text : List ℕ) × (due_at row d ≡ needs.Give port.Clean text) × (look q (Of Info n) ≡ None)

  same_command : (x y : Command) → ◌≡◌ {A = Awaits} (Answer x) (Answer y) → x ≡ y
  same_command x y e = cc

  module _ (st : StandsAt now q a row d) (n : ℕ) where
    gave : (text : List ℕ) → due_at row d ≡ needs.Give port.Clean text → (got : GotData) → MayCome (needs.Give port.Clean text) got → Removes (moved_by row read got d).row n → Given n
    gave text e came.Gave may h =
        let w : GivesAt row d text = gives d row text e in
        (text, e, given_gone row st n w.command w.is (same_command w.command (Foop n) (sym (w.given read) ∙ removes_awaits (moved_by row read came.Gave d).row (moved_by row read came.Gave d).pass n h)))
    gave text e came.Failed may h =
        let w : GivesAt row d text = gives d row text e in
        absurd (let bad : Over ≡ Answer (Foop n) = sym (w.failed read) ∙ removes_awaits (moved_by row read came.Failed d).row (moved_by row read came.Failed d).pass n h in cc)
    gave text e got may h = absurd may

    by_due : (due : NeedData) → due_at row d ≡ due → (got : GotData) → MayCome due got → Removes (moved_by row read got d).row n → Given n
    by_due (needs.Give port.Clean text) e got may h = gave text e got may h
    by_due due e got may h = absurd (none_removed d read ready n got (λ text g. let same : due ≡ needs.Give port.Clean text = sym e ∙ g in cc) h)

    pub removed_gone : (got : GotData) → MayCome (due_at row d) got → Removes (moved_by row read got d).row n → Given n
    removed_gone got may h = by_due (due_at row d) refl got may h

-- The start of a child removes none, and shows nothing

started_scan : (row : StartRow) (d : Desk) (n pid : ℕ) → MayCome (due_at (at.Start row) d) (came.Started pid) → Shows (at.Start row) d (came.Started pid) n
started_scan (start.Scan dir) d n pid may = absurd may
started_scan (start.StatTodo dir m) d n pid may = absurd may
started_scan (start.ReadInfo dir m Opening) d n pid may = absurd may
started_scan (start.ReadInfo dir m (Going fd)) d n pid may = absurd may
started_scan (start.ReadInfo dir m (Closing fd)) d n pid may = absurd may
started_scan (start.ReadInfo dir m (Shutting fd)) d n pid may = absurd may
started_scan (start.StatInfo dir m) d n pid may = absurd may
started_scan other d n pid may = tt

pub started_shows : (row : Row) (d : Desk) (n pid : ℕ) → MayCome (due_at row d) (came.Started pid) → Shows row d (came.Started pid) n
started_shows (at.Start r) d n pid may = started_scan r d n pid may
started_shows (at.Finish finish.Take m) d n pid may = absurd may
started_shows (at.Sweep (sweep.Take dir m)) d n pid may = absurd may
started_shows other d n pid may = λ h. h

-- A sender opens a bounce file to return what it holds only where no channel file is left.
use Rattle.address_rules.specs.declared.controls.Controls.{Controls}
use Rattle.std.proofs.Common.{◌≡◌, ℕ, List, [], ◌++◌, false, None, ap, ◌∙◌, subst, codes, arith}
use Rattle.std.proofs.lemmas.List.Elements.{All-contains}
use Rattle.address_rules.specs.Files.{name as file_name}
use Rattle.bounce_record.specs.declared.note_row.NoteRow.{NoteRow}
use Rattle.bounce_record.specs.declared.note_row.NoteRow.TheVariants as written
use Rattle.bounce_record.specs.declared.return_row.ReturnRow.{ReturnRow}
use Rattle.bounce_record.specs.declared.return_row.ReturnRow.TheVariants as back
use Rattle.bounce_record.specs.Returning.{Returning, due_at as return_due_at}
use Rattle.bounce_record.specs.Writing.{Writing, due_at as note_due_at}
use Rattle.call_fs.specs.declared.calls.CallData.TheVariants as call
use Rattle.call_fs.specs.declared.calls.How.TheVariants as how
use Rattle.call_fs.specs.declared.past.NeedData.{NeedData}
use Rattle.call_fs.specs.declared.past.NeedData.TheVariants as needs
use Rattle.queue_paths.proofs.Paths.{path_injective}
use Rattle.queue_paths.specs.declared.names.Name.{Name as Owned}
use Rattle.queue_paths.specs.declared.names.Name.TheVariants as owned
use Rattle.queue_paths.specs.Names.{Part, name_of, path}
use Rattle.queue_paths.specs.Names.Name.{Of}
use Rattle.queue_paths.specs.Names.Part.{Bounce, Mess, Todo}
use Rattle.send_core.specs.declared.desk.Desk.{Desk}
use Rattle.send_parts.specs.declared.row.MarkRow.TheVariants as mark
use Rattle.send_parts.specs.declared.row.Row.{Row}
use Rattle.send_parts.specs.declared.row.Row.TheVariants as at
use Rattle.send_core.specs.Table.{due_at, file_of, start_words}
use Rattle.send_known.specs.declared.channel.Channel.{Channel}
use Rattle.send_known.specs.declared.channel.Channel.TheVariants.{Local, Remote}
use Rattle.send_known.specs.declared.known.Known.{Known}
use Rattle.send_parts.specs.declared.reading.Reading.{Reading}
use Rattle.send_parts.specs.declared.reading.Reading.TheVariants.{Opening, Going, Closing, Shutting}
use Rattle.send_parts.specs.declared.rows.FinishRow.TheVariants as finish
use Rattle.send_parts.specs.declared.rows.StartRow.{StartRow}
use Rattle.send_parts.specs.declared.rows.StartRow.TheVariants as start
use Rattle.send_parts.specs.declared.rows.SweepRow.{SweepRow}
use Rattle.send_parts.specs.declared.rows.SweepRow.TheVariants as sweep
use Rattle.send_parts.specs.declared.step.Step.{Step}
use Rattle.send_parts.specs.declared.step.Step.TheVariants as step
use Rattle.send_parts.specs.Readings.{reading_step}
use Rattle.send_parts.specs.Rows.{start_step, sweep_step}
use Rattle.send_parts.specs.Steps.{control_text, due_by}
use Rattle.todo_pass.specs.declared.row.Row.{Row as PassRow}
use Rattle.todo_pass.specs.declared.row.Row.TheVariants as todo
use Rattle.todo_pass.specs.Table.{Pass, due_at as pass_due}
use Rattle.queue_law.specs.Numbers.{About, Queue, about}
use Rattle.queue_law.specs.Routes.{lane_part}
use Rattle.program_law.specs.Sender.Knows.{IsLeaving, Knows, has_file}
use Rattle.program_law.specs.Sender.Knows.Knows.{Stays, Leaves}
use Rattle.program_law.specs.Sender.Rows.{ReturnHolds}
use Rattle.program_law.specs.Sender.Stands.{StandsAt}
use Rattle.world_law.proofs.Marks.{both}

-- the call by which it is opened
abbrev pub opening : ℕ → NeedData
opening n = needs.File (call.Open (path (Of Bounce n)) how.Read)

-- Which step makes it

same_name : (name : Owned) (n : ℕ) → path (name_of name) ≡ path (Of Bounce n) → name ≡ owned.Bounce n
same_name name n e = by name (path_injective (name_of name) (Of Bounce n) e) where
  by : (name : Owned) → name_of name ≡ Of Bounce n → name ≡ owned.Bounce n
  by (owned.Bounce m) is = let same : m ≡ n = cc in ap owned.Bounce same
  by row is = absurd (cc)

other_letter : ◌≡◌ {A = ℕ} 99 98 → ⊥
other_letter e = absurd (omega (arith, e))

no_control : (text : List ℕ) (n : ℕ) → codes "control/" ++ text ≡ path (Of Bounce n) → ⊥
unfolding path
no_control text n e = other_letter (both 99 98 _ _ e).0

abbrev IsOpening : Step → ℕ → Type 0
IsOpening s n = s ≡ step.Open (owned.Bounce n) how.Read

step_is : (s : Step) (bytes : List ℕ) (n : ℕ) → due_by s bytes ≡ opening n → IsOpening s n
step_is (step.Open name mode) bytes n e =
    let text : path (name_of name) ≡ path (Of Bounce n) = cc in
    let same : mode ≡ how.Read = cc in
    ap (λ (name : Owned). step.Open name mode) (same_name name n text) ∙ ap (step.Open (owned.Bounce n)) same
step_is (step.OpenControl file) bytes n e = let text : control_text file ≡ path (Of Bounce n) = cc in absurd (no_control (file_name file) n text)
step_is row bytes n e = absurd (cc)

-- At which row

reads_none : (reading : Reading) (first : Step) (place n : ℕ) → (IsOpening first n → ⊥) → IsOpening (reading_step reading first place) n → ⊥
reads_none Opening first place n none e = none e
reads_none (Going fd) first place n none e = absurd (cc)
reads_none (Closing fd) first place n none e = absurd (cc)
reads_none (Shutting fd) first place n none e = absurd (cc)

starts_none : (row : StartRow) (read n : ℕ) → IsOpening (start_step row read) n → ⊥
starts_none (start.Control file reading) read n e = reads_none reading (step.OpenControl file) read n (λ f. absurd (cc)) e
starts_none (start.ReadInfo split m reading) read n e = reads_none reading (step.Open (owned.Info m) how.Read) read n (λ f. absurd (cc)) e
starts_none row read n e = absurd (cc)

sweeps_none : (row : SweepRow) (n : ℕ) → IsOpening (sweep_step row) n → ⊥
sweeps_none sweep.First n e = absurd (cc)
sweeps_none (sweep.Next split) n e = absurd (cc)
sweeps_none (sweep.StatMess split m) n e = absurd (cc)
sweeps_none (sweep.StatTodo split m) n e = absurd (cc)
sweeps_none (sweep.StatInfo split m todo) n e = absurd (cc)
sweeps_none (sweep.Give split m) n e = absurd (cc)
sweeps_none (sweep.Take split m) n e = absurd (cc)
sweeps_none sweep.Over n e = absurd (cc)
sweeps_none sweep.Lost n e = absurd (cc)

lane_none : (ch : Channel) (m n : ℕ) → IsOpening (step.Open (file_of ch m) how.Read) n → ⊥
lane_none Local m n e = absurd (cc)
lane_none Remote m n e = absurd (cc)

no_other : (part : Part) (m n : ℕ) → (part ≡ Bounce → ⊥) → path (Of part m) ≡ path (Of Bounce n) → ⊥
no_other part m n apart e = let w = path_injective (Of part m) (Of Bounce n) e in apart (cc)

pass_none : (row : PassRow) (p : Pass) (n : ℕ) → pass_due row p ≡ opening n → ⊥
pass_none todo.OpenTodo p n e = no_other Todo p.n n (λ f. absurd (cc)) (cc)
pass_none row p n e = absurd (cc)

note_none : (row : NoteRow) (w : Writing) (n : ℕ) → note_due_at row w ≡ opening n → ⊥
note_none written.Open w n e = absurd (cc)
note_none written.Create w n e = absurd (cc)
note_none (written.Stat fd) w n e = absurd (cc)
note_none (written.Read fd place len) w n e = absurd (cc)
note_none (written.Append fd done) w n e = absurd (cc)
note_none (written.Sync fd) w n e = absurd (cc)
note_none (written.Close fd) w n e = absurd (cc)
note_none (written.Shut fd) w n e = absurd (cc)
note_none written.Written w n e = absurd (cc)
note_none written.Failed w n e = absurd (cc)

-- a return that is under way has opened it
return_none : (controls : Controls) (q : Queue) (a : List ℕ) (row : ReturnRow) (r : Returning) (m n : ℕ) (sender : List ℕ) → ReturnHolds controls q a row r m sender → return_due_at row r ≡ opening n → ⊥
return_none controls q a back.Open r m n sender h e = h
return_none controls q a back.OpenMessage r m n sender h e = no_other Mess r.n n (λ f. absurd (cc)) (cc)
return_none controls q a row r m n sender h e = absurd (cc)

-- What the sender knows there

gone_by : (row : Row) (w : About) (k : Known) → (IsLeaving row k.n → ⊥) → Knows row w k → (ch : Channel) → has_file ch k ≡ false → w.parts (lane_part ch) ≡ None
gone_by row w k stays (Stays it) ch e = it.gone ch e
gone_by row w k stays (Leaves it) ch e = absurd (stays it)

module _ (now : ℕ) (q : Queue) (a : List ℕ) (d : Desk) (n : ℕ) where
  abbrev AreGone : Type 0
  AreGone = (ch : Channel) → (about q n).parts (lane_part ch) ≡ None

  finish_gone : (m : ℕ) → m ≡ n → StandsAt now q a (at.Finish finish.OpenBounce m) d → AreGone
  finish_gone m same h ch =
      let idle = h.rests.1 in
      let k = idle.it in
      let knows = All-contains (λ (k : Known). Knows (at.Finish finish.OpenBounce m) (about q k.n) k) d.book.messages.known k h.knows.known idle.there in
      subst (λ (i : ℕ). (about q i).parts (lane_part ch) ≡ None) (idle.number ∙ same)
      (gone_by (at.Finish finish.OpenBounce m) (about q k.n) k (λ leaves. leaves.0) knows ch (idle.none ch))

  row_gone : (row : Row) → StandsAt now q a row d → due_at row d ≡ opening n → AreGone
  row_gone (at.Finish finish.OpenBounce m) h e =
      let is = step_is (step.Open (owned.Bounce m) how.Read) [] n e in
      let same : m ≡ n = cc in finish_gone m same h
  row_gone (at.Finish finish.Return m) h e = absurd (return_none d.book.controls q a d.bounce.row d.bounce m n _ h.rests.1.holds e)
  row_gone (at.Start row) h e = absurd (starts_none row _ n (step_is (start_step row _) (start_words row d) n e))
  row_gone (at.Mark mark.Noting m) h e = absurd (note_none d.note.row d.note n e)
  row_gone (at.ReadFile ch m begun reading) h e =
      absurd (reads_none reading (step.Open (file_of ch m) how.Read) _ n (lane_none ch m n) (step_is (reading_step reading (step.Open (file_of ch m) how.Read) _) [] n e))
  row_gone at.InTodo h e = absurd (pass_none d.pass.row d.pass n e)
  row_gone (at.Sweep row) h e = absurd (sweeps_none row n (step_is (sweep_step row) _ n e))
  row_gone row h e = absurd (cc)

pub channels_are_gone : (now : ℕ) (q : Queue) (a : List ℕ) (d : Desk) (n : ℕ) (row : Row) → StandsAt now q a row d → due_at row d ≡ opening n
    → (ch : Channel) → (about q n).parts (lane_part ch) ≡ None
channels_are_gone now q a d n row h e = row_gone now q a d n row h e

-- What an event of a sender leaves of preprocessed messages, and what it shows of them.
use Rattle.std.proofs.Common.{◌≡◌, ◌≢◌, inl, inr, ◌<◌, ◌≤◌, ◌^◌, ℕ, List, ◌∷◌, ◌++◌, length, Bool, true, false, Option, Some, None, refl, sym, ap, ◌∙◌, subst}
use Rattle.std.specs.Cmp.Lexicographic.{slice_cmp}
use Rattle.std.specs.Ordering.{is_gt, nat_cmp}
use Rattle.std.specs.Prelude.{IsSome, is_some, if◌then◌else◌, nat_lt}
use Rattle.std.specs.declared.cmp.Ordering.{Ordering}
use Rattle.std.specs.declared.cmp.Ordering.TheVariants.{Equal, Greater, Less}
use Rattle.bounce_record.specs.Returning.{Returning, due_at as return_due_at}
use Rattle.bounce_record.specs.Writing.{Writing, due_at as note_due_at}
use Rattle.bounce_record.specs.declared.note_row.NoteRow.TheVariants as written
use Rattle.bounce_record.specs.declared.note_row.NoteRow.{NoteRow}
use Rattle.bounce_record.specs.declared.return_row.ReturnRow.TheVariants as back
use Rattle.bounce_record.specs.declared.return_row.ReturnRow.{ReturnRow}
use Rattle.call_fs.specs.Apply.{Fits, StandsAfter}
use Rattle.call_fs.specs.Program.{MayCome}
use Rattle.call_fs.specs.declared.calls.Answer.TheVariants as answer
use Rattle.call_fs.specs.declared.calls.Answer.{Answer}
use Rattle.call_fs.specs.declared.calls.CallData.TheVariants as call
use Rattle.call_fs.specs.declared.calls.Fd.{Fd}
use Rattle.call_fs.specs.declared.calls.FsError.TheVariants as why
use Rattle.call_fs.specs.declared.file_system.TheConstants.{PIECE}
use Rattle.call_fs.specs.declared.calls.How.TheVariants as how
use Rattle.call_fs.specs.declared.past.GotData.TheVariants as came
use Rattle.call_fs.specs.declared.past.GotData.{GotData}
use Rattle.call_fs.specs.declared.past.NeedData.TheVariants as needs
use Rattle.call_fs.specs.declared.past.NeedData.{NeedData}
use Rattle.call_fs.specs.declared.past.Own.{Own}
use Rattle.mail_bytes.specs.Decimal.{digits}
use Rattle.program_law.proofs.Sender.Senders.{sorted_of}
use Rattle.program_law.specs.Sender.InTodo.{TodoStands}
use Rattle.program_law.specs.Sender.Stands.{StandsAt}
use Rattle.queue_law.proofs.Looks.{find_some, not_found}
use Rattle.queue_law.specs.Numbers.{Entry, IsPreprocessed, Queue, about, entry, look}
use Rattle.queue_law.specs.Passes.{PassStands}
use Rattle.queue_paths.specs.Names.Name.{Of}
use Rattle.queue_paths.specs.Names.Part.{Bounce, Info, Local as LocalFile, Remote as RemoteFile, Todo as TodoFile}
use Rattle.queue_paths.specs.Names.{Name, Part, parse, path, split}
use Rattle.queue_paths.proofs.Paths.{parse-path}
use Rattle.queue_paths.specs.Parts.{is_todo, in_todo, parts_of}
use Rattle.queue_paths.proofs.Parts.{is_todo_name, todo_apart, todo_missing}
use Rattle.queue_law.proofs.Waits.{todo_named, todo_absent}
use Rattle.queue_states.proofs.Listed.{same-text}
use Rattle.queue_states.proofs.MessageFiles.{is_part}
use Rattle.send_core.specs.Table.{due_at, place_after, row_now}
use Rattle.send_core.specs.declared.desk.Desk.{Desk}
use Rattle.send_parts.specs.declared.row.MarkRow.TheVariants as mark
use Rattle.send_parts.specs.declared.row.MarkRow.{MarkRow}
use Rattle.send_parts.specs.declared.row.Marked.{Marked}
use Rattle.send_parts.specs.declared.row.Row.TheVariants as at
use Rattle.send_parts.specs.declared.row.Row.{Row}
use Rattle.send_known.specs.declared.channel.Channel.TheVariants.{Local, Remote}
use Rattle.send_parts.specs.Files.{is_info}
use Rattle.send_parts.specs.Readings.{opened, read_more, read_on}
use Rattle.send_parts.specs.Replies.{answered, said}
use Rattle.send_parts.specs.declared.dir.Dir.TheVariants as dirs
use Rattle.send_parts.specs.Steps.{dir_text}
use Rattle.send_parts.specs.declared.reading.Progress.TheVariants.{Goes, Missing, Whole}
use Rattle.send_parts.specs.declared.reading.Reading.TheVariants.{Closing, Going, Opening, Shutting}
use Rattle.send_parts.specs.declared.reply.Way.{Way}
use Rattle.send_parts.specs.declared.reply.Way.TheVariants as way
use Rattle.send_parts.specs.declared.rows.FinishRow.TheVariants as finish
use Rattle.send_parts.specs.declared.rows.FinishRow.{FinishRow}
use Rattle.send_parts.specs.declared.rows.StartRow.TheVariants as start
use Rattle.send_parts.specs.declared.rows.StartRow.{StartRow}
use Rattle.send_parts.specs.declared.rows.SweepRow.TheVariants as sweep
use Rattle.send_parts.specs.declared.rows.SweepRow.{SweepRow}
use Rattle.todo_pass.specs.Table as pass_table
use Rattle.todo_pass.specs.Table.{Pass}
use Rattle.todo_pass.specs.declared.part.Target.TheVariants as target
use Rattle.todo_pass.specs.declared.row.Row.TheVariants as todo
use Rattle.todo_pass.specs.declared.row.Row.{Row as PassRow}
use Rattle.world_events.specs.declared.event.Program.TheVariants.{Sender}
use Rattle.mail_world.specs.History.{ComesOf, MayDo, State, disk_after}
use Rattle.mail_world.specs.Untouched.{queue}
use Rattle.world_law.specs.Inv.{Inv}
use Rattle.settle_law.proofs.FiledCalls.{Keeps, call_keeps, some_of, texts_apart}
use Rattle.settle_law.proofs.InfoTexts.{info_reads}
use Rattle.settle_law.proofs.Removals.{arrived_removes, removed_gone}
use Rattle.settle_law.proofs.SenderRows.{comes as comes_there, due, stands}
use Rattle.settle_law.specs.inside.Met.{IsFiled, IsUpTo, Removes, ScanShows, Shows}

-- A text that isn't above another one

up_to : (o : Ordering) (text : List ℕ) (n : ℕ) → slice_cmp nat_cmp text (digits n) ≡ o → is_gt o ≡ false → length text ≤ 255 → IsUpTo text n
up_to Less text n is low short = (short, inr is)
up_to Equal text n is low short = (short, inl (same-text text (digits n) is))
up_to Greater text n is low short = absurd (cc)

module _ (s : State) (I : Inv s) (a : List ℕ) (own : Own) (wrote : ℕ) (may : MayDo s a own wrote) (began : ℕ) (is : may.actor.program ≡ Sender began) where
  abbrev q : Queue
  q = queue s I.role

  abbrev past : List Own
  past = may.actor.past

  abbrev d : Desk
  d = place_after None past

  abbrev row : Row
  row = row_now d own.read own.ready

  abbrev At : Row → Type 0
  At r = StandsAt s.now q a r d

  here : At row
  here = stands s I a own wrote may began is

  came_here : ComesOf s a (due_at row d) own.came wrote
  came_here = comes_there s I a own wrote may began is

  same_due : due_at row d ≡ own.due
  same_due = due s I a own wrote may began is

  -- No call that is due takes a todo file away, or makes an info file without one

  module _ (n : ℕ) where
    abbrev Kept : NeedData → Type 0
    Kept need = Keeps s.disk n need

    made_apart : (part : Part) (k : ℕ) → (◌≡◌ {A = Name} (Of Info n) (Of part k) → ⊥) → path (Of Info n) ≡ path (Of part k) → IsSome (in_todo (parts_of s.disk.names n))
    made_apart part k far same = absurd (texts_apart (Of Info n) (Of part k) far same)

    far_from : (x : Name) → is_todo_name x ≡ false → (part : Part) → is_todo part ≡ true → path (Of part n) ≢ path x
    far_from x far part is = texts_apart (Of part n) x (todo_apart part n x is far)

    start_keeps : (r : StartRow) → Kept (due_at (at.Start r) d)
    start_keeps (start.Control file Opening) = tt
    start_keeps (start.Control file (Going fd)) = tt
    start_keeps (start.Control file (Closing fd)) = tt
    start_keeps (start.Control file (Shutting fd)) = tt
    start_keeps (start.ReadInfo dir k Opening) = tt
    start_keeps (start.ReadInfo dir k (Going fd)) = tt
    start_keeps (start.ReadInfo dir k (Closing fd)) = tt
    start_keeps (start.ReadInfo dir k (Shutting fd)) = tt
    start_keeps r = tt

    note_keeps : (r : NoteRow) (note : Writing) → Kept (note_due_at r note)
    note_keeps written.Create note = made_apart Bounce note.n (λ e. cc)
    note_keeps r note = tt

    mark_keeps : (r : MarkRow) (m : Marked) → Kept (due_at (at.Mark r m) d)
    mark_keeps mark.Noting m = note_keeps d.note.row d.note
    mark_keeps r m = tt

    -- a pass makes the info file of its number, whose todo file is there
    info_made : (p : Pass) → p.row ≡ todo.Create target.Info → PassStands s.now q a p.n p.row → path (Of Info n) ≡ path (Of Info p.n) → IsSome (in_todo (parts_of s.disk.names n))
    info_made p at st same =
        let here_st : PassStands s.now q a p.n (todo.Create target.Info) = subst (λ (r : PassRow). PassStands s.now q a p.n r) at st in
        let queued = (here_st.rests tt).rest in
        let there = todo_named s.disk.names s.disk.files p.n queued.todo queued.todo_there in
        let one : p.n ≡ n = (let names : ◌≡◌ {A = Option Name} (Some (Of Info n)) (Some (Of Info p.n)) = sym (parse-path (Of Info n)) ∙ ap parse same ∙ parse-path (Of Info p.n) in cc) in
        ap is_some (ap (λ (k : ℕ). in_todo (parts_of s.disk.names k)) (sym one) ∙ there)

    pass_keeps : (r : PassRow) (p : Pass) → p.row ≡ r → TodoStands d.book.controls s.now q a r p → Kept (pass_table.due_at r p)
    pass_keeps (todo.Clear target.Info) p at st = far_from (Of Info p.n) refl
    pass_keeps (todo.Clear target.Local) p at st = far_from (Of LocalFile p.n) refl
    pass_keeps (todo.Clear target.Remote) p at st = far_from (Of RemoteFile p.n) refl
    pass_keeps (todo.Create target.Info) p at st = info_made p at st.stands
    pass_keeps (todo.Create target.Local) p at st = made_apart LocalFile p.n (λ e. cc)
    pass_keeps (todo.Create target.Remote) p at st = made_apart RemoteFile p.n (λ e. cc)
    pass_keeps todo.StatMess p at st = tt
    pass_keeps r p at st = tt

    return_keeps : (r : ReturnRow) (x : Returning) → Kept (return_due_at r x)
    return_keeps back.Unlink x = far_from (Of Bounce x.n) refl
    return_keeps back.Discard x = far_from (Of Bounce x.n) refl
    return_keeps r x = tt

    finish_keeps : (r : FinishRow) (k : ℕ) → Kept (due_at (at.Finish r k) d)
    finish_keeps finish.Return k = return_keeps d.bounce.row d.bounce
    finish_keeps finish.UnlinkInfo k = far_from (Of Info k) refl
    finish_keeps r k = tt

    sweep_keeps : (r : SweepRow) → Kept (due_at (at.Sweep r) d)
    sweep_keeps sweep.First = tt
    sweep_keeps r = tt

    row_keeps : (r : Row) → At r → Kept (due_at r d)
    row_keeps (at.Start r) st = start_keeps r
    row_keeps (at.Mark r m) st = mark_keeps r m
    row_keeps (at.UnlinkFile Local k p) st = far_from (Of LocalFile k) refl
    row_keeps (at.UnlinkFile Remote k p) st = far_from (Of RemoteFile k) refl
    row_keeps (at.ReadFile c k begun Opening) st = tt
    row_keeps (at.ReadFile c k begun (Going fd)) st = tt
    row_keeps (at.ReadFile c k begun (Closing fd)) st = tt
    row_keeps (at.ReadFile c k begun (Shutting fd)) st = tt
    row_keeps at.InTodo st = pass_keeps d.pass.row d.pass refl st.rests.1.1
    row_keeps (at.Finish r k) st = finish_keeps r k
    row_keeps (at.Sweep r) st = sweep_keeps r
    row_keeps r st = tt

    by_due : (need : NeedData) (got : GotData) → Kept need → IsFiled (disk_after s.disk own.read need got wrote) n → IsFiled s.disk n
    by_due (needs.File c) (came.Answered told) keeps filed = call_keeps s.disk n own.read c told.answer wrote keeps filed
    by_due need got keeps filed = filed

    pub own_filed : IsFiled (disk_after s.disk own.read own.due own.came wrote) n → IsFiled s.disk n
    own_filed filed = by_due own.due own.came (subst Kept same_due (row_keeps row here)) filed

  -- What the start shows of such a number

  module _ (n : ℕ) (low : 1 ≤ n) (high : n < 2 ^ 64) (filed : IsFiled s.disk n) where
    info : (i : ℕ) × (s.disk.names (path (Of Info n)) ≡ Some i)
    info = some_of (s.disk.names (path (Of Info n))) filed.1

    -- its name stands after an earlier one
    stands_after : (dir : ℕ) (last : List ℕ) → dir ≡ split n → slice_cmp nat_cmp last (digits n) ≡ Less → StandsAfter s.disk (dir_text (dirs.Info dir)) last (digits n)
    unfolding path
    stands_after dir last same less =
        let part = is_part n high in
        (subst (λ (k : ℕ). IsSome (s.disk.names (dir_text (dirs.Info k) ++ 47 ∷ digits n))) (sym same) filed.1, record { whole = part.whole; short = part.short; later = less })

    search_shows : (dir : ℕ) (last : List ℕ) (told : Answer) (bytes : List ℕ) → Fits s.disk (call.NextName (dir_text (dirs.Info dir)) last) told wrote → dir ≡ split n → slice_cmp nat_cmp last (digits n) ≡ Less
        → ((answered told bytes).way ≡ way.Fine → IsUpTo (answered told bytes).bytes n) × ((answered told bytes).way ≢ way.Over)
    search_shows dir last (answer.Name name) bytes fits same less = (
      λ fine. up_to (slice_cmp nat_cmp name (digits n)) name n refl (fits.1.least (digits n) (stands_after dir last same less)) fits.1.stands.1.short,
      λ over. absurd (cc),
    )
    search_shows dir last answer.NoName bytes fits same less = absurd (fits.1 (digits n) (stands_after dir last same less))
    search_shows dir last (answer.Refused why.NotThere) bytes fits same less = (λ fine. absurd (cc), λ over. absurd (cc))
    search_shows dir last (answer.Refused why.Fault) bytes fits same less = (λ fine. absurd (cc), λ over. absurd (cc))
    search_shows dir last told bytes fits same less = absurd fits

    -- no file has the name
    none_there : (i : ℕ) → s.disk.names (path (Of TodoFile n)) ≡ Some i → ⊥
    none_there i there = let bad : ◌≡◌ {A = Option ℕ} None (Some i) = sym (todo_missing (parts_of s.disk.names n) filed.0 TodoFile refl) ∙ there in cc

    todo_shows : (told : Answer) (bytes : List ℕ) → Fits s.disk (call.Stat (path (Of TodoFile n))) told wrote → (answered told bytes).way ≢ way.Fine
    todo_shows (answer.Stat stat) bytes fits fine = none_there stat.number fits.number
    todo_shows (answer.Refused why.NotThere) bytes fits fine = cc
    todo_shows (answer.Refused why.Fault) bytes fits fine = cc
    todo_shows told bytes fits fine = fits

    -- the info file is there
    not_missing : s.disk.names (path (Of Info n)) ≡ None → ⊥
    not_missing none = let bad : ◌≡◌ {A = Option ℕ} None (Some info.0) = sym none ∙ info.1 in cc

    stat_shows : (told : Answer) (bytes : List ℕ) → Fits s.disk (call.Stat (path (Of Info n))) told wrote → (answered told bytes).way ≢ way.Absent
    stat_shows (answer.Stat stat) bytes fits absent = cc
    stat_shows (answer.Refused why.NotThere) bytes fits absent = not_missing fits
    stat_shows (answer.Refused why.Fault) bytes fits absent = cc
    stat_shows told bytes fits absent = fits

    open_shows : (told : Answer) (bytes : List ℕ) → Fits s.disk (call.Open (path (Of Info n)) how.Read) told wrote → read_on Opening (answered told bytes) ≢ Missing
    open_shows (answer.Opened fd) bytes fits missing = cc
    open_shows (answer.Refused why.NotThere) bytes fits missing = not_missing fits
    open_shows (answer.Refused why.Fault) bytes fits missing = cc
    open_shows (answer.Refused why.Memory) bytes fits missing = cc
    open_shows told bytes fits missing = fits

    preprocessed : IsPreprocessed (about q n)
    preprocessed = sorted_of (about q n) (I.sound.fine n) (todo_absent s.disk.names s.disk.files n filed.0) (entry s.disk.files info.0) (find_some s.disk.names s.disk.files (Of Info n) info.0 info.1)

    same_entry : (o : Option Entry) (x y : Entry) → o ≡ Some x → o ≡ Some y → x ≡ y
    same_entry o x y e f = cc

    -- what was read of it to its end is its text
    text_read : (read : List ℕ) (y : Entry) → look q (Of Info n) ≡ Some y → read ≡ y.file.bytes → is_info read ≡ true
    text_read read y there reads =
        let same : y ≡ preprocessed.info = same_entry (look q (Of Info n)) y preprocessed.info there preprocessed.info_there in
        ap is_info (reads ∙ ap (λ (x : Entry). x.file.bytes) same ∙ preprocessed.text.holds) ∙ info_reads preprocessed.taken.injection.args preprocessed.taken.valid.envelope

    more_shows : (w : Way) (fd : Fd) (bytes : List ℕ) → (read_more w fd bytes ≢ Missing) × (read_more w fd bytes ≢ Whole)
    more_shows way.Fine fd bytes = by (nat_lt (length bytes) PIECE) where
      by : (b : Bool) → ((if b then Goes (Closing fd) else Goes (Going fd)) ≢ Missing) × ((if b then Goes (Closing fd) else Goes (Going fd)) ≢ Whole)
      by true = (λ missing. cc, λ whole. cc)
      by false = (λ missing. cc, λ whole. cc)
    more_shows w fd bytes = (λ missing. cc, λ whole. cc)

    opened_whole : {A : Type 0} (w : Way) (fd : Fd) → opened w fd ≡ Whole → A
    opened_whole way.Fine fd whole = absurd (cc)
    opened_whole way.Absent fd whole = absurd (cc)
    opened_whole w fd whole = absurd (cc)

    scan_shows : (r : StartRow) (got : GotData) → At (at.Start r) → ComesOf s a (due_at (at.Start r) d) got wrote → ScanShows r d.book (said got) n
    scan_shows (start.Scan dir) (came.Answered told) st comes = λ same less. search_shows dir d.book.after told.answer told.bytes comes.0 same less
    scan_shows (start.Scan dir) got st comes = absurd comes
    scan_shows (start.StatTodo dir m) (came.Answered told) st comes =
        λ this. todo_shows told.answer told.bytes (subst (λ (k : ℕ). Fits s.disk (call.Stat (path (Of TodoFile k))) told.answer wrote) this comes.0)
    scan_shows (start.StatTodo dir m) got st comes = absurd comes
    scan_shows (start.ReadInfo dir m Opening) (came.Answered told) st comes = λ this. (
      open_shows told.answer told.bytes (subst (λ (k : ℕ). Fits s.disk (call.Open (path (Of Info k)) how.Read) told.answer wrote) this comes.0),
      λ whole. opened_whole (answered told.answer told.bytes).way (answered told.answer told.bytes).fd whole,
    )
    scan_shows (start.ReadInfo dir m Opening) got st comes = absurd comes
    scan_shows (start.ReadInfo dir m (Going fd)) got st comes = λ this. ((more_shows (said got).way fd (said got).bytes).0, λ whole. absurd ((more_shows (said got).way fd (said got).bytes).1 whole))
    scan_shows (start.ReadInfo dir m (Closing fd)) got st comes = λ this.
        let text = st.rests.1.1.1.1 in
        (λ missing. cc, λ whole. text_read d.book.read text.file (ap (λ (k : ℕ). look q (Of Info k)) (sym this) ∙ text.there) text.text)
    scan_shows (start.ReadInfo dir m (Shutting fd)) got st comes = λ this. (λ missing. cc, λ whole. absurd (cc))
    scan_shows (start.StatInfo dir m) (came.Answered told) st comes =
        λ this. stat_shows told.answer told.bytes (subst (λ (k : ℕ). Fits s.disk (call.Stat (path (Of Info k))) told.answer wrote) this comes.0)
    scan_shows (start.StatInfo dir m) got st comes = absurd comes
    scan_shows r got st comes = tt

    row_shows : (r : Row) (got : GotData) → At r → ComesOf s a (due_at r d) got wrote → ((m : ℕ) → Removes r m → IsFiled s.disk m → ⊥) → Shows r d got n
    row_shows (at.Start r) got st comes gone = scan_shows r got st comes
    row_shows r got st comes gone = λ removes. gone n removes filed

    pub own_shows : ((m : ℕ) → Removes d.row m → IsFiled s.disk m → ⊥) → Shows row d own.came n
    own_shows gone = row_shows row own.came here came_here (λ m removes. gone m (arrived_removes d own.read own.ready m removes))

  -- The command to remove a message is given only where its info file is gone

  pub own_gone : MayCome own.due own.came → (n : ℕ) → Removes (place_after None (own ∷ past)).row n → (disk_after s.disk own.read own.due own.came wrote).names (path (Of Info n)) ≡ None
  own_gone comes n removes =
      let w = removed_gone s.now q a d own.read own.ready here n own.came (subst (λ (need : NeedData). MayCome need own.came) (sym same_due) comes) removes in
      subst (λ (need : NeedData). (disk_after s.disk own.read need own.came wrote).names (path (Of Info n)) ≡ None) (sym w.1 ∙ same_due)
      (not_found s.disk.names s.disk.files (Of Info n) w.2)

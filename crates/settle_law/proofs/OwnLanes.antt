-- Which channel files an event of a sender leaves as they read.
use Rattle.std.proofs.Common.{◌≡◌, ◌≢◌, ℕ, List, Option, Some, None, refl, sym, ap, ◌∙◌, subst}
use Rattle.bounce_record.specs.Returning.{Returning, due_at as return_due_at}
use Rattle.bounce_record.specs.Writing.{Writing, due_at as note_due_at}
use Rattle.bounce_record.specs.declared.note_row.NoteRow.TheVariants as written
use Rattle.bounce_record.specs.declared.note_row.NoteRow.{NoteRow}
use Rattle.bounce_record.specs.declared.return_row.ReturnRow.TheVariants as back
use Rattle.bounce_record.specs.declared.return_row.ReturnRow.{ReturnRow}
use Rattle.call_fs.specs.Disk.{Disk, Open as OpenFile}
use Rattle.call_fs.specs.declared.calls.CallData.{CallData}
use Rattle.call_fs.specs.declared.past.GotData.TheVariants as came
use Rattle.call_fs.specs.declared.past.GotData.{GotData}
use Rattle.call_fs.specs.declared.past.NeedData.TheVariants as needs
use Rattle.call_fs.specs.declared.past.NeedData.{NeedData}
use Rattle.call_fs.specs.declared.past.Own.{Own}
use Rattle.program_law.proofs.Sender.Gone.{lane_name}
use Rattle.program_law.specs.Sender.InTodo.{TodoStands}
use Rattle.program_law.specs.Sender.Knows.{IsSettledIn}
use Rattle.program_law.specs.Sender.Rows.{NoteHolds}
use Rattle.program_law.specs.Sender.Stands.{StandsAt}
use Rattle.queue_law.proofs.Looks.{found}
use Rattle.queue_law.specs.Injectors.{created}
use Rattle.queue_law.specs.Numbers.{Entry, Queue, Role, about, look}
use Rattle.queue_law.specs.Numbers.Role.{AsPart}
use Rattle.queue_law.specs.Passes.{PassStands}
use Rattle.queue_law.specs.Routes.{lane_part}
use Rattle.queue_paths.proofs.Paths.{path_injective}
use Rattle.queue_paths.specs.Names.Name.{Of}
use Rattle.queue_paths.specs.Names.Part.{Bounce, Info, Local as LocalFile, Remote as RemoteFile}
use Rattle.queue_paths.specs.Names.{Name, Part, path}
use Rattle.queue_paths.specs.Parts.{in_todo}
use Rattle.send_core.specs.Table.{due_at, place_after, row_now}
use Rattle.send_core.specs.declared.desk.Desk.{Desk}
use Rattle.send_parts.specs.declared.row.MarkRow.TheVariants as mark
use Rattle.send_parts.specs.declared.row.MarkRow.{MarkRow}
use Rattle.send_parts.specs.declared.row.Marked.{Marked}
use Rattle.send_parts.specs.declared.row.Row.TheVariants as at
use Rattle.send_parts.specs.declared.row.Row.{Row}
use Rattle.send_known.specs.declared.channel.Channel.TheVariants.{Local, Remote}
use Rattle.send_known.specs.declared.channel.Channel.{Channel}
use Rattle.send_parts.specs.declared.reading.Reading.TheVariants.{Closing, Going, Opening, Shutting}
use Rattle.send_parts.specs.declared.rows.FinishRow.TheVariants as finish
use Rattle.send_parts.specs.declared.rows.FinishRow.{FinishRow}
use Rattle.send_parts.specs.declared.rows.StartRow.TheVariants as start
use Rattle.send_parts.specs.declared.rows.StartRow.{StartRow}
use Rattle.send_parts.specs.declared.rows.SweepRow.TheVariants as sweep
use Rattle.send_parts.specs.declared.rows.SweepRow.{SweepRow}
use Rattle.todo_pass.specs.Disks.{HoldsTodo}
use Rattle.todo_pass.specs.Table as pass_table
use Rattle.todo_pass.specs.Table.{Pass}
use Rattle.todo_pass.specs.declared.part.Target.TheVariants as target
use Rattle.todo_pass.specs.declared.row.Row.TheVariants as todo
use Rattle.todo_pass.specs.declared.row.Row.{Row as PassRow}
use Rattle.world_events.specs.declared.event.Program.TheVariants.{Sender}
use Rattle.mail_world.specs.History.{ComesOf, MayDo, State, disk_after}
use Rattle.mail_world.specs.Untouched.{queue}
use Rattle.world_law.specs.Inv.{Inv}
use Rattle.settle_law.proofs.LaneTexts.{IsElse, LeavesText, effect_leaves, files_on, same_records}
use Rattle.settle_law.proofs.SenderRows.{due, stands}

-- it writes no letter of that file, and doesn't unlink it
abbrev pub IsApart : Row → Channel → ℕ → Type 0
IsApart (at.Mark (mark.Write fd) m) c n = m.channel ≡ c → m.n ≡ n → ⊥
IsApart (at.UnlinkFile e k p) c n = e ≡ c → k ≡ n → ⊥
IsApart row c n = Unit {0}

-- Names and parts

some_open : (x y : OpenFile) → ◌≡◌ {A = Option OpenFile} (Some x) (Some y) → x ≡ y
some_open x y e = cc

number_of : (part other : Part) (k n : ℕ) → ◌≡◌ {A = Name} (Of part k) (Of other n) → k ≡ n
number_of part other k n e = cc

lanes_far : (e c : Channel) (k n : ℕ) → (e ≡ c → k ≡ n → ⊥) → ◌≡◌ {A = Role} (AsPart (lane_part e) k) (AsPart (lane_part c) n) → ⊥
lanes_far Local Local k n far same = far refl (cc)
lanes_far Local Remote k n far same = absurd (cc)
lanes_far Remote Local k n far same = absurd (cc)
lanes_far Remote Remote k n far same = far refl (cc)

lanes_named : (e c : Channel) (k n : ℕ) → (e ≡ c → k ≡ n → ⊥) → ◌≡◌ {A = Name} (Of (lane_part c) n) (Of (lane_part e) k) → ⊥
lanes_named Local Local k n far same = far refl (cc)
lanes_named Local Remote k n far same = absurd (cc)
lanes_named Remote Local k n far same = absurd (cc)
lanes_named Remote Remote k n far same = far refl (cc)

bounce_far : (c : Channel) (k n : ℕ) → ◌≡◌ {A = Role} (AsPart Bounce k) (AsPart (lane_part c) n) → ⊥
bounce_far Local k n e = absurd (cc)
bounce_far Remote k n e = absurd (cc)

part_number : (part other : Part) (k n : ℕ) → ◌≡◌ {A = Role} (AsPart part k) (AsPart other n) → k ≡ n
part_number part other k n e = cc

bounce_named : (c : Channel) (k n : ℕ) → ◌≡◌ {A = Name} (Of (lane_part c) n) (Of Bounce k) → ⊥
bounce_named Local k n e = absurd (cc)
bounce_named Remote k n e = absurd (cc)

info_named : (c : Channel) (k n : ℕ) → ◌≡◌ {A = Name} (Of (lane_part c) n) (Of Info k) → ⊥
info_named Local k n e = absurd (cc)
info_named Remote k n e = absurd (cc)

module _ (s : State) (I : Inv s) (a : List ℕ) (own : Own) (wrote : ℕ) (may : MayDo s a own wrote) (began : ℕ) (is : may.actor.program ≡ Sender began) where
  abbrev q : Queue
  q = queue s I.role

  abbrev d : Desk
  d = place_after None may.actor.past

  abbrev row : Row
  row = row_now d own.read own.ready

  abbrev At : Row → Type 0
  At r = StandsAt s.now q a r d

  here : At row
  here = stands s I a own wrote may began is

  lane_made : (c : Channel) (k : ℕ) (y : Entry) → look q (Of (lane_part c) k) ≡ Some y → I.role y.number ≡ AsPart (lane_part c) k
  lane_made Local k y there = (I.sound.suits (Of LocalFile k) y there).0
  lane_made Remote k y there = (I.sound.suits (Of RemoteFile k) y there).0

  module _ (c : Channel) (n : ℕ) (settled : IsSettledIn (about q n)) (y : Entry) (y_there : look q (Of (lane_part c) n) ≡ Some y) where
    abbrev Left : NeedData → Type 0
    Left due = LeavesText s.disk (path (Of (lane_part c) n)) y.number due

    -- an open file that was made as another part is another one
    else_by : (o : Option OpenFile) (how : OpenFile) (z : Entry) (role : Role) → o ≡ Some how → how.number ≡ z.number → I.role z.number ≡ role → role ≢ AsPart (lane_part c) n → IsElse y.number o
    else_by o how z role opened number made far other e same =
        let one : how ≡ other = some_open how other (sym opened ∙ e) in
        let number_is : z.number ≡ y.number = sym number ∙ ap (λ (x : OpenFile). x.number) one ∙ sym same in
        far (sym made ∙ ap I.role number_is ∙ lane_made c n y y_there)

    another : (part : Part) (k : ℕ) → k ≢ n → path (Of (lane_part c) n) ≢ path (Of part k)
    another part k far same = far (sym (number_of (lane_part c) part n k (path_injective (Of (lane_part c) n) (Of part k) same)))

    start_left : (r : StartRow) → Left (due_at (at.Start r) d)
    start_left (start.Control file Opening) = tt
    start_left (start.Control file (Going fd)) = tt
    start_left (start.Control file (Closing fd)) = tt
    start_left (start.Control file (Shutting fd)) = tt
    start_left (start.ReadInfo split k Opening) = tt
    start_left (start.ReadInfo split k (Going fd)) = tt
    start_left (start.ReadInfo split k (Closing fd)) = tt
    start_left (start.ReadInfo split k (Shutting fd)) = tt
    start_left r = tt

    note_left : (r : NoteRow) (note : Writing) (m : Marked) (name report text : List ℕ) → NoteHolds d.book.controls q a r m name report text → Left (note_due_at r note)
    note_left written.Open note m name report text h = tt
    note_left written.Create note m name report text h = tt
    note_left (written.Append fd done) note m name report text h =
        else_by (s.disk.opens fd.0) (record { number = h.held.file.number; mode = h.held.mode }) h.held.file (AsPart Bounce m.n) h.held.opened.opened refl (I.sound.suits (Of Bounce m.n) h.held.file h.held.there).0
        (bounce_far c m.n n)
    note_left r note m name report text h = tt

    mark_left : (r : MarkRow) (m : Marked) → At (at.Mark r m) → IsApart (at.Mark r m) c n → Left (due_at (at.Mark r m) d)
    mark_left mark.Noting m st far = let h = st.rests.1 in note_left d.note.row d.note m _ _ _ h.holds
    mark_left (mark.Write fd) m st far =
        let h = st.rests.1.0 in
        else_by (s.disk.opens fd.0) _ h.file (AsPart (lane_part m.channel) m.n) h.opened.opened refl (lane_made m.channel m.n h.file h.there) (lanes_far m.channel c m.n n far)
    mark_left r m st far = tt

    -- the number of a pass isn't preprocessed
    pass_at : (r : PassRow) (p : Pass) → p.row ≡ r → PassStands s.now q a p.n p.row → PassStands s.now q a p.n r
    pass_at r p same st = subst (λ (x : PassRow). PassStands s.now q a p.n x) same st

    passes_another : (r : PassRow) (p : Pass) → HoldsTodo r → PassStands s.now q a p.n r → p.n ≢ n
    passes_another r p holds st number =
        let queued = (st.rests holds).rest in
        let none = ap (λ (k : ℕ). in_todo (about q k).parts) number ∙ settled.no_todo in
        absurd (cc (sym none ∙ queued.todo_there))

    pass_left : (r : PassRow) (p : Pass) → p.row ≡ r → TodoStands d.book.controls s.now q a r p → Left (pass_table.due_at r p)
    pass_left (todo.Clear target.Info) p same st = another Info p.n (passes_another (todo.Clear target.Info) p tt (pass_at (todo.Clear target.Info) p same st.stands))
    pass_left (todo.Clear target.Local) p same st = another LocalFile p.n (passes_another (todo.Clear target.Local) p tt (pass_at (todo.Clear target.Local) p same st.stands))
    pass_left (todo.Clear target.Remote) p same st = another RemoteFile p.n (passes_another (todo.Clear target.Remote) p tt (pass_at (todo.Clear target.Remote) p same st.stands))
    pass_left (todo.Append target.Info fd done) p same st =
        let it = pass_at (todo.Append target.Info fd done) p same st.stands in
        let h = it.holds in
        else_by (s.disk.opens fd.0) (created h.file.number) h.file (AsPart Info p.n) h.opened.opened refl (I.sound.suits (Of Info p.n) h.file h.there).0
        (λ e. passes_another (todo.Append target.Info fd done) p tt it (part_number Info (lane_part c) p.n n e))
    pass_left (todo.Append target.Local fd done) p same st =
        let it = pass_at (todo.Append target.Local fd done) p same st.stands in
        let h = it.holds in
        else_by (s.disk.opens fd.0) (created h.file.number) h.file (AsPart LocalFile p.n) h.opened.opened refl (lane_made Local p.n h.file h.there)
        (λ e. passes_another (todo.Append target.Local fd done) p tt it (part_number LocalFile (lane_part c) p.n n e))
    pass_left (todo.Append target.Remote fd done) p same st =
        let it = pass_at (todo.Append target.Remote fd done) p same st.stands in
        let h = it.holds in
        else_by (s.disk.opens fd.0) (created h.file.number) h.file (AsPart RemoteFile p.n) h.opened.opened refl (lane_made Remote p.n h.file h.there)
        (λ e. passes_another (todo.Append target.Remote fd done) p tt it (part_number RemoteFile (lane_part c) p.n n e))
    pass_left r p same st = tt

    return_left : (r : ReturnRow) (x : Returning) → Left (return_due_at r x)
    return_left back.Unlink x = λ same. bounce_named c x.n n (path_injective (Of (lane_part c) n) (Of Bounce x.n) same)
    return_left back.Discard x = λ same. bounce_named c x.n n (path_injective (Of (lane_part c) n) (Of Bounce x.n) same)
    return_left r x = tt

    finish_left : (r : FinishRow) (k : ℕ) → Left (due_at (at.Finish r k) d)
    finish_left finish.Return k = return_left d.bounce.row d.bounce
    finish_left finish.UnlinkInfo k = λ same. info_named c k n (path_injective (Of (lane_part c) n) (Of Info k) same)
    finish_left r k = tt

    sweep_left : (r : SweepRow) → Left (due_at (at.Sweep r) d)
    sweep_left sweep.First = tt
    sweep_left r = tt

    row_left : (r : Row) → At r → IsApart r c n → Left (due_at r d)
    row_left (at.Start r) st far = start_left r
    row_left (at.Mark r m) st far = mark_left r m st far
    row_left (at.UnlinkFile e k p) st far = λ same. lanes_named e c k n far (path_injective (Of (lane_part c) n) (Of (lane_part e) k) (same ∙ lane_name e k))
    row_left (at.ReadFile e k begun Opening) st far = tt
    row_left (at.ReadFile e k begun (Going fd)) st far = tt
    row_left (at.ReadFile e k begun (Closing fd)) st far = tt
    row_left (at.ReadFile e k begun (Shutting fd)) st far = tt
    row_left at.InTodo st far = pass_left d.pass.row d.pass refl st.rests.1.1
    row_left (at.Finish r k) st far = finish_left r k
    row_left (at.Sweep r) st far = sweep_left r
    row_left r st far = tt

  abbrev Then : NeedData → GotData → Disk
  Then need got = disk_after s.disk own.read need got wrote

  -- the channel files of preprocessed messages read so as before, but for the one that a mark is written in
  abbrev pub LeavesFiles : Disk → Type 0
  LeavesFiles e = (c : Channel) (n : ℕ) (y : Entry) → look q (Of (lane_part c) n) ≡ Some y → ((x : CallData) → due_at row d ≡ needs.File x → IsSettledIn (about q n)) → IsApart row c n
      → files_on e c n ≡ files_on s.disk c n

  pub files_by : (need : NeedData) (got : GotData) → due_at row d ≡ need → ComesOf s a need got wrote → LeavesFiles (Then need got)
  files_by (needs.File x) (came.Answered told) e comes c n y y_there settled far =
      let there = (found s.disk.names s.disk.files (Of (lane_part c) n) y y_there).0 in
      same_records s.disk (Then (needs.File x) (came.Answered told)) c n y.number there
      (effect_leaves s.disk (path (Of (lane_part c) n)) y.number there own.read x told.answer wrote comes.0
      (subst (Left c n (settled x e) y y_there) e (row_left c n (settled x e) y y_there row here far)))
  files_by need got e comes c n y y_there settled far = refl

  pub own_files : LeavesFiles (Then own.due own.came)
  own_files = files_by own.due own.came (due s I a own wrote may began is) may.came

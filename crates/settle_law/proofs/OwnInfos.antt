-- What an event of a sender tells of info files.
use Rattle.std.proofs.Common.{◌≡◌, ◌≢◌, ℕ, List, [], ◌∷◌, Bool, true, false, Option, Some, None, eqb-true, refl, sym, ap, ◌∙◌, subst}
use Rattle.std.specs.Prelude.{All, ◌==◌, ◌||◌}
use Rattle.std.proofs.lemmas.List.Elements.{All-head, All-tail}
use Rattle.bounce_record.specs.Returning.{Returning, due_at as return_due_at}
use Rattle.bounce_record.specs.Writing.{Writing, due_at as note_due_at}
use Rattle.bounce_record.specs.declared.note_row.NoteRow.TheVariants as written
use Rattle.bounce_record.specs.declared.note_row.NoteRow.{NoteRow}
use Rattle.bounce_record.specs.declared.return_row.ReturnRow.TheVariants as back
use Rattle.bounce_record.specs.declared.return_row.ReturnRow.{ReturnRow}
use Rattle.call_fs.proofs.Maps.{put_same}
use Rattle.call_fs.specs.Apply.{Fits, changed, effect, grown}
use Rattle.call_fs.specs.Disk.{Disk, File, Open as OpenFile}
use Rattle.call_fs.specs.Maps.{put}
use Rattle.call_fs.specs.Past.{IsRunBy}
use Rattle.call_fs.specs.declared.calls.Answer.TheVariants as answer
use Rattle.call_fs.specs.declared.calls.Answer.{Answer}
use Rattle.call_fs.specs.declared.calls.CallData.TheVariants as call
use Rattle.call_fs.specs.declared.calls.CallData.{CallData}
use Rattle.call_fs.specs.declared.calls.Fd.{Fd}
use Rattle.call_fs.specs.declared.past.GotData.TheVariants as came
use Rattle.call_fs.specs.declared.past.GotData.{GotData}
use Rattle.call_fs.specs.declared.past.NeedData.TheVariants as needs
use Rattle.call_fs.specs.declared.past.NeedData.{NeedData}
use Rattle.call_fs.specs.declared.past.Own.{Own}
use Rattle.program_law.specs.Sender.InTodo.{TodoStands}
use Rattle.program_law.specs.Sender.Knows.{IsLeaving, IsSettledIn, Knows}
use Rattle.program_law.specs.Sender.Knows.Knows.{Leaves, Stays}
use Rattle.program_law.specs.Sender.Rows.{NoteHolds}
use Rattle.program_law.specs.Sender.Stands.{StandsAt}
use Rattle.queue_law.proofs.Looks.{find_some, found}
use Rattle.queue_law.specs.Injectors.{created}
use Rattle.queue_law.specs.Numbers.{About, Entry, Queue, Role, about, entry, look}
use Rattle.queue_law.specs.Numbers.Role.{AsPart}
use Rattle.queue_law.specs.Passes.{PassStands}
use Rattle.queue_law.specs.Routes.{lane_part}
use Rattle.queue_paths.proofs.Paths.{parse-path}
use Rattle.queue_paths.specs.Names.Name.{Of}
use Rattle.queue_paths.specs.Names.Part.{Bounce, Info, Local as LocalFile, Remote as RemoteFile}
use Rattle.queue_paths.specs.Names.{Name, Part, parse, path}
use Rattle.queue_paths.specs.Parts.{in_todo}
use Rattle.retry_law.proofs.Comings.{arrives_coming}
use Rattle.retry_law.specs.Infos.{TellsInfos, coming, has_written, looked_at, pass_tells, tells, written as born, written_at}
use Rattle.send_core.specs.Births.{Birth}
use Rattle.send_core.specs.Table.{Next, due_at, place_after, row_now}
use Rattle.send_core.specs.declared.desk.Desk.{Desk}
use Rattle.send_parts.specs.declared.row.MarkRow.TheVariants as mark
use Rattle.send_parts.specs.declared.row.MarkRow.{MarkRow}
use Rattle.send_parts.specs.declared.row.Marked.{Marked}
use Rattle.send_parts.specs.declared.row.Row.TheVariants as at
use Rattle.send_parts.specs.declared.row.Row.{Row}
use Rattle.send_known.specs.declared.channel.Channel.TheVariants.{Local, Remote}
use Rattle.send_known.specs.declared.channel.Channel.{Channel}
use Rattle.send_known.specs.Known.{is_known}
use Rattle.send_known.specs.declared.known.Known.{Known}
use Rattle.send_parts.specs.declared.reading.Reading.TheVariants.{Closing, Going, Opening, Shutting}
use Rattle.send_parts.specs.declared.rows.FinishRow.TheVariants as finish
use Rattle.send_parts.specs.declared.rows.FinishRow.{FinishRow}
use Rattle.send_parts.specs.declared.rows.StartRow.TheVariants as start
use Rattle.send_parts.specs.declared.rows.StartRow.{StartRow}
use Rattle.send_parts.specs.declared.rows.SweepRow.TheVariants as sweep
use Rattle.send_parts.specs.declared.rows.SweepRow.{SweepRow}
use Rattle.send_runs.proofs.Knowing.{known_exactly}
use Rattle.send_runs.specs.Knowing.{known_in}
use Rattle.todo_pass.specs.Table as pass_table
use Rattle.todo_pass.specs.Table.{Pass}
use Rattle.todo_pass.specs.declared.part.Target.TheVariants as target
use Rattle.todo_pass.specs.declared.row.Row.TheVariants as todo
use Rattle.todo_pass.specs.declared.row.Row.{Row as PassRow}
use Rattle.world_events.specs.declared.event.Program.TheVariants.{Sender}
use Rattle.mail_world.specs.History.{ComesOf, MayDo, State, disk_after}
use Rattle.mail_world.specs.Untouched.{queue}
use Rattle.world_law.specs.Inv.{Inv}
use Rattle.settle_law.proofs.InfoFiles.{HasInfo, IsElse, SameInfo, Spares, effect_spares, has_info, info_in, info_is}
use Rattle.settle_law.proofs.SenderRows.{comes as comes_there, due, stands}

-- A known message whose finish hasn't begun to remove it is preprocessed

pub known_with : (P : Known → Type 0) (n : ℕ) (ks : List Known) → All P ks → is_known n ks ≡ true → (k : Known) × (k.n ≡ n) × P k
known_with P n [] all e = absurd (cc)
known_with P n (k ∷ ks) all e = by (k.n == n) refl (known_with P n ks (All-tail P k ks all)) where
  by : (b : Bool) → (k.n == n) ≡ b → (is_known n ks ≡ true → (x : Known) × (x.n ≡ n) × P x) → (x : Known) × (x.n ≡ n) × P x
  by true same rest = (k, eqb-true k.n n same, All-head P k ks all)
  by false other rest = rest (sym (ap (λ (b : Bool). b || is_known n ks) other) ∙ e)

-- at a file call none is removed
pub none_leaves : (row : Row) (d : Desk) (n : ℕ) (c : CallData) → due_at row d ≡ needs.File c → IsLeaving row n → ⊥
none_leaves (at.Finish finish.Give m) d n c e h = absurd (cc)
none_leaves (at.Finish finish.Take m) d n c e h = absurd (cc)
none_leaves (at.Finish row m) d n c e h = h.0
none_leaves (at.Ended status) d n c e h = absurd (cc)
none_leaves row d n c e h = h

pub settled_of : (row : Row) (w : About) (k : Known) → (IsLeaving row k.n → ⊥) → Knows row w k → IsSettledIn w
settled_of row w k stays (Stays known) = known.sorted
settled_of row w k stays (Leaves leaves) = absurd (stays leaves)

some_open : (x y : OpenFile) → ◌≡◌ {A = Option OpenFile} (Some x) (Some y) → x ≡ y
some_open x y e = cc

some_birth : (x y : Birth) → ◌≡◌ {A = Option Birth} (Some x) (Some y) → x ≡ y
some_birth x y e = cc

some_number : (x y : ℕ) → ◌≡◌ {A = Option ℕ} (Some x) (Some y) → x ≡ y
some_number x y e = cc

none_some : {A : Type 0} (i : ℕ) → ◌≡◌ {A = Option ℕ} None (Some i) → A
none_some i e = absurd (cc)

other_part : (part : Part) (k n : ℕ) → (◌≡◌ {A = Name} (Of Info n) (Of part k) → ⊥) → path (Of Info n) ≢ path (Of part k)
other_part part k n far same = far (some_name (Of Info n) (Of part k) (sym (parse-path (Of Info n)) ∙ ap parse same ∙ parse-path (Of part k))) where
  some_name : (x y : Name) → ◌≡◌ {A = Option Name} (Some x) (Some y) → x ≡ y
  some_name x y e = cc

module _ (s : State) (I : Inv s) (a : List ℕ) (own : Own) (wrote : ℕ) (may : MayDo s a own wrote) (began : ℕ) (is : may.actor.program ≡ Sender began) where
  abbrev q : Queue
  q = queue s I.role

  abbrev past : List Own
  past = may.actor.past

  abbrev d : Desk
  d = place_after None past

  abbrev row : Row
  row = row_now d own.read own.ready

  abbrev At : Row → Type 0
  At r = StandsAt s.now q a r d

  here : At row
  here = stands s I a own wrote may began is

  -- an open file that was made as another part is no info file
  else_by : (n : ℕ) (o : Option OpenFile) (how : OpenFile) (y : Entry) (role : Role) → o ≡ Some how → how.number ≡ y.number → I.role y.number ≡ role → role ≢ AsPart Info n → IsElse s.disk n o
  else_by n o how y role opened number made far other i e named same =
      let one : how ≡ other = some_open how other (sym opened ∙ e) in
      let number_is : i ≡ y.number = same ∙ ap (λ (x : OpenFile). x.number) (sym one) ∙ number in
      let info : I.role i ≡ AsPart Info n = (I.sound.suits (Of Info n) (entry s.disk.files i) (find_some s.disk.names s.disk.files (Of Info n) i named)).0 in
      far (sym made ∙ ap I.role (sym number_is) ∙ info)

  lane_made : (c : Channel) (k : ℕ) (y : Entry) → look q (Of (lane_part c) k) ≡ Some y → I.role y.number ≡ AsPart (lane_part c) k
  lane_made Local k y there = (I.sound.suits (Of LocalFile k) y there).0
  lane_made Remote k y there = (I.sound.suits (Of RemoteFile k) y there).0

  lane_far : (c : Channel) (k n : ℕ) → ◌≡◌ {A = Role} (AsPart (lane_part c) k) (AsPart Info n) → ⊥
  lane_far Local k n e = cc
  lane_far Remote k n e = cc

  bounce_far : (k n : ℕ) → ◌≡◌ {A = Role} (AsPart Bounce k) (AsPart Info n) → ⊥
  bounce_far k n e = cc

  info_apart : (k n : ℕ) → k ≢ n → ◌≡◌ {A = Role} (AsPart Info k) (AsPart Info n) → ⊥
  info_apart k n far e = far (cc)

  -- what a pass holds open
  holds_at : (r : PassRow) (p : Pass) → p.row ≡ r → PassStands s.now q a p.n p.row → PassStands s.now q a p.n r
  holds_at r p same st = subst (λ (x : PassRow). PassStands s.now q a p.n x) same st

  local_else : (n k : ℕ) (fd : Fd) (y : Entry) → look q (Of LocalFile k) ≡ Some y → s.disk.opens fd.0 ≡ Some (created y.number) → IsElse s.disk n (s.disk.opens fd.0)
  local_else n k fd y there opened = else_by n (s.disk.opens fd.0) (created y.number) y (AsPart LocalFile k) opened refl (lane_made Local k y there) (lane_far Local k n)

  remote_else : (n k : ℕ) (fd : Fd) (y : Entry) → look q (Of RemoteFile k) ≡ Some y → s.disk.opens fd.0 ≡ Some (created y.number) → IsElse s.disk n (s.disk.opens fd.0)
  remote_else n k fd y there opened = else_by n (s.disk.opens fd.0) (created y.number) y (AsPart RemoteFile k) opened refl (lane_made Remote k y there) (lane_far Remote k n)

  -- No call is due that writes the info file of a known message

  module _ (n : ℕ) (w : IsSettledIn (about q n)) where
    Spared : NeedData → Type 0
    Spared due = Spares s.disk n due

    named : s.disk.names (path (Of Info n)) ≡ Some w.info.number
    named = (found s.disk.names s.disk.files (Of Info n) w.info w.info_there).0

    creates : (name : List ℕ) → s.disk.names name ≡ None → path (Of Info n) ≢ name
    creates name free same = none_some w.info.number (sym free ∙ ap s.disk.names (sym same) ∙ named)

    start_spares : (r : StartRow) → Spares s.disk n (due_at (at.Start r) d)
    start_spares (start.Control file Opening) = tt
    start_spares (start.Control file (Going fd)) = tt
    start_spares (start.Control file (Closing fd)) = tt
    start_spares (start.Control file (Shutting fd)) = tt
    start_spares (start.ReadInfo split k Opening) = tt
    start_spares (start.ReadInfo split k (Going fd)) = tt
    start_spares (start.ReadInfo split k (Closing fd)) = tt
    start_spares (start.ReadInfo split k (Shutting fd)) = tt
    start_spares r = tt

    note_spares : (r : NoteRow) (note : Writing) (m : Marked) (name report text : List ℕ) → NoteHolds d.book.controls q a r m name report text → Spares s.disk n (note_due_at r note)
    note_spares written.Open note m name report text h = tt
    note_spares written.Create note m name report text h = creates _
    note_spares (written.Append fd done) note m name report text h =
        else_by n (s.disk.opens fd.0) (record { number = h.held.file.number; mode = h.held.mode }) h.held.file (AsPart Bounce m.n) h.held.opened.opened refl (I.sound.suits (Of Bounce m.n) h.held.file h.held.there).0
        (bounce_far m.n n)
    note_spares r note m name report text h = tt

    mark_spares : (r : MarkRow) (m : Marked) → At (at.Mark r m) → Spares s.disk n (due_at (at.Mark r m) d)
    mark_spares mark.Noting m st = let h = st.rests.1 in note_spares d.note.row d.note m _ _ _ h.holds
    mark_spares (mark.Write fd) m st =
        let h = st.rests.1.0 in
        else_by n (s.disk.opens fd.0) _ h.file (AsPart (lane_part m.channel) m.n) h.opened.opened refl (lane_made m.channel m.n h.file h.there) (lane_far m.channel m.n n)
    mark_spares r m st = tt

    -- the number of a pass isn't preprocessed
    passes_another : (p : Pass) (r : PassRow) → p.row ≡ r → PassStands s.now q a p.n p.row → (fd : Fd) (done : ℕ) → r ≡ todo.Append target.Info fd done → p.n ≢ n
    passes_another p r same st fd done e number =
        let st_at = holds_at (todo.Append target.Info fd done) p (same ∙ e) st in
        let queued = (st_at.rests tt).rest in
        let none = ap (λ (k : ℕ). in_todo (about q k).parts) number ∙ w.no_todo in
        absurd (cc (sym none ∙ queued.todo_there))

    pass_spares : (r : PassRow) (p : Pass) → p.row ≡ r → TodoStands d.book.controls s.now q a r p → Spares s.disk n (pass_table.due_at r p)
    pass_spares (todo.Create t) p same st = creates _
    pass_spares (todo.Append target.Info fd done) p same st =
        let h = (holds_at (todo.Append target.Info fd done) p same st.stands).holds in
        else_by n (s.disk.opens fd.0) (created h.file.number) h.file (AsPart Info p.n) h.opened.opened refl (I.sound.suits (Of Info p.n) h.file h.there).0
        (info_apart p.n n (passes_another p (todo.Append target.Info fd done) same st.stands fd done refl))
    pass_spares (todo.Append target.Local fd done) p same st = let h = (holds_at (todo.Append target.Local fd done) p same st.stands).holds in local_else n p.n fd h.file h.there h.opened.opened
    pass_spares (todo.Append target.Remote fd done) p same st = let h = (holds_at (todo.Append target.Remote fd done) p same st.stands).holds in remote_else n p.n fd h.file h.there h.opened.opened
    pass_spares todo.StatMess p same st = tt
    pass_spares r p same st = tt

    return_spares : (r : ReturnRow) (x : Returning) → Spares s.disk n (return_due_at r x)
    return_spares back.Open x = tt
    return_spares r x = tt

    finish_spares : (r : FinishRow) (k : ℕ) → Spares s.disk n (due_at (at.Finish r k) d)
    finish_spares finish.Return k = return_spares d.bounce.row d.bounce
    finish_spares r k = tt

    sweep_spares : (r : SweepRow) → Spares s.disk n (due_at (at.Sweep r) d)
    sweep_spares sweep.First = tt
    sweep_spares r = tt

    row_spares : (r : Row) → At r → Spares s.disk n (due_at r d)
    row_spares (at.Start r) st = start_spares r
    row_spares (at.Mark r m) st = mark_spares r m st
    row_spares (at.ReadFile c k begun Opening) st = tt
    row_spares (at.ReadFile c k begun (Going fd)) st = tt
    row_spares (at.ReadFile c k begun (Closing fd)) st = tt
    row_spares (at.ReadFile c k begun (Shutting fd)) st = tt
    row_spares at.InTodo st = pass_spares d.pass.row d.pass refl st.rests.1.1
    row_spares (at.Finish r k) st = finish_spares r k
    row_spares (at.Sweep r) st = sweep_spares r
    row_spares r st = tt

  abbrev Then : NeedData → GotData → Disk
  Then need got = disk_after s.disk own.read need got wrote

  known_kept : (need : NeedData) (got : GotData) → due_at row d ≡ need → ComesOf s a need got wrote → IsRunBy (Next None) past → (n : ℕ) → known_in past n ≡ true → SameInfo s.disk (Then need got) n
  known_kept (needs.File c) (came.Answered told) e comes run n known = effect_spares s.disk n own.read c told.answer wrote comes.0 (subst (Spares s.disk n) e (row_spares n settled row here)) where
    w : (k : Known) × (k.n ≡ n) × Knows row (about q k.n) k
    w = known_with (λ (k : Known). Knows row (about q k.n) k) n d.book.messages.known here.knows.known (known_exactly None past run n ∙ known)

    settled : IsSettledIn (about q n)
    settled = subst (λ (k : ℕ). IsSettledIn (about q k)) w.1 (settled_of row (about q w.0.n) w.0 (none_leaves row d w.0.n c e) w.2)
  known_kept need got e comes run n known = λ moment h. h

  -- Nor one of the message that becomes known next, unless the event tells so

  pass_next : (r : PassRow) (p : Pass) → p.row ≡ r → TodoStands d.book.controls s.now q a r p → (it : Birth) → born (has_written r) p ≡ Some it → Spares s.disk it.n (pass_table.due_at r p)
  pass_next (todo.Create target.Local) p same st it e = λ free. other_part LocalFile p.n it.n (λ x. cc)
  pass_next (todo.Create target.Remote) p same st it e = λ free. other_part RemoteFile p.n it.n (λ x. cc)
  pass_next (todo.Append target.Local fd done) p same st it e = let h = (holds_at (todo.Append target.Local fd done) p same st.stands).holds in local_else it.n p.n fd h.file h.there h.opened.opened
  pass_next (todo.Append target.Remote fd done) p same st it e = let h = (holds_at (todo.Append target.Remote fd done) p same st.stands).holds in remote_else it.n p.n fd h.file h.there h.opened.opened
  pass_next (todo.Sync t fd) p same st it e = tt
  pass_next (todo.Close t fd) p same st it e = tt
  pass_next todo.Give p same st it e = tt
  pass_next todo.Answer p same st it e = tt
  pass_next r p same st it e = absurd (cc)

  next_spares : (r : Row) → At r → (it : Birth) → coming r d.pass ≡ Some it → Spares s.disk it.n (due_at r d)
  next_spares (at.Start (start.StatLocal split n birth)) st it e = tt
  next_spares (at.Start (start.StatRemote split n birth local)) st it e = tt
  next_spares at.InTodo st it e = pass_next d.pass.row d.pass refl st.rests.1.1 it e
  next_spares r st it e = absurd (cc)

  by_spares : (need : NeedData) (got : GotData) (n : ℕ) → ComesOf s a need got wrote → Spares s.disk n need → SameInfo s.disk (Then need got) n
  by_spares (needs.File c) (came.Answered told) n comes spares = effect_spares s.disk n own.read c told.answer wrote comes.0 spares
  by_spares need got n comes spares = λ moment h. h

  -- What it tells is so

  stat_told : (n : ℕ) (told : Answer) → Fits s.disk (call.Stat (path (Of Info n))) told wrote → (it : Birth) → looked_at n told ≡ Some it → (moment : ℕ)
      → HasInfo (effect s.disk own.read (call.Stat (path (Of Info n))) told wrote) it.n moment → it.moment ≡ moment
  stat_told n (answer.Stat stat) fits it e moment h =
      subst (λ (x : Birth). HasInfo s.disk x.n moment → x.moment ≡ moment) (some_birth (record { n = n; moment = stat.moment }) it e)
      (λ has. fits.moment_is ∙ ap (λ (k : ℕ). (s.disk.files k).moment) (some_number stat.number has.0 (sym fits.number ∙ has.1)) ∙ has.2) h
  stat_told n told fits it e moment h = absurd (cc)

  append_told : (n : ℕ) (fd : Fd) (bytes : List ℕ) (y : Entry) → look q (Of Info n) ≡ Some y → s.disk.opens fd.0 ≡ Some (created y.number) → (told : Answer) (it : Birth) → written_at n own.read told ≡ Some it → (moment : ℕ)
      → HasInfo (effect s.disk own.read (call.Append fd bytes) told wrote) it.n moment → it.moment ≡ moment
  append_told n fd bytes y there opened answer.Done it e moment h =
      subst (λ (x : Birth). HasInfo (changed s.disk (s.disk.opens fd.0) (grown own.read bytes)) x.n moment → x.moment ≡ moment) (some_birth (record { n = n; moment = own.read }) it e)
      (λ has. now (subst (λ (o : Option OpenFile). HasInfo (changed s.disk o (grown own.read bytes)) n moment) opened has)) h
    where
      now : HasInfo (changed s.disk (Some (created y.number)) (grown own.read bytes)) n moment → own.read ≡ moment
      now has =
          let number : has.0 ≡ y.number = some_number has.0 y.number (sym has.1 ∙ (found s.disk.names s.disk.files (Of Info n) y there).0) in
          let grew : put s.disk.files y.number (grown own.read bytes (s.disk.files y.number)) has.0 ≡ grown own.read bytes (s.disk.files y.number) =
          ap (put s.disk.files y.number (grown own.read bytes (s.disk.files y.number))) number ∙ put_same s.disk.files y.number (grown own.read bytes (s.disk.files y.number)) in
          sym (ap (λ (f : File). f.moment) grew) ∙ has.2
  append_told n fd bytes y there opened told it e moment h = absurd (cc)

  pass_told : (r : PassRow) (p : Pass) → p.row ≡ r → (got : GotData) → TodoStands d.book.controls s.now q a r p → ComesOf s a (pass_table.due_at r p) got wrote → (it : Birth) → pass_tells r p.n own.read got ≡ Some it → (moment : ℕ)
      → HasInfo (Then (pass_table.due_at r p) got) it.n moment → it.moment ≡ moment
  pass_told (todo.Append target.Info fd done) p same (came.Answered told) st comes it e moment h =
      let held = (holds_at (todo.Append target.Info fd done) p same st.stands).holds in append_told p.n fd _ held.file held.there held.opened.opened told.answer it e moment h
  pass_told r p same got st comes it e moment h = absurd (cc)

  row_told : (r : Row) (got : GotData) → At r → ComesOf s a (due_at r d) got wrote → (it : Birth) → tells r d.pass own.read got ≡ Some it → (moment : ℕ) → HasInfo (Then (due_at r d) got) it.n moment → it.moment ≡ moment
  row_told (at.Start (start.StatInfo split n)) (came.Answered told) st comes it e moment h = stat_told n told.answer comes.0 it e moment h
  row_told at.InTodo got st comes it e moment h = pass_told d.pass.row d.pass refl got st.rests.1.1 comes it e moment h
  row_told r got st comes it e moment h = absurd (cc)

  came_here : ComesOf s a (due_at row d) own.came wrote
  came_here = comes_there s I a own wrote may began is

  tells_here : IsRunBy (Next None) past → TellsInfos (info_in s.disk) (info_in (Then (due_at row d) own.came)) None past own
  tells_here run = record {
    told = λ it e moment later. row_told row own.came here came_here it e moment (has_info (Then (due_at row d) own.came) it.n moment later);
    known = λ n moment held known later. info_is s.disk n moment (known_kept (due_at row d) own.came refl came_here run n known moment (has_info (Then (due_at row d) own.came) n moment later));
    next = λ it e none moment later.
        info_is s.disk it.n moment
        (by_spares (due_at row d) own.came it.n came_here (next_spares row here it (arrives_coming d.row d.pass d own.read own.ready ∙ e)) moment (has_info (Then (due_at row d) own.came) it.n moment later));
  }

  pub own_tells : IsRunBy (Next None) past → TellsInfos (info_in s.disk) (info_in (Then own.due own.came)) None past own
  own_tells run = subst (λ (x : NeedData). TellsInfos (info_in s.disk) (info_in (Then x own.came)) None past own) (due s I a own wrote may began is) (tells_here run)

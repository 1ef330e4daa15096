-- Where nothing fails no finish is put off.
use Rattle.std.proofs.Common.{◌≡◌, ℕ, List, ◌∷◌, Bool, true, false, Option, Some, None, refl, sym, ap, ◌∙◌, subst}
use Rattle.std.proofs.lemmas.List.Elements.{All-contains}
use Rattle.std.specs.Prelude.{◌&&◌}
use Rattle.bounce_record.specs.Returning.{due_at as return_due_at}
use Rattle.bounce_record.specs.declared.return_row.ReturnRow.{ReturnRow}
use Rattle.bounce_record.specs.declared.return_row.ReturnRow.TheVariants as back
use Rattle.call_fs.specs.Apply.{Fits}
use Rattle.call_fs.specs.Columns.{IsAnswerTo}
use Rattle.call_fs.specs.Disk.{Disk}
use Rattle.call_fs.specs.Past.{IsRunBy}
use Rattle.call_fs.specs.Program.{MayCome}
use Rattle.call_fs.specs.declared.calls.Answer.TheVariants as answer
use Rattle.call_fs.specs.declared.calls.Answer.{Answer}
use Rattle.call_fs.specs.declared.calls.CallData.TheVariants as call
use Rattle.call_fs.specs.declared.calls.Fd.{Fd}
use Rattle.call_fs.specs.declared.calls.FsError.TheVariants as why
use Rattle.call_fs.specs.declared.calls.How.TheVariants as how
use Rattle.call_fs.specs.declared.past.ChildData.TheVariants as child
use Rattle.call_fs.specs.declared.past.GotData.TheVariants as came
use Rattle.call_fs.specs.declared.past.GotData.{GotData}
use Rattle.call_fs.specs.declared.past.NeedData.TheVariants as needs
use Rattle.call_fs.specs.declared.past.NeedData.{NeedData}
use Rattle.call_fs.specs.declared.past.Own.{Own}
use Rattle.call_fs.specs.declared.program.Port.TheVariants as port
use Rattle.queue_law.proofs.Looks.{found}
use Rattle.queue_law.specs.Numbers.{Entry, IsPreprocessed, Queue, about, look}
use Rattle.queue_paths.proofs.Paths.{parse-path}
use Rattle.queue_paths.specs.Names.Name.{Of}
use Rattle.queue_paths.specs.Names.Part.{Bounce as BounceFile, Info as InfoFile, Mess as MessFile}
use Rattle.queue_paths.specs.Names.{Name, Part, path}
use Rattle.send_core.specs.declared.desk.Desk.{Desk}
use Rattle.send_parts.specs.declared.row.Row.TheVariants as at
use Rattle.send_parts.specs.declared.row.Row.{Row}
use Rattle.send_core.specs.Table.{Next, due_at, place_after, row_now}
use Rattle.send_known.specs.declared.known.Known.{Known}
use Rattle.send_known.specs.Known.{sender_of}
use Rattle.send_parts.specs.declared.rows.FinishRow.TheVariants as finish
use Rattle.send_parts.specs.declared.rows.FinishRow.{FinishRow}
use Rattle.send_runs.proofs.Searching.{SearchedAt, searched_here}
use Rattle.send_runs.proofs.Unfailing.{IdleAt, arrives_idle, file_fine, give_fine, idle_kept, mark_fine, pass_fine, start_fine, sweep_fine, take_fine, unlink_fine}
use Rattle.send_runs.specs.FinishMoments.{fails_by, has_misread, has_searched, is_message, is_misread, isnt_opened, isnt_unlinked, returning}
use Rattle.retry_law.proofs.Finishes.{finishes_at_once}
use Rattle.retry_law.specs.Finishes.{AreUnfailing}
use Rattle.program_law.specs.Sender.Knows.{IsLeaving, IsRemoved, IsSettledIn, Knows}
use Rattle.program_law.specs.Sender.Knows.Knows.{Leaves, Stays}
use Rattle.program_law.specs.Sender.Rows.{IsIdle, ReturnHolds}
use Rattle.program_law.specs.Sender.Stands.{StandsAt}
use Rattle.world_events.specs.declared.event.Program.{Program}
use Rattle.world_events.specs.declared.event.Program.TheVariants.{Sender}
use Rattle.mail_world.proofs.Coming.{may_come}
use Rattle.mail_world.specs.History.{ComesOf, MayBear, MayDo, State, next_of}
use Rattle.mail_world.specs.Untouched.{queue}
use Rattle.world_law.proofs.Ran.{have_run}
use Rattle.world_law.specs.Inv.{Inv}
use Rattle.settle_law.specs.inside.Finishes.{BouncesEnd, KnownFinishAtOnce}
use Rattle.settle_law.specs.Well.{came_well, goes_well, is_well_answered}
use Rattle.settle_law.proofs.BouncesTaken.{bounces_end}
use Rattle.settle_law.proofs.Pasts.{sender_pasts}
use Rattle.settle_law.proofs.ServedPasts.{at_row, by_answer, comes_at, sorted}

-- No read fails

read_well : (fd : Fd) (place len : ℕ) (told : Answer) (bytes : List ℕ) → IsAnswerTo (call.ReadAt fd place len) told → is_well_answered told ≡ true
    → is_misread (needs.File (call.ReadAt fd place len)) (came.Answered (record { answer = told; bytes = bytes })) ≡ false
read_well fd place len (answer.Count count) bytes fit well = refl
read_well fd place len (answer.Refused why.Fault) bytes fit well = absurd (cc)
read_well fd place len told bytes fit well = absurd fit

none_misread : (due : NeedData) (got : GotData) → MayCome due got → came_well got ≡ true → is_misread due got ≡ false
none_misread (needs.File (call.ReadAt fd place len)) (came.Answered told) may well = read_well fd place len told.answer told.bytes may well
none_misread due got may well = refl

-- What comes of the calls of a finish

bounce_opened : (d : Disk) (k n : ℕ) (told : Answer) (wrote : ℕ) → Fits d (call.Open (path (Of BounceFile k)) how.Read) told wrote → is_well_answered told ≡ true → isnt_opened n (Some (Of BounceFile k)) told ≡ false
bounce_opened d k n (answer.Opened fd) wrote fits well = refl
bounce_opened d k n (answer.Refused why.NotThere) wrote fits well = refl
bounce_opened d k n (answer.Refused why.Fault) wrote fits well = absurd (cc)
bounce_opened d k n (answer.Refused why.Memory) wrote fits well = absurd (cc)
bounce_opened d k n told wrote fits well = absurd fits

message_opened : (d : Disk) (k n i : ℕ) (told : Answer) (wrote : ℕ) → Fits d (call.Open (path (Of MessFile k)) how.Read) told wrote → d.names (path (Of MessFile k)) ≡ Some i → is_well_answered told ≡ true
    → isnt_opened n (Some (Of MessFile k)) told ≡ false
message_opened d k n i (answer.Opened fd) wrote fits there well = refl
message_opened d k n i (answer.Refused why.NotThere) wrote fits there well = absurd (cc (sym fits ∙ there))
message_opened d k n i (answer.Refused why.Fault) wrote fits there well = absurd (cc)
message_opened d k n i (answer.Refused why.Memory) wrote fits there well = absurd (cc)
message_opened d k n i told wrote fits there well = absurd fits

file_unlinked : (d : Disk) (x : Name) (searched : Bool) (n i : ℕ) (told : Answer) (wrote : ℕ) → Fits d (call.Unlink (path x)) told wrote → d.names (path x) ≡ Some i → is_well_answered told ≡ true
    → isnt_unlinked searched n (Some x) told ≡ false
file_unlinked d x searched n i answer.Done wrote fits there well = refl
file_unlinked d x searched n i (answer.Refused why.NotThere) wrote fits there well = absurd (cc (sym fits ∙ there))
file_unlinked d x searched n i (answer.Refused why.Fault) wrote fits there well = absurd (cc)
file_unlinked d x searched n i told wrote fits there well = absurd fits

-- Where no message is left

none_leaves : (row : FinishRow) (m n : ℕ) → (IsRemoved row → ⊥) → IsLeaving (at.Finish row m) n → ⊥
none_leaves row m n stays leaves = stays leaves.0

-- An event of a sender

module _ (s : State) (I : Inv s) (a : List ℕ) (own : Own) (wrote : ℕ) (may : MayDo s a own wrote) (start : ℕ) (is : may.actor.program ≡ Sender start) (well : came_well own.came ≡ true)
    (ran : IsRunBy (Next None) may.actor.past) (clear : has_misread may.actor.past ≡ false) (bounces : (slot : ℕ) → own.due ≡ needs.Take (port.Status slot) → own.came ≡ came.Ended 0) (n : ℕ) where
  abbrev q : Queue
  q = queue s I.role

  abbrev past : List Own
  past = may.actor.past

  abbrev d : Desk
  d = place_after None past

  abbrev row : Row
  row = row_now d own.read own.ready

  abbrev f : Option ℕ
  f = returning past

  abbrev searched : Bool
  searched = has_searched past

  abbrev misread : Bool
  misread = has_misread past

  abbrev Fine : NeedData → GotData → Type 0
  Fine due got = fails_by n f searched misread due got ≡ false

  idle_at : (r : Row) → row ≡ r → IdleAt r f
  idle_at r e = subst (λ (x : Row). IdleAt x f) e (arrives_idle d.row d own.read own.ready f (idle_kept None past ran))

  searched_at : (r : Row) → row ≡ r → SearchedAt r d.pass searched
  searched_at r e = subst (λ (x : Row). SearchedAt x d.pass searched) e (searched_here None past own.read own.ready ran)

  stands_at : (r : Row) → row ≡ r → StandsAt s.now q a r d
  stands_at r e = at_row s I a own wrote may start is well r e

  coming_at : (r : Row) → row ≡ r → ComesOf s a (due_at r d) own.came wrote
  coming_at r e = comes_at s I a own wrote may start is well r e

  close_fine : (fd : Fd) (got : GotData) → Fine (needs.File (call.Close fd)) got
  close_fine fd (came.Answered told) = ap (λ (b : Bool). b && is_message n f) clear
  close_fine fd got = refl

  -- what a known message has that isn't left
  settled : (r : Row) (k : ℕ) → StandsAt s.now q a r d → IsIdle k d.book.messages.known → ((m : ℕ) → IsLeaving r m → ⊥) → IsSettledIn (about q k)
  settled r k st idle stays = subst (λ (i : ℕ). IsSettledIn (about q i)) idle.number (by (All-contains (λ (y : Known). Knows r (about q y.n) y) d.book.messages.known idle.it st.knows.known idle.there)) where
    by : Knows r (about q idle.it.n) idle.it → IsSettledIn (about q idle.it.n)
    by (Stays known) = known.sorted
    by (Leaves leaves) = absurd (stays idle.it.n leaves)

  there : (part : Part) (k : ℕ) (y : Entry) → look q (Of part k) ≡ Some y → (i : ℕ) × (s.disk.names (path (Of part k)) ≡ Some i)
  there part k y e = (y.number, (found q.disk.names q.disk.files (Of part k) y e).0)

  start_fine_at : (room : ℕ) (got : GotData) → ComesOf s a (needs.Start (child.Bounce room)) got wrote → came_well got ≡ true → Fine (needs.Start (child.Bounce room)) got
  start_fine_at room (came.Started pid) comes well = refl
  start_fine_at room came.Failed comes well = absurd (cc)
  start_fine_at room came.Memory comes well = absurd (cc)
  start_fine_at room got comes well = absurd comes

  give_fine_at : (bytes : List ℕ) (got : GotData) → ComesOf s a (needs.Give (port.Program 0) bytes) got wrote → came_well got ≡ true → Fine (needs.Give (port.Program 0) bytes) got
  give_fine_at bytes came.Gave comes well = refl
  give_fine_at bytes came.Failed comes well = absurd (cc)
  give_fine_at bytes got comes well = absurd comes

  return_fine : (r : ReturnRow) (k : ℕ) → d.bounce.n ≡ k → ComesOf s a (return_due_at r d.bounce) own.came wrote → own.due ≡ return_due_at r d.bounce → ReturnHolds d.book.controls q a r d.bounce k (sender_of k d.book.messages.known)
      → IsPreprocessed (about q k) → Fine (return_due_at r d.bounce) own.came
  return_fine (back.ReadNotes fd) k same comes due holds pre = refl
  return_fine (back.CloseNotes fd) k same comes due holds pre = close_fine fd own.came
  return_fine back.OpenMessage k same comes due holds pre =
      by_answer s a (λ g. came_well g ≡ true → Fine (needs.File (call.Open (path (Of MessFile d.bounce.n)) how.Read)) g) (call.Open (path (Of MessFile d.bounce.n)) how.Read) wrote own.came comes
      (λ answers bytes fits well.
      let i = there MessFile k pre.taken.mess pre.taken.mess_there in
      ap (λ (o : Option Name). isnt_opened n o answers) (parse-path (Of MessFile d.bounce.n))
      ∙ message_opened s.disk d.bounce.n n i.0 answers wrote fits (ap (λ (m : ℕ). s.disk.names (path (Of MessFile m))) same ∙ i.1) well) well
  return_fine (back.ReadMessage fd) k same comes due holds pre = refl
  return_fine (back.CloseMessage fd) k same comes due holds pre = close_fine fd own.came
  return_fine (back.Shut fd) k same comes due holds pre = close_fine fd own.came
  return_fine back.Start k same comes due holds pre = start_fine_at d.bounce.room own.came comes well
  return_fine (back.Give pid) k same comes due holds pre = give_fine_at d.bounce.input own.came comes well
  return_fine (back.Await pid) k same comes due holds pre = ap (λ (g : GotData). fails_by n f searched misread (needs.Take (port.Status 0)) g) (bounces 0 due)
  return_fine back.Unlink k same comes due holds pre =
      by_answer s a (λ g. came_well g ≡ true → Fine (needs.File (call.Unlink (path (Of BounceFile d.bounce.n)))) g) (call.Unlink (path (Of BounceFile d.bounce.n))) wrote own.came comes
      (λ answers bytes fits well.
      let i = there BounceFile k holds.file holds.there in
      ap (λ (o : Option Name). isnt_unlinked searched n o answers) (parse-path (Of BounceFile d.bounce.n))
      ∙ file_unlinked s.disk (Of BounceFile d.bounce.n) searched n i.0 answers wrote fits (ap (λ (m : ℕ). s.disk.names (path (Of BounceFile m))) same ∙ i.1) well) well
  return_fine back.Discard k same comes due holds pre =
      by_answer s a (λ g. came_well g ≡ true → Fine (needs.File (call.Unlink (path (Of BounceFile d.bounce.n)))) g) (call.Unlink (path (Of BounceFile d.bounce.n))) wrote own.came comes
      (λ answers bytes fits well.
      let i = there BounceFile k holds.file holds.there in
      ap (λ (o : Option Name). isnt_unlinked searched n o answers) (parse-path (Of BounceFile d.bounce.n))
      ∙ file_unlinked s.disk (Of BounceFile d.bounce.n) searched n i.0 answers wrote fits (ap (λ (m : ℕ). s.disk.names (path (Of BounceFile m))) same ∙ i.1) well) well
  return_fine other k same comes due holds pre = absurd holds

  finish_fine : (r : FinishRow) (k : ℕ) → row ≡ at.Finish r k → own.due ≡ due_at (at.Finish r k) d → Fine (due_at (at.Finish r k) d) own.came
  finish_fine finish.OpenBounce k e due =
      by_answer s a (λ g. came_well g ≡ true → Fine (needs.File (call.Open (path (Of BounceFile k)) how.Read)) g) (call.Open (path (Of BounceFile k)) how.Read) wrote own.came (coming_at (at.Finish finish.OpenBounce k) e)
      (λ answers bytes fits well. ap (λ (o : Option Name). isnt_opened n o answers) (parse-path (Of BounceFile k)) ∙ bounce_opened s.disk k n answers wrote fits well) well
  finish_fine finish.Return k e due =
      let st = stands_at (at.Finish finish.Return k) e in
      let back = st.rests.1 in
      return_fine d.bounce.row k back.number (coming_at (at.Finish finish.Return k) e) due back.holds
      (sorted (about q k) (I.sound.fine k) (settled (at.Finish finish.Return k) k st back.idle (λ m leaves. none_leaves finish.Return k m (λ x. x) leaves)))
  finish_fine finish.UnlinkInfo k e due =
      let st = stands_at (at.Finish finish.UnlinkInfo k) e in
      let w = settled (at.Finish finish.UnlinkInfo k) k st st.rests.1.0 (λ m leaves. none_leaves finish.UnlinkInfo k m (λ x. x) leaves) in
      let i = there InfoFile k w.info w.info_there in
      by_answer s a (λ g. came_well g ≡ true → Fine (needs.File (call.Unlink (path (Of InfoFile k)))) g) (call.Unlink (path (Of InfoFile k))) wrote own.came (coming_at (at.Finish finish.UnlinkInfo k) e)
      (λ answers bytes fits well. ap (λ (o : Option Name). isnt_unlinked searched n o answers) (parse-path (Of InfoFile k)) ∙ file_unlinked s.disk (Of InfoFile k) searched n i.0 answers wrote fits i.1 well) well
  finish_fine finish.Give k e due = refl
  finish_fine finish.Take k e due = refl
  finish_fine r k e due = refl

  row_fine : (r : Row) → row ≡ r → own.due ≡ due_at r d → Fine (due_at r d) own.came
  row_fine (at.Start r) e due = start_fine f searched misread r d (idle_at (at.Start r) e) own.came n
  row_fine (at.Turn p) e due = refl
  row_fine (at.TakeLink c) e due = take_fine f searched misread c d own.came n
  row_fine (at.Mark r m) e due = mark_fine f searched misread r m d (idle_at (at.Mark r m) e) own.came n
  row_fine (at.UnlinkFile c k p) e due = unlink_fine f searched misread c k own.came n
  row_fine (at.ReadFile c k begun reading) e due = file_fine f searched misread reading c k begun d (idle_at (at.ReadFile c k begun reading) e) own.came n
  row_fine (at.Request c) e due = give_fine f searched misread c d own.came n
  row_fine (at.FindTodo search) e due = refl
  row_fine at.InTodo e due = pass_fine f searched misread d.pass.row d.pass (idle_at at.InTodo e) (searched_at at.InTodo e) own.came n
  row_fine (at.Finish r k) e due = finish_fine r k e due
  row_fine (at.Sweep r) e due = sweep_fine f searched misread r d own.came n
  row_fine (at.Ended status) e due = refl

  unfailing : Fine own.due own.came
  unfailing =
      let due : own.due ≡ due_at row d = sym (subst (λ (p : Program). next_of p past own.read own.ready ≡ own.due) is may.due) in
      ap (λ (x : NeedData). fails_by n f searched misread x own.came) due ∙ row_fine row refl due

-- Each past

abbrev Goes : List Own → Type 0
Goes past = (has_misread past ≡ false) × (BouncesEnd past → (n : ℕ) → AreUnfailing n past)

acts : (s : State) (I : Inv s) (a : List ℕ) (own : Own) (wrote : ℕ) (may : MayDo s a own wrote) (start : ℕ) → may.actor.program ≡ Sender start → came_well own.came ≡ true
    → IsRunBy (Next None) may.actor.past → Goes may.actor.past → Goes (own ∷ may.actor.past)
acts s I a own wrote may start is well ran held = (
  none_misread own.due own.came (may_come s a own.due own.came wrote may.came) well,
  λ bounces n. (held.1 bounces.0 n, λ known. unfailing s I a own wrote may start is well ran held.0 bounces.1 n),
)

bears : (s : State) (a : List ℕ) (own : Own) (b : List ℕ) (program : Program) (may : MayBear s a own b program) (start : ℕ) → may.actor.program ≡ Sender start
    → IsRunBy (Next None) may.actor.past → Goes may.actor.past → Goes (own ∷ may.actor.past)
bears s a own b program may start is ran held =
    let past : List Own = may.actor.past in (
      ap (λ (due : NeedData). is_misread due own.came) may.starts,
      λ bounces n. (
        held.1 bounces.0 n,
        λ known.
            ap (λ (due : NeedData). fails_by n (returning past) (has_searched past) (has_misread past) due own.came) may.starts
            ∙ ap (λ (got : GotData). fails_by n (returning past) (has_searched past) (has_misread past) (needs.Start may.asked) got) may.came,
      ),
    )

pub known_finish_at_once : KnownFinishAtOnce
known_finish_at_once d h g a x start is program k there =
    let goes = sender_pasts goes_well (λ s. Unit {0}) Goes (refl, λ none n. tt) (λ s I w. acts s I) (λ s I w. bears s) d (λ h legal well. tt) h g.legal g.well a x is start program in
    finishes_at_once None x.past (subst (λ (p : Program). IsRunBy (next_of p) x.past) program (have_run d h g.legal a x is)) k there (goes.1 (bounces_end d h g a x start is program) k.n)

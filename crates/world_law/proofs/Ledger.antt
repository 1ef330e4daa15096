-- Who is accounted for by the ledgers is accounted for by what happened.
use Rattle.std.proofs.Common.{◌≡◌, ⊎_elim, ℕ, ◌≤◌, List, [], ◌∷◌, Bool, true, false, not, ◌&&◌, ◌||◌, Option, Some, None, refl, sym, ap, ◌∙◌, subst, arith, bytes_eq}
use Rattle.std.proofs.lemmas.Bool.{cases_Bool}
use Rattle.std.specs.List.{list_any}
use Rattle.bounce_record.specs.Notes.{count}
use Rattle.bounce_record.specs.declared.return_row.ReturnRow.{ReturnRow}
use Rattle.bounce_record.specs.declared.return_row.ReturnRow.TheVariants as back
use Rattle.bounce_record.specs.Returning.{due_at as return_due_at}
use Rattle.bounce_record.specs.Writing.{bounce_path}
use Rattle.call_fs.specs.Apply.{effect}
use Rattle.call_fs.specs.Disk.{Among, Disk, File}
use Rattle.call_fs.specs.declared.calls.Answer.{Answer}
use Rattle.call_fs.specs.declared.calls.Answer.TheVariants as answer
use Rattle.call_fs.specs.declared.calls.CallData.TheVariants as call
use Rattle.address_rules.specs.declared.controls.Controls.{Controls}
use Rattle.call_fs.specs.declared.calls.Fd.{Fd}
use Rattle.call_fs.specs.declared.calls.How.TheVariants.{Read}
use Rattle.call_fs.specs.declared.modes.Mode.TheVariants.{Opened}
use Rattle.call_fs.specs.declared.calls.Told.{Told}
use Rattle.call_fs.specs.declared.past.GotData.{GotData}
use Rattle.call_fs.specs.declared.past.GotData.TheVariants as got
use Rattle.call_fs.specs.declared.past.NeedData.{NeedData}
use Rattle.call_fs.specs.declared.past.NeedData.TheVariants as needs
use Rattle.call_fs.specs.declared.past.Own.{Own}
use Rattle.mail_bytes.specs.Moments.{IsMoment}
use Rattle.queue_inject.specs.Texts.{recipients_of}
use Rattle.local_deliver.specs.Deeds.{read_of}
use Rattle.local_deliver.specs.Deeds.FileText.{Whole}
use Rattle.queue_paths.specs.Names.{path}
use Rattle.queue_paths.specs.Names.Name.{Of}
use Rattle.queue_paths.specs.Names.Part.{Bounce}
use Rattle.queue_law.specs.Accounts.{Accounted, IsHeldIn, is_delivered, is_failed, is_lost, is_open, is_to_tell}
use Rattle.queue_law.specs.Accounts.Accounted.{Delivered as ByDelivered, Dropped as ByDropped, Held as ByHeld, Pending as ByPending, Returned as ByReturned, Unmarked as ByUnmarked}
use Rattle.queue_law.specs.Books.{Injection, IsInjected, spot_in}
use Rattle.queue_law.specs.Ledgers.{NotesRead, Spot}
use Rattle.queue_law.specs.Ledgers.Line.{Drops, Reads}
use Rattle.queue_law.specs.Notes.{counted_as, is_spot, name_at, name_in, namer}
use Rattle.queue_law.specs.Numbers.{Entry, Queue, look}
use Rattle.queue_law.specs.Routes.{Recipient}
use Rattle.queue_law.proofs.Looks.{found}
use Rattle.queue_law.proofs.Notes.{fewer}
use Rattle.send_core.specs.Booked.{booked_at, finished_at, if_done, if_ok, if_zero, marked_at, reported_when, routed_at}
use Rattle.send_core.specs.declared.desk.Desk.{Desk}
use Rattle.send_parts.specs.declared.row.Row.{Row}
use Rattle.send_parts.specs.declared.row.Row.TheVariants as at
use Rattle.send_core.specs.Desk.{told}
use Rattle.send_core.specs.Papers.{controls_told}
use Rattle.send_core.specs.Table.{place_after as sender_after, due_at, row_now}
use Rattle.send_jobs.specs.Bookings.{Booking}
use Rattle.send_jobs.specs.Bookings.Booking.{Dropped, ReadNotes, Returned}
use Rattle.send_parts.specs.declared.rows.FinishRow.{FinishRow}
use Rattle.send_parts.specs.declared.rows.FinishRow.TheVariants as finish
use Rattle.send_known.specs.Known.{sender_of}
use Rattle.send_parts.specs.Replies.{said}
use Rattle.program_law.specs.Sender.Rows.{ReturnHolds, ReturnStands, RowStands, works}
use Rattle.program_law.specs.Sender.Stands.{HasControls, StandsAt}
use Rattle.program_law.proofs.Sender.Arrive.{arrived}
use Rattle.world_events.specs.declared.event.Program.TheVariants.{Sender}
use Rattle.mail_world.specs.History.{Actor, Event, Legal, Life, MayDo, State, acted, after, disk_after, happens, next_of}
use Rattle.mail_world.specs.History.Event.{Act}
use Rattle.mail_world.specs.History.Life.{Alive}
use Rattle.mail_world.specs.Untouched.{queue}
use Rattle.world_law.specs.Bounces.{IsNamedInBounce}
use Rattle.world_law.specs.Inv.{Inv}
use Rattle.world_law.specs.Ledger.{AreLost, IsAccounted, IsTold, WasDropped, WasRead, WasReturned}
use Rattle.world_law.specs.Ledger.IsAccounted.{Delivered, Dropped as IsDropped, Held, Pending, Returned as IsReturned, Unmarked}
use Rattle.world_law.specs.Lives.{IsLifeOf, SenderDid}
use Rattle.world_law.specs.Routed.{namer_told, routes_told}
use Rattle.world_law.specs.Reported.{WasTaken}
use Rattle.mail_world.proofs.BounceReads.{all_read}
use Rattle.queue_law.proofs.Accounted.{among_found, found_among}
use Rattle.send_runs.proofs.Entries.{each_among, marked_each, routed_each, when_each, zero_each}
use Rattle.world_law.proofs.Histories.{always, returned_recipients_are_named, sender_fares}
use Rattle.world_law.proofs.Lives.{legal_until, lines_were_entered}
use Rattle.world_law.proofs.Ran.{have_run}
use Rattle.world_law.proofs.Readings.{read_now}
use Rattle.world_law.proofs.Reported.{ledgers_are_of_reports}
use Rattle.world_law.proofs.Routed.{ledgers_are_routed}
use Rattle.world_law.proofs.Tenants.{some_actor}

-- At which rows a sender reads notes or drops them

-- neither
abbrev IsQuiet : Booking → Type 0
IsQuiet (ReadNotes n notes) = ⊥
IsQuiet (Dropped n) = ⊥
IsQuiet e = Unit {0}

-- what is entered if the answer is Ok
ok_has : (a : Answer) (e f : Booking) → Among e (if_ok a f) → (a ≡ answer.Done) × (e ≡ f)
ok_has answer.Done e f h = (refl, ⊎_elim (λ (same : e ≡ f). same) (λ (none : ⊥). absurd none) h)
ok_has a e f h = absurd h

done_has : (came : GotData) (e f : Booking) → Among e (if_done came f) → (told : Told) × (came ≡ got.Answered told) × (told.answer ≡ answer.Done) × (e ≡ f)
done_has (got.Answered told) e f h = let w = ok_has told.answer e f h in (told, refl, w.0, w.1)
done_has came e f h = absurd h

abbrev IsReading : Row → ReturnRow → List ℕ → ℕ → List ℕ → Type 0
IsReading row back_row kept n notes = (row ≡ at.Finish finish.Return n) × ((fd : Fd) × (back_row ≡ back.CloseNotes fd)) × (notes ≡ kept)

finish_reads : (row : FinishRow) (m : ℕ) (back_row : ReturnRow) (kept : List ℕ) (came : GotData) (n : ℕ) (notes : List ℕ)
    → Among (ReadNotes n notes) (finished_at row m back_row kept came) → IsReading (at.Finish row m) back_row kept n notes
finish_reads finish.Return m (back.CloseNotes fd) kept came n notes h = ⊎_elim
    (λ (same : ReadNotes n notes ≡ ReadNotes m kept).
    let number : n ≡ m = cc in
    let text : notes ≡ kept = cc in
    (ap (at.Finish finish.Return) (sym number), (fd, refl), text))
    (λ (none : ⊥). absurd none)
    h
finish_reads finish.Return m (back.Await pid) kept came n notes h = absurd (each_among IsQuiet (if_zero came (Returned m)) (ReadNotes n notes) (zero_each IsQuiet came (Returned m) tt) h)
finish_reads finish.Return m back.Discard kept came n notes h = let w = done_has came (ReadNotes n notes) (Dropped m) h in absurd (cc w.3)
finish_reads finish.Return m back_row kept came n notes h = absurd h
finish_reads row m back_row kept came n notes h = absurd h

reads_at : (row : Row) (came : GotData) (d : Desk) (n : ℕ) (notes : List ℕ) → Among (ReadNotes n notes) (booked_at row came d) → IsReading row d.bounce.row d.bounce.notes n notes
reads_at (at.TakeLink c) came d n notes h =
    absurd (each_among IsQuiet (reported_when (said came).way c (said came).bytes d) (ReadNotes n notes) (when_each IsQuiet (λ delivered c m place. tt) (said came).way c (said came).bytes d) h)
reads_at (at.Mark row m) came d n notes h = absurd (each_among IsQuiet (marked_at row m d.note.row came) (ReadNotes n notes) (marked_each IsQuiet (λ c k place. tt) (λ c k place. tt) row m d.note.row came) h)
reads_at at.InTodo came d n notes h = absurd (each_among IsQuiet (routed_at d.pass.row d.pass.n) (ReadNotes n notes) (routed_each IsQuiet (λ m. tt) d.pass.row d.pass.n) h)
reads_at (at.Finish row m) came d n notes h = finish_reads row m d.bounce.row d.bounce.notes came n notes h
reads_at row came d n notes h = absurd h

abbrev IsDropping : Row → ReturnRow → GotData → ℕ → Type 0
IsDropping row back_row came n = (row ≡ at.Finish finish.Return n) × (back_row ≡ back.Discard) × ((told : Told) × (came ≡ got.Answered told) × (told.answer ≡ answer.Done))

finish_drops : (row : FinishRow) (m : ℕ) (back_row : ReturnRow) (kept : List ℕ) (came : GotData) (n : ℕ) → Among (Dropped n) (finished_at row m back_row kept came)
    → IsDropping (at.Finish row m) back_row came n
finish_drops finish.Return m (back.CloseNotes fd) kept came n h = ⊎_elim (λ (same : Dropped n ≡ ReadNotes m kept). absurd (cc same)) (λ (none : ⊥). absurd none) h
finish_drops finish.Return m (back.Await pid) kept came n h = absurd (each_among IsQuiet (if_zero came (Returned m)) (Dropped n) (zero_each IsQuiet came (Returned m) tt) h)
finish_drops finish.Return m back.Discard kept came n h =
    let w = done_has came (Dropped n) (Dropped m) h in
    let number : m ≡ n = (let same = w.3 in cc) in
    (ap (at.Finish finish.Return) number, refl, (w.0, w.1, w.2))
finish_drops finish.Return m back_row kept came n h = absurd h
finish_drops row m back_row kept came n h = absurd h

drops_at : (row : Row) (came : GotData) (d : Desk) (n : ℕ) → Among (Dropped n) (booked_at row came d) → IsDropping row d.bounce.row came n
drops_at (at.TakeLink c) came d n h =
    absurd (each_among IsQuiet (reported_when (said came).way c (said came).bytes d) (Dropped n) (when_each IsQuiet (λ delivered c m place. tt) (said came).way c (said came).bytes d) h)
drops_at (at.Mark row m) came d n h = absurd (each_among IsQuiet (marked_at row m d.note.row came) (Dropped n) (marked_each IsQuiet (λ c k place. tt) (λ c k place. tt) row m d.note.row came) h)
drops_at at.InTodo came d n h = absurd (each_among IsQuiet (routed_at d.pass.row d.pass.n) (Dropped n) (routed_each IsQuiet (λ m. tt) d.pass.row d.pass.n) h)
drops_at (at.Finish row m) came d n h = finish_drops row m d.bounce.row d.bounce.notes came n h
drops_at row came d n h = absurd h

-- What the sender stands on there

effect_closes : (k : Disk) (read : ℕ) (fd : Fd) (a : Answer) (wrote : ℕ) → ((effect k read (call.Close fd) a wrote).names ≡ k.names) × ((effect k read (call.Close fd) a wrote).files ≡ k.files)
effect_closes k read fd answer.Done wrote = (refl, refl)
effect_closes k read fd a wrote = (refl, refl)

closes : (k : Disk) (read : ℕ) (fd : Fd) (came : GotData) (wrote : ℕ)
    → ((disk_after k read (needs.File (call.Close fd)) came wrote).names ≡ k.names) × ((disk_after k read (needs.File (call.Close fd)) came wrote).files ≡ k.files)
closes k read fd (got.Answered told) wrote = effect_closes k read fd told.answer wrote
closes k read fd came wrote = (refl, refl)

-- it closes the bounce file of this number, which reads so then
record ReadsNow (was k : Disk) (own : Own) (n : ℕ) (notes : List ℕ) : Type 0 where
  file : ℕ
  there : k.names (path (Of Bounce n)) ≡ Some file
  reads : (k.files file).bytes ≡ notes
  fd : Fd
  opened : was.opens fd.0 ≡ Some (record { number = file; mode = Opened Read })
  closes : own.due ≡ needs.File (call.Close fd)

same_entry : (x y : Entry) (o : Option Entry) → o ≡ Some x → o ≡ Some y → x ≡ y
same_entry x y o one two = let both : ◌≡◌ {A = Option Entry} (Some x) (Some y) = sym one ∙ two in cc

module _ (d : Disk) (h : List Event) (name : List ℕ) (own : Own) (wrote : ℕ) (legal : Legal d (Act name own wrote ∷ h))
    (start : ℕ) (past : List Own) (life : Life) (is : (after d h).actors name ≡ Some (record { program = Sender start; past = past; life = life })) where
  abbrev s : State
  s = after d h

  abbrev I : Inv s
  I = always d h legal.0

  abbrev q : Queue
  q = queue s I.role

  abbrev x : Actor
  x = record { program = Sender start; past = past; life = life }

  abbrev may : MayDo s name own wrote
  may = legal.1

  abbrev desk : Desk
  desk = sender_after None past

  abbrev row : Row
  row = row_now desk own.read own.ready

  same : may.actor ≡ x
  same = some_actor may.actor x (sym may.reads.is ∙ is)

  stands : StandsAt s.now q name row desk
  stands =
      let y = may.actor in
      let alive : life ≡ Alive = ap (λ (z : Actor). z.life) (sym same) ∙ may.reads.alive in
      let F = sender_fares s.now q name (Sender start) past life start refl alive (I.fares name x is) in
      let soon = may.reads.no_later in
      let moment : IsMoment own.read = (let m = I.moment in omega (arith, m, soon)) in
      arrived s.now own.read q name soon moment desk own.ready F.stands

  due : due_at row desk ≡ own.due
  due = subst (λ (y : Actor). next_of y.program y.past own.read own.ready ≡ own.due) same may.due

  returns : (n : ℕ) → row ≡ at.Finish finish.Return n → ReturnStands desk.book.controls q name n desk.book.messages.known desk.bounce
  returns n at_row = (subst (λ (r : Row). RowStands s.now q name r desk.book desk.slots (works desk)) at_row stands.rests).1

  disk_then : (happens s (Act name own wrote)).disk ≡ disk_after s.disk own.read own.due own.came wrote
  disk_then = ap (λ (o : Option Actor). (acted s name own wrote o).disk) is

  reads_now : (n : ℕ) (notes : List ℕ) → Among (ReadNotes n notes) (booked_at row own.came desk) → ReadsNow s.disk (happens s (Act name own wrote)).disk own n notes
  reads_now n notes among =
      let w = reads_at row own.came desk n notes among in
      let R = returns n w.0 in
      let fd = w.1.0 in
      let H = subst (λ (r : ReturnRow). ReturnHolds desk.book.controls q name r desk.bounce n (sender_of n desk.book.messages.known)) w.1.1 R.holds in
      let text = H.1.0 in
      let there = found s.disk.names s.disk.files (Of Bounce n) text.file text.there in
      let closing : needs.File (call.Close fd) ≡ own.due = sym (ap (λ (r : Row). due_at r desk) w.0 ∙ ap (λ (r : ReturnRow). return_due_at r desk.bounce) w.1.1) ∙ due in
      let later = disk_then ∙ ap (λ (z : NeedData). disk_after s.disk own.read z own.came wrote) (sym closing) in
      let kept = closes s.disk own.read fd own.came wrote in
      record {
        file = text.file.number;
        there = ap (λ (k : Disk). k.names (path (Of Bounce n))) later ∙ ap (λ (f : List ℕ → Option ℕ). f (path (Of Bounce n))) kept.0 ∙ there.0;
        reads = ap (λ (k : Disk). (k.files text.file.number).bytes) later ∙ ap (λ (f : ℕ → File). (f text.file.number).bytes) kept.1
            ∙ ap (λ (e : Entry). e.file.bytes) (sym there.1) ∙ sym text.text ∙ sym w.2;
        fd = fd;
        opened = H.0.opened.opened ∙ ap (λ (e : Entry). Some (record { number = e.number; mode = Opened Read })) (same_entry H.0.file text.file (look q (Of Bounce n)) H.0.there text.there);
        closes = sym closing;
      }

  told_now : (n : ℕ) (notes : List ℕ) → Among (ReadNotes n notes) (booked_at row own.came desk) → desk.book.controls ≡ controls_told past
  told_now n notes among = read_now past (have_run d h legal.0 name x is) own.read own.ready (subst HasControls (sym (reads_at row own.came desk n notes among).0) tt)

  whole_now : (n : ℕ) (notes : List ℕ) → Among (ReadNotes n notes) (booked_at row own.came desk) → read_of (path (Of Bounce n)) past ≡ Whole notes
  whole_now n notes among =
      let w = reads_at row own.came desk n notes among in
      all_read past (have_run d h legal.0 name x is) own.read own.ready n w.1.0 w.0 w.1.1 ∙ ap Whole (sym w.2)

  dropped_now : (n : ℕ) → Among (Dropped n) (booked_at row own.came desk) → (own.due ≡ needs.File (call.Unlink (path (Of Bounce n))))
      × ((told : Told) × (own.came ≡ got.Answered told) × (told.answer ≡ answer.Done))
  dropped_now n among =
      let w = drops_at row own.came desk n among in
      let R = returns n w.0 in
      (sym due ∙ ap (λ (r : Row). due_at r desk) w.0 ∙ ap (λ (r : ReturnRow). return_due_at r desk.bounce) w.1 ∙ ap (λ (k : ℕ). needs.File (call.Unlink (bounce_path k))) R.number, w.2)

-- A count is no more if fewer are counted

and_less : (b c e : Bool) → (b ≡ true → c ≡ true) → (b && e) ≡ true → (c && e) ≡ true
and_less true c e h both = ap (λ (z : Bool). z && e) (h refl) ∙ both
and_less false c e h both = absurd (cc)

counted_less : (i : Injection) (such more : Spot → Bool) (name : List ℕ) (k : ℕ) → ((s : Spot) → such s ≡ true → more s ≡ true) → counted_as more i name ≤ k
    → counted_as such i name ≤ k
counted_less i such more name k h most =
    let less = fewer i.ledger.routes (λ s address. such s && bytes_eq (name_at i.ledger s address) name) (λ s address. more s && bytes_eq (name_at i.ledger s address) name)
    (λ s address. and_less (such s) (more s) (bytes_eq (name_at i.ledger s address) name) (h s)) [] (recipients_of i.args) in
    omega (arith, less, most)

and_not : (b c : Bool) → b ≡ true → c ≡ false → (b && not c) ≡ true
and_not b c is free = ap (λ (z : Bool). z && not c) is ∙ ap not free

-- How a recipient is accounted for

abbrev did : (d : Disk) (h : List Event) (name : List ℕ) (own : Own) (wrote : ℕ) (earlier : List Event) → h ≡ Act name own wrote ∷ earlier → (start : ℕ) (past : List Own) (life : Life)
    → (after d earlier).actors name ≡ Some (record { program = Sender start; past = past; life = life }) → SenderDid d h
did d h name own wrote earlier all start past life is = record {
  name = name;
  own = own;
  wrote = wrote;
  earlier = earlier;
  all = all;
  sender = record { program = Sender start; past = past; life = life };
  is = is;
  start = start;
  program = refl;
}

module _ (d : Disk) (h : List Event) (legal : Legal d h) (i : Injection) (here : IsInjected (after d h).books i) where
  lost_is : (such : Spot → Bool) → AreLost d h i such → (s : Spot) → such s ≡ true → is_lost i.ledger s ≡ true
  lost_is such lost s so =
      let w = lost s so in
      let of = ledgers_are_of_reports d h legal i here s in
      let failed : is_failed i.ledger s ≡ true = among_found s i.ledger.failed (of.1.1 w.0) in
      let not_delivered : is_delivered i.ledger s ≡ false = ⊎_elim
      (λ (is : is_delivered i.ledger s ≡ true). absurd (w.1 (of.0.0 (found_among s i.ledger.delivered is))))
      (λ (free : is_delivered i.ledger s ≡ false). free)
      (cases_Bool (is_delivered i.ledger s)) in
      and_not (is_failed i.ledger s) (is_delivered i.ledger s) failed not_delivered

  -- by its ledger
  abbrev routes : Controls
  routes = i.ledger.routes

  abbrev names : Spot → Controls
  names s = namer i.ledger.routes i.ledger.marked s

  told_in : (name : List ℕ) → IsHeldIn (after d h).disk i name → IsTold d h routes names i name
  told_in name it = record {
    file = it.file;
    there = it.there;
    named = λ such lost shut.
        let k = (after d h).disk in
        let tells : (s : Spot) → such s ≡ true → is_to_tell k i s ≡ true =
        λ s so. and_not (is_lost i.ledger s) (is_open k i.number s) (lost_is such lost s so) (shut s so) in (
          counted_less i such (is_to_tell k i) name (count (k.files it.file).bytes name) tells it.present,
          counted_less i such (is_to_tell k i) name (count (k.files it.file).kept name) tells it.synced,
        );
  }

  taken_of : (r : Recipient i.args) → Among (spot_in i r) i.ledger.delivered → WasTaken d h true i (spot_in i r)
  taken_of r among = (ledgers_are_of_reports d h legal i here (spot_in i r)).0.0 among

  failed_of : (r : Recipient i.args) → Among (spot_in i r) i.ledger.failed → WasTaken d h false i (spot_in i r)
  failed_of r among = (ledgers_are_of_reports d h legal i here (spot_in i r)).1.0 among

  module _ where
    was_read : (it : NotesRead) → Among it i.ledger.reads → WasRead d h i it.notes it.by
    was_read it among =
        let w = lines_were_entered d h legal i here (Reads it) among in
        let e = w.entry in
        let whole : Legal d (Act e.name e.own e.wrote ∷ e.earlier) = subst (Legal d) e.all (legal_until d h w.until i legal w.life) in
        let now = reads_now d e.earlier e.name e.own e.wrote whole e.start e.past e.life e.is i.number it.notes e.among in
        record {
          until = w.until;
          life = w.life;
          file = now.file;
          there = ap (λ (t : List Event). (after d t).disk.names (path (Of Bounce i.number))) e.all ∙ now.there;
          reads = ap (λ (t : List Event). ((after d t).disk.files now.file).bytes) e.all ∙ now.reads;
          event = did d w.until e.name e.own e.wrote e.earlier e.all e.start e.past e.life e.is;
          fd = now.fd;
          closes = now.closes;
          opened = now.opened;
          all_read = whole_now d e.earlier e.name e.own e.wrote whole e.start e.past e.life e.is i.number it.notes e.among;
          controls_are = sym (told_now d e.earlier e.name e.own e.wrote whole e.start e.past e.life e.is i.number it.notes e.among) ∙ sym e.by;
        }

    was_dropped : i.ledger.dropped ≡ true → WasDropped d h i
    was_dropped dropped =
        let w = lines_were_entered d h legal i here Drops dropped in
        let e = w.entry in
        let whole : Legal d (Act e.name e.own e.wrote ∷ e.earlier) = subst (Legal d) e.all (legal_until d h w.until i legal w.life) in
        let it = dropped_now d e.earlier e.name e.own e.wrote whole e.start e.past e.life e.is i.number e.among in
        record {
          until = w.until;
          life = w.life;
          event = did d w.until e.name e.own e.wrote e.earlier e.all e.start e.past e.life e.is;
          unlinks = it.0;
          told = it.1.0;
          came = it.1.1;
          done = it.1.2;
        }

    was_returned : (name : List ℕ) → IsNamedInBounce (after d h).books i name → WasReturned d h routes names i name
    was_returned name it = record {
      notes = it.read.notes;
      by = it.read.by;
      read = was_read it.read it.among;
      named = λ such lost. counted_less i such (is_lost i.ledger) name (count it.read.notes name) (lost_is such lost) it.named;
      bounce = it.bounce;
      injected = it.injected;
      accepted = it.accepted;
      carries = it.carries;
      addressed = it.addressed;
      single = it.single;
    }

    accounted_by : (r : Recipient i.args) → Accounted (after d h).disk (after d h).books i r → IsAccounted d h routes names i r
    accounted_by r (ByPending lives it) = Pending lives it
    accounted_by r (ByUnmarked lives it) = Unmarked lives it
    accounted_by r (ByDelivered among) = Delivered (taken_of r among)
    accounted_by r (ByHeld lives failed it) = Held lives (failed_of r failed) (told_in (name_in i r) it)
    accounted_by r (ByReturned failed x bounced read named) =
        IsReturned (failed_of r failed) (was_returned (name_in i r) (returned_recipients_are_named d h legal i here r (ByReturned failed x bounced read named) tt))
    accounted_by r (ByDropped failed dropped from) = IsDropped (failed_of r failed) (was_dropped dropped) from

    -- and so by the events of its life
    pub accounted_in : (life : List Event) → IsLifeOf d h life i → (r : Recipient i.args) → Accounted (after d h).disk (after d h).books i r
        → IsAccounted d h (routes_told d life i.number) (namer_told d life i.number) i r
    accounted_in life it r account =
        let w = ledgers_are_routed d h legal i life it in
        subst (λ (f : Spot → Controls). IsAccounted d h (routes_told d life i.number) f i r) (λ k s. w.1 s k)
        (subst (λ (c : Controls). IsAccounted d h c names i r) w.0 (accounted_by r account))

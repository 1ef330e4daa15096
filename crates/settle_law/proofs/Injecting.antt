-- An injector at work on a number goes on with it while the number is half-way.
use Rattle.std.proofs.Common.{◌≡◌, ◌≢◌, ⊎_elim, ℕ, List, ◌∷◌, Bool, true, false, if◌then◌else◌, Option, Some, None, refl, sym, ap, ◌∙◌, subst}
use Rattle.std.specs.Prelude.{IsSome, length, nat_le, nat_lt, ◌+◌}
use Rattle.std.proofs.lemmas.Bool.{false≢true}
use Rattle.call_fs.proofs.Maps.{put_at_same}
use Rattle.call_fs.specs.Maps.{put_at}
use Rattle.call_fs.specs.Apply.{Fits, effect}
use Rattle.call_fs.specs.Disk.{Disk, HasDir}
use Rattle.call_fs.specs.declared.calls.Answer.TheVariants as answer
use Rattle.call_fs.specs.declared.calls.Answer.{Answer}
use Rattle.call_fs.specs.declared.calls.Fd.{Fd}
use Rattle.call_fs.specs.declared.calls.CallData.TheVariants as call
use Rattle.call_fs.specs.declared.calls.FsError.TheVariants as why
use Rattle.call_fs.specs.declared.calls.Told.{Told}
use Rattle.call_fs.specs.declared.past.GotData.{GotData}
use Rattle.call_fs.specs.declared.past.GotData.TheVariants as came
use Rattle.call_fs.specs.declared.past.NeedData.{NeedData}
use Rattle.call_fs.specs.declared.past.NeedData.TheVariants as needs
use Rattle.call_fs.specs.declared.past.Own.{Own}
use Rattle.call_fs.specs.declared.program.Ready.{Ready}
use Rattle.queue_inject.specs.declared.injection.Arguments.{Arguments}
use Rattle.queue_inject.specs.declared.row.Row.{Row}
use Rattle.queue_inject.specs.declared.row.Row.TheVariants as at
use Rattle.queue_inject.specs.Table.{after_came, due_by, has_input, in_message, in_time, in_todo, is_late, moved, past_piece, piece_size, place_after, work_of}
use Rattle.queue_inject.specs.Texts.{Text}
use Rattle.queue_paths.specs.Names.Name.{Of, Pid}
use Rattle.queue_paths.specs.Names.Part.{Intd, Mess, Todo}
use Rattle.queue_paths.specs.Names.{path}
use Rattle.queue_paths.specs.Parts.{parts_of}
use Rattle.queue_paths.proofs.Parts.{todo_missing}
use Rattle.world_events.specs.declared.event.Program.TheVariants.{Injector}
use Rattle.mail_world.specs.History.{ComesOf, State, disk_after, next_of}
use Rattle.world_law.specs.Standing.{number_at}
use Rattle.settle_law.specs.inside.HalfWay.{IsHalfWay}
use Rattle.settle_law.specs.Well.{came_well, is_well_answered, is_well_ended}
use Rattle.settle_law.proofs.HalfDisks.{is_refusal, is_refused}
use Rattle.settle_law.proofs.HalfRows.{IsLinking}

-- Which number a row is at, after what was written

number_if : (b : Bool) (x y : Row) (n : ℕ) → number_at x ≡ Some n → number_at y ≡ Some n → number_at (if b then x else y) ≡ Some n
number_if true x y n h k = h
number_if false x y n h k = k

number_past : (bytes : List ℕ) (fault : Option ℕ) (done : ℕ) (more end : Row) (bad : ℕ → Row) (n : ℕ) → number_at more ≡ Some n → number_at end ≡ Some n → ((status : ℕ) → number_at (bad status) ≡ Some n)
    → number_at (past_piece bytes fault done more end bad) ≡ Some n
number_past bytes None done more end bad n h k l = number_if (nat_lt done (length bytes)) more end n h k
number_past bytes (Some status) done more end bad n h k l = number_if (nat_le (done + piece_size) (length bytes)) more (bad status) n h (l status)

message_number : (text : Text) (n fd done : ℕ) → number_at (in_message text n fd done) ≡ Some n
message_number text n fd done = number_past text.bytes text.fault done (at.AppendMess n (record { 0 = fd }) done) (at.SyncMess n (record { 0 = fd })) (λ status. at.CleanMess n status) n refl refl (λ status. refl)

todo_number : (text : Text) (n fd done : ℕ) → number_at (in_todo text n fd done) ≡ Some n
todo_number text n fd done = number_past text.bytes text.fault done (at.AppendTodo n (record { 0 = fd }) done) (at.SyncTodo n (record { 0 = fd })) (λ status. at.CleanIntd n status) n refl refl (λ status. refl)

module _ (args : Arguments) where
  unlinked_pid : (seq m : ℕ) (fd : Fd) (told : Answer) → number_at (moved args (at.UnlinkPid seq m fd) told) ≡ Some m
  unlinked_pid seq m fd answer.Done = message_number (work_of args).message m fd.0 0
  unlinked_pid seq m fd told = refl

  appended_mess : (m : ℕ) (fd : Fd) (done : ℕ) (told : Answer) → number_at (moved args (at.AppendMess m fd done) told) ≡ Some m
  appended_mess m fd done answer.Done = message_number (work_of args).message m fd.0 (done + piece_size)
  appended_mess m fd done told = refl

  synced_mess : (m : ℕ) (fd : Fd) (told : Answer) → number_at (moved args (at.SyncMess m fd) told) ≡ Some m
  synced_mess m fd answer.Done = refl
  synced_mess m fd told = refl

  created_intd : (m : ℕ) (told : Answer) → number_at (moved args (at.CreateIntd m) told) ≡ Some m
  created_intd m (answer.Created fd i) = todo_number (work_of args).todo m fd.0 0
  created_intd m told = refl

  appended_todo : (m : ℕ) (fd : Fd) (done : ℕ) (told : Answer) → number_at (moved args (at.AppendTodo m fd done) told) ≡ Some m
  appended_todo m fd done answer.Done = todo_number (work_of args).todo m fd.0 (done + piece_size)
  appended_todo m fd done told = refl

  synced_todo : (m : ℕ) (fd : Fd) (told : Answer) → number_at (moved args (at.SyncTodo m fd) told) ≡ Some m
  synced_todo m fd answer.Done = refl
  synced_todo m fd told = refl

some_number : (x y : ℕ) → ◌≡◌ {A = Option ℕ} (Some x) (Some y) → x ≡ y
some_number x y e = cc

abbrev IsFileCall : NeedData → Type 0
IsFileCall (needs.File c) = Unit {0}
IsFileCall due = ⊥

none_there : (o : Option ℕ) → o ≡ None → IsSome o → ⊥
none_there None e some = cc
none_there (Some i) e some = cc

-- what the link of the todo file counts on
pub record MayLink (d : Disk) (n : ℕ) : Type 0 where
  pub intd : d.names (path (Of Intd n)) ≢ None
  pub dir : HasDir d (path (Of Todo n))

-- the link of the todo file is made, or fails: the number is no half-way one then
link_none : (d : Disk) (read wrote m : ℕ) (told : Answer) → MayLink d m → is_well_answered told ≡ true → Fits d (call.Link (path (Of Intd m)) (path (Of Todo m))) told wrote
    → IsHalfWay (effect d read (call.Link (path (Of Intd m)) (path (Of Todo m))) told wrote) m → ⊥
link_none d read wrote m answer.Done may well fits half = may.intd
    (sym (put_at_same d.names (path (Of Todo m)) (d.names (path (Of Intd m))))
    ∙ todo_missing (parts_of (put_at d.names (path (Of Todo m)) (d.names (path (Of Intd m)))) m) half.no_todo Todo refl)
link_none d read wrote m (answer.Refused why.Exists) may well fits half = none_there (d.names (path (Of Todo m))) (todo_missing (parts_of d.names m) half.no_todo Todo refl) fits.2
link_none d read wrote m (answer.Refused why.NotThere) may well fits half = ⊎_elim (λ (none : d.names (path (Of Intd m)) ≡ None). may.intd none) (λ (none : HasDir d (path (Of Todo m)) → ⊥). none may.dir) fits
link_none d read wrote m (answer.Refused why.Fault) may well fits half = false≢true well
link_none d read wrote m (answer.Refused why.Memory) may well fits half = false≢true well
link_none d read wrote m told may well fits half = fits

-- so it is after the unlink of the message
pub unlink_none : (d : Disk) (read wrote m : ℕ) (told : Answer) → is_well_answered told ≡ true → Fits d (call.Unlink (path (Of Mess m))) told wrote
    → IsHalfWay (effect d read (call.Unlink (path (Of Mess m))) told wrote) m → ⊥
unlink_none d read wrote m answer.Done well fits half = half.mess (put_at_same d.names (path (Of Mess m)) None)
unlink_none d read wrote m (answer.Refused why.NotThere) well fits half = half.mess fits
unlink_none d read wrote m (answer.Refused why.Fault) well fits half = false≢true well
unlink_none d read wrote m told well fits half = fits

unlinked_intd : (args : Arguments) (d : Disk) (wrote m status : ℕ) (told : Answer) → is_well_answered told ≡ true → Fits d (call.Unlink (path (Of Intd m))) told wrote
    → number_at (moved args (at.CleanIntd m status) told) ≡ Some m
unlinked_intd args d wrote m status answer.Done well fits = refl
unlinked_intd args d wrote m status (answer.Refused why.NotThere) well fits = refl
unlinked_intd args d wrote m status (answer.Refused why.Fault) well fits = absurd (false≢true well)
unlinked_intd args d wrote m status told well fits = absurd fits

module _ (s : State) (a : List ℕ) (args : Arguments) (read wrote : ℕ) where
  abbrev Then : NeedData → GotData → Disk
  Then due got = disk_after s.disk read due got wrote

  by_row : (row : Row) (n : ℕ) (told : Told) → (row ≡ at.LinkTodo n → MayLink s.disk n) → is_well_answered told.answer ≡ true → ComesOf s a (due_by args row) (came.Answered told) wrote
      → IsHalfWay (Then (due_by args row) (came.Answered told)) n → number_at row ≡ Some n → number_at (moved args row told.answer) ≡ Some n
  by_row (at.UnlinkPid seq m fd) n told may well comes half e = unlinked_pid args seq m fd told.answer ∙ e
  by_row (at.AppendMess m fd done) n told may well comes half e = appended_mess args m fd done told.answer ∙ e
  by_row (at.SyncMess m fd) n told may well comes half e = synced_mess args m fd told.answer ∙ e
  by_row (at.CreateIntd m) n told may well comes half e = created_intd args m told.answer ∙ e
  by_row (at.AppendTodo m fd done) n told may well comes half e = appended_todo args m fd done told.answer ∙ e
  by_row (at.SyncTodo m fd) n told may well comes half e = synced_todo args m fd told.answer ∙ e
  by_row (at.LinkTodo m) n told may well comes half e =
      let same : m ≡ n = some_number m n e in
      absurd (link_none s.disk read wrote m told.answer (subst (MayLink s.disk) (sym same) (may (ap at.LinkTodo same))) well comes.0
      (subst (IsHalfWay (effect s.disk read (call.Link (path (Of Intd m)) (path (Of Todo m))) told.answer wrote)) (sym same) half))
  by_row (at.CleanIntd m status) n told may well comes half e = unlinked_intd args s.disk wrote m status told.answer well comes.0 ∙ e
  by_row (at.CleanMess m status) n told may well comes half e =
      absurd (unlink_none s.disk read wrote m told.answer well comes.0
      (subst (IsHalfWay (effect s.disk read (call.Unlink (path (Of Mess m))) told.answer wrote)) (sym (some_number m n e)) half))
  by_row row n told may well comes half e = absurd (cc)

  by_came : (row : Row) (n : ℕ) (got : GotData) → (row ≡ at.LinkTodo n → MayLink s.disk n) → came_well got ≡ true → ComesOf s a (due_by args row) got wrote → IsHalfWay (Then (due_by args row) got) n
      → number_at row ≡ Some n → number_at (after_came args row got) ≡ Some n
  by_came row n (came.Answered told) may well comes half e = by_row row n told may well comes half e
  by_came row n got may well comes half e = e

  -- what is due is its call, in time
  timed : (input late : Bool) (due : NeedData) (got : GotData) (n : ℕ) → ComesOf s a (in_time input late due) got wrote → IsHalfWay (Then (in_time input late due) got) n
      → ComesOf s a due got wrote × IsHalfWay (Then due got) n
  timed input late (needs.Ended status) got n comes half = absurd comes
  timed true true (needs.File c) got n comes half = absurd comes
  timed true false (needs.File c) got n comes half = (comes, half)
  timed false late (needs.File c) got n comes half = absurd comes
  timed input late due got n comes half = (comes, half)

  pub goes_on : (past : List Own) (own : Own) (n : ℕ) → read ≡ own.read → next_of (Injector args) past own.read own.ready ≡ own.due → came_well own.came ≡ true → ComesOf s a own.due own.came wrote
      → (place_after args past ≡ at.LinkTodo n → MayLink s.disk n) → IsHalfWay (Then own.due own.came) n → number_at (place_after args past) ≡ Some n → number_at (place_after args (own ∷ past)) ≡ Some n
  goes_on past own n same due well comes may half e =
      let row : Row = place_after args past in
      let w = timed (has_input own.ready) (is_late args own.read) (due_by args row) own.came n
      (subst (λ (x : NeedData). ComesOf s a x own.came wrote) (sym due) comes) (subst (λ (x : NeedData). IsHalfWay (Then x own.came) n) (sym due) half) in
      by_came row n own.came may well w.0 w.1 e

-- A link of the message begins its work

pub begins : (s : State) (a : List ℕ) (args : Arguments) (wrote : ℕ) (input late : Bool) (row : Row) (n : ℕ) (got : GotData) → IsLinking row n → ComesOf s a (in_time input late (due_by args row)) got wrote
    → is_refusal got ≡ false → number_at (after_came args row got) ≡ Some n
begins s a args wrote true false (at.LinkMess seq m fd) n (came.Answered told) linking comes fine = by told.answer comes.0 fine
  where
    by : (answers : Answer) → Fits s.disk (call.Link (path (Pid args.pid args.start seq)) (path (Of Mess m))) answers wrote → is_refused answers ≡ false → number_at (moved args (at.LinkMess seq m fd) answers) ≡ Some n
    by answer.Done fits fine = ap Some linking
    by (answer.Refused reason) fits fine = absurd (cc)
    by answers fits fine = absurd fits
begins s a args wrote true false (at.LinkMess seq m fd) n got linking comes fine = absurd comes
begins s a args wrote true true (at.LinkMess seq m fd) n got linking comes fine = absurd comes
begins s a args wrote false late (at.LinkMess seq m fd) n got linking comes fine = absurd comes
begins s a args wrote input late row n got linking comes fine = absurd linking

-- One that is at work ends only if it is late

late_is : (input late : Bool) (due : NeedData) (status : ℕ) → IsFileCall due → in_time input late due ≡ needs.Ended status → status ≡ 52
late_is true true (needs.File c) status call e = cc
late_is true false (needs.File c) status call e = absurd (cc)
late_is false late (needs.File c) status call e = absurd (cc)
late_is input late due status call e = absurd call

works_on : (args : Arguments) (row : Row) (n : ℕ) → number_at row ≡ Some n → IsFileCall (due_by args row)
works_on args (at.UnlinkPid seq m fd) n e = tt
works_on args (at.AppendMess m fd done) n e = tt
works_on args (at.SyncMess m fd) n e = tt
works_on args (at.CreateIntd m) n e = tt
works_on args (at.AppendTodo m fd done) n e = tt
works_on args (at.SyncTodo m fd) n e = tt
works_on args (at.LinkTodo m) n e = tt
works_on args (at.CleanIntd m status) n e = tt
works_on args (at.CleanMess m status) n e = tt
works_on args row n e = absurd (cc)

pub ends_not : (args : Arguments) (past : List Own) (read : ℕ) (ready : Ready) (status n : ℕ) → next_of (Injector args) past read ready ≡ needs.Ended status → is_well_ended status ≡ true
    → number_at (place_after args past) ≡ Some n → ⊥
ends_not args past read ready status n due well e =
    let row : Row = place_after args past in
    false≢true (ap is_well_ended (sym (late_is (has_input ready) (is_late args read) (due_by args row) status (works_on args row n e) due)) ∙ well)

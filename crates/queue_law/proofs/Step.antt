-- One call of one injector, at each row of its table and with each answer.
use Rattle.std.proofs.Common.{◌≡◌, ◌≢◌, Bool, ℕ, ◌+◌, ◌≤◌, List, take, drop, Option, Some, None, refl, sym, subst, subst₂, nat_lt}
use Rattle.std.specs.Prelude.{if◌then◌else◌}
use Rattle.call_fs.specs.Disk.{File, Open}
use Rattle.call_fs.specs.Apply.{changed, Fits}
use Rattle.call_fs.specs.declared.past.NeedData.{NeedData}
use Rattle.call_fs.specs.declared.past.NeedData.TheVariants as needs
use Rattle.call_fs.specs.declared.calls.Fd.{Fd}
use Rattle.call_fs.specs.declared.calls.CallData.{CallData}
use Rattle.call_fs.specs.declared.calls.CallData.TheVariants.{CreateExcl, Append, Sync, Link, Unlink}
use Rattle.call_fs.specs.declared.calls.Answer.{Answer}
use Rattle.call_fs.specs.declared.calls.Answer.TheVariants.{Created, Done, Refused}
use Rattle.call_fs.specs.declared.calls.FsError.TheVariants.{NotThere, Exists, Fault, Memory}
use Rattle.queue_inject.specs.declared.injection.Arguments.{Arguments}
use Rattle.queue_inject.specs.declared.row.Row.{Row}
use Rattle.queue_inject.specs.declared.row.Row.TheVariants as at
use Rattle.queue_paths.specs.Names.{Name, path, parse}
use Rattle.queue_paths.specs.Names.Name.{Pid, Of}
use Rattle.queue_paths.specs.Names.Part.{Mess, Intd, Todo}
use Rattle.queue_inject.specs.Texts.{Text, message_text, intd_text}
use Rattle.queue_inject.specs.Table.{piece_size, failure, work_of, past_bytes, moved, due_by as inject_due}
use Rattle.queue_law.specs.Books.{linked, IsValid}
use Rattle.queue_paths.proofs.Paths.{parse-path}
use Rattle.queue_law.proofs.Waits.{intd_missed}
use Rattle.queue_law.proofs.Tests.{same_text}
use Rattle.queue_law.specs.Injectors.{IsFailure, HasIntd, IsOpen, IsBegun, IsBare, IsWhole, Holds, AtLink, AtMess, AtUnlink, AtTodo, AtLinkTodo, Basis}
use Rattle.queue_law.proofs.Texts.{fails, not_zero, if_either}
use Rattle.queue_law.specs.Numbers.{Entry, Role, Queue, look, About, about, Sound}
use Rattle.queue_law.proofs.Looks.{found}
use Rattle.queue_law.specs.Steps.{Elsewhere, queue_after}
use Rattle.queue_law.proofs.Frame.{still_there, outside_same}
use Rattle.queue_law.proofs.Deeds.{Outcome, named, written}
use Rattle.queue_law.proofs.Rows.{create_row, intd_row, append_mess_row, cut_mess_row, sync_mess_row, append_todo_row, cut_todo_row, sync_todo_row}
use Rattle.queue_law.proofs.Links.{accepting, link_row, unlink_row, clean_intd_row, clean_mess_row, link_todo_row}

-- nothing changed
pub nothing_elsewhere : (now : ℕ) (q : Queue) (a : List ℕ) → Elsewhere now a None q q
nothing_elsewhere now q a = record {
  looks = λ _ _. refl;
  living = λ _ _. refl;
  opens = λ _ _ _ _ h. h;
  roles = λ _ _ _. refl;
  apart = λ _ _ _ _ _ _ _ _ _ h. absurd (cc);
  accepted = λ i h _. still_there q.books i h;
}

stays : (now : ℕ) (q : Queue) (a : List ℕ) (args : Arguments) (row : Row) → Sound q → Basis q a args row → Outcome now q a args q row
stays now q a args row G next = record {
  number = None;
  elsewhere = nothing_elsewhere now q a;
  suits = G.suits;
  fine = λ n h. absurd (cc);
  over = G.over;
  accepted = λ _ h _. h;
  waits = λ e. e.waits;
  none_over = λ e. e.none_over;
  outside = outside_same q.disk q.disk.opens;
  old = record { files = λ _ _ _ _. refl; roles = λ _ _ _. refl };
  later = λ _ _ _. refl;
  unsorted = λ n h. absurd (cc);
  own = λ n h. absurd (cc);
  next = next;
}

module _ (now : ℕ) (q : Queue) (a : List ℕ) (args : Arguments) (G : Sound q) (read : ℕ) (late : args.start ≤ read) (wrote : ℕ) where
  -- to what a call leads at a row, with each answer that fits it
  abbrev Comes : Row → CallData → Answer → Type 0
  Comes row call answer = (role : ℕ → Role) × Outcome now q a args (queue_after q a args read call answer wrote role) (moved args row answer)

  abbrev Steps : Row → CallData → Type 0
  Steps row call = (answer : Answer) → Fits q.disk call answer wrote → Comes row call answer

  -- a refused call changes nothing but the row
  abbrev Stays : Row → Type 0
  Stays row = (role : ℕ → Role) × Outcome now q a args (record { disk = q.disk; holder = q.holder; books = q.books; role = role }) row

  same : (row : Row) → Basis q a args row → Stays row
  same row next = (q.role, stays now q a args row G next)

  failed : (answer : Answer) (status : ℕ) → status ≢ 0 → Stays (at.Failed (failure answer status))
  failed answer status h = same (at.Failed _) (tt, fails answer status h)

  clean_mess : (n : ℕ) (cause : ℕ) (P : About → Type 0) → ((w : About) → P w → IsBare w a args n) → Holds q a args n P → IsFailure cause
      → Stays (at.CleanMess n cause)
  clean_mess n cause P bare h bad = same (at.CleanMess n cause) (record { mine = h.mine; rest = bare (about q n) h.rest }, bad)

  clean_intd : (n : ℕ) (cause : ℕ) (i : ℕ) (P : File → Type 0) → Holds q a args n (λ w. HasIntd w a args n i P) → IsFailure cause → Stays (at.CleanIntd n cause)
  clean_intd n cause i P h bad = same (at.CleanIntd n cause) (record { mine = h.mine; rest = h.rest.begins }, bad)

  -- a call that writes changes the file of its descriptor
  behind : (fd i : ℕ) (g : File → File) (row : Row) → IsOpen q a fd i → Outcome now q a args (written q i (g (q.disk.files i))) row
      → Outcome now q a args (record { disk = changed q.disk (q.disk.opens fd) g; holder = q.holder; books = q.books; role = q.role }) row
  behind fd i g row h outcome =
      let behind_it = λ (o : Option Open). Outcome now q a args (record { disk = changed q.disk o g; holder = q.holder; books = q.books; role = q.role }) row in
      subst behind_it (sym h.opened) outcome

  -- a link names the file of its old name, and the books read its new one
  linking : (old new : Name) (y : Entry) (row : Row) → look q old ≡ Some y
      → Outcome now q a args (named q new (Some y.number) (linked q.books a args (path old) (Some new))) row
      → Outcome now q a args (named q new (q.disk.names (path old)) (linked q.books a args (path old) (parse (path new)))) row
  linking old new y row h outcome =
      let number = (found q.disk.names q.disk.files old y h).0 in
      let links_it = λ (o : Option ℕ) (x : Option Name). Outcome now q a args (named q new o (linked q.books a args (path old) x)) row in
      subst₂ links_it (sym number) (sym (parse-path new)) outcome

  abbrev pid_path : ℕ → List ℕ
  pid_path seq = path (Pid args.pid args.start seq)

  abbrev piece : Text → ℕ → List ℕ
  piece text done = take piece_size (drop done text.bytes)

  at_create : (seq : ℕ) → Steps (at.Create seq) (CreateExcl (pid_path seq))
  at_create seq (Created fd i) fits = (_, create_row now q a args G seq fd.0 i read late fits)
  at_create seq (Refused Exists) fits =
      if_either (λ row. Stays (past_bytes (work_of args) row)) (nat_lt seq 9) (at.Create (seq + 1)) (at.Failed 63) (same (at.Create (seq + 1)) (tt, tt)) (same (at.Failed 63) (tt, not_zero 62))
  at_create seq (Refused NotThere) fits = same (at.Failed 63) (tt, not_zero 62)
  at_create seq (Refused Fault) fits = same (at.Failed 63) (tt, not_zero 62)
  at_create seq (Refused Memory) fits = same (at.Failed 51) (tt, not_zero 50)
  at_create seq answer fits = absurd fits

  at_link : (seq n : ℕ) (fd : Fd) → AtLink q a args seq n fd.0 → Steps (at.LinkMess seq n fd) (Link (pid_path seq) (path (Of Mess n)))
  at_link seq n fd h Done fits =
      (q.role, linking (Pid args.pid args.start seq) (Of Mess n) _ _ h.pid (link_row now q a args G seq n fd.0 h fits.free))
  at_link seq n fd h (Refused why) fits = failed (Refused why) 64 (not_zero 63)
  at_link seq n fd h answer fits = absurd fits

  at_unlink : (seq n : ℕ) (fd : Fd) → AtUnlink q a args seq n fd.0 → Steps (at.UnlinkPid seq n fd) (Unlink (pid_path seq))
  at_unlink seq n fd h Done fits = (q.role, unlink_row now q a args G seq n fd.0 h)
  at_unlink seq n fd h (Refused why) fits = clean_mess n _ _ (λ w d. d.bare) h.mess.holds (fails (Refused why) 63 (not_zero 62))
  at_unlink seq n fd h answer fits = absurd fits

  at_append_mess : (n : ℕ) (fd : Fd) (done : ℕ) → AtMess q a args n fd.0 (take done (message_text args).bytes)
      → Steps (at.AppendMess n fd done) (Append fd (piece (message_text args) done))
  at_append_mess n fd done h Done fits = (q.role, behind fd.0 n _ _ h.opened (append_mess_row now q a args G n fd.0 done read late h))
  at_append_mess n fd done h (Refused Fault) fits = (q.role, behind fd.0 n _ _ h.opened (cut_mess_row now q a args G n fd.0 read wrote _ _ late h))
  at_append_mess n fd done h (Refused Memory) fits = clean_mess n 51 _ (λ w d. d.bare) h.holds (not_zero 50)
  at_append_mess n fd done h answer fits = absurd fits

  at_sync_mess : (n : ℕ) (fd : Fd) → AtMess q a args n fd.0 (message_text args).bytes → (message_text args).fault ≡ None → Steps (at.SyncMess n fd) (Sync fd)
  at_sync_mess n fd h whole Done fits = (q.role, behind fd.0 n _ _ h.opened (sync_mess_row now q a args G n fd.0 whole h))
  at_sync_mess n fd h whole (Refused why) fits = clean_mess n _ _ (λ w d. d.bare) h.holds (fails (Refused why) 53 (not_zero 52))
  at_sync_mess n fd h whole answer fits = absurd fits

  at_create_intd : (n : ℕ) → Holds q a args n (λ w. IsWhole w a args n) → (message_text args).fault ≡ None → Steps (at.CreateIntd n) (CreateExcl (path (Of Intd n)))
  at_create_intd n h whole (Created fd i) fits = (_, intd_row now q a args G n fd.0 i read whole h fits)
  at_create_intd n h whole (Refused why) fits = clean_mess n _ _ (λ w d. d.bare) h (fails (Refused why) 65 (not_zero 64))
  at_create_intd n h whole answer fits = absurd fits

  at_append_todo : (n : ℕ) (fd : Fd) (done : ℕ) → AtTodo q a args n fd.0 (take done (intd_text args).bytes)
      → (message_text args).fault ≡ None → Steps (at.AppendTodo n fd done) (Append fd (piece (intd_text args) done))
  at_append_todo n fd done h whole Done fits = (q.role, behind fd.0 h.number _ _ h.opened (append_todo_row now q a args G n fd.0 done read whole h))
  at_append_todo n fd done h whole (Refused Fault) fits = (q.role, behind fd.0 h.number _ _ h.opened (cut_todo_row now q a args G n fd.0 _ h _))
  at_append_todo n fd done h whole (Refused Memory) fits = clean_intd n 51 _ _ h.holds (not_zero 50)
  at_append_todo n fd done h whole answer fits = absurd fits

  at_sync_todo : (n : ℕ) (fd : Fd) → AtTodo q a args n fd.0 (intd_text args).bytes → IsValid args → Steps (at.SyncTodo n fd) (Sync fd)
  at_sync_todo n fd h valid Done fits = (q.role, behind fd.0 h.number _ _ h.opened (sync_todo_row now q a args G n fd.0 valid h))
  at_sync_todo n fd h valid (Refused why) fits = clean_intd n _ _ _ h.holds (fails (Refused why) 53 (not_zero 52))
  at_sync_todo n fd h valid answer fits = absurd fits

  at_link_todo : (n : ℕ) → AtLinkTodo q a args n → IsValid args → Steps (at.LinkTodo n) (Link (path (Of Intd n)) (path (Of Todo n)))
  at_link_todo n h valid Done fits =
      let row = link_todo_row now q a args G n valid h in
      let by_test = λ (t : Bool). Outcome now q a args (named q (Of Todo n) (Some h.number) (if t then accepting q.books a n else q.books)) at.Queued in
      (q.role, linking (Of Intd n) (Of Todo n) _ at.Queued h.holds.rest.intd (subst by_test (sym (same_text (path (Of Intd n)))) row))
  at_link_todo n h valid (Refused why) fits = failed (Refused why) 66 (not_zero 65)
  at_link_todo n h valid answer fits = absurd fits

  at_clean_intd : (n : ℕ) (cause : ℕ) → Holds q a args n (λ w. IsBegun w a args n) → IsFailure cause → Steps (at.CleanIntd n cause) (Unlink (path (Of Intd n)))
  at_clean_intd n cause h bad Done fits = (q.role, clean_intd_row now q a args G n cause h bad)
  at_clean_intd n cause h bad (Refused NotThere) fits =
      let none = intd_missed q G.suits n fits in
      same (at.CleanMess n cause) (record { mine = h.mine; rest = record { begins = h.rest; no_intd = none } }, bad)
  at_clean_intd n cause h bad (Refused Fault) fits = same (at.Failed cause) (tt, bad)
  at_clean_intd n cause h bad answer fits = absurd fits

  at_clean_mess : (n : ℕ) (cause : ℕ) → Holds q a args n (λ w. IsBare w a args n) → IsFailure cause → Steps (at.CleanMess n cause) (Unlink (path (Of Mess n)))
  at_clean_mess n cause h bad Done fits = (q.role, clean_mess_row now q a args G n cause h bad)
  at_clean_mess n cause h bad (Refused why) fits = same (at.Failed cause) (tt, bad)
  at_clean_mess n cause h bad answer fits = absurd fits

  -- the call that is due is the row's
  due_call : (row : Row) (own call : CallData) → ◌≡◌ {A = NeedData} (needs.File own) (needs.File call) → Steps row own → Steps row call
  due_call row own call due h = let same : own ≡ call = cc in subst (Steps row) same h

  pub step : (row : Row) (call : CallData) → inject_due args row ≡ needs.File call → Basis q a args row → Steps row call
  step (at.Create seq) call due h = due_call (at.Create seq) _ call due (at_create seq)
  step (at.LinkMess seq n fd) call due h = due_call (at.LinkMess seq n fd) _ call due (at_link seq n fd h.0)
  step (at.UnlinkPid seq n fd) call due h = due_call (at.UnlinkPid seq n fd) _ call due (at_unlink seq n fd h.0)
  step (at.AppendMess n fd done) call due h = due_call (at.AppendMess n fd done) _ call due (at_append_mess n fd done h.0)
  step (at.SyncMess n fd) call due h = due_call (at.SyncMess n fd) _ call due (at_sync_mess n fd h.0 h.1)
  step (at.CreateIntd n) call due h = due_call (at.CreateIntd n) _ call due (at_create_intd n h.0 h.1)
  step (at.AppendTodo n fd done) call due h = due_call (at.AppendTodo n fd done) _ call due (at_append_todo n fd done h.0 h.1)
  step (at.SyncTodo n fd) call due h = due_call (at.SyncTodo n fd) _ call due (at_sync_todo n fd h.0 h.1)
  step (at.LinkTodo n) call due h = due_call (at.LinkTodo n) _ call due (at_link_todo n h.0 h.1)
  step (at.CleanIntd n cause) call due h = due_call (at.CleanIntd n cause) _ call due (at_clean_intd n cause h.0 h.1)
  step (at.CleanMess n cause) call due h = due_call (at.CleanMess n cause) _ call due (at_clean_mess n cause h.0 h.1)
  step at.Queued call due h = absurd (cc)
  step (at.Failed cause) call due h = absurd (cc)

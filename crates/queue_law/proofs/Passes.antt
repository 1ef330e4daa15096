-- One call of a todo pass, at each row of its table and with each answer.
use Rattle.std.proofs.Common.{◌≡◌, ◌≢◌, ℕ, ◌+◌, List, length, Bool, true, false, Option, Some, None, option_map, refl, sym, ap, ◌∙◌, subst, nat_lt}
use Rattle.std.specs.Prelude.{if◌then◌else◌, Result, Ok, Err}
use Rattle.address_rules.specs.declared.controls.Controls.{Controls}
use Rattle.call_fs.specs.Maps.{put}
use Rattle.call_fs.specs.Disk.{File, Open}
use Rattle.call_fs.specs.Apply.{Fits, IsNew, changed, grown, grown_part, synced, empty_file}
use Rattle.call_fs.specs.declared.calls.Fd.{Fd}
use Rattle.call_fs.specs.declared.calls.How.TheVariants as how
use Rattle.call_fs.specs.declared.modes.Mode.{Mode}
use Rattle.call_fs.specs.declared.past.NeedData.{NeedData}
use Rattle.call_fs.specs.declared.past.NeedData.TheVariants as needs
use Rattle.call_fs.specs.declared.calls.CallData.{CallData}
use Rattle.call_fs.specs.declared.calls.CallData.TheVariants as call
use Rattle.call_fs.specs.declared.calls.Answer.{Answer}
use Rattle.call_fs.specs.declared.calls.Answer.TheVariants as answer
use Rattle.call_fs.specs.declared.calls.FsError.TheVariants as why
use Rattle.call_fs.specs.declared.calls.Told.{Told}
use Rattle.call_fs.specs.declared.past.GotData.TheVariants.{Answered}
use Rattle.call_fs.proofs.Maps.{put_same, put_other}
use Rattle.queue_paths.specs.Names.{Part, path}
use Rattle.queue_paths.specs.Names.Name.{Of}
use Rattle.queue_paths.specs.Names.Part.{Mess, Todo, Bounce}
use Rattle.queue_paths.specs.Parts.{is_todo}
use Rattle.queue_paths.proofs.Parts.{todo_far, todo_same}
use Rattle.todo_pass.specs.declared.part.Target.{Target}
use Rattle.todo_pass.specs.declared.part.Target.TheVariants as target
use Rattle.todo_pass.specs.declared.row.Row.{Row}
use Rattle.todo_pass.specs.declared.row.Row.TheVariants as at
use Rattle.todo_pass.specs.declared.row.Why.{Why}
use Rattle.todo_pass.specs.declared.sorted.Sorted.{Sorted as Texts}
use Rattle.todo_pass.specs.Disks.{HoldsTodo}
use Rattle.todo_pass.specs.Sorting.{sort_todo, text_of, has}
use Rattle.todo_pass.specs.Table.{Pass, place_after as pass_after, moved_at, piece_size, cleared, read_row, remote_row, local_row, made_row, sorted_with, answered, due_at}
use Rattle.todo_pass.proofs.Made.{numbered}
use Rattle.queue_law.specs.Numbers.{Entry, Role, Queue, IsRight, Suits, about, IsQueued, Sound}
use Rattle.queue_law.specs.Numbers.Role.{AsPart}
use Rattle.queue_law.specs.Numbers.Phase.{Queued}
use Rattle.queue_law.specs.Injectors.{created, IsHeld}
use Rattle.queue_law.specs.Rests.{IsClosed, RestsAs}
use Rattle.queue_law.specs.Senders.{called_queue}
use Rattle.queue_law.specs.Passes.{file_part, HasOpen, Writes, HoldsAt, PassLeads, PassesKeep}
use Rattle.queue_law.proofs.Waits.{todo_here}
use Rattle.queue_law.proofs.Looks.{find_near, find_absent, found}
use Rattle.queue_law.proofs.Frame.{outside_same}
use Rattle.queue_law.proofs.Deeds.{made, written, made_suits, made_same, made_outside, made_old}
use Rattle.queue_law.proofs.Closed.{with_fds, gone, part_other, part_lost, part_suits, part_outside, closed_on, queued_same, part_elsewhere, fds_elsewhere, new_elsewhere, new_other, new_closed, bytes_suit, bytes_elsewhere, bytes_outside, bytes_old, bytes_mess, bytes_todo, bytes_closed, leads_on}

-- the parts that a pass makes are none of the others
record IsFar (part : Part) : Type 0 where
  mess : Mess ≢ part
  todo : is_todo part ≡ false
  bounce : Bounce ≢ part

far : (t : Target) → IsFar (file_part t)
far target.Info = record { mess = λ s. cc; todo = refl; bounce = λ s. cc }
far target.Local = record { mess = λ s. cc; todo = refl; bounce = λ s. cc }
far target.Remote = record { mess = λ s. cc; todo = refl; bounce = λ s. cc }

right_part : (t : Target) (n : ℕ) (y : Entry) → IsRight (Of (file_part t) n) y (AsPart (file_part t) n)
right_part target.Info n y = (refl, tt)
right_part target.Local n y = (refl, tt)
right_part target.Remote n y = (refl, tt)

part_role : (t : Target) (n i : ℕ) (role : Role) → Suits (Of (file_part t) n) i role → role ≡ AsPart (file_part t) n
part_role target.Info n i role h = h
part_role target.Local n i role h = h
part_role target.Remote n i role h = h

module _ (controls : Controls) (now : ℕ) (a : List ℕ) (q : Queue) (G : Sound q) (n : ℕ) (R : RestsAs now q n IsQueued) where
  -- to what a step leads
  abbrev To : Queue → Row → Type 0
  To r row = PassLeads now a q r n row

  -- its number rests then too
  abbrev rests_on : (r : Queue) → IsClosed now r n → IsQueued (about r n) → RestsAs now r n IsQueued
  rests_on r c w = record { closed = c; rest = w }

  -- descriptors alone changed
  of_fds : (opens : ℕ → Option Open) (holder : ℕ → Option (List ℕ)) (row : Row)
      → ((o : List ℕ) (fd : ℕ) (mode : Open) → o ≢ a → IsHeld q.disk.opens q.holder o fd mode → IsHeld opens holder o fd mode)
      → HoldsAt (with_fds q opens holder) a n row → To (with_fds q opens holder) row
  of_fds opens holder row others holds =
      let r = with_fds q opens holder in
      record {
        leads = leads_on now a q r G n (fds_elsewhere now a q G.suits n R.closed opens holder others) G.suits (Queued R.rest) G.over (outside_same q.disk opens)
            (record { files = λ _ _ _ _. refl; roles = λ _ _ _. refl });
        stands = record {
          rests = λ _. record { closed = closed_on now q r n refl refl refl R.closed; rest = R.rest };
          holds = holds;
        };
      }

  -- nothing changed
  same : (row : Row) → HoldsAt q a n row → To q row
  same row holds = of_fds q.disk.opens q.holder row (λ _ _ _ _ h. h) holds

  -- what an earlier pass left goes
  of_gone : (t : Target) (row : Row) → HoldsAt (gone q n (file_part t)) a n row → To (gone q n (file_part t)) row
  of_gone t row holds =
      let part = file_part t in
      let r = gone q n part in
      let f = far t in
      let w = queued_same (about q n) (about r n) refl (part_other q n part Mess f.mess) (todo_same (about q n).parts (about r n).parts (λ p is. part_other q n part p (todo_far p part is f.todo))) (part_lost q n part Bounce R.rest.no_bounce) R.rest in
      record {
        leads = leads_on now a q r G n (part_elsewhere now a q G.suits n R.closed part) (part_suits q G.suits n part) (Queued w) G.over (part_outside q n part)
            (record { files = λ _ _ _ _. refl; roles = λ _ _ _. refl });
        stands = record {
          rests = λ _. record { closed = closed_on now q r n (part_other q n part Mess f.mess) refl refl R.closed; rest = w };
          holds = holds;
        };
      }

  -- a file is made
  of_new : (t : Target) (fd i read done : ℕ) → IsNew q.disk (path (Of (file_part t) n)) fd i
      → To (made q a (Of (file_part t) n) fd i read (AsPart (file_part t) n)) (at.Append t (record { 0 = fd }) done)
  of_new t fd i read done new =
      let part = file_part t in
      let x = Of part n in
      let role = AsPart part n in
      let r = made q a x fd i read role in
      let f = far t in
      let other = new_other now a q G.suits n R.closed part fd i read new in
      let w = queued_same (about q n) (about r n) refl (other Mess f.mess) (todo_same (about q n).parts (about r n).parts (λ p is. other p (todo_far p part is f.todo))) (other Bounce f.bounce ∙ R.rest.no_bounce) R.rest in
      record {
        leads = leads_on now a q r G n (new_elsewhere now a q G.suits n R.closed part fd i read new)
            (made_suits now q G.suits x a fd i read role new (right_part t n (record { number = i; file = empty_file read })))
            (Queued w) G.over (made_outside q x fd i read new) (made_old q a x fd i read role new);
        stands = record {
          rests = λ _. record { closed = new_closed now a q G.suits n R.closed part fd i read new f.mess; rest = w };
          holds = record {
            file = record { number = i; file = empty_file read };
            there = made_same q x a fd i read role new;
            opened = record { opened = put_same q.disk.opens fd _; held = put_same q.holder fd (Some a) };
          };
        };
      }

  -- a file is written
  of_bytes : (t : Target) (fd : ℕ) (h : Writes q a n t fd) (f : File) (row : Row)
      → (Writes (written q h.file.number f) a n t fd → HoldsAt (written q h.file.number f) a n row) → To (written q h.file.number f) row
  of_bytes t fd h f row holds =
      let part = file_part t in
      let r = written q h.file.number f in
      let mine = part_role t n h.file.number (q.role h.file.number) (G.suits (Of part n) h.file h.there).0 in
      let it = far t in
      let mess = bytes_mess now a q G.suits n R.closed part h.file f h.there mine in
      let w = queued_same (about q n) (about r n) refl mess (bytes_todo now a q G.suits n R.closed part h.file f h.there mine it.todo)
      (find_absent q.disk.names q.disk.files (Of Bounce n) h.file.number f R.rest.no_bounce) R.rest in
      record {
        leads = leads_on now a q r G n (bytes_elsewhere now a q G.suits n R.closed part h.file f h.there mine)
            (bytes_suit now a q G.suits n R.closed part h.file f h.there mine) (Queued w) G.over
            (bytes_outside now a q G.suits n R.closed part h.file f h.there mine) (bytes_old now a q G.suits n R.closed part h.file f h.there mine);
        stands = record {
          rests = λ _. record { closed = bytes_closed now a q G.suits n R.closed part h.file f h.there mine; rest = w };
          holds = holds (record {
            file = record { number = h.file.number; file = f };
            there = find_near q.disk.names q.disk.files (Of part n) h.file f h.there;
            opened = h.opened;
          });
        };
      }

  -- a call that writes changes the file of its descriptor
  behind : (t : Target) (fd : ℕ) (h : Writes q a n t fd) (g : File → File) (row : Row)
      → ((r : Queue) → Writes r a n t fd → HoldsAt r a n row)
      → To (record { disk = changed q.disk (q.disk.opens fd) g; holder = q.holder; books = q.books; role = q.role }) row
  behind t fd h g row holds =
      let behind_it = λ (o : Option Open). To (record { disk = changed q.disk o g; holder = q.holder; books = q.books; role = q.role }) row in
      let f = g (q.disk.files h.file.number) in
      subst behind_it (sym h.opened.opened) (of_bytes t fd h f row (holds (written q h.file.number f)))

  -- a descriptor is closed
  of_close : (fd : ℕ) (row : Row) → HasOpen q a fd → ((r : Queue) → HoldsAt r a n row) → To (with_fds q (put q.disk.opens fd None) (put q.holder fd None)) row
  of_close fd row h holds = of_fds (put q.disk.opens fd None) (put q.holder fd None) row
      (λ o k mode other his.
      let apart : k ≢ fd = λ same. let w = h.1.held in let v = his.held in let u = ap q.holder same in other (cc) in
      record { opened = put_other q.disk.opens fd None k apart ∙ his.opened; held = put_other q.holder fd None k apart ∙ his.held })
      (holds (with_fds q (put q.disk.opens fd None) (put q.holder fd None)))

  -- rows that hold nothing open
  cleared_holds : (t : Target) (r : Queue) → HoldsAt r a n (cleared t)
  cleared_holds target.Info r = tt
  cleared_holds target.Local r = tt
  cleared_holds target.Remote r = tt

  remote_holds : (b : Bool) (r : Queue) → HoldsAt r a n (remote_row b)
  remote_holds true r = tt
  remote_holds false r = tt

  local_holds : (b c : Bool) (r : Queue) → HoldsAt r a n (local_row b c)
  local_holds true c r = tt
  local_holds false c r = remote_holds c r

  made_holds : (t : Target) (s : Texts) (r : Queue) → HoldsAt r a n (made_row t s)
  made_holds target.Info s r = local_holds (has s.local) (has s.remote) r
  made_holds target.Local s r = remote_holds (has s.remote) r
  made_holds target.Remote s r = tt

  sorted_holds : (p : Pass) (s : Result Texts ℕ) (r : Queue) → HoldsAt r a n (sorted_with p s).row
  sorted_holds p (Ok s) r = tt
  sorted_holds p (Err place) r = tt

  -- rows that go on with what is open
  piece_holds : (t : Target) (fd : Fd) (done : ℕ) (more : Bool) (r : Queue) → Writes r a n t fd.0 → HoldsAt r a n (if more then at.Append t fd done else at.Sync t fd)
  piece_holds t fd done true r h = h
  piece_holds t fd done false r h = h

  read_holds : (fd : Fd) (last : Bool) (r : Queue) → HasOpen r a fd.0 → HoldsAt r a n (if last then at.CloseTodo fd else at.ReadTodo fd)
  read_holds fd true r h = h
  read_holds fd false r h = h

  writes_open : (t : Target) (fd : ℕ) (r : Queue) → Writes r a n t fd → HasOpen r a fd
  writes_open t fd r h = (created h.file.number, h.opened)

  module _ (read wrote : ℕ) (bytes : List ℕ) where
    abbrev Steps : Row → Pass → CallData → Type 0
    Steps row p asked =
        (given : Answer) → Fits q.disk asked given wrote
        → (role : ℕ → Role) × To (called_queue q a read asked given wrote role) (answered controls row p read given bytes).row

    clear : (t : Target) (p : Pass) → Steps (at.Clear t) p (call.Unlink (path (Of (file_part t) n)))
    clear t p answer.Done fits = (q.role, of_gone t (cleared t) (cleared_holds t (gone q n (file_part t))))
    clear t p (answer.Refused why.NotThere) fits = (q.role, same (cleared t) (cleared_holds t q))
    clear t p (answer.Refused why.Fault) fits = (q.role, same (at.Left _) tt)
    clear t p given fits = absurd fits

    stat_mess : (p : Pass) → Steps at.StatMess p (call.Stat (path (Of Mess n)))
    stat_mess p (answer.Stat stat) fits = (q.role, same at.OpenTodo tt)
    stat_mess p (answer.Refused why.NotThere) fits = (q.role, same (at.Left _) tt)
    stat_mess p (answer.Refused why.Fault) fits = (q.role, same (at.Left _) tt)
    stat_mess p given fits = absurd fits

    open_todo : (p : Pass) → Steps at.OpenTodo p (call.Open (path (Of Todo n)) how.Read)
    open_todo p (answer.Opened fd) fits =
        let opened : Option ℕ → Option Open = option_map (λ k. record { number = k; mode = Mode.Opened how.Read }) in
        let named = (found q.disk.names q.disk.files (Of Todo n) R.rest.todo (sym (todo_here q G.suits n) ∙ R.rest.todo_there)).0 in (
          q.role,
          of_fds (put q.disk.opens fd.0 (opened (q.disk.names (path (Of Todo n))))) (put q.holder fd.0 (Some a)) (at.ReadTodo fd)
              (λ o k mode other h.
              let w = fits.not_open in
              let apart : k ≢ fd.0 = λ s. let v : q.disk.opens k ≡ q.disk.opens fd.0 = ap q.disk.opens s in let u = h.opened in absurd (cc) in
              record { opened = put_other q.disk.opens fd.0 _ k apart ∙ h.opened; held = put_other q.holder fd.0 _ k apart ∙ h.held })
              (record { number = R.rest.todo.number; mode = Mode.Opened how.Read }, record { opened = put_same q.disk.opens fd.0 _ ∙ ap opened named; held = put_same q.holder fd.0 (Some a) }),
        )
    open_todo p (answer.Refused why.NotThere) fits = (q.role, same (at.Left _) tt)
    open_todo p (answer.Refused why.Fault) fits = (q.role, same (at.Left _) tt)
    open_todo p (answer.Refused why.Memory) fits = (q.role, same (at.Left _) tt)
    open_todo p given fits = absurd fits

    read_todo : (fd : Fd) (p : Pass) (k len : ℕ) → HasOpen q a fd.0 → Steps (at.ReadTodo fd) p (call.ReadAt fd k len)
    read_todo fd p k len h (answer.Count count) fits = (q.role, same (read_row fd bytes) (read_holds fd (nat_lt (length bytes) piece_size) q h))
    read_todo fd p k len h (answer.Refused why.Fault) fits = (q.role, same (at.Shut fd _) h)
    read_todo fd p k len h given fits = absurd fits

    close_todo : (fd : Fd) (p : Pass) → HasOpen q a fd.0 → Steps (at.CloseTodo fd) p (call.Close fd)
    close_todo fd p h answer.Done fits = (q.role, of_close fd.0 _ h (sorted_holds p (sort_todo controls p.todo)))
    close_todo fd p h given fits = absurd fits

    create : (t : Target) (p : Pass) → Steps (at.Create t) p (call.CreateExcl (path (Of (file_part t) n)))
    create t p (answer.Created fd i) fits = (_, of_new t fd.0 i read 0 fits)
    create t p (answer.Refused why.NotThere) fits = (q.role, same (at.Left _) tt)
    create t p (answer.Refused why.Exists) fits = (q.role, same (at.Left _) tt)
    create t p (answer.Refused why.Fault) fits = (q.role, same (at.Left _) tt)
    create t p (answer.Refused why.Memory) fits = (q.role, same (at.Left _) tt)
    create t p given fits = absurd fits

    append : (t : Target) (fd : Fd) (done : ℕ) (p : Pass) (more : List ℕ) → Writes q a n t fd.0 → Steps (at.Append t fd done) p (call.Append fd more)
    append t fd done p more h answer.Done fits =
        (q.role, behind t fd.0 h (grown read more) _ (λ r w. piece_holds t fd (done + piece_size) (nat_lt (done + piece_size) (length (text_of p.sorted t))) r w))
    append t fd done p more h (answer.Refused why.Fault) fits =
        (q.role, behind t fd.0 h (grown_part read more wrote) (at.Shut fd _) (λ r w. writes_open t fd.0 r w))
    append t fd done p more h (answer.Refused why.Memory) fits = (q.role, same (at.Shut fd _) (writes_open t fd.0 q h))
    append t fd done p more h given fits = absurd fits

    sync : (t : Target) (fd : Fd) (p : Pass) → Writes q a n t fd.0 → Steps (at.Sync t fd) p (call.Sync fd)
    sync t fd p h answer.Done fits = (q.role, behind t fd.0 h synced (at.Close t fd) (λ r w. writes_open t fd.0 r w))
    sync t fd p h (answer.Refused why.Fault) fits = (q.role, same (at.Shut fd _) (writes_open t fd.0 q h))
    sync t fd p h given fits = absurd fits

    close : (t : Target) (fd : Fd) (p : Pass) → HasOpen q a fd.0 → Steps (at.Close t fd) p (call.Close fd)
    close t fd p h answer.Done fits = (q.role, of_close fd.0 _ h (made_holds t p.sorted))
    close t fd p h given fits = absurd fits

    shut : (fd : Fd) (cause : Why) (p : Pass) → HasOpen q a fd.0 → Steps (at.Shut fd cause) p (call.Close fd)
    shut fd cause p h answer.Done fits = (q.role, of_close fd.0 (at.Left cause) h (λ r. tt))
    shut fd cause p h given fits = absurd fits

    due_call : (row : Row) (p : Pass) (own asked : CallData) → ◌≡◌ {A = NeedData} (needs.File own) (needs.File asked) → Steps row p own → Steps row p asked
    due_call row p own asked due h = let same : own ≡ asked = cc in subst (Steps row p) same h

    -- the call that is due is the row's
    pub step : (row : Row) (p : Pass) → HoldsAt q a n row → (asked : CallData) → due_at row (record p { n = n }) ≡ needs.File asked → Steps row p asked
    step (at.Clear target.Info) p h asked due = due_call (at.Clear target.Info) p _ asked due (clear target.Info p)
    step (at.Clear target.Local) p h asked due = due_call (at.Clear target.Local) p _ asked due (clear target.Local p)
    step (at.Clear target.Remote) p h asked due = due_call (at.Clear target.Remote) p _ asked due (clear target.Remote p)
    step at.StatMess p h asked due = due_call at.StatMess p _ asked due (stat_mess p)
    step at.OpenTodo p h asked due = due_call at.OpenTodo p _ asked due (open_todo p)
    step (at.ReadTodo fd) p h asked due = due_call (at.ReadTodo fd) p _ asked due (read_todo fd p _ _ h)
    step (at.CloseTodo fd) p h asked due = due_call (at.CloseTodo fd) p _ asked due (close_todo fd p h)
    step (at.Create target.Info) p h asked due = due_call (at.Create target.Info) p _ asked due (create target.Info p)
    step (at.Create target.Local) p h asked due = due_call (at.Create target.Local) p _ asked due (create target.Local p)
    step (at.Create target.Remote) p h asked due = due_call (at.Create target.Remote) p _ asked due (create target.Remote p)
    step (at.Append t fd done) p h asked due = due_call (at.Append t fd done) p _ asked due (append t fd done p _ h)
    step (at.Sync t fd) p h asked due = due_call (at.Sync t fd) p _ asked due (sync t fd p h)
    step (at.Close t fd) p h asked due = due_call (at.Close t fd) p _ asked due (close t fd p h)
    step (at.Shut fd cause) p h asked due = due_call (at.Shut fd cause) p _ asked due (shut fd cause p h)
    step at.Give p h asked due = absurd (cc)
    step at.Answer p h asked due = absurd (cc)
    step at.Done p h asked due = absurd (cc)
    step (at.Left cause) p h asked due = absurd (cc)
    step at.Lost p h asked due = absurd (cc)

-- what a row says at which a call is due
calling_holds : (row : Row) (p : Pass) (asked : CallData) → due_at row p ≡ needs.File asked → HoldsTodo row
calling_holds at.Give p asked due = absurd (cc)
calling_holds at.Answer p asked due = absurd (cc)
calling_holds at.Done p asked due = absurd (cc)
calling_holds (at.Left cause) p asked due = absurd (cc)
calling_holds at.Lost p asked due = absurd (cc)
calling_holds row p asked due = tt

calling_moves : (controls : Controls) (row : Row) (p : Pass) (asked : CallData) → due_at row p ≡ needs.File asked → (read : ℕ) (told : Told)
    → moved_at controls row p read (Answered told) ≡ answered controls row p read told.answer told.bytes
calling_moves controls at.Give p asked due read told = absurd (cc)
calling_moves controls at.Answer p asked due read told = absurd (cc)
calling_moves controls (at.Clear t) p asked due read told = refl
calling_moves controls at.StatMess p asked due read told = refl
calling_moves controls at.OpenTodo p asked due read told = refl
calling_moves controls (at.ReadTodo fd) p asked due read told = refl
calling_moves controls (at.CloseTodo fd) p asked due read told = refl
calling_moves controls (at.Create t) p asked due read told = refl
calling_moves controls (at.Append t fd done) p asked due read told = refl
calling_moves controls (at.Sync t fd) p asked due read told = refl
calling_moves controls (at.Close t fd) p asked due read told = refl
calling_moves controls (at.Shut fd cause) p asked due read told = refl
calling_moves controls at.Done p asked due read told = refl
calling_moves controls (at.Left cause) p asked due read told = refl
calling_moves controls at.Lost p asked due read told = refl

pub passes_keep : PassesKeep
passes_keep controls now q a n past read ready asked told wrote G S due fits =
    let p = pass_after controls n past in
    let due_it : due_at p.row (record p { n = n }) ≡ needs.File asked = subst (λ k. due_at p.row (record p { n = k }) ≡ needs.File asked) (numbered controls n past) due in
    let w = step controls now a q G n (S.rests (calling_holds p.row p asked due)) read wrote told.bytes p.row p S.holds asked due_it told.answer fits in
    (w.0, subst (λ (next : Pass). PassLeads now a q (called_queue q a read asked told.answer wrote w.0) n next.row) (sym (calling_moves controls p.row p asked due read told)) w.1)

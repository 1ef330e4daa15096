-- The rows of an injector use what it holds open.
use Rattle.std.proofs.Common.{◌≡◌, ℕ, ◌+◌, List, [], ◌∷◌, length, take, drop, Bool, true, false, if◌then◌else◌, nat_lt, nat_le, Option, Some, None, IsSome, refl, sym, subst}
use Rattle.std.specs.Prelude.{IsSomeAnd}
use Rattle.call_fs.specs.declared.calls.CallData.{CallData}
use Rattle.call_fs.specs.declared.calls.CallData.TheVariants as call
use Rattle.call_fs.specs.declared.calls.Answer.{Answer}
use Rattle.call_fs.specs.declared.calls.Answer.TheVariants as told
use Rattle.call_fs.specs.declared.calls.Fd.{Fd}
use Rattle.call_fs.specs.declared.calls.FsError.TheVariants.{NotThere, Exists, Fault, Memory}
use Rattle.call_fs.specs.declared.program.Ready.{Ready}
use Rattle.call_fs.specs.declared.past.NeedData.{NeedData}
use Rattle.call_fs.specs.declared.past.NeedData.TheVariants as needs
use Rattle.call_fs.specs.declared.past.GotData.TheVariants.{Answered}
use Rattle.call_fs.specs.declared.past.Own.{Own}
use Rattle.call_fs.specs.Columns.{IsAnswerTo}
use Rattle.call_fs.specs.Disk.{IsForAppend}
use Rattle.call_fs.specs.declared.modes.Mode.{Mode}
use Rattle.call_fs.specs.Past.{held, held_by, held_after, UsesHeld}
use Rattle.call_fs.proofs.Maps.{put_same}
use Rattle.queue_paths.specs.Names.{path}
use Rattle.queue_paths.specs.Names.Name.{Pid, Of}
use Rattle.queue_paths.specs.Names.Part.{Mess, Intd, Todo}
use Rattle.queue_inject.specs.declared.injection.Arguments.{Arguments}
use Rattle.queue_inject.specs.declared.row.Row.{Row}
use Rattle.queue_inject.specs.declared.row.Row.TheVariants as at
use Rattle.queue_inject.specs.Texts.{Text, message_text, intd_text}
use Rattle.queue_inject.specs.Table.{Next, work_of, due_by, moved, past_bytes, in_message, in_todo, place_after, after_came, past_piece, piece_size, in_time, has_input, is_late}
use Rattle.queue_inject.specs.Run.{IsRun}
use Rattle.queue_inject.specs.inside.Held.{HoldsRow}
use Rattle.queue_inject.proofs.Asks.{call_at_due}
use Rattle.queue_inject.proofs.Runs.{timely}

module _ (h : ℕ → Option Mode) where
  in_piece : (bytes : List ℕ) (fault : Option ℕ) (done : ℕ) (more end : Row) (bad : ℕ → Row)
      → HoldsRow h more → HoldsRow h end → ((status : ℕ) → HoldsRow h (bad status)) → HoldsRow h (past_piece bytes fault done more end bad)
  in_piece bytes None done more end bad m e b =
      elim (nat_lt done (length bytes)) as (λ t. HoldsRow h (if t then more else end)) [ true ↦ m | false ↦ e ]
  in_piece bytes (Some status) done more end bad m e b =
      elim (nat_le (done + piece_size) (length bytes)) as (λ t. HoldsRow h (if t then more else bad status)) [ true ↦ m | false ↦ b status ]

  message_row : (text : Text) (n fd done : ℕ) → h fd ≡ Some Mode.Created → HoldsRow h (in_message text n fd done)
  message_row text n fd done own =
      in_piece text.bytes text.fault done (at.AppendMess n (record { 0 = fd }) done) (at.SyncMess n (record { 0 = fd })) (λ status. at.CleanMess n status) own own (λ status. tt)

  todo_row : (text : Text) (n fd done : ℕ) → h fd ≡ Some Mode.Created → HoldsRow h (in_todo text n fd done)
  todo_row text n fd done own =
      in_piece text.bytes text.fault done (at.AppendTodo n (record { 0 = fd }) done) (at.SyncTodo n (record { 0 = fd })) (λ status. at.CleanIntd n status) own own (λ status. tt)

-- after the call of a row
module _ (args : Arguments) (h : ℕ → Option Mode) where
  abbrev Moves : Row → CallData → Type 0
  Moves row c = (answer : Answer) → HoldsRow h row → IsAnswerTo c answer → HoldsRow (held_after h c answer) (moved args row answer)

  creates : (k : ℕ) (name : List ℕ) → Moves (at.Create k) (call.CreateExcl name)
  creates k name (told.Created fd n) own fit = put_same h fd.0 (Some Mode.Created)
  creates k name (told.Refused Exists) own fit =
      elim (nat_lt k 9) as (λ t. HoldsRow h (past_bytes (work_of args) (if t then at.Create (k + 1) else at.Failed 63))) [ true ↦ tt | false ↦ tt ]
  creates k name (told.Refused NotThere) own fit = tt
  creates k name (told.Refused Fault) own fit = tt
  creates k name (told.Refused Memory) own fit = tt
  creates k name _ own fit = absurd fit

  links_mess : (k n : ℕ) (fd : Fd) (old new : List ℕ) → Moves (at.LinkMess k n fd) (call.Link old new)
  links_mess k n fd old new told.Done own fit = own
  links_mess k n fd old new (told.Refused why) own fit = tt
  links_mess k n fd old new _ own fit = absurd fit

  unlinks_pid : (k n : ℕ) (fd : Fd) (name : List ℕ) → Moves (at.UnlinkPid k n fd) (call.Unlink name)
  unlinks_pid k n fd name told.Done own fit = message_row h (message_text args) n fd.0 0 own
  unlinks_pid k n fd name (told.Refused why) own fit = tt
  unlinks_pid k n fd name _ own fit = absurd fit

  appends_mess : (n done : ℕ) (fd : Fd) (piece : List ℕ) → Moves (at.AppendMess n fd done) (call.Append fd piece)
  appends_mess n done fd piece told.Done own fit = message_row h (message_text args) n fd.0 (done + piece_size) own
  appends_mess n done fd piece (told.Refused why) own fit = tt
  appends_mess n done fd piece _ own fit = absurd fit

  syncs_mess : (n : ℕ) (fd : Fd) → Moves (at.SyncMess n fd) (call.Sync fd)
  syncs_mess n fd told.Done own fit = tt
  syncs_mess n fd (told.Refused why) own fit = tt
  syncs_mess n fd _ own fit = absurd fit

  creates_intd : (n : ℕ) (name : List ℕ) → Moves (at.CreateIntd n) (call.CreateExcl name)
  creates_intd n name (told.Created fd i) own fit = todo_row (held_after h (call.CreateExcl name) (told.Created fd i)) (intd_text args) n fd.0 0 (put_same h fd.0 (Some Mode.Created))
  creates_intd n name (told.Refused why) own fit = tt
  creates_intd n name _ own fit = absurd fit

  appends_todo : (n done : ℕ) (fd : Fd) (piece : List ℕ) → Moves (at.AppendTodo n fd done) (call.Append fd piece)
  appends_todo n done fd piece told.Done own fit = todo_row h (intd_text args) n fd.0 (done + piece_size) own
  appends_todo n done fd piece (told.Refused why) own fit = tt
  appends_todo n done fd piece _ own fit = absurd fit

  syncs_todo : (n : ℕ) (fd : Fd) → Moves (at.SyncTodo n fd) (call.Sync fd)
  syncs_todo n fd told.Done own fit = tt
  syncs_todo n fd (told.Refused why) own fit = tt
  syncs_todo n fd _ own fit = absurd fit

  links_todo : (n : ℕ) (old new : List ℕ) → Moves (at.LinkTodo n) (call.Link old new)
  links_todo n old new told.Done own fit = tt
  links_todo n old new (told.Refused why) own fit = tt
  links_todo n old new _ own fit = absurd fit

  cleans_intd : (n status : ℕ) (name : List ℕ) → Moves (at.CleanIntd n status) (call.Unlink name)
  cleans_intd n status name told.Done own fit = tt
  cleans_intd n status name (told.Refused NotThere) own fit = tt
  cleans_intd n status name (told.Refused Fault) own fit = tt
  cleans_intd n status name _ own fit = absurd fit

  cleans_mess : (n status : ℕ) (name : List ℕ) → Moves (at.CleanMess n status) (call.Unlink name)
  cleans_mess n status name told.Done own fit = tt
  cleans_mess n status name (told.Refused why) own fit = tt
  cleans_mess n status name _ own fit = absurd fit

  due_moves : (row : Row) (own c : CallData) → ◌≡◌ {A = NeedData} (needs.File own) (needs.File c) → Moves row own → Moves row c
  due_moves row own c due m = let same : own ≡ c = cc in subst (Moves row) same m

  row_moves : (row : Row) (c : CallData) → due_by args row ≡ needs.File c → Moves row c
  row_moves (at.Create k) c due = due_moves (at.Create k) _ c due (creates k (path (Pid args.pid args.start k)))
  row_moves (at.LinkMess k n fd) c due = due_moves (at.LinkMess k n fd) _ c due (links_mess k n fd (path (Pid args.pid args.start k)) (path (Of Mess n)))
  row_moves (at.UnlinkPid k n fd) c due = due_moves (at.UnlinkPid k n fd) _ c due (unlinks_pid k n fd (path (Pid args.pid args.start k)))
  row_moves (at.AppendMess n fd done) c due = due_moves (at.AppendMess n fd done) _ c due (appends_mess n done fd (take piece_size (drop done (message_text args).bytes)))
  row_moves (at.SyncMess n fd) c due = due_moves (at.SyncMess n fd) _ c due (syncs_mess n fd)
  row_moves (at.CreateIntd n) c due = due_moves (at.CreateIntd n) _ c due (creates_intd n (path (Of Intd n)))
  row_moves (at.AppendTodo n fd done) c due = due_moves (at.AppendTodo n fd done) _ c due (appends_todo n done fd (take piece_size (drop done (intd_text args).bytes)))
  row_moves (at.SyncTodo n fd) c due = due_moves (at.SyncTodo n fd) _ c due (syncs_todo n fd)
  row_moves (at.LinkTodo n) c due = due_moves (at.LinkTodo n) _ c due (links_todo n (path (Of Intd n)) (path (Of Todo n)))
  row_moves (at.CleanIntd n status) c due = due_moves (at.CleanIntd n status) _ c due (cleans_intd n status (path (Of Intd n)))
  row_moves (at.CleanMess n status) c due = due_moves (at.CleanMess n status) _ c due (cleans_mess n status (path (Of Mess n)))
  row_moves at.Queued c due = absurd (cc)
  row_moves (at.Failed status) c due = absurd (cc)

pub holds : (args : Arguments) (past : List Own) → IsRun args past → HoldsRow (held past) (place_after args past)
holds args [] run = tt
holds args (event ∷ before) (run, due) =
    let c = call_at_due args before event due in
    let own = holds args before run in
    let moved : HoldsRow (held_after (held before) c.call c.told.answer) (after_came args (place_after args before) (Answered c.told)) =
    row_moves args (held before) (place_after args before) c.call (timely _ _ _ c.call c.next) c.told.answer own c.fits in
    subst (λ d. HoldsRow (held_by (held before) d event.came) (after_came args (place_after args before) event.came)) (sym c.due)
    (subst (λ a. HoldsRow (held_by (held before) (needs.File c.call) a) (after_came args (place_after args before) a)) (sym c.came) moved)

-- so its calls may use them

some_and : (o : Option Mode) → o ≡ Some Mode.Created → IsSomeAnd o IsForAppend
some_and o is = subst (λ m. IsSomeAnd m IsForAppend) (sym is) tt

some : (o : Option Mode) → o ≡ Some Mode.Created → IsSome o
some o is = subst IsSome (sym is) refl

row_uses : (args : Arguments) (h : ℕ → Option Mode) (row : Row) → HoldsRow h row → UsesHeld h (due_by args row)
row_uses args h (at.Create k) own = tt
row_uses args h (at.LinkMess k n fd) own = tt
row_uses args h (at.UnlinkPid k n fd) own = tt
row_uses args h (at.AppendMess n fd done) own = some_and (h fd.0) own
row_uses args h (at.SyncMess n fd) own = some (h fd.0) own
row_uses args h (at.CreateIntd n) own = tt
row_uses args h (at.AppendTodo n fd done) own = some_and (h fd.0) own
row_uses args h (at.SyncTodo n fd) own = some (h fd.0) own
row_uses args h (at.LinkTodo n) own = tt
row_uses args h (at.CleanIntd n status) own = tt
row_uses args h (at.CleanMess n status) own = tt
row_uses args h at.Queued own = tt
row_uses args h (at.Failed status) own = tt

in_time_uses : (h : ℕ → Option Mode) (input late : Bool) (due : NeedData) → UsesHeld h due → UsesHeld h (in_time input late due)
in_time_uses h true true (needs.File c) uses = tt
in_time_uses h true false (needs.File c) uses = uses
in_time_uses h false late (needs.File c) uses = tt
in_time_uses h input late (needs.Take port) uses = tt
in_time_uses h input late (needs.Give port bytes) uses = tt
in_time_uses h input late (needs.Start child) uses = tt
in_time_uses h input late (needs.Command bytes) uses = tt
in_time_uses h input late needs.Wait uses = tt
in_time_uses h input late (needs.Ended status) uses = tt

pub holds_what_it_uses : (args : Arguments) (past : List Own) (now : ℕ) (ready : Ready) → IsRun args past → UsesHeld (held past) (Next args past now ready)
holds_what_it_uses args past now ready run =
    in_time_uses (held past) (has_input ready) (is_late args now) (due_by args (place_after args past)) (row_uses args (held past) (place_after args past) (holds args past run))

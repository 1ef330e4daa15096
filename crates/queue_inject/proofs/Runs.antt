-- What a run has come to, by the row after it.
use Rattle.std.proofs.Common.{◌≡◌, ◌≢◌, ℕ, ◌+◌, ◌≤◌, ◌<◌, List, [], ◌∷◌, length, Option, Some, None, Bool, true, false, refl, sym, ap, ◌∙◌, subst, ⊎_elim, inl, inr, arith}
use Rattle.std.specs.Prelude.{if◌then◌else◌, nat_lt, nat_le}
use Rattle.std.specs.Option.{option_or}
use Rattle.std.proofs.lemmas.Bool.{cases_lt, lt-ltb, ltb-true}
use Rattle.call_fs.specs.declared.calls.CallData.{CallData}
use Rattle.call_fs.specs.declared.calls.CallData.TheVariants.{CreateExcl, Append, Sync, Link, Unlink}
use Rattle.call_fs.specs.declared.calls.Answer.{Answer}
use Rattle.call_fs.specs.declared.calls.Answer.TheVariants.{Created, Done, Refused}
use Rattle.call_fs.specs.declared.calls.Fd.{Fd}
use Rattle.call_fs.specs.declared.calls.FsError.{FsError}
use Rattle.call_fs.specs.declared.calls.FsError.TheVariants.{NotThere, Exists, Fault, Memory}
use Rattle.call_fs.specs.declared.program.Ready.{Ready}
use Rattle.call_fs.specs.Columns.{IsAnswerTo}
use Rattle.call_fs.specs.declared.past.GotData.{GotData}
use Rattle.call_fs.specs.declared.past.GotData.TheVariants.{Answered}
use Rattle.call_fs.specs.declared.past.NeedData.{NeedData}
use Rattle.call_fs.specs.declared.past.NeedData.TheVariants as needs
use Rattle.call_fs.specs.declared.past.Own.{Own}
use Rattle.queue_paths.specs.Names.{path}
use Rattle.queue_paths.specs.Names.Part.{Mess, Intd, Todo}
use Rattle.queue_paths.specs.Names.Name.{Of}
use Rattle.queue_inject.specs.declared.injection.Arguments.{Arguments}
use Rattle.queue_inject.specs.declared.row.Row.{Row}
use Rattle.queue_inject.specs.declared.row.Row.TheVariants as at
use Rattle.queue_inject.specs.Texts.{message_text, intd_text}
use Rattle.queue_inject.specs.Table.{work_of, piece_size, failure, past_piece, in_message, in_todo, past_bytes, moved, place_after, due_by, in_time}
use Rattle.queue_inject.proofs.Pieces.{either}
use Rattle.queue_inject.proofs.Asks.{call_at_due}
use Rattle.queue_inject.specs.Run.{IsDue, IsRun}
use Rattle.call_fs.specs.Past.{HoldsOf, HasCall}
use Rattle.queue_inject.specs.Causes.{first_fault, pid_name, IsTry, IsTaken, IsQueuing, IsCleanUp, IsFailure, FailsWith}
use Rattle.queue_inject.specs.Causes.FailsWith.{WantsMemory, Appends, Syncs, TakesAll, MakesPid, LeavesPid, LinksMess, MakesIntd, LinksTodo}
use Rattle.queue_inject.proofs.Failures.{no_clean_up, pid_stays, pid_is_no_part, same_try, clean_queues_none, refused_queues_none, fails, one_status, has_failure}

-- no call failed, and none queued the message
pub record IsClear (args : Arguments) (past : List Own) : Type 0 where
  pub unfailed : ¬ (HasCall past (IsFailure args))
  pub unqueued : ¬ (HasCall past IsQueuing)

-- it ends with this status: of the first fault of the input, or of the one call that failed
pub data IsEnding (args : Arguments) (past : List Own) (status : ℕ) : Type 0 where
  ByInput : IsClear args past → first_fault args ≡ Some status → IsEnding args past status
  ByCall : ¬ (HasCall past IsQueuing) → HasCall past (FailsWith args status) → ((other : ℕ) → HasCall past (FailsWith args other) → other ≡ status) → IsEnding args past status

abbrev pub IsAt : Arguments → List Own → Row → Type 0
IsAt args past (at.Create k) = IsClear args past × IsTry k × ((j : ℕ) → 1 ≤ j → j < k → HasCall past (IsTaken args j))
IsAt args past (at.LinkMess k n fd) = IsClear args past × IsTry k
IsAt args past (at.UnlinkPid k n fd) = IsClear args past × IsTry k
IsAt args past (at.AppendMess n fd done) = IsClear args past
IsAt args past (at.SyncMess n fd) = IsClear args past × ((message_text args).fault ≡ None)
IsAt args past (at.CreateIntd n) = IsClear args past × ((message_text args).fault ≡ None)
IsAt args past (at.AppendTodo n fd done) = IsClear args past × ((message_text args).fault ≡ None)
IsAt args past (at.SyncTodo n fd) = IsClear args past × (first_fault args ≡ None)
IsAt args past (at.LinkTodo n) = IsClear args past × (first_fault args ≡ None)
IsAt args past (at.CleanIntd n status) = IsEnding args past status
IsAt args past (at.CleanMess n status) = IsEnding args past status
IsAt args past at.Queued = (first_fault args ≡ None) × (¬ (HasCall past (IsFailure args))) × HasCall past IsQueuing
IsAt args past (at.Failed status) = IsEnding args past status

-- What follows the written bytes of a text

pub past_written : (P : Row → Type 0) (bytes : List ℕ) (fault : Option ℕ) (done : ℕ) (more end : Row) (bad : ℕ → Row)
    → P more → (fault ≡ None → P end) → ((status : ℕ) → fault ≡ Some status → P (bad status)) → P (past_piece bytes fault done more end bad)
past_written P bytes None done more end bad h whole faulty = either P (nat_lt done (length bytes)) more end h (whole refl)
past_written P bytes (Some status) done more end bad h whole faulty = either P (nat_le (done + piece_size) (length bytes)) more (bad status) h (faulty status refl)

in_message_at : (args : Arguments) (past : List Own) (n fd done : ℕ) → IsClear args past → IsAt args past (in_message (message_text args) n fd done)
in_message_at args past n fd done clear =
    past_written (IsAt args past) (message_text args).bytes (message_text args).fault done (at.AppendMess n (record { 0 = fd }) done) (at.SyncMess n (record { 0 = fd })) (λ status. at.CleanMess n status)
    clear
    (λ none. (clear, none))
    (λ status some. ByInput clear (ap (λ fault. option_or fault (intd_text args).fault) some))

in_todo_at : (args : Arguments) (past : List Own) (n fd done : ℕ) → IsClear args past → (message_text args).fault ≡ None → IsAt args past (in_todo (intd_text args) n fd done)
in_todo_at args past n fd done clear whole =
    let first : first_fault args ≡ (intd_text args).fault = ap (λ fault. option_or fault (intd_text args).fault) whole in
    past_written (IsAt args past) (intd_text args).bytes (intd_text args).fault done (at.AppendTodo n (record { 0 = fd }) done) (at.SyncTodo n (record { 0 = fd })) (λ status. at.CleanIntd n status)
    (clear, whole)
    (λ none. (clear, first ∙ none))
    (λ status some. ByInput clear (first ∙ some))

-- One event more, of a call and its answer
module _ (args : Arguments) (before : List Own) (read : ℕ) (ready : Ready) (bytes : List ℕ) where
  abbrev pub called : CallData → Answer → Own
  called call answer = record { read = read; ready = ready; due = needs.File call; came = Answered (record { answer = answer; bytes = bytes }) }

  abbrev pub with_call : CallData → Answer → List Own
  with_call call answer = called call answer ∷ before

  pub held : (P : CallData → Answer → Type 0) (call : CallData) (answer : Answer) → P call answer → HoldsOf P (called call answer)
  held P call answer p = record { call = call; told = record { answer = answer; bytes = bytes }; due = refl; came = refl; holds = p }

  of_held : (P : CallData → Answer → Type 0) (call : CallData) (answer : Answer) → HoldsOf P (called call answer) → P call answer
  of_held P call answer h =
      let due : needs.File call ≡ needs.File h.call = h.due in
      let came : Answered (record { answer = answer; bytes = bytes }) ≡ Answered h.told = h.came in
      let of_call : h.call ≡ call = cc in
      let of_answer : h.told.answer ≡ answer = cc in
      subst (λ a. P call a) of_answer (subst (λ c. P c h.told.answer) of_call h.holds)

  clear_on : (call : CallData) (answer : Answer) → IsClear args before → ¬ (IsFailure args call answer) → ¬ (IsQueuing call answer) → IsClear args (with_call call answer)
  clear_on call answer clear well other = record {
    unfailed = ⊎_elim (λ h. well (of_held (IsFailure args) call answer h)) clear.unfailed;
    unqueued = ⊎_elim (λ h. other (of_held IsQueuing call answer h)) clear.unqueued;
  }

  made : (call : CallData) (fd : Fd) (n : ℕ) → IsClear args before → IsClear args (with_call call (Created fd n))
  made call fd n clear = clear_on call (Created fd n) clear (λ f. let told = f.refused in cc) (λ q. let told = q.2 in cc)

  did_well : (call : CallData) → IsClear args before → ¬ (IsQueuing call Done) → IsClear args (with_call call Done)
  did_well call clear other = clear_on call Done clear (λ f. let told = f.refused in cc) other

  failed_at : (status : ℕ) (call : CallData) (why : FsError) → IsClear args before → FailsWith args status call (Refused why) → IsEnding args (with_call call (Refused why)) status
  failed_at status call why clear f = ByCall
      (⊎_elim (λ h. refused_queues_none call why (of_held IsQueuing call (Refused why) h)) clear.unqueued)
      (inl (held (FailsWith args status) call (Refused why) f))
      (λ other. ⊎_elim (λ g. one_status (of_held (FailsWith args other) call (Refused why) g) f) (λ there. absurd (clear.unfailed (has_failure args other before there))))

  refused_at : (status : ℕ) (call : CallData) (why : FsError) → IsClear args before → ¬ (IsCleanUp call)
      → (why ≢ Memory → FailsWith args status call (Refused why)) → IsEnding args (with_call call (Refused why)) (failure (Refused why) status)
  refused_at status call NotThere clear needed f = failed_at status call NotThere clear (f (λ e. cc))
  refused_at status call Exists clear needed f = failed_at status call Exists clear (f (λ e. cc))
  refused_at status call Fault clear needed f = failed_at status call Fault clear (f (λ e. cc))
  refused_at status call Memory clear needed f = failed_at 51 call Memory clear (WantsMemory call needed)

  cleaned : (status : ℕ) (call : CallData) (answer : Answer) → IsCleanUp call → IsEnding args before status → IsEnding args (with_call call answer) status
  cleaned status call answer clean (ByInput clear fault) = ByInput (clear_on call answer clear (λ f. f.needed clean) (clean_queues_none call answer clean)) fault
  cleaned status call answer clean (ByCall unqueued f one) = ByCall
      (⊎_elim (λ h. clean_queues_none call answer clean (of_held IsQueuing call answer h)) unqueued)
      (inr f)
      (λ other. ⊎_elim (λ g. absurd ((fails (of_held (FailsWith args other) call answer g)).needed clean)) (one other))

  -- the row after it
  abbrev Keeps : Row → CallData → Type 0
  Keeps row call = (answer : Answer) → IsAt args before row → IsAnswerTo call answer → IsAt args (with_call call answer) (moved args row answer)

  taken : (k : ℕ) (t : Bool) → nat_lt k 9 ≡ t → IsAt args before (at.Create k)
      → IsAt args (with_call (CreateExcl (pid_name args k)) (Refused Exists)) (past_bytes (work_of args) (if t then at.Create (k + 1) else at.Failed 63))
  taken k true less (clear, in_range, below) =
      let small : k < 9 = ltb-true k 9 less in
      let low = in_range.0 in
      let here : IsTaken args k (CreateExcl (pid_name args k)) (Refused Exists) = (refl, refl) in (
        clear_on (CreateExcl (pid_name args k)) (Refused Exists) clear (λ f. f.last k small here) (refused_queues_none (CreateExcl (pid_name args k)) Exists),
        (omega arith, omega arith),
        λ j from to. ⊎_elim
            (λ less. inr (below j from less))
            (λ more. let is : k ≡ j = omega arith in inl (held (IsTaken args j) _ _ (subst (λ i. IsTaken args i (CreateExcl (pid_name args k)) (Refused Exists)) is here)))
            (cases_lt j k),
      )
  taken k false more (clear, in_range, below) =
      let high = in_range.1 in
      let last : 9 ≡ k = ⊎_elim (λ small. let less = lt-ltb k 9 small in absurd (cc)) (λ large. omega arith) (cases_lt k 9) in
      failed_at 63 (CreateExcl (pid_name args k)) Exists clear (subst (λ j. FailsWith args 63 (CreateExcl (pid_name args j)) (Refused Exists)) last TakesAll)

  creates : (k : ℕ) → Keeps (at.Create k) (CreateExcl (pid_name args k))
  creates k (Created fd n) (clear, in_range, below) fit = (made (CreateExcl (pid_name args k)) fd n clear, in_range)
  creates k (Refused Exists) here fit = taken k (nat_lt k 9) refl here
  creates k (Refused NotThere) (clear, in_range, below) fit = failed_at 63 (CreateExcl (pid_name args k)) NotThere clear (MakesPid k NotThere in_range (λ e. cc) (λ e. cc))
  creates k (Refused Fault) (clear, in_range, below) fit = failed_at 63 (CreateExcl (pid_name args k)) Fault clear (MakesPid k Fault in_range (λ e. cc) (λ e. cc))
  creates k (Refused Memory) (clear, in_range, below) fit = failed_at 51 (CreateExcl (pid_name args k)) Memory clear (WantsMemory _ (no_clean_up (CreateExcl (pid_name args k)) (λ name e. cc)))
  creates k _ here fit = absurd fit

  links_mess : (k n : ℕ) (fd : Fd) → Keeps (at.LinkMess k n fd) (Link (pid_name args k) (path (Of Mess n)))
  links_mess k n fd Done (clear, in_range) fit = (did_well (Link (pid_name args k) (path (Of Mess n))) clear (λ q. pid_is_no_part args k q.0 Intd (linked _ _ _ _ q.1)), in_range) where
    linked : (a b c d : List ℕ) → ◌≡◌ {A = CallData} (Link a b) (Link c d) → a ≡ c
    linked a b c d e = cc
  links_mess k n fd (Refused why) (clear, in_range) fit = refused_at 64 (Link (pid_name args k) (path (Of Mess n))) why clear (no_clean_up (Link (pid_name args k) (path (Of Mess n))) (λ name e. cc)) (LinksMess k n why in_range)
  links_mess k n fd _ here fit = absurd fit

  unlinks_pid : (k n : ℕ) (fd : Fd) → Keeps (at.UnlinkPid k n fd) (Unlink (pid_name args k))
  unlinks_pid k n fd Done (clear, in_range) fit = in_message_at args (with_call (Unlink (pid_name args k)) Done) n fd.0 0 (did_well (Unlink (pid_name args k)) clear (λ q. let to = q.1 in cc))
  unlinks_pid k n fd (Refused why) (clear, in_range) fit = refused_at 63 (Unlink (pid_name args k)) why clear (pid_stays args k) (LeavesPid k why in_range)
  unlinks_pid k n fd _ here fit = absurd fit

  appends_mess : (n done : ℕ) (fd : Fd) (piece : List ℕ) → Keeps (at.AppendMess n fd done) (Append fd piece)
  appends_mess n done fd piece Done clear fit = in_message_at args (with_call (Append fd piece) Done) n fd.0 (done + piece_size) (did_well (Append fd piece) clear (λ q. let to = q.1 in cc))
  appends_mess n done fd piece (Refused Fault) clear fit = failed_at 53 (Append fd piece) Fault clear (Appends fd piece)
  appends_mess n done fd piece (Refused Memory) clear fit = failed_at 51 (Append fd piece) Memory clear (WantsMemory _ (no_clean_up (Append fd piece) (λ name e. cc)))
  appends_mess n done fd piece _ here fit = absurd fit

  syncs_mess : (n : ℕ) (fd : Fd) → Keeps (at.SyncMess n fd) (Sync fd)
  syncs_mess n fd Done (clear, whole) fit = (did_well (Sync fd) clear (λ q. let to = q.1 in cc), whole)
  syncs_mess n fd (Refused Fault) (clear, whole) fit = failed_at 53 (Sync fd) Fault clear (Syncs fd)
  syncs_mess n fd _ here fit = absurd fit

  creates_intd : (n : ℕ) → Keeps (at.CreateIntd n) (CreateExcl (path (Of Intd n)))
  creates_intd n (Created fd i) (clear, whole) fit = in_todo_at args (with_call (CreateExcl (path (Of Intd n))) (Created fd i)) n fd.0 0 (made (CreateExcl (path (Of Intd n))) fd i clear) whole
  creates_intd n (Refused why) (clear, whole) fit = refused_at 65 (CreateExcl (path (Of Intd n))) why clear (no_clean_up (CreateExcl (path (Of Intd n))) (λ name e. cc)) (MakesIntd n why)
  creates_intd n _ here fit = absurd fit

  appends_todo : (n done : ℕ) (fd : Fd) (piece : List ℕ) → Keeps (at.AppendTodo n fd done) (Append fd piece)
  appends_todo n done fd piece Done (clear, whole) fit = in_todo_at args (with_call (Append fd piece) Done) n fd.0 (done + piece_size) (did_well (Append fd piece) clear (λ q. let to = q.1 in cc)) whole
  appends_todo n done fd piece (Refused Fault) (clear, whole) fit = failed_at 53 (Append fd piece) Fault clear (Appends fd piece)
  appends_todo n done fd piece (Refused Memory) (clear, whole) fit = failed_at 51 (Append fd piece) Memory clear (WantsMemory _ (no_clean_up (Append fd piece) (λ name e. cc)))
  appends_todo n done fd piece _ here fit = absurd fit

  syncs_todo : (n : ℕ) (fd : Fd) → Keeps (at.SyncTodo n fd) (Sync fd)
  syncs_todo n fd Done (clear, none) fit = (did_well (Sync fd) clear (λ q. let to = q.1 in cc), none)
  syncs_todo n fd (Refused Fault) (clear, none) fit = failed_at 53 (Sync fd) Fault clear (Syncs fd)
  syncs_todo n fd _ here fit = absurd fit

  links_todo : (n : ℕ) → Keeps (at.LinkTodo n) (Link (path (Of Intd n)) (path (Of Todo n)))
  links_todo n Done (clear, none) fit = (none, ⊎_elim (λ h. let f = of_held (IsFailure args) _ Done h in let told = f.refused in cc) clear.unfailed, inl (held IsQueuing _ _ (n, refl, refl)))
  links_todo n (Refused why) (clear, none) fit = refused_at 66 (Link (path (Of Intd n)) (path (Of Todo n))) why clear (no_clean_up (Link (path (Of Intd n)) (path (Of Todo n))) (λ name e. cc)) (LinksTodo n why)
  links_todo n _ here fit = absurd fit

  cleans_intd : (n : ℕ) (status : ℕ) → Keeps (at.CleanIntd n status) (Unlink (path (Of Intd n)))
  cleans_intd n status Done here fit = cleaned _ (Unlink (path (Of Intd n))) Done (n, inl refl) here
  cleans_intd n status (Refused NotThere) here fit = cleaned _ (Unlink (path (Of Intd n))) (Refused NotThere) (n, inl refl) here
  cleans_intd n status (Refused Fault) here fit = cleaned _ (Unlink (path (Of Intd n))) (Refused Fault) (n, inl refl) here
  cleans_intd n status _ here fit = absurd fit

  cleans_mess : (n : ℕ) (status : ℕ) → Keeps (at.CleanMess n status) (Unlink (path (Of Mess n)))
  cleans_mess n status answer here fit = cleaned _ (Unlink (path (Of Mess n))) answer (n, inr refl) here

  due_keeps : (row : Row) (own call : CallData) → ◌≡◌ {A = NeedData} (needs.File own) (needs.File call) → Keeps row own → Keeps row call
  due_keeps row own call due h = let same : own ≡ call = cc in subst (Keeps row) same h

  row_keeps : (row : Row) (call : CallData) → due_by args row ≡ needs.File call → Keeps row call
  row_keeps (at.Create k) call due = due_keeps (at.Create k) _ call due (creates k)
  row_keeps (at.LinkMess k n fd) call due = due_keeps (at.LinkMess k n fd) _ call due (links_mess k n fd)
  row_keeps (at.UnlinkPid k n fd) call due = due_keeps (at.UnlinkPid k n fd) _ call due (unlinks_pid k n fd)
  row_keeps (at.AppendMess n fd done) call due = due_keeps (at.AppendMess n fd done) _ call due (appends_mess n done fd _)
  row_keeps (at.SyncMess n fd) call due = due_keeps (at.SyncMess n fd) _ call due (syncs_mess n fd)
  row_keeps (at.CreateIntd n) call due = due_keeps (at.CreateIntd n) _ call due (creates_intd n)
  row_keeps (at.AppendTodo n fd done) call due = due_keeps (at.AppendTodo n fd done) _ call due (appends_todo n done fd _)
  row_keeps (at.SyncTodo n fd) call due = due_keeps (at.SyncTodo n fd) _ call due (syncs_todo n fd)
  row_keeps (at.LinkTodo n) call due = due_keeps (at.LinkTodo n) _ call due (links_todo n)
  row_keeps (at.CleanIntd n status) call due = due_keeps (at.CleanIntd n status) _ call due (cleans_intd n status)
  row_keeps (at.CleanMess n status) call due = due_keeps (at.CleanMess n status) _ call due (cleans_mess n status)
  row_keeps at.Queued call due = absurd (cc)
  row_keeps (at.Failed status) call due = absurd (cc)

pub timely : (input late : Bool) (due : NeedData) (call : CallData) → in_time input late due ≡ needs.File call → due ≡ needs.File call
timely true true (needs.File own) call h = absurd (cc)
timely true false (needs.File own) call h = h
timely false late (needs.File own) call h = absurd (cc)
timely input late due call h = absurd (cc)

-- whole runs

event_at : (args : Arguments) (before : List Own) (event : Own) → IsAt args before (place_after args before) → IsDue args before event → IsAt args (event ∷ before) (place_after args (event ∷ before))
event_at args before event here due =
    let c = call_at_due args before event due in
    let is : event ≡ called args before event.read event.ready c.told.bytes c.call c.told.answer =
    ap (λ (d : NeedData). record { read = event.read; ready = event.ready; due = d; came = event.came }) c.due
    ∙ ap (λ (g : GotData). record { read = event.read; ready = event.ready; due = needs.File c.call; came = g }) c.came in
    subst (λ e. IsAt args (e ∷ before) (place_after args (e ∷ before))) (sym is)
    (row_keeps args before event.read event.ready c.told.bytes (place_after args before) c.call (timely _ _ _ c.call c.next) c.told.answer here c.fits)

pub run_at : (args : Arguments) (past : List Own) → IsRun args past → IsAt args past (place_after args past)
run_at args [] run = (record { unfailed = λ h. h; unqueued = λ h. h }, (omega arith, omega arith), λ j from to. absurd (omega arith))
run_at args (event ∷ before) (run, due) = event_at args before event (run_at args before run) due

-- the pid names below one that was tried were taken
below_taken : (args : Arguments) (before : List Own) (k : ℕ) (row : Row) → due_by args row ≡ needs.File (CreateExcl (pid_name args k)) → IsAt args before row
    → (j : ℕ) → 1 ≤ j → j < k → HasCall before (IsTaken args j)
below_taken args before k (at.Create i) due (clear, in_range, below) j from to =
    let is : i ≡ k = same_try args i k (created _ _ due) in below j from (omega arith) where
      created : (a b : List ℕ) → ◌≡◌ {A = NeedData} (needs.File (CreateExcl a)) (needs.File (CreateExcl b)) → a ≡ b
      created a b e = cc
below_taken args before k (at.CreateIntd n) due here j from to = absurd (pid_is_no_part args k n Intd (created _ _ (sym due))) where
  created : (a b : List ℕ) → ◌≡◌ {A = NeedData} (needs.File (CreateExcl a)) (needs.File (CreateExcl b)) → a ≡ b
  created a b e = cc
below_taken args before k row due here j from to = absurd (cc)

pub tried : (args : Arguments) (past : List Own) (k : ℕ) → IsRun args past → HasCall past (IsTaken args k) → (j : ℕ) → 1 ≤ j → j ≤ k → HasCall past (IsTaken args j)
tried args [] k run h j from to = absurd h
tried args (event ∷ before) k (run, due) h j from to = ⊎_elim
    (λ here. ⊎_elim
    (λ less. inr (newest due here j from less))
    (λ more. let is : k ≡ j = omega arith in subst (λ i. HasCall (event ∷ before) (IsTaken args i)) is h)
    (cases_lt j k))
    (λ there. inr (tried args before k run there j from to))
    h where
      newest : IsDue args before event → HoldsOf (IsTaken args k) event → (i : ℕ) → 1 ≤ i → i < k → HasCall before (IsTaken args i)
      newest (next, fit) taken =
          below_taken args before k (place_after args before) (timely _ _ _ taken.call (next ∙ taken.due) ∙ ap needs.File taken.holds.0) (run_at args before run)

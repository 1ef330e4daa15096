-- The calls of a run are a prefix of the written-out list, and what its end adds: one call more.
use Rattle.std.proofs.Common.{◌≡◌, ℕ, zero, suc, ◌+◌, ◌≤◌, ◌<◌, List, [], ◌∷◌, ◌++◌, take, drop, None, Bool, true, false, refl, sym, ap, ◌∙◌, subst, ⊎_elim, inl, inr, arith}
use Rattle.std.specs.Prelude.{if◌then◌else◌, nat_lt}
use Rattle.std.specs.Option.{option_or}
use Rattle.std.proofs.lemmas.Bool.{ltb-true, ltb-false}
use Rattle.std.proofs.lemmas.List.{append-nil}
use Rattle.call_fs.specs.declared.calls.CallData.{CallData}
use Rattle.call_fs.specs.declared.calls.CallData.TheVariants.{CreateExcl, Append, Sync, Link, Unlink}
use Rattle.call_fs.specs.declared.calls.Answer.{Answer}
use Rattle.call_fs.specs.declared.calls.Answer.TheVariants.{Created, Done, Refused}
use Rattle.call_fs.specs.declared.calls.Fd.{Fd}
use Rattle.call_fs.specs.declared.calls.FsError.{FsError}
use Rattle.call_fs.specs.declared.calls.FsError.TheVariants.{NotThere, Exists, Fault, Memory}
use Rattle.call_fs.specs.Columns.{IsAnswerTo}
use Rattle.call_fs.specs.declared.past.GotData.{GotData}
use Rattle.call_fs.specs.declared.past.NeedData.{NeedData}
use Rattle.call_fs.specs.declared.past.NeedData.TheVariants as needs
use Rattle.call_fs.specs.declared.past.Own.{Own}
use Rattle.queue_paths.specs.Names.{path}
use Rattle.queue_paths.specs.Names.Part.{Mess, Intd, Todo}
use Rattle.queue_paths.specs.Names.Name.{Of}
use Rattle.queue_inject.specs.declared.injection.Arguments.{Arguments}
use Rattle.queue_inject.specs.declared.row.Row.{Row}
use Rattle.queue_inject.specs.declared.row.Row.TheVariants as at
use Rattle.queue_inject.specs.Texts.{message_text, intd_text}
use Rattle.queue_inject.specs.Table.{piece_size, failure, in_message, in_todo, past_bytes, work_of, moved, after_came, place_after, due_by}
use Rattle.queue_inject.specs.Run.{IsDue, IsRun}
use Rattle.queue_inject.specs.Causes.{first_fault, pid_name, IsTry, FailsWith}
use Rattle.queue_inject.specs.Causes.FailsWith.{WantsMemory, Appends, Syncs, TakesAll, MakesPid, LeavesPid, LinksMess, MakesIntd, LinksTodo}
use Rattle.queue_inject.specs.Written.{Act, act, act_of, acts_of, appends, Chosen, IsChosen, own_pid, mess_name, intd_name, todo_name, taken_names, in_s1, after_mess, in_s2, after_todo, in_s3, IsGone}
use Rattle.queue_inject.specs.Written.Stops.{ByCall, ByInput}
use Rattle.queue_inject.proofs.Cuts.{Cuts, cuts_cut, cuts_none, cuts_some, Goes, HasNext, goes_first, next_is, goes_on, whole_is, few_left}
use Rattle.queue_inject.proofs.Asks.{call_at_due}
use Rattle.queue_inject.proofs.Failures.{no_clean_up, pid_stays}
use Rattle.queue_inject.proofs.Runs.{timely}
use Rattle.queue_inject.proofs.Along.{more_at_end, along_on, all_made, next_part, IsCleaning, cleaned_one, cleaned_none, last_left, stop_s1, stop_s2, stop_s3, stop_at_todo, refused_by, past_cases, of_run, Along2, Along3, StandsAt}

pub no_fd : Fd
no_fd = record { 0 = 0 }

fault_stays : ¬ (IsGone (Refused Fault))
fault_stays gone = ⊎_elim (λ e. cc) (λ e. cc) gone

try_in : (t : ℕ) → t ≤ 8 → IsTry (suc t)
try_in t few = (omega arith, omega arith)

module _ (args : Arguments) (mess todo : List (List ℕ)) (mess_cuts : Cuts (message_text args).bytes mess) (todo_cuts : Cuts (intd_text args).bytes todo) where
  abbrev At : List Act → Row → Type 0
  At = StandsAt args mess todo

  pub fits_of : (t n : ℕ) (fd intd : Fd) (i : ℕ) → t ≤ 8 → IsChosen args (of_run mess todo t n fd intd i)
  fits_of t n fd intd i few = record {
    few = few;
    mess_cut = cuts_cut (message_text args).bytes mess mess_cuts;
    todo_cut = cuts_cut (intd_text args).bytes todo todo_cuts;
  }

  -- what follows so many bytes of a text

  in_mess_at : (new : List Act) (t n : ℕ) (fd : Fd) (done : ℕ) (pieces : List (List ℕ)) → t ≤ 8 → Along2 args mess todo new t n fd (λ c. appends fd pieces ++ after_mess c)
      → Goes (message_text args) mess done pieces → At new (in_message (message_text args) n fd.0 done)
  in_mess_at new t n fd done pieces few along goes =
      let c : Chosen = of_run mess todo t n fd no_fd 0 in
      past_cases (At new) (message_text args).bytes (message_text args).fault done (at.AppendMess n (record { 0 = fd.0 }) done) (at.SyncMess n (record { 0 = fd.0 })) (λ status. at.CleanMess n status)
      (λ less enough. (record { t = t; few = few; pieces = pieces; along = along; goes = goes }, record { less = less; enough = enough }))
      (λ none all. record {
        t = t;
        few = few;
        along = subst (λ ps. Along2 args mess todo new t n fd (λ c. appends fd ps ++ after_mess c)) (cuts_none (message_text args).bytes done pieces all goes.cuts) along;
        well = none;
      })
      (λ status some short. stop_s2 args c (fits_of t n fd no_fd 0 few) new status (appends fd pieces ++ after_mess c) [] new (along no_fd 0)
      (ByInput goes.whole pieces (act (CreateExcl (intd_name c)) (Created c.intd_fd c.intd_number) ∷ []) (ap (λ fault. option_or fault (intd_text args).fault) some) some goes.split
      (whole_is (message_text args) goes.whole status goes.full some) (few_left (message_text args) mess done pieces short goes))
      (sym (append-nil new)))

  in_todo_at : (new : List Act) (t n : ℕ) (fd intd : Fd) (i done : ℕ) (pieces : List (List ℕ)) → t ≤ 8
      → Along3 args mess todo new (of_run mess todo t n fd intd i) (appends intd pieces ++ after_todo (of_run mess todo t n fd intd i))
      → Goes (intd_text args) todo done pieces → (message_text args).fault ≡ None → At new (in_todo (intd_text args) n intd.0 done)
  in_todo_at new t n fd intd i done pieces few along goes well =
      let c : Chosen = of_run mess todo t n fd intd i in
      let first : first_fault args ≡ (intd_text args).fault = ap (λ fault. option_or fault (intd_text args).fault) well in
      past_cases (At new) (intd_text args).bytes (intd_text args).fault done (at.AppendTodo n (record { 0 = intd.0 }) done) (at.SyncTodo n (record { 0 = intd.0 })) (λ status. at.CleanIntd n status)
      (λ less enough. (record { t = t; few = few; fd = fd; i = i; pieces = pieces; along = along; goes = goes; well = well }, record { less = less; enough = enough }))
      (λ none all. record {
        t = t;
        few = few;
        fd = fd;
        i = i;
        along = subst (λ ps. Along3 args mess todo new c (appends intd ps ++ after_todo c)) (cuts_none (intd_text args).bytes done pieces all goes.cuts) along;
      })
      (λ status some short. stop_s3 args c (fits_of t n fd intd i few) new status (appends intd pieces ++ after_todo c) [] new along
      (ByInput goes.whole pieces [] (first ∙ some) some goes.split (whole_is (intd_text args) goes.whole status goes.full some) (few_left (intd_text args) todo done pieces short goes))
      (sym (append-nil new)))

  module _ (acts : List Act) where
    abbrev Keeps : Row → CallData → Type 0
    Keeps row call = (answer : Answer) → At acts row → IsAnswerTo call answer → At (acts ++ act call answer ∷ []) (moved args row answer)

    stop_first : (t : ℕ) (why : FsError) (status : ℕ) → t ≤ 8 → acts ≡ taken_names args t → FailsWith args status (CreateExcl (pid_name args (suc t))) (Refused why)
        → IsCleaning args (acts ++ act (CreateExcl (pid_name args (suc t))) (Refused why) ∷ []) [] status
    stop_first t why status few is f =
        let c : Chosen = of_run mess todo t 0 no_fd no_fd 0 in
        stop_s1 args c (fits_of t 0 no_fd no_fd 0 few) acts status [] (act (Link (own_pid args c) (mess_name c)) Done ∷ []) (CreateExcl (own_pid args c)) (Created c.mess_fd c.number) why refl
        (is ∙ sym (append-nil (taken_names args t))) f

    finds_taken : (t : ℕ) → t ≤ 8 → acts ≡ taken_names args t → (b : Bool) → nat_lt (suc t) 9 ≡ b
        → At (acts ++ act (CreateExcl (pid_name args (suc t))) (Refused Exists) ∷ []) (past_bytes (work_of args) (if b then at.Create (suc t + 1) else at.Failed 63))
    finds_taken t few is true less =
        let small : suc t < 9 = ltb-true (suc t) 9 less in
        let within : suc t ≤ 8 = omega arith in
        let next : suc (suc t) ≡ suc t + 1 = omega arith in
        subst (λ k. At (acts ++ act (CreateExcl (pid_name args (suc t))) (Refused Exists) ∷ []) (at.Create k)) next
        (within, ap (λ l. l ++ act (CreateExcl (pid_name args (suc t))) (Refused Exists) ∷ []) is)
    finds_taken t few is false more =
        let large : 9 ≤ suc t = ltb-false (suc t) 9 more in
        let last : 9 ≡ suc t = omega arith in
        stop_first t Exists 63 few is (subst (λ k. FailsWith args 63 (CreateExcl (pid_name args k)) (Refused Exists)) last TakesAll)

    creates : (k : ℕ) → Keeps (at.Create k) (CreateExcl (pid_name args k))
    creates zero answer here fit = absurd here
    creates (suc t) (Created fd n) (few, is) fit = (
      few,
      λ intd i. record {
        made = act (CreateExcl (pid_name args (suc t))) (Created fd n) ∷ [];
        part_is = refl;
        calls = ap (λ l. l ++ act (CreateExcl (pid_name args (suc t))) (Created fd n) ∷ []) is;
      },
    )
    creates (suc t) (Refused Exists) (few, is) fit = finds_taken t few is (nat_lt (suc t) 9) refl
    creates (suc t) (Refused NotThere) (few, is) fit = stop_first t NotThere 63 few is (MakesPid (suc t) NotThere (try_in t few) (λ e. cc) (λ e. cc))
    creates (suc t) (Refused Fault) (few, is) fit = stop_first t Fault 63 few is (MakesPid (suc t) Fault (try_in t few) (λ e. cc) (λ e. cc))
    creates (suc t) (Refused Memory) (few, is) fit = stop_first t Memory 51 few is (WantsMemory _ (no_clean_up (CreateExcl (pid_name args (suc t))) (λ name e. cc)))
    creates (suc t) _ here fit = absurd fit

    links_mess : (k n : ℕ) (fd : Fd) → Keeps (at.LinkMess k n fd) (Link (pid_name args k) (path (Of Mess n)))
    links_mess zero n fd answer here fit = absurd here
    links_mess (suc t) n fd Done (few, along) fit = (
      few,
      λ intd i.
          let c : Chosen = of_run mess todo t n fd intd i in
          let x : Act = act (Link (own_pid args c) (mess_name c)) Done in
          next_part args (acts ++ x ∷ []) c [] (in_s1 args c) (in_s2 args c) (along_on args acts c [] (in_s1 args c) [] x (along intd i)),
    )
    links_mess (suc t) n fd (Refused why) (few, along) fit =
        let c : Chosen = of_run mess todo t n fd no_fd 0 in
        let a = along no_fd 0 in
        stop_s1 args c (fits_of t n fd no_fd 0 few) acts (failure (Refused why) 64) a.made [] (Link (own_pid args c) (mess_name c)) Done why a.part_is a.calls
        (refused_by args 64 (Link (own_pid args c) (mess_name c)) why (no_clean_up (Link (own_pid args c) (mess_name c)) (λ name e. cc)) (LinksMess (suc t) n why (try_in t few)))
    links_mess (suc t) n fd _ here fit = absurd fit

    -- a call of S2 is refused
    fails_s2 : (status t n : ℕ) (fd : Fd) (call : CallData) (why : FsError) (ok : Chosen → Answer) (rest : Chosen → List Act) → t ≤ 8 → Along2 args mess todo acts t n fd (λ c. act call (ok c) ∷ rest c)
        → FailsWith args status call (Refused why) → IsCleaning args (acts ++ act call (Refused why) ∷ []) (path (Of Mess n) ∷ []) status
    fails_s2 status t n fd call why ok rest few along f =
        let c : Chosen = of_run mess todo t n fd no_fd 0 in
        stop_s2 args c (fits_of t n fd no_fd 0 few) acts status (act call (ok c) ∷ rest c) (act call (Refused why) ∷ []) (acts ++ act call (Refused why) ∷ []) (along no_fd 0)
        (ByCall call (ok c) why (rest c) f) refl

    unlinks_pid : (k n : ℕ) (fd : Fd) → Keeps (at.UnlinkPid k n fd) (Unlink (pid_name args k))
    unlinks_pid zero n fd answer here fit = absurd here
    unlinks_pid (suc t) n fd Done (few, along) fit =
        let x : Act = act (Unlink (pid_name args (suc t))) Done in
        in_mess_at (acts ++ x ∷ []) t n fd 0 mess few
        (λ intd i.
        let c : Chosen = of_run mess todo t n fd intd i in
        along_on args acts c (in_s1 args c) (in_s2 args c) (appends fd mess ++ after_mess c) x (along intd i))
        (goes_first (message_text args) mess mess_cuts)
    unlinks_pid (suc t) n fd (Refused why) (few, along) fit =
        fails_s2 (failure (Refused why) 63) t n fd (Unlink (pid_name args (suc t))) why (λ c. Done) (λ c. appends fd mess ++ after_mess c) few along
        (refused_by args 63 (Unlink (pid_name args (suc t))) why (pid_stays args (suc t)) (LeavesPid (suc t) why (try_in t few)))
    unlinks_pid (suc t) n fd _ here fit = absurd fit

    mess_one : (t n done : ℕ) (fd : Fd) (piece : List ℕ) (more : List (List ℕ)) → t ≤ 8 → Along2 args mess todo acts t n fd (λ c. act (Append fd piece) Done ∷ (appends fd more ++ after_mess c))
        → Goes (message_text args) mess (done + piece_size) more → (answer : Answer) → IsAnswerTo (Append fd piece) answer
        → At (acts ++ act (Append fd piece) answer ∷ []) (moved args (at.AppendMess n fd done) answer)
    mess_one t n done fd piece more few along goes Done fit =
        let x : Act = act (Append fd piece) Done in
        in_mess_at (acts ++ x ∷ []) t n fd (done + piece_size) more few
        (λ intd i.
        let c : Chosen = of_run mess todo t n fd intd i in
        along_on args acts c (in_s1 args c) (in_s2 args c) (appends fd more ++ after_mess c) x (along intd i))
        goes
    mess_one t n done fd piece more few along goes (Refused Fault) fit =
        fails_s2 53 t n fd (Append fd piece) Fault (λ c. Done) (λ c. appends fd more ++ after_mess c) few along (Appends fd piece)
    mess_one t n done fd piece more few along goes (Refused Memory) fit =
        fails_s2 51 t n fd (Append fd piece) Memory (λ c. Done) (λ c. appends fd more ++ after_mess c) few along (WantsMemory _ (no_clean_up (Append fd piece) (λ name e. cc)))
    mess_one t n done fd piece more few along goes _ fit = absurd fit

    mess_goes : (t n done : ℕ) (fd : Fd) (pieces : List (List ℕ)) → t ≤ 8 → Along2 args mess todo acts t n fd (λ c. appends fd pieces ++ after_mess c)
        → Goes (message_text args) mess done pieces → HasNext (message_text args) done → (answer : Answer)
        → IsAnswerTo (Append fd (take piece_size (drop done (message_text args).bytes))) answer
        → At (acts ++ act (Append fd (take piece_size (drop done (message_text args).bytes))) answer ∷ []) (moved args (at.AppendMess n fd done) answer)
    mess_goes t n done fd [] few along goes next answer fit = absurd (cuts_some (message_text args).bytes done next.less goes.cuts)
    mess_goes t n done fd (piece ∷ more) few along goes next answer fit =
        subst (λ p. IsAnswerTo (Append fd p) answer → At (acts ++ act (Append fd p) answer ∷ []) (moved args (at.AppendMess n fd done) answer)) (sym (next_is (message_text args) mess done piece more goes))
        (mess_one t n done fd piece more few along (goes_on (message_text args) mess done piece more goes next) answer) fit

    appends_mess : (n done : ℕ) (fd : Fd) → Keeps (at.AppendMess n fd done) (Append fd (take piece_size (drop done (message_text args).bytes)))
    appends_mess n done fd answer (m, next) fit = mess_goes m.t n done fd m.pieces m.few m.along m.goes next answer fit

    syncs_mess : (n : ℕ) (fd : Fd) → Keeps (at.SyncMess n fd) (Sync fd)
    syncs_mess n fd Done m fit = (
      fd,
      record {
        t = m.t;
        few = m.few;
        along = λ intd i.
            let c : Chosen = of_run mess todo m.t n fd intd i in
            along_on args acts c (in_s1 args c) (in_s2 args c) (act (CreateExcl (intd_name c)) (Created intd i) ∷ []) (act (Sync fd) Done) (m.along intd i);
        well = m.well;
      },
    )
    syncs_mess n fd (Refused Fault) m fit =
        fails_s2 53 m.t n fd (Sync fd) Fault (λ c. Done) (λ c. act (CreateExcl (intd_name c)) (Created c.intd_fd c.intd_number) ∷ []) m.few m.along (Syncs fd)
    syncs_mess n fd _ m fit = absurd fit

    creates_intd : (n : ℕ) → Keeps (at.CreateIntd n) (CreateExcl (path (Of Intd n)))
    creates_intd n (Created intd i) (fd, m) fit =
        let c : Chosen = of_run mess todo m.t n fd intd i in
        let x : Act = act (CreateExcl (path (Of Intd n))) (Created intd i) in
        in_todo_at (acts ++ x ∷ []) m.t n fd intd i 0 todo m.few
        (next_part args (acts ++ x ∷ []) c (in_s1 args c) (in_s2 args c) (in_s3 c) (along_on args acts c (in_s1 args c) (in_s2 args c) [] x (m.along intd i)))
        (goes_first (intd_text args) todo todo_cuts) m.well
    creates_intd n (Refused why) (fd, m) fit =
        fails_s2 (failure (Refused why) 65) m.t n fd (CreateExcl (path (Of Intd n))) why (λ c. Created c.intd_fd c.intd_number) (λ c. []) m.few m.along
        (refused_by args 65 (CreateExcl (path (Of Intd n))) why (no_clean_up (CreateExcl (path (Of Intd n))) (λ name e. cc)) (MakesIntd n why))
    creates_intd n _ here fit = absurd fit

    -- a call of S3 is refused
    fails_s3 : (status t n : ℕ) (fd intd : Fd) (i : ℕ) (call : CallData) (why : FsError) (rest : List Act) → t ≤ 8
        → Along3 args mess todo acts (of_run mess todo t n fd intd i) (act call Done ∷ rest) → FailsWith args status call (Refused why)
        → IsCleaning args (acts ++ act call (Refused why) ∷ []) (path (Of Intd n) ∷ (path (Of Mess n) ∷ [])) status
    fails_s3 status t n fd intd i call why rest few along f =
        stop_s3 args (of_run mess todo t n fd intd i) (fits_of t n fd intd i few) acts status (act call Done ∷ rest) (act call (Refused why) ∷ []) (acts ++ act call (Refused why) ∷ []) along
        (ByCall call Done why rest f) refl

    todo_one : (t n done : ℕ) (fd intd : Fd) (i : ℕ) (piece : List ℕ) (more : List (List ℕ)) → t ≤ 8
        → Along3 args mess todo acts (of_run mess todo t n fd intd i) (act (Append intd piece) Done ∷ (appends intd more ++ after_todo (of_run mess todo t n fd intd i)))
        → Goes (intd_text args) todo (done + piece_size) more → (message_text args).fault ≡ None → (answer : Answer) → IsAnswerTo (Append intd piece) answer
        → At (acts ++ act (Append intd piece) answer ∷ []) (moved args (at.AppendTodo n intd done) answer)
    todo_one t n done fd intd i piece more few along goes well Done fit =
        let c : Chosen = of_run mess todo t n fd intd i in
        let x : Act = act (Append intd piece) Done in
        in_todo_at (acts ++ x ∷ []) t n fd intd i (done + piece_size) more few (along_on args acts c (in_s1 args c ++ in_s2 args c) (in_s3 c) (appends intd more ++ after_todo c) x along) goes well
    todo_one t n done fd intd i piece more few along goes well (Refused Fault) fit =
        fails_s3 53 t n fd intd i (Append intd piece) Fault (appends intd more ++ after_todo (of_run mess todo t n fd intd i)) few along (Appends intd piece)
    todo_one t n done fd intd i piece more few along goes well (Refused Memory) fit =
        fails_s3 51 t n fd intd i (Append intd piece) Memory (appends intd more ++ after_todo (of_run mess todo t n fd intd i)) few along
        (WantsMemory _ (no_clean_up (Append intd piece) (λ name e. cc)))
    todo_one t n done fd intd i piece more few along goes well _ fit = absurd fit

    todo_goes : (t n done : ℕ) (fd intd : Fd) (i : ℕ) (pieces : List (List ℕ)) → t ≤ 8
        → Along3 args mess todo acts (of_run mess todo t n fd intd i) (appends intd pieces ++ after_todo (of_run mess todo t n fd intd i))
        → Goes (intd_text args) todo done pieces → (message_text args).fault ≡ None → HasNext (intd_text args) done → (answer : Answer)
        → IsAnswerTo (Append intd (take piece_size (drop done (intd_text args).bytes))) answer
        → At (acts ++ act (Append intd (take piece_size (drop done (intd_text args).bytes))) answer ∷ []) (moved args (at.AppendTodo n intd done) answer)
    todo_goes t n done fd intd i [] few along goes well next answer fit = absurd (cuts_some (intd_text args).bytes done next.less goes.cuts)
    todo_goes t n done fd intd i (piece ∷ more) few along goes well next answer fit =
        subst (λ p. IsAnswerTo (Append intd p) answer → At (acts ++ act (Append intd p) answer ∷ []) (moved args (at.AppendTodo n intd done) answer)) (sym (next_is (intd_text args) todo done piece more goes))
        (todo_one t n done fd intd i piece more few along (goes_on (intd_text args) todo done piece more goes next) well answer) fit

    appends_todo : (n done : ℕ) (intd : Fd) → Keeps (at.AppendTodo n intd done) (Append intd (take piece_size (drop done (intd_text args).bytes)))
    appends_todo n done intd answer (m, next) fit = todo_goes m.t n done m.fd intd m.i m.pieces m.few m.along m.goes m.well next answer fit

    syncs_todo : (n : ℕ) (intd : Fd) → Keeps (at.SyncTodo n intd) (Sync intd)
    syncs_todo n intd Done m fit =
        let c : Chosen = of_run mess todo m.t n m.fd intd m.i in
        let x : Act = act (Sync intd) Done in
        record {
          t = m.t;
          few = m.few;
          fd = m.fd;
          intd = intd;
          i = m.i;
          calls = all_made args (acts ++ x ∷ []) c (in_s1 args c ++ in_s2 args c) (in_s3 c) (along_on args acts c (in_s1 args c ++ in_s2 args c) (in_s3 c) [] x m.along);
        }
    syncs_todo n intd (Refused Fault) m fit = fails_s3 53 m.t n m.fd intd m.i (Sync intd) Fault [] m.few m.along (Syncs intd)
    syncs_todo n intd _ m fit = absurd fit

    links_todo : (n : ℕ) → Keeps (at.LinkTodo n) (Link (path (Of Intd n)) (path (Of Todo n)))
    links_todo n Done m fit =
        let c : Chosen = of_run mess todo m.t n m.fd m.intd m.i in
        record {
          c = c;
          fits = fits_of m.t n m.fd m.intd m.i m.few;
          calls = more_at_end acts (taken_names args m.t) ((in_s1 args c ++ in_s2 args c) ++ in_s3 c) (act (Link (intd_name c) (todo_name c)) Done) m.calls
              ∙ ap (λ t. taken_names args m.t ++ t) (sym (last_left args c));
        }
    links_todo n (Refused why) m fit =
        let c : Chosen = of_run mess todo m.t n m.fd m.intd m.i in
        stop_at_todo args c (fits_of m.t n m.fd m.intd m.i m.few) acts (failure (Refused why) 66) why m.calls
        (refused_by args 66 (Link (intd_name c) (todo_name c)) why (no_clean_up (Link (intd_name c) (todo_name c)) (λ name e. cc)) (LinksTodo n why))
    links_todo n _ m fit = absurd fit

    cleans_intd : (n status : ℕ) → Keeps (at.CleanIntd n status) (Unlink (path (Of Intd n)))
    cleans_intd n status Done k fit = cleaned_one args acts status (path (Of Intd n)) (path (Of Mess n) ∷ []) Done (inl refl) k
    cleans_intd n status (Refused NotThere) k fit = cleaned_one args acts status (path (Of Intd n)) (path (Of Mess n) ∷ []) (Refused NotThere) (inr refl) k
    cleans_intd n status (Refused Fault) k fit = cleaned_none args acts status (path (Of Intd n)) (path (Of Mess n) ∷ []) (Refused Fault) fault_stays k
    cleans_intd n status _ k fit = absurd fit

    cleans_mess : (n status : ℕ) → Keeps (at.CleanMess n status) (Unlink (path (Of Mess n)))
    cleans_mess n status Done k fit = cleaned_one args acts status (path (Of Mess n)) [] Done (inl refl) k
    cleans_mess n status (Refused NotThere) k fit = cleaned_one args acts status (path (Of Mess n)) [] (Refused NotThere) (inr refl) k
    cleans_mess n status (Refused Fault) k fit = cleaned_none args acts status (path (Of Mess n)) [] (Refused Fault) fault_stays k
    cleans_mess n status _ k fit = absurd fit

    due_keeps : (row : Row) (own call : CallData) → ◌≡◌ {A = NeedData} (needs.File own) (needs.File call) → Keeps row own → Keeps row call
    due_keeps row own call due h = let same : own ≡ call = cc in subst (Keeps row) same h

    row_keeps : (row : Row) (call : CallData) → due_by args row ≡ needs.File call → Keeps row call
    row_keeps (at.Create k) call due = due_keeps (at.Create k) _ call due (creates k)
    row_keeps (at.LinkMess k n fd) call due = due_keeps (at.LinkMess k n fd) _ call due (links_mess k n fd)
    row_keeps (at.UnlinkPid k n fd) call due = due_keeps (at.UnlinkPid k n fd) _ call due (unlinks_pid k n fd)
    row_keeps (at.AppendMess n fd done) call due = due_keeps (at.AppendMess n fd done) _ call due (appends_mess n done fd)
    row_keeps (at.SyncMess n fd) call due = due_keeps (at.SyncMess n fd) _ call due (syncs_mess n fd)
    row_keeps (at.CreateIntd n) call due = due_keeps (at.CreateIntd n) _ call due (creates_intd n)
    row_keeps (at.AppendTodo n fd done) call due = due_keeps (at.AppendTodo n fd done) _ call due (appends_todo n done fd)
    row_keeps (at.SyncTodo n fd) call due = due_keeps (at.SyncTodo n fd) _ call due (syncs_todo n fd)
    row_keeps (at.LinkTodo n) call due = due_keeps (at.LinkTodo n) _ call due (links_todo n)
    row_keeps (at.CleanIntd n status) call due = due_keeps (at.CleanIntd n status) _ call due (cleans_intd n status)
    row_keeps (at.CleanMess n status) call due = due_keeps (at.CleanMess n status) _ call due (cleans_mess n status)
    row_keeps at.Queued call due = absurd (cc)
    row_keeps (at.Failed status) call due = absurd (cc)

  -- whole runs

  event_at : (before : List Own) (event : Own) → At (acts_of before) (place_after args before) → IsDue args before event → At (acts_of (event ∷ before)) (place_after args (event ∷ before))
  event_at before event here due =
      let c = call_at_due args before event due in
      let row : Row = place_after args before in
      let step : At (acts_of before ++ act c.call c.told.answer ∷ []) (moved args row c.told.answer) =
      row_keeps (acts_of before) row c.call (timely _ _ _ c.call c.next) c.told.answer here c.fits in
      subst (λ (d : NeedData). At (acts_of before ++ act_of d event.came) (after_came args row event.came)) (sym c.due)
      (subst (λ (g : GotData). At (acts_of before ++ act_of (needs.File c.call) g) (after_came args row g)) (sym c.came) step)

  pub stands_at : (past : List Own) → IsRun args past → At (acts_of past) (place_after args past)
  stands_at [] run = (omega arith, refl)
  stands_at (event ∷ before) (run, due) = event_at before event (stands_at before run) due

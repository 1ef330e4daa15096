-- What a run leaves in the queue, by the row after it.
use Rattle.std.proofs.Common.{◌≡◌, ◌≢◌, ◌⊎◌, ℕ, ◌+◌, List, [], ◌∷◌, ◌++◌, Bool, true, false, refl, sym, ap, ◌∙◌, subst, ⊎_elim, inl, inr}
use Rattle.std.specs.Prelude.{nat_lt, ◌==◌, ◌||◌}
use Rattle.call_fs.specs.declared.calls.CallData.{CallData}
use Rattle.call_fs.specs.declared.calls.CallData.TheVariants.{CreateExcl, Append, Sync, Link, Unlink}
use Rattle.call_fs.specs.declared.calls.Answer.{Answer}
use Rattle.call_fs.specs.declared.calls.Answer.TheVariants.{Created, Done, Refused}
use Rattle.call_fs.specs.declared.calls.Fd.{Fd}
use Rattle.call_fs.specs.declared.calls.FsError.{FsError}
use Rattle.call_fs.specs.declared.calls.FsError.TheVariants.{NotThere, Exists, Fault, Memory}
use Rattle.call_fs.specs.declared.past.GotData.{GotData}
use Rattle.call_fs.specs.declared.past.NeedData.{NeedData}
use Rattle.call_fs.specs.declared.past.NeedData.TheVariants as needs
use Rattle.call_fs.specs.declared.past.Own.{Own}
use Rattle.call_fs.specs.declared.program.Ready.{Ready}
use Rattle.call_fs.specs.Columns.{IsAnswerTo}
use Rattle.call_fs.specs.Maps.{put_at}
use Rattle.call_fs.specs.Past.{HasCall}
use Rattle.call_fs.proofs.Maps.{put_at_cases}
use Rattle.queue_paths.specs.Names.{path}
use Rattle.queue_paths.specs.Names.Name.{Of}
use Rattle.queue_paths.specs.Names.Part.{Mess, Intd, Todo}
use Rattle.queue_inject.specs.declared.injection.Arguments.{Arguments}
use Rattle.queue_inject.specs.declared.row.Row.{Row}
use Rattle.queue_inject.specs.declared.row.Row.TheVariants as at
use Rattle.queue_inject.specs.Texts.{message_text, intd_text}
use Rattle.queue_inject.specs.Table.{piece_size, failure, in_message, in_todo, past_bytes, work_of, moved, place_after, due_by, in_time, is_late, has_input, Next}
use Rattle.queue_inject.specs.Run.{IsDue, IsRun}
use Rattle.queue_inject.specs.Causes.{pid_name}
use Rattle.queue_inject.specs.Written.{Act, act, acts_of}
use Rattle.queue_inject.specs.Left.{there_after, left_from, left_by, IsOneOf, LeavesJust, IsRefused, IsStaying, is_removing, IsPartly, IsLeft}
use Rattle.queue_inject.specs.Left.IsPartly.{OfPid, OfBoth, OfS2, OfS3}
use Rattle.queue_inject.specs.Left.Leaves.{Queues, AtTodo, AtMess, Nothing, Stays, Late}
use Rattle.queue_inject.proofs.Asks.{call_at_due}
use Rattle.queue_inject.proofs.Pieces.{either}
use Rattle.queue_inject.proofs.Failures.{IsOfKind, same_name, pid_is_no_part}
use Rattle.queue_inject.proofs.Causes.{kind_of_message, kind_of_todo, out_of_time}
use Rattle.queue_inject.proofs.Runs.{past_written, called, with_call, held, timely}

-- One call more

left_more : (there : List ℕ → Bool) (acts : List Act) (x : Act) → left_from there (acts ++ x ∷ []) ≡ there_after (left_from there acts) x.0 x.1
left_more there [] x = refl
left_more there (one ∷ acts) x = left_more (there_after there one.0 one.1) acts x

module _ (acts : List Act) (call : CallData) (answer : Answer) where
  becomes : (there : List ℕ → Bool) → there_after (left_by acts) call answer ≡ there → (name : List ℕ) → left_by (acts ++ act call answer ∷ []) name ≡ there name
  becomes there is name = ap (λ (f : List ℕ → Bool). f name) (left_more (λ q. false) acts (act call answer) ∙ is)

  -- it makes and removes no name
  pub just_same : (names : List (List ℕ)) → there_after (left_by acts) call answer ≡ left_by acts → LeavesJust acts names → LeavesJust (acts ++ act call answer ∷ []) names
  just_same names is just = λ name. (λ e. (just name).0 (sym (becomes (left_by acts) is name) ∙ e), λ one. becomes (left_by acts) is name ∙ (just name).1 one)

  -- it makes this one
  pub just_made : (new : List ℕ) (names : List (List ℕ)) → there_after (left_by acts) call answer ≡ put_at (left_by acts) new true → LeavesJust acts names
      → LeavesJust (acts ++ act call answer ∷ []) (new ∷ names)
  just_made new names is just = λ name.
      let now = becomes (put_at (left_by acts) new true) is name in (
        λ e. ⊎_elim (λ (h : (name ≡ new) × (put_at (left_by acts) new true name ≡ true)). inl h.0) (λ (h : (name ≢ new) × (put_at (left_by acts) new true name ≡ left_by acts name)). inr ((just name).0 (sym h.1 ∙ sym now ∙ e)))
            (put_at_cases (left_by acts) new true name),
        λ one. now ∙ ⊎_elim (λ (h : (name ≡ new) × (put_at (left_by acts) new true name ≡ true)). h.1) (λ (h : (name ≢ new) × (put_at (left_by acts) new true name ≡ left_by acts name)). h.1 ∙ ⊎_elim (λ same. absurd (h.0 same)) (λ other. (just name).1 other) one)
            (put_at_cases (left_by acts) new true name),
      )

  -- it removes this one
  pub just_gone : (old : List ℕ) (names : List (List ℕ)) → ¬ (IsOneOf names old) → there_after (left_by acts) call answer ≡ put_at (left_by acts) old false → LeavesJust acts (old ∷ names)
      → LeavesJust (acts ++ act call answer ∷ []) names
  just_gone old names apart is just = λ name.
      let now = becomes (put_at (left_by acts) old false) is name in (
        λ e. ⊎_elim (λ (h : (name ≡ old) × (put_at (left_by acts) old false name ≡ false)). let no : false ≡ true = sym h.1 ∙ sym now ∙ e in absurd (cc))
            (λ (h : (name ≢ old) × (put_at (left_by acts) old false name ≡ left_by acts name)). ⊎_elim (λ same. absurd (h.0 same)) (λ other. other) ((just name).0 (sym h.1 ∙ sym now ∙ e)))
            (put_at_cases (left_by acts) old false name),
        λ one. now ∙ ⊎_elim (λ (h : (name ≡ old) × (put_at (left_by acts) old false name ≡ false)). absurd (apart (subst (IsOneOf names) h.0 one)))
            (λ (h : (name ≢ old) × (put_at (left_by acts) old false name ≡ left_by acts name)). h.1 ∙ (just name).1 (inr one))
            (put_at_cases (left_by acts) old false name),
      )

swapped : (a b name : List ℕ) → IsOneOf (a ∷ (b ∷ [])) name → IsOneOf (b ∷ (a ∷ [])) name
swapped a b name (inl e) = inr (inl e)
swapped a b name (inr (inl e)) = inl e
swapped a b name (inr (inr none)) = absurd none

just_swapped : (acts : List Act) (a b : List ℕ) → LeavesJust acts (a ∷ (b ∷ [])) → LeavesJust acts (b ∷ (a ∷ []))
just_swapped acts a b just = λ name. (λ e. swapped a b name ((just name).0 e), λ one. (just name).1 (swapped b a name one))

-- Names that differ

no_pid_of_mess : (args : Arguments) (k n : ℕ) → ¬ (IsOneOf (path (Of Mess n) ∷ []) (pid_name args k))
no_pid_of_mess args k n (inl e) = pid_is_no_part args k n Mess e
no_pid_of_mess args k n (inr none) = none

no_mess_of_pid : (args : Arguments) (k n : ℕ) → ¬ (IsOneOf (pid_name args k ∷ []) (path (Of Mess n)))
no_mess_of_pid args k n (inl e) = pid_is_no_part args k n Mess (sym e)
no_mess_of_pid args k n (inr none) = none

no_intd_of_mess : (n : ℕ) → ¬ (IsOneOf (path (Of Mess n) ∷ []) (path (Of Intd n)))
no_intd_of_mess n (inl e) = let told = same_name (Of Intd n) (Of Mess n) e in cc
no_intd_of_mess n (inr none) = none

-- Statuses

abbrev Removing : ℕ → Type 0
Removing status = is_removing status ≡ true

of_input : (status : ℕ) → IsOfKind true status → Removing status
of_input status kind = ap (λ t. t || ((status == 51) || ((status == 53) || ((status == 63) || (status == 65))))) kind.of_input

removing_by : (status : ℕ) (why : FsError) → Removing status → Removing (failure (Refused why) status)
removing_by status NotThere h = h
removing_by status Exists h = h
removing_by status Fault h = h
removing_by status Memory h = refl

either_status : (status : ℕ) (why : FsError) → (failure (Refused why) status ≡ status) ⊎ (failure (Refused why) status ≡ 51)
either_status status NotThere = inl refl
either_status status Exists = inl refl
either_status status Fault = inl refl
either_status status Memory = inr refl

-- What is left, by the row

-- the clean up of mess/N is due: the pid name is there too if it couldn't be removed
pub data IsCleaning (args : Arguments) (past : List Own) (n : ℕ) : Type 0 where
  InS2 : LeavesJust (acts_of past) (path (Of Mess n) ∷ []) → IsCleaning args past n
  Beside : (k : ℕ) → LeavesJust (acts_of past) (path (Of Mess n) ∷ (pid_name args k ∷ [])) → HasCall past IsStaying → IsCleaning args past n

abbrev pub LeftAt : Arguments → List Own → Row → Type 0
LeftAt args past (at.Create k) = LeavesJust (acts_of past) []
LeftAt args past (at.LinkMess k n fd) = LeavesJust (acts_of past) (pid_name args k ∷ [])
LeftAt args past (at.UnlinkPid k n fd) = LeavesJust (acts_of past) (pid_name args k ∷ (path (Of Mess n) ∷ []))
LeftAt args past (at.AppendMess n fd done) = LeavesJust (acts_of past) (path (Of Mess n) ∷ [])
LeftAt args past (at.SyncMess n fd) = LeavesJust (acts_of past) (path (Of Mess n) ∷ [])
LeftAt args past (at.CreateIntd n) = LeavesJust (acts_of past) (path (Of Mess n) ∷ [])
LeftAt args past (at.AppendTodo n fd done) = LeavesJust (acts_of past) (path (Of Intd n) ∷ (path (Of Mess n) ∷ []))
LeftAt args past (at.SyncTodo n fd) = LeavesJust (acts_of past) (path (Of Intd n) ∷ (path (Of Mess n) ∷ []))
LeftAt args past (at.LinkTodo n) = LeavesJust (acts_of past) (path (Of Intd n) ∷ (path (Of Mess n) ∷ []))
LeftAt args past (at.CleanIntd n status) = LeavesJust (acts_of past) (path (Of Intd n) ∷ (path (Of Mess n) ∷ [])) × Removing status
LeftAt args past (at.CleanMess n status) = IsCleaning args past n × Removing status
LeftAt args past at.Queued = IsLeft args past 0
LeftAt args past (at.Failed status) = IsLeft args past status

nothing_left : (args : Arguments) (past : List Own) (status : ℕ) → Removing status → LeavesJust (acts_of past) [] → IsLeft args past status
nothing_left args past status h just = record { names = []; just = just; leaves = Nothing status h }

some_stay : (args : Arguments) (past : List Own) (status : ℕ) (names : List (List ℕ)) → Removing status → HasCall past IsStaying → IsPartly args names → LeavesJust (acts_of past) names → IsLeft args past status
some_stay args past status names h stay partly just = record { names = names; just = just; leaves = Stays status names h stay partly }

in_message_left : (args : Arguments) (past : List Own) (n fd done : ℕ) → LeavesJust (acts_of past) (path (Of Mess n) ∷ []) → LeftAt args past (in_message (message_text args) n fd done)
in_message_left args past n fd done just =
    past_written (LeftAt args past) (message_text args).bytes (message_text args).fault done (at.AppendMess n (record { 0 = fd }) done) (at.SyncMess n (record { 0 = fd })) (λ status. at.CleanMess n status)
    just
    (λ none. just)
    (λ status some. (InS2 just, of_input status (kind_of_message args status some)))

in_todo_left : (args : Arguments) (past : List Own) (n fd done : ℕ) → LeavesJust (acts_of past) (path (Of Intd n) ∷ (path (Of Mess n) ∷ [])) → LeftAt args past (in_todo (intd_text args) n fd done)
in_todo_left args past n fd done just =
    past_written (LeftAt args past) (intd_text args).bytes (intd_text args).fault done (at.AppendTodo n (record { 0 = fd }) done) (at.SyncTodo n (record { 0 = fd })) (λ status. at.CleanIntd n status)
    just
    (λ none. just)
    (λ status some. (just, of_input status (kind_of_todo args status some)))

module _ (args : Arguments) (before : List Own) (read : ℕ) (ready : Ready) (bytes : List ℕ) where
  abbrev after : CallData → Answer → List Own
  after call answer = with_call args before read ready bytes call answer

  abbrev Keeps : Row → CallData → Type 0
  Keeps row call = (answer : Answer) → LeftAt args before row → IsAnswerTo call answer → LeftAt args (after call answer) (moved args row answer)

  refused : (call : CallData) (why : FsError) → HasCall (after call (Refused why)) (IsRefused call)
  refused call why = inl (held args before read ready bytes (IsRefused call) call (Refused why) (why, refl, refl))

  staying : (name : List ℕ) → HasCall (after (Unlink name) (Refused Fault)) IsStaying
  staying name = inl (held args before read ready bytes IsStaying (Unlink name) (Refused Fault) (name, refl, refl))

  creates : (k : ℕ) → Keeps (at.Create k) (CreateExcl (pid_name args k))
  creates k (Created fd n) just fit = just_made (acts_of before) (CreateExcl (pid_name args k)) (Created fd n) (pid_name args k) [] refl just
  creates k (Refused Exists) just fit =
      let same : LeavesJust (acts_of (after (CreateExcl (pid_name args k)) (Refused Exists))) [] = just_same (acts_of before) (CreateExcl (pid_name args k)) (Refused Exists) [] refl just in
      either (λ row. LeftAt args (after (CreateExcl (pid_name args k)) (Refused Exists)) (past_bytes (work_of args) row)) (nat_lt k 9) (at.Create (k + 1)) (at.Failed 63) same
      (nothing_left args (after (CreateExcl (pid_name args k)) (Refused Exists)) 63 refl same)
  creates k (Refused NotThere) just fit = nothing_left args _ 63 refl (just_same (acts_of before) (CreateExcl (pid_name args k)) (Refused NotThere) [] refl just)
  creates k (Refused Fault) just fit = nothing_left args _ 63 refl (just_same (acts_of before) (CreateExcl (pid_name args k)) (Refused Fault) [] refl just)
  creates k (Refused Memory) just fit = nothing_left args _ 51 refl (just_same (acts_of before) (CreateExcl (pid_name args k)) (Refused Memory) [] refl just)
  creates k _ just fit = absurd fit

  links_mess : (k n : ℕ) (fd : Fd) → Keeps (at.LinkMess k n fd) (Link (pid_name args k) (path (Of Mess n)))
  links_mess k n fd Done just fit =
      let call : CallData = Link (pid_name args k) (path (Of Mess n)) in
      just_swapped (acts_of (after call Done)) (path (Of Mess n)) (pid_name args k) (just_made (acts_of before) call Done (path (Of Mess n)) (pid_name args k ∷ []) refl just)
  links_mess k n fd (Refused why) just fit =
      let call : CallData = Link (pid_name args k) (path (Of Mess n)) in
      record {
        names = pid_name args k ∷ [];
        just = just_same (acts_of before) call (Refused why) (pid_name args k ∷ []) refl just;
        leaves = AtMess k n (failure (Refused why) 64) (either_status 64 why) (refused call why);
      }
  links_mess k n fd _ just fit = absurd fit

  unlinks_pid : (k n : ℕ) (fd : Fd) → Keeps (at.UnlinkPid k n fd) (Unlink (pid_name args k))
  unlinks_pid k n fd Done just fit = in_message_left args (after (Unlink (pid_name args k)) Done) n fd.0 0
      (just_gone (acts_of before) (Unlink (pid_name args k)) Done (pid_name args k) (path (Of Mess n) ∷ []) (no_pid_of_mess args k n) refl just)
  unlinks_pid k n fd (Refused NotThere) just fit =
      (InS2 (just_gone (acts_of before) (Unlink (pid_name args k)) (Refused NotThere) (pid_name args k) (path (Of Mess n) ∷ []) (no_pid_of_mess args k n) refl just), refl)
  unlinks_pid k n fd (Refused Fault) just fit =
      let call : CallData = Unlink (pid_name args k) in (
        Beside k (just_swapped (acts_of (after call (Refused Fault))) (pid_name args k) (path (Of Mess n)) (just_same (acts_of before) call (Refused Fault) (pid_name args k ∷ (path (Of Mess n) ∷ [])) refl just))
            (staying (pid_name args k)),
        refl,
      )
  unlinks_pid k n fd _ just fit = absurd fit

  -- a call in S2 or S3 that makes no name
  in_s2 : (n : ℕ) (call : CallData) (answer : Answer) → there_after (left_by (acts_of before)) call answer ≡ left_by (acts_of before) → LeavesJust (acts_of before) (path (Of Mess n) ∷ [])
      → LeavesJust (acts_of (after call answer)) (path (Of Mess n) ∷ [])
  in_s2 n call answer is just = just_same (acts_of before) call answer (path (Of Mess n) ∷ []) is just

  in_s3 : (n : ℕ) (call : CallData) (answer : Answer) → there_after (left_by (acts_of before)) call answer ≡ left_by (acts_of before)
      → LeavesJust (acts_of before) (path (Of Intd n) ∷ (path (Of Mess n) ∷ [])) → LeavesJust (acts_of (after call answer)) (path (Of Intd n) ∷ (path (Of Mess n) ∷ []))
  in_s3 n call answer is just = just_same (acts_of before) call answer (path (Of Intd n) ∷ (path (Of Mess n) ∷ [])) is just

  appends_mess : (n done : ℕ) (fd : Fd) (piece : List ℕ) → Keeps (at.AppendMess n fd done) (Append fd piece)
  appends_mess n done fd piece Done just fit = in_message_left args (after (Append fd piece) Done) n fd.0 (done + piece_size) (in_s2 n (Append fd piece) Done refl just)
  appends_mess n done fd piece (Refused Fault) just fit = (InS2 (in_s2 n (Append fd piece) (Refused Fault) refl just), refl)
  appends_mess n done fd piece (Refused Memory) just fit = (InS2 (in_s2 n (Append fd piece) (Refused Memory) refl just), refl)
  appends_mess n done fd piece _ just fit = absurd fit

  syncs_mess : (n : ℕ) (fd : Fd) → Keeps (at.SyncMess n fd) (Sync fd)
  syncs_mess n fd Done just fit = in_s2 n (Sync fd) Done refl just
  syncs_mess n fd (Refused Fault) just fit = (InS2 (in_s2 n (Sync fd) (Refused Fault) refl just), refl)
  syncs_mess n fd _ just fit = absurd fit

  creates_intd : (n : ℕ) → Keeps (at.CreateIntd n) (CreateExcl (path (Of Intd n)))
  creates_intd n (Created fd i) just fit = in_todo_left args (after (CreateExcl (path (Of Intd n))) (Created fd i)) n fd.0 0
      (just_made (acts_of before) (CreateExcl (path (Of Intd n))) (Created fd i) (path (Of Intd n)) (path (Of Mess n) ∷ []) refl just)
  creates_intd n (Refused why) just fit = (InS2 (in_s2 n (CreateExcl (path (Of Intd n))) (Refused why) refl just), removing_by 65 why refl)
  creates_intd n _ just fit = absurd fit

  appends_todo : (n done : ℕ) (fd : Fd) (piece : List ℕ) → Keeps (at.AppendTodo n fd done) (Append fd piece)
  appends_todo n done fd piece Done just fit = in_todo_left args (after (Append fd piece) Done) n fd.0 (done + piece_size) (in_s3 n (Append fd piece) Done refl just)
  appends_todo n done fd piece (Refused Fault) just fit = (in_s3 n (Append fd piece) (Refused Fault) refl just, refl)
  appends_todo n done fd piece (Refused Memory) just fit = (in_s3 n (Append fd piece) (Refused Memory) refl just, refl)
  appends_todo n done fd piece _ just fit = absurd fit

  syncs_todo : (n : ℕ) (fd : Fd) → Keeps (at.SyncTodo n fd) (Sync fd)
  syncs_todo n fd Done just fit = in_s3 n (Sync fd) Done refl just
  syncs_todo n fd (Refused Fault) just fit = (in_s3 n (Sync fd) (Refused Fault) refl just, refl)
  syncs_todo n fd _ just fit = absurd fit

  links_todo : (n : ℕ) → Keeps (at.LinkTodo n) (Link (path (Of Intd n)) (path (Of Todo n)))
  links_todo n Done just fit = record {
    names = path (Of Todo n) ∷ (path (Of Intd n) ∷ (path (Of Mess n) ∷ []));
    just = just_made (acts_of before) (Link (path (Of Intd n)) (path (Of Todo n))) Done (path (Of Todo n)) (path (Of Intd n) ∷ (path (Of Mess n) ∷ [])) refl just;
    leaves = Queues n;
  }
  links_todo n (Refused why) just fit =
      let call : CallData = Link (path (Of Intd n)) (path (Of Todo n)) in
      record {
        names = path (Of Intd n) ∷ (path (Of Mess n) ∷ []);
        just = in_s3 n call (Refused why) refl just;
        leaves = AtTodo n (failure (Refused why) 66) (either_status 66 why) (refused call why);
      }
  links_todo n _ just fit = absurd fit

  cleans_intd : (n status : ℕ) → Keeps (at.CleanIntd n status) (Unlink (path (Of Intd n)))
  cleans_intd n status Done (just, h) fit =
      (InS2 (just_gone (acts_of before) (Unlink (path (Of Intd n))) Done (path (Of Intd n)) (path (Of Mess n) ∷ []) (no_intd_of_mess n) refl just), h)
  cleans_intd n status (Refused NotThere) (just, h) fit =
      (InS2 (just_gone (acts_of before) (Unlink (path (Of Intd n))) (Refused NotThere) (path (Of Intd n)) (path (Of Mess n) ∷ []) (no_intd_of_mess n) refl just), h)
  cleans_intd n status (Refused Fault) (just, h) fit =
      some_stay args _ status (path (Of Intd n) ∷ (path (Of Mess n) ∷ [])) h (staying (path (Of Intd n))) (OfS3 n) (in_s3 n (Unlink (path (Of Intd n))) (Refused Fault) refl just)
  cleans_intd n status _ here fit = absurd fit

  -- mess/N is gone
  mess_gone : (n status : ℕ) (answer : Answer) → there_after (left_by (acts_of before)) (Unlink (path (Of Mess n))) answer ≡ put_at (left_by (acts_of before)) (path (Of Mess n)) false
      → IsCleaning args before n → Removing status → IsLeft args (after (Unlink (path (Of Mess n))) answer) status
  mess_gone n status answer is (InS2 just) h =
      nothing_left args _ status h (just_gone (acts_of before) (Unlink (path (Of Mess n))) answer (path (Of Mess n)) [] (λ none. none) is just)
  mess_gone n status answer is (Beside k just stay) h =
      some_stay args _ status (pid_name args k ∷ []) h (inr stay) (OfPid k) (just_gone (acts_of before) (Unlink (path (Of Mess n))) answer (path (Of Mess n)) (pid_name args k ∷ []) (no_mess_of_pid args k n) is just)

  mess_stays : (n status : ℕ) → IsCleaning args before n → Removing status → IsLeft args (after (Unlink (path (Of Mess n))) (Refused Fault)) status
  mess_stays n status (InS2 just) h = some_stay args _ status (path (Of Mess n) ∷ []) h (staying (path (Of Mess n))) (OfS2 n) (in_s2 n (Unlink (path (Of Mess n))) (Refused Fault) refl just)
  mess_stays n status (Beside k just stay) h =
      some_stay args _ status (path (Of Mess n) ∷ (pid_name args k ∷ [])) h (staying (path (Of Mess n))) (OfBoth k n)
      (just_same (acts_of before) (Unlink (path (Of Mess n))) (Refused Fault) (path (Of Mess n) ∷ (pid_name args k ∷ [])) refl just)

  cleans_mess : (n status : ℕ) → Keeps (at.CleanMess n status) (Unlink (path (Of Mess n)))
  cleans_mess n status Done (here, h) fit = mess_gone n status Done refl here h
  cleans_mess n status (Refused NotThere) (here, h) fit = mess_gone n status (Refused NotThere) refl here h
  cleans_mess n status (Refused Fault) (here, h) fit = mess_stays n status here h
  cleans_mess n status _ here fit = absurd fit

  due_keeps : (row : Row) (own call : CallData) → ◌≡◌ {A = NeedData} (needs.File own) (needs.File call) → Keeps row own → Keeps row call
  due_keeps row own call due h = let same : own ≡ call = cc in subst (Keeps row) same h

  row_keeps : (row : Row) (call : CallData) → due_by args row ≡ needs.File call → Keeps row call
  row_keeps (at.Create k) call due = due_keeps (at.Create k) _ call due (creates k)
  row_keeps (at.LinkMess k n fd) call due = due_keeps (at.LinkMess k n fd) _ call due (links_mess k n fd)
  row_keeps (at.UnlinkPid k n fd) call due = due_keeps (at.UnlinkPid k n fd) _ call due (unlinks_pid k n fd)
  row_keeps (at.AppendMess n fd done) call due = due_keeps (at.AppendMess n fd done) _ call due (appends_mess n done fd _)
  row_keeps (at.SyncMess n fd) call due = due_keeps (at.SyncMess n fd) _ call due (syncs_mess n fd)
  row_keeps (at.CreateIntd n) call due = due_keeps (at.CreateIntd n) _ call due (creates_intd n)
  row_keeps (at.AppendTodo n fd done) call due = due_keeps (at.AppendTodo n fd done) _ call due (appends_todo n done fd _)
  row_keeps (at.SyncTodo n fd) call due = due_keeps (at.SyncTodo n fd) _ call due (syncs_todo n fd)
  row_keeps (at.LinkTodo n) call due = due_keeps (at.LinkTodo n) _ call due (links_todo n)
  row_keeps (at.CleanIntd n status) call due = due_keeps (at.CleanIntd n status) _ call due (cleans_intd n status)
  row_keeps (at.CleanMess n status) call due = due_keeps (at.CleanMess n status) _ call due (cleans_mess n status)
  row_keeps at.Queued call due = absurd (cc)
  row_keeps (at.Failed status) call due = absurd (cc)

-- Whole runs

event_at : (args : Arguments) (before : List Own) (event : Own) → LeftAt args before (place_after args before) → IsDue args before event → LeftAt args (event ∷ before) (place_after args (event ∷ before))
event_at args before event here due =
    let c = call_at_due args before event due in
    let is : event ≡ called args before event.read event.ready c.told.bytes c.call c.told.answer =
    ap (λ (d : NeedData). record { read = event.read; ready = event.ready; due = d; came = event.came }) c.due
    ∙ ap (λ (g : GotData). record { read = event.read; ready = event.ready; due = needs.File c.call; came = g }) c.came in
    subst (λ e. LeftAt args (e ∷ before) (place_after args (e ∷ before))) (sym is)
    (row_keeps args before event.read event.ready c.told.bytes (place_after args before) c.call (timely _ _ _ c.call c.next) c.told.answer here c.fits)

left_at : (args : Arguments) (past : List Own) → IsRun args past → LeftAt args past (place_after args past)
left_at args [] run = λ name. (λ e. cc, λ none. absurd none)
left_at args (event ∷ before) (run, due) = event_at args before event (left_at args before run) due

module _ (args : Arguments) (past : List Own) (now : ℕ) (input : Bool) (status : ℕ) where
  abbrev EndsAt : Row → Type 0
  EndsAt row = in_time input (is_late args now) (due_by args row) ≡ needs.Ended status

  late_with : (call : CallData) (names : List (List ℕ)) → (names ≡ []) ⊎ IsPartly args names → LeavesJust (acts_of past) names → in_time input (is_late args now) (needs.File call) ≡ needs.Ended status
      → IsLeft args past status
  late_with call names partly just end = subst (IsLeft args past) (out_of_time input (is_late args now) call status end).1 (record { names = names; just = just; leaves = Late names partly })

  late_cleaning : (n : ℕ) → IsCleaning args past n → in_time input (is_late args now) (needs.File (Unlink (path (Of Mess n)))) ≡ needs.Ended status → IsLeft args past status
  late_cleaning n (InS2 just) end = late_with _ (path (Of Mess n) ∷ []) (inr (OfS2 n)) just end
  late_cleaning n (Beside k just stay) end = late_with _ (path (Of Mess n) ∷ (pid_name args k ∷ [])) (inr (OfBoth k n)) just end

  at_end : (last : ℕ) → IsLeft args past last → ◌≡◌ {A = NeedData} (needs.Ended last) (needs.Ended status) → IsLeft args past status
  at_end last left end = let is : last ≡ status = cc in subst (IsLeft args past) is left

  ends_at : (row : Row) → LeftAt args past row → EndsAt row → IsLeft args past status
  ends_at (at.Create k) just end = late_with _ [] (inl refl) just end
  ends_at (at.LinkMess k n fd) just end = late_with _ (pid_name args k ∷ []) (inr (OfPid k)) just end
  ends_at (at.UnlinkPid k n fd) just end = late_with _ (path (Of Mess n) ∷ (pid_name args k ∷ [])) (inr (OfBoth k n)) (just_swapped (acts_of past) (pid_name args k) (path (Of Mess n)) just) end
  ends_at (at.AppendMess n fd done) just end = late_with _ (path (Of Mess n) ∷ []) (inr (OfS2 n)) just end
  ends_at (at.SyncMess n fd) just end = late_with _ (path (Of Mess n) ∷ []) (inr (OfS2 n)) just end
  ends_at (at.CreateIntd n) just end = late_with _ (path (Of Mess n) ∷ []) (inr (OfS2 n)) just end
  ends_at (at.AppendTodo n fd done) just end = late_with _ (path (Of Intd n) ∷ (path (Of Mess n) ∷ [])) (inr (OfS3 n)) just end
  ends_at (at.SyncTodo n fd) just end = late_with _ (path (Of Intd n) ∷ (path (Of Mess n) ∷ [])) (inr (OfS3 n)) just end
  ends_at (at.LinkTodo n) just end = late_with _ (path (Of Intd n) ∷ (path (Of Mess n) ∷ [])) (inr (OfS3 n)) just end
  ends_at (at.CleanIntd n last) (just, h) end = late_with _ (path (Of Intd n) ∷ (path (Of Mess n) ∷ [])) (inr (OfS3 n)) just end
  ends_at (at.CleanMess n last) (here, h) end = late_cleaning n here end
  ends_at at.Queued left end = at_end 0 left end
  ends_at (at.Failed last) left end = at_end last left end

pub leaves_just : (args : Arguments) (past : List Own) (now : ℕ) (ready : Ready) (status : ℕ) → IsRun args past → Next args past now ready ≡ needs.Ended status → IsLeft args past status
leaves_just args past now ready status run end = ends_at args past now (has_input ready) status (place_after args past) (left_at args past run) end

-- A message that finds all that it needs is queued, or memory is wanted.
use Rattle.std.proofs.Common.{◌≡◌, ◌≢◌, ◌⊎◌, inl, inr, ⊎_elim, ℕ, ◌+◌, ◌-◌, ◌^◌, ◌<◌, List, [], ◌∷◌, ◌++◌, length, take, length-append, true, not, Option, Some, None, refl, sym, ap, ◌∙◌, subst, arith}
use Rattle.std.specs.Prelude.{if◌then◌else◌, ◌==◌, nat_lt, Contains, codes, slice_get}
use Rattle.std.specs.List.{AllByRecursion, suffix_len}
use Rattle.std.specs.Option.{option_or}
use Rattle.std.proofs.lemmas.Bool.{cases_lt, le-ltb}
use Rattle.std.proofs.lemmas.Bool.Decides.{eqb_tells}
use Rattle.std.proofs.lemmas.List.{get_or-append_right}
use Rattle.std.proofs.lemmas.List.Elements.{All-from_recursion}
use Rattle.std.proofs.lemmas.List.Sums.{suffix_len_is}
use Rattle.mail_bytes.specs.Decimal.{digits, IsDigit}
use Rattle.mail_bytes.proofs.Digits.{digits_only}
use Rattle.call_fs.specs.declared.calls.FsError.{FsError}
use Rattle.call_fs.specs.declared.calls.FsError.TheVariants.{NotThere, Exists, Fault, Memory}
use Rattle.call_fs.specs.declared.calls.CallData.{CallData}
use Rattle.call_fs.specs.declared.calls.CallData.TheVariants.{CreateExcl}
use Rattle.call_fs.specs.declared.calls.Answer.{Answer}
use Rattle.call_fs.specs.declared.calls.Answer.TheVariants.{Created, Done, Refused}
use Rattle.call_fs.specs.Disk.{Disk, dir_of}
use Rattle.call_fs.specs.Apply.{Apply, Fits, effect}
use Rattle.mail_bytes.specs.Told.{Meets}
use Rattle.call_fs.specs.declared.calls.Told.{Told}
use Rattle.call_fs.specs.declared.past.GotData.TheVariants.{Answered}
use Rattle.call_fs.specs.declared.past.NeedData.{NeedData}
use Rattle.call_fs.specs.declared.past.NeedData.TheVariants as needs
use Rattle.call_fs.specs.declared.past.Own.{Own}
use Rattle.envelope_records.specs.Envelope.{Reading}
use Rattle.envelope_records.proofs.Envelopes.{read_whole}
use Rattle.queue_paths.specs.Names.{path}
use Rattle.queue_paths.specs.Names.Part.{Intd}
use Rattle.queue_inject.specs.declared.injection.Arguments.{Arguments}
use Rattle.queue_inject.specs.declared.row.Row.{Row}
use Rattle.queue_inject.specs.declared.row.Row.TheVariants as at
use Rattle.queue_inject.specs.Texts.{Text, limit, message_end, envelope_text, message_text, intd_text, envelope_of}
use Rattle.queue_inject.specs.Table.{work_of, piece_size, in_message, in_todo, past_bytes, moved, place_after, after_came, due_by}
use Rattle.queue_inject.proofs.Pieces.{either, past_by}
use Rattle.queue_inject.proofs.Asks.{call_at_due}
use Rattle.queue_inject.proofs.Runs.{timely}
use Rattle.queue_inject.specs.Run.{IsRun}
use Rattle.call_fs.specs.Past.{HoldsOf, HasCall}
use Rattle.queue_inject.specs.Causes.{first_fault, pid_name, IsTry, IsTaken, IsFailure, IsCausedBy}
use Rattle.queue_inject.proofs.Failures.{pid_is_no_part}
use Rattle.call_fs.specs.Past.{LeadsTo, Makes, IsFault}
use Rattle.queue_command.specs.Injected.{IsHomeless, HasPidName, IsOutOfPlace, MayBeQueued}
use Rattle.queue_command.proofs.PidNames.{dir_pid_name, pid_name_is_name}

-- The disk is the first one as long as pid names are tried

abbrev Still : Disk → Disk → Row → Type 0
Still first last (at.Create k) = last ≡ first
Still first last row = Unit {0}

module _ (first last : Disk) where
  message_still : (text : Text) (n fd done : ℕ) → Still first last (in_message text n fd done)
  message_still text n fd done =
      past_by (Still first last) text.bytes text.fault done (at.AppendMess n (record { 0 = fd }) done) (at.SyncMess n (record { 0 = fd })) (λ status. at.CleanMess n status) tt tt (λ status. tt)

  todo_still : (text : Text) (n fd done : ℕ) → Still first last (in_todo text n fd done)
  todo_still text n fd done =
      past_by (Still first last) text.bytes text.fault done (at.AppendTodo n (record { 0 = fd }) done) (at.SyncTodo n (record { 0 = fd })) (λ status. at.CleanIntd n status) tt tt (λ status. tt)

moves_still : (args : Arguments) (first mid last : Disk) (read : ℕ) (row : Row) (call : CallData) (answer : Answer)
    → due_by args row ≡ needs.File call → Still first mid row → Apply mid read call answer last → Still first last (moved args row answer)
moves_still args first mid last read (at.Create k) call (Refused Exists) due here applied =
    let same : call ≡ CreateExcl (pid_name args k) = cc in
    either (λ row. Still first last (past_bytes (work_of args) row)) (nat_lt k 9) (at.Create (k + 1)) (at.Failed 63)
    (applied.2 ∙ ap (λ c. effect mid read c (Refused Exists) applied.0) same ∙ here) tt
moves_still args first mid last read (at.LinkMess k n fd) call Done due here applied = tt
moves_still args first mid last read (at.UnlinkPid k n fd) call Done due here applied = message_still first last (message_text args) n fd.0 0
moves_still args first mid last read (at.AppendMess n fd done) call Done due here applied = message_still first last (message_text args) n fd.0 (done + piece_size)
moves_still args first mid last read (at.SyncMess n fd) call Done due here applied = tt
moves_still args first mid last read (at.CreateIntd n) call (Created fd i) due here applied = todo_still first last (intd_text args) n fd.0 0
moves_still args first mid last read (at.AppendTodo n fd done) call Done due here applied = todo_still first last (intd_text args) n fd.0 (done + piece_size)
moves_still args first mid last read (at.SyncTodo n fd) call Done due here applied = tt
moves_still args first mid last read (at.LinkTodo n) call Done due here applied = tt
moves_still args first mid last read (at.CleanIntd n cause) call (Refused NotThere) due here applied = tt
moves_still args first mid last read row call answer due here applied = tt

-- what an event did to the disk that was a call with this answer
made_call : (call : CallData) (told : Told) (before after : Disk) (event : Own) → event.due ≡ needs.File call → event.came ≡ Answered told
    → Makes before event.read event.due event.came after → Makes before event.read (needs.File call) (Answered told) after
made_call call told before after event due came made =
    subst (λ c. Makes before event.read (needs.File call) c after) came (subst (λ d. Makes before event.read d event.came after) due made)

still_at : (args : Arguments) (first last : Disk) (past : List Own) → IsRun args past → LeadsTo first past last → Still first last (place_after args past)
still_at args first last [] run led = led
still_at args first last (event ∷ before) (run, due) (mid, led, made) =
    let c = call_at_due args before event due in
    let here = still_at args first mid before run led in
    let did : Makes mid event.read (needs.File c.call) (Answered c.told) last = made_call c.call c.told mid last event c.due c.came made in
    subst (λ came. Still first last (after_came args (place_after args before) came)) (sym c.came)
    (moves_still args first mid last event.read (place_after args before) c.call c.told.answer (timely _ _ _ c.call c.next) here did.0)

-- a pid name is tried on the first disk
tried_first : (args : Arguments) (first mid : Disk) (row : Row) (k : ℕ) → due_by args row ≡ needs.File (CreateExcl (pid_name args k)) → Still first mid row → mid ≡ first
tried_first args first mid (at.Create i) k due here = here
tried_first args first mid (at.CreateIntd n) k due here = absurd (pid_is_no_part args k n Intd (created _ _ (sym due))) where
  created : (a b : List ℕ) → ◌≡◌ {A = NeedData} (needs.File (CreateExcl a)) (needs.File (CreateExcl b)) → a ≡ b
  created a b e = cc
tried_first args first mid row k due here = absurd (cc)

-- What the first disk tells of a try, by its answer
module _ (args : Arguments) (first : Disk) (P : CallData → Answer → Type 0) (R : Type 0)
    (by : (call : CallData) (answer : Answer) → P call answer
    → (k : ℕ) × (why : FsError) × (call ≡ CreateExcl (pid_name args k)) × (answer ≡ Refused why) × ((wrote : ℕ) → Fits first (CreateExcl (pid_name args k)) (Refused why) wrote → R)) where
  tells : (last : Disk) (past : List Own) → IsRun args past → LeadsTo first past last → HasCall past P → R
  tells last [] run led h = absurd h
  tells last (event ∷ before) (run, due) (mid, led, made) h = ⊎_elim newest (tells mid before run led) h where
    newest : HoldsOf P event → R
    newest h =
        let t = by h.call h.told.answer h.holds in
        let same : mid ≡ first = tried_first args first mid (place_after args before) t.0 (timely _ _ _ h.call (due.0 ∙ h.due) ∙ ap needs.File t.2) (still_at args first mid before run led) in
        let applied = (made_call h.call h.told mid last event h.due h.came made).0 in
        t.4 applied.0
        (subst (λ d. Fits d (CreateExcl (pid_name args t.0)) (Refused t.1) applied.0) same
        (subst (λ a. Fits mid (CreateExcl (pid_name args t.0)) a applied.0) t.3
        (subst (λ c. Fits mid c h.told.answer applied.0) t.2 applied.1)))

-- No try fails if a pid name is free

free_fails_none : (args : Arguments) (old new : Option Disk) (past : List Own) (last status : ℕ)
    → args.pid < 2 ^ 32 → args.start < 2 ^ 64
    → IsRun args past → Meets old new (λ before after. LeadsTo before past after) → IsCausedBy args past last status → HasPidName args old past
    → (¬ (HasCall past (IsHomeless args))) × (¬ (HasCall past (IsTaken args 9)))
free_fails_none args None new past last status low soon run led caused (home, k, try, free) = (home, λ h. free (caused.tried h k try))
free_fails_none args (Some d) None past last status low soon run led caused has = absurd led
free_fails_none args (Some d) (Some e) past last status low soon run led caused (dir, k, try, free) = (
  tells args d (IsHomeless args) ⊥
      (λ call answer h. (h.0, NotThere, h.2, h.3, λ wrote none. none (pid_name_is_name args h.0 low soon h.1, subst (λ (name : List ℕ). Contains d.dirs name) (dir_pid_name args 1 ∙ sym (dir_pid_name args h.0)) dir)))
      e past run led,
  λ h. tells args d (IsTaken args k) ⊥
      (λ call answer h. (k, Exists, h.0, h.1, λ wrote there. let some = there.1 in cc))
      e past run led (caused.tried h k try),
)

-- No call fails except for lack of memory

fails_none : (args : Arguments) (call : CallData) (answer : Answer) (why : FsError) → answer ≡ Refused why → IsFailure args call answer → answer ≢ Refused Memory
    → ¬ (IsFault call answer) → ¬ (IsOutOfPlace args call answer) → ¬ (IsHomeless args call answer) → ¬ (IsTaken args 9 call answer) → ⊥
fails_none args call answer Memory is failure other calm placed home free = other is
fails_none args call answer Fault is failure other calm placed home free = calm is
fails_none args call answer NotThere is failure other calm placed home free =
    placed (record { refused = inr is; other = λ k try same. home (k, try, same, is); needed = failure.needed })
fails_none args call answer Exists is failure other calm placed home free =
    placed (record { refused = inl is; other = λ k try same. ninth k try same; needed = failure.needed }) where
      ninth : (k : ℕ) → IsTry k → call ≢ CreateExcl (pid_name args k)
      ninth k try same = ⊎_elim
          (λ small. failure.last k small (same, is))
          (λ large. let high = try.1 in let nine : k ≡ 9 = omega arith in free (subst (λ j. IsTaken args j call answer) nine (same, is)))
          (cases_lt k 9)

none_fails : (args : Arguments) (past : List Own)
    → ¬ (HasCall past IsFault) → ¬ (HasCall past (IsOutOfPlace args)) → ¬ (HasCall past (IsHomeless args)) → ¬ (HasCall past (IsTaken args 9))
    → ¬ (HasCall past (λ call answer. IsFailure args call answer × (answer ≢ Refused Memory)))
none_fails args [] calm placed home free h = h
none_fails args (event ∷ before) calm placed home free h = ⊎_elim
    newest
    (none_fails args before (λ x. calm (inr x)) (λ x. placed (inr x)) (λ x. home (inr x)) (λ x. free (inr x)))
    h where
      held : (h : HoldsOf (λ call answer. IsFailure args call answer × (answer ≢ Refused Memory)) event) → (P : CallData → Answer → Type 0) → P h.call h.told.answer → HoldsOf P event
      held h P p = record { call = h.call; told = h.told; due = h.due; came = h.came; holds = p }

      newest : ¬ (HoldsOf (λ call answer. IsFailure args call answer × (answer ≢ Refused Memory)) event)
      newest h = fails_none args h.call h.told.answer h.holds.0.why h.holds.0.refused h.holds.0 h.holds.1
          (λ x. calm (inl (held h IsFault x)))
          (λ x. placed (inl (held h (IsOutOfPlace args) x)))
          (λ x. home (inl (held h (IsHomeless args) x)))
          (λ x. free (inl (held h (IsTaken args 9) x)))

-- The input has no fault

no_fault : (args : Arguments) (old : Option Disk) (past : List Own) (last : ℕ) → MayBeQueued args old past last → first_fault args ≡ None
unfolding message_text intd_text envelope_of
no_fault args old past last may =
    let message : (message_text args).fault ≡ None
    = ap (λ t. if t then Some 31 else message_end args.message_end) (le-ltb limit (length args.message) may.message_short) ∙ ap message_end may.message_whole in
    let envelope : (intd_text args).fault ≡ None
    = ap (λ (r : Reading). (envelope_text r args.envelope_end (slice_get args.envelope limit)).fault) (read_whole (take limit args.envelope) may.sender may.recipients may.envelope) in
    ap (λ fault. option_or fault (intd_text args).fault) message ∙ envelope

pub may_be_queued : (args : Arguments) (old new : Option Disk) (past : List Own) (last status : ℕ)
    → args.pid < 2 ^ 32 → args.start < 2 ^ 64
    → IsRun args past → Meets old new (λ before after. LeadsTo before past after) → IsCausedBy args past last status
    → MayBeQueued args old past last → (status ≡ 0) ⊎ (status ≡ 51)
may_be_queued args old new past last status low soon run led caused may =
    let none = free_fails_none args old new past last status low soon run led caused may.pid_name_free in
    caused.complete (no_fault args old past last may) may.in_time (none_fails args past may.calm may.in_place none.0 none.1)

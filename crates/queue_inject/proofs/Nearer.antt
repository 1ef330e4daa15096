-- Each call brings an injector nearer to its end.
use Rattle.std.proofs.Common.{◌≡◌, ℕ, ◌+◌, ◌≤◌, ◌<◌, List, length, Bool, true, false, if◌then◌else◌, nat_lt, refl, arith}
use Rattle.std.proofs.lemmas.Bool.{ltb-true}
use Rattle.call_fs.specs.declared.calls.Answer.{Answer}
use Rattle.call_fs.specs.declared.calls.Answer.TheVariants as told
use Rattle.call_fs.specs.declared.calls.FsError.TheVariants.{NotThere, Exists}
use Rattle.queue_inject.specs.declared.intake.Verdict.{Verdict}
use Rattle.queue_inject.specs.declared.intake.Verdict.TheVariants as verdict
use Rattle.queue_inject.specs.declared.row.Row.{Row}
use Rattle.queue_inject.specs.declared.row.Row.TheVariants as at
use Rattle.queue_inject.specs.Texts.{limit}
use Rattle.call_fs.specs.declared.past.NeedData.{NeedData}
use Rattle.call_fs.specs.declared.past.NeedData.TheVariants as needs
use Rattle.queue_inject.specs.Table.{goes_to, call_at, in_time, has_input}
use Rattle.queue_inject.specs.Rows.{has_piece, past_text, row_by}
use Rattle.queue_inject.specs.Machine.{Machine, Heard, is_call, due_now, late_now, call_now, row_now, ahead_by, ahead_of}
use Rattle.queue_inject.specs.inside.Fields.{Counts}

-- so many bytes were written at most
abbrev IsBounded : Row → Type 0
IsBounded (at.AppendMess n fd done) = done ≤ limit + 32768
IsBounded (at.AppendTodo n fd done) = done ≤ limit + 32768
IsBounded row = Unit {0}

next_try : (seq : ℕ) (t : Bool) → nat_lt seq 9 ≡ t → ahead_by (if t then at.Create (seq + 1) else at.Failed 63) < ahead_by (at.Create seq)
next_try seq true less = let small : seq < 9 = ltb-true seq 9 less in omega arith
next_try seq false more = omega arith

falls : (pid start : ℕ) (piece : List ℕ) (row : Row) (answer : Answer) → is_call (call_at pid start piece row) ≡ true → IsBounded row → ahead_by (goes_to row answer) < ahead_by row
falls pid start piece (at.Create seq) (told.Created fd n) call bound = omega arith
falls pid start piece (at.Create seq) (told.Refused Exists) call bound = next_try seq (nat_lt seq 9) refl
falls pid start piece (at.Create seq) answer call bound = omega arith
falls pid start piece (at.LinkMess seq n fd) told.Done call bound = omega arith
falls pid start piece (at.LinkMess seq n fd) answer call bound = omega arith
falls pid start piece (at.UnlinkPid seq n fd) told.Done call bound = omega arith
falls pid start piece (at.UnlinkPid seq n fd) answer call bound = omega arith
falls pid start piece (at.AppendMess n fd done) told.Done call bound = omega arith
falls pid start piece (at.AppendMess n fd done) answer call bound = omega arith
falls pid start piece (at.SyncMess n fd) told.Done call bound = omega arith
falls pid start piece (at.SyncMess n fd) answer call bound = omega arith
falls pid start piece (at.CreateIntd n) (told.Created fd i) call bound = omega arith
falls pid start piece (at.CreateIntd n) answer call bound = omega arith
falls pid start piece (at.AppendTodo n fd done) told.Done call bound = omega arith
falls pid start piece (at.AppendTodo n fd done) answer call bound = omega arith
falls pid start piece (at.SyncTodo n fd) told.Done call bound = omega arith
falls pid start piece (at.SyncTodo n fd) answer call bound = omega arith
falls pid start piece (at.LinkTodo n) told.Done call bound = omega arith
falls pid start piece (at.LinkTodo n) answer call bound = omega arith
falls pid start piece (at.CleanIntd n status) told.Done call bound = omega arith
falls pid start piece (at.CleanIntd n status) (told.Refused NotThere) call bound = omega arith
falls pid start piece (at.CleanIntd n status) answer call bound = omega arith
falls pid start piece (at.CleanMess n status) answer call bound = omega arith
falls pid start piece at.Queued answer call bound = absurd (cc)
falls pid start piece (at.Failed status) answer call bound = absurd (cc)

-- the row whose call is due is no farther than where the last answer led, and has written no more

abbrev Is : Row → Row → Type 0
Is row due = (ahead_by due ≤ ahead_by row) × (IsBounded row → IsBounded due)

same : (row : Row) → Is row row
same row = (omega arith, λ b. b)

after_text : (row end : Row) (bad : ℕ → Row) (verdict : Verdict) → Is row end → ((status : ℕ) → Is row (bad status)) → Is row (past_text verdict end bad)
after_text row end bad verdict.Open e b = e
after_text row end bad verdict.Whole e b = e
after_text row end bad (verdict.Faulty status) e b = b status

due_row : (verdict : Verdict) (len : ℕ) (row : Row) → Is row (row_by verdict len row)
due_row verdict len (at.AppendMess n fd done) =
    elim (has_piece verdict len) as (λ t. Is (at.AppendMess n fd done) (if t then at.AppendMess n fd done else past_text verdict (at.SyncMess n fd) (λ status. at.CleanMess n status))) [
      | true ↦ same (at.AppendMess n fd done)
      | false ↦ after_text (at.AppendMess n fd done) (at.SyncMess n fd) (λ status. at.CleanMess n status) verdict (omega arith, λ b. tt) (λ status. (omega arith, λ b. tt))
    ]
due_row verdict len (at.AppendTodo n fd done) =
    elim (has_piece verdict len) as (λ t. Is (at.AppendTodo n fd done) (if t then at.AppendTodo n fd done else past_text verdict (at.SyncTodo n fd) (λ status. at.CleanIntd n status))) [
      | true ↦ same (at.AppendTodo n fd done)
      | false ↦ after_text (at.AppendTodo n fd done) (at.SyncTodo n fd) (λ status. at.CleanIntd n status) verdict (omega arith, λ b. tt) (λ status. (omega arith, λ b. tt))
    ]
due_row verdict len (at.Create seq) = same (at.Create seq)
due_row verdict len (at.LinkMess seq n fd) = same (at.LinkMess seq n fd)
due_row verdict len (at.UnlinkPid seq n fd) = same (at.UnlinkPid seq n fd)
due_row verdict len (at.SyncMess n fd) = same (at.SyncMess n fd)
due_row verdict len (at.CreateIntd n) = same (at.CreateIntd n)
due_row verdict len (at.SyncTodo n fd) = same (at.SyncTodo n fd)
due_row verdict len (at.LinkTodo n) = same (at.LinkTodo n)
due_row verdict len (at.CleanIntd n status) = same (at.CleanIntd n status)
due_row verdict len (at.CleanMess n status) = same (at.CleanMess n status)
due_row verdict len at.Queued = same at.Queued
due_row verdict len (at.Failed status) = same (at.Failed status)

bounded : (row : Row) (h : Heard) → Counts row h → IsBounded row
bounded (at.AppendMess n fd done) h counts = counts.bound
bounded (at.AppendTodo n fd done) h counts = counts.bound
bounded row h counts = tt

nearer : (m : Machine) (answer : Answer) → Counts m.row m.heard → is_call (call_now m) ≡ true → ahead_by (goes_to (row_now m) answer) < ahead_of m
nearer m answer counts call =
    let due = due_row m.heard.verdict (length m.heard.piece) m.row in
    let fell = falls m.pid m.start m.heard.piece (row_now m) answer call (due.1 (bounded m.row m.heard counts)) in
    let no_farther = due.0 in
    omega arith

due_call : (input late : Bool) (due : NeedData) → is_call (in_time input late due) ≡ true → is_call due ≡ true
due_call input late (needs.File call) is = refl
due_call input late (needs.Take port) is = is
due_call input late (needs.Give port bytes) is = is
due_call input late (needs.Start child) is = is
due_call input late (needs.Command bytes) is = is
due_call input late needs.Wait is = is
due_call input late (needs.Ended status) is = is

pub nearer_when_due : (m : Machine) (answer : Answer) → Counts m.row m.heard → is_call (due_now m) ≡ true → ahead_by (goes_to (row_now m) answer) < ahead_of m
nearer_when_due m answer counts call = nearer m answer counts (due_call (has_input m.ready) (late_now m) (call_now m) call)

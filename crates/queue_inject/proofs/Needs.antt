-- What an injector needs is what its table says, and where an answer leads it.
use Rattle.std.proofs.Common.{◌≡◌, ℕ, ◌+◌, ◌-◌, ◌≤◌, min, List, [], ◌∷◌, ◌++◌, length, take, drop, Some, Bool, true, false, refl, sym, ap, ◌∙◌, subst, arith, length-drop, drop_of_length-le}
use Rattle.std.specs.Prelude.{IsTrue, nat_lt}
use Rattle.std.proofs.lemmas.Bool.{lt-ltb, ltb-true}
use Rattle.call_fs.specs.declared.calls.Answer.{Answer}
use Rattle.call_fs.specs.declared.calls.Told.{Told}
use Rattle.call_fs.specs.declared.past.GotData.TheVariants.{Answered}
use Rattle.call_fs.specs.declared.calls.Answer.TheVariants.{Created, Done, Refused}
use Rattle.call_fs.specs.declared.calls.FsError.TheVariants.{NotThere, Exists}
use Rattle.call_fs.specs.declared.calls.CallData.TheVariants as call
use Rattle.call_fs.specs.declared.program.Ready.{Ready}
use Rattle.call_fs.specs.declared.past.NeedData.{NeedData}
use Rattle.call_fs.specs.declared.past.NeedData.TheVariants as needs
use Rattle.call_fs.specs.declared.past.Own.{Own}
use Rattle.envelope_records.specs.Envelope.{todo_head}
use Rattle.queue_inject.specs.declared.injection.Arguments.{Arguments}
use Rattle.queue_inject.specs.declared.injection.Part.{Part}
use Rattle.queue_inject.specs.declared.injection.Part.TheVariants.{Message, Envelope}
use Rattle.queue_inject.specs.declared.intake.Verdict.{Verdict}
use Rattle.queue_inject.specs.declared.intake.Verdict.TheVariants as verdict
use Rattle.queue_inject.specs.declared.row.Row.{Row}
use Rattle.queue_inject.specs.declared.row.Row.TheVariants as at
use Rattle.queue_inject.specs.Texts.{Text, limit, message_text, intd_text}
use Rattle.queue_inject.specs.Table.{work_of, piece_size, goes_to, past_bytes, place_after, after_came, call_at, due_by, has_input, is_late, in_time, Next}
use Rattle.queue_inject.specs.Machine.{Heard, Machine, asks_by, room_by, room_of, is_call, row_now, late_now, call_now, due_now, new_todo, heard_after, gone_on}
use Rattle.queue_inject.specs.Rows.{is_open, part_in, has_piece, past_text, row_by}
use Rattle.queue_inject.specs.inside.Fields.{IsInStep}
use Rattle.queue_inject.specs.Stands.{IsNext, message_read, HearsMessage, taken, HearsTodo, Hears, Stands}
use Rattle.queue_inject.proofs.Feeding.{open_at}
use Rattle.queue_inject.proofs.Kept.{message_next, todo_next, todo_begun}
use Rattle.queue_inject.proofs.Pieces.{either, past_by, past_text_by, row_is, piece_is}

-- A text that goes on has a full piece

-- nothing more may be fed of a part that is within the limit: its piece is full
full_by : (len fed : ℕ) → len ≤ piece_size → fed ≤ limit → min (piece_size - len) ((limit + 1) - fed) ≡ 0 → len ≡ piece_size
full_by len fed short within none = omega arith

message_within : (v : Verdict) (h : Heard) (args : Arguments) (done : ℕ) → HearsMessage v h args done → v ≡ verdict.Open → h.fed ≤ limit
message_within verdict.Open h args done m e = m.within
message_within verdict.Whole h args done m e = absurd (cc)
message_within (verdict.Faulty status) h args done m e = absurd (cc)

todo_within : (v : Verdict) (h : Heard) (args : Arguments) (done : ℕ) → HearsTodo v h args done → h.verdict ≡ v → v ≡ verdict.Open → h.fed ≤ limit
todo_within verdict.Open h args done r is e =
    let read = r.read in
    let o = open_at limit (take h.fed args.envelope) (sym read.verdict_is ∙ is) in
    let fed = read.fed in
    let within = o.within in
    omega arith
todo_within verdict.Whole h args done r is e = absurd (cc)
todo_within (verdict.Faulty status) h args done r is e = absurd (cc)

full_at : (h : Heard) (row : Row) (part : Part) → part_in row ≡ Some part → room_by (asks_by (is_open h.verdict) row) h ≡ 0 → length h.piece ≤ piece_size
    → (h.verdict ≡ verdict.Open → h.fed ≤ limit) → h.verdict ≡ verdict.Open → length h.piece ≡ piece_size
full_at h row part of none short within going =
    let asked : asks_by (is_open h.verdict) row ≡ Some part = ap (λ v. asks_by (is_open v) row) going ∙ of in
    full_by (length h.piece) h.fed short (within going) (ap (λ p. room_by p h) (sym asked) ∙ none)

-- The row, and its call

-- the row is the table's, and so are the bytes that its append writes
pub record IsRow (h : Heard) (args : Arguments) (row : Row) : Type 0 where
  pub row_is : row_by h.verdict (length h.piece) row ≡ past_bytes (work_of args) row
  pub call_is : call_at args.pid args.start h.piece (past_bytes (work_of args) row) ≡ due_by args (past_bytes (work_of args) row)

-- what is known of a text, and that a piece of one that goes on is full
record IsKnown (h : Heard) (text : Text) (done : ℕ) : Type 0 where
  next : IsNext h.verdict h.piece text done
  full : h.verdict ≡ verdict.Open → length h.piece ≡ piece_size
  short : length h.piece ≤ piece_size

in_message_is : (h : Heard) (args : Arguments) (n fd done : ℕ) → IsKnown h (message_text args) done → IsRow h args (at.AppendMess n (record { 0 = fd }) done)
in_message_is h args n fd done k =
    let text : Text = message_text args in
    let more : Row = at.AppendMess n (record { 0 = fd }) done in
    let end : Row = at.SyncMess n (record { 0 = fd }) in
    let bad : ℕ → Row = λ status. at.CleanMess n status in
    record {
      row_is = sym (row_is h.verdict h.piece text done more end bad k.next k.full);
      call_is = past_by (λ r. call_at args.pid args.start h.piece r ≡ due_by args r) text.bytes text.fault done more end bad
          (ap (λ p. needs.File (call.Append (record { 0 = fd }) p)) (sym (piece_is h.verdict h.piece text done k.next k.full k.short))) refl (λ status. refl);
    }

in_todo_is : (h : Heard) (args : Arguments) (n fd done : ℕ) → IsKnown h (intd_text args) done → IsRow h args (at.AppendTodo n (record { 0 = fd }) done)
in_todo_is h args n fd done k =
    let text : Text = intd_text args in
    let more : Row = at.AppendTodo n (record { 0 = fd }) done in
    let end : Row = at.SyncTodo n (record { 0 = fd }) in
    let bad : ℕ → Row = λ status. at.CleanIntd n status in
    record {
      row_is = sym (row_is h.verdict h.piece text done more end bad k.next k.full);
      call_is = past_by (λ r. call_at args.pid args.start h.piece r ≡ due_by args r) text.bytes text.fault done more end bad
          (ap (λ p. needs.File (call.Append (record { 0 = fd }) p)) (sym (piece_is h.verdict h.piece text done k.next k.full k.short))) refl (λ status. refl);
    }

message_known : (h : Heard) (args : Arguments) (n done : ℕ) (fd : ℕ) → HearsMessage h.verdict h args done → room_by (asks_by (is_open h.verdict) (at.AppendMess n (record { 0 = fd }) done)) h ≡ 0
    → length h.piece ≤ piece_size → IsKnown h (message_text args) done
message_known h args n done fd m none short = record {
  next = message_next h.verdict h args done m;
  full = full_at h (at.AppendMess n (record { 0 = fd }) done) Message refl none short (message_within h.verdict h args done m);
  short = short;
}

todo_known : (h : Heard) (args : Arguments) (n done : ℕ) (fd : ℕ) → HearsTodo h.verdict h args done → room_by (asks_by (is_open h.verdict) (at.AppendTodo n (record { 0 = fd }) done)) h ≡ 0
    → length h.piece ≤ piece_size → IsKnown h (intd_text args) done
todo_known h args n done fd r none short = record {
  next = todo_next h.verdict h args done r;
  full = full_at h (at.AppendTodo n (record { 0 = fd }) done) Envelope refl none short (todo_within h.verdict h args done r refl);
  short = short;
}

pub row_at : (h : Heard) (args : Arguments) (row : Row) → Hears row h args → room_by (asks_by (is_open h.verdict) row) h ≡ 0 → length h.piece ≤ piece_size → IsRow h args row
row_at h args (at.AppendMess n fd done) m none short = in_message_is h args n fd.0 done (message_known h args n done fd.0 m none short)
row_at h args (at.AppendTodo n fd done) r none short = in_todo_is h args n fd.0 done (todo_known h args n done fd.0 r none short)
row_at h args _ here none short = record { row_is = refl; call_is = refl }

-- What is due

-- it makes no call while its input isn't ready
idle : (late : Bool) (a b : NeedData) → is_call a ≡ true → is_call b ≡ true → in_time false late a ≡ in_time false late b
idle late (needs.File c) (needs.File d) x y = refl
idle late (needs.File c) (needs.Take port) x y = absurd (cc)
idle late (needs.File c) (needs.Give port bytes) x y = absurd (cc)
idle late (needs.File c) (needs.Start child) x y = absurd (cc)
idle late (needs.File c) (needs.Command bytes) x y = absurd (cc)
idle late (needs.File c) needs.Wait x y = absurd (cc)
idle late (needs.File c) (needs.Ended status) x y = absurd (cc)
idle late _ b x y = absurd (cc)

unready_at : (h : Heard) (args : Arguments) (late : Bool) (row : Row)
    → in_time false late (call_at args.pid args.start h.piece (row_by h.verdict (length h.piece) row)) ≡ in_time false late (due_by args (past_bytes (work_of args) row))
unready_at h args late (at.AppendMess n fd done) = idle late _ _
    (either (λ r. is_call (call_at args.pid args.start h.piece r) ≡ true) (has_piece h.verdict (length h.piece)) (at.AppendMess n fd done) (past_text h.verdict (at.SyncMess n fd) (λ status. at.CleanMess n status)) refl
    (past_text_by (λ r. is_call (call_at args.pid args.start h.piece r) ≡ true) h.verdict (at.SyncMess n fd) (λ status. at.CleanMess n status) refl (λ status. refl)))
    (past_by (λ r. is_call (due_by args r) ≡ true) (message_text args).bytes (message_text args).fault done (at.AppendMess n fd done) (at.SyncMess n fd) (λ status. at.CleanMess n status) refl refl (λ status. refl))
unready_at h args late (at.AppendTodo n fd done) = idle late _ _
    (either (λ r. is_call (call_at args.pid args.start h.piece r) ≡ true) (has_piece h.verdict (length h.piece)) (at.AppendTodo n fd done) (past_text h.verdict (at.SyncTodo n fd) (λ status. at.CleanIntd n status)) refl
    (past_text_by (λ r. is_call (call_at args.pid args.start h.piece r) ≡ true) h.verdict (at.SyncTodo n fd) (λ status. at.CleanIntd n status) refl (λ status. refl)))
    (past_by (λ r. is_call (due_by args r) ≡ true) (intd_text args).bytes (intd_text args).fault done (at.AppendTodo n fd done) (at.SyncTodo n fd) (λ status. at.CleanIntd n status) refl refl (λ status. refl))
unready_at h args late _ = refl

by_input : (input late : Bool) (m : Machine) (args : Arguments) → Hears m.row m.heard args → (input ≡ true → room_of m ≡ 0) → length m.heard.piece ≤ piece_size
    → in_time input late (call_at args.pid args.start m.heard.piece (row_now m)) ≡ in_time input late (due_by args (past_bytes (work_of args) m.row))
by_input true late m args hears given short =
    let is = row_at m.heard args m.row hears (given refl) short in
    ap (λ r. in_time true late (call_at args.pid args.start m.heard.piece r)) is.row_is ∙ ap (in_time true late) is.call_is
by_input false late m args hears given short = unready_at m.heard args late m.row

pub due_stands : (m : Machine) (args : Arguments) (past : List Own) → IsInStep m → Stands m args past → due_now m ≡ Next args past m.present m.ready
due_stands m args past k s =
    let pid = s.pid in
    let start = s.start in
    (λ i. in_time (has_input m.ready) (nat_lt (start i + 86400) m.present) (call_at (pid i) (start i) m.heard.piece (row_now m)))
    ∙ by_input (has_input m.ready) (is_late args m.present) m args s.hears k.given k.short
    ∙ ap (λ r. in_time (has_input m.ready) (is_late args m.present) (due_by args r)) (sym s.row)

-- it makes a call only if its input is ready
pub call_ready : (input late : Bool) (due : NeedData) → is_call (in_time input late due) ≡ true → input ≡ true
call_ready true late due e = refl
call_ready false late (needs.File call) e = absurd (cc)
call_ready false late (needs.Ended status) e = absurd (cc)
call_ready false late (needs.Take port) e = absurd (cc)
call_ready false late (needs.Give port bytes) e = absurd (cc)
call_ready false late (needs.Start child) e = absurd (cc)
call_ready false late (needs.Command bytes) e = absurd (cc)
call_ready false late needs.Wait e = absurd (cc)

-- After an answer

-- a written piece is gone
gone : (bytes piece : List ℕ) (done : ℕ) → drop done bytes ≡ piece → length piece ≤ piece_size → drop (done + piece_size) bytes ≡ []
gone bytes piece done e short =
    let len = length-drop done bytes in
    let same = ap length e in
    drop_of_length-le bytes (omega arith)

message_gone : (v : Verdict) (h : Heard) (args : Arguments) (done : ℕ) → HearsMessage v h args done → (v ≡ verdict.Open → length h.piece ≡ piece_size) → length h.piece ≤ piece_size
    → HearsMessage v (record h { piece = [] }) args (done + piece_size)
message_gone verdict.Open h args done m full short =
    let read : List ℕ = message_read args h.fed in
    let size = full refl in
    let len = length-drop done read in
    let same = ap length m.piece in
    record { inside = m.inside; within = m.within; written = omega arith; piece = sym (gone read h.piece done (sym m.piece) short) }
message_gone verdict.Whole h args done (next, none) full short = (gone (message_text args).bytes h.piece done next short, none)
message_gone (verdict.Faulty status) h args done (next, some) full short = (gone (message_text args).bytes h.piece done next short, some)

todo_gone : (v : Verdict) (h : Heard) (args : Arguments) (done : ℕ) → HearsTodo v h args done → (v ≡ verdict.Open → length h.piece ≡ piece_size) → length h.piece ≤ piece_size
    → HearsTodo v (record h { piece = [] }) args (done + piece_size)
todo_gone verdict.Open h args done r full short =
    let known : List ℕ = todo_head args.uid args.pid ++ taken (take h.fed args.envelope) in
    let read = r.read in
    let size = full refl in
    let len = length-drop done known in
    let same = ap length read.piece in
    record {
      inside = r.inside;
      read = record {
        fed = read.fed;
        verdict_is = read.verdict_is;
        written = omega arith;
        piece = sym (gone known h.piece done (sym read.piece) short);
        reader = read.reader;
      };
    }
todo_gone verdict.Whole h args done (next, none) full short = (gone (intd_text args).bytes h.piece done next short, none)
todo_gone (verdict.Faulty status) h args done (next, some) full short = (gone (intd_text args).bytes h.piece done next short, some)

-- what is held at a row whose call is made, for the row to which its answer leads
abbrev HasNext : Row → Machine → Arguments → Type 0
HasNext (at.Create seq) m args = HearsMessage m.heard.verdict m.heard args 0
HasNext (at.LinkMess seq n fd) m args = HearsMessage m.heard.verdict m.heard args 0
HasNext (at.UnlinkPid seq n fd) m args = HearsMessage m.heard.verdict m.heard args 0
HasNext (at.AppendMess n fd done) m args = HearsMessage m.heard.verdict (record m.heard { piece = [] }) args (done + piece_size)
HasNext (at.CreateIntd n) m args = HearsTodo verdict.Open (new_todo m.uid m.pid) args 0
HasNext (at.AppendTodo n fd done) m args = HearsTodo m.heard.verdict (record m.heard { piece = [] }) args (done + piece_size)
HasNext row m args = Unit {0}

hears_next : (row : Row) (m : Machine) (args : Arguments) (answer : Answer) → HasNext row m args → Hears (goes_to row answer) (heard_after row m.uid m.pid m.heard) args
hears_next (at.Create seq) m args (Created fd n) here = here
hears_next (at.Create seq) m args (Refused Exists) here = either (λ r. Hears r m.heard args) (nat_lt seq 9) (at.Create (seq + 1)) (at.Failed 63) here tt
hears_next (at.Create seq) m args _ here = tt
hears_next (at.LinkMess seq n fd) m args Done here = here
hears_next (at.LinkMess seq n fd) m args _ here = tt
hears_next (at.UnlinkPid seq n fd) m args Done here = here
hears_next (at.UnlinkPid seq n fd) m args _ here = tt
hears_next (at.AppendMess n fd done) m args Done here = here
hears_next (at.AppendMess n fd done) m args _ here = tt
hears_next (at.SyncMess n fd) m args Done here = tt
hears_next (at.SyncMess n fd) m args _ here = tt
hears_next (at.CreateIntd n) m args (Created fd i) here = here
hears_next (at.CreateIntd n) m args _ here = tt
hears_next (at.AppendTodo n fd done) m args Done here = here
hears_next (at.AppendTodo n fd done) m args _ here = tt
hears_next (at.SyncTodo n fd) m args Done here = tt
hears_next (at.SyncTodo n fd) m args _ here = tt
hears_next (at.LinkTodo n) m args Done here = tt
hears_next (at.LinkTodo n) m args _ here = tt
hears_next (at.CleanIntd n status) m args Done here = tt
hears_next (at.CleanIntd n status) m args (Refused NotThere) here = tt
hears_next (at.CleanIntd n status) m args _ here = tt
hears_next (at.CleanMess n status) m args _ here = tt
hears_next at.Queued m args _ here = tt
hears_next (at.Failed status) m args _ here = tt

next_at : (m : Machine) (args : Arguments) (row : Row) → m.uid ≡ args.uid → m.pid ≡ args.pid → Hears row m.heard args → room_by (asks_by (is_open m.heard.verdict) row) m.heard ≡ 0
    → length m.heard.piece ≤ piece_size → HasNext (row_by m.heard.verdict (length m.heard.piece) row) m args
next_at m args (at.Create seq) uid pid here none short = here
next_at m args (at.LinkMess seq n fd) uid pid here none short = here
next_at m args (at.UnlinkPid seq n fd) uid pid here none short = here
next_at m args (at.AppendMess n fd done) uid pid here none short =
    let h : Heard = m.heard in
    either (λ r. HasNext r m args) (has_piece h.verdict (length h.piece)) (at.AppendMess n fd done) (past_text h.verdict (at.SyncMess n fd) (λ status. at.CleanMess n status))
    (message_gone h.verdict h args done here (message_known h args n done fd.0 here none short).full short)
    (past_text_by (λ r. HasNext r m args) h.verdict (at.SyncMess n fd) (λ status. at.CleanMess n status) tt (λ status. tt))
next_at m args (at.CreateIntd n) uid pid here none short =
    subst (λ u. HearsTodo verdict.Open (new_todo u m.pid) args 0) (sym uid) (subst (λ p. HearsTodo verdict.Open (new_todo args.uid p) args 0) (sym pid) (todo_begun args))
next_at m args (at.AppendTodo n fd done) uid pid here none short =
    let h : Heard = m.heard in
    either (λ r. HasNext r m args) (has_piece h.verdict (length h.piece)) (at.AppendTodo n fd done) (past_text h.verdict (at.SyncTodo n fd) (λ status. at.CleanIntd n status))
    (todo_gone h.verdict h args done here (todo_known h args n done fd.0 here none short).full short)
    (past_text_by (λ r. HasNext r m args) h.verdict (at.SyncTodo n fd) (λ status. at.CleanIntd n status) tt (λ status. tt))
next_at m args _ uid pid here none short = tt

pub stands_answered : (m : Machine) (args : Arguments) (past : List Own) (event : Own) (told : Told) → IsInStep m → Stands m args past → is_call (due_now m) ≡ true
    → event.came ≡ Answered told → Stands (gone_on m told.answer) args (event ∷ past)
stands_answered m args past event told k s due came =
    let none : room_of m ≡ 0 = k.given (call_ready (has_input m.ready) (late_now m) (call_now m) due) in
    let is = row_at m.heard args m.row s.hears none k.short in
    record {
      uid = s.uid;
      pid = s.pid;
      start = s.start;
      hears = hears_next (row_now m) m args told.answer (next_at m args m.row s.uid s.pid s.hears none k.short);
      row = ap (λ d. after_came args (place_after args past) d) came
          ∙ ap (λ r. past_bytes (work_of args) (goes_to r told.answer)) (s.row ∙ sym is.row_is);
    }

-- an injector that has ended stays so

at_end : (input late : Bool) (status : ℕ) → in_time input late (needs.Ended status) ≡ needs.Ended status
at_end true true status = refl
at_end true false status = refl
at_end false late status = refl

pub ended_by_row : (input late : Bool) (due : NeedData) (status : ℕ) → due ≡ needs.Ended status → in_time input late due ≡ needs.Ended status
ended_by_row input late due status e = ap (in_time input late) e ∙ at_end input late status

ended_goes_on : (was is late later : Bool) (due : NeedData) (status : ℕ) → in_time was late due ≡ needs.Ended status → (IsTrue was → IsTrue is) → (late ≡ true → later ≡ true)
    → in_time is later due ≡ needs.Ended status
ended_goes_on true is true later (needs.File c) status e more on =
    ap (λ i. in_time i later (needs.File c)) (more refl) ∙ ap (λ l. in_time true l (needs.File c)) (on refl) ∙ e
ended_goes_on true is false later (needs.File c) status e more on = absurd (cc)
ended_goes_on false is late later (needs.File c) status e more on = absurd (cc)
ended_goes_on was is late later (needs.Ended last) status e more on = at_end is later last ∙ sym (at_end was late last) ∙ e
ended_goes_on was is late later due status e more on = e

later_too : (start now next : ℕ) → now ≤ next → nat_lt start now ≡ true → nat_lt start next ≡ true
later_too start now next order late = let w = ltb-true start now late in lt-ltb start next (omega arith)

pub ended_stays : (m : Machine) (now : ℕ) (ready : Ready) (status : ℕ) → due_now m ≡ needs.Ended status → m.present ≤ now → (IsTrue (has_input m.ready) → IsTrue (has_input ready))
    → due_now (record m { present = now; ready = ready }) ≡ needs.Ended status
ended_stays m now ready status e order more =
    ended_goes_on (has_input m.ready) (has_input ready) (late_now m) (nat_lt (m.start + 86400) now) (call_now m) status e more
    (later_too (m.start + 86400) m.present now order)

-- The return of a message, and which events make finishes fail there.
use Rattle.std.proofs.Common.{◌≡◌, ℕ, List, length, nat_lt, Bool, true, false, not, if◌then◌else◌, Option, Some, None, refl, sym, ap, ◌∙◌}
use Rattle.std.specs.Prelude.{◌&&◌, ◌==◌}
use Rattle.address_rules.specs.declared.controls.Controls.{Controls}
use Rattle.bounce_record.specs.Returning.{Returning, goes, made, message_read, notes_read, due_at as return_due_at, moved_at as return_moved_at, answered, awaited_row, bounce_at, given_row, message_opened, notes_opened, started_row, unlinked_row}
use Rattle.bounce_record.specs.declared.bounces.Bounce.{Bounce}
use Rattle.bounce_record.specs.declared.return_row.ReturnRow.TheVariants as back
use Rattle.bounce_record.specs.declared.return_row.ReturnRow.{ReturnRow}
use Rattle.call_fs.specs.Columns.{IsAnswerTo}
use Rattle.call_fs.specs.Program.{MayCome}
use Rattle.call_fs.specs.declared.calls.Answer.TheVariants as answer
use Rattle.call_fs.specs.declared.calls.Answer.{Answer}
use Rattle.call_fs.specs.declared.calls.CallData.TheVariants as call
use Rattle.call_fs.specs.declared.calls.Fd.{Fd}
use Rattle.call_fs.specs.declared.calls.FsError.TheVariants as why
use Rattle.call_fs.specs.declared.calls.Told.{Told}
use Rattle.call_fs.specs.declared.file_system.TheConstants.{PIECE}
use Rattle.call_fs.specs.declared.past.GotData.TheVariants as came
use Rattle.call_fs.specs.declared.past.GotData.{GotData}
use Rattle.call_fs.specs.declared.past.NeedData.{NeedData}
use Rattle.queue_paths.proofs.Paths.{parse-path}
use Rattle.queue_paths.specs.Names.Name.{Of as NameOf}
use Rattle.queue_paths.specs.Names.Part.{Bounce as BounceFile, Info as InfoFile, Mess as MessFile}
use Rattle.queue_paths.specs.Names.{Name, path, parse}
use Rattle.send_core.specs.Finish.{returned_to}
use Rattle.send_parts.specs.Finish.{finish_to}
use Rattle.send_parts.specs.Replies.{answered as replied}
use Rattle.send_parts.specs.declared.reply.Way.TheVariants as way
use Rattle.send_parts.specs.declared.reply.Way.{Way}
use Rattle.send_parts.specs.declared.rows.FinishRow.TheVariants as finish
use Rattle.send_parts.specs.declared.rows.FinishRow.{FinishRow}
use Rattle.send_runs.specs.FinishMoments.{fails_by, is_message, is_misread, isnt_counted, isnt_given, isnt_opened, isnt_queued, isnt_started, isnt_unlinked, opened_for, returning_by}

-- The return of a message is of that message

returning_goes : (r : Returning) (row : ReturnRow) → (goes r row).n ≡ r.n
returning_goes r back.Over = refl
returning_goes r back.Failed = refl
returning_goes r row = refl

notes_n : (r : Returning) (fd : Fd) (told : Answer) (bytes : List ℕ) → (notes_read r fd told bytes).n ≡ r.n
notes_n r fd (answer.Count count) bytes = refl
notes_n r fd told bytes = refl

message_n : (r : Returning) (fd : Fd) (told : Answer) (bytes : List ℕ) → (message_read r fd told bytes).n ≡ r.n
message_n r fd (answer.Count count) bytes = refl
message_n r fd told bytes = refl

made_n : (r : Returning) (o : Option Bounce) → (made r o).n ≡ r.n
made_n r None = refl
made_n r (Some b) = refl

module _ (c : Controls) (sender : List ℕ) (r : Returning) (now : ℕ) where
  answered_n : (row : ReturnRow) (told : Answer) (bytes : List ℕ) → (answered c sender row r now told bytes).n ≡ r.n
  answered_n back.Open told bytes = returning_goes r (notes_opened told)
  answered_n (back.ReadNotes fd) told bytes = notes_n r fd told bytes
  answered_n (back.CloseNotes fd) told bytes = refl
  answered_n back.OpenMessage told bytes = returning_goes r (message_opened told)
  answered_n (back.ReadMessage fd) told bytes = message_n r fd told bytes
  answered_n (back.CloseMessage fd) told bytes = made_n r (bounce_at c sender r now)
  answered_n (back.Shut fd) told bytes = refl
  answered_n back.Unlink told bytes = returning_goes r (unlinked_row told)
  answered_n back.Discard told bytes = returning_goes r (unlinked_row told)
  answered_n row told bytes = refl

  pub returned_n : (row : ReturnRow) (got : GotData) → (return_moved_at c sender row r now got).n ≡ r.n
  returned_n back.Start got = returning_goes r (started_row got)
  returned_n (back.Give pid) got = returning_goes r (given_row pid got)
  returned_n (back.Await pid) got = returning_goes r (awaited_row got)
  returned_n row (came.Answered told) = answered_n row told.answer told.bytes
  returned_n row got = refl

-- What came before: a read that failed, where its file is closed after that, and none where it was read
abbrev pub ShutAt : ReturnRow → Bool → Type 0
ShutAt (back.Shut fd) misread = misread ≡ true
ShutAt (back.CloseNotes fd) misread = misread ≡ false
ShutAt (back.CloseMessage fd) misread = misread ≡ false
ShutAt row misread = Unit {0}

shut_goes : (r : Returning) (row : ReturnRow) (misread : Bool) → ShutAt row misread → ShutAt (goes r row).row misread
shut_goes r back.Over misread h = tt
shut_goes r back.Failed misread h = tt
shut_goes r row misread h = h

shut_if : (b : Bool) (x y : ReturnRow) (misread : Bool) → ShutAt x misread → ShutAt y misread → ShutAt (if b then x else y) misread
shut_if true x y misread p q = p
shut_if false x y misread p q = q

shut_notes : (r : Returning) (fd : Fd) (told : Answer) (bytes : List ℕ) → ShutAt (notes_read r fd told bytes).row (isnt_counted told)
shut_notes r fd (answer.Count count) bytes = shut_if (nat_lt (length bytes) PIECE) (back.CloseNotes fd) (back.ReadNotes fd) false refl tt
shut_notes r fd told bytes = refl

shut_message : (r : Returning) (fd : Fd) (told : Answer) (bytes : List ℕ) → ShutAt (message_read r fd told bytes).row (isnt_counted told)
shut_message r fd (answer.Count count) bytes = shut_if (nat_lt (length bytes) PIECE) (back.CloseMessage fd) (back.ReadMessage fd) false refl tt
shut_message r fd told bytes = refl

shut_notes_opened : (told : Answer) (misread : Bool) → ShutAt (notes_opened told) misread
shut_notes_opened (answer.Opened fd) misread = tt
shut_notes_opened (answer.Refused why.NotThere) misread = tt
shut_notes_opened told misread = tt

shut_message_opened : (told : Answer) (misread : Bool) → ShutAt (message_opened told) misread
shut_message_opened (answer.Opened fd) misread = tt
shut_message_opened told misread = tt

shut_unlinked : (told : Answer) (misread : Bool) → ShutAt (unlinked_row told) misread
shut_unlinked answer.Done misread = tt
shut_unlinked told misread = tt

shut_made : (r : Returning) (o : Option Bounce) (misread : Bool) → ShutAt (made r o).row misread
shut_made r None misread = tt
shut_made r (Some b) misread = tt

shut_started : (got : GotData) (misread : Bool) → ShutAt (started_row got) misread
shut_started (came.Started pid) misread = tt
shut_started got misread = tt

shut_given : (pid : ℕ) (got : GotData) (misread : Bool) → ShutAt (given_row pid got) misread
shut_given pid came.Gave misread = tt
shut_given pid got misread = tt

shut_awaited : (got : GotData) (misread : Bool) → ShutAt (awaited_row got) misread
shut_awaited (came.Ended status) misread = shut_if (status == 0) back.Unlink back.Failed misread tt tt
shut_awaited got misread = tt

module _ (c : Controls) (sender : List ℕ) (r : Returning) (now : ℕ) where
  shut_answered : (row : ReturnRow) (told : Told) → MayCome (return_due_at row r) (came.Answered told) → ShutAt (answered c sender row r now told.answer told.bytes).row (is_misread (return_due_at row r) (came.Answered told))
  shut_answered back.Open told may = shut_goes r (notes_opened told.answer) false (shut_notes_opened told.answer false)
  shut_answered (back.ReadNotes fd) told may = shut_notes r fd told.answer told.bytes
  shut_answered (back.CloseNotes fd) told may = tt
  shut_answered back.OpenMessage told may = shut_goes r (message_opened told.answer) false (shut_message_opened told.answer false)
  shut_answered (back.ReadMessage fd) told may = shut_message r fd told.answer told.bytes
  shut_answered (back.CloseMessage fd) told may = shut_made r (bounce_at c sender r now) false
  shut_answered (back.Shut fd) told may = tt
  shut_answered back.Unlink told may = shut_goes r (unlinked_row told.answer) false (shut_unlinked told.answer false)
  shut_answered back.Discard told may = shut_goes r (unlinked_row told.answer) false (shut_unlinked told.answer false)
  shut_answered row told may = absurd may

  pub shut_returned : (row : ReturnRow) (got : GotData) → MayCome (return_due_at row r) got → ShutAt (return_moved_at c sender row r now got).row (is_misread (return_due_at row r) got)
  shut_returned back.Start got may = shut_goes r (started_row got) false (shut_started got false)
  shut_returned (back.Give pid) got may = shut_goes r (given_row pid got) false (shut_given pid got false)
  shut_returned (back.Await pid) got may = shut_goes r (awaited_row got) false (shut_awaited got false)
  shut_returned row (came.Answered told) may = shut_answered row told may
  shut_returned row got may = absurd may

-- Which messages' finishes fail there

abbrev pub is_failed : ReturnRow → Bool
is_failed back.Failed = true
is_failed row = false

pub failed_goes : (r : Returning) (row : ReturnRow) → is_failed (goes r row).row ≡ is_failed row
failed_goes r back.Over = refl
failed_goes r back.Failed = refl
failed_goes r row = refl

failed_if : (b : Bool) (x y : ReturnRow) → is_failed x ≡ false → is_failed y ≡ false → is_failed (if b then x else y) ≡ false
failed_if true x y p q = p
failed_if false x y p q = q

notes_go : (r : Returning) (fd : Fd) (told : Answer) (bytes : List ℕ) → is_failed (notes_read r fd told bytes).row ≡ false
notes_go r fd (answer.Count count) bytes = failed_if (nat_lt (length bytes) PIECE) (back.CloseNotes fd) (back.ReadNotes fd) refl refl
notes_go r fd told bytes = refl

message_goes : (r : Returning) (fd : Fd) (told : Answer) (bytes : List ℕ) → is_failed (message_read r fd told bytes).row ≡ false
message_goes r fd (answer.Count count) bytes = failed_if (nat_lt (length bytes) PIECE) (back.CloseMessage fd) (back.ReadMessage fd) refl refl
message_goes r fd told bytes = refl

made_goes : (r : Returning) (o : Option Bounce) → is_failed (made r o).row ≡ false
made_goes r None = refl
made_goes r (Some b) = refl

started_fails : (got : GotData) → isnt_started got ≡ is_failed (started_row got)
started_fails (came.Started pid) = refl
started_fails got = refl

given_fails : (pid : ℕ) (got : GotData) → isnt_given got ≡ is_failed (given_row pid got)
given_fails pid came.Gave = refl
given_fails pid got = refl

awaited_fails : (got : GotData) → isnt_queued got ≡ is_failed (awaited_row got)
awaited_fails (came.Ended status) = by (status == 0) where
  by : (b : Bool) → not b ≡ is_failed (if b then back.Unlink else back.Failed)
  by true = refl
  by false = refl
awaited_fails got = refl

-- of a message, by the one whose return is under way
module _ (k : ℕ) (f : Option ℕ) (searched misread : Bool) where
  abbrev Fails : NeedData → GotData → Bool
  Fails due got = fails_by k f searched misread due got

  notes_fail : (m : ℕ) (told : Answer) → isnt_opened k (Some (NameOf BounceFile m)) told ≡ (is_failed (notes_opened told) && (m == k))
  notes_fail m (answer.Opened fd) = refl
  notes_fail m (answer.Refused why.NotThere) = refl
  notes_fail m told = refl

  message_fails : (m : ℕ) (told : Answer) → isnt_opened k (Some (NameOf MessFile m)) told ≡ (is_failed (message_opened told) && (m == k))
  message_fails m (answer.Opened fd) = refl
  message_fails m told = refl

  bounce_fails : (m : ℕ) (told : Answer) → isnt_unlinked searched k (Some (NameOf BounceFile m)) told ≡ (is_failed (unlinked_row told) && (m == k))
  bounce_fails m answer.Done = refl
  bounce_fails m told = refl

  module _ (c : Controls) (sender : List ℕ) (r : Returning) (now : ℕ) (same : f ≡ Some r.n) where
    of_it : is_message k f ≡ (r.n == k)
    of_it = ap (is_message k) same

    -- of just the message that the row belongs to, if what came leads to a failure
    abbrev Just : Bool → ReturnRow → Type 0
    Just fails row = fails ≡ (is_failed row && (r.n == k))

    goes_just : (fails : Bool) (row : ReturnRow) → Just fails row → Just fails (goes r row).row
    goes_just fails row e = e ∙ ap (λ (b : Bool). b && (r.n == k)) (sym (failed_goes r row))

    none_just : (fails : Bool) (row : ReturnRow) → fails ≡ false → is_failed row ≡ false → Just fails row
    none_just fails row e none = e ∙ sym (ap (λ (b : Bool). b && (r.n == k)) none)

    unlink_just : (told : Answer) → Just (isnt_unlinked searched k (parse (path (NameOf BounceFile r.n))) told) (goes r (unlinked_row told)).row
    unlink_just told = goes_just (isnt_unlinked searched k (parse (path (NameOf BounceFile r.n))) told) (unlinked_row told)
        (ap (λ (o : Option Name). isnt_unlinked searched k o told) (parse-path (NameOf BounceFile r.n)) ∙ bounce_fails r.n told)

    call_just : (row : ReturnRow) (told : Told) → MayCome (return_due_at row r) (came.Answered told) → ShutAt row misread
        → Just (Fails (return_due_at row r) (came.Answered told)) (answered c sender row r now told.answer told.bytes).row
    call_just back.Open told may shut = goes_just (isnt_opened k (parse (path (NameOf BounceFile r.n))) told.answer) (notes_opened told.answer)
        (ap (λ (o : Option Name). isnt_opened k o told.answer) (parse-path (NameOf BounceFile r.n)) ∙ notes_fail r.n told.answer)
    call_just (back.ReadNotes fd) told may shut = none_just false (notes_read r fd told.answer told.bytes).row refl (notes_go r fd told.answer told.bytes)
    call_just (back.CloseNotes fd) told may shut = ap (λ (b : Bool). b && is_message k f) shut
    call_just back.OpenMessage told may shut = goes_just (isnt_opened k (parse (path (NameOf MessFile r.n))) told.answer) (message_opened told.answer)
        (ap (λ (o : Option Name). isnt_opened k o told.answer) (parse-path (NameOf MessFile r.n)) ∙ message_fails r.n told.answer)
    call_just (back.ReadMessage fd) told may shut = none_just false (message_read r fd told.answer told.bytes).row refl (message_goes r fd told.answer told.bytes)
    call_just (back.CloseMessage fd) told may shut =
        none_just (misread && is_message k f) (made r (bounce_at c sender r now)).row (ap (λ (b : Bool). b && is_message k f) shut) (made_goes r (bounce_at c sender r now))
    call_just (back.Shut fd) told may shut = ap (λ (b : Bool). b && is_message k f) shut ∙ of_it
    call_just back.Unlink told may shut = unlink_just told.answer
    call_just back.Discard told may shut = unlink_just told.answer
    call_just row told may shut = absurd may

    at_work : (fails : Bool) (row : ReturnRow) → fails ≡ is_failed row → Just (fails && is_message k f) (goes r row).row
    at_work fails row e = goes_just (fails && is_message k f) row (ap (λ (b : Bool). b && is_message k f) e ∙ ap (λ (b : Bool). is_failed row && b) of_it)

    pub return_just : (row : ReturnRow) (got : GotData) → MayCome (return_due_at row r) got → ShutAt row misread → Just (Fails (return_due_at row r) got) (return_moved_at c sender row r now got).row
    return_just back.Start got may shut = at_work (isnt_started got) (started_row got) (started_fails got)
    return_just (back.Give pid) got may shut = at_work (isnt_given got) (given_row pid got) (given_fails pid got)
    return_just (back.Await pid) got may shut = at_work (isnt_queued got) (awaited_row got) (awaited_fails got)
    return_just row (came.Answered told) may shut = call_just row told may shut
    return_just row got may shut = absurd may

-- the return that goes on is still of its message
pub returning_on : (n : ℕ) (f : Option ℕ) (r : Returning) → r.n ≡ n → (row : ReturnRow) (got : GotData) → MayCome (return_due_at row r) got → f ≡ Some n → returning_by f (return_due_at row r) ≡ Some n
returning_on n f r same back.Open got may e = ap opened_for (parse-path (NameOf BounceFile r.n)) ∙ ap (λ (k : ℕ). Some k) same
returning_on n f r same back.OpenMessage got may e = ap opened_for (parse-path (NameOf MessFile r.n)) ∙ ap (λ (k : ℕ). Some k) same
returning_on n f r same back.Over got may e = absurd may
returning_on n f r same back.Failed got may e = absurd may
returning_on n f r same row got may e = e

-- the open of the bounce file, with which a finish begins
pub open_just : (k n : ℕ) (f : Option ℕ) (searched misread : Bool) (told : Answer) → isnt_opened k (parse (path (NameOf BounceFile n))) told ≡ (is_failed (notes_opened told) && (n == k))
open_just k n f searched misread told = ap (λ (o : Option Name). isnt_opened k o told) (parse-path (NameOf BounceFile n)) ∙ notes_fail k f searched misread n told

-- A finish is put off

abbrev pub is_later : FinishRow → Bool
is_later finish.Later = true
is_later row = false

pub later_is : (row : ReturnRow) → is_later (returned_to row) ≡ is_failed row
later_is back.Over = refl
later_is back.Failed = refl
later_is row = refl

pub info_just : (k n : ℕ) (searched : Bool) (told : Answer) (bytes : List ℕ) → searched ≡ false → IsAnswerTo (call.Unlink (path (NameOf InfoFile n))) told
    → isnt_unlinked searched k (parse (path (NameOf InfoFile n))) told ≡ (is_later (finish_to finish.UnlinkInfo (replied told bytes).way) && (n == k))
info_just k n searched told bytes own fit = ap (λ (o : Option Name). isnt_unlinked searched k o told) (parse-path (NameOf InfoFile n)) ∙ by told fit where
  left_there : (not searched && (n == k)) ≡ (n == k)
  left_there = ap (λ (b : Bool). not b && (n == k)) own

  by : (told : Answer) → IsAnswerTo (call.Unlink (path (NameOf InfoFile n))) told
      → isnt_unlinked searched k (Some (NameOf InfoFile n)) told ≡ (is_later (finish_to finish.UnlinkInfo (replied told bytes).way) && (n == k))
  by answer.Done fit = refl
  by (answer.Refused why.NotThere) fit = left_there
  by (answer.Refused why.Memory) fit = left_there
  by (answer.Refused why.Exists) fit = left_there
  by (answer.Refused why.Fault) fit = left_there
  by told fit = absurd fit

pub give_goes : (w : Way) → is_later (finish_to finish.Give w) ≡ false
give_goes way.Fine = refl
give_goes w = refl

pub take_goes : (w : Way) → is_later (finish_to finish.Take w) ≡ false
take_goes way.Fine = refl
take_goes w = refl

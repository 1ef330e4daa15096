-- What a return has read and given at each of its rows.
use Rattle.std.proofs.Common.{◌≡◌, ℕ, ◌+◌, ◌<◌, ◌≤◌, min, List, [], ◌∷◌, ◌++◌, length, take, drop, Bool, true, false, Option, Some, None, refl, sym, ap, ◌∙◌, subst, append_assoc, arith, length-append, drop-drop, drop_of_length-le}
use Rattle.std.specs.Prelude.{if◌then◌else◌, nat_eq, nat_lt}
use Rattle.std.specs.Option.{IsSome, option_map}
use Rattle.std.proofs.lemmas.Bool.{false≢true, eqb-true, ltb-true}
use Rattle.std.proofs.lemmas.List.{append-nil, length-take, take-append-drop}
use Rattle.std.proofs.Math.Nat.{min-le_right}
use Rattle.address_rules.specs.declared.controls.Controls.{Controls}
use Rattle.call_fs.specs.declared.calls.Answer.{Answer}
use Rattle.call_fs.specs.declared.calls.Answer.TheVariants as answer
use Rattle.call_fs.specs.declared.calls.CallData.TheVariants as call
use Rattle.call_fs.specs.declared.calls.Fd.{Fd}
use Rattle.call_fs.specs.declared.calls.FsError.TheVariants as error
use Rattle.call_fs.specs.declared.calls.How.TheVariants as how
use Rattle.call_fs.specs.declared.modes.Mode.{Mode}
use Rattle.call_fs.specs.declared.past.ChildData.TheVariants as child
use Rattle.call_fs.specs.declared.past.GotData.{GotData}
use Rattle.call_fs.specs.declared.past.GotData.TheVariants as came
use Rattle.call_fs.specs.declared.past.NeedData.TheVariants as needs
use Rattle.call_fs.specs.declared.past.Own.{Own}
use Rattle.call_fs.specs.declared.program.Port.TheVariants as port
use Rattle.call_fs.specs.Apply.{Apply, with_open, from_place, read_by}
use Rattle.call_fs.specs.Columns.{IsAnswerTo}
use Rattle.call_fs.specs.Disk.{Disk}
use Rattle.call_fs.specs.Past.{LeadsTo, Makes}
use Rattle.call_fs.specs.Program.{MayCome}
use Rattle.call_fs.proofs.Maps.{put_same}
use Rattle.bounce_record.specs.declared.bounces.Bounce.{Bounce}
use Rattle.bounce_record.specs.declared.return_row.ReturnRow.{ReturnRow}
use Rattle.bounce_record.specs.declared.return_row.ReturnRow.TheVariants as at
use Rattle.bounce_record.specs.Bounces.{bounce_of}
use Rattle.bounce_record.specs.Returning.{Returning, awaited_row, bounce_at, due_by, given_row, goes, input_of, made, message_opened, message_path, message_read, notes_opened, notes_read, due_at, moved_at, room_of, started_row, unlinked_row}
use Rattle.bounce_record.specs.Runs.{IsInjected, IsReturn, IsReturned, IsSettled, bytes_at, bytes_of, returned_after}
use Rattle.bounce_record.specs.Writing.{bounce_path}
use Rattle.call_fs.proofs.Coming.{by_fit}

-- A file that is read in pieces

-- what was read is its beginning
abbrev IsPart : List ℕ → List ℕ → Type 0
IsPart file got = got ++ drop (length got) file ≡ file

part_all : (file got : List ℕ) (count : ℕ) → IsPart file got → count ≤ length (drop (length got) file) → IsPart file (got ++ take count (drop (length got) file))
part_all file got count part within =
    let rest : List ℕ = drop (length got) file in
    let long : length (take count rest) ≡ count = length-take count rest ∙ min_is count (length rest) within in
    let all : length (got ++ take count rest) ≡ length got + count = length-append got (take count rest) ∙ ap (λ l. length got + l) long in
    ap (λ l. (got ++ take count rest) ++ drop l file) all
    ∙ append_assoc got (take count rest) (drop (length got + count) file)
    ∙ ap (λ t. got ++ (take count rest ++ t)) (sym (drop-drop count (length got) file))
    ∙ ap (λ t. got ++ t) (take-append-drop count rest)
    ∙ part
  where
    min_is : (a b : ℕ) → a ≤ b → min a b ≡ a
    min_is a b le = omega arith

-- a piece of what is left
part_more : (file got bytes : List ℕ) (count : ℕ) → IsPart file got → count ≡ min 8192 (length (drop (length got) file)) → bytes ≡ take count (drop (length got) file) → IsPart file (got ++ bytes)
part_more file got bytes count part counted is =
    subst (λ b. IsPart file (got ++ b)) (sym is) (part_all file got count part (subst (λ c. c ≤ length (drop (length got) file)) (sym counted) (min-le_right 8192 (length (drop (length got) file)))))

-- one that is shorter than was asked for is the last
part_over : (file got bytes : List ℕ) (count : ℕ) → IsPart file got → count ≡ min 8192 (length (drop (length got) file)) → bytes ≡ take count (drop (length got) file) → nat_lt (length bytes) 8192 ≡ true
    → got ++ bytes ≡ file
part_over file got bytes count part counted is short =
    let rest : List ℕ = drop (length got) file in
    let long : length bytes ≡ min count (length rest) = ap length is ∙ length-take count rest in
    let le : length rest ≤ count = within (length bytes) count (length rest) long counted (ltb-true (length bytes) 8192 short) in
    let none : drop count rest ≡ [] = drop_of_length-le rest le in
    ap (λ b. got ++ b) (is ∙ sym (append-nil (take count rest)) ∙ ap (λ t. take count rest ++ t) (sym none) ∙ take-append-drop count rest) ∙ part
  where
    within : (l c r : ℕ) → l ≡ min c r → c ≡ min 8192 r → l < 8192 → r ≤ c
    within l c r e f lt = omega arith

module _ (controls : Controls) (sender : List ℕ) (n : ℕ) (notes message : List ℕ) where
  -- what comes of the two files
  abbrev bounce : ℕ → Option Bounce
  bounce now = bounce_of controls.bounce_from controls.bounce_host controls.double_bounce_to controls.double_bounce_host sender notes message now

  -- both files are as they were
  abbrev Both : Disk → Type 0
  Both d = (bytes_at d (bounce_path n) ≡ notes) × (bytes_at d (message_path n) ≡ message)

  -- a file of these bytes is open to be read
  abbrev IsOpen : Fd → List ℕ → Disk → Type 0
  IsOpen fd bytes d = (k : ℕ) × (mode : Mode) × (d.opens fd.0 ≡ Some (record { number = k; mode = mode })) × ((d.files k).bytes ≡ bytes)

  -- the bounce that is to be injected
  abbrev IsDue : Returning → Type 0
  IsDue r = (now : ℕ) × (b : Bounce) × (bounce now ≡ Some b) × (r.input ≡ input_of b) × (r.room ≡ room_of b)

  abbrev IsStarted : List Own → Bounce → Type 0
  IsStarted past b = (started : Own) × (before : List Own) × (pid : ℕ) × (past ≡ started ∷ before) × (started.due ≡ needs.Start (child.Bounce (room_of b))) × (started.came ≡ came.Started pid)

  abbrev IsGiven : List Own → Bounce → Type 0
  IsGiven past b = (given : Own) × (before : List Own) × IsStarted before b × (past ≡ given ∷ before) × (given.due ≡ needs.Give (port.Program 0) (input_of b)) × (given.came ≡ came.Gave)

  abbrev Says : ReturnRow → Returning → List Own → Disk → Type 0
  Says at.Open r past d = (r.notes ≡ []) × (r.message ≡ []) × Both d
  Says (at.ReadNotes fd) r past d = IsOpen fd notes d × IsPart notes r.notes × (r.message ≡ []) × Both d
  Says (at.CloseNotes fd) r past d = (r.notes ≡ notes) × (r.message ≡ []) × Both d
  Says at.OpenMessage r past d = (r.notes ≡ notes) × (r.message ≡ []) × Both d
  Says (at.ReadMessage fd) r past d = (r.notes ≡ notes) × IsOpen fd message d × IsPart message r.message
  Says (at.CloseMessage fd) r past d = (r.notes ≡ notes) × (r.message ≡ message)
  Says (at.Shut fd) r past d = Unit {0}
  Says at.Start r past d = IsDue r
  Says (at.Give pid) r past d = (now : ℕ) × (b : Bounce) × (bounce now ≡ Some b) × (r.input ≡ input_of b) × IsStarted past b
  Says (at.Await pid) r past d = (now : ℕ) × (b : Bounce) × (bounce now ≡ Some b) × IsGiven past b
  Says at.Unlink r past d = (now : ℕ) × (b : Bounce) × (bounce now ≡ Some b) × IsInjected past b
  Says at.Discard r past d = (now : ℕ) × (bounce now ≡ None)
  Says at.Over r past d = Unit {0}
  Says at.Failed r past d = Unit {0}

  numbered : (o : Option ℕ) → IsSome o → (k : ℕ) × (o ≡ Some k)
  numbered (Some k) there = (k, refl)
  numbered None there = absurd (false≢true there)

  -- the file of a name that was opened
  opened_is : (d : Disk) (name bytes : List ℕ) (fd : Fd) → bytes_at d name ≡ bytes → IsSome (d.names name) → IsOpen fd bytes (with_open d name how.Read fd.0)
  opened_is d name bytes fd is there =
      let it = numbered (d.names name) there in (
        it.0,
        Mode.Opened how.Read,
        put_same d.opens fd.0 _ ∙ ap (λ o. option_map (λ k. record { number = k; mode = Mode.Opened how.Read }) o) it.1,
        sym (ap (λ o. bytes_of o d.files) it.1) ∙ is,
      )

  -- the next piece of an open file
  piece_is : (d : Disk) (fd : Fd) (file : List ℕ) (at count : ℕ) (bytes : List ℕ) (w : IsOpen fd file d) → bytes ≡ take count (from_place d (d.opens fd.0) at) → bytes ≡ take count (drop at file)
  piece_is d fd file at count bytes w is = is ∙ ap (λ o. take count (from_place d o at)) w.2 ∙ ap (λ b. take count (drop at b)) w.3

  count_is : (d : Disk) (fd : Fd) (file : List ℕ) (at count : ℕ) (w : IsOpen fd file d) → count ≡ min 8192 (length (from_place d (d.opens fd.0) at)) → count ≡ min 8192 (length (drop at file))
  count_is d fd file at count w is = is ∙ ap (λ o. min 8192 (length (from_place d o at))) w.2 ∙ ap (λ b. min 8192 (length (drop at b))) w.3

  module _ (r : Returning) (past : List Own) (event : Own) (d e : Disk) where
    abbrev After : ReturnRow → GotData → Type 0
    After row got = let x : Returning = moved_at controls sender row r event.read got in Says x.row x (event ∷ past) e

    notes_open : (told : Answer) → Says at.Open r past d → IsAnswerTo (call.Open (bounce_path n) how.Read) told → Apply d event.read (call.Open (bounce_path n) how.Read) told e
        → let x : Returning = goes r (notes_opened told) in Says x.row x (event ∷ past) e
    notes_open (answer.Opened fd) h fit applied =
        let k : Disk = with_open d (bounce_path n) how.Read fd.0 in
        let w : IsOpen fd notes k × Both k = (opened_is d (bounce_path n) notes fd h.2.0 applied.1.there, (h.2.0, h.2.1)) in
        let v : IsOpen fd notes e × Both e = subst (λ x. IsOpen fd notes x × Both x) (sym applied.2) w in
        (v.0, ap (λ t. t ++ drop (length t) notes) h.0, h.1, v.1)
    notes_open (answer.Refused error.NotThere) h fit applied = tt
    notes_open (answer.Refused error.Fault) h fit applied = tt
    notes_open (answer.Refused error.Memory) h fit applied = tt
    notes_open told h fit applied = absurd fit

    notes_go : (fd : Fd) (told : Answer) (bytes : List ℕ) → Says (at.ReadNotes fd) r past d → IsAnswerTo (call.ReadAt fd (length r.notes) 8192) told
        → Apply d event.read (call.ReadAt fd (length r.notes) 8192) told e → bytes ≡ read_by d (d.opens fd.0) (length r.notes) told
        → let x : Returning = notes_read r fd told bytes in Says x.row x (event ∷ past) e
    notes_go fd (answer.Count count) bytes h fit applied given = by_length (nat_lt (length bytes) 8192) refl
      where
        counted : count ≡ min 8192 (length (drop (length r.notes) notes))
        counted = count_is d fd notes (length r.notes) count h.0 applied.1.1

        is : bytes ≡ take count (drop (length r.notes) notes)
        is = piece_is d fd notes (length r.notes) count bytes h.0 given

        same : IsOpen fd notes e × Both e
        same = subst (λ x. IsOpen fd notes x × Both x) (sym applied.2) (h.0, h.3)

        by_length : (t : Bool) → nat_lt (length bytes) 8192 ≡ t → let x : Returning = record r { row = (if t then at.CloseNotes fd else at.ReadNotes fd); notes = r.notes ++ bytes } in Says x.row x (event ∷ past) e
        by_length true short = (part_over notes r.notes bytes count h.1 counted is short, h.2, same.1)
        by_length false long = (same.0, part_more notes r.notes bytes count h.1 counted is, h.2, same.1)
    notes_go fd (answer.Refused error.Fault) bytes h fit applied given = tt
    notes_go fd told bytes h fit applied given = absurd fit

    notes_close : (fd : Fd) (told : Answer) → Says (at.CloseNotes fd) r past d → IsAnswerTo (call.Close fd) told → Apply d event.read (call.Close fd) told e
        → let x : Returning = goes r at.OpenMessage in Says x.row x (event ∷ past) e
    notes_close fd answer.Done h fit applied = (h.0, h.1, subst Both (sym applied.2) (h.2.0, h.2.1))
    notes_close fd told h fit applied = absurd fit

    message_open : (told : Answer) → Says at.OpenMessage r past d → IsAnswerTo (call.Open (message_path n) how.Read) told → Apply d event.read (call.Open (message_path n) how.Read) told e
        → let x : Returning = goes r (message_opened told) in Says x.row x (event ∷ past) e
    message_open (answer.Opened fd) h fit applied =
        (h.0, subst (IsOpen fd message) (sym applied.2) (opened_is d (message_path n) message fd h.2.1 applied.1.there), ap (λ t. t ++ drop (length t) message) h.1)
    message_open (answer.Refused error.NotThere) h fit applied = tt
    message_open (answer.Refused error.Fault) h fit applied = tt
    message_open (answer.Refused error.Memory) h fit applied = tt
    message_open told h fit applied = absurd fit

    message_goes : (fd : Fd) (told : Answer) (bytes : List ℕ) → Says (at.ReadMessage fd) r past d → IsAnswerTo (call.ReadAt fd (length r.message) 8192) told
        → Apply d event.read (call.ReadAt fd (length r.message) 8192) told e → bytes ≡ read_by d (d.opens fd.0) (length r.message) told
        → let x : Returning = message_read r fd told bytes in Says x.row x (event ∷ past) e
    message_goes fd (answer.Count count) bytes h fit applied given = by_length (nat_lt (length bytes) 8192) refl
      where
        counted : count ≡ min 8192 (length (drop (length r.message) message))
        counted = count_is d fd message (length r.message) count h.1 applied.1.1

        is : bytes ≡ take count (drop (length r.message) message)
        is = piece_is d fd message (length r.message) count bytes h.1 given

        by_length : (t : Bool) → nat_lt (length bytes) 8192 ≡ t → let x : Returning = record r { row = (if t then at.CloseMessage fd else at.ReadMessage fd); message = r.message ++ bytes } in Says x.row x (event ∷ past) e
        by_length true short = (h.0, part_over message r.message bytes count h.2 counted is short)
        by_length false long = (h.0, subst (IsOpen fd message) (sym applied.2) h.1, part_more message r.message bytes count h.2 counted is)
    message_goes fd (answer.Refused error.Fault) bytes h fit applied given = tt
    message_goes fd told bytes h fit applied given = absurd fit

    -- both files were read: the bounce is made of them
    makes : (o : Option Bounce) → bounce event.read ≡ o → let x : Returning = made r o in Says x.row x (event ∷ past) e
    makes None is = (event.read, is)
    makes (Some b) is = (event.read, b, is, refl, refl)

    made_is : (r.notes ≡ notes) × (r.message ≡ message) → bounce_at controls sender r event.read ≡ bounce event.read
    made_is h =
        let f : List ℕ → List ℕ → Option Bounce = λ x y. bounce_of controls.bounce_from controls.bounce_host controls.double_bounce_to controls.double_bounce_host sender x y event.read in
        ap (λ x. f x r.message) h.0 ∙ ap (λ y. f notes y) h.1

    starts : Says at.Start r past d → event.due ≡ due_at at.Start r → (got : GotData) → event.came ≡ got → let x : Returning = goes r (started_row got) in Says x.row x (event ∷ past) e
    starts h due (came.Started pid) is = (h.0, h.1, h.2, h.3, (event, past, pid, refl, due ∙ ap (λ room. needs.Start (child.Bounce room)) h.4, is))
    starts h due (came.Answered told) is = tt
    starts h due (came.Took bytes) is = tt
    starts h due came.End is = tt
    starts h due (came.Ended status) is = tt
    starts h due came.Crashed is = tt
    starts h due came.Gave is = tt
    starts h due came.Failed is = tt
    starts h due came.Memory is = tt

    gives : (pid : ℕ) → Says (at.Give pid) r past d → event.due ≡ due_at (at.Give pid) r → (got : GotData) → event.came ≡ got
        → let x : Returning = goes r (given_row pid got) in Says x.row x (event ∷ past) e
    gives pid h due came.Gave is = (h.0, h.1, h.2, (event, past, h.4, refl, due ∙ ap (λ t. needs.Give (port.Program 0) t) h.3, is))
    gives pid h due (came.Started other) is = tt
    gives pid h due (came.Answered told) is = tt
    gives pid h due (came.Took bytes) is = tt
    gives pid h due came.End is = tt
    gives pid h due (came.Ended status) is = tt
    gives pid h due came.Crashed is = tt
    gives pid h due came.Failed is = tt
    gives pid h due came.Memory is = tt

    injected : (b : Bounce) → IsGiven past b → event.due ≡ needs.Take (port.Status 0) → event.came ≡ came.Ended 0 → IsInjected (event ∷ past) b
    injected b g due is = record {
      ended = event;
      given = g.0;
      started = g.2.0;
      before = g.2.1;
      pid = g.2.2;
      newest = ap (λ p. event ∷ p) (g.3 ∙ ap (λ p. g.0 ∷ p) g.2.3);
      start = g.2.4;
      begun = g.2.5;
      input = g.4;
      gave = g.5;
      status = due;
      zero = is;
    }

    awaits : (pid : ℕ) → Says (at.Await pid) r past d → event.due ≡ due_at (at.Await pid) r → (got : GotData) → event.came ≡ got
        → let x : Returning = goes r (awaited_row got) in Says x.row x (event ∷ past) e
    awaits pid h due (came.Ended status) is = by_status (nat_eq status 0) refl
      where
        by_status : (t : Bool) → nat_eq status 0 ≡ t → let x : Returning = goes r (if t then at.Unlink else at.Failed) in Says x.row x (event ∷ past) e
        by_status true zero = (h.0, h.1, h.2, injected h.1 h.3 due (is ∙ ap came.Ended (eqb-true status 0 zero)))
        by_status false other = tt
    awaits pid h due (came.Answered told) is = tt
    awaits pid h due (came.Took bytes) is = tt
    awaits pid h due came.End is = tt
    awaits pid h due came.Crashed is = tt
    awaits pid h due came.Gave is = tt
    awaits pid h due (came.Started other) is = tt
    awaits pid h due came.Failed is = tt
    awaits pid h due came.Memory is = tt

    unlinks : (told : Answer) → let x : Returning = goes r (unlinked_row told) in Says x.row x (event ∷ past) e
    unlinks answer.Done = tt
    unlinks (answer.Created fd number) = tt
    unlinks (answer.Opened fd) = tt
    unlinks (answer.Count count) = tt
    unlinks (answer.Stat stat) = tt
    unlinks (answer.Name name) = tt
    unlinks answer.NoName = tt
    unlinks (answer.Refused reason) = tt

    -- a step, by what came of it
    abbrev StepOf : ReturnRow → GotData → Type 0
    StepOf row got = Says row r past d → event.came ≡ got → event.due ≡ due_at row r → Makes d event.read (due_at row r) got e → After row got

    step : (row : ReturnRow) (got : GotData) → r.n ≡ n → MayCome (due_at row r) got → StepOf row got
    step at.Open got same may = by_fit (call.Open (bounce_path r.n) how.Read) (StepOf at.Open) got may
        (λ told fit h is due it. notes_open told.answer h fit (subst (λ k. Apply d event.read (call.Open (bounce_path k) how.Read) told.answer e) same it.0))
    step (at.ReadNotes fd) got same may = by_fit (call.ReadAt fd (length r.notes) 8192) (StepOf (at.ReadNotes fd)) got may (λ told fit h is due it. notes_go fd told.answer told.bytes h fit it.0 it.1)
    step (at.CloseNotes fd) got same may = by_fit (call.Close fd) (StepOf (at.CloseNotes fd)) got may (λ told fit h is due it. notes_close fd told.answer h fit it.0)
    step at.OpenMessage got same may = by_fit (call.Open (message_path r.n) how.Read) (StepOf at.OpenMessage) got may
        (λ told fit h is due it. message_open told.answer h fit (subst (λ k. Apply d event.read (call.Open (message_path k) how.Read) told.answer e) same it.0))
    step (at.ReadMessage fd) got same may = by_fit (call.ReadAt fd (length r.message) 8192) (StepOf (at.ReadMessage fd)) got may (λ told fit h is due it. message_goes fd told.answer told.bytes h fit it.0 it.1)
    step (at.CloseMessage fd) got same may = by_fit (call.Close fd) (StepOf (at.CloseMessage fd)) got may
        (λ told fit h is due it. makes (bounce_at controls sender r event.read) (sym (made_is h)))
    step (at.Shut fd) got same may = by_fit (call.Close fd) (StepOf (at.Shut fd)) got may (λ told fit h is due it. tt)
    step at.Start got same may = λ h is due it. starts h due got is
    step (at.Give pid) got same may = λ h is due it. gives pid h due got is
    step (at.Await pid) got same may = λ h is due it. awaits pid h due got is
    step at.Unlink got same may = by_fit (call.Unlink (bounce_path r.n)) (StepOf at.Unlink) got may (λ told fit h is due it. unlinks told.answer)
    step at.Discard got same may = by_fit (call.Unlink (bounce_path r.n)) (StepOf at.Discard) got may (λ told fit h is due it. unlinks told.answer)
    step at.Over got same may = absurd may
    step at.Failed got same may = absurd may

-- the number of the message stays
module _ (controls : Controls) (sender : List ℕ) (r : Returning) (now : ℕ) where
  goes_on : (row : ReturnRow) → (goes r row).n ≡ r.n
  goes_on at.Over = refl
  goes_on at.Failed = refl
  goes_on row = refl

  notes_same : (fd : Fd) (told : Answer) (bytes : List ℕ) → (notes_read r fd told bytes).n ≡ r.n
  notes_same fd (answer.Count count) bytes = refl
  notes_same fd told bytes = refl

  message_same : (fd : Fd) (told : Answer) (bytes : List ℕ) → (message_read r fd told bytes).n ≡ r.n
  message_same fd (answer.Count count) bytes = refl
  message_same fd told bytes = refl

  made_same : (o : Option Bounce) → (made r o).n ≡ r.n
  made_same None = refl
  made_same (Some b) = refl

  abbrev IsSame : ReturnRow → GotData → Type 0
  IsSame row got = (moved_at controls sender row r now got).n ≡ r.n

  number_same : (row : ReturnRow) (got : GotData) → MayCome (due_at row r) got → IsSame row got
  number_same at.Open got may = by_fit (call.Open (bounce_path r.n) how.Read) (IsSame at.Open) got may (λ told fit. goes_on (notes_opened told.answer))
  number_same (at.ReadNotes fd) got may = by_fit (call.ReadAt fd (length r.notes) 8192) (IsSame (at.ReadNotes fd)) got may (λ told fit. notes_same fd told.answer told.bytes)
  number_same (at.CloseNotes fd) got may = by_fit (call.Close fd) (IsSame (at.CloseNotes fd)) got may (λ told fit. refl)
  number_same at.OpenMessage got may = by_fit (call.Open (message_path r.n) how.Read) (IsSame at.OpenMessage) got may (λ told fit. goes_on (message_opened told.answer))
  number_same (at.ReadMessage fd) got may = by_fit (call.ReadAt fd (length r.message) 8192) (IsSame (at.ReadMessage fd)) got may (λ told fit. message_same fd told.answer told.bytes)
  number_same (at.CloseMessage fd) got may = by_fit (call.Close fd) (IsSame (at.CloseMessage fd)) got may (λ told fit. made_same (bounce_at controls sender r now))
  number_same (at.Shut fd) got may = by_fit (call.Close fd) (IsSame (at.Shut fd)) got may (λ told fit. refl)
  number_same at.Start got may = goes_on (started_row got)
  number_same (at.Give pid) got may = goes_on (given_row pid got)
  number_same (at.Await pid) got may = goes_on (awaited_row got)
  number_same at.Unlink got may = by_fit (call.Unlink (bounce_path r.n)) (IsSame at.Unlink) got may (λ told fit. goes_on (unlinked_row told.answer))
  number_same at.Discard got may = by_fit (call.Unlink (bounce_path r.n)) (IsSame at.Discard) got may (λ told fit. goes_on (unlinked_row told.answer))
  number_same at.Over got may = absurd may
  number_same at.Failed got may = absurd may

module _ (controls : Controls) (sender : List ℕ) (n : ℕ) where
  may_come : (event : Own) (before : List Own) → IsReturn controls sender n (event ∷ before) → MayCome (due_by (returned_after controls sender n before)) event.came
  may_come event before run = subst (λ x. MayCome x event.came) (sym run.1.0) run.1.1

  number_is : (past : List Own) → IsReturn controls sender n past → (returned_after controls sender n past).n ≡ n
  number_is [] run = refl
  number_is (event ∷ before) run =
      let r : Returning = returned_after controls sender n before in
      number_same controls sender r event.read r.row event.came (may_come event before run) ∙ number_is before run.0

  says : (past : List Own) (first last : Disk) → IsReturn controls sender n past → LeadsTo first past last → let r : Returning = returned_after controls sender n past in
      Says controls sender n (bytes_at first (bounce_path n)) (bytes_at first (message_path n)) r.row r past last
  says [] first last run leads = (refl, refl, (ap (λ d. bytes_at d (bounce_path n)) leads, ap (λ d. bytes_at d (message_path n)) leads))
  says (event ∷ before) first last run leads =
      let r : Returning = returned_after controls sender n before in
      let makes = subst (λ x. Makes leads.0 event.read x event.came last) (sym run.1.0) leads.2 in
      step controls sender n (bytes_at first (bounce_path n)) (bytes_at first (message_path n)) r before event leads.0 last r.row event.came
      (number_is before run.0) (may_come event before run) (says before first leads.0 run.0 leads.1) refl (sym run.1.0) makes

pub unlinked : (controls : Controls) (sender : List ℕ) (n : ℕ) (past : List Own) (first last : Disk) (name : List ℕ) → IsReturn controls sender n past → LeadsTo first past last
    → due_by (returned_after controls sender n past) ≡ needs.File (call.Unlink name) → IsReturned controls sender (bytes_at first (bounce_path n)) (bytes_at first (message_path n)) past
unlinked controls sender n past first last name run leads is = by_row r.row (says controls sender n past first last run leads) is
  where
    r : Returning
    r = returned_after controls sender n past

    notes : List ℕ
    notes = bytes_at first (bounce_path n)

    message : List ℕ
    message = bytes_at first (message_path n)

    by_row : (row : ReturnRow) → Says controls sender n notes message row r past last → due_at row r ≡ needs.File (call.Unlink name) → IsReturned controls sender notes message past
    by_row at.Unlink h e = (h.0, subst (IsSettled past) (sym h.2) h.3)
    by_row at.Discard h e = (h.0, subst (IsSettled past) (sym h.1) tt)
    by_row at.Open h e = absurd (cc)
    by_row (at.ReadNotes fd) h e = absurd (cc)
    by_row (at.CloseNotes fd) h e = absurd (cc)
    by_row at.OpenMessage h e = absurd (cc)
    by_row (at.ReadMessage fd) h e = absurd (cc)
    by_row (at.CloseMessage fd) h e = absurd (cc)
    by_row (at.Shut fd) h e = absurd (cc)
    by_row at.Start h e = absurd (cc)
    by_row (at.Give pid) h e = absurd (cc)
    by_row (at.Await pid) h e = absurd (cc)
    by_row at.Over h e = absurd (cc)
    by_row at.Failed h e = absurd (cc)

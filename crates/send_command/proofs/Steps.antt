-- Each step of the sender's table leads to an end only by what came.
use Rattle.std.proofs.Common.{◌≡◌, ℕ, List, [], ◌∷◌, length, set, Bool, true, false, if◌then◌else◌, nat_lt, Option, Some, None, refl, arith}
use Rattle.address_rules.specs.declared.control_file.ControlFile.{ControlFile}
use Rattle.address_rules.specs.Files.{Fault, first_fault, place}
use Rattle.call_fs.specs.declared.calls.Answer.{Answer}
use Rattle.call_fs.specs.declared.calls.Answer.TheVariants as answer
use Rattle.call_fs.specs.declared.calls.CallData.{CallData}
use Rattle.call_fs.specs.declared.calls.CallData.TheVariants as call
use Rattle.call_fs.specs.declared.calls.Fd.{Fd}
use Rattle.call_fs.specs.declared.calls.FsError.TheVariants as why
use Rattle.call_fs.specs.declared.calls.How.TheVariants as how
use Rattle.call_fs.specs.declared.calls.Told.{Told}
use Rattle.call_fs.specs.declared.past.GotData.{GotData}
use Rattle.call_fs.specs.declared.past.GotData.TheVariants as got
use Rattle.call_fs.specs.declared.past.NeedData.{NeedData}
use Rattle.call_fs.specs.declared.past.NeedData.TheVariants as needs
use Rattle.call_fs.specs.declared.program.Port.TheVariants as port
use Rattle.call_fs.specs.Columns.{IsAnswerTo}
use Rattle.call_fs.specs.Past.{IsFault}
use Rattle.call_fs.specs.Program.{MayCome}
use Rattle.call_fs.proofs.Coming.{by_fit}
use Rattle.program_runner.specs.Serving.{HasBytes}
use Rattle.queue_paths.specs.declared.names.Name.TheVariants as name
use Rattle.queue_paths.specs.Names.{name_of, path}
use Rattle.send_parts.specs.declared.book.Book.{Book}
use Rattle.send_parts.specs.declared.dir.Dir.TheVariants as dir
use Rattle.send_parts.specs.declared.reading.Progress.TheVariants.{Goes}
use Rattle.send_parts.specs.declared.reading.Reading.{Reading}
use Rattle.send_parts.specs.declared.reading.Reading.TheVariants.{Opening, Going, Closing, Shutting}
use Rattle.send_parts.specs.declared.rows.StartRow.{StartRow}
use Rattle.send_parts.specs.declared.rows.StartRow.TheVariants as start
use Rattle.send_parts.specs.Files.{is_info}
use Rattle.send_parts.specs.Replies.{Said, answered, said}
use Rattle.send_parts.specs.Start.{act_start, by_way, control_read, file_after, info_read, remote_stated, scanned}
use Rattle.send_parts.specs.Steps.{control_text, dir_text}
use Rattle.send_core.specs.declared.desk.Desk.{Desk}
use Rattle.send_parts.specs.declared.row.Row.{Row}
use Rattle.send_parts.specs.declared.row.Row.TheVariants as at
use Rattle.send_core.specs.Table.{due_at}
use Rattle.send_command.specs.Ends.{IsLost, LacksDir, IsStarved}
use Rattle.send_command.specs.Ends.IsLost.{HasEnded, Unheard}
use Rattle.send_command.proofs.Rows.{FineStart, fine_filed, fine_info_row, fine_scanned}

-- What may have ended it, by the newest event: all turns were made, a control file is bad, a link was lost, or a call of the start
-- came to nothing.

pub data OfLoss (due : NeedData) (came : GotData) : ℕ → Type 0 where
  NoCleaner : IsLost port.Clean due came → OfLoss due came 81
  NoLocal : IsLost port.Lspawn due came → OfLoss due came 82
  NoRemote : IsLost port.Rspawn due came → OfLoss due came 83

pub data OfCall : NeedData → GotData → ℕ → Type 0 where
  Faulty : (c : CallData) (told : Told) → IsFault c told.answer → OfCall (needs.File c) (got.Answered told) 84
  NoDir : (c : CallData) (told : Told) → LacksDir c told.answer → OfCall (needs.File c) (got.Answered told) 84
  NoMemory : (c : CallData) (told : Told) → IsStarved c told.answer → OfCall (needs.File c) (got.Answered told) 51

pub data Event (bad : Type 0) (starting : Bool) (due : NeedData) (came : GotData) : ℕ → Type 0 where
  Made : starting ≡ false → Event bad starting due came 0
  Bad : bad → Event bad starting due came 85
  Lost : (status : ℕ) → OfLoss due came status → Event bad starting due came status
  Called : (status : ℕ) → starting ≡ true → OfCall due came status → Event bad starting due came status

-- with this file the control files are read, and one of them is bad
pub record BadFiled (content : Option (List ℕ)) (f : ControlFile) (b : Book) : Type 0 where
  pub fault : Fault
  pub last : file_after f ≡ None
  pub bad : first_fault (set b.files (place f) content) ≡ Some fault

-- so it is after what came at a row: a control file is missing, or was read whole
abbrev pub BadAt : Row → Desk → GotData → Type 0
BadAt (at.Start (start.Control f Opening)) d came = (bytes : List ℕ) × (came ≡ got.Answered (record { answer = answer.Refused why.NotThere; bytes = bytes })) × BadFiled None f d.book
BadAt (at.Start (start.Control f (Closing fd))) d came = (told : Told) × (came ≡ got.Answered told) × BadFiled (Some d.book.read) f d.book
BadAt row d came = ⊥

-- The start

-- an event of the start
abbrev Starting : (GotData → Type 0) → CallData → Told → ℕ → Type 0
Starting B c told status = Event (B (got.Answered told)) true (needs.File c) (got.Answered told) status

at_fault : (B : GotData → Type 0) (c : CallData) (bytes : List ℕ) → Starting B c (record { answer = answer.Refused why.Fault; bytes = bytes }) 84
at_fault B c bytes = Called 84 refl (Faulty c (record { answer = answer.Refused why.Fault; bytes = bytes }) refl)

at_hunger : (B : GotData → Type 0) (c : CallData) (bytes : List ℕ) → Starting B c (record { answer = answer.Refused why.Memory; bytes = bytes }) 51
at_hunger B c bytes = Called 51 refl (NoMemory c (record { answer = answer.Refused why.Memory; bytes = bytes }) refl)

at_no_dir : (B : GotData → Type 0) (d after bytes : List ℕ) → Starting B (call.NextName d after) (record { answer = answer.Refused why.NotThere; bytes = bytes }) 84
at_no_dir B d after bytes = Called 84 refl (NoDir (call.NextName d after) (record { answer = answer.Refused why.NotThere; bytes = bytes }) tt)

module _ (B : GotData → Type 0) (f : ControlFile) (b : Book) where
  control_opens : ((bytes : List ℕ) → BadFiled None f b → B (got.Answered (record { answer = answer.Refused why.NotThere; bytes = bytes }))) → (name : List ℕ) (a : Answer) (bytes : List ℕ) → IsAnswerTo (call.Open name how.Read) a
      → FineStart (Starting B (call.Open name how.Read) (record { answer = a; bytes = bytes })) (act_start (start.Control f Opening) (answered a bytes) b).row
  control_opens bad name (answer.Opened fd) bytes fit = tt
  control_opens bad name (answer.Refused why.NotThere) bytes fit = fine_filed (Starting B (call.Open name how.Read) (record { answer = answer.Refused why.NotThere; bytes = bytes })) None f b (λ fault last is. Bad (bad bytes (record { fault = fault; last = last; bad = is })))
  control_opens bad name (answer.Refused why.Fault) bytes fit = at_fault B (call.Open name how.Read) bytes
  control_opens bad name (answer.Refused why.Memory) bytes fit = at_hunger B (call.Open name how.Read) bytes
  control_opens bad name a bytes fit = absurd fit

  control_goes : (E : ℕ → Type 0) (fd : Fd) (short : Bool) (reading : Reading) (s : Said) → FineStart E (control_read (if short then Goes (Closing fd) else Goes (Going fd)) f reading s b).row
  control_goes E fd true reading s = tt
  control_goes E fd false reading s = tt

  control_reads : (fd : Fd) (place : ℕ) (a : Answer) (bytes : List ℕ) → IsAnswerTo (call.ReadAt fd place 8192) a
      → FineStart (Starting B (call.ReadAt fd place 8192) (record { answer = a; bytes = bytes })) (act_start (start.Control f (Going fd)) (answered a bytes) b).row
  control_reads fd place (answer.Count count) bytes fit =
      control_goes (Starting B (call.ReadAt fd place 8192) (record { answer = answer.Count count; bytes = bytes })) fd (nat_lt (length bytes) 8192) (Going fd) (answered (answer.Count count) bytes)
  control_reads fd place (answer.Refused why.Fault) bytes fit = at_fault B (call.ReadAt fd place 8192) bytes
  control_reads fd place a bytes fit = absurd fit

module _ (B : GotData → Type 0) (split n : ℕ) (b : Book) where
  info_opens : (name : List ℕ) (a : Answer) (bytes : List ℕ) → IsAnswerTo (call.Open name how.Read) a
      → FineStart (Starting B (call.Open name how.Read) (record { answer = a; bytes = bytes })) (act_start (start.ReadInfo split n Opening) (answered a bytes) b).row
  info_opens name (answer.Opened fd) bytes fit = tt
  info_opens name (answer.Refused why.NotThere) bytes fit = tt
  info_opens name (answer.Refused why.Fault) bytes fit = at_fault B (call.Open name how.Read) bytes
  info_opens name (answer.Refused why.Memory) bytes fit = at_hunger B (call.Open name how.Read) bytes
  info_opens name a bytes fit = absurd fit

  info_goes : (E : ℕ → Type 0) (fd : Fd) (short : Bool) (reading : Reading) (s : Said) → FineStart E (info_read (if short then Goes (Closing fd) else Goes (Going fd)) split n reading s b).row
  info_goes E fd true reading s = tt
  info_goes E fd false reading s = tt

  info_reads : (fd : Fd) (place : ℕ) (a : Answer) (bytes : List ℕ) → IsAnswerTo (call.ReadAt fd place 8192) a
      → FineStart (Starting B (call.ReadAt fd place 8192) (record { answer = a; bytes = bytes })) (act_start (start.ReadInfo split n (Going fd)) (answered a bytes) b).row
  info_reads fd place (answer.Count count) bytes fit =
      info_goes (Starting B (call.ReadAt fd place 8192) (record { answer = answer.Count count; bytes = bytes })) fd (nat_lt (length bytes) 8192) (Going fd) (answered (answer.Count count) bytes)
  info_reads fd place (answer.Refused why.Fault) bytes fit = at_fault B (call.ReadAt fd place 8192) bytes
  info_reads fd place a bytes fit = absurd fit

-- a stat leads on if the file is there or missing
stats : (B : GotData → Type 0) (name : List ℕ) (a : Answer) (bytes : List ℕ) (there missing : StartRow) → IsAnswerTo (call.Stat name) a → ((E : ℕ → Type 0) → FineStart E there) → ((E : ℕ → Type 0) → FineStart E missing)
    → FineStart (Starting B (call.Stat name) (record { answer = a; bytes = bytes })) (by_way (answered a bytes).way there missing)
stats B name (answer.Stat stat) bytes there missing fit p q = p (Starting B (call.Stat name) (record { answer = answer.Stat stat; bytes = bytes }))
stats B name (answer.Refused why.NotThere) bytes there missing fit p q = q (Starting B (call.Stat name) (record { answer = answer.Refused why.NotThere; bytes = bytes }))
stats B name (answer.Refused why.Fault) bytes there missing fit p q = at_fault B (call.Stat name) bytes
stats B name a bytes there missing fit p q = absurd fit

stats_remote : (B : GotData → Type 0) (name : List ℕ) (a : Answer) (bytes : List ℕ) (split n birth : ℕ) (local : Bool) (b : Book) → IsAnswerTo (call.Stat name) a
    → FineStart (Starting B (call.Stat name) (record { answer = a; bytes = bytes })) (remote_stated (answered a bytes).way split n birth local b).row
stats_remote B name (answer.Stat stat) bytes split n birth local b fit = tt
stats_remote B name (answer.Refused why.NotThere) bytes split n birth local b fit = tt
stats_remote B name (answer.Refused why.Fault) bytes split n birth local b fit = at_fault B (call.Stat name) bytes
stats_remote B name a bytes split n birth local b fit = absurd fit

scans : (B : GotData → Type 0) (d after : List ℕ) (a : Answer) (bytes : List ℕ) (split : ℕ) (b : Book) → IsAnswerTo (call.NextName d after) a
    → FineStart (Starting B (call.NextName d after) (record { answer = a; bytes = bytes })) (scanned (answered a bytes).way (answered a bytes).bytes split b).row
scans B d after (answer.Name found) bytes split b fit = (fine_scanned (Starting B (call.NextName d after) (record { answer = answer.Name found; bytes = bytes })) found split b).0
scans B d after answer.NoName bytes split b fit = (fine_scanned (Starting B (call.NextName d after) (record { answer = answer.NoName; bytes = bytes })) [] split b).1
scans B d after (answer.Refused why.NotThere) bytes split b fit = at_no_dir B d after bytes
scans B d after (answer.Refused why.Fault) bytes split b fit = at_fault B (call.NextName d after) bytes
scans B d after a bytes split b fit = absurd fit

greets_local : (B : Type 0) (came : GotData) (b : Book) → MayCome (needs.Take port.Lspawn) came → HasBytes came → FineStart (Event B true (needs.Take port.Lspawn) came) (act_start start.GreetLocal (said came) b).row
greets_local B (got.Took []) b may some = absurd (omega (arith, some))
greets_local B (got.Took (byte ∷ rest)) b may some = tt
greets_local B got.End b may some = Lost 82 (NoLocal HasEnded)
greets_local B got.Failed b may some = Lost 82 (NoLocal Unheard)
greets_local B came b may some = absurd may

greets_remote : (B : Type 0) (limit : ℕ) (came : GotData) (b : Book) → MayCome (needs.Take port.Rspawn) came → HasBytes came → FineStart (Event B true (needs.Take port.Rspawn) came) (act_start (start.GreetRemote limit) (said came) b).row
greets_remote B limit (got.Took []) b may some = absurd (omega (arith, some))
greets_remote B limit (got.Took (byte ∷ rest)) b may some = tt
greets_remote B limit got.End b may some = Lost 83 (NoRemote HasEnded)
greets_remote B limit got.Failed b may some = Lost 83 (NoRemote Unheard)
greets_remote B limit came b may some = absurd may

module _ (d : Desk) where
  abbrev StartOf : StartRow → GotData → Type 0
  StartOf row came = FineStart (Event (BadAt (at.Start row) d came) true (due_at (at.Start row) d) came) (act_start row (said came) d.book).row

  -- a step of the start, at a row that shuts no file
  pub starts : (E : ℕ → Type 0) (row : StartRow) (came : GotData) → FineStart E row → MayCome (due_at (at.Start row) d) came → HasBytes came → StartOf row came
  starts E (start.Control f Opening) came fine may some = by_fit (call.Open (control_text f) how.Read) (StartOf (start.Control f Opening)) came may (λ told fit. control_opens (BadAt (at.Start (start.Control f Opening)) d) f d.book (λ bytes bad. (bytes, refl, bad)) (control_text f) told.answer told.bytes fit)
  starts E (start.Control f (Going fd)) came fine may some =
      by_fit (call.ReadAt fd (length d.book.read) 8192) (StartOf (start.Control f (Going fd))) came may (λ told fit. control_reads (BadAt (at.Start (start.Control f (Going fd))) d) f d.book fd (length d.book.read) told.answer told.bytes fit)
  starts E (start.Control f (Closing fd)) came fine may some =
      by_fit (call.Close fd) (StartOf (start.Control f (Closing fd))) came may (λ told fit. fine_filed (Starting (BadAt (at.Start (start.Control f (Closing fd))) d) (call.Close fd) told) (Some d.book.read) f d.book
      (λ fault last is. Bad (told, refl, record { fault = fault; last = last; bad = is })))
  starts E (start.Control f (Shutting fd)) came fine may some = absurd fine
  starts E start.GreetLocal came fine may some = greets_local (BadAt (at.Start start.GreetLocal) d came) came d.book may some
  starts E (start.GreetRemote limit) came fine may some = greets_remote (BadAt (at.Start (start.GreetRemote limit)) d came) limit came d.book may some
  starts E (start.Scan split) came fine may some =
      by_fit (call.NextName (dir_text (dir.Info split)) d.book.after) (StartOf (start.Scan split)) came may (λ told fit. scans (BadAt (at.Start (start.Scan split)) d) (dir_text (dir.Info split)) d.book.after told.answer told.bytes split d.book fit)
  starts E (start.StatTodo split n) came fine may some =
      by_fit (call.Stat (path (name_of (name.Todo n)))) (StartOf (start.StatTodo split n)) came may
      (λ told fit. stats (BadAt (at.Start (start.StatTodo split n)) d) (path (name_of (name.Todo n))) told.answer told.bytes (start.Scan split) (start.ReadInfo split n Opening) fit (λ E. tt) (λ E. tt))
  starts E (start.ReadInfo split n Opening) came fine may some =
      by_fit (call.Open (path (name_of (name.Info n))) how.Read) (StartOf (start.ReadInfo split n Opening)) came may (λ told fit. info_opens (BadAt (at.Start (start.ReadInfo split n Opening)) d) split n d.book (path (name_of (name.Info n))) told.answer told.bytes fit)
  starts E (start.ReadInfo split n (Going fd)) came fine may some =
      by_fit (call.ReadAt fd (length d.book.read) 8192) (StartOf (start.ReadInfo split n (Going fd))) came may (λ told fit. info_reads (BadAt (at.Start (start.ReadInfo split n (Going fd))) d) split n d.book fd (length d.book.read) told.answer told.bytes fit)
  starts E (start.ReadInfo split n (Closing fd)) came fine may some =
      by_fit (call.Close fd) (StartOf (start.ReadInfo split n (Closing fd))) came may (λ told fit. fine_info_row (Starting (BadAt (at.Start (start.ReadInfo split n (Closing fd))) d) (call.Close fd) told) (is_info d.book.read) split n)
  starts E (start.ReadInfo split n (Shutting fd)) came fine may some = absurd fine
  starts E (start.StatInfo split n) came fine may some =
      by_fit (call.Stat (path (name_of (name.Info n)))) (StartOf (start.StatInfo split n)) came may
      (λ told fit. stats (BadAt (at.Start (start.StatInfo split n)) d) (path (name_of (name.Info n))) told.answer told.bytes (start.StatLocal split n (answered told.answer told.bytes).stat.moment) (start.Scan split) fit (λ E. tt) (λ E. tt))
  starts E (start.StatLocal split n birth) came fine may some =
      by_fit (call.Stat (path (name_of (name.Local n)))) (StartOf (start.StatLocal split n birth)) came may
      (λ told fit. stats (BadAt (at.Start (start.StatLocal split n birth)) d) (path (name_of (name.Local n))) told.answer told.bytes (start.StatRemote split n birth true) (start.StatRemote split n birth false) fit (λ E. tt) (λ E. tt))
  starts E (start.StatRemote split n birth local) came fine may some =
      by_fit (call.Stat (path (name_of (name.Remote n)))) (StartOf (start.StatRemote split n birth local)) came may
      (λ told fit. stats_remote (BadAt (at.Start (start.StatRemote split n birth local)) d) (path (name_of (name.Remote n))) told.answer told.bytes split n birth local d.book fit)
  starts E start.Over came fine may some = absurd may
  starts E (start.Ended status) came fine may some = absurd may

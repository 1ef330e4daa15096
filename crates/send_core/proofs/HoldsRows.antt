-- What each row of a sender holds open, and where the steps of its start lead.
use Rattle.std.proofs.Common.{◌≡◌, ℕ, ◌+◌, List, [], ◌∷◌, set, Bool, true, false, if◌then◌else◌, nat_lt, Option, Some, None}
use Rattle.std.specs.Option.{IsSome}
use Rattle.address_rules.specs.declared.control_file.ControlFile.{ControlFile}
use Rattle.address_rules.specs.Files.{Fault, place, first_fault}
use Rattle.bounce_record.specs.declared.note_row.NoteRow.{NoteRow}
use Rattle.bounce_record.specs.declared.return_row.ReturnRow.{ReturnRow}
use Rattle.bounce_record.proofs.HoldsNote.{HoldsNote}
use Rattle.bounce_record.proofs.HoldsReturn.{HoldsReturn}
use Rattle.call_fs.specs.declared.calls.How.TheVariants as how
use Rattle.call_fs.specs.declared.modes.Mode.{Mode}
use Rattle.send_parts.specs.declared.reading.Progress.{Progress}
use Rattle.send_parts.specs.declared.reading.Progress.TheVariants.{Goes, Whole, Missing, Failed}
use Rattle.send_parts.specs.declared.reading.Reading.{Reading}
use Rattle.send_parts.specs.declared.reading.Reading.TheVariants.{Opening, Going, Closing, Shutting}
use Rattle.send_parts.specs.declared.reply.Way.{Way}
use Rattle.send_parts.specs.declared.reply.Way.TheVariants as way
use Rattle.send_parts.specs.Files.{is_info, number_below}
use Rattle.send_parts.specs.Replies.{Said}
use Rattle.todo_pass.specs.declared.row.Row.{Row as PassRow}
use Rattle.todo_pass.proofs.Holds.{HoldsRow}
use Rattle.send_core.specs.declared.desk.Desk.{Desk}
use Rattle.send_parts.specs.declared.book.Book.{Book}
use Rattle.send_parts.specs.declared.rows.FinishRow.{FinishRow}
use Rattle.send_parts.specs.declared.rows.FinishRow.TheVariants as finish
use Rattle.send_parts.specs.declared.row.MarkRow.{MarkRow}
use Rattle.send_parts.specs.declared.row.MarkRow.TheVariants as mark
use Rattle.send_parts.specs.declared.row.Row.{Row}
use Rattle.send_parts.specs.declared.row.Row.TheVariants as at
use Rattle.send_parts.specs.declared.rows.StartRow.{StartRow}
use Rattle.send_parts.specs.declared.rows.StartRow.TheVariants as start
use Rattle.send_parts.specs.Start.{by_way, control_read, file_after, filed, info_row, scan_row, greeted_local, greeted_remote, info_read, judged_by, next_file, remote_stated, scanned, start_failed}
use Rattle.send_core.specs.Start.{start_at}

-- what the reading of a file holds open
abbrev pub HoldsReading : (ℕ → Option Mode) → Reading → Type 0
HoldsReading h Opening = Unit {0}
HoldsReading h (Going fd) = h fd.0 ≡ Some (Mode.Opened how.Read)
HoldsReading h (Closing fd) = IsSome (h fd.0)
HoldsReading h (Shutting fd) = IsSome (h fd.0)

abbrev pub HoldsProgress : (ℕ → Option Mode) → Progress → Type 0
HoldsProgress h (Goes reading) = HoldsReading h reading
HoldsProgress h other = Unit {0}

abbrev pub HoldsStart : (ℕ → Option Mode) → StartRow → Type 0
HoldsStart h (start.Control f reading) = HoldsReading h reading
HoldsStart h (start.ReadInfo split n reading) = HoldsReading h reading
HoldsStart h row = Unit {0}

-- where the todo pass, the note and the return of a message stand
abbrev pub Parts : Type 0
Parts = PassRow × NoteRow × ReturnRow

abbrev pub parts : Desk → Parts
parts d = (d.pass.row, d.note.row, d.bounce.row)

abbrev pub HoldsMark : (ℕ → Option Mode) → MarkRow → NoteRow → Type 0
HoldsMark h mark.Note note = Unit {0}
HoldsMark h mark.Noting note = HoldsNote h note
HoldsMark h mark.Open note = Unit {0}
HoldsMark h (mark.Write fd) note = h fd.0 ≡ Some (Mode.Opened how.Write)
HoldsMark h (mark.Close fd done) note = IsSome (h fd.0)

abbrev pub HoldsFinish : (ℕ → Option Mode) → FinishRow → ReturnRow → Type 0
HoldsFinish h finish.Return bounce = HoldsReturn h bounce
HoldsFinish h row bounce = Unit {0}

-- what a row holds open; at a row of the todo pass, of a note or of a return, what that holds open
abbrev pub HoldsAt : (ℕ → Option Mode) → Row → Parts → Type 0
HoldsAt h (at.Start row) p = HoldsStart h row
HoldsAt h (at.Mark row m) p = HoldsMark h row p.1
HoldsAt h (at.ReadFile c n begun reading) p = HoldsReading h reading
HoldsAt h at.InTodo p = HoldsRow h p.0
HoldsAt h (at.Finish row n) p = HoldsFinish h row p.2
HoldsAt h row p = Unit {0}

abbrev pub Holds : (ℕ → Option Mode) → Desk → Type 0
Holds h d = HoldsAt h d.row (parts d)

module _ (h : ℕ → Option Mode) where
  pub failed_holds : (w : Way) → HoldsStart h (start_failed w)
  failed_holds way.Fine = tt
  failed_holds way.Over = tt
  failed_holds way.Absent = tt
  failed_holds way.Broken = tt
  failed_holds way.NoMemory = tt

  pub judged_holds : (o : Option Fault) (b : Book) → HoldsStart h (judged_by o b).row
  judged_holds None b = tt
  judged_holds (Some fault) b = tt

  pub next_file_holds : (o : Option ControlFile) (b : Book) → HoldsStart h (next_file o b).row
  next_file_holds None b = judged_holds (first_fault b.files) b
  next_file_holds (Some f) b = tt

  pub filed_holds : (content : Option (List ℕ)) (f : ControlFile) (b : Book) → HoldsStart h (filed content f b).row
  filed_holds content f b = next_file_holds (file_after f) (record b { files = set b.files (place f) content })

  pub control_holds : (p : Progress) (f : ControlFile) (reading : Reading) (s : Said) (b : Book) → HoldsProgress h p → HoldsStart h (control_read p f reading s b).row
  control_holds (Goes Opening) f reading s b own = own
  control_holds (Goes (Going fd)) f reading s b own = own
  control_holds (Goes (Closing fd)) f reading s b own = own
  control_holds (Goes (Shutting fd)) f reading s b own = failed_holds s.way
  control_holds Whole f reading s b own = filed_holds (Some b.read) f b
  control_holds Missing f reading s b own = filed_holds None f b
  control_holds Failed f reading s b own = failed_holds s.way

  pub info_row_holds : (b : Bool) (split n : ℕ) → HoldsStart h (info_row b split n)
  info_row_holds true split n = tt
  info_row_holds false split n = tt

  pub info_holds : (p : Progress) (split n : ℕ) (reading : Reading) (s : Said) (b : Book) → HoldsProgress h p → HoldsStart h (info_read p split n reading s b).row
  info_holds (Goes Opening) split n reading s b own = own
  info_holds (Goes (Going fd)) split n reading s b own = own
  info_holds (Goes (Closing fd)) split n reading s b own = own
  info_holds (Goes (Shutting fd)) split n reading s b own = failed_holds s.way
  info_holds Whole split n reading s b own = info_row_holds (is_info b.read) split n
  info_holds Missing split n reading s b own = tt
  info_holds Failed split n reading s b own = failed_holds s.way

  pub greeted_holds : (w : Way) (bytes : List ℕ) (b : Book) → HoldsStart h (greeted_local w bytes b).row
  greeted_holds way.Fine [] b = tt
  greeted_holds way.Fine (byte ∷ rest) b = tt
  greeted_holds way.Over bytes b = tt
  greeted_holds way.Absent bytes b = tt
  greeted_holds way.Broken bytes b = tt
  greeted_holds way.NoMemory bytes b = tt

  pub greeted_too : (w : Way) (bytes : List ℕ) (b : Book) → HoldsStart h (greeted_remote w bytes b).row
  greeted_too way.Fine [] b = tt
  greeted_too way.Fine (byte ∷ rest) b = tt
  greeted_too way.Over bytes b = tt
  greeted_too way.Absent bytes b = tt
  greeted_too way.Broken bytes b = tt
  greeted_too way.NoMemory bytes b = tt

  pub either_start : (b : Bool) (x y : StartRow) → HoldsStart h x → HoldsStart h y → HoldsStart h (if b then x else y)
  either_start true x y p q = p
  either_start false x y p q = q

  pub scan_row_holds : (o : Option ℕ) (split : ℕ) → HoldsStart h (scan_row o split)
  scan_row_holds None split = tt
  scan_row_holds (Some n) split = tt

  pub scanned_holds : (w : Way) (text : List ℕ) (split : ℕ) (b : Book) → HoldsStart h (scanned w text split b).row
  scanned_holds way.Fine text split b = scan_row_holds (number_below split text) split
  scanned_holds way.Over text split b = either_start (nat_lt split 22) (start.Scan (split + 1)) start.Over tt tt
  scanned_holds way.Absent text split b = tt
  scanned_holds way.Broken text split b = tt
  scanned_holds way.NoMemory text split b = tt

  pub by_way_holds : (w : Way) (there missing : StartRow) → HoldsStart h there → HoldsStart h missing → HoldsStart h (by_way w there missing)
  by_way_holds way.Fine there missing p q = p
  by_way_holds way.Over there missing p q = tt
  by_way_holds way.Absent there missing p q = q
  by_way_holds way.Broken there missing p q = tt
  by_way_holds way.NoMemory there missing p q = tt

  pub remote_holds : (w : Way) (split n birth : ℕ) (local : Bool) (b : Book) → HoldsStart h (remote_stated w split n birth local b).row
  remote_holds way.Fine split n birth local b = tt
  remote_holds way.Over split n birth local b = tt
  remote_holds way.Absent split n birth local b = tt
  remote_holds way.Broken split n birth local b = tt
  remote_holds way.NoMemory split n birth local b = tt

  pub start_holds : (row : StartRow) (pass : Parts) → HoldsStart h row → HoldsAt h (start_at row) pass
  start_holds (start.Control f reading) pass own = own
  start_holds start.GreetLocal pass own = tt
  start_holds (start.GreetRemote limit) pass own = tt
  start_holds (start.Scan split) pass own = tt
  start_holds (start.StatTodo split n) pass own = tt
  start_holds (start.ReadInfo split n reading) pass own = own
  start_holds (start.StatInfo split n) pass own = tt
  start_holds (start.StatLocal split n birth) pass own = tt
  start_holds (start.StatRemote split n birth local) pass own = tt
  start_holds start.Over pass own = tt
  start_holds (start.Ended status) pass own = tt

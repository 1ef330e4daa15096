-- What the control files say by a sender's past (qmail-control(5)), from its events alone: each was read whole, or is missing. They
-- are read once, in the start.
use Rattle.std.specs.Prelude.{ℕ, List, [], ◌∷◌, ◌++◌, length, set, find, Bool, true, false, ◌&&◌, Option, Some, None, if◌then◌else◌, ◌==◌, nat_lt, bytes_eq}
use Rattle.address_rules.specs.declared.control_file.ControlFile.{ControlFile}
use Rattle.address_rules.specs.declared.control_file.ControlFile.TheVariants.{QueueLifetime}
use Rattle.address_rules.specs.declared.controls.Controls.{Controls}
use Rattle.address_rules.specs.Files.{Fault, all_files, controls_of, first_fault, place}
use Rattle.call_fs.specs.declared.calls.Answer.{Answer}
use Rattle.call_fs.specs.declared.calls.Answer.TheVariants as answer
use Rattle.call_fs.specs.declared.calls.CallData.{CallData}
use Rattle.call_fs.specs.declared.calls.CallData.TheVariants as call
use Rattle.call_fs.specs.declared.calls.Fd.{Fd}
use Rattle.call_fs.specs.declared.calls.FsError.TheVariants as why
use Rattle.call_fs.specs.declared.calls.How.TheVariants as how
use Rattle.call_fs.specs.declared.calls.Told.{Told as Answered}
use Rattle.call_fs.specs.declared.past.GotData.{GotData}
use Rattle.call_fs.specs.declared.past.GotData.TheVariants as came
use Rattle.call_fs.specs.declared.past.NeedData.{NeedData}
use Rattle.call_fs.specs.declared.past.NeedData.TheVariants as needs
use Rattle.call_fs.specs.declared.past.Own.{Own}
use Rattle.send_parts.specs.Start.{no_files}
use Rattle.send_parts.specs.Steps.{control_text}

-- The control file that is being read: its descriptor, the bytes so far, and whether the last read brought fewer bytes than were
-- asked for.
pub record Paper : Type 0 where
  pub file : ControlFile
  pub fd : Fd
  pub bytes : List ℕ
  pub over : Bool

pub data Papers : Type 0 where
  -- what was read of them so far, and the one that is being read
  Reads : (files : List (Option (List ℕ))) (held : Option Paper) → Papers
  -- all were read, and this is what they say
  Told : (controls : Controls) → Papers

abbrev pub has_name : List ℕ → ControlFile → Bool
has_name name file = bytes_eq (control_text file) name

abbrev pub control_named : List ℕ → Option ControlFile
control_named name = find (has_name name) all_files

-- once the last of them was read they say something, if none is bad
abbrev pub judged : Option Fault → List (Option (List ℕ)) → Papers
judged None files = Told (controls_of files)
judged (Some fault) files = Reads files None

abbrev pub filed_last : ControlFile → List (Option (List ℕ)) → Papers
filed_last QueueLifetime files = judged (first_fault files) files
filed_last file files = Reads files None

abbrev pub filed : ControlFile → Option (List ℕ) → List (Option (List ℕ)) → Papers
filed file content files = filed_last file (set files (place file) content)

-- a missing one is filed as that
abbrev pub opened_file : ControlFile → Answer → List (Option (List ℕ)) → Papers
opened_file file (answer.Opened fd) files = Reads files (Some (record { file = file; fd = fd; bytes = []; over = false }))
opened_file file (answer.Refused why.NotThere) files = filed file None files
opened_file file told files = Reads files None

abbrev pub opened_paper : Option ControlFile → Answer → List (Option (List ℕ)) → Papers
opened_paper None told files = Reads files None
opened_paper (Some file) told files = opened_file file told files

abbrev pub longer_paper : Paper → ℕ → Answer → List ℕ → Option Paper
longer_paper s len (answer.Count count) bytes = Some (record s { bytes = s.bytes ++ bytes; over = nat_lt (length bytes) len })
longer_paper s len told bytes = None

-- a read goes on with it if it is by its descriptor, from the end of the bytes so far
abbrev pub more_paper : Option Paper → Fd → ℕ → ℕ → Answered → Option Paper
more_paper None fd at len told = None
more_paper (Some s) fd at len told = if (fd.0 == s.fd.0) && (at == length s.bytes) then longer_paper s len told.answer told.bytes else Some s

-- one that was read whole is filed at its close
abbrev pub filed_if : Bool → Paper → List (Option (List ℕ)) → Papers
filed_if true s files = filed s.file (Some s.bytes) files
filed_if false s files = Reads files None

abbrev pub closed_paper : Option Paper → Fd → List (Option (List ℕ)) → Papers
closed_paper None fd files = Reads files None
closed_paper (Some s) fd files = filed_if ((fd.0 == s.fd.0) && s.over) s files

abbrev pub papers_on : CallData → Answered → List (Option (List ℕ)) → Option Paper → Papers
papers_on (call.Open name how.Read) told files held = opened_paper (control_named name) told.answer files
papers_on (call.ReadAt fd at len) told files held = Reads files (more_paper held fd at len told)
papers_on (call.Close fd) told files held = closed_paper held fd files
papers_on call told files held = Reads files held

abbrev pub papers_by : Papers → NeedData → GotData → Papers
papers_by (Told controls) due came = Told controls
papers_by (Reads files held) (needs.File call) (came.Answered told) = papers_on call told files held
papers_by (Reads files held) due came = Reads files held

-- after a past, newest event first
abbrev pub papers : List Own → Papers
papers [] = Reads no_files None
papers (event ∷ before) = papers_by (papers before) event.due event.came

-- what they say once all were read; before that what they would say if all were missing
abbrev pub controls_in : Papers → Controls
controls_in (Told controls) = controls
controls_in (Reads files held) = controls_of no_files

-- When `control/queuelifetime` was opened as descriptor 1, a read of 8192 bytes from 0 brought `9`, newline, and 1 was closed, and all
-- others are missing, a message may be in the queue for 9 seconds.
abbrev pub controls_told : List Own → Controls
controls_told past = controls_in (papers past)

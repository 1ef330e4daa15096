-- The sender's start: the control files, a byte of each spawner, and the scan of the info files.
use Rattle.std.specs.Prelude.{ℕ, ◌+◌, List, [], ◌∷◌, ◌++◌, min, replicate, take, set, Bool, true, false, Option, Some, None, if◌then◌else◌, nat_lt}
use Rattle.address_rules.specs.declared.control_file.ControlFile.{ControlFile}
use Rattle.address_rules.specs.declared.control_file.ControlFile.TheVariants as file
use Rattle.address_rules.specs.Files.{Fault, place, controls_of, first_fault}
use Rattle.send_known.specs.Messages.{learned, none_known}
use Rattle.send_parts.specs.declared.reading.Progress.{Progress}
use Rattle.send_parts.specs.declared.reading.Progress.TheVariants.{Goes, Whole, Missing, Failed}
use Rattle.send_parts.specs.declared.reading.Reading.{Reading}
use Rattle.send_parts.specs.declared.reading.Reading.TheVariants.{Opening, Shutting}
use Rattle.send_parts.specs.declared.reply.Way.{Way}
use Rattle.send_parts.specs.declared.reply.Way.TheVariants as way
use Rattle.send_parts.specs.Files.{is_info, number_below, sender_in}
use Rattle.send_parts.specs.Readings.{read_on}
use Rattle.send_parts.specs.Replies.{Said}
use Rattle.send_parts.specs.declared.rows.StartRow.{StartRow}
use Rattle.send_parts.specs.declared.rows.StartRow.TheVariants as start
use Rattle.send_parts.specs.declared.book.Book.{Book}
use Rattle.address_rules.specs.declared.controls.Controls.{Controls}
use Rattle.queue_limits.specs.declared.statuses.TheConstants.{BAD_CONTROL, MEMORY, NO_LOCAL, NO_REMOTE, NO_START}

abbrev pub no_files : List (Option (List ℕ))
no_files = replicate 12 None

-- nothing was read yet, and nothing is known; the first control file comes first
abbrev pub new_book : Book
new_book = record {
  row = start.Control file.Me Opening;
  files = no_files;
  controls = controls_of no_files;
  messages = none_known;
  read = [];
  after = [];
}

abbrev pub begins_at : StartRow → Book → Book
begins_at row b = record b { row = row }

-- out of memory ends it with 51, any other failure with 84
abbrev pub start_failed : Way → StartRow
start_failed way.NoMemory = start.Ended MEMORY
start_failed w = start.Ended NO_START

-- what a reading has read so far: an open begins anew
abbrev pub kept : Reading → List ℕ → List ℕ
kept Opening read = []
kept other read = read

-- The control files (qmail-control(5)), each read whole, in this order

abbrev pub file_after : ControlFile → Option ControlFile
file_after file.Me = Some file.Locals
file_after file.Locals = Some file.PercentHack
file_after file.PercentHack = Some file.VirtualDomains
file_after file.VirtualDomains = Some file.EnvNoAtHost
file_after file.EnvNoAtHost = Some file.BounceFrom
file_after file.BounceFrom = Some file.BounceHost
file_after file.BounceHost = Some file.DoubleBounceTo
file_after file.DoubleBounceTo = Some file.DoubleBounceHost
file_after file.DoubleBounceHost = Some file.ConcurrencyLocal
file_after file.ConcurrencyLocal = Some file.ConcurrencyRemote
file_after file.ConcurrencyRemote = Some file.QueueLifetime
file_after file.QueueLifetime = None

-- once all were read, a bad one ends it with 85
abbrev pub judged_by : Option Fault → Book → Book
judged_by None b = begins_at start.GreetLocal (record b { controls = controls_of b.files })
judged_by (Some fault) b = begins_at (start.Ended BAD_CONTROL) b

abbrev pub next_file : Option ControlFile → Book → Book
next_file None b = judged_by (first_fault b.files) b
next_file (Some next) b = begins_at (start.Control next Opening) b

-- one was read, or is missing, which means the default
abbrev pub filed : Option (List ℕ) → ControlFile → Book → Book
filed content f b = next_file (file_after f) (record b { files = set b.files (place f) content })

abbrev pub control_read : Progress → ControlFile → Reading → Said → Book → Book
control_read (Goes (Shutting fd)) f reading s b = begins_at (start_failed s.way) b
control_read (Goes next) f reading s b = begins_at (start.Control f next) (record b { read = kept reading b.read ++ s.bytes })
control_read Whole f reading s b = filed (Some b.read) f b
control_read Missing f reading s b = filed None f b
control_read Failed f reading s b = begins_at (start_failed s.way) b

-- A spawner's byte: how many deliveries it runs at once. The channel has as many slots, and no more than its control file says.

abbrev pub greeted_local : Way → List ℕ → Book → Book
greeted_local way.Fine (byte ∷ rest) b = begins_at (start.GreetRemote (min byte b.controls.concurrency_local)) b
greeted_local w bytes b = begins_at (start.Ended NO_LOCAL) b

abbrev pub greeted_remote : Way → List ℕ → Book → Book
greeted_remote way.Fine (byte ∷ rest) b = begins_at (start.Scan 0) (record b { after = [] })
greeted_remote w bytes b = begins_at (start.Ended NO_REMOTE) b

abbrev pub remote_limit : List ℕ → Controls → ℕ
remote_limit [] controls = 0
remote_limit (byte ∷ rest) controls = min byte controls.concurrency_remote

-- The scan of the info files. A name that is no number, or that of another directory, is passed over.

abbrev pub scan_next : ℕ → Book → Book
scan_next split b = record b { row = if nat_lt split 22 then start.Scan (split + 1) else start.Over; after = [] }

abbrev pub scan_row : Option ℕ → ℕ → StartRow
scan_row None split = start.Scan split
scan_row (Some n) split = start.StatTodo split n

abbrev pub scanned : Way → List ℕ → ℕ → Book → Book
scanned way.Fine text split b = record b { row = scan_row (number_below split text) split; after = take 255 text }
scanned way.Over text split b = scan_next split b
scanned w text split b = begins_at (start_failed w) b

-- of a stat: the row if the file is there, that if it is missing, or the end after a failure
abbrev pub by_way : Way → StartRow → StartRow → StartRow
by_way way.Fine there missing = there
by_way way.Absent there missing = missing
by_way w there missing = start_failed w

-- an info file that is missing, or isn't `F`, an address, NUL, is passed over
abbrev pub info_row : Bool → ℕ → ℕ → StartRow
info_row true split n = start.StatInfo split n
info_row false split n = start.Scan split

abbrev pub info_read : Progress → ℕ → ℕ → Reading → Said → Book → Book
info_read (Goes (Shutting fd)) split n reading s b = begins_at (start_failed s.way) b
info_read (Goes next) split n reading s b = begins_at (start.ReadInfo split n next) (record b { read = kept reading b.read ++ s.bytes })
info_read Whole split n reading s b = begins_at (info_row (is_info b.read) split n) b
info_read Missing split n reading s b = begins_at (start.Scan split) b
info_read Failed split n reading s b = begins_at (start_failed s.way) b

-- what is found is known, and due at moment 0
abbrev pub scan_known : ℕ → ℕ → ℕ → Bool → Bool → Book → Book
scan_known split n birth local remote b = begins_at (start.Scan split) (record b {
  messages = learned (record { n = n; birth = birth; finish_at = 0; local = local; remote = remote; sender = sender_in b.read }) 0 b.messages;
})

abbrev pub remote_stated : Way → ℕ → ℕ → ℕ → Bool → Book → Book
remote_stated way.Fine split n birth local b = scan_known split n birth local true b
remote_stated way.Absent split n birth local b = scan_known split n birth local false b
remote_stated w split n birth local b = begins_at (start_failed w) b

-- what came at a row of the start
abbrev pub act_start : StartRow → Said → Book → Book
act_start (start.Control f reading) s b = control_read (read_on reading s) f reading s b
act_start start.GreetLocal s b = greeted_local s.way s.bytes b
act_start (start.GreetRemote limit) s b = greeted_remote s.way s.bytes b
act_start (start.Scan split) s b = scanned s.way s.bytes split b
act_start (start.StatTodo split n) s b = begins_at (by_way s.way (start.Scan split) (start.ReadInfo split n Opening)) b
act_start (start.ReadInfo split n reading) s b = info_read (read_on reading s) split n reading s b
act_start (start.StatInfo split n) s b = begins_at (by_way s.way (start.StatLocal split n s.stat.moment) (start.Scan split)) b
act_start (start.StatLocal split n birth) s b = begins_at (by_way s.way (start.StatRemote split n birth true) (start.StatRemote split n birth false)) b
act_start (start.StatRemote split n birth local) s b = remote_stated s.way split n birth local b
act_start row s b = b

-- what comes of it may take memory
abbrev pub start_takes_memory : StartRow → Bool
start_takes_memory (start.Control f reading) = true
start_takes_memory (start.GreetRemote limit) = true
start_takes_memory (start.ReadInfo split n reading) = true
start_takes_memory (start.StatRemote split n birth local) = true
start_takes_memory row = false

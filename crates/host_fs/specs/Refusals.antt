-- What the refusals and the moments of the system mean.
use Rattle.std.specs.Prelude.{ℕ, ℤ, pos, negsuc, min, Bool, false, Result, Ok, Err}
use Rattle.std.specs.declared.io.ErrorKind.{ErrorKind}
use Rattle.std.specs.declared.io.ErrorKind.TheVariants.{NotFound, NotADirectory, AlreadyExists}
use Rattle.mail_bytes.specs.Told.{raised}
use Rattle.mail_bytes.specs.declared.moments.TheConstants.{LAST_MOMENT}
use Rattle.call_fs.specs.declared.calls.FsError.{FsError}
use Rattle.call_fs.specs.declared.calls.FsError.TheVariants.{NotThere, Exists, Fault, Memory}
use Rattle.call_fs.specs.declared.calls.Answer.{Answer}
use Rattle.call_fs.specs.declared.calls.Answer.TheVariants.{Refused}

-- of a call that needs a name, or a directory, that is there: a part on the way that is no directory is missing too
abbrev pub missing_or_fault : ErrorKind → FsError
missing_or_fault NotFound = NotThere
missing_or_fault NotADirectory = NotThere
missing_or_fault _ = Fault

-- of a call that makes a name: what stands there already, unless it is a directory, which is no name
abbrev pub refused : ErrorKind → Bool → FsError
refused AlreadyExists false = Exists
refused kind is_dir = missing_or_fault kind

-- of a call that has no answer for being out of memory
abbrev pub without_memory : FsError → FsError
without_memory Memory = Fault
without_memory why = why

-- the moment of so many seconds: the nearest one that a clock may tell
abbrev pub moment_of : ℤ → ℕ
moment_of (pos seconds) = min seconds LAST_MOMENT
moment_of (negsuc _) = 0

-- of a call of the system whose every failure is a fault
abbrev pub or_fault : {T E : Type 0} → Result T E → Result T FsError
or_fault (Ok value) = Ok value
or_fault (Err _) = Err Fault

-- how often it has failed, after an outcome; the count stands still at u64's last value
abbrev pub count_after : {T : Type 0} → ℕ → Result T FsError → ℕ
count_after before (Err Fault) = raised before
count_after before outcome = before

-- the same after an answer
abbrev pub count_told : ℕ → Answer → ℕ
count_told before (Refused Fault) = raised before
count_told before answer = before

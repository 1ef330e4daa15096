-- How a file is read to its end: it is opened, read in pieces of 8192 bytes until one is shorter, and closed. A close doesn't
-- fail.
use Rattle.std.specs.Prelude.{ℕ, List, length, if◌then◌else◌, nat_lt}
use Rattle.call_fs.specs.declared.file_system.TheConstants.{PIECE}
use Rattle.call_fs.specs.declared.calls.Fd.{Fd}
use Rattle.send_parts.specs.declared.reading.Progress.{Progress}
use Rattle.send_parts.specs.declared.reading.Progress.TheVariants.{Goes, Whole, Missing, Failed}
use Rattle.send_parts.specs.declared.reading.Reading.{Reading}
use Rattle.send_parts.specs.declared.reading.Reading.TheVariants.{Opening, Going, Closing, Shutting}
use Rattle.send_parts.specs.declared.reply.Way.{Way}
use Rattle.send_parts.specs.declared.reply.Way.TheVariants as way
use Rattle.send_parts.specs.declared.step.Step.{Step}
use Rattle.send_parts.specs.declared.step.Step.TheVariants as step
use Rattle.send_parts.specs.Replies.{Said}

abbrev pub opened : Way → Fd → Progress
opened way.Fine fd = Goes (Going fd)
opened way.Absent fd = Missing
opened w fd = Failed

abbrev pub read_more : Way → Fd → List ℕ → Progress
read_more way.Fine fd bytes = if nat_lt (length bytes) PIECE then Goes (Closing fd) else Goes (Going fd)
read_more w fd bytes = Goes (Shutting fd)

abbrev pub read_on : Reading → Said → Progress
read_on Opening s = opened s.way s.fd
read_on (Going fd) s = read_more s.way fd s.bytes
read_on (Closing fd) s = Whole
read_on (Shutting fd) s = Failed

-- a reading begins when its file is opened
abbrev pub begun_at : Reading → ℕ → ℕ → ℕ
begun_at Opening begun now = now
begun_at other begun now = begun

-- the step of a reading, of which this one opens the file and so many bytes were read
abbrev pub reading_step : Reading → Step → ℕ → Step
reading_step Opening opening at = opening
reading_step (Going fd) opening at = step.Read fd at
reading_step (Closing fd) opening at = step.Close fd
reading_step (Shutting fd) opening at = step.Close fd

-- The channel files of a queue by their records, and how it stands with the first mark of a channel.
use Rattle.std.specs.Prelude.{List, Bool, true, false, Option, Some, None}
use Rattle.envelope_records.specs.declared.channel.Record.{Record}
use Rattle.program_law.specs.Channel.Files.{Files}
use Rattle.program_law.specs.Channel.Tied.{First}
use Rattle.program_law.specs.Channel.Tied.First.{Unwritten, Unsure, Written}
use Rattle.send_parts.specs.declared.row.MarkRow.{MarkRow}
use Rattle.send_parts.specs.declared.row.MarkRow.TheVariants as mark
use Rattle.send_parts.specs.declared.row.Row.{Row}
use Rattle.send_parts.specs.declared.row.Row.TheVariants as at
use Rattle.send_core.specs.Agrees.{is_same}
use Rattle.send_known.specs.declared.channel.Channel.{Channel}
use Rattle.send_links.specs.Records.{records_of}
use Rattle.queue_paths.specs.Names.Name.{Of}
use Rattle.queue_law.specs.Numbers.{Queue, Entry, look}
use Rattle.queue_law.specs.Routes.{lane_part}

-- what a file has as records
abbrev pub records_at : Option Entry → Option (List Record)
records_at None = None
records_at (Some y) = records_of y.file.bytes

-- of each number that has a file of the channel, the records of that file
abbrev pub files_of : Queue → Channel → Files
files_of q ch n = records_at (look q (Of (lane_part ch) n))

-- The first mark of the channel at work: before its write its record reads `T`, after one that was done `D`, and after one that
-- failed either.
abbrev pub by_mark : MarkRow → First
by_mark (mark.Close fd true) = Written
by_mark (mark.Close fd false) = Unsure
by_mark row = Unwritten

abbrev pub first_if : Bool → MarkRow → First
first_if true row = by_mark row
first_if false row = Unwritten

abbrev pub first_at : Row → Channel → First
first_at (at.Mark row m) ch = first_if (is_same m.channel ch) row
first_at row ch = Unwritten

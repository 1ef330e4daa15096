-- What came of a step, in five ways.
use Rattle.std.specs.Prelude.{ℕ, List, [], Bool, true, false, if◌then◌else◌, ◌==◌}
use Rattle.call_fs.specs.declared.calls.Answer.{Answer}
use Rattle.call_fs.specs.declared.calls.Answer.TheVariants as answer
use Rattle.call_fs.specs.declared.calls.Fd.{Fd}
use Rattle.call_fs.specs.declared.calls.FsError.TheVariants as why
use Rattle.call_fs.specs.declared.calls.Stat.{Stat}
use Rattle.call_fs.specs.declared.past.GotData.{GotData}
use Rattle.call_fs.specs.declared.past.GotData.TheVariants as came
use Rattle.send_parts.specs.declared.reply.Reply.{Reply}
use Rattle.send_parts.specs.declared.reply.Way.{Way}
use Rattle.send_parts.specs.declared.reply.Way.TheVariants as way

-- How it came out, and what it gave: a descriptor, the state of a file, the bytes of a read, of a taking or of a name. What
-- it didn't give is 0 or empty.
pub record Said : Type 0 where
  pub way : Way
  pub fd : Fd
  pub stat : Stat
  pub bytes : List ℕ

abbrev pub said_of : Reply → Said
said_of r = record { way = r.way; fd = r.fd; stat = r.stat; bytes = r.bytes.now }

abbrev pub is_fine : Way → Bool
is_fine way.Fine = true
is_fine w = false

abbrev pub no_fd : Fd
no_fd = record { 0 = 0 }

abbrev pub no_stat : Stat
no_stat = record { number = 0; length = 0; moment = 0 }

abbrev pub plain : Way → Said
plain w = record { way = w; fd = no_fd; stat = no_stat; bytes = [] }

abbrev pub with_fd : Fd → Said
with_fd fd = record { way = way.Fine; fd = fd; stat = no_stat; bytes = [] }

abbrev pub with_stat : Stat → Said
with_stat stat = record { way = way.Fine; fd = no_fd; stat = stat; bytes = [] }

abbrev pub with_bytes : List ℕ → Said
with_bytes bytes = record { way = way.Fine; fd = no_fd; stat = no_stat; bytes = bytes }

-- `Exists` is a failure like any other
abbrev pub answered : Answer → List ℕ → Said
answered (answer.Created fd n) bytes = with_fd fd
answered (answer.Opened fd) bytes = with_fd fd
answered (answer.Count count) bytes = with_bytes bytes
answered answer.Done bytes = plain way.Fine
answered (answer.Stat stat) bytes = with_stat stat
answered (answer.Name name) bytes = with_bytes name
answered answer.NoName bytes = plain way.Over
answered (answer.Refused why.NotThere) bytes = plain way.Absent
answered (answer.Refused why.Memory) bytes = plain way.NoMemory
answered (answer.Refused why.Exists) bytes = plain way.Broken
answered (answer.Refused why.Fault) bytes = plain way.Broken

-- a program that ended with another status than 0 counts as a failure
abbrev pub said : GotData → Said
said (came.Answered told) = answered told.answer told.bytes
said (came.Took bytes) = with_bytes bytes
said came.End = plain way.Over
said (came.Ended status) = if status == 0 then plain way.Fine else plain way.Broken
said came.Crashed = plain way.Broken
said came.Gave = plain way.Fine
said (came.Started pid) = plain way.Fine
said came.Failed = plain way.Broken
said came.Memory = plain way.NoMemory

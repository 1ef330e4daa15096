-- An answer as it is kept, with its name on the heap.
use Rattle.std.specs.Prelude.{ℕ, ◌≤◌, length}
use Rattle.call_fs.specs.declared.calls.Answer.{Answer}
use Rattle.call_fs.specs.declared.calls.Answer.TheVariants as answer
use Rattle.call_fs.specs.declared.kept_answer.Short.{Short}
use Rattle.call_fs.specs.declared.kept_answer.Short.TheVariants as short

-- the answer that is kept
abbrev pub answer_of : Short → Answer
answer_of (short.Created fd number) = answer.Created fd number
answer_of (short.Opened fd) = answer.Opened fd
answer_of (short.Count count) = answer.Count count
answer_of short.Done = answer.Done
answer_of (short.Stat stat) = answer.Stat stat
answer_of (short.Name name) = answer.Name name
answer_of short.NoName = answer.NoName
answer_of (short.Refused why) = answer.Refused why

-- its name has at most 255 bytes
abbrev pub IsShort : Short → Type 0
IsShort (short.Name name) = length name ≤ 255
IsShort other = Unit {0}

-- room for so many bytes has place for the name of an answer, if it has one
abbrev pub HasRoomForName : ℕ → Answer → Type 0
HasRoomForName room (answer.Name name) = 255 ≤ room
HasRoomForName room other = Unit {0}

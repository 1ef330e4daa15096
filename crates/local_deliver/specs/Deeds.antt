-- What a local delivery met and did, by its past alone.
use Rattle.std.specs.Prelude.{ℕ, List, [], ◌∷◌, ◌++◌, length, nat_lt, Bool, Option, Some, None, bytes_eq, codes, if◌then◌else◌}
use Rattle.call_fs.specs.declared.calls.Answer.{Answer}
use Rattle.call_fs.specs.declared.calls.Answer.TheVariants as answer
use Rattle.call_fs.specs.declared.calls.CallData.{CallData}
use Rattle.call_fs.specs.declared.calls.CallData.TheVariants as call
use Rattle.call_fs.specs.declared.calls.FsError.TheVariants as why
use Rattle.call_fs.specs.declared.past.ChildData.{ChildData}
use Rattle.call_fs.specs.declared.past.GotData.{GotData}
use Rattle.call_fs.specs.declared.past.GotData.TheVariants as came
use Rattle.call_fs.specs.declared.past.NeedData.{NeedData}
use Rattle.call_fs.specs.declared.past.NeedData.TheVariants as needs
use Rattle.call_fs.specs.declared.past.Own.{Own}
use Rattle.call_fs.specs.declared.program.Port.TheVariants as port
use Rattle.local_parts.specs.Host.{host_in}

-- the names that this directory told, in order
abbrev pub told_by : (dir : List ℕ) → List (List ℕ) → CallData → Answer → List (List ℕ)
told_by dir old (call.NextName asked after) (answer.Name name) = if bytes_eq asked dir then old ++ name ∷ [] else old
told_by dir old c told = old

abbrev pub names_by : (dir : List ℕ) → List (List ℕ) → NeedData → GotData → List (List ℕ)
names_by dir old (needs.File c) (came.Answered told) = told_by dir old c told.answer
names_by dir old due got = old

abbrev pub told_names : (dir : List ℕ) → List Own → List (List ℕ)
told_names dir [] = []
told_names dir (event ∷ before) = names_by dir (told_names dir before) event.due event.came

-- the name of the file that was opened last
abbrev pub opened_by : List ℕ → CallData → Answer → List ℕ
opened_by old (call.Open name how) (answer.Opened fd) = name
opened_by old c told = old

abbrev pub opens_by : List ℕ → NeedData → GotData → List ℕ
opens_by old (needs.File c) (came.Answered told) = opened_by old c told.answer
opens_by old due got = old

abbrev pub last_opened : List Own → List ℕ
last_opened [] = []
last_opened (event ∷ before) = opens_by (last_opened before) event.due event.came

-- What was read of a file: nothing, since it wasn't opened, or wasn't there; this much so far; or all of it, since its last read gave
-- less than it asked for.
pub data FileText : Type 0 where
  Unopened : FileText
  Missing : FileText
  SoFar : List ℕ → FileText
  Whole : List ℕ → FileText

abbrev pub piece_of : (old bytes : List ℕ) → (is_last : Bool) → FileText
piece_of old bytes is_last = if is_last then Whole (old ++ bytes) else SoFar (old ++ bytes)

abbrev pub added : FileText → List ℕ → (is_last : Bool) → FileText
added (SoFar old) bytes is_last = piece_of old bytes is_last
added (Whole old) bytes is_last = piece_of old bytes is_last
added other bytes is_last = other

-- of the file of this name: a read is of the file that was opened last before
abbrev pub read_by : (name opened : List ℕ) → FileText → CallData → Answer → List ℕ → FileText
read_by name opened old (call.Open asked how) (answer.Opened fd) bytes = if bytes_eq asked name then SoFar [] else old
read_by name opened old (call.Open asked how) (answer.Refused why.NotThere) bytes = if bytes_eq asked name then Missing else old
read_by name opened old (call.ReadAt fd from most) (answer.Count count) bytes = if bytes_eq opened name then added old bytes (nat_lt (length bytes) most) else old
read_by name opened old c told bytes = old

abbrev pub reads_by : (name opened : List ℕ) → FileText → NeedData → GotData → FileText
reads_by name opened old (needs.File c) (came.Answered told) = read_by name opened old c told.answer told.bytes
reads_by name opened old due got = old

abbrev pub read_of : (name : List ℕ) → List Own → FileText
read_of name [] = Unopened
read_of name (event ∷ before) = reads_by name (last_opened before) (read_of name before) event.due event.came

-- the host that control/me names, once that was read; `localhost` if it wasn't there
abbrev pub me_name : List ℕ
me_name = codes "control/me"

abbrev pub host_of : FileText → Option (List ℕ)
host_of Missing = Some (codes "localhost")
host_of (Whole bytes) = host_in bytes
host_of other = None

abbrev pub host_read : List Own → Option (List ℕ)
host_read past = host_of (read_of me_name past)

-- the links that were made, in order: from this name to that one
abbrev pub LinkMade : Type 0
LinkMade = List ℕ × List ℕ

abbrev pub linked_by : List LinkMade → CallData → Answer → List LinkMade
linked_by old (call.Link from to) answer.Done = old ++ (from, to) ∷ []
linked_by old c told = old

abbrev pub links_by : List LinkMade → NeedData → GotData → List LinkMade
links_by old (needs.File c) (came.Answered told) = linked_by old c told.answer
links_by old due got = old

abbrev pub links : List Own → List LinkMade
links [] = []
links (event ∷ before) = links_by (links before) event.due event.came

-- the commands that exited, in order, and with what
abbrev pub Exited : Type 0
Exited = List ℕ × ℕ

abbrev pub exits_by : List Exited → NeedData → GotData → List Exited
exits_by old (needs.Command text) (came.Ended code) = old ++ (text, code) ∷ []
exits_by old due got = old

abbrev pub exits : List Own → List Exited
exits [] = []
exits (event ∷ before) = exits_by (exits before) event.due event.came

-- the programs that it started, in order
abbrev pub starts_by : List ChildData → NeedData → GotData → List ChildData
starts_by old (needs.Start child) (came.Started pid) = old ++ child ∷ []
starts_by old due got = old

abbrev pub starts : List Own → List ChildData
starts [] = []
starts (event ∷ before) = starts_by (starts before) event.due event.came

-- what it gave to the program that it started, in order
abbrev pub feeds_by : List (List ℕ) → NeedData → GotData → List (List ℕ)
feeds_by old (needs.Give (port.Program d) bytes) came.Gave = old ++ bytes ∷ []
feeds_by old due got = old

abbrev pub feeds : List Own → List (List ℕ)
feeds [] = []
feeds (event ∷ before) = feeds_by (feeds before) event.due event.came

-- with what that program exited
abbrev pub statuses_by : List ℕ → NeedData → GotData → List ℕ
statuses_by old (needs.Take (port.Status d)) (came.Ended code) = old ++ code ∷ []
statuses_by old due got = old

abbrev pub statuses : List Own → List ℕ
statuses [] = []
statuses (event ∷ before) = statuses_by (statuses before) event.due event.came

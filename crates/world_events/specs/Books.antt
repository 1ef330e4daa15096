-- The books: what became of each injection, by the events that were kept.
use Rattle.std.specs.Prelude.{ℕ, List, [], ◌∷◌, ◌++◌, length, map, take, Bool, false, ◌||◌, codes, bytes_eq, if◌then◌else◌, Option, Some, None, vec_len, vec_capacity, ◌<◌}
use Rattle.call_fs.specs.declared.calls.CallData.{CallData}
use Rattle.call_fs.specs.declared.calls.CallData.TheVariants.{Link}
use Rattle.call_fs.specs.declared.calls.Answer.{Answer}
use Rattle.call_fs.specs.declared.calls.Answer.TheVariants.{Done}
use Rattle.call_fs.specs.declared.past.NeedData.{NeedData}
use Rattle.call_fs.specs.declared.past.NeedData.TheVariants.{File}
use Rattle.call_fs.specs.declared.past.GotData.{GotData}
use Rattle.call_fs.specs.declared.past.GotData.TheVariants.{Answered}
use Rattle.queue_paths.specs.Names.{Name, used_name}
use Rattle.queue_paths.specs.Names.Name.{Of}
use Rattle.queue_paths.specs.Names.Part.{Mess}
use Rattle.queue_inject.specs.declared.injection.Arguments.{Arguments}
use Rattle.queue_inject.specs.Texts.{recipients_of}
use Rattle.world_events.specs.declared.event.Event.{Event as Kept}
use Rattle.world_events.specs.declared.event.Event.TheVariants as kept
use Rattle.world_events.specs.declared.books.Books.{Books}
use Rattle.world_events.specs.declared.books.Entry.{Entry}
use Rattle.world_events.specs.declared.books.Life.{Life as ToldLife}
use Rattle.world_events.specs.declared.books.Life.TheVariants as told
use Rattle.world_events.specs.Programs.{injection_of}

-- their entries, the oldest injection first
abbrev pub entries_of : Books → List Entry
entries_of books = books.entries.items

-- room for one entry more
abbrev pub HasPlace : Books → Type 0
HasPlace books = vec_len books.entries < vec_capacity books.entries

-- the entry of an injector that starts
abbrev pub new_entry : List ℕ → Arguments → Entry
new_entry a args = record { actor = a; pid = args.pid; number = None; recipients = length (recipients_of args); accepted = false; life = told.Alive }

-- the entry of an injector that is given its input, with these arguments from then on
abbrev pub fed_entry : Arguments → Entry → Entry
fed_entry args e = record e { recipients = length (recipients_of args) }

abbrev pub entry_by : List ℕ → Option Arguments → List Entry
entry_by a None = []
entry_by a (Some args) = new_entry a args ∷ []

-- the entry that an event begins
abbrev pub entered_by : Kept → List Entry
entered_by (kept.Start a program) = entry_by a (injection_of program)
entered_by (kept.Act a own) = []
entered_by (kept.Child a own b program) = entry_by b (injection_of program)
entered_by (kept.Feed a own b message envelope) = []
entered_by (kept.Generation start) = []
entered_by (kept.Report slot letter text) = []
entered_by (kept.End a read ready status) = []
entered_by (kept.Stop a) = []
entered_by (kept.Moment m) = []
entered_by (kept.Halt how) = []

-- a link to a name in todo, of either layout, answered Ok
abbrev pub queues : CallData → Answer → Bool
queues (Link old new) Done = bytes_eq (take 5 new) (codes "todo/") || bytes_eq (take 6 new) (codes "todox/")
queues call answer = false

-- an event put its actor's mail into the queue
abbrev pub queues_by : NeedData → GotData → Bool
queues_by (File call) (Answered told) = queues call told.answer
queues_by due came = false

-- the number of the message whose name a call linked, answered Ok
abbrev pub mess_number : Option Name → Option ℕ
mess_number (Some (Of Mess n)) = Some n
mess_number name = None

abbrev pub linked_number : CallData → Answer → Option ℕ
linked_number (Link old new) Done = mess_number (used_name new)
linked_number call answer = None

abbrev pub number_by : NeedData → GotData → Option ℕ
number_by (File call) (Answered told) = linked_number call told.answer
number_by due came = None

-- a number, or the one before if there is none
abbrev pub newer : Option ℕ → Option ℕ → Option ℕ
newer None before = before
newer (Some n) before = Some n

-- an entry after an event of its own actor
abbrev pub acted_on : NeedData → GotData → Entry → Entry
acted_on due came e = record e { number = newer (number_by due came) e.number; accepted = queues_by due came || e.accepted }

abbrev pub left_as : ToldLife → Entry → Entry
left_as life e = record e { life = life }

-- the life that a machine stop leaves
abbrev pub cut_off : ToldLife → ToldLife
cut_off told.Alive = told.Stopped
cut_off (told.Ended status) = told.Ended status
cut_off told.Stopped = told.Stopped

-- an entry after one event more
abbrev pub noted : Kept → Entry → Entry
noted (kept.Start a program) e = e
noted (kept.Act a own) e = if bytes_eq a e.actor then acted_on own.due own.came e else e
noted (kept.End a read ready status) e = if bytes_eq a e.actor then left_as (told.Ended status) e else e
noted (kept.Stop a) e = if bytes_eq a e.actor then left_as told.Stopped e else e
noted (kept.Child a own b program) e = e
noted (kept.Feed a own b message envelope) e = e
noted (kept.Generation start) e = e
noted (kept.Report slot letter text) e = e
noted (kept.Moment m) e = e
noted (kept.Halt how) e = left_as (cut_off e.life) e

-- the entries after these events, the newest event first
abbrev pub books_of : List Kept → List Entry
books_of [] = []
books_of (event ∷ before) = map (noted event) (books_of before) ++ entered_by event

-- What holds of each name and of each message number of the queue.
use Rattle.std.specs.Prelude.{◌≡◌, ◌≢◌, ℕ, ◌≤◌, List, Bool, true, false, Option, Some, None, option_map}
use Rattle.address_rules.specs.Nuls.{HaveNoNul}
use Rattle.call_fs.specs.Disk.{Disk, File, Among, IsSynced}
use Rattle.queue_inject.specs.declared.injection.Arguments.{Arguments}
use Rattle.queue_inject.specs.Texts.{message_text, intd_text}
use Rattle.queue_paths.specs.Names.{Name, Part, path}
use Rattle.queue_paths.specs.Names.Name.{Pid, Of}
use Rattle.queue_paths.specs.Names.Part.{Mess, Intd, Todo, Info, Local, Remote, Bounce, SplitIntd, SplitTodo}
use Rattle.queue_paths.specs.Parts.{in_intd, in_todo}
use Rattle.send_known.specs.declared.channel.Channel.{Channel}
use Rattle.queue_law.specs.Books.{Injection, Books, IsValid}
use Rattle.queue_law.specs.Routes.{info_of, lane_part}
use Rattle.queue_law.specs.Ledgers.{IsUnreturned, IsFresh}
use Rattle.queue_law.specs.Marks.{AllMarked, HasItsSpots, IsLaneDone, IsSettled}
use Rattle.queue_law.specs.Notes.{NotesState}

-- a file, and its number
pub record Entry : Type 0 where
  pub number : ℕ
  pub file : File

abbrev pub entry : (ℕ → File) → ℕ → Entry
entry files i = record { number = i; file = files i }

-- what a name leads to
unfoldable pub find : (List ℕ → Option ℕ) → (ℕ → File) → Name → Option Entry
find names files x = option_map (entry files) (names (path x))

-- what a file was made as: the message of an injector, a part of a number, or the drop of a delivery; or it was there at the beginning
pub data Role : Type 0 where
  AsMessage : (actor : List ℕ) (args : Arguments) → Role
  AsPart : Part → ℕ → Role
  AsDrop : (actor : List ℕ) → Role
  AsOld : Role

-- The queue at one point: its disk, who holds each open descriptor, its books, and what each file was made as.
pub record Queue : Type 0 where
  pub disk : Disk
  pub holder : ℕ → Option (List ℕ)
  pub books : Books
  pub role : ℕ → Role

abbrev pub look : Queue → Name → Option Entry
look q x = find q.disk.names q.disk.files x

-- A name suits what its file was made as: a pid name tells the start of its injector, and a message has the number of its
-- file. No program makes a name of the split layout.
abbrev pub IsPidRole : ℕ → Role → Type 0
IsPidRole start (AsMessage actor args) = args.start ≡ start
IsPidRole start (AsPart part n) = ⊥
IsPidRole start (AsDrop actor) = ⊥
IsPidRole start AsOld = Unit {0}

abbrev pub Suits : Name → ℕ → Role → Type 0
Suits (Pid pid start seq) i role = IsPidRole start role
Suits (Of Mess n) i role = (i ≡ n) × ((actor : List ℕ) × (args : Arguments) × (role ≡ AsMessage actor args))
Suits (Of Intd n) i role = role ≡ AsPart Todo n
Suits (Of Todo n) i role = role ≡ AsPart Todo n
Suits (Of Info n) i role = role ≡ AsPart Info n
Suits (Of Local n) i role = role ≡ AsPart Local n
Suits (Of Remote n) i role = role ≡ AsPart Remote n
Suits (Of Bounce n) i role = role ≡ AsPart Bounce n
Suits (Of SplitIntd n) i role = ⊥
Suits (Of SplitTodo n) i role = ⊥

-- a message file is no older than its injector
abbrev pub IsRecent : File → Role → Type 0
IsRecent f (AsMessage actor args) = args.start ≤ f.moment
IsRecent f (AsPart part n) = Unit {0}
IsRecent f (AsDrop actor) = Unit {0}
IsRecent f AsOld = Unit {0}

abbrev pub IsRight : Name → Entry → Role → Type 0
IsRight x y role = Suits x y.number role × IsRecent y.file role

abbrev pub NameSuits : Queue → Name → Type 0
NameSuits q x = (y : Entry) → look q x ≡ Some y → IsRight x y (q.role y.number)

abbrev pub NamesSuit : Queue → Type 0
NamesSuit q = (x : Name) → NameSuits q x

-- all that concerns one number
pub record About : Type 0 where
  pub parts : Part → Option Entry
  pub living : Option Injection

abbrev pub about : Queue → ℕ → About
about q n = record { parts = λ part. look q (Of part n); living = q.books.living n }

-- a part that comes with preprocessing, and a name of one
abbrev pub is_later : Part → Bool
is_later Info = true
is_later Local = true
is_later Remote = true
is_later Bounce = true
is_later other = false

abbrev pub is_later_name : Name → Bool
is_later_name (Pid pid start seq) = false
is_later_name (Of part n) = is_later part

-- preprocessing has made none of the number's files
abbrev pub IsUnsorted : About → Type 0
IsUnsorted w = (part : Part) → is_later part ≡ true → w.parts part ≡ None

-- preprocessing has made a file of the number
abbrev pub IsSorted : About → Type 0
IsSorted w = (part : Part) × (is_later part ≡ true) × (w.parts part ≢ None)

-- nothing of the number is accepted or queued
pub record IsFree (w : About) : Type 0 where
  pub unsorted : IsUnsorted w
  pub not_accepted : (i : Injection) → w.living ≡ Some i → i.accepted ≡ true → ⊥
  pub no_todo : in_todo w.parts ≡ None
  pub intd_below : w.parts Mess ≡ None → in_intd w.parts ≡ None

-- its message is accepted, whole, and on the disk
pub record IsTaken (w : About) : Type 0 where
  pub injection : Injection
  pub lives : w.living ≡ Some injection
  pub accepted : injection.accepted ≡ true
  pub mess : Entry
  pub mess_there : w.parts Mess ≡ Some mess
  pub message : IsSynced mess.file (message_text injection.args).bytes
  pub valid : IsValid injection.args
  pub spots : HasItsSpots injection

-- So it is, and its todo file, which is whole and on the disk, waits to be preprocessed. What preprocessing began may be there:
-- info, and the files of the channels, whatever they hold. Nothing was reported of it: so it may be routed anew, however often that is asked.
pub record IsQueued (w : About) : Type 0 where
  pub taken : IsTaken w
  pub todo : Entry
  pub todo_there : in_todo w.parts ≡ Some todo
  pub text : IsSynced todo.file (intd_text taken.injection.args).bytes
  pub no_bounce : w.parts Bounce ≡ None
  pub fresh : IsFresh taken.injection.ledger

-- The file of a channel after preprocessing: it is there, and each record of it reads `T`, or `D` if its recipient is done; or it isn't, and each
-- recipient of the channel is. A channel without recipients has none.
pub data LaneState (w : About) (i : Injection) (ch : Channel) : Type 0 where
  LaneThere : (y : Entry) → w.parts (lane_part ch) ≡ Some y → AllMarked i ch y.file → LaneState w i ch
  LaneGone : w.parts (lane_part ch) ≡ None → IsLaneDone i ch → LaneState w i ch

-- the file of an entry
abbrev pub file_in : Option Entry → Option File
file_in None = None
file_in (Some y) = Some y.file

-- It is preprocessed: todo is gone, and info and the channel files are those of its message, as it is routed; and its bounce file has the notes of it. While a
-- channel file is there nothing is returned.
pub record IsPreprocessed (w : About) : Type 0 where
  pub taken : IsTaken w
  pub no_todo : in_todo w.parts ≡ None
  pub no_intd : in_intd w.parts ≡ None
  pub no_nul : HaveNoNul taken.injection.ledger.routes
  pub info : Entry
  pub info_there : w.parts Info ≡ Some info
  pub text : IsSynced info.file (info_of taken.injection.args)
  pub lanes : (ch : Channel) → LaneState w taken.injection ch
  pub notes : NotesState taken.injection (file_in (w.parts Bounce))
  pub unsettled : (ch : Channel) → w.parts (lane_part ch) ≢ None → IsUnreturned taken.injection.ledger

-- It is finished: nothing is owed of its message, whose file may still be there, and no other is.
pub record IsFinished (w : About) : Type 0 where
  pub injection : Injection
  pub lives : w.living ≡ Some injection
  pub accepted : injection.accepted ≡ true
  pub message : (y : Entry) → w.parts Mess ≡ Some y → IsSynced y.file (message_text injection.args).bytes
  pub no_todo : in_todo w.parts ≡ None
  pub no_intd : in_intd w.parts ≡ None
  pub unsorted : IsUnsorted w
  pub settled : IsSettled injection

-- The phases of a number. `mail a a@x b@y : hi`, `run a` of number 1 leads from Free to Queued: mess/1 and
-- todo/1 are there, and intd/1. A preprocessing that makes info/1, local/1 and remote/1, and then takes intd/1 and todo/1 away, leads to
-- Sorted; the ledger has by which controls. There each final report goes into the ledger, and of one that failed a note into bounce/1; when that is synced the ledger has it
-- too, and then comes the mark of its record, which it has before. When the ledger has both recipients as marked, the channel files go; then a bounce
-- is injected, which the ledger tells, and bounce/1 goes; then info/1, which leads to Finished, then mess/1. A new injection of number 1 leads
-- to Free.
pub data Phase (w : About) : Type 0 where
  Free : IsFree w → Phase w
  Queued : IsQueued w → Phase w
  Sorted : IsPreprocessed w → Phase w
  Finished : IsFinished w → Phase w

-- of an accepted injection whose life is over nothing is owed
abbrev pub NoneLost : Books → Type 0
NoneLost b = (i : Injection) → Among i b.over → i.accepted ≡ true → IsSettled i

-- what holds of the names, of the numbers and of the books
pub record Sound (q : Queue) : Type 0 where
  pub suits : NamesSuit q
  pub fine : (n : ℕ) → Phase (about q n)
  pub over : NoneLost q.books

-- No number was preprocessed yet: no file that comes with it is there, each message that is accepted stands in todo, and no accepted
-- injection's life is over.
pub record IsEarly (q : Queue) : Type 0 where
  pub unsorted : (n : ℕ) → IsUnsorted (about q n)
  pub waits : (n : ℕ) (i : Injection) → q.books.living n ≡ Some i → i.accepted ≡ true → in_todo (about q n).parts ≢ None
  pub none_over : (i : Injection) → Among i q.books.over → i.accepted ≡ true → ⊥

-- What is claimed of histories in which no generation was started: each accepted message waits in todo.
use Rattle.std.specs.Prelude.{◌≡◌, List, [], ◌∷◌, ◌++◌, Bool, true, false, Some}
use Rattle.call_fs.specs.Disk.{Disk}
use Rattle.queue_law.specs.Accounts.{IsInTodo}
use Rattle.mail_world.specs.History.{Event, Injection, State, after, Legal}
use Rattle.mail_world.specs.History.Event.{Start, Act, Child, Generation, Report, End, Stop, Moment, Halt}
-- injections, and what is valid
pub use Rattle.queue_law.specs.Books.{IsInjected, IsValid, HasQueued}

-- the life of each accepted injection lasts, and todo has it
abbrev pub AllWait : State → Type 0
AllWait s = (q : Injection) → IsInjected s.books q → q.accepted ≡ true → (s.books.living q.number ≡ Some q) × IsInTodo s.disk q

-- so it is at each prefix of a history
abbrev pub EachWaiting : Disk → List Event → Type 0
EachWaiting opening h = (later before : List Event) → later ++ before ≡ h → AllWait (after opening before)

-- the start of a generation
abbrev pub is_generation : Event → Bool
is_generation (Start a program) = false
is_generation (Act a own wrote) = false
is_generation (Child parent own a program) = false
is_generation (Generation crew) = true
is_generation (Report slot output) = false
is_generation (End a read ready status) = false
is_generation (Stop a) = false
is_generation (Moment m) = false
is_generation (Halt how contents) = false

-- no generation was started
abbrev pub HasNoGeneration : List Event → Type 0
HasNoGeneration [] = Unit {0}
HasNoGeneration (event ∷ before) = HasNoGeneration before × (is_generation event ≡ false)

-- Only a generation takes a message out of todo.
abbrev pub MailsWait : Type 0
MailsWait = (d : Disk) (h : List Event) → Legal d h → HasNoGeneration h → EachWaiting d h

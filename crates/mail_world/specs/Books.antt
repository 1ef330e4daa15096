-- The books of a world: what became of each injection, by the events that the world kept, and by each history that they
-- tell.
use Rattle.std.specs.Prelude.{◌≡◌, ◌↔◌, ℕ, ◌+◌, List, [], ◌∷◌, ◌++◌, length, map, reverse, Bool, true, false, ◌&&◌, ◌||◌, bytes_eq, if◌then◌else◌, Option, Some, None}
use Rattle.std.specs.List.{AllZip, slice_get}
use Rattle.call_fs.specs.declared.calls.CallData.{CallData}
use Rattle.call_fs.specs.declared.calls.CallData.TheVariants.{Link}
use Rattle.call_fs.specs.declared.calls.Answer.{Answer}
use Rattle.call_fs.specs.declared.calls.Answer.TheVariants.{Done}
use Rattle.call_fs.specs.declared.past.NeedData.{NeedData}
use Rattle.call_fs.specs.declared.past.NeedData.TheVariants.{File}
use Rattle.call_fs.specs.declared.past.GotData.{GotData}
use Rattle.call_fs.specs.declared.past.GotData.TheVariants.{Answered}
use Rattle.call_fs.specs.Disk.{Disk, Among}
use Rattle.queue_paths.specs.Names.{Name, path, parse, is_number}
use Rattle.queue_paths.specs.Names.Name.{Of}
use Rattle.queue_paths.specs.Names.Part.{Intd, Todo, SplitIntd, SplitTodo}
use Rattle.queue_inject.specs.declared.injection.Arguments.{Arguments}
use Rattle.queue_inject.specs.Texts.{recipients_of}
use Rattle.world_events.specs.declared.event.Event.{Event as Kept}
use Rattle.mail_world.specs.declared.actor.Actor.{Actor as Held}
use Rattle.world_events.specs.declared.books.Entry.{Entry}
use Rattle.world_events.specs.declared.books.Life.{Life as ToldLife}
use Rattle.world_events.specs.declared.books.Life.TheVariants as told
use Rattle.mail_world.specs.ByKind.{injection_of}
use Rattle.mail_world.specs.History.{Event, Actor, Life, State, Injection, after, Legal}
use Rattle.mail_world.specs.History.Event.{Start, Act, Child, Generation, Report, End, Stop, Moment, Halt}
use Rattle.mail_world.specs.History.Life.{Alive, Over, Stopped}
use Rattle.mail_world.specs.Waiting.{IsInjected, HasQueued, HasNoGeneration}
use Rattle.mail_world.specs.World.{Tells, with_inputs}
-- the books by the events that a world kept
pub use Rattle.world_events.specs.Books.{entries_of, HasPlace, new_entry, entry_by, entered_by, queues, queues_by, mess_number, linked_number, number_by, newer, acted_on, left_as, cut_off, noted, books_of}

-- what a world's books keep: the entry of each mail, as its events tell it
pub record AreBooked (crew : ℕ) (entries : List Entry) (actors : List Held) (events : List Kept) : Type 0 where
  pub are : entries ≡ books_of (with_inputs (reverse events))
  -- the entry of an actor is its own
  pub here : (i k : ℕ) (x : Held) → slice_get actors i ≡ Some x → x.entry ≡ Some k → (e : Entry) × (slice_get entries k ≡ Some e) × (e.actor ≡ x.name)
  -- and each entry is that of an actor after the members
  pub owned : (k : ℕ) (e : Entry) → slice_get entries k ≡ Some e → (i : ℕ) × (x : Held) × (slice_get actors (crew + i) ≡ Some x) × (x.name ≡ e.actor) × (x.entry ≡ Some k)

-- By a history

-- a link of intd to todo, of either layout, answered Ok, accepts a mail
abbrev pub is_to_todo : List ℕ → Option Name → Bool
is_to_todo old (Some (Of Todo n)) = bytes_eq old (path (Of Intd n))
is_to_todo old (Some (Of SplitTodo n)) = bytes_eq old (path (Of SplitIntd n))
is_to_todo old name = false

abbrev pub is_accepting : CallData → Answer → Bool
is_accepting (Link old new) Done = is_to_todo old (parse new)
is_accepting call answer = false

abbrev pub is_accepting_by : NeedData → GotData → Bool
is_accepting_by (File call) (Answered told) = is_accepting call told.answer
is_accepting_by due came = false

-- that injector made such a link
abbrev pub is_accepted : List ℕ → List Event → Bool
is_accepted name [] = false
is_accepted name ((Act a own wrote) ∷ before) = (bytes_eq a name && is_accepting_by own.due own.came) || is_accepted name before
is_accepted name ((Start a program) ∷ before) = is_accepted name before
is_accepted name ((Child parent own a program) ∷ before) = is_accepted name before
is_accepted name ((Generation crew) ∷ before) = is_accepted name before
is_accepted name ((Report slot output) ∷ before) = is_accepted name before
is_accepted name ((End a read ready status) ∷ before) = is_accepted name before
is_accepted name ((Stop a) ∷ before) = is_accepted name before
is_accepted name ((Moment m) ∷ before) = is_accepted name before
is_accepted name ((Halt how contents) ∷ before) = is_accepted name before

-- the number of the message whose name that injector linked
abbrev pub number_of : List ℕ → List Event → Option ℕ
number_of name [] = None
number_of name ((Act a own wrote) ∷ before) = newer (if bytes_eq a name then number_by own.due own.came else None) (number_of name before)
number_of name ((Start a program) ∷ before) = number_of name before
number_of name ((Child parent own a program) ∷ before) = number_of name before
number_of name ((Generation crew) ∷ before) = number_of name before
number_of name ((Report slot output) ∷ before) = number_of name before
number_of name ((End a read ready status) ∷ before) = number_of name before
number_of name ((Stop a) ∷ before) = number_of name before
number_of name ((Moment m) ∷ before) = number_of name before
number_of name ((Halt how contents) ∷ before) = number_of name before

-- an actor with what it was started with, if it is a mail
abbrev pub mail_by : List ℕ → Option Arguments → List (List ℕ × Arguments)
mail_by a None = []
mail_by a (Some args) = (a, args) ∷ []

-- the mails that were started, in order
abbrev pub mails_of : List Event → List (List ℕ × Arguments)
mails_of [] = []
mails_of ((Start a program) ∷ before) = mails_of before ++ mail_by a (injection_of program)
mails_of ((Act a own wrote) ∷ before) = mails_of before
mails_of ((Child parent own a program) ∷ before) = mails_of before ++ mail_by a (injection_of program)
mails_of ((Generation crew) ∷ before) = mails_of before
mails_of ((Report slot output) ∷ before) = mails_of before
mails_of ((End a read ready status) ∷ before) = mails_of before
mails_of ((Stop a) ∷ before) = mails_of before
mails_of ((Moment m) ∷ before) = mails_of before
mails_of ((Halt how contents) ∷ before) = mails_of before

-- the life of an actor, as it is told
abbrev pub told_life : Life → ToldLife
told_life Alive = told.Alive
told_life (Over status) = told.Ended status
told_life Stopped = told.Stopped

abbrev pub life_in : Option Actor → ToldLife
life_in None = told.Alive
life_in (Some x) = told_life x.life

-- what became of a mail
abbrev pub entry_in : State → List Event → List ℕ × Arguments → Entry
entry_in s h mail = record {
  actor = mail.0;
  pid = mail.1.pid;
  number = number_of mail.0 h;
  recipients = length (recipients_of mail.1);
  accepted = is_accepted mail.0 h;
  life = life_in (s.actors mail.0);
}

-- what became of each mail, after a history that began with this disk
abbrev pub books_in : Disk → List Event → List Entry
books_in d h = map (entry_in (after d h) h) (mails_of h)

-- The books of a world are those of each legal history that its events tell.
abbrev pub BooksAreTheModels : Type 0
BooksAreTheModels =
    (d : Disk) (events : List Kept) (h : List Event) → Legal d h → AllZip Tells (with_inputs (reverse events)) h
    → books_of (with_inputs (reverse events)) ≡ books_in d h

-- An injection of the state's books is of one of the mails that were started, and has the number that these books tell of it.
pub record IsOfMail (h : List Event) (q : Injection) : Type 0 where
  pub mail : Among (q.actor, q.args) (mails_of h)
  pub number : is_number q.number ≡ true → number_of q.actor h ≡ Some q.number

-- A mail is accepted in them exactly if the books of the state have an accepted injection of it; and each injection there,
-- accepted or not, is of its actor's mail, with that mail's sender and recipients, and has its number. It is claimed of histories
-- in which no generation was started.
abbrev pub AcceptedAreBooked : Type 0
AcceptedAreBooked =
    (d : Disk) (events : List Kept) (h : List Event) → Legal d h → HasNoGeneration h → AllZip Tells (with_inputs (reverse events)) h
    → ((a : List ℕ) → (is_accepted a h ≡ true) ↔ ((args : Arguments) × HasQueued (after d h).books a args))
    × ((q : Injection) → IsInjected (after d h).books q → IsOfMail h q)

-- What a step leaves: of the queue, of all that isn't the queue's, and of other injectors.
use Rattle.std.specs.Prelude.{◌≡◌, ◌≢◌, ◌⊎◌, ℕ, ◌+◌, ◌≤◌, List, ◌∷◌, Bool, true, false, Option, Some, None}
use Rattle.call_fs.specs.declared.calls.CallData.{CallData}
use Rattle.call_fs.specs.declared.calls.Answer.{Answer}
use Rattle.call_fs.specs.declared.calls.Told.{Told}
use Rattle.call_fs.specs.declared.program.Ready.{Ready as Found}
use Rattle.call_fs.specs.declared.past.NeedData.TheVariants as needs
use Rattle.call_fs.specs.declared.past.Own.{Own}
use Rattle.call_fs.specs.Apply.{effect, Fits}
use Rattle.call_fs.specs.Disk.{Disk, Open}
use Rattle.call_fs.specs.Survival.{AllSurvive, halted}
use Rattle.queue_inject.specs.declared.injection.Arguments.{Arguments}
use Rattle.queue_inject.specs.Table.{Next}
use Rattle.queue_limits.specs.declared.times.TheConstants.{LONGEST_STALL}
use Rattle.queue_paths.specs.Names.{Name, Part, path}
use Rattle.queue_paths.specs.Names.Name.{Pid, Of}
use Rattle.queue_paths.specs.Names.Part.{Mess}
use Rattle.queue_law.specs.Books.{Injection, IsInjected, IsLater, begun, booked, held_by, last_read, own_call}
use Rattle.queue_law.specs.Numbers.{Role, Queue, Entry, look, about, is_later, IsUnsorted, IsSorted, Sound, IsEarly}
use Rattle.queue_law.specs.Numbers.Role.{AsMessage, AsPart, AsDrop, AsOld}
use Rattle.queue_law.specs.Injectors.{InTime, IsHeld, InjectorFares}
use Rattle.queue_law.specs.Rests.{Spares, SparesNames}

-- a name concerns a number: a part its own, a pid name that of its file
abbrev pub Concerns : Queue → Name → Option ℕ → Type 0
Concerns q (Pid pid start seq) m = (y : Entry) → look q (Pid pid start seq) ≡ Some y → m ≡ Some y.number
Concerns q (Of part n) m = m ≡ Some n

-- An injector that made the file with this number may still touch it: the file isn't a message yet, or its message isn't accepted yet.
abbrev pub Touches : Queue → List ℕ → Arguments → ℕ → Type 0
Touches q o args n = (look q (Of Mess n) ≡ None) ⊎ (q.books.living n ≡ Some (begun o args n))

-- the files of other injectors that may still call, and touch them, haven't the number in m
abbrev pub Apart : ℕ → Queue → List ℕ → Option ℕ → Type 0
Apart now q a m =
    (o : List ℕ) (args : Arguments) → o ≢ a → InTime now args → (x : Name) (y : Entry) → look q x ≡ Some y
    → q.role y.number ≡ AsMessage o args → Touches q o args y.number → m ≢ Some y.number

-- What a step of a, from q to r, leaves of all but the number in m: each other name with its file, each other
-- injection, what other actors hold open, what each file was made as, and what was accepted, of which only ledgers grow. The
-- files of other injectors that may still touch them are among the rest.
pub record Elsewhere (now : ℕ) (a : List ℕ) (m : Option ℕ) (q r : Queue) : Type 0 where
  pub looks : (x : Name) → (Concerns q x m → ⊥) → look r x ≡ look q x
  pub living : (n : ℕ) → m ≢ Some n → r.books.living n ≡ q.books.living n
  pub opens : (o : List ℕ) (fd : ℕ) (how : Open) → o ≢ a → IsHeld q.disk.opens q.holder o fd how → IsHeld r.disk.opens r.holder o fd how
  pub roles : (x : Name) (y : Entry) → look q x ≡ Some y → r.role y.number ≡ q.role y.number
  pub apart : Apart now q a m
  pub accepted : (i : Injection) → IsInjected q.books i → i.accepted ≡ true → (j : Injection) × IsInjected r.books j × IsLater i j

-- What a step of a, a program that is none of the queue's, leaves: the queue's names lead where they led, to files that are as
-- they were; others hold open what they did; and the books are the same, and what each file was made as that has a name.
pub record Foreign (a : List ℕ) (q r : Queue) : Type 0 where
  pub names : (x : Name) → r.disk.names (path x) ≡ q.disk.names (path x)
  pub files : (x : Name) (i : ℕ) → q.disk.names (path x) ≡ Some i → r.disk.files i ≡ q.disk.files i
  pub opens : (o : List ℕ) (fd : ℕ) (how : Open) → o ≢ a → IsHeld q.disk.opens q.holder o fd how → IsHeld r.disk.opens r.holder o fd how
  pub books : r.books ≡ q.books
  pub role : (name : List ℕ) (i : ℕ) → q.disk.names name ≡ Some i → r.role i ≡ q.role i

-- a file that has a name, and none of the queue's
pub record IsOutside (d : Disk) (i : ℕ) : Type 0 where
  pub name : List ℕ
  pub there : d.names name ≡ Some i
  pub unqueued : (x : Name) → d.names (path x) ≢ Some i

-- What a step leaves of all that isn't the queue's: each other name leads where it led, and the files that only such names
-- have are as they were, and get none of the queue's names.
pub record Outside (d e : Disk) : Type 0 where
  pub names : (name : List ℕ) → ((x : Name) → path x ≢ name) → e.names name ≡ d.names name
  pub files : (i : ℕ) → IsOutside d i → e.files i ≡ d.files i
  pub unqueued : (i : ℕ) → IsOutside d i → (x : Name) → e.names (path x) ≢ Some i

-- made by none of the queue's programs: there at the beginning, or the drop of a delivery
abbrev pub IsForeignRole : Role → Type 0
IsForeignRole (AsMessage actor args) = ⊥
IsForeignRole (AsPart part n) = ⊥
IsForeignRole (AsDrop actor) = Unit {0}
IsForeignRole AsOld = Unit {0}

-- What a step of one of the queue's programs leaves of the files that have a name: what each was made as; and each that none of them
-- made is as it was, also if a name in `pid` that was left over leads to it.
pub record LeavesOld (q r : Queue) : Type 0 where
  pub files : (name : List ℕ) (i : ℕ) → q.disk.names name ≡ Some i → IsForeignRole (q.role i) → r.disk.files i ≡ q.disk.files i
  pub roles : (name : List ℕ) (i : ℕ) → q.disk.names name ≡ Some i → r.role i ≡ q.role i

-- the later names lead where they led, to the same files
abbrev pub LeavesLater : Queue → Queue → Type 0
LeavesLater q r = (part : Part) (n : ℕ) → is_later part ≡ true → look r (Of part n) ≡ look q (Of part n)

-- the queue after a call
abbrev pub queue_after : Queue → List ℕ → Arguments → (read : ℕ) → CallData → Answer → (wrote : ℕ) → (ℕ → Role) → Queue
queue_after q a args read call answer wrote role = record {
  disk = effect q.disk read call answer wrote;
  holder = held_by q.holder a call answer;
  books = booked q.books a args call answer;
  role = role;
}

-- what its call leads to
pub record InjectorCalls (now : ℕ) (q : Queue) (a : List ℕ) (args : Arguments) (past : List Own) (read : ℕ) (ready : Found) (call : CallData) (told : Told) (wrote : ℕ) : Type 0 where
  pub role : ℕ → Role
  pub number : Option ℕ
  pub elsewhere : Elsewhere now a number q (queue_after q a args read call told.answer wrote role)
  pub sound : Sound (queue_after q a args read call told.answer wrote role)
  pub fares : InjectorFares now (queue_after q a args read call told.answer wrote role) a args (own_call read ready call told ∷ past) true false
  pub outside : Outside q.disk (queue_after q a args read call told.answer wrote role).disk
  pub old : LeavesOld q (queue_after q a args read call told.answer wrote role)
  -- what was accepted is as before
  pub accepted : (i : Injection) → IsInjected q.books i → i.accepted ≡ true → IsInjected (queue_after q a args read call told.answer wrote role).books i
  -- all that concerns a preprocessed number is as before, and no number is preprocessed by it
  pub sorted : (n : ℕ) → IsSorted (about q n) → about (queue_after q a args read call told.answer wrote role) n ≡ about q n
  pub unsorted : (n : ℕ) → IsUnsorted (about q n) → IsUnsorted (about (queue_after q a args read call told.answer wrote role) n)
  pub early : IsEarly q → IsEarly (queue_after q a args read call told.answer wrote role)
  -- each number that is closed to injectors stays as it was
  pub spares : Spares now None q (queue_after q a args read call told.answer wrote role)
  pub names : SparesNames q (queue_after q a args read call told.answer wrote role)

-- the queue afterwards
abbrev pub after_halt : (ℕ → List ℕ) → Queue → Queue
after_halt contents q = record { disk = halted contents q.disk; holder = λ _. None; books = q.books; role = q.role }

-- The laws

-- a call of an injector that is due keeps what holds of the queue and of it, and leaves all else
abbrev pub CallsKeep : Type 0
CallsKeep = (now : ℕ) (q : Queue) (a : List ℕ) (args : Arguments) (past : List Own) (read : ℕ) (ready : Found) (call : CallData) (told : Told) (wrote : ℕ)
    → Sound q → InjectorFares now q a args past true false → last_read args.start past ≤ read → now ≤ read + LONGEST_STALL
    → Next args past read ready ≡ needs.File call → Fits q.disk call told.answer wrote
    → InjectorCalls now q a args past read ready call told wrote

-- a step of a program that is none of the queue's keeps what holds of the queue, and leaves all that concerns each number
pub record ForeignersKeep : Type 0 where
  pub sound : (a : List ℕ) (q r : Queue) → Foreign a q r → Sound q → Sound r
  pub elsewhere : (now : ℕ) (a : List ℕ) (q r : Queue) → Foreign a q r → Elsewhere now a None q r
  pub abouts : (a : List ℕ) (q r : Queue) → Foreign a q r → (n : ℕ) → about r n ≡ about q n
  pub early : (a : List ℕ) (q r : Queue) → Foreign a q r → IsEarly q → IsEarly r

-- what a step of another actor leaves is enough for an injector
abbrev pub OthersKeep : Type 0
OthersKeep = (now : ℕ) (a : List ℕ) (m : Option ℕ) (q r : Queue) → Elsewhere now a m q r
    → (o : List ℕ) → o ≢ a → (args : Arguments) (past : List Own) (lives ended : Bool) → InjectorFares now q o args past lives ended → InjectorFares now r o args past lives ended

-- A machine stop keeps what holds of the queue, and stops each injector that lives. A record that was marked since the last sync of
-- its file may read `T` again; what is gone stays gone, and ledgers stay.
pub record HaltsKeep : Type 0 where
  pub sound : (q : Queue) (contents : ℕ → List ℕ) → AllSurvive q.disk contents → Sound q → Sound (after_halt contents q)
  pub early : (q : Queue) (contents : ℕ → List ℕ) → IsEarly q → IsEarly (after_halt contents q)
  pub fares : (now : ℕ) (q : Queue) (contents : ℕ → List ℕ) (a : List ℕ) (args : Arguments) (past : List Own) (lives ended : Bool)
      → InjectorFares now q a args past lives ended → InjectorFares now (after_halt contents q) a args past false ended

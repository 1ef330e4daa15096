-- What an injector relies on at each row of its table, and how it fares.
use Rattle.std.specs.Prelude.{◌≡◌, ◌≢◌, ℕ, ◌+◌, ◌≤◌, List, [], Bool, true, Option, Some, None, take}
use Rattle.call_fs.specs.Disk.{File, Open, IsSynced}
use Rattle.call_fs.specs.declared.modes.Mode.{Mode}
use Rattle.call_fs.specs.declared.past.Own.{Own}
use Rattle.queue_inject.specs.declared.injection.Arguments.{Arguments}
use Rattle.queue_inject.specs.declared.row.Row.{Row}
use Rattle.queue_inject.specs.declared.row.Row.TheVariants as at
use Rattle.queue_inject.specs.Texts.{message_text, intd_text}
use Rattle.queue_inject.specs.Table.{place_after as inject_after}
use Rattle.queue_limits.specs.declared.times.TheConstants.{DAY, LONGEST_STALL}
use Rattle.queue_paths.specs.Names.Name.{Pid, Of}
use Rattle.queue_paths.specs.Names.Part.{Mess, Intd}
use Rattle.queue_paths.specs.Parts.{in_intd, in_todo}
use Rattle.queue_law.specs.Books.{Books, begun, last_read, IsValid, HasQueued}
use Rattle.queue_law.specs.Numbers.{Queue, look, About, about, IsUnsorted}
use Rattle.queue_law.specs.Numbers.Role.{AsMessage}

-- the status of a failure isn't 0
abbrev pub IsFailure : ℕ → Type 0
IsFailure status = status ≢ 0

-- a descriptor of this actor, open on this file in this mode
pub record IsHeld (opens : ℕ → Option Open) (holder : ℕ → Option (List ℕ)) (a : List ℕ) (fd : ℕ) (how : Open) : Type 0 where
  pub opened : opens fd ≡ Some how
  pub held : holder fd ≡ Some a

-- the file was created by it
abbrev pub created : ℕ → Open
created i = record { number = i; mode = Mode.Created }

abbrev pub IsOpen : Queue → List ℕ → ℕ → ℕ → Type 0
IsOpen q a fd i = IsHeld q.disk.opens q.holder a fd (created i)

-- the injection has begun: mess/n is its own, and it isn't queued
pub record IsBegun (w : About) (a : List ℕ) (args : Arguments) (n : ℕ) : Type 0 where
  pub unsorted : IsUnsorted w
  pub file : File
  pub mess : w.parts Mess ≡ Some (record { number = n; file = file })
  pub no_todo : in_todo w.parts ≡ None
  pub lives : w.living ≡ Some (begun a args n)

-- no intd is there
pub record IsBare (w : About) (a : List ℕ) (args : Arguments) (n : ℕ) : Type 0 where
  pub begins : IsBegun w a args n
  pub no_intd : in_intd w.parts ≡ None

-- the message file has these bytes so far
pub record IsDraft (w : About) (a : List ℕ) (args : Arguments) (n : ℕ) (bytes : List ℕ) : Type 0 where
  pub bare : IsBare w a args n
  pub holds : bare.begins.file.bytes ≡ bytes

-- the message file is done
pub record IsWhole (w : About) (a : List ℕ) (args : Arguments) (n : ℕ) : Type 0 where
  pub bare : IsBare w a args n
  pub message : IsSynced bare.begins.file (message_text args).bytes

-- so it is, and intd is file i, which fulfils this
pub record HasIntd (w : About) (a : List ℕ) (args : Arguments) (n i : ℕ) (Fulfils : File → Type 0) : Type 0 where
  pub begins : IsBegun w a args n
  pub message : IsSynced begins.file (message_text args).bytes
  pub file : File
  pub intd : w.parts Intd ≡ Some (record { number = i; file = file })
  pub fulfils : Fulfils file

abbrev pub HasBytes : List ℕ → File → Type 0
HasBytes bytes f = f.bytes ≡ bytes

-- the message file is this injector's, and of its number this holds
pub record Holds (q : Queue) (a : List ℕ) (args : Arguments) (n : ℕ) (P : About → Type 0) : Type 0 where
  pub mine : q.role n ≡ AsMessage a args
  pub rest : P (about q n)

-- before the link to mess/n
pub record AtLink (q : Queue) (a : List ℕ) (args : Arguments) (seq n fd : ℕ) : Type 0 where
  pub mine : q.role n ≡ AsMessage a args
  pub file : File
  pub no_mess : look q (Of Mess n) ≡ None
  pub pid : look q (Pid args.pid args.start seq) ≡ Some (record { number = n; file = file })
  pub empty : file.bytes ≡ []
  pub opened : IsOpen q a fd n

-- while the message file is written
pub record AtMess (q : Queue) (a : List ℕ) (args : Arguments) (n fd : ℕ) (bytes : List ℕ) : Type 0 where
  pub holds : Holds q a args n (λ w. IsDraft w a args n bytes)
  pub opened : IsOpen q a fd n

-- the pid name is still there
pub record AtUnlink (q : Queue) (a : List ℕ) (args : Arguments) (seq n fd : ℕ) : Type 0 where
  pub mess : AtMess q a args n fd []
  pub file : File
  pub pid : look q (Pid args.pid args.start seq) ≡ Some (record { number = n; file = file })

-- while the intd file is written
pub record AtTodo (q : Queue) (a : List ℕ) (args : Arguments) (n fd : ℕ) (bytes : List ℕ) : Type 0 where
  pub number : ℕ
  pub holds : Holds q a args n (λ w. HasIntd w a args n number (HasBytes bytes))
  pub opened : IsOpen q a fd number

pub record AtLinkTodo (q : Queue) (a : List ℕ) (args : Arguments) (n : ℕ) : Type 0 where
  pub number : ℕ
  pub holds : Holds q a args n (λ w. HasIntd w a args n number (λ f. IsSynced f (intd_text args).bytes))

-- what an injector relies on at a row of its table, while it may still call
abbrev pub Relies : Queue → List ℕ → Arguments → Row → Type 0
Relies q a args (at.Create seq) = Unit {0}
Relies q a args (at.LinkMess seq n fd) = AtLink q a args seq n fd.0
Relies q a args (at.UnlinkPid seq n fd) = AtUnlink q a args seq n fd.0
Relies q a args (at.AppendMess n fd done) = AtMess q a args n fd.0 (take done (message_text args).bytes)
Relies q a args (at.SyncMess n fd) = AtMess q a args n fd.0 (message_text args).bytes
Relies q a args (at.CreateIntd n) = Holds q a args n (λ w. IsWhole w a args n)
Relies q a args (at.AppendTodo n fd done) = AtTodo q a args n fd.0 (take done (intd_text args).bytes)
Relies q a args (at.SyncTodo n fd) = AtTodo q a args n fd.0 (intd_text args).bytes
Relies q a args (at.LinkTodo n) = AtLinkTodo q a args n
Relies q a args (at.CleanIntd n cause) = Holds q a args n (λ w. IsBegun w a args n)
Relies q a args (at.CleanMess n cause) = Holds q a args n (λ w. IsBare w a args n)
Relies q a args at.Queued = Unit {0}
Relies q a args (at.Failed cause) = Unit {0}

-- what the end that a row leads to will say
abbrev pub Settles : Books → List ℕ → Arguments → Row → Type 0
Settles b a args (at.CleanIntd n cause) = IsFailure cause
Settles b a args (at.CleanMess n cause) = IsFailure cause
Settles b a args (at.SyncMess n fd) = (message_text args).fault ≡ None
Settles b a args (at.CreateIntd n) = (message_text args).fault ≡ None
Settles b a args (at.AppendTodo n fd done) = (message_text args).fault ≡ None
Settles b a args (at.SyncTodo n fd) = IsValid args
Settles b a args (at.LinkTodo n) = IsValid args
Settles b a args at.Queued = HasQueued b a args
Settles b a args (at.Failed cause) = IsFailure cause
Settles b a args row = Unit {0}

-- what a row rests on
abbrev pub Basis : Queue → List ℕ → Arguments → Row → Type 0
Basis q a args row = Relies q a args row × Settles q.books a args row

-- An injector that may still call: it makes no call after a day, and reads no moment that lies over half a day back.
abbrev pub InTime : ℕ → Arguments → Type 0
InTime now args = now ≤ args.start + (DAY + LONGEST_STALL)

-- A living injector at its row. One that is over its day owes nothing of the disk.
pub record Stands (now : ℕ) (q : Queue) (a : List ℕ) (args : Arguments) (row : Row) : Type 0 where
  pub relies : InTime now args → Relies q a args row
  pub settles : Settles q.books a args row

-- What holds of an injector: by its row while it lives; if it has queued its message, whether it lives or not; of its end
-- with 0, if it has ended so; and of its readings.
pub record InjectorFares (now : ℕ) (q : Queue) (a : List ℕ) (args : Arguments) (past : List Own) (lives ended : Bool) : Type 0 where
  pub stands : lives ≡ true → Stands now q a args (inject_after args past)
  pub queued : inject_after args past ≡ at.Queued → HasQueued q.books a args
  pub ends : ended ≡ true → inject_after args past ≡ at.Queued
  pub reads : args.start ≤ last_read args.start past

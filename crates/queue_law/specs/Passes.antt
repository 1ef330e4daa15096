-- What a todo pass rests on at each row of its table, what a call of it leaves, and what it has made when it gives its command.
use Rattle.std.specs.Prelude.{◌≡◌, ◌≢◌, ℕ, ◌≤◌, List, ◌∷◌, Option, Some}
use Rattle.address_rules.specs.declared.controls.Controls.{Controls}
use Rattle.address_rules.specs.Nuls.{HaveNoNul}
use Rattle.call_fs.specs.declared.calls.CallData.{CallData}
use Rattle.call_fs.specs.declared.calls.Told.{Told}
use Rattle.call_fs.specs.declared.program.Ready.{Ready as Found}
use Rattle.call_fs.specs.declared.past.NeedData.TheVariants as needs
use Rattle.call_fs.specs.declared.past.Own.{Own}
use Rattle.call_fs.specs.Apply.{Fits}
use Rattle.call_fs.specs.Disk.{Disk, Open}
use Rattle.queue_paths.specs.Names.{Part}
use Rattle.queue_paths.specs.Names.Name.{Of}
use Rattle.queue_paths.specs.Names.Part.{Info, Local, Remote}
use Rattle.todo_pass.specs.declared.part.Target.{Target}
use Rattle.todo_pass.specs.declared.part.Target.TheVariants as target
use Rattle.todo_pass.specs.declared.row.Row.{Row}
use Rattle.todo_pass.specs.declared.row.Row.TheVariants as at
use Rattle.todo_pass.specs.Disks.{HoldsTodo, LeaveAlone, LeadsTo}
use Rattle.todo_pass.specs.Run.{IsRun}
use Rattle.todo_pass.specs.Table.{place_after as pass_after, Next as PassesNext}
use Rattle.queue_law.specs.Books.{own_call}
use Rattle.queue_law.specs.Numbers.{Role, Queue, Entry, look, about, IsQueued, Sound}
use Rattle.queue_law.specs.Injectors.{IsHeld, IsOpen}
use Rattle.queue_law.specs.Ledgers.Line.{Routes}
use Rattle.queue_law.specs.Ready.{AreMade, IsReady}
use Rattle.queue_law.specs.Rests.{RestsAs, Spares}
use Rattle.queue_law.specs.Steps.{Elsewhere}
use Rattle.queue_law.specs.Senders.{LeadsOn, called_queue, entered_queue}

-- the part of the message that a file is
abbrev pub file_part : Target → Part
file_part target.Info = Info
file_part target.Local = Local
file_part target.Remote = Remote

-- the descriptor is this actor's, however it was opened
abbrev pub HasOpen : Queue → List ℕ → ℕ → Type 0
HasOpen q a fd = (how : Open) × IsHeld q.disk.opens q.holder a fd how

-- it was created by this actor, and is open on the file of this name
pub record Writes (q : Queue) (a : List ℕ) (n : ℕ) (t : Target) (fd : ℕ) : Type 0 where
  pub file : Entry
  pub there : look q (Of (file_part t) n) ≡ Some file
  pub opened : IsOpen q a fd file.number

-- what a pass holds open at a row
abbrev pub HoldsAt : Queue → List ℕ → ℕ → Row → Type 0
HoldsAt q a n (at.ReadTodo fd) = HasOpen q a fd.0
HoldsAt q a n (at.CloseTodo fd) = HasOpen q a fd.0
HoldsAt q a n (at.Append t fd done) = Writes q a n t fd.0
HoldsAt q a n (at.Sync t fd) = Writes q a n t fd.0
HoldsAt q a n (at.Close t fd) = HasOpen q a fd.0
HoldsAt q a n (at.Shut fd why) = HasOpen q a fd.0
HoldsAt q a n row = Unit {0}

-- What a pass of number n relies on at a row: until the cleaner has its command, that the number rests and is queued; and what it holds
-- open.
pub record PassStands (now : ℕ) (q : Queue) (a : List ℕ) (n : ℕ) (row : Row) : Type 0 where
  pub rests : HoldsTodo row → RestsAs now q n IsQueued
  pub holds : HoldsAt q a n row

-- What a call of a pass leads to: what holds of the queue holds then too; of all but its number nothing changed; and the next row has what
-- it relies on.
pub record PassLeads (now : ℕ) (a : List ℕ) (q r : Queue) (n : ℕ) (next : Row) : Type 0 where
  pub leads : LeadsOn now a (Some n) q r
  pub stands : PassStands now r a n next

-- The laws

-- a file call of a pass that is due keeps what holds of the queue, if its number rests
abbrev pub PassesKeep : Type 0
PassesKeep = (controls : Controls) (now : ℕ) (q : Queue) (a : List ℕ) (n : ℕ) (past : List Own) (read : ℕ) (ready : Found) (call : CallData) (told : Told) (wrote : ℕ)
    → Sound q → PassStands now q a n (pass_after controls n past).row
    → PassesNext (record { n = n; controls = controls }) past read ready ≡ needs.File call → Fits q.disk call told.answer wrote
    → (role : ℕ → Role) × PassLeads now a q (called_queue q a read call told.answer wrote role) n (pass_after controls n (own_call read ready call told ∷ past)).row

-- When a pass gives its command, all is made: info and the channel files are whole, on the disk, and those of the message, as its controls route it.
abbrev pub PassesMake : Type 0
PassesMake = (controls : Controls) (n : ℕ) (past : List Own) (first : Disk) (q : Queue) → IsRun controls n past → LeadsTo controls n first past q.disk
    → (pass_after controls n past).row ≡ at.Give → (h : IsQueued (about q n)) → AreMade controls h.taken.injection.args (about q n)

-- Whatever comes of the giving, the ledger has those controls from then on, and so the number rests as the command needs.
pub record GivesCommand (routes : Controls) (now : ℕ) (q : Queue) (a : List ℕ) (n : ℕ) : Type 0 where
  pub leads : LeadsOn now a (Some n) q (entered_queue q n (Routes routes))
  pub ready : RestsAs now (entered_queue q n (Routes routes)) n IsReady

abbrev pub PassesGive : Type 0
PassesGive = (routes : Controls) (now : ℕ) (q : Queue) (a : List ℕ) (n : ℕ) → HaveNoNul routes → Sound q → (rests : RestsAs now q n IsQueued)
    → AreMade routes rests.rest.taken.injection.args (about q n) → GivesCommand routes now q a n

-- A step of another actor that leaves all that concerns the number as it was leaves alone what a pass holds. A step that spares the number
-- leaves what the pass relies on, and so does time.
pub record PassIsLeftAlone : Type 0 where
  pub alone : (now : ℕ) (a o : List ℕ) (m : Option ℕ) (q r : Queue) → Elsewhere now o m q r → a ≢ o → (n : ℕ) (row : Row) → HoldsAt q a n row
      → about r n ≡ about q n → LeaveAlone n row q.disk r.disk
  pub stands : (now : ℕ) (a o : List ℕ) (m k : Option ℕ) (q r : Queue) → Elsewhere now o m q r → a ≢ o → Spares now k q r
      → (n : ℕ) → k ≢ Some n → (row : Row) → PassStands now q a n row → PassStands now r a n row
  pub later : (now m : ℕ) → now ≤ m → (q : Queue) (a : List ℕ) (n : ℕ) (row : Row)
      → PassStands now q a n row → PassStands m q a n row

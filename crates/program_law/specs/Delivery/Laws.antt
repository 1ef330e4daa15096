-- The laws of deliveries: what their events keep and leave, and what others leave them.
use Rattle.std.specs.Prelude.{◌≡◌, ◌≢◌, ℕ, List, [], ◌∷◌, Some}
use Rattle.call_fs.specs.declared.calls.CallData.{CallData}
use Rattle.call_fs.specs.declared.calls.CallData.TheVariants.{Link}
use Rattle.call_fs.specs.declared.calls.Told.{Told}
use Rattle.call_fs.specs.declared.past.NeedData.{NeedData}
use Rattle.call_fs.specs.declared.past.NeedData.TheVariants as needs
use Rattle.call_fs.specs.declared.past.Own.{Own}
use Rattle.call_fs.specs.declared.program.Ready.{Ready}
use Rattle.call_fs.specs.Apply.{Fits, IsReadBy}
use Rattle.call_fs.specs.Disk.{Open, IsWhole}
use Rattle.call_fs.specs.Past.{IsDueBy, taken}
use Rattle.local_deliver.specs.Table.{Next}
use Rattle.local_parts.specs.declared.arguments.LocalArgs.{LocalArgs}
use Rattle.local_parts.specs.Inputs.{message_in}
use Rattle.local_parts.specs.Texts.{maildir_text}
use Rattle.queue_law.specs.Books.{own_call}
use Rattle.queue_law.specs.Cleaners.{LeavesButPid}
use Rattle.queue_law.specs.Injectors.{IsHeld}
use Rattle.queue_law.specs.Numbers.{NamesSuit, Queue, Role}
use Rattle.queue_law.specs.Senders.{called_queue}
use Rattle.queue_law.specs.Steps.{Foreign, LeavesOld, Outside}
use Rattle.program_law.specs.Delivery.Leaves.{LeavesButDrops, LeavesButOwn, LeavesDrops, LeavesTmp}
use Rattle.program_law.specs.Delivery.Names.{IsTmpName}
use Rattle.program_law.specs.Delivery.Rests.{DeliveryRests}

-- Drops stay by a step that leaves what isn't the queue's and what none of its programs made, also by one that takes a name of one part
-- in `pid` away besides, and by one that changes no name and no file. Of drops that stay those in `tmp` do; they stay also by a reader,
-- who changes no file and no name in a `tmp`, whatever he does to other names.
pub record DropsStay : Type 0 where
  pub outside : (a : List ℕ) (q r : Queue) → Outside q.disk r.disk → LeavesOld q r → LeavesDrops a q r
  pub but_pid : (a : List ℕ) (q r : Queue) → LeavesButPid q.disk r.disk → LeavesOld q r → LeavesDrops a q r
  pub same : (a : List ℕ) (q r : Queue) → r.disk.names ≡ q.disk.names → r.disk.files ≡ q.disk.files → r.role ≡ q.role → LeavesDrops a q r
  pub tmp : (a : List ℕ) (q r : Queue) → LeavesDrops a q r → LeavesTmp a q r
  pub read : (a : List ℕ) (q r : Queue) → ((name : List ℕ) → IsTmpName name → r.disk.names name ≡ q.disk.names name) → r.disk.files ≡ q.disk.files → r.role ≡ q.role → LeavesTmp a q r

-- What a file call of a delivery leads to: it is a step of a program that is none of the queue's; it touches nothing but drops, and of
-- those only its own; and the delivery rests on what is there then.
pub record DeliveryLeads (a : List ℕ) (q r : Queue) (args : LocalArgs) (past : List Own) : Type 0 where
  pub foreign : Foreign a q r
  pub outside : LeavesButDrops q.disk r.disk
  pub own : LeavesButOwn a q r
  pub drops : LeavesDrops a q r
  pub rests : DeliveryRests r a args past

-- it is no file call
abbrev pub IsNoCall : NeedData → Type 0
IsNoCall (needs.File call) = ⊥
IsNoCall due = Unit {0}

-- A delivery that begins has what it rests on, and it has it after each of its events that is due: after a file call with any answer,
-- where a new file counts as made by it; and after any other event, which changes no file.
pub record DeliveriesKeep : Type 0 where
  pub begins : (q : Queue) (a : List ℕ) (args : LocalArgs) → DeliveryRests q a args []
  pub calls : (q : Queue) (a : List ℕ) (args : LocalArgs) (past : List Own) (read : ℕ) (ready : Ready) (call : CallData) (told : Told) (wrote : ℕ)
      → NamesSuit q → DeliveryRests q a args past → IsDueBy (Next args) past (own_call read ready call told)
      → Fits q.disk call told.answer wrote → IsReadBy q.disk call told
      → (role : ℕ → Role) × DeliveryLeads a q (called_queue q a read call told.answer wrote role) args (own_call read ready call told ∷ past)
  pub rest : (q : Queue) (a : List ℕ) (args : LocalArgs) (past : List Own) (own : Own) → DeliveryRests q a args past → IsDueBy (Next args) past own → IsNoCall own.due
      → DeliveryRests q a args (own ∷ past)

-- A step of another actor leaves a delivery what it rests on, if it leaves the drops of others in `tmp`, and what others hold open.
abbrev pub DeliveriesAreLeftAlone : Type 0
DeliveriesAreLeftAlone = (q r : Queue) (a b : List ℕ) (args : LocalArgs) (past : List Own) → LeavesTmp b q r → a ≢ b
    → ((fd : ℕ) (how : Open) → IsHeld q.disk.opens q.holder a fd how → IsHeld r.disk.opens r.holder a fd how)
    → DeliveryRests q a args past → DeliveryRests r a args past

-- A link is due to a delivery only of a file that holds the lines of a maildir and the message that it took, and all of that is on the
-- disk.
abbrev pub LinkedIsWhole : Type 0
LinkedIsWhole = (q : Queue) (a : List ℕ) (args : LocalArgs) (past : List Own) (now : ℕ) (ready : Ready) (from to : List ℕ) → DeliveryRests q a args past
    → Next args past now ready ≡ needs.File (Link from to)
    → (message : List ℕ) × (message_in (taken past) ≡ Some message) × IsWhole q.disk from (maildir_text args message)

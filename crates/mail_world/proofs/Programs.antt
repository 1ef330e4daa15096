-- What each program of the world keeps to. A new program is one case of each of these.
use Rattle.std.proofs.Common.{◌≡◌, ◌≢◌, ◌⊎◌, inl, inr, ℕ, ◌+◌, ◌≤◌, List, [], ◌∷◌, Bool, true, false, not, ◌&&◌, Option, Some, None, refl, sym, ap, subst}
use Rattle.std.specs.Prelude.{is_some, if◌then◌else◌}
use Rattle.call_fs.specs.declared.calls.CallData.{CallData}
use Rattle.call_fs.specs.declared.calls.Answer.{Answer}
use Rattle.call_fs.specs.declared.calls.Told.{Told}
use Rattle.call_fs.specs.declared.program.Port.TheVariants as port
use Rattle.call_fs.specs.declared.program.Ready.{Ready}
use Rattle.call_fs.specs.declared.past.ChildData.{ChildData}
use Rattle.call_fs.specs.declared.past.NeedData.{NeedData}
use Rattle.call_fs.specs.declared.past.NeedData.TheVariants as needs
use Rattle.call_fs.specs.declared.past.Own.{Own}
use Rattle.call_fs.specs.Apply.{effect, Fits}
use Rattle.call_fs.specs.Disk.{Disk, Open}
use Rattle.call_fs.specs.Past.{IsRunBy, UsesHeld, held}
use Rattle.queue_inject.specs.declared.row.Row.TheVariants as at
use Rattle.queue_inject.specs.Table.{place_after as inject_after, has_input}
use Rattle.queue_inject.proofs.Holds.{holds_what_it_uses}
use Rattle.mail_world.specs.Acting.{IsAct}
use Rattle.queue_inject.proofs.Acts.{IsAlone, next_alone}
use Rattle.queue_clean.proofs.Demands.{asks, needs_none}
use Rattle.send_core.proofs.Holds.{uses as sends_held}
use Rattle.local_deliver.proofs.Holds.{uses as delivers_held}
use Rattle.local_spawn.proofs.Holds.{uses as locals_held}
use Rattle.remote_spawn.proofs.Holds.{uses as spawns_held}
use Rattle.world_events.specs.declared.event.Program.{Program}
use Rattle.world_events.specs.declared.event.Program.TheVariants.{Injector, Cleaner, Sender, LocalSpawner, RemoteSpawner, Delivery}
use Rattle.mail_world.specs.declared.any_machine.AnyMachine.{AnyMachine}
use Rattle.mail_world.specs.declared.any_machine.AnyMachine.TheVariants.{Mail, Clean, Send, Local, Remote, Deliver, Over as Gone}
use Rattle.mail_world.specs.Pipework.{Slot, Pipework, is_ready}
use Rattle.mail_world.specs.History.{Life, State, InputIsFound, FindsInputAlone, MayFind, MayRun, next_of, latest, own_call, booked_by, held_by, cut_off}
use Rattle.mail_world.specs.History.Life.{Alive, Over}
use Rattle.mail_world.specs.Readiness.{input_alone, only_child, has_ended, is_awaiting, found_by}
use Rattle.mail_world.specs.World.{most_of}
use Rattle.call_fs.specs.declared.file_system.TheConstants.{PIECE}
use Rattle.fed_injector.specs.declared.machine.FedInjector.{FedInjector}
use Rattle.mail_world.specs.ByKind.{IsMail, takes_of, Leaves, Follows, Mails, Cleans, Sends, SpawnsLocals, Spawns, Delivers}
use Rattle.queue_clean.specs.Machine.{Machine as Cleaning}
use Rattle.send_core.specs.Stands.{Machine as Sending}
use Rattle.local_deliver.specs.declared.machine.Local.{Local as Deliverer}
use Rattle.local_spawn.specs.declared.machine.LocalSpawn.{LocalSpawn}
use Rattle.remote_spawn.specs.declared.machine.RemoteSpawn.{RemoteSpawn}
use Rattle.call_fs.specs.declared.program.TheConstants.{INPUT_READY}
use Rattle.queue_law.specs.Books.{Books, HasQueued, Injection, IsInjected}
use Rattle.queue_law.specs.Numbers.{Role, Queue, about, IsSorted, Sound, IsEarly}
use Rattle.queue_law.specs.Injectors.{InjectorFares}
use Rattle.queue_law.specs.Steps.{Elsewhere, after_halt}
use Rattle.queue_law.proofs.Frame.{injector_frame, outside_same}
use Rattle.queue_law.proofs.Halts.{injector_halt}
use Rattle.mail_world.proofs.Halts.{is_alive, is_well, alive_is, well_is, after_stop}
use Rattle.mail_world.proofs.Owns.{IsPass}
use Rattle.queue_law.proofs.Injectors.{injector_start, injector_later, injector_over, injector_done, injector_calls}

-- What it asks for

-- a call that is due in a run uses only what the run holds open
pub program_uses : (program : Program) (past : List Own) (now : ℕ) (ready : Ready) → IsRunBy (next_of program) past
    → UsesHeld (held past) (next_of program past now ready)
program_uses (Injector args) past now ready run = holds_what_it_uses args past now ready run
program_uses (Cleaner start) past now ready run = needs_none (held past) (asks tt past now ready)
program_uses (Sender start) past now ready run = sends_held None past now ready run
program_uses (LocalSpawner start) past now ready run = locals_held tt past now ready run
program_uses (RemoteSpawner start) past now ready run = spawns_held tt past now ready run
program_uses (Delivery start args) past now ready run = delivers_held args past run

-- that of a mail is one that a history may start
pub mail_runs : (program : Program) → IsMail program → MayRun program
mail_runs (Injector args) mail = tt
mail_runs other mail = absurd mail

-- it takes, gives and starts nothing
pub program_acts : (program : Program) → IsMail program → (past : List Own) (now : ℕ) (ready : Ready) → IsAct (next_of program past now ready)
program_acts (Injector args) mail past now ready = next_alone args past now ready
program_acts other mail past now ready = absurd mail

-- what lies in its pipes, and which of its programs has ended, each program may find; an injector that is a child finds its input only
-- if something lies there
input_only : (t : Bool) → FindsInputAlone (if t then input_alone false else INPUT_READY)
input_only true = (refl, refl)
input_only false = (refl, refl)

lies_if_found : (lies : Bool) → has_input (if true && not lies then input_alone false else INPUT_READY) ≡ true → lies ≡ true
lies_if_found true found = refl
lies_if_found false found = absurd cc

input_found : (w : Pipework) (a : List ℕ) (o : Option Slot) (past : List Own)
    → InputIsFound w a o past (if is_some o && not (is_ready (w.pipes a port.Input)) then input_alone false else INPUT_READY)
input_found w a None past = tt
input_found w a (Some slot) past = inr (λ found. lies_if_found (is_ready (w.pipes a port.Input)) found)

none_or_first : (ended : Bool) → (only_child ended ≡ None) ⊎ (only_child ended ≡ Some 0)
none_or_first true = inr refl
none_or_first false = inl refl

pub found_finds : (s t : State) (a : List ℕ) (program : Program) (past : List Own) → t.pipework ≡ s.pipework → MayFind t a program past (found_by s a program)
found_finds s t a (Injector args) past same = (
  input_only (is_awaiting s a),
  subst (λ (w : Pipework). InputIsFound w a (w.slots a) past (found_by s a (Injector args))) (sym same) (input_found s.pipework a (s.pipework.slots a) past),
)
found_finds s t a (Cleaner start) past same = (refl, refl)
found_finds s t a (Sender start) past same = (_, _, _, refl, none_or_first (has_ended s (s.pipework.programs a 0)))
found_finds s t a other past same = refl

-- how many bytes a machine may be handed is how many its program takes at once, if it takes any
mail_takes : (m : FedInjector) (program : Program) (past : List Own) → Mails m program past → IsMail program
mail_takes m (Injector args) past f = tt
mail_takes m other past f = absurd f

clean_takes : (m : Cleaning) (program : Program) (past : List Own) → Cleans m program past → PIECE ≡ most_of program
clean_takes m (Cleaner start) past f = refl
clean_takes m other past f = absurd f

send_takes : (m : Sending) (program : Program) (past : List Own) → Sends m program past → 18446744073709551615 ≡ most_of program
send_takes m (Sender start) past f = refl
send_takes m other past f = absurd f

local_takes : (m : LocalSpawn) (program : Program) (past : List Own) → SpawnsLocals m program past → 18446744073709551615 ≡ most_of program
local_takes m (LocalSpawner start) past f = refl
local_takes m other past f = absurd f

remote_takes : (m : RemoteSpawn) (program : Program) (past : List Own) → Spawns m program past → 18446744073709551615 ≡ most_of program
remote_takes m (RemoteSpawner start) past f = refl
remote_takes m other past f = absurd f

delivery_takes : (m : Deliverer) (program : Program) (past : List Own) → Delivers m program past → 18446744073709551615 ≡ most_of program
delivery_takes m (Delivery start args) past f = refl
delivery_takes m other past f = absurd f

pub machine_takes : (m : AnyMachine) (program : Program) (past : List Own) → Follows m program past → IsMail program ⊎ (takes_of m ≡ most_of program)
machine_takes (Mail injector) program past f = inl (mail_takes injector program past f)
machine_takes (Clean cleaner) program past f = inr (clean_takes cleaner program past f)
machine_takes (Send sender) program past f = inr (send_takes sender program past f)
machine_takes (Local spawner) program past f = inr (local_takes spawner program past f)
machine_takes (Remote spawner) program past f = inr (remote_takes spawner program past f)
machine_takes (Deliver delivery) program past f = inr (delivery_takes delivery program past f)
machine_takes Gone program past f = absurd f

-- one that a history may start starts no program
pub program_starts_none : (program : Program) (past : List Own) (now : ℕ) (ready : Ready) (asked : ChildData) → MayRun program → next_of program past now ready ≡ needs.Start asked → ⊥
program_starts_none (Injector args) past now ready asked runs is = subst IsAlone is (next_alone args past now ready)
program_starts_none other past now ready asked runs is = absurd runs

-- How it fares

-- what holds of an actor, as long as no generation was started
abbrev pub FaresBy : ℕ → Queue → List ℕ → Program → List Own → Life → Type 0
FaresBy now q a (Injector args) past life = InjectorFares now q a args past (is_alive life) (is_well life)
FaresBy now q a other past life = ⊥

-- so it is one that a history may start
pub fares_runs : (now : ℕ) (q : Queue) (a : List ℕ) (program : Program) (past : List Own) (life : Life) → FaresBy now q a program past life → MayRun program
fares_runs now q a (Injector args) past life F = tt
fares_runs now q a other past life F = absurd F

-- one that has just started
pub fares_start : (now : ℕ) (q : Queue) (a : List ℕ) (program : Program) → MayRun program → FaresBy now q a program [] Alive
fares_start now q a (Injector args) runs = injector_start now q a args
fares_start now q a other runs = absurd runs

-- what asks for nothing that concerns another program passes nothing
pub passes_none : (due : NeedData) → IsAlone due → IsPass due → ⊥
passes_none (needs.File call) alone pass = pass
passes_none (needs.Take port) alone pass = alone
passes_none (needs.Give port bytes) alone pass = alone
passes_none (needs.Start asked) alone pass = alone
passes_none (needs.Command bytes) alone pass = alone
passes_none needs.Wait alone pass = pass
passes_none (needs.Ended status) alone pass = pass

-- after a taking, a giving, a start or a command of its own
pub fares_passes : (now : ℕ) (q : Queue) (a : List ℕ) (program : Program) (past : List Own) (life : Life) (own : Own) → FaresBy now q a program past life
    → next_of program past own.read own.ready ≡ own.due → IsPass own.due → FaresBy now q a program (own ∷ past) life
fares_passes now q a (Injector args) past life own F next pass = absurd (passes_none own.due (subst IsAlone next (next_alone args past own.read own.ready)) pass)
fares_passes now q a other past life own F next pass = absurd F

-- after a step of another actor
pub fares_frame : (now : ℕ) (a : List ℕ) (m : Option ℕ) (q r : Queue) → Elsewhere now a m q r
    → (o : List ℕ) → o ≢ a → (program : Program) (past : List Own) (life : Life) → FaresBy now q o program past life → FaresBy now r o program past life
fares_frame now a m q r E o other (Injector args) past life F = injector_frame now a m q r E o other args past (is_alive life) (is_well life) F
fares_frame now a m q r E o other program past life F = absurd F

-- after a machine stop
pub fares_halt : (now : ℕ) (q : Queue) (contents : ℕ → List ℕ) (a : List ℕ) (program : Program) (past : List Own) (life : Life)
    → FaresBy now q a program past life → FaresBy now (after_halt contents q) a program past (cut_off life)
fares_halt now q contents a (Injector args) past life F =
    after_stop (InjectorFares now (after_halt contents q) a args past) life (injector_halt now q contents a args past (is_alive life) (is_well life) F)
fares_halt now q contents a other past life F = absurd F

-- at a later moment
pub fares_later : (now m : ℕ) → now ≤ m → (q : Queue) (a : List ℕ) (program : Program) (past : List Own) (life : Life)
    → FaresBy now q a program past life → FaresBy m q a program past life
fares_later now m later q a (Injector args) past life F = injector_later now m later q a args past (is_alive life) (is_well life) F
fares_later now m later q a other past life F = absurd F

-- a program that is at its end with 0
abbrev pub IsDone : Program → List Own → Type 0
IsDone (Injector args) past = inject_after args past ≡ at.Queued
IsDone other past = Unit {0}

pub fares_done : (now : ℕ) (q : Queue) (a : List ℕ) (program : Program) (past : List Own) (life : Life) (read : ℕ) (ready : Ready)
    → FaresBy now q a program past life → life ≡ Alive → next_of program past read ready ≡ needs.Ended 0 → IsDone program past
fares_done now q a (Injector args) past life read ready F alive next = injector_done now q a args past (is_alive life) (is_well life) read ready F (ap is_alive alive) next
fares_done now q a other past life read ready F alive next = tt

-- after its end or its stop
pub fares_over : (now : ℕ) (q r : Queue) → r.books ≡ q.books → (a : List ℕ) (program : Program) (past : List Own) (old life : Life)
    → FaresBy now q a program past old → (life ≡ Alive → ⊥) → (life ≡ Over 0 → IsDone program past) → FaresBy now r a program past life
fares_over now q r same a (Injector args) past old life F dead ends =
    injector_over now q r same a args past (is_alive old) (is_well old) (is_alive life) (is_well life) F (λ h. dead (alive_is life h)) (λ h. ends (well_is life h))
fares_over now q r same a other past old life F dead ends = absurd F

-- what its past has put into the books: if an injector has queued its message, its accepted injection
abbrev pub IsBooked : Books → List ℕ → Program → List Own → Type 0
IsBooked b a (Injector args) past = inject_after args past ≡ at.Queued → HasQueued b a args
IsBooked b a other past = Unit {0}

pub fares_booked : (now : ℕ) (q : Queue) (a : List ℕ) (program : Program) (past : List Own) (life : Life) → FaresBy now q a program past life → IsBooked q.books a program past
fares_booked now q a (Injector args) past life F = F.queued
fares_booked now q a other past life F = absurd F

-- the queue after a call of it
abbrev pub queue_by : Queue → List ℕ → Program → (read : ℕ) → CallData → Answer → (wrote : ℕ) → (ℕ → Role) → Queue
queue_by q a program read call answer wrote role = record {
  disk = effect q.disk read call answer wrote;
  holder = held_by q.holder a call answer;
  books = booked_by q.books a program call answer;
  role = role;
}

-- what isn't the queue's is left if it makes no file call
pub leaves_same : (program : Program) (d : Disk) (opens : ℕ → Option Open) → Leaves program d (record { dirs = d.dirs; names = d.names; files = d.files; opens = opens })
leaves_same program d opens = outside_same d opens

-- what a call of it leads to
pub record Calls (now : ℕ) (q : Queue) (a : List ℕ) (program : Program) (past : List Own) (life : Life) (read : ℕ) (ready : Ready) (call : CallData) (told : Told) (wrote : ℕ) : Type 0 where
  pub role : ℕ → Role
  pub number : Option ℕ
  pub elsewhere : Elsewhere now a number q (queue_by q a program read call told.answer wrote role)
  pub sound : Sound (queue_by q a program read call told.answer wrote role)
  pub fares : FaresBy now (queue_by q a program read call told.answer wrote role) a program (own_call read ready call told ∷ past) life
  pub outside : Leaves program q.disk (queue_by q a program read call told.answer wrote role).disk
  pub sorted : (n : ℕ) → IsSorted (about q n) → about (queue_by q a program read call told.answer wrote role) n ≡ about q n
  pub accepted : (i : Injection) → IsInjected q.books i → i.accepted ≡ true → IsInjected (queue_by q a program read call told.answer wrote role).books i
  pub early : IsEarly q → IsEarly (queue_by q a program read call told.answer wrote role)

pub fares_calls : (now : ℕ) (q : Queue) (a : List ℕ) (program : Program) (past : List Own) (life : Life) (read : ℕ) (ready : Ready) (call : CallData) (told : Told) (wrote : ℕ)
    → Sound q → FaresBy now q a program past life → life ≡ Alive → latest program past ≤ read → now ≤ read + 43200
    → next_of program past read ready ≡ needs.File call → Fits q.disk call told.answer wrote
    → Calls now q a program past life read ready call told wrote
fares_calls now q a (Injector args) past life read ready call told wrote G F alive no_earlier no_stall next fits =
    let lives : InjectorFares now q a args past true false = subst (λ (l : Life). InjectorFares now q a args past (is_alive l) (is_well l)) alive F in
    let w = injector_calls now q a args past read ready call told wrote G lives no_earlier no_stall next fits in
    let r = queue_by q a (Injector args) read call told.answer wrote w.role in
    let fares = subst (λ (l : Life). InjectorFares now r a args (own_call read ready call told ∷ past) (is_alive l) (is_well l)) (sym alive) w.fares in
    record { role = w.role; number = w.number; elsewhere = w.elsewhere; sound = w.sound; fares = fares; outside = w.outside; accepted = w.accepted; sorted = w.sorted; early = w.early }
fares_calls now q a other past life read ready call told wrote G F alive no_earlier no_stall next fits = absurd F

-- An event of an actor that is no sender leaves a living sender its own: each file that preprocessing made of a number that concerns it.
use Rattle.std.proofs.Common.{◌≡◌, ℕ, List, true, Some, refl}
use Rattle.std.specs.Prelude.{codes}
use Rattle.call_fs.specs.Disk.{Disk}
use Rattle.call_fs.specs.declared.past.GotData.TheVariants as came
use Rattle.call_fs.specs.declared.past.GotData.{GotData}
use Rattle.call_fs.specs.declared.past.NeedData.TheVariants as needs
use Rattle.call_fs.specs.declared.past.NeedData.{NeedData}
use Rattle.call_fs.specs.declared.past.Own.{Own}
use Rattle.local_parts.specs.declared.arguments.LocalArgs.{LocalArgs}
use Rattle.local_spawn.specs.Table.{place_after as local_after}
use Rattle.program_law.proofs.Delivery.Events.{deliveries_keep}
use Rattle.queue_clean.specs.Table.{Place, place_after as clean_after}
use Rattle.queue_inject.specs.declared.injection.Arguments.{Arguments}
use Rattle.queue_law.proofs.Cleaners.{cleaners_keep}
use Rattle.queue_law.proofs.Foreigners.{foreigners_keep}
use Rattle.queue_law.proofs.Injectors.{injector_calls}
use Rattle.queue_law.proofs.Sends.{reads_keep}
use Rattle.queue_law.specs.Numbers.{Queue, find, is_later}
use Rattle.queue_law.specs.Senders.{called_queue}
use Rattle.queue_law.specs.Steps.{queue_after}
use Rattle.queue_paths.specs.Names.Name.{Of}
use Rattle.queue_paths.specs.Names.{Part}
use Rattle.remote_spawn.specs.Table.{place_after as remote_after, program_of as remote_asks}
use Rattle.spawner_parts.specs.Table.{row_now as remote_now}
use Rattle.world_events.specs.declared.event.Program.TheVariants.{Injector, Cleaner, Sender, LocalSpawner, RemoteSpawner, Delivery}
use Rattle.world_events.specs.declared.event.Program.{Program}
use Rattle.mail_world.proofs.Coming.{may_come}
use Rattle.mail_world.specs.History.Life.{Alive, Over, Stopped}
use Rattle.mail_world.specs.History.{Actor, ComesOf, IsSender, Life, MayDo, MayRead, State, disk_after, next_of}
use Rattle.mail_world.specs.Untouched.{queue}
use Rattle.world_law.proofs.Locals.{local_reads}
use Rattle.world_law.proofs.Spawners.{arrive_holds, only_reads}
use Rattle.world_law.specs.Fares.{DeliveryFares}
use Rattle.world_law.specs.Inv.{Inv}
use Rattle.settle_law.proofs.Concerns.{LeavesItsOwn}
use Rattle.settle_law.proofs.LaterLeft.{by_about, by_row, by_sorted}

module _ (s : State) (I : Inv s) (a : List ℕ) (own : Own) (wrote : ℕ) where
  abbrev q : Queue
  q = queue s I.role

  abbrev pub actor : Program → List Own → Actor
  actor program past = record { program = program; past = past; life = Alive }

  abbrev pub Runs : Program → List Own → Type 0
  Runs program past = MayRead s a (actor program past) own.read

  -- of a living sender
  abbrev pub Left : NeedData → GotData → Type 0
  Left due got = (y : Actor) (start : ℕ) → s.actors (codes "sender") ≡ Some y → y.program ≡ Sender start → y.life ≡ Alive → LeavesItsOwn s.disk (disk_after s.disk own.read due got wrote) y.past

  -- who takes up no number leaves all of them
  abbrev pub AllLeft : NeedData → GotData → Type 0
  AllLeft due got = let e : Disk = disk_after s.disk own.read due got wrote in (part : Part) (n : ℕ) → is_later part ≡ true → find e.names e.files (Of part n) ≡ find s.disk.names s.disk.files (Of part n)

  injector_left : (args : Arguments) (past : List Own) → Runs (Injector args) past → (due : NeedData) (got : GotData) → next_of (Injector args) past own.read own.ready ≡ due → ComesOf s a due got wrote → AllLeft due got
  injector_left args past may (needs.File c) (came.Answered told) next comes part n later =
      let w = injector_calls s.now q a args past own.read own.ready c told wrote I.sound (I.fares a (actor (Injector args) past) may.is) may.no_earlier may.no_stall next comes.0 in
      by_sorted q (queue_after q a args own.read c told.answer wrote w.role) w.sorted w.unsorted part n later
  injector_left args past may due got next comes part n later = refl

  pub cleaner_left : (since : ℕ) (past : List Own) → Runs (Cleaner since) past → (due : NeedData) (got : GotData) → next_of (Cleaner since) past own.read own.ready ≡ due → ComesOf s a due got wrote → AllLeft due got
  cleaner_left since past may (needs.File c) (came.Answered told) next comes part n later =
      let p : Place = clean_after past in
      let leads = cleaners_keep s.now q a past own.read own.ready c told wrote I.sound (I.fares a (actor (Cleaner since) past) may.is) may.no_later next comes.0 in
      by_row q a own.read wrote told.answer p.row p.name c next comes.0 leads.abouts part n later
  cleaner_left since past may due got next comes part n later = refl

  local_left : (since : ℕ) (past : List Own) → Runs (LocalSpawner since) past → (due : NeedData) (got : GotData) → next_of (LocalSpawner since) past own.read own.ready ≡ due → ComesOf s a due got wrote → AllLeft due got
  local_left since past may (needs.File c) (came.Answered told) next comes part n later =
      let reads = local_reads q a (local_after past) own.ready c (I.fares a (actor (LocalSpawner since) past) may.is) next in
      let w = reads_keep s.now q a I.sound own.read c told.answer wrote reads comes.0 in
      w.elsewhere.looks (Of part n) (λ e. absurd (cc))
  local_left since past may due got next comes part n later = refl

  remote_left : (since : ℕ) (past : List Own) → Runs (RemoteSpawner since) past → (due : NeedData) (got : GotData) → next_of (RemoteSpawner since) past own.read own.ready ≡ due → ComesOf s a due got wrote → AllLeft due got
  remote_left since past may (needs.File c) (came.Answered told) next comes part n later =
      let p = remote_after past in
      let holds = arrive_holds q a p.row p own.ready (I.fares a (actor (RemoteSpawner since) past) may.is) in
      let w = reads_keep s.now q a I.sound own.read c told.answer wrote (only_reads q a (remote_asks p.request) (remote_now p own.ready) p c holds next) comes.0 in
      w.elsewhere.looks (Of part n) (λ e. absurd (cc))
  remote_left since past may due got next comes part n later = refl

  delivery_left : (since : ℕ) (args : LocalArgs) (past : List Own) → Runs (Delivery since args) past → (due : NeedData) (got : GotData) → next_of (Delivery since args) past own.read own.ready ≡ due → ComesOf s a due got wrote
      → AllLeft due got
  delivery_left since args past may (needs.File c) (came.Answered told) next comes part n later =
      let F : DeliveryFares q a args past Alive = I.fares a (actor (Delivery since args) past) may.is in
      let l = deliveries_keep.calls q a args past own.read own.ready c told wrote I.sound.suits F.rests (next, may_come s a (needs.File c) (came.Answered told) wrote comes) comes.0 comes.1 in
      by_about q (called_queue q a own.read c told.answer wrote l.0) (foreigners_keep.abouts a q (called_queue q a own.read c told.answer wrote l.0) l.1.foreign) part n later
  delivery_left since args past may due got next comes part n later = refl

  by_program : (program : Program) (past : List Own) → (IsSender program → ⊥) → Runs program past → next_of program past own.read own.ready ≡ own.due → ComesOf s a own.due own.came wrote → Left own.due own.came
  by_program (Injector args) past other may next comes = λ y start is runs alive part n later concerns. injector_left args past may own.due own.came next comes part n later
  by_program (Cleaner since) past other may next comes = λ y start is runs alive part n later concerns. cleaner_left since past may own.due own.came next comes part n later
  by_program (Sender since) past other may next comes = absurd (other tt)
  by_program (LocalSpawner since) past other may next comes = λ y start is runs alive part n later concerns. local_left since past may own.due own.came next comes part n later
  by_program (RemoteSpawner since) past other may next comes = λ y start is runs alive part n later concerns. remote_left since past may own.due own.came next comes part n later
  by_program (Delivery since args) past other may next comes = λ y start is runs alive part n later concerns. delivery_left since args past may own.due own.came next comes part n later

  by_life : (program : Program) (past : List Own) (life : Life) → life ≡ Alive → (IsSender program → ⊥) → MayRead s a (record { program = program; past = past; life = life }) own.read
      → next_of program past own.read own.ready ≡ own.due → ComesOf s a own.due own.came wrote → Left own.due own.came
  by_life program past Alive alive other may next comes = by_program program past other may next comes
  by_life program past (Over status) alive other may next comes = absurd (cc)
  by_life program past Stopped alive other may next comes = absurd (cc)

  pub later_left : (may : MayDo s a own wrote) → (IsSender may.actor.program → ⊥) → Left own.due own.came
  later_left may other = by_life may.actor.program may.actor.past may.actor.life may.reads.alive other may.reads may.due may.came

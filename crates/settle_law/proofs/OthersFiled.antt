-- An event of an actor that is no sender leaves each message that is preprocessed after it as it was, or the sender waits for the cleaner's answer
-- to its todo pass.
use Rattle.std.proofs.Common.{◌≡◌, ◌≢◌, ◌⊎◌, inl, inr, ⊎_elim, ℕ, true, List, Option, Some, None, refl, sym, ap, ◌∙◌, subst, arith}
use Rattle.std.specs.Prelude.{IsSome, codes, is_some}
use Rattle.std.proofs.lemmas.Bool.Decides.{eqb_tells}
use Rattle.call_fs.specs.Apply.{effect}
use Rattle.call_fs.specs.Disk.{Disk}
use Rattle.call_fs.specs.declared.calls.Answer.{Answer}
use Rattle.call_fs.specs.declared.calls.CallData.{CallData}
use Rattle.call_fs.specs.declared.calls.CallData.TheVariants as call
use Rattle.call_fs.specs.declared.past.GotData.TheVariants as came
use Rattle.call_fs.specs.declared.past.GotData.{GotData}
use Rattle.call_fs.specs.declared.past.NeedData.TheVariants as needs
use Rattle.call_fs.specs.declared.past.NeedData.{NeedData}
use Rattle.call_fs.specs.declared.past.Own.{Own}
use Rattle.local_parts.specs.declared.arguments.LocalArgs.{LocalArgs}
use Rattle.local_spawn.specs.Table.{place_after as local_after}
use Rattle.program_law.proofs.Delivery.Events.{deliveries_keep}
use Rattle.program_law.proofs.Sender.Gone.{file_call}
use Rattle.program_law.specs.Errand.Errands.{Errand, Link, at_work, most, work_at}
use Rattle.program_law.specs.Errand.Errands.Awaits.{Answer as Waits, Nothing}
use Rattle.program_law.specs.Sender.Waits.{awaits, awaits_at, awaits_in}
use Rattle.queue_clean.specs.Commands.{first_name}
use Rattle.queue_clean.specs.Table.{Place, due_at as clean_due_at, place_after as clean_after}
use Rattle.queue_clean.specs.declared.command.Command.{Command}
use Rattle.queue_clean.specs.declared.command.Command.TheVariants.{Foop, Todo}
use Rattle.queue_clean.specs.declared.row.Row.{Row as CleanRow}
use Rattle.queue_clean.specs.declared.row.Row.TheVariants as clean
use Rattle.queue_inject.specs.declared.injection.Arguments.{Arguments}
use Rattle.queue_law.proofs.Cleaners.{cleaners_keep}
use Rattle.queue_law.proofs.Foreigners.{foreigners_keep}
use Rattle.queue_law.proofs.Frame.{about_same}
use Rattle.queue_law.proofs.Injectors.{injector_calls}
use Rattle.queue_law.proofs.Looks.{find_some, found}
use Rattle.queue_law.proofs.Sends.{reads_keep}
use Rattle.queue_law.specs.Cleaners.{StandsAt, number_at}
use Rattle.queue_law.specs.Numbers.{About, Queue, about, entry, look}
use Rattle.queue_law.specs.Ready.{IsSpent}
use Rattle.queue_law.specs.Senders.{called_queue}
use Rattle.queue_law.specs.Steps.{queue_after}
use Rattle.queue_paths.specs.Names.{Part, path}
use Rattle.queue_paths.specs.Names.Name.{Of}
use Rattle.queue_paths.specs.Names.Part.{Info, Intd}
use Rattle.queue_paths.specs.Parts.{is_todo, in_todo}
use Rattle.queue_paths.proofs.Parts.{todo_apart}
use Rattle.queue_law.proofs.Waits.{todo_unnamed, todo_absent}
use Rattle.remote_spawn.specs.Table.{place_after as remote_after, program_of as remote_asks}
use Rattle.send_core.specs.declared.desk.Desk.{Desk}
use Rattle.send_parts.specs.declared.row.Row.{Row}
use Rattle.send_parts.specs.declared.row.Row.TheVariants as at
use Rattle.send_parts.specs.declared.rows.FinishRow.TheVariants as finish
use Rattle.send_parts.specs.declared.rows.SweepRow.TheVariants as sweep
use Rattle.spawner_parts.specs.Table.{row_now as remote_now}
use Rattle.todo_pass.specs.declared.row.Row.{Row as PassRow}
use Rattle.todo_pass.specs.declared.row.Row.TheVariants as todo
use Rattle.world_events.specs.declared.event.Program.TheVariants.{Injector, Cleaner, Sender, LocalSpawner, RemoteSpawner, Delivery}
use Rattle.world_events.specs.declared.event.Program.{Program}
use Rattle.mail_world.proofs.Coming.{may_come}
use Rattle.mail_world.specs.History.Life.{Alive, Over, Stopped}
use Rattle.mail_world.specs.History.{Actor, ComesOf, IsSender, Life, MayDo, MayRead, State, disk_after, next_of}
use Rattle.mail_world.specs.Untouched.{queue}
use Rattle.world_law.proofs.Locals.{local_reads}
use Rattle.world_law.proofs.Spawners.{arrive_holds, only_reads}
use Rattle.world_law.specs.Crew.{awaits_by, awaits_in as world_awaits, link_in, place_in}
use Rattle.world_law.specs.Fares.{DeliveryFares}
use Rattle.world_law.specs.Inv.{Inv}
use Rattle.settle_law.proofs.LaterLeft.{by_row, by_sorted}
use Rattle.settle_law.proofs.FiledCalls.{Keeps, call_keeps, some_of, texts_apart}
use Rattle.settle_law.specs.inside.Met.{Comes, IsFiled}
use Rattle.settle_law.specs.Suffices.{desk_of}

some_number : (n k : ℕ) → ◌≡◌ {A = Option ℕ} (Some n) (Some k) → n ≡ k
some_number n k e = cc

-- From what the sender waits for

module _ (waits : Option Command) (x : Link) (E : Errand waits x) (n : ℕ) (works : work_at x.place.row ≡ Some (Todo n)) (one : at_work x.place.row ≡ 1) where
  -- it waits for something
  not_idle : {A : Type 0} → x.awaits ≡ Nothing → A
  not_idle e =
      let few = E.one in
      let none : most x.awaits ≡ 0 = ap most e in
      absurd (omega (arith, few, none, one))

  this_one : (command : Command) → x.awaits ≡ Waits command → Todo n ≡ command
  this_one command e = (E.errand command e).working_is (Todo n) works

  pass_comes : (row : PassRow) (m : ℕ) → x.awaits ≡ awaits_in row m → (row ≡ todo.Answer) × (m ≡ n)
  pass_comes todo.Answer m e = (refl, let same : Todo n ≡ Todo m = this_one (Todo m) e in cc)
  pass_comes row m e = not_idle e

  row_comes : (row : Row) (d : Desk) → x.awaits ≡ awaits_at row d.pass → Comes row d n
  row_comes at.InTodo d e = pass_comes d.pass.row d.pass.n e
  row_comes (at.Finish finish.Take m) d e = absurd (let bad : Todo n ≡ Foop m = this_one (Foop m) e in cc)
  row_comes (at.Sweep (sweep.Take dir m)) d e = absurd (let bad : Todo n ≡ Foop m = this_one (Foop m) e in cc)
  row_comes (at.Ended status) d e = tt
  row_comes row d e = not_idle e

module _ (s : State) (I : Inv s) (a : List ℕ) (own : Own) (wrote : ℕ) where
  abbrev q : Queue
  q = queue s I.role

  abbrev actor : Program → List Own → Actor
  actor program past = record { program = program; past = past; life = Alive }

  abbrev Runs : Program → List Own → Type 0
  Runs program past = MayRead s a (actor program past) own.read

  -- the sender that lives has still to come to it
  abbrev Awaited : ℕ → Type 0
  Awaited n = (x : Actor) (start : ℕ) → s.actors (codes "sender") ≡ Some x → x.program ≡ Sender start → x.life ≡ Alive → Comes (desk_of x.past).row (desk_of x.past) n

  abbrev Left : NeedData → GotData → Type 0
  Left due got = let e : Disk = disk_after s.disk own.read due got wrote in (n : ℕ) → IsFiled e n → IsFiled s.disk n ⊎ Awaited n

  -- Looks at its files

  info_back : (r : Queue) (n : ℕ) → look r (Of Info n) ≡ look q (Of Info n) → IsSome (r.disk.names (path (Of Info n))) → (i : ℕ) × (s.disk.names (path (Of Info n)) ≡ Some i)
  info_back r n same there =
      let w = some_of (r.disk.names (path (Of Info n))) there in
      (w.0, (found s.disk.names s.disk.files (Of Info n) (entry r.disk.files w.0) (sym same ∙ find_some r.disk.names r.disk.files (Of Info n) w.0 w.1)).0)

  has_look : (n : ℕ) → (i : ℕ) × (s.disk.names (path (Of Info n)) ≡ Some i) → look q (Of Info n) ≢ None
  has_look n there none = let here = find_some s.disk.names s.disk.files (Of Info n) there.0 there.1 in cc

  filed_by : (r : Queue) (n : ℕ) → about r n ≡ about q n → IsFiled r.disk n → IsFiled s.disk n
  filed_by r n same filed = (
    todo_unnamed s.disk.names s.disk.files n (sym (ap (λ (w : About). in_todo w.parts) same) ∙ todo_absent r.disk.names r.disk.files n filed.0),
    ap is_some (info_back r n (ap (λ (w : About). w.parts Info) same) filed.1).1,
  )

  -- The cleaner

  spent_none : {A : Type 0} (m n : ℕ) → n ≡ m → IsSpent (about q m) → look q (Of Info n) ≢ None → A
  spent_none m n same spent there = absurd (there (ap (λ (k : ℕ). look q (Of Info k)) same ∙ spent.unsorted Info refl))

  intd_far : (m n : ℕ) (part : Part) → is_todo part ≡ true → path (Of part n) ≢ path (Of Intd m)
  intd_far m n part is = texts_apart (Of part n) (Of Intd m) (todo_apart part n (Of Intd m) is refl)

  cleaner_by : (row : CleanRow) (p : Place) (name : List ℕ) (c : CallData) (told : Answer) → StandsAt s.now q row p → clean_due_at row name own.read ≡ needs.File c
      → ((n : ℕ) → number_at row ≢ Some n → about (called_queue q a own.read c told wrote q.role) n ≡ about q n) → ((n : ℕ) → work_at row ≡ Some (Todo n) → at_work row ≡ 1 → Awaited n)
      → (n : ℕ) → look q (Of Info n) ≢ None → IsFiled (effect s.disk own.read c told wrote) n → IsFiled s.disk n ⊎ Awaited n
  cleaner_by (clean.UnlinkIntd (Foop m)) p name c told h due same waits n there filed = ⊎_elim
      (λ t. spent_none m n t.1 h.rest there)
      (λ f. inl (filed_by (called_queue q a own.read c told wrote q.role) n (same n (λ e. f.1 (sym (some_number m n e)))) filed))
      (eqb_tells n m)
  cleaner_by (clean.UnlinkIntd (Todo m)) p name c told h due same waits n there filed =
      inl (call_keeps s.disk n own.read c told wrote (subst (λ (z : CallData). Keeps s.disk n (needs.File z)) (file_call (call.Unlink (path (first_name (Todo m)))) c due) (intd_far m n)) filed)
  cleaner_by (clean.UnlinkSecond (Foop m)) p name c told h due same waits n there filed = ⊎_elim
      (λ t. spent_none m n t.1 h.rest.0 there)
      (λ f. inl (filed_by (called_queue q a own.read c told wrote q.role) n (same n (λ e. f.1 (sym (some_number m n e)))) filed))
      (eqb_tells n m)
  cleaner_by (clean.UnlinkSecond (Todo m)) p name c told h due same waits n there filed = ⊎_elim
      (λ t. inr (waits n (ap (λ (k : ℕ). Some (Todo k)) (sym t.1)) refl))
      (λ f. inl (filed_by (called_queue q a own.read c told wrote q.role) n (same n (λ e. f.1 (sym (some_number m n e)))) filed))
      (eqb_tells n m)
  cleaner_by row p name c told h due same waits n there filed = inl (filed_by (called_queue q a own.read c told wrote q.role) n (same n (λ e. absurd (cc))) filed)

  -- where it works at the todo file of a number, the sender waits for its answer to that
  module _ (since : ℕ) (past : List Own) (may : Runs (Cleaner since) past) where
    abbrev place : Place
    place = clean_after past

    linked : place_in (s.actors (codes "clean")) ≡ place
    linked =
        let named : a ≡ codes "clean" = I.crew a (actor (Cleaner since) past) may.is in
        ap place_in (ap s.actors (sym named) ∙ may.is)

    awaited : (n : ℕ) → work_at place.row ≡ Some (Todo n) → at_work place.row ≡ 1 → Awaited n
    awaited n works one x start is program alive =
        row_comes I.errands.waits (link_in s) I.errands.errand n (ap (λ (p : Place). work_at p.row) linked ∙ works) (ap (λ (p : Place). at_work p.row) linked ∙ one) (desk_of x.past).row (desk_of x.past) waits_so
      where
        waits_so : world_awaits (s.actors (codes "sender")) ≡ awaits (desk_of x.past)
        waits_so =
            ap world_awaits is
            ∙ ap (λ (life : Life). awaits_by life x.program x.past) alive
            ∙ ap (λ (p : Program). awaits_by Alive p x.past) program

  -- Each actor

  injector_left : (args : Arguments) (past : List Own) → Runs (Injector args) past → (due : NeedData) (got : GotData) → next_of (Injector args) past own.read own.ready ≡ due → ComesOf s a due got wrote → Left due got
  injector_left args past may (needs.File c) (came.Answered told) next comes n filed =
      let w = injector_calls s.now q a args past own.read own.ready c told wrote I.sound (I.fares a (actor (Injector args) past) may.is) may.no_earlier may.no_stall next comes.0 in
      let there = info_back (queue_after q a args own.read c told.answer wrote w.role) n (by_sorted q (queue_after q a args own.read c told.answer wrote w.role) w.sorted w.unsorted Info n refl) filed.1 in
      inl (filed_by (queue_after q a args own.read c told.answer wrote w.role) n (w.sorted n (Info, refl, has_look n there)) filed)
  injector_left args past may due got next comes n filed = inl filed

  cleaner_left : (since : ℕ) (past : List Own) → Runs (Cleaner since) past → (due : NeedData) (got : GotData) → next_of (Cleaner since) past own.read own.ready ≡ due → ComesOf s a due got wrote → Left due got
  cleaner_left since past may (needs.File c) (came.Answered told) next comes n filed =
      let p : Place = clean_after past in
      let st = I.fares a (actor (Cleaner since) past) may.is in
      let leads = cleaners_keep s.now q a past own.read own.ready c told wrote I.sound st may.no_later next comes.0 in
      let later = by_row q a own.read wrote told.answer p.row p.name c next comes.0 leads.abouts Info n refl in
      let there = info_back (called_queue q a own.read c told.answer wrote q.role) n later filed.1 in
      cleaner_by p.row p p.name c told.answer st next leads.abouts (awaited since past may) n (has_look n there) filed
  cleaner_left since past may due got next comes n filed = inl filed

  local_left : (since : ℕ) (past : List Own) → Runs (LocalSpawner since) past → (due : NeedData) (got : GotData) → next_of (LocalSpawner since) past own.read own.ready ≡ due → ComesOf s a due got wrote → Left due got
  local_left since past may (needs.File c) (came.Answered told) next comes n filed =
      let reads = local_reads q a (local_after past) own.ready c (I.fares a (actor (LocalSpawner since) past) may.is) next in
      let w = reads_keep s.now q a I.sound own.read c told.answer wrote reads comes.0 in
      inl (filed_by (called_queue q a own.read c told.answer wrote q.role) n (about_same s.now a None q (called_queue q a own.read c told.answer wrote q.role) w.elsewhere n (λ e. absurd (cc))) filed)
  local_left since past may due got next comes n filed = inl filed

  remote_left : (since : ℕ) (past : List Own) → Runs (RemoteSpawner since) past → (due : NeedData) (got : GotData) → next_of (RemoteSpawner since) past own.read own.ready ≡ due → ComesOf s a due got wrote → Left due got
  remote_left since past may (needs.File c) (came.Answered told) next comes n filed =
      let p = remote_after past in
      let holds = arrive_holds q a p.row p own.ready (I.fares a (actor (RemoteSpawner since) past) may.is) in
      let w = reads_keep s.now q a I.sound own.read c told.answer wrote (only_reads q a (remote_asks p.request) (remote_now p own.ready) p c holds next) comes.0 in
      inl (filed_by (called_queue q a own.read c told.answer wrote q.role) n (about_same s.now a None q (called_queue q a own.read c told.answer wrote q.role) w.elsewhere n (λ e. absurd (cc))) filed)
  remote_left since past may due got next comes n filed = inl filed

  delivery_left : (since : ℕ) (args : LocalArgs) (past : List Own) → Runs (Delivery since args) past → (due : NeedData) (got : GotData) → next_of (Delivery since args) past own.read own.ready ≡ due → ComesOf s a due got wrote
      → Left due got
  delivery_left since args past may (needs.File c) (came.Answered told) next comes n filed =
      let F : DeliveryFares q a args past Alive = I.fares a (actor (Delivery since args) past) may.is in
      let l = deliveries_keep.calls q a args past own.read own.ready c told wrote I.sound.suits F.rests (next, may_come s a (needs.File c) (came.Answered told) wrote comes) comes.0 comes.1 in
      inl (filed_by (called_queue q a own.read c told.answer wrote l.0) n (foreigners_keep.abouts a q (called_queue q a own.read c told.answer wrote l.0) l.1.foreign n) filed)
  delivery_left since args past may due got next comes n filed = inl filed

  by_program : (program : Program) (past : List Own) → (IsSender program → ⊥) → Runs program past → next_of program past own.read own.ready ≡ own.due → ComesOf s a own.due own.came wrote → Left own.due own.came
  by_program (Injector args) past other may next comes = injector_left args past may own.due own.came next comes
  by_program (Cleaner since) past other may next comes = cleaner_left since past may own.due own.came next comes
  by_program (Sender since) past other may next comes = absurd (other tt)
  by_program (LocalSpawner since) past other may next comes = local_left since past may own.due own.came next comes
  by_program (RemoteSpawner since) past other may next comes = remote_left since past may own.due own.came next comes
  by_program (Delivery since args) past other may next comes = delivery_left since args past may own.due own.came next comes

  by_life : (program : Program) (past : List Own) (life : Life) → life ≡ Alive → (IsSender program → ⊥) → MayRead s a (record { program = program; past = past; life = life }) own.read
      → next_of program past own.read own.ready ≡ own.due → ComesOf s a own.due own.came wrote → Left own.due own.came
  by_life program past Alive alive other may next comes = by_program program past other may next comes
  by_life program past (Over status) alive other may next comes = absurd (cc)
  by_life program past Stopped alive other may next comes = absurd (cc)

  pub other_filed : (may : MayDo s a own wrote) → (IsSender may.actor.program → ⊥) → Left own.due own.came
  other_filed may other = by_life may.actor.program may.actor.past may.actor.life may.reads.alive other may.reads may.due may.came

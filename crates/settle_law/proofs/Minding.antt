-- An event of an actor leaves nobody's number half-way.
use Rattle.std.proofs.Common.{◌≡◌, ◌≢◌, ◌⊎◌, ⊎_elim, ℕ, List, [], ◌∷◌, ◌++◌, Bool, true, false, if◌then◌else◌, Option, Some, None, refl, sym, ap, ◌∙◌, subst, bytes_eq, codes}
use Rattle.std.specs.Prelude.{Contains, IsSome}
use Rattle.std.proofs.lemmas.Bool.{false≢true}
use Rattle.call_fs.specs.Apply.{Fits}
use Rattle.call_fs.specs.Maps.{put_at}
use Rattle.call_fs.proofs.Maps.{put_at_cases, put_at_other, put_at_same}
use Rattle.call_fs.specs.declared.calls.Answer.{Answer}
use Rattle.call_fs.specs.declared.calls.Answer.TheVariants as answer
use Rattle.call_fs.specs.declared.calls.CallData.{CallData}
use Rattle.call_fs.specs.declared.calls.CallData.TheVariants as call
use Rattle.call_fs.specs.declared.past.GotData.{GotData}
use Rattle.call_fs.specs.declared.past.GotData.TheVariants as came
use Rattle.call_fs.specs.declared.past.NeedData.{NeedData}
use Rattle.call_fs.specs.declared.past.NeedData.TheVariants as needs
use Rattle.call_fs.specs.declared.past.Own.{Own}
use Rattle.call_fs.specs.declared.program.Port.TheVariants as port
use Rattle.local_parts.specs.declared.arguments.LocalArgs.{LocalArgs}
use Rattle.local_spawn.specs.Table.{place_after as local_after}
use Rattle.program_law.proofs.Delivery.Events.{deliveries_keep}
use Rattle.program_law.proofs.Errand.Links.{idle_is}
use Rattle.program_law.specs.Errand.Errands.{at_work}
use Rattle.program_law.specs.Errand.Errands.Awaits.{Answer as Awaiting, Nothing}
use Rattle.program_law.specs.Sender.InTodo.{TodoStands}
use Rattle.program_law.specs.Sender.Waits.{awaits, awaits_at}
use Rattle.queue_clean.specs.Table.{Place, due_at as clean_due_at, is_old, moved as cleans, pid_path, place_after as clean_after, search_after}
use Rattle.queue_clean.specs.declared.command.Command.TheVariants.{Foop, Todo as TodoCommand}
use Rattle.queue_clean.specs.declared.row.Row.{Row as CleanRow}
use Rattle.queue_clean.specs.declared.row.Row.TheVariants as clean
use Rattle.queue_inject.specs.declared.injection.Arguments.{Arguments}
use Rattle.queue_inject.specs.declared.row.Row.{Row as InjectRow}
use Rattle.queue_inject.specs.declared.row.Row.TheVariants as inject
use Rattle.queue_inject.specs.Table.{due_by as inject_due, has_input, in_time, is_late, place_after as inject_after}
use Rattle.queue_law.proofs.Looks.{find_none, find_some, found}
use Rattle.queue_law.specs.Books.{Injection}
use Rattle.queue_law.specs.Cleaners.{CleanerStands, Rests, StandsAt as CleanStandsAt}
use Rattle.queue_law.specs.Injectors.{InTime, Relies}
use Rattle.queue_law.specs.Numbers.{About, Entry, Phase, Queue, about, entry, find, look}
use Rattle.queue_law.specs.Numbers.Phase.{Finished, Free, Queued, Sorted}
use Rattle.queue_paths.specs.Dirs.{queue_dirs}
use Rattle.queue_paths.specs.Names.{Name, path}
use Rattle.queue_paths.specs.Names.Name.{Of}
use Rattle.queue_paths.specs.Names.Part.{Info, Intd, Mess, Todo}
use Rattle.queue_paths.specs.Parts.{in_todo, parts_of}
use Rattle.queue_paths.proofs.Parts.{todo_apart, todo_same}
use Rattle.queue_law.proofs.Waits.{todo_named}
use Rattle.remote_spawn.specs.Table.{place_after as remote_after, program_of as remote_asks}
use Rattle.send_core.specs.Table.{arrive, due_at, moved_by, row_now}
use Rattle.send_core.specs.declared.desk.Desk.{Desk}
use Rattle.send_parts.specs.declared.row.Row.{Row}
use Rattle.send_parts.specs.declared.row.Row.TheVariants as at
use Rattle.send_parts.specs.declared.rows.FinishRow.TheVariants as finish
use Rattle.send_parts.specs.Steps.{remove_text}
use Rattle.spawner_parts.specs.Table.{row_now as remote_now}
use Rattle.todo_pass.specs.Disks.{HoldsTodo}
use Rattle.todo_pass.specs.Table as pass_table
use Rattle.todo_pass.specs.declared.part.Target.TheVariants as target
use Rattle.todo_pass.specs.declared.row.Row.{Row as PassRow}
use Rattle.todo_pass.specs.declared.row.Row.TheVariants as todo
use Rattle.world_events.specs.declared.event.Program.{Program}
use Rattle.world_events.specs.declared.event.Program.TheVariants.{Injector, Cleaner, Sender, LocalSpawner, RemoteSpawner, Delivery}
use Rattle.world_pipes.specs.Pipework.{Pipe, Yields, pipes_after}
use Rattle.mail_world.specs.History.{Actor, ComesOf, IsCleaner, IsSender, Life, MayDo, MayRead, State, acted, disk_after, finished, next_of}
use Rattle.mail_world.specs.History.Life.{Alive}
use Rattle.mail_world.specs.Untouched.{queue}
use Rattle.mail_world.proofs.Coming.{may_come}
use Rattle.world_law.specs.Crew.{IsNamed, awaits_by, awaits_in, link_in, place_by, place_in}
use Rattle.world_law.specs.Fares.{DeliveryFares, FaresBy}
use Rattle.world_law.specs.Inv.{Inv}
use Rattle.world_law.specs.Standing.{number_at}
use Rattle.world_law.proofs.Standing.{relies_by}
use Rattle.world_law.proofs.Tenants.{some_actor}
use Rattle.settle_law.specs.inside.HalfWay.{IsHalfWay, IsMinded, IsNumber, is_answer}
use Rattle.settle_law.specs.inside.HalfWay.IsMinded.{Gives, Injects, Waits}
use Rattle.settle_law.specs.inside.Living.{IsServed}
use Rattle.settle_law.specs.inside.Living.Servant.{Cleans}
use Rattle.settle_law.specs.Suffices.{desk_of}
use Rattle.settle_law.specs.Well.{came_well}
use Rattle.settle_law.proofs.CleanPipe.{IsCalm, IsOpen, Sends, calm_left, pipe_left, reply_pipe}
use Rattle.settle_law.proofs.FreeRests.{length_none}
use Rattle.settle_law.proofs.HalfDisks.{IsUndone, Undoes, UnlinksTodo, is_refusal, is_refused, was_half_by}
use Rattle.settle_law.proofs.HalfRows.{IsClearing, IsTakingInfo, IsTakingTodo, apart, cleaner_takes, injector_links, local_undoes_none, spawner_undoes_none, sender_takes}
use Rattle.settle_law.proofs.Injecting.{MayLink, begins, goes_on}
use Rattle.settle_law.proofs.OthersInfos.{cleaner_left}
use Rattle.settle_law.proofs.PartDirs.{has_todo_dir}
use Rattle.settle_law.proofs.Removing.{row_after}
use Rattle.settle_law.proofs.ServedPasts.{at_row, by_answer}

abbrev pub Minds : State → Type 0
Minds s = (n : ℕ) → IsHalfWay s.disk n → IsMinded s n

-- what holds besides in each state of such a history
pub record Holds (s : State) : Type 0 where
  pub inv : Inv s
  pub minds : Minds s
  pub served : Sends s → IsServed Cleans s
  pub opened : IsOpen s
  pub dirs : (dir : List ℕ) → Contains queue_dirs dir → Contains s.disk.dirs dir
  pub small : (n : ℕ) (i : Injection) → s.books.living n ≡ Some i → IsNumber n

none_some : {A B : Type 0} (i : A) → ◌≡◌ {A = Option A} None (Some i) → B
none_some i e = absurd (cc)

-- a message that is being preprocessed, or is, is a living injection
info_lives : (w : About) → Phase w → (y : Entry) → w.parts Info ≡ Some y → (i : Injection) × (w.living ≡ Some i)
info_lives w (Free free) y there = none_some y (sym (free.unsorted Info refl) ∙ there)
info_lives w (Queued queued) y there = (queued.taken.injection, queued.taken.lives)
info_lives w (Sorted sorted) y there = (sorted.taken.injection, sorted.taken.lives)
info_lives w (Finished finished) y there = none_some y (sym (finished.unsorted Info refl) ∙ there)

-- what a living sender waits for
waits_for : (o : Option Actor) (z : Actor) (start : ℕ) → o ≡ Some z → z.life ≡ Alive → z.program ≡ Sender start → awaits_in o ≡ awaits (desk_of z.past)
waits_for o z start is alive program = ap awaits_in is ∙ ap (λ (l : Life). awaits_by l z.program z.past) alive ∙ ap (λ (p : Program). awaits_by Alive p z.past) program

no_answer : (row : CleanRow) → at_work row ≡ 0 → is_answer row ≡ false
no_answer (clean.Answer reply) e = absurd (cc)
no_answer row e = refl

-- a cleaner that is to give no answer calls, or takes its input
calm : (row : CleanRow) (name : List ℕ) (now : ℕ) → is_answer row ≡ false → IsCalm (clean_due_at row name now)
calm (clean.Answer reply) name now free = absurd (false≢true (sym free))
calm (clean.JudgePid moment) name now free = by (is_old moment now)
  where
    by : (b : Bool) → IsCalm (if b then needs.File (call.Unlink (pid_path name)) else search_after name)
    by true = tt
    by false = tt
calm row name now free = tt

-- An event of an actor

module _ (s : State) (H : Holds s) (a : List ℕ) (own : Own) (wrote : ℕ) (may : MayDo s a own wrote) (well : came_well own.came ≡ true)
    (soon : (args : Arguments) → may.actor.program ≡ Injector args → (c : CallData) → own.due ≡ needs.File c → InTime s.now args) where
  abbrev x : Actor
  x = may.actor

  abbrev y : Actor
  y = record { program = x.program; past = own ∷ x.past; life = x.life }

  abbrev t : State
  t = acted s a own wrote (Some x)

  abbrev q : Queue
  q = queue s H.inv.role

  was : (n : ℕ) → IsHalfWay t.disk n → IsUndone s.disk n own.due own.came ⊎ IsHalfWay s.disk n
  was n half = was_half_by s a own.read own.due own.came wrote n may.came half

  other_actor : (b : List ℕ) → b ≢ a → t.actors b ≡ s.actors b
  other_actor b far = put_at_other s.actors a (Some y) b far

  its_own : (b : List ℕ) (z : Actor) → s.actors b ≡ Some z → b ≡ a → z ≡ x
  its_own b z is e = some_actor z x (sym is ∙ ap s.actors e ∙ may.reads.is)

  due_of : (program : Program) → x.program ≡ program → next_of program x.past own.read own.ready ≡ own.due
  due_of program is = subst (λ (p : Program). next_of p x.past own.read own.ready ≡ own.due) is may.due

  sender_far : (IsSender x.program → ⊥) → (z : Actor) (start : ℕ) → s.actors (codes "sender") ≡ Some z → z.program ≡ Sender start → codes "sender" ≢ a
  sender_far other z start is program e = other (subst (λ (o : Actor). IsSender o.program) (its_own (codes "sender") z is e) (subst IsSender (sym program) tt))

  abbrev Works : ℕ → Type 0
  Works n = (args : Arguments) → x.program ≡ Injector args → number_at (inject_after args x.past) ≡ Some n → number_at (inject_after args (own ∷ x.past)) ≡ Some n

  abbrev WaitsOn : ℕ → Type 0
  WaitsOn n = (z : Actor) (start : ℕ) → s.actors (codes "sender") ≡ Some z → z.life ≡ Alive → z.program ≡ Sender start → (desk_of z.past).row ≡ at.Finish finish.Take n → IsNumber n
      → (reply_pipe s.pipework).bytes ≡ [] → is_answer (place_in (s.actors (codes "clean"))).row ≡ false → IsMinded t n

  -- who minds a number minds it still, if it is no sender's event
  kept : (IsSender x.program → ⊥) → (n : ℕ) → Works n → WaitsOn n → IsMinded s n → IsMinded t n
  kept other n works waits (Injects b z args is alive program number) = ⊎_elim
      (λ (c : (b ≡ a) × (put_at s.actors a (Some y) b ≡ Some y)).
      let same : z ≡ x = its_own b z is c.0 in
      let runs : x.program ≡ Injector args = subst (λ (o : Actor). o.program ≡ Injector args) same program in
      Injects b y args c.1 may.reads.alive runs (works args runs (subst (λ (o : Actor). number_at (inject_after args o.past) ≡ Some n) same number)))
      (λ (c : (b ≢ a) × (put_at s.actors a (Some y) b ≡ s.actors b)). Injects b z args (c.1 ∙ is) alive program number)
      (put_at_cases s.actors a (Some y) b)
  kept other n works waits (Gives z start is alive program row small) = Gives z start (other_actor (codes "sender") (sender_far other z start is program) ∙ is) alive program row small
  kept other n works waits (Waits z start is alive program row small empty free) = waits z start is alive program row small empty free

  -- nor the cleaner's
  clean_far : (IsCleaner x.program → ⊥) → (z : Actor) (start : ℕ) → s.actors (codes "sender") ≡ Some z → z.life ≡ Alive → z.program ≡ Sender start → codes "clean" ≢ a
  clean_far other z start is alive program e =
      let w = H.served (record { actor = z; is = is; alive = alive; sends = subst IsSender (sym program) tt }) in
      other (subst (λ (o : Actor). IsCleaner o.program) (its_own (codes "clean") w.actor w.is e) w.serves)

  others_wait : (IsSender x.program → ⊥) → (IsCleaner x.program → ⊥) → (n : ℕ) → WaitsOn n
  others_wait no_sender no_cleaner n z start is alive program row small empty free =
      let far = sender_far no_sender z start is program in
      let away = clean_far no_cleaner z start is alive program in
      Waits z start (other_actor (codes "sender") far ∙ is) alive program row small
      (ap (λ (pipe : Pipe). pipe.bytes) (pipe_left s.pipework a own.due own.came wrote (λ e. away (sym e)) (λ e. far (sym e))) ∙ empty)
      (ap (λ (o : Option Actor). is_answer (place_in o).row) (other_actor (codes "clean") away) ∙ free)

  -- An event that makes no number half-way, of a program that is no injector
  quiet : (IsSender x.program → ⊥) → (IsCleaner x.program → ⊥) → ((args : Arguments) → x.program ≡ Injector args → ⊥) → ((n : ℕ) → IsHalfWay t.disk n → IsHalfWay s.disk n) → Minds t
  quiet no_sender no_cleaner no_injector before n half =
      kept no_sender n (λ args is number. absurd (no_injector args is)) (others_wait no_sender no_cleaner n) (H.minds n (before n half))

  none_undone : ((n : ℕ) → Undoes n own.due → ⊥) → (n : ℕ) → IsHalfWay t.disk n → IsHalfWay s.disk n
  none_undone none n half = ⊎_elim (λ (u : IsUndone s.disk n own.due own.came). absurd (none n u.undoes)) (λ (before : IsHalfWay s.disk n). before) (was n half)

  -- a spawner only reads
  local_minds : (since : ℕ) → x.program ≡ LocalSpawner since → Minds t
  local_minds since is = quiet (subst (λ (p : Program). IsSender p → ⊥) (sym is) (λ e. e)) (subst (λ (p : Program). IsCleaner p → ⊥) (sym is) (λ e. e))
      (λ args e. both args (sym e ∙ is))
      (none_undone (λ n undoes. let p = local_after x.past in local_undoes_none p.row own.ready p n (subst (Undoes n) (sym (due_of (LocalSpawner since) is)) undoes)))
    where
      both : (args : Arguments) → Injector args ≡ LocalSpawner since → ⊥
      both args e = cc

  remote_minds : (since : ℕ) → x.program ≡ RemoteSpawner since → Minds t
  remote_minds since is = quiet (subst (λ (p : Program). IsSender p → ⊥) (sym is) (λ e. e)) (subst (λ (p : Program). IsCleaner p → ⊥) (sym is) (λ e. e))
      (λ args e. both args (sym e ∙ is))
      (none_undone (λ n undoes.
      let p = remote_after x.past in spawner_undoes_none (remote_asks p.request) (remote_now p own.ready) p n (subst (Undoes n) (sym (due_of (RemoteSpawner since) is)) undoes)))
    where
      both : (args : Arguments) → Injector args ≡ RemoteSpawner since → ⊥
      both args e = cc

  -- what a delivery does concerns none of the queue's names
  delivery_names : (since : ℕ) (args : LocalArgs) (past : List Own) → s.actors a ≡ Some (record { program = Delivery since args; past = past; life = Alive }) → (due : NeedData) (got : GotData)
      → next_of (Delivery since args) past own.read own.ready ≡ due → ComesOf s a due got wrote → (z : Name) → (disk_after s.disk own.read due got wrote).names (path z) ≡ s.disk.names (path z)
  delivery_names since args past is (needs.File c) (came.Answered told) next comes z =
      let F : DeliveryFares q a args past Alive = H.inv.fares a (record { program = Delivery since args; past = past; life = Alive }) is in
      let l = deliveries_keep.calls q a args past own.read own.ready c told wrote H.inv.sound.suits F.rests (next, may_come s a (needs.File c) (came.Answered told) wrote comes) comes.0 comes.1 in
      l.1.foreign.names z
  delivery_names since args past is due got next comes z = refl

  delivery_minds : (since : ℕ) (args : LocalArgs) → x.program ≡ Delivery since args → Minds t
  delivery_minds since args is = quiet (subst (λ (p : Program). IsSender p → ⊥) (sym is) (λ e. e)) (subst (λ (p : Program). IsCleaner p → ⊥) (sym is) (λ e. e))
      (λ other e. both other (sym e ∙ is))
      (λ n half.
      let same : (z : Name) → t.disk.names (path z) ≡ s.disk.names (path z) = delivery_names since args x.past there own.due own.came (due_of (Delivery since args) is) may.came in
      record { mess = λ none. half.mess (same (Of Mess n) ∙ none); no_todo = todo_same (parts_of t.disk.names n) (parts_of s.disk.names n) (λ part is. sym (same (Of part n))) ∙ half.no_todo; no_info = sym (same (Of Info n)) ∙ half.no_info })
    where
      both : (other : Arguments) → Injector other ≡ Delivery since args → ⊥
      both other e = cc

      there : s.actors a ≡ Some (record { program = Delivery since args; past = x.past; life = Alive })
      there = may.reads.is ∙ ap (λ (p : Program). Some (record { program = p; past = x.past; life = x.life })) is
          ∙ ap (λ (l : Life). Some (record { program = Delivery since args; past = x.past; life = l })) may.reads.alive

  -- An injector

  module _ (args : Arguments) (is : x.program ≡ Injector args) where
    abbrev row : InjectRow
    row = inject_after args x.past

    timely : in_time (has_input own.ready) (is_late args own.read) (inject_due args row) ≡ own.due
    timely = due_of (Injector args) is

    called : (input late : Bool) (c : CallData) (got : GotData) → ComesOf s a (in_time input late (needs.File c)) got wrote → in_time input late (needs.File c) ≡ needs.File c
    called true true c got comes = absurd comes
    called true false c got comes = refl
    called false late c got comes = absurd comes

    -- what it relies on before it links the todo file
    may_link : (n : ℕ) → row ≡ inject.LinkTodo n → MayLink s.disk n
    may_link n e =
        let c : CallData = call.Link (path (Of Intd n)) (path (Of Todo n)) in
        let due : inject_due args row ≡ needs.File c = ap (inject_due args) e in
        let comes : ComesOf s a (in_time (has_input own.ready) (is_late args own.read) (needs.File c)) own.came wrote =
        subst (λ (z : NeedData). ComesOf s a (in_time (has_input own.ready) (is_late args own.read) z) own.came wrote) due (subst (λ (z : NeedData). ComesOf s a z own.came wrote) (sym timely) may.came) in
        let file : own.due ≡ needs.File c =
        sym timely ∙ ap (in_time (has_input own.ready) (is_late args own.read)) due ∙ called (has_input own.ready) (is_late args own.read) c own.came comes in
        let relies : Relies q a args (inject.LinkTodo n) =
        subst (Relies q a args) e (relies_by s.now q a x.program x.past x.life args is may.reads.alive (H.inv.fares a x may.reads.is) (soon args is c file)) in
        let held = relies.holds.rest in
        let intd = found s.disk.names s.disk.files (Of Intd n) (record { number = relies.number; file = held.file }) held.intd in
        record {
          intd = λ none. none_some relies.number (sym none ∙ intd.0);
          dir = has_todo_dir s.disk n H.dirs (H.small n _ held.begins.lives).1;
        }

    injector_minds : Minds t
    injector_minds n half = ⊎_elim
        (λ (u : IsUndone s.disk n own.due own.came).
        let linking = injector_links args row (has_input own.ready) (is_late args own.read) n (subst (Undoes n) (sym timely) u.undoes) in
        Injects a y args (put_at_same s.actors a (Some y)) may.reads.alive is
        (begins s a args wrote (has_input own.ready) (is_late args own.read) row n own.came linking (subst (λ (z : NeedData). ComesOf s a z own.came wrote) (sym timely) may.came) u.fine))
        (λ (before : IsHalfWay s.disk n). kept no_sender n (works n half) (others_wait no_sender no_cleaner n) (H.minds n before))
        (was n half)
      where
        no_sender : IsSender x.program → ⊥
        no_sender sends = subst IsSender is sends

        no_cleaner : IsCleaner x.program → ⊥
        no_cleaner cleans = subst IsCleaner is cleans

        same_args : (one two : Arguments) → Injector one ≡ Injector two → one ≡ two
        same_args one two e = cc

        works : (n : ℕ) → IsHalfWay t.disk n → Works n
        works n half other it number =
            let same : args ≡ other = same_args args other (sym is ∙ it) in
            subst (λ (z : Arguments). number_at (inject_after z x.past) ≡ Some n → number_at (inject_after z (own ∷ x.past)) ≡ Some n) same
            (goes_on s a args own.read wrote x.past own n refl timely well may.came (may_link n) half) number

  -- The cleaner

  module _ (began : ℕ) (is : x.program ≡ Cleaner began) where
    abbrev cleaner_row : CleanRow
    cleaner_row = (clean_after x.past).row

    cleaner_due : clean_due_at cleaner_row (clean_after x.past).name own.read ≡ own.due
    cleaner_due = due_of (Cleaner began) is

    named : a ≡ codes "clean"
    named = subst (IsNamed a) is (H.inv.crew a x may.reads.is)

    place_is : place_in (s.actors (codes "clean")) ≡ clean_after x.past
    place_is = ap (λ (m : List ℕ). place_in (s.actors m)) (sym named) ∙ ap place_in may.reads.is ∙ ap (λ (p : Program). place_by p x.past) is

    place_then : place_in (t.actors (codes "clean")) ≡ clean_after (own ∷ x.past)
    place_then = ap (λ (m : List ℕ). place_in (t.actors m)) (sym named) ∙ ap place_in (put_at_same s.actors a (Some y)) ∙ ap (λ (p : Program). place_by p (own ∷ x.past)) is

    stood : CleanerStands s.now q (clean_after x.past)
    stood = subst (λ (l : Life). FaresBy s.now q a (Cleaner began) x.past l) may.reads.alive
        (subst (λ (p : Program). FaresBy s.now q a p x.past x.life) is (H.inv.fares a x may.reads.is))

    not_sender : IsSender x.program → ⊥
    not_sender sends = subst IsSender is sends

    may_read : MayRead s a (record { program = Cleaner began; past = x.past; life = Alive }) own.read
    may_read = subst (λ (l : Life). MayRead s a (record { program = Cleaner began; past = x.past; life = l }) own.read) may.reads.alive
        (subst (λ (p : Program). MayRead s a (record { program = p; past = x.past; life = x.life }) own.read) is may.reads)

    -- it leaves each info file
    left : (n : ℕ) → find t.disk.names t.disk.files (Of Info n) ≡ find s.disk.names s.disk.files (Of Info n)
    left n = cleaner_left s H.inv a own wrote began x.past may_read own.due own.came (due_of (Cleaner began) is) may.came Info n refl

    -- a todo file goes only from a message that has its info file
    todo_kept : (n : ℕ) → IsHalfWay t.disk n → (row : CleanRow) → cleaner_row ≡ row → IsTakingTodo row n → ⊥
    todo_kept n half (clean.UnlinkSecond (TodoCommand m)) e same =
        let rests : Rests s.now q (clean.UnlinkSecond (TodoCommand m)) = subst (λ (r : CleanRow). CleanStandsAt s.now q r (clean_after x.past)) e stood in
        let info = rests.rest.0.made.info in
        let there : look q (Of Info n) ≡ Some info.file = ap (λ (k : ℕ). look q (Of Info k)) (sym same) ∙ info.there in
        none_some info.file (sym (find_none t.disk.names t.disk.files (Of Info n) half.no_info) ∙ left n ∙ there)
    todo_kept n half r e taking = absurd taking

    cleaner_waits : (n : ℕ) → IsHalfWay t.disk n → WaitsOn n
    cleaner_waits n half z start there alive program row small empty free =
        let waiting : (link_in s).awaits ≡ Awaiting (Foop n) =
        waits_for (s.actors (codes "sender")) z start there alive program ∙ ap (λ (r : Row). awaits_at r (desk_of z.past).pass) row in
        let p = place_in (s.actors (codes "clean")) in
        let due : clean_due_at p.row p.name own.read ≡ own.due = ap (λ (v : Place). clean_due_at v.row v.name own.read) place_is ∙ cleaner_due in
        let comes : ComesOf s (codes "clean") (clean_due_at p.row p.name own.read) own.came wrote =
        subst (λ (m : List ℕ). ComesOf s m (clean_due_at p.row p.name own.read) own.came wrote) named (subst (λ (v : NeedData). ComesOf s a v own.came wrote) (sym due) may.came) in
        let after_it = row_after s n small H.inv.errands.waits H.inv.errands.errand waiting own wrote well p.row refl comes
        (subst (λ (v : NeedData). IsHalfWay (disk_after s.disk own.read v own.came wrote) n) (sym due) half) free in
        Waits z start (other_actor (codes "sender") (sender_far not_sender z start there program) ∙ there) alive program row small
        (ap (λ (pipe : Pipe). pipe.bytes) (calm_left s.pipework a own.due own.came wrote (subst IsCalm due (calm p.row p.name own.read free))) ∙ empty)
        (ap (λ (v : Place). is_answer v.row) (place_then ∙ ap (λ (v : Place). cleans v own) (sym place_is)) ∙ after_it)

    cleaner_minds : Minds t
    cleaner_minds n half = ⊎_elim
        (λ (u : IsUndone s.disk n own.due own.came).
        absurd (todo_kept n half cleaner_row refl (cleaner_takes cleaner_row (clean_after x.past).name own.read n (subst (Undoes n) (sym cleaner_due) u.undoes))))
        (λ (before : IsHalfWay s.disk n). kept not_sender n (λ args runs number. absurd (other args runs)) (cleaner_waits n half) (H.minds n before))
        (was n half)
      where
        other : (args : Arguments) → x.program ≡ Injector args → ⊥
        other args runs = let both : Injector args ≡ Cleaner began = sym runs ∙ is in absurd (cc)

  -- The sender

  module _ (began : ℕ) (is : x.program ≡ Sender began) where
    abbrev d : Desk
    d = desk_of x.past

    abbrev send_row : Row
    send_row = row_now d own.read own.ready

    sender_due : due_at send_row d ≡ own.due
    sender_due = due_of (Sender began) is

    named_so : a ≡ codes "sender"
    named_so = subst (IsNamed a) is (H.inv.crew a x may.reads.is)

    there_now : s.actors (codes "sender") ≡ Some x
    there_now = ap s.actors (sym named_so) ∙ may.reads.is

    there_then : t.actors (codes "sender") ≡ Some y
    there_then = ap t.actors (sym named_so) ∙ put_at_same s.actors a (Some y)

    cleaner_stays : t.actors (codes "clean") ≡ s.actors (codes "clean")
    cleaner_stays = other_actor (codes "clean") (λ e. let v : true ≡ false = ap (λ (m : List ℕ). bytes_eq m (codes "clean")) (e ∙ named_so) in absurd (cc))

    is_it : (z : Actor) → s.actors (codes "sender") ≡ Some z → z ≡ x
    is_it z there = some_actor z x (sym there ∙ there_now)

    -- It finishes a message: its info file is gone

    module _ (n : ℕ) (at_it : send_row ≡ at.Finish finish.UnlinkInfo n) (fine : is_refusal own.came ≡ false) where
      abbrev c : CallData
      c = call.Unlink (path (Of Info n))

      unlinks : needs.File c ≡ own.due
      unlinks = ap (λ (r : Row). due_at r d) (sym at_it) ∙ sender_due

      comes : ComesOf s a (needs.File c) own.came wrote
      comes = subst (λ (v : NeedData). ComesOf s a v own.came wrote) (sym unlinks) may.came

      row_then : (moved_by (at.Finish finish.UnlinkInfo n) own.read own.came d).row ≡ at.Finish finish.Give n
      row_then = by_answer s a (λ g. is_refusal g ≡ false → (moved_by (at.Finish finish.UnlinkInfo n) own.read g d).row ≡ at.Finish finish.Give n) c wrote own.came comes
          (λ answers bytes fits good. by answers bytes fits good) fine
        where
          by : (answers : Answer) (bytes : List ℕ) → Fits s.disk c answers wrote → is_refused answers ≡ false
              → (moved_by (at.Finish finish.UnlinkInfo n) own.read (came.Answered (record { answer = answers; bytes = bytes })) d).row ≡ at.Finish finish.Give n
          by answer.Done bytes fits good = refl
          by (answer.Refused reason) bytes fits good = absurd (cc)
          by answers bytes fits good = absurd fits

      was_there : IsSome (s.disk.names (path (Of Info n)))
      was_there = by_answer s a (λ g. is_refusal g ≡ false → IsSome (s.disk.names (path (Of Info n)))) c wrote own.came comes (λ answers bytes fits good. by answers fits good) fine
        where
          by : (answers : Answer) → Fits s.disk c answers wrote → is_refused answers ≡ false → IsSome (s.disk.names (path (Of Info n)))
          by answer.Done fits good = fits
          by (answer.Refused reason) fits good = absurd (cc)
          by answers fits good = absurd fits

      number : IsNumber n
      number = by (s.disk.names (path (Of Info n))) refl was_there
        where
          by : (o : Option ℕ) → s.disk.names (path (Of Info n)) ≡ o → IsSome o → IsNumber n
          by None e some = absurd (false≢true some)
          by (Some i) e some =
              let w = info_lives (about q n) (H.inv.sound.fine n) (entry s.disk.files i) (find_some s.disk.names s.disk.files (Of Info n) i e) in H.small n w.0 w.1

      finishes : IsMinded t n
      finishes = Gives y began there_then may.reads.alive is (ap (λ (r : Row). (moved_by r own.read own.came d).row) at_it ∙ row_then) number

    -- It clears what an earlier preprocessing left: its todo file is there

    clears_none : (n : ℕ) → IsUndone s.disk n own.due own.came → send_row ≡ at.InTodo → IsClearing d.pass.row → d.pass.n ≡ n → ⊥
    clears_none n u at_it clearing same = by d.pass.row refl (at_row s H.inv a own wrote may began is well at.InTodo at_it).rests.1.1 clearing
      where
        by : (r : PassRow) → d.pass.row ≡ r → TodoStands d.book.controls s.now q a r d.pass → IsClearing r → ⊥
        by (todo.Clear target.Info) e st clearing =
            let queued = (st.stands.rests (subst HoldsTodo (sym e) tt)).rest in
            let todo_is : in_todo (parts_of s.disk.names n) ≡ Some queued.todo.number =
            ap (λ (k : ℕ). in_todo (parts_of s.disk.names k)) (sym same) ∙ todo_named s.disk.names s.disk.files d.pass.n queued.todo queued.todo_there in
            let due_is : own.due ≡ needs.File (call.Unlink (path (Of Info d.pass.n))) =
            sym sender_due ∙ ap (λ (r : Row). due_at r d) at_it ∙ ap (λ (r : PassRow). pass_table.due_at r d.pass) e in
            ⊎_elim
            (λ (unlinks : UnlinksTodo n own.due).
            let w = subst (UnlinksTodo n) due_is unlinks in apart (Of Info d.pass.n) (Of w.0 n) (λ e. todo_apart w.0 n (Of Info d.pass.n) w.1 refl (sym e)) w.2)
            (λ (none : in_todo (parts_of s.disk.names n) ≡ None). none_some queued.todo.number (sym none ∙ todo_is))
            u.todo
        by r e st clearing = absurd clearing

    undone : (n : ℕ) → IsUndone s.disk n own.due own.came → (r : Row) → send_row ≡ r → IsTakingInfo r d.pass n → IsMinded t n
    undone n u (at.Finish finish.UnlinkInfo m) e same = finishes n (e ∙ ap (at.Finish finish.UnlinkInfo) same) u.fine
    undone n u at.InTodo e taking = absurd (clears_none n u e taking.0 taking.1)
    undone n u r e taking = absurd taking

    -- It gives the command to remove a message

    module _ (n : ℕ) (row : d.row ≡ at.Finish finish.Give n) (small : IsNumber n) where
      row_is : send_row ≡ at.Finish finish.Give n
      row_is = ap (λ (r : Row). arrive r d own.read own.ready) row

      gives_it : needs.Give port.Clean (remove_text n) ≡ own.due
      gives_it = ap (λ (r : Row). due_at r d) (sym row_is) ∙ sender_due

      gave : own.came ≡ came.Gave
      gave = by own.came (subst (λ (v : NeedData). ComesOf s a v own.came wrote) (sym gives_it) may.came) well
        where
          by : (got : GotData) → ComesOf s a (needs.Give port.Clean (remove_text n)) got wrote → came_well got ≡ true → got ≡ came.Gave
          by came.Gave comes well = refl
          by came.Failed comes well = absurd (cc)
          by got comes well = absurd comes

      nothing : (link_in s).awaits ≡ Nothing
      nothing = waits_for (s.actors (codes "sender")) x began there_now may.reads.alive is ∙ ap (λ (r : Row). awaits_at r d.pass) row

      asked : IsMinded t n
      asked =
          let idle = idle_is H.inv.errands.waits (link_in s) H.inv.errands.errand nothing in
          let pipe : reply_pipe t.pipework ≡ reply_pipe s.pipework =
          ap (λ (v : NeedData). pipes_after s.pipework a v own.came wrote (codes "sender") port.Clean) (sym gives_it)
          ∙ ap (λ (g : GotData). pipes_after s.pipework a (needs.Give port.Clean (remove_text n)) g wrote (codes "sender") port.Clean) gave in
          Waits y began there_then may.reads.alive is
          (ap (λ (r : Row). (moved_by r own.read own.came d).row) row_is ∙ ap (λ (g : GotData). (moved_by (at.Finish finish.Give n) own.read g d).row) gave) small
          (ap (λ (p : Pipe). p.bytes) pipe ∙ length_none (reply_pipe s.pipework).bytes idle.1.1)
          (ap (λ (o : Option Actor). is_answer (place_in o).row) cleaner_stays ∙ no_answer (place_in (s.actors (codes "clean"))).row idle.1.0)

    -- Nothing comes of the cleaner yet

    none_comes : (n : ℕ) → d.row ≡ at.Finish finish.Take n → (reply_pipe s.pipework).bytes ≡ [] → ⊥
    none_comes n row empty =
        let row_is : send_row ≡ at.Finish finish.Take n = ap (λ (r : Row). arrive r d own.read own.ready) row in
        let takes_it : needs.Take port.Clean ≡ own.due = ap (λ (r : Row). due_at r d) (sym row_is) ∙ sender_due in
        by own.came (subst (λ (m : List ℕ). Yields (s.pipework.pipes m port.Clean) own.came) named_so (subst (λ (v : NeedData). ComesOf s a v own.came wrote) (sym takes_it) may.came)) well
      where
        none_more : (bytes rest : List ℕ) → [] ≡ bytes ++ rest → bytes ≡ []
        none_more [] rest e = refl
        none_more (b ∷ bytes) rest e = absurd (cc)

        by : (got : GotData) → Yields (reply_pipe s.pipework) got → came_well got ≡ true → ⊥
        by (came.Took bytes) yields well = yields.0 (none_more bytes yields.1.0 (sym empty ∙ yields.1.1))
        by came.End yields well = false≢true (sym (H.opened (record { actor = x; is = there_now; alive = may.reads.alive; sends = subst IsSender (sym is) tt })) ∙ yields.1)
        by came.Failed yields well = false≢true well
        by got yields well = absurd yields

    minded_by : (n : ℕ) → IsMinded s n → IsMinded t n
    minded_by n (Injects b z args there alive program number) =
        let far : b ≢ a = λ e. other (sym (subst (λ (o : Actor). o.program ≡ Injector args) (its_own b z there e) program) ∙ is) in
        Injects b z args (other_actor b far ∙ there) alive program number
      where
        other : Injector args ≡ Sender began → ⊥
        other e = cc
    minded_by n (Gives z start there alive program row small) = asked n (subst (λ (o : Actor). (desk_of o.past).row ≡ at.Finish finish.Give n) (is_it z there) row) small
    minded_by n (Waits z start there alive program row small empty free) =
        absurd (none_comes n (subst (λ (o : Actor). (desk_of o.past).row ≡ at.Finish finish.Take n) (is_it z there) row) empty)

    sender_minds : Minds t
    sender_minds n half = ⊎_elim
        (λ (u : IsUndone s.disk n own.due own.came). undone n u send_row refl (sender_takes send_row d n (subst (Undoes n) (sym sender_due) u.undoes)))
        (λ (before : IsHalfWay s.disk n). minded_by n (H.minds n before))
        (was n half)

  pub acts_minded : Minds (acted s a own wrote (Some may.actor))
  acts_minded = by x.program refl
    where
      by : (p : Program) → x.program ≡ p → Minds t
      by (Injector args) is = injector_minds args is
      by (Cleaner began) is = cleaner_minds began is
      by (Sender began) is = sender_minds began is
      by (LocalSpawner since) is = local_minds since is
      by (RemoteSpawner since) is = remote_minds since is
      by (Delivery since args) is = delivery_minds since args is

-- Events of the local spawner: it takes requests, starts deliveries, takes their statuses and gives reports.
use Rattle.std.proofs.Common.{◌≡◌, ◌≢◌, ◌⊎◌, inl, inr, ⊎_elim, ℕ, ◌==◌, List, [], ◌∷◌, Bool, true, false, Option, Some, None, refl, sym, ap, ◌∙◌, subst, codes, if◌then◌else◌}
use Rattle.std.proofs.lemmas.Bool.{eq-eqb, eqb-true, ne_eqb}
use Rattle.call_fs.specs.Disk.{Among}
use Rattle.call_fs.specs.Maps.{put}
use Rattle.call_fs.proofs.Maps.{put_at_other, put_at_same, put_cases}
use Rattle.call_fs.specs.declared.past.ChildData.{ChildData}
use Rattle.call_fs.specs.declared.past.ChildData.TheVariants as child
use Rattle.call_fs.specs.declared.past.DeliveryWordsData.{DeliveryWordsData}
use Rattle.call_fs.specs.declared.past.GotData.{GotData}
use Rattle.call_fs.specs.declared.past.GotData.TheVariants as got
use Rattle.call_fs.specs.declared.past.NeedData.{NeedData}
use Rattle.call_fs.specs.declared.past.NeedData.TheVariants as needs
use Rattle.call_fs.specs.declared.past.Own.{Own}
use Rattle.call_fs.specs.declared.program.Port.TheVariants as port
use Rattle.call_fs.specs.declared.program.Ready.{Ready}
use Rattle.local_spawn.specs.declared.place.Place.{Place}
use Rattle.local_spawn.specs.declared.row.Row.{Row}
use Rattle.local_spawn.specs.declared.row.Row.TheVariants as at
use Rattle.local_spawn.specs.Table.{due_at, due_by, due_from, moved, place_after}
use Rattle.local_parts.specs.Arguments.{local_args}
use Rattle.program_law.specs.Post.Posts.{Done, IsOffered, Post, Posted, Task, asked_by, done_by, entered, task_of, tasks_by, told_by, works}
use Rattle.program_law.specs.Post.Senders.{IsFirst}
use Rattle.program_law.proofs.Post.Spawners.{spawners_keep}
use Rattle.send_known.specs.declared.channel.Channel.TheVariants as channel
use Rattle.spawner_parts.specs.declared.row.Row.{Row as WorkRow}
use Rattle.spawner_parts.specs.declared.row.Row.TheVariants as work_at
use Rattle.spawner_parts.specs.Table.{row_now}
use Rattle.world_pipes.specs.Pipework.{Pipe, Pipework, Tenant, Yields, programs_after, put_program}
use Rattle.world_pipes.specs.Pipework.Tenant.{Runs}
use Rattle.world_events.specs.declared.event.Program.{Program}
use Rattle.world_events.specs.declared.event.Program.TheVariants.{Delivery, LocalSpawner}
use Rattle.mail_world.specs.History.{Actor, ComesOf, IsLocalSpawner, IsProgramOf, IsStatusOf, Life, State, TenantEnds, acted, bears, newborn, next_of, slot_by}
use Rattle.mail_world.specs.History.Life.{Alive, Over, Stopped}
use Rattle.world_law.specs.Crew.{IsNamed}
use Rattle.world_law.specs.Inv.{Inv}
use Rattle.world_law.specs.inside.Posts.{IsTaskIn, PostsStand, View, WasDone, desk_in, place_in, post_of, sends_in, serves_in, view_of}
use Rattle.world_law.proofs.PostEvents.{neither_seen, tenant_not}
use Rattle.world_law.proofs.PostPipes.{IsCalm, asked_output, asked_spawned, names_apart, told_output, told_spawned}
use Rattle.world_law.proofs.PostViews.{KeepsDone, KeepsSlots, halves, new_keeps_done, put_keeps_done, put_seen, task_kept, then_done, view_same, was_kept}
use Rattle.world_law.proofs.Tenants.{some_actor}

-- What is due: it gives nothing to itself, and starts deliveries alone

abbrev pub IsLocalDue : NeedData → Type 0
IsLocalDue (needs.Give port.Lspawn bytes) = ⊥
IsLocalDue (needs.Start (child.Local slot words uid)) = Unit {0}
IsLocalDue (needs.Start asked) = ⊥
IsLocalDue due = Unit {0}

serves_due : (row : WorkRow) (p : Place) → IsLocalDue (due_from row p)
serves_due work_at.Start p = tt
serves_due row p = tt

pub local_due : (row : Row) (ready : Ready) (p : Place) → IsLocalDue (due_at row ready p)
local_due at.OpenUsers ready p = tt
local_due (at.ReadUsers fd) ready p = tt
local_due (at.CloseUsers fd whole) ready p = tt
local_due at.Serves ready p = serves_due (row_now p.work ready) p
local_due at.OutOfMemory ready p = tt

due_calm : (due : NeedData) → IsLocalDue due → IsCalm channel.Local due
due_calm (needs.Give port.Lspawn bytes) it = it
due_calm due it = tt

-- an event that starts nothing
abbrev pub StartsNone : NeedData → GotData → Type 0
StartsNone (needs.Start asked) (got.Started pid) = ⊥
StartsNone due came = Unit {0}

pub starts_none : (s : State) (a : List ℕ) (due : NeedData) (came : GotData) (wrote : ℕ) → IsLocalDue due → ComesOf s a due came wrote → StartsNone due came
starts_none s a (needs.Start (child.Local slot words uid)) (got.Started pid) wrote it comes = comes
starts_none s a (needs.Start asked) (got.Started pid) wrote it comes = absurd it
starts_none s a due came wrote it comes = tt

-- Deliveries in its slots

freed_stays : (w : Pipework) (d : ℕ) (tasks : ℕ → Option Task) (slot : ℕ) (k : Task) → put tasks d None slot ≡ Some k
    → (tasks slot ≡ Some k) × (put_program w.programs (codes "lspawn") d None (codes "lspawn") slot ≡ w.programs (codes "lspawn") slot)
freed_stays w d tasks slot k is = ⊎_elim
    (λ (c : (slot ≡ d) × (put tasks d None slot ≡ None)). let both : ◌≡◌ {A = Option Task} None (Some k) = sym c.1 ∙ is in absurd (cc))
    (λ (c : (slot ≢ d) × (put tasks d None slot ≡ tasks slot)). (sym c.1 ∙ is, ap (λ (t : Bool). if t then None else w.programs (codes "lspawn") slot) (ne_eqb slot d c.0)))
    (put_cases tasks d None slot)

-- one that runs still ran before, in a slot that is as it was
pub task_stays : (w : Pipework) (due : NeedData) (came : GotData) (tasks : ℕ → Option Task) → StartsNone due came → (slot : ℕ) (k : Task) → tasks_by due came [] tasks slot ≡ Some k
    → (tasks slot ≡ Some k) × (programs_after w.programs (codes "lspawn") due came (codes "lspawn") slot ≡ w.programs (codes "lspawn") slot)
task_stays w (needs.Take (port.Status d)) (got.Ended status) tasks none slot k is = freed_stays w d tasks slot k is
task_stays w (needs.Take (port.Status d)) got.Crashed tasks none slot k is = freed_stays w d tasks slot k is
task_stays w (needs.Start asked) (got.Started pid) tasks none slot k is = absurd none
task_stays w (needs.Start (child.Local d words uid)) came tasks none slot k is = (is, refl)
task_stays w (needs.Start (child.Remote d domain sender recipient)) came tasks none slot k is = (is, refl)
task_stays w (needs.Start (child.Bounce room)) came tasks none slot k is = (is, refl)
task_stays w (needs.Start (child.Forward uid room)) came tasks none slot k is = (is, refl)
task_stays w due came tasks none slot k is = (is, refl)

-- and those that ended with 0

pub record IsDoneNow (due : NeedData) (came : GotData) (tasks : ℕ → Option Task) (x : Done) : Type 0 where
  pub due_is : due ≡ needs.Take (port.Status x.slot)
  pub came_is : came ≡ got.Ended 0
  pub ran : tasks x.slot ≡ Some x.task

entered_cases : (slot : ℕ) (o : Option Task) (done : List Done) (x : Done) → Among x (entered slot o done) → Among x done ⊎ ((x.slot ≡ slot) × (o ≡ Some x.task))
entered_cases slot None done x h = inl h
entered_cases slot (Some t) done x h = ⊎_elim
    (λ (same : x ≡ record { slot = slot; task = t }). inr (ap (λ (d : Done). d.slot) same, ap (λ (d : Done). Some d.task) (sym same)))
    (λ (older : Among x done). inl older)
    h

pub done_cases : (due : NeedData) (came : GotData) (tasks : ℕ → Option Task) (done : List Done) (x : Done) → Among x (done_by due came tasks done) → Among x done ⊎ IsDoneNow due came tasks x
done_cases (needs.Take (port.Status slot)) (got.Ended status) tasks done x h = by (status == 0) refl h where
  by : (zero : Bool) → (status == 0) ≡ zero → Among x (if zero then entered slot (tasks slot) done else done) → Among x done ⊎ IsDoneNow (needs.Take (port.Status slot)) (got.Ended status) tasks x
  by true e h = ⊎_elim
      (λ (older : Among x done). inl older)
      (λ (c : (x.slot ≡ slot) × (tasks slot ≡ Some x.task)).
      inr (record { due_is = ap (λ (n : ℕ). needs.Take (port.Status n)) (sym c.0); came_is = ap got.Ended (eqb-true status 0 e); ran = ap tasks c.0 ∙ c.1 }))
      (entered_cases slot (tasks slot) done x h)
  by false e h = inl h
done_cases due came tasks done x h = inl h

over_now : (life : Life) (came : GotData) → IsStatusOf life came → came ≡ got.Ended 0 → life ≡ Over 0
over_now Alive came h e = absurd h
over_now (Over status) came h e = let both : got.Ended status ≡ got.Ended 0 = sym h ∙ e in let same : status ≡ 0 = cc in ap Over same
over_now Stopped came h e = let both : got.Crashed ≡ got.Ended 0 = sym h ∙ e in absurd (cc)

pub was_now : (s : State) → Inv s → (due : NeedData) (came : GotData) (wrote : ℕ) (tasks : ℕ → Option Task) (x : Done) → IsDoneNow due came tasks x → ComesOf s (codes "lspawn") due came wrote
    → IsTaskIn s x.slot x.task → WasDone s x
was_now s I due came wrote tasks x now comes runs = ⊎_elim
    (λ (failed : came ≡ got.Failed). let both : got.Failed ≡ got.Ended 0 = sym failed ∙ now.came_is in absurd (cc))
    (λ (ends : TenantEnds s (s.pipework.programs (codes "lspawn") x.slot) came).
    let it : TenantEnds s (Some (Runs x.task.name)) came = subst (λ (o : Option Tenant). TenantEnds s o came) runs.runs ends in
    let same : runs.is_for.delivery ≡ it.0 = some_actor runs.is_for.delivery it.0 (sym runs.is_for.is ∙ it.1) in
    record { is_for = runs.is_for; in_slot = (I.tenants (codes "lspawn") x.slot (Runs x.task.name) runs.runs).back; over = ap (λ (y : Actor). y.life) same ∙ over_now it.0.life came it.2 now.came_is })
    taken
  where
    taken : (came ≡ got.Failed) ⊎ TenantEnds s (s.pipework.programs (codes "lspawn") x.slot) came
    taken = subst (λ (n : NeedData). ComesOf s (codes "lspawn") n came wrote) now.due_is comes

-- what comes of a taking lay in its pipe
pub offered_by : (pipe : Pipe) (came : GotData) → Yields pipe came → IsOffered pipe.bytes came
offered_by pipe (got.Took bytes) y = y.1
offered_by pipe came y = tt

-- An event

abbrev pub spawner : ℕ → List Own → Actor
spawner began past = record { program = LocalSpawner began; past = past; life = Alive }

module _ (s : State) (I : Inv s) (P : PostsStand s) (own : Own) (wrote began : ℕ) (past : List Own) (is : s.actors (codes "lspawn") ≡ Some (spawner began past))
    (due : due_by (place_after past) own.ready ≡ own.due) where
  abbrev name : List ℕ
  name = codes "lspawn"

  abbrev p : Place
  p = place_after past

  -- before it
  abbrev before : View
  before = record {
    desk = desk_in (s.actors (codes "sender"));
    sends = sends_in (s.actors (codes "sender"));
    place = p;
    serves = true;
    told = (s.pipework.pipes (codes "sender") port.Lspawn).bytes;
    asked = (s.pipework.pipes (codes "lspawn") port.Input).bytes;
  }

  seen_before : view_of s.actors s.pipework ≡ before
  seen_before = λ i. record {
    desk = desk_in (s.actors (codes "sender"));
    sends = sends_in (s.actors (codes "sender"));
    place = place_in (is i);
    serves = serves_in (is i);
    told = (s.pipework.pipes (codes "sender") port.Lspawn).bytes;
    asked = (s.pipework.pipes (codes "lspawn") port.Input).bytes;
  }

  abbrev post : Post
  post = post_of before P.tasks P.last P.done

  pub posted : Posted post
  posted = subst (λ (v : View). Posted (post_of v P.tasks P.last P.done)) seen_before P.posted

  pub worked : (starts : List ℕ) → (own.due ≡ needs.Take port.Input → IsOffered before.asked own.came) → Posted (works own wrote starts post)
  worked starts offered = spawners_keep own wrote starts post posted refl (sym due) offered

  pub it_is : IsLocalDue own.due
  it_is = subst IsLocalDue due (local_due p.row own.ready p)

  -- after it
  abbrev then_state : State
  then_state = acted s name own wrote (Some (spawner began past))

  abbrev afterwards : View
  afterwards = record {
    desk = desk_in (s.actors (codes "sender"));
    sends = sends_in (s.actors (codes "sender"));
    place = moved p own;
    serves = true;
    told = told_by own.due own.came wrote before.told;
    asked = asked_by own.due own.came before.asked;
  }

  here : then_state.actors name ≡ Some (spawner began (own ∷ past))
  here = put_at_same s.actors name (Some (spawner began (own ∷ past)))

  no_sender : codes "sender" ≢ codes "lspawn"
  no_sender = names_apart (codes "sender") (codes "lspawn") refl

  there : then_state.actors (codes "sender") ≡ s.actors (codes "sender")
  there = put_at_other s.actors name (Some (spawner began (own ∷ past))) (codes "sender") no_sender

  told_then : (then_state.pipework.pipes (codes "sender") port.Lspawn).bytes ≡ told_by own.due own.came wrote before.told
  told_then = told_spawned s.pipework channel.Local own.due own.came wrote

  asked_then : (then_state.pipework.pipes name port.Input).bytes ≡ asked_by own.due own.came before.asked
  asked_then = asked_spawned s.pipework channel.Local (tenant_not s I channel.Local name) own.due own.came wrote (due_calm own.due it_is)

  pub seen_then : view_of then_state.actors then_state.pipework ≡ afterwards
  seen_then = λ i. record {
    desk = desk_in (there i);
    sends = sends_in (there i);
    place = place_in (here i);
    serves = serves_in (here i);
    told = told_then i;
    asked = asked_then i;
  }

  pub keeps : KeepsDone s.actors then_state.actors
  keeps = put_keeps_done s.actors name (spawner began past) (spawner began (own ∷ past)) is refl (λ h. h)

  pub offered : ComesOf s name own.due own.came wrote → own.due ≡ needs.Take port.Input → IsOffered before.asked own.came
  offered comes e = offered_by (s.pipework.pipes name port.Input) own.came (subst (λ (n : NeedData). ComesOf s name n own.came wrote) e comes)

  -- one that starts no delivery
  unfoldable pub spawner_event : ComesOf s name own.due own.came wrote → PostsStand then_state
  spawner_event comes = record {
    tasks = tasks_by own.due own.came [] P.tasks;
    last = P.last;
    done = done_by own.due own.came P.tasks P.done;
    posted = subst (λ (v : View). Posted (post_of v (tasks_by own.due own.came [] P.tasks) P.last (done_by own.due own.came P.tasks P.done))) (sym seen_then) (worked [] (offered comes));
    first = subst (λ (v : View). IsFirst v.desk.row v.desk) (sym seen_then) P.first;
    run = λ slot k h.
        let it = task_stays s.pipework own.due own.came P.tasks (starts_none s name own.due own.came wrote it_is comes) slot k h in
        task_kept s then_state keeps slot k it.1 (P.run slot k it.0);
    was = λ x among. ⊎_elim
        (λ (older : Among x P.done). was_kept s then_state keeps (λ b y there. refl) x (P.was x older))
        (λ (now : IsDoneNow own.due own.came P.tasks x). was_kept s then_state keeps (λ b y there. refl) x (was_now s I own.due own.came wrote P.tasks x now comes (P.run x.slot x.task now.ran)))
        (done_cases own.due own.came P.tasks P.done x among);
  }

  -- the start of a delivery
  module _ (slot : ℕ) (words : DeliveryWordsData) (uid pid : ℕ) (starts : own.due ≡ needs.Start (child.Local slot words uid)) (came : own.came ≡ got.Started pid)
      (a : List ℕ) (new : s.actors a ≡ None) (start : ℕ) where
    abbrev delivery : Actor
    delivery = newborn (Delivery start (local_args words uid pid))

    abbrev borne : State
    borne = bears then_state name own a (Delivery start (local_args words uid pid))

    abbrev tasks : ℕ → Option Task
    tasks = put P.tasks slot (Some (task_of a words))

    apart : a ≢ name
    apart same = let both : ◌≡◌ {A = Option Actor} None (Some (spawner began past)) = sym new ∙ ap s.actors same ∙ is in absurd (cc)

    pub gone : then_state.actors a ≡ None
    gone = put_at_other s.actors name (Some (spawner began (own ∷ past))) a apart ∙ new

    seen_delivery : halves (Some delivery) ≡ halves (then_state.actors a)
    seen_delivery = neither_seen (Delivery start (local_args words uid pid)) tt [] Alive ∙ sym (ap halves gone)

    pub seen_borne : view_of borne.actors borne.pipework ≡ afterwards
    seen_borne = view_same then_state.actors borne.actors then_state.pipework borne.pipework
        (put_seen halves then_state.actors a delivery (codes "sender") seen_delivery) (put_seen halves then_state.actors a delivery name seen_delivery)
        (told_output then_state.pipework channel.Local name (slot_by own.due)) (asked_output then_state.pipework channel.Local name (slot_by own.due)) ∙ seen_then

    pub keeps_borne : KeepsDone s.actors borne.actors
    keeps_borne = then_done s.actors then_state.actors borne.actors keeps (new_keeps_done then_state.actors a delivery gone)

    pub homes_borne : KeepsSlots s borne
    homes_borne b y there = put_at_other s.pipework.slots a (Some (record { parent = name; number = slot_by own.due })) b
        (λ same. let both : ◌≡◌ {A = Option Actor} None (Some y) = sym new ∙ ap s.actors (sym same) ∙ there in absurd (cc))

    tasks_are : tasks_by own.due own.came a P.tasks ≡ tasks
    tasks_are = λ i. tasks_by (starts i) (came i) a P.tasks

    done_is : done_by own.due own.came P.tasks P.done ≡ P.done
    done_is = λ i. done_by (starts i) (came i) P.tasks P.done

    pub borne_posted : Posted (post_of afterwards tasks P.last P.done)
    borne_posted =
        subst (λ (done : List Done). Posted (post_of afterwards tasks P.last done)) done_is
        (subst (λ (t : ℕ → Option Task). Posted (post_of afterwards t P.last (done_by own.due own.came P.tasks P.done))) tasks_are
        (worked a (λ e. let both : needs.Start (child.Local slot words uid) ≡ needs.Take port.Input = sym starts ∙ e in absurd (cc))))

    -- who runs in each slot
    abbrev beside : ℕ → Option Tenant
    beside d = programs_after s.pipework.programs name own.due own.came name d

    slot_is : slot_by own.due ≡ slot
    slot_is = ap slot_by starts

    pub runs_by : (d : ℕ) (t : Bool) → (d == slot) ≡ t → borne.pipework.programs name d ≡ (if t then Some (Runs a) else beside d)
    runs_by d t e = ap (λ (n : ℕ). if d == n then Some (Runs a) else beside d) slot_is ∙ ap (λ (u : Bool). if u then Some (Runs a) else beside d) e

    pub beside_is : (d : ℕ) → beside d ≡ s.pipework.programs name d
    beside_is d = λ i. programs_after s.pipework.programs name (starts i) (came i) name d

    started : IsTaskIn borne slot (task_of a words)
    started = record {
      runs = runs_by slot true (eq-eqb slot slot refl);
      is_for = record {
        delivery = delivery;
        is = put_at_same then_state.actors a (Some delivery);
        start = start;
        args = local_args words uid pid;
        program = refl;
        sender = refl;
        recipient = refl;
      };
    }

    pub run_in : (d : ℕ) (k : Task) → tasks d ≡ Some k → IsTaskIn borne d k
    run_in d k h = ⊎_elim
        (λ (c : (d ≡ slot) × (tasks d ≡ Some (task_of a words))).
        let both : ◌≡◌ {A = Option Task} (Some (task_of a words)) (Some k) = sym c.1 ∙ h in
        let same : task_of a words ≡ k = cc in
        subst (λ (t : Task). IsTaskIn borne d t) same (subst (λ (n : ℕ). IsTaskIn borne n (task_of a words)) (sym c.0) started))
        (λ (c : (d ≢ slot) × (tasks d ≡ P.tasks d)).
        task_kept s borne keeps_borne d k (runs_by d false (ne_eqb d slot c.0) ∙ beside_is d) (P.run d k (sym c.1 ∙ h)))
        (put_cases P.tasks slot (Some (task_of a words)) d)

    unfoldable pub spawner_starts : PostsStand borne
    spawner_starts = record {
      tasks = tasks;
      last = P.last;
      done = P.done;
      posted = subst (λ (v : View). Posted (post_of v tasks P.last P.done)) (sym seen_borne) borne_posted;
      first = subst (λ (v : View). IsFirst v.desk.row v.desk) (sym seen_borne) P.first;
      run = run_in;
      was = λ x among. was_kept s borne keeps_borne homes_borne x (P.was x among);
    }

-- By its program

acts_by : (s : State) (I : Inv s) → PostsStand s → (a : List ℕ) (wrote : ℕ) (program : Program) (past : List Own) (life : Life) (own : Own) → IsLocalSpawner program
    → IsNamed a program → life ≡ Alive → s.actors a ≡ Some (record { program = program; past = past; life = life }) → next_of program past own.read own.ready ≡ own.due
    → ComesOf s a own.due own.came wrote → PostsStand (acted s a own wrote (Some (record { program = program; past = past; life = life })))
acts_by s I P a wrote (LocalSpawner began) past Alive own it named alive is due comes =
    subst (λ (b : List ℕ). PostsStand (acted s b own wrote (Some (spawner began past)))) (sym named)
    (spawner_event s I P own wrote began past (subst (λ (b : List ℕ). s.actors b ≡ Some (spawner began past)) named is) due
    (subst (λ (b : List ℕ). ComesOf s b own.due own.came wrote) named comes))
acts_by s I P a wrote (LocalSpawner began) past life own it named alive is due comes = absurd (cc)
acts_by s I P a wrote other past life own it named alive is due comes = absurd it

pub spawner_acts : (s : State) → Inv s → PostsStand s → (a : List ℕ) (own : Own) (wrote : ℕ) (x : Actor) → s.actors a ≡ Some x → x.life ≡ Alive
    → IsLocalSpawner x.program → next_of x.program x.past own.read own.ready ≡ own.due → ComesOf s a own.due own.came wrote → PostsStand (acted s a own wrote (Some x))
spawner_acts s I P a own wrote x is alive it due comes = acts_by s I P a wrote x.program x.past x.life own it (I.crew a x is) alive is due comes

-- what it starts is a delivery
pub local_asked : (asked : ChildData) → IsLocalDue (needs.Start asked) → (slot : ℕ) × (words : DeliveryWordsData) × (uid : ℕ) × (asked ≡ child.Local slot words uid)
local_asked (child.Local slot words uid) it = (slot, words, uid, refl)
local_asked asked it = absurd it

pub delivery_is : (slot : ℕ) (words : DeliveryWordsData) (uid pid : ℕ) (program : Program) → IsProgramOf (child.Local slot words uid) pid program
    → (start : ℕ) × (program ≡ Delivery start (local_args words uid pid))
delivery_is slot words uid pid (Delivery start args) it = (start, ap (Delivery start) it)
delivery_is slot words uid pid program it = absurd it

bears_by : (s : State) (I : Inv s) → PostsStand s → (parent : List ℕ) (program : Program) (past : List Own) (life : Life) (own : Own) → IsLocalSpawner program
    → IsNamed parent program → life ≡ Alive → s.actors parent ≡ Some (record { program = program; past = past; life = life }) → next_of program past own.read own.ready ≡ own.due
    → (asked : ChildData) → own.due ≡ needs.Start asked → (pid : ℕ) → own.came ≡ got.Started pid → (a : List ℕ) → s.actors a ≡ None → (borne : Program) → IsProgramOf asked pid borne
    → PostsStand (bears (acted s parent own 0 (Some (record { program = program; past = past; life = life }))) parent own a borne)
bears_by s I P parent (LocalSpawner began) past Alive own it named alive is due asked starts pid came a new borne runs =
    let due_is : IsLocalDue (needs.Start asked) = subst IsLocalDue (due ∙ starts) (local_due (place_after past).row own.ready (place_after past)) in
    let w = local_asked asked due_is in
    let d = delivery_is w.0 w.1 w.2 pid borne (subst (λ (c : ChildData). IsProgramOf c pid borne) w.3 runs) in
    subst (λ (b : List ℕ). PostsStand (bears (acted s b own 0 (Some (spawner began past))) b own a borne)) (sym named)
    (subst (λ (z : Program). PostsStand (bears (acted s (codes "lspawn") own 0 (Some (spawner began past))) (codes "lspawn") own a z)) (sym d.1)
    (spawner_starts s I P own 0 began past (subst (λ (b : List ℕ). s.actors b ≡ Some (spawner began past)) named is) due
    w.0 w.1 w.2 pid (starts ∙ ap needs.Start w.3) came a new d.0))
bears_by s I P parent (LocalSpawner began) past life own it named alive is due asked starts pid came a new borne runs = absurd (cc)
bears_by s I P parent other past life own it named alive is due asked starts pid came a new borne runs = absurd it

pub spawner_bears : (s : State) → Inv s → PostsStand s → (parent : List ℕ) (own : Own) (x : Actor) → s.actors parent ≡ Some x → x.life ≡ Alive → IsLocalSpawner x.program
    → next_of x.program x.past own.read own.ready ≡ own.due → (asked : ChildData) → own.due ≡ needs.Start asked → (pid : ℕ) → own.came ≡ got.Started pid
    → (a : List ℕ) → s.actors a ≡ None → (borne : Program) → IsProgramOf asked pid borne → PostsStand (bears (acted s parent own 0 (Some x)) parent own a borne)
spawner_bears s I P parent own x is alive it due asked starts pid came a new borne runs =
    bears_by s I P parent x.program x.past x.life own it (I.crew parent x is) alive is due asked starts pid came a new borne runs

-- The start of a child: the sender starts the injector of a bounce, the local spawner a delivery, and that the injector of its forwards; no
-- other program starts an actor.
use Rattle.std.specs.Prelude.{Contains}
use Rattle.std.proofs.Common.{◌≡◌, ◌≢◌, inl, ℕ, ◌≤◌, ◌==◌, List, [], ◌∷◌, Bool, true, false, ◌&&◌, Option, Some, None, refl, sym, ap, ◌∙◌, subst, ⊎_elim, bytes_eq, codes, if◌then◌else◌}
use Rattle.call_fs.proofs.Maps.{put_at_other, put_at_same}
use Rattle.call_fs.specs.Maps.{put_at}
use Rattle.call_fs.specs.declared.calls.CallData.{CallData}
use Rattle.call_fs.specs.declared.calls.CallData.TheVariants as call
use Rattle.call_fs.specs.declared.past.ChildData.{ChildData}
use Rattle.call_fs.specs.declared.past.ChildData.TheVariants as child
use Rattle.call_fs.specs.declared.past.DeliveryWordsData.{DeliveryWordsData}
use Rattle.call_fs.specs.declared.past.GotData.{GotData}
use Rattle.call_fs.specs.declared.past.GotData.TheVariants as got
use Rattle.call_fs.specs.declared.past.NeedData.{NeedData}
use Rattle.call_fs.specs.declared.past.NeedData.TheVariants as needs
use Rattle.call_fs.specs.declared.past.Own.{Own}
use Rattle.call_fs.specs.declared.program.Port.TheVariants as port
use Rattle.program_law.proofs.Delivery.Events.{deliveries_keep}
use Rattle.local_spawn.specs.declared.place.Place.{Place as LocalPlace}
use Rattle.local_spawn.specs.Table.{place_after as local_after, program_of as local_asks}
use Rattle.local_parts.specs.declared.arguments.LocalArgs.{LocalArgs}
use Rattle.queue_clean.specs.declared.row.Row.{Row as CleanRow}
use Rattle.queue_clean.specs.declared.row.Row.TheVariants as clean
use Rattle.queue_clean.specs.Table.{due_at as clean_due, is_old, pid_path, place_after as clean_after, search_after}
use Rattle.queue_inject.specs.Table.{Next}
use Rattle.queue_inject.proofs.Acts.{IsAlone, next_alone}
use Rattle.queue_law.specs.Numbers.{Queue}
use Rattle.queue_law.proofs.Injectors.{injector_start}
use Rattle.queue_law.proofs.Tests.{text_cases}
use Rattle.remote_spawn.specs.Table.{due_from, place_after as remote_after}
use Rattle.send_core.specs.declared.desk.Desk.{Desk}
use Rattle.send_core.specs.Table.{place_after as sender_after, row_now}
use Rattle.program_law.proofs.Sender.Programs.{starts_of}
use Rattle.spawner_parts.specs.declared.place.Place.{Place as SpawnPlace}
use Rattle.spawner_parts.specs.declared.row.Row.{Row as SpawnRow}
use Rattle.spawner_parts.specs.declared.row.Row.TheVariants as spawn
use Rattle.spawner_parts.specs.Table.{row_now as spawn_now}
use Rattle.actor_names.specs.MailNames.{members}
use Rattle.world_events.specs.declared.event.Program.{Program}
use Rattle.world_events.specs.declared.event.Program.TheVariants.{Injector, Cleaner, Sender, LocalSpawner, RemoteSpawner, Delivery}
use Rattle.world_pipes.specs.Pipework.{Pipe, Pipework, Tenant, fresh, mouth, with_child}
use Rattle.world_pipes.specs.Pipework.Tenant.{Runs}
use Rattle.mail_world.specs.History.{Actor, IsProgramOf, Life, MayRun, State, acted, bears, newborn, next_of}
use Rattle.mail_world.specs.History.Life.{Alive}
use Rattle.mail_world.specs.Untouched.{queue}
use Rattle.world_law.specs.Crew.{IsNamed}
use Rattle.world_law.specs.Fares.{FaresBy}
use Rattle.world_law.specs.Inv.{Bears, ChildBy, FedBy, HasSlot, Inv, IsTenantOf}
use Rattle.world_law.specs.Laws.{ChildrenKeep}
use Rattle.world_law.proofs.Deliveries.{started, starts_on}
use Rattle.world_law.proofs.Locals.{local_starts}
use Rattle.world_law.proofs.Moved.{IsSameLink, IsSeenAs, each_put, put_errands, put_one, with_one}
use Rattle.world_law.proofs.Pipes.{away_same}
use Rattle.world_law.proofs.SendersEvents.{starting}
use Rattle.world_law.proofs.SendersPut.{sender}
use Rattle.world_law.proofs.Tenants.{IsCrewed, KeepsPrograms, KeepsSlots, RunsNoMoreOf, child_kept_of, new_child, new_keeps, put_none, slot_named, slot_numbered, some_actor, tenant_kept}

-- what is due starts no actor
abbrev BearsNone : NeedData → Type 0
BearsNone (needs.Start asked) = (pid : ℕ) (program : Program) → IsProgramOf asked pid program → ⊥
BearsNone due = Unit {0}

alone_bears : (due : NeedData) → IsAlone due → BearsNone due
alone_bears (needs.Start asked) alone = absurd alone
alone_bears due alone = tt

judged_bears : (old : Bool) (unlink : CallData) (name : List ℕ) → BearsNone (if old then needs.File unlink else search_after name)
judged_bears true unlink name = tt
judged_bears false unlink name = tt

clean_bears : (row : CleanRow) (name : List ℕ) (now : ℕ) → BearsNone (clean_due row name now)
clean_bears (clean.JudgePid moment) name now = judged_bears (is_old moment now) (call.Unlink (pid_path name)) name
clean_bears row name now = tt

-- a remote program is no actor
remote_bears : (row : SpawnRow) (p : SpawnPlace) → BearsNone (due_from row p)
remote_bears spawn.Start p = λ pid program is. is
remote_bears row p = tt

-- what is started was given nothing yet
fed_none : (t : State) (a : List ℕ) (due : NeedData) (asked : ChildData) (came : GotData) → due ≡ needs.Start asked → FedBy t a due came
fed_none t a due asked came is = subst (λ (z : NeedData). FedBy t a z came) (sym is) tt

-- Who starts an actor doesn't start alone; and the new one is nothing to the sender and its cleaner.

bears_older : (runs program : Program) → Bears runs program → MayRun runs → ⊥
bears_older (Injector args) program bears = absurd bears
bears_older runs program bears = λ it. it

born_seen : (runs program : Program) → Bears runs program → IsSeenAs None (newborn program)
born_seen (Sender since) (Injector args) bears = record { awaits = refl; place = refl; lives = λ h. absurd (cc) }
born_seen (LocalSpawner since) (Delivery start args) bears = record { awaits = refl; place = refl; lives = λ h. absurd (cc) }
born_seen (Delivery start words) (Injector args) bears = record { awaits = refl; place = refl; lives = λ h. absurd (cc) }
born_seen runs program bears = absurd bears

born_named : (a : List ℕ) → (Contains members a → ⊥) → (runs program : Program) → Bears runs program → IsNamed a program
born_named a apart (Sender since) (Injector args) bears = tt
born_named a apart (LocalSpawner since) (Delivery start args) bears = apart
born_named a apart (Delivery start words) (Injector args) bears = tt
born_named a apart runs program bears = absurd bears

born_fares : (now : ℕ) (q : Queue) (a : List ℕ) (runs program : Program) → Bears runs program → FaresBy now q a program [] Alive
born_fares now q a (Sender since) (Injector args) bears = injector_start now q a args
born_fares now q a (LocalSpawner since) (Delivery start args) bears = record { rests = deliveries_keep.begins q a args; forwards = tt; well = λ h. absurd (cc) }
born_fares now q a (Delivery start words) (Injector args) bears = injector_start now q a args
born_fares now q a runs program bears = absurd bears

-- An actor is started in a slot of another one.

module _ (t : State) (J : Inv t) (parent : List ℕ) (x : Actor) (bearer_is : t.actors parent ≡ Some x) (slot : ℕ) (a : List ℕ) (new : t.actors a ≡ None)
    (program : Program) (may : Bears x.program program) (has : HasSlot x.program slot) where
  abbrev pipes_then : Pipework
  pipes_then = with_child t.pipework parent slot a

  abbrev born_state : State
  born_state = with_one t a (newborn program) pipes_then

  older : MayRun x.program → ⊥
  older = bears_older x.program program may

  -- who is new is no member, since each of them is there
  apart : Contains members a → ⊥
  apart member = J.crewed parent x bearer_is older a member new

  not_parent : parent ≢ a
  not_parent same = let v : ◌≡◌ {A = Option Actor} None (Some x) = sym new ∙ ap t.actors (sym same) ∙ bearer_is in absurd (cc)

  parent_is : born_state.actors parent ≡ Some x
  parent_is = put_at_other t.actors a (Some (newborn program)) parent not_parent ∙ bearer_is

  still : KeepsPrograms t.actors born_state.actors
  still = new_keeps t.actors a (newborn program) new

  crewed_then : IsCrewed (put_at t.actors a (Some (newborn program)))
  crewed_then o z there it m member gone = J.crewed parent x bearer_is older m member (put_none t.actors a (newborn program) m gone)

  -- it has a slot of its own
  slots_then : KeepsSlots t born_state
  slots_then c z there = put_at_other t.pipework.slots a (Some (record { parent = parent; number = slot })) c
      (λ same. let none : ◌≡◌ {A = Option Actor} (Some z) None = sym there ∙ ap t.actors same ∙ new in absurd (cc))

  in_slot : (here : Bool) (b : List ℕ) (e : ℕ) (u : Tenant) → (here ≡ true → (b ≡ parent) × (e ≡ slot)) → (if here then Some (Runs a) else t.pipework.programs b e) ≡ Some u → IsTenantOf born_state b e u
  in_slot true b e u where_is told =
      let one : Runs a ≡ u = cc in
      subst (λ (z : Tenant). IsTenantOf born_state b e z) one
      (record {
        bearer = x;
        bearer_is = ap born_state.actors (where_is refl).0 ∙ parent_is;
        actor = newborn program;
        is = put_at_same t.actors a (Some (newborn program));
        bears = may;
        has = subst (λ (d : ℕ). HasSlot x.program d) (sym (where_is refl).1) has;
        back = subst (λ (p : List ℕ). born_state.pipework.slots a ≡ Some (record { parent = p; number = e })) (sym (where_is refl).0)
            (subst (λ (d : ℕ). born_state.pipework.slots a ≡ Some (record { parent = parent; number = d })) (sym (where_is refl).1)
            (put_at_same t.pipework.slots a (Some (record { parent = parent; number = slot }))));
        apart = apart;
      })
  in_slot false b e u where_is told = tenant_kept t born_state still slots_then b e u (J.tenants b e u told)

  -- in the slots of others runs who ran there, with the input that he had

  else_runs : (here : Bool) (o : Option Tenant) (u : Tenant) → here ≡ false → (if here then Some (Runs a) else o) ≡ Some u → o ≡ Some u
  else_runs true o u off is = absurd (cc)
  else_runs false o u off is = is

  others_run : (o : List ℕ) → bytes_eq o parent ≡ false → RunsNoMoreOf t.pipework pipes_then o
  others_run o off d u is = inl (else_runs (bytes_eq o parent && (d == slot)) (t.pipework.programs o d) u (ap (λ (b : Bool). b && (d == slot)) off) is)

  child_then : ChildBy born_state parent x.program x.past x.life → (o : List ℕ) (z : Actor) → t.actors o ≡ Some z → ChildBy born_state o z.program z.past z.life
  child_then fed o z there = ⊎_elim
      (λ (c : (o ≡ parent) × (bytes_eq o parent ≡ true)).
      let same : x ≡ z = some_actor x z (sym bearer_is ∙ ap t.actors (sym c.0) ∙ there) in
      subst (λ (b : List ℕ). ChildBy born_state b z.program z.past z.life) (sym c.0) (subst (λ (y : Actor). ChildBy born_state parent y.program y.past y.life) same fed))
      (λ (c : (o ≢ parent) × (bytes_eq o parent ≡ false)).
      child_kept_of t born_state (λ b y far. still b y) J.tenants o (others_run o c.1) z.program z.past z.life (J.child o z there))
      (text_cases o parent)

  same_link : IsSameLink t.pipework pipes_then
  same_link = record {
    given = ap (λ (p : Pipe). p.bytes) (away_same t.pipework.pipes (Some (mouth parent (port.Program slot))) (λ p. fresh) (codes "clean") port.Input refl);
    answers = ap (λ (p : Pipe). p.bytes) (away_same t.pipework.pipes (Some (mouth parent (port.Program slot))) (λ p. fresh) (codes "sender") port.Clean refl);
  }

  seen : IsSeenAs (t.actors a) (newborn program)
  seen = subst (λ (o : Option Actor). IsSeenAs o (newborn program)) (sym new) (born_seen x.program program may)

  -- Its parent has given it nothing yet.
  born : ChildBy born_state parent x.program x.past x.life → Inv born_state
  born fed = put_one t J a (newborn program) pipes_then (born_named a apart x.program program may) (born_fares t.now (queue t J.role) a x.program program may) crewed_then
      (λ b e u told. in_slot (bytes_eq b parent && (e == slot)) b e u (λ both. (slot_named b parent (e == slot) both, slot_numbered b parent e slot both)) told)
      (each_put t.actors a (newborn program) (λ o z. ChildBy born_state o z.program z.past z.life) (new_child born_state a program) (λ o z other there. child_then fed o z there))
      (put_errands t.now (queue t J.role) t.actors a (newborn program) t.pipework pipes_then seen same_link J.errands)

-- By who starts it

module _ (s : State) (I : Inv s) (parent : List ℕ) (own : Own) (a : List ℕ) (new : s.actors a ≡ None) (pid : ℕ) where
  abbrev event : NeedData → Own
  event due = record { read = own.read; ready = own.ready; due = due; came = got.Started pid }

  abbrev went : Program → List Own → NeedData → Actor
  went runs past due = record { program = runs; past = event due ∷ past; life = Alive }

  abbrev asking : Program → List Own → NeedData → State
  asking runs past due = acted s parent (event due) 0 (Some (record { program = runs; past = past; life = Alive }))

  abbrev Born : Program → List Own → NeedData → Program → Type 0
  Born runs past due program = Inv (bears (asking runs past due) parent (event due) a program)

  module _ (runs : Program) (past : List Own) (is : s.actors parent ≡ Some (record { program = runs; past = past; life = Alive })) where
    far : a ≢ parent
    far same = let v : ◌≡◌ {A = Option Actor} None (Some (record { program = runs; past = past; life = Alive })) = sym new ∙ ap s.actors same ∙ is in absurd (cc)

    still_new : (due : NeedData) → put_at s.actors parent (Some (went runs past due)) a ≡ None
    still_new due = put_at_other s.actors parent (Some (went runs past due)) a far ∙ new

    parent_went : (due : NeedData) → put_at s.actors parent (Some (went runs past due)) parent ≡ Some (went runs past due)
    parent_went due = put_at_same s.actors parent (Some (went runs past due))

  -- a sender
  bounce_born : (began : ℕ) (past : List Own) (room : ℕ) (program : Program) → s.actors parent ≡ Some (record { program = Sender began; past = past; life = Alive })
      → next_of (Sender began) past own.read own.ready ≡ needs.Start (child.Bounce room) → Inv (asking (Sender began) past (needs.Start (child.Bounce room)))
      → IsProgramOf (child.Bounce room) pid program → Born (Sender began) past (needs.Start (child.Bounce room)) program
  bounce_born began past room (Injector args) is next went_on it =
      let due : NeedData = needs.Start (child.Bounce room) in
      let then_state : State = asking (Sender began) past due in
      born then_state went_on parent (went (Sender began) past due) (parent_went (Sender began) past is due) 0 a (still_new (Sender began) past is due) (Injector args) it.0 refl
      (fed_none (with_one then_state a (newborn (Injector args)) (with_child then_state.pipework parent 0 a)) parent (next_of (Sender began) past own.read own.ready) (child.Bounce room) (got.Started pid) next)
  bounce_born began past room other is next went_on it = absurd it

  -- the local spawner
  delivery_born : (began : ℕ) (past : List Own) (slot : ℕ) (words : DeliveryWordsData) (uid : ℕ) (program : Program) → s.actors parent ≡ Some (record { program = LocalSpawner began; past = past; life = Alive })
      → Inv (asking (LocalSpawner began) past (needs.Start (child.Local slot words uid))) → IsProgramOf (child.Local slot words uid) pid program
      → Born (LocalSpawner began) past (needs.Start (child.Local slot words uid)) program
  delivery_born began past slot words uid (Delivery start args) is went_on it =
      let due : NeedData = needs.Start (child.Local slot words uid) in
      born (asking (LocalSpawner began) past due) went_on parent (went (LocalSpawner began) past due) (parent_went (LocalSpawner began) past is due) slot a
      (still_new (LocalSpawner began) past is due) (Delivery start args) tt tt tt
  delivery_born began past slot words uid other is went_on it = absurd it

  -- a delivery
  forward_born : (start : ℕ) (args : LocalArgs) (past : List Own) (room : ℕ) (program : Program) → s.actors parent ≡ Some (record { program = Delivery start args; past = past; life = Alive })
      → next_of (Delivery start args) past own.read own.ready ≡ needs.Start (child.Forward args.uid room)
      → Inv (asking (Delivery start args) past (needs.Start (child.Forward args.uid room))) → IsProgramOf (child.Forward args.uid room) pid program
      → Born (Delivery start args) past (needs.Start (child.Forward args.uid room)) program
  forward_born start args past room (Injector words) is next went_on it =
      let due : NeedData = needs.Start (child.Forward args.uid room) in
      let then_state : State = asking (Delivery start args) past due in
      born then_state went_on parent (went (Delivery start args) past due) (parent_went (Delivery start args) past is due) 0 a (still_new (Delivery start args) past is due) (Injector words)
      it.0 refl
      (fed_none (with_one then_state a (newborn (Injector words)) (with_child then_state.pipework parent 0 a)) parent (next_of (Delivery start args) past own.read own.ready)
      (child.Forward args.uid room) (got.Started pid) next)
  forward_born start args past room other is next went_on it = absurd it

-- No other program starts an actor.

module _ (s : State) (I : Inv s) (parent : List ℕ) (own : Own) (a : List ℕ) (new : s.actors a ≡ None) (asked : ChildData) (pid : ℕ) (program : Program)
    (starts : own.due ≡ needs.Start asked) (came : own.came ≡ got.Started pid) (it : IsProgramOf asked pid program) (soon : own.read ≤ s.now) where
  abbrev Then : Program → List Own → Life → Type 0
  Then runs past life = Inv (bears (acted s parent own 0 (Some (record { program = runs; past = past; life = life }))) parent own a program)

  none_born : (runs : Program) (past : List Own) (life : Life) (due : NeedData) → BearsNone due → due ≡ own.due → Then runs past life
  none_born runs past life due none is = absurd (subst BearsNone (is ∙ starts) none pid program it)

  abbrev this : NeedData → GotData → Own
  this due g = record { read = own.read; ready = own.ready; due = due; came = g }

  abbrev AsDue : Program → List Own → NeedData → GotData → Type 0
  AsDue runs past due g = Inv (bears (acted s parent (this due g) 0 (Some (record { program = runs; past = past; life = Alive }))) parent (this due g) a program)

  -- as its parent's event has it
  as_asked : (runs : Program) (past : List Own) (other : ChildData) → other ≡ asked → (IsProgramOf other pid program → Born s I parent own a new pid runs past (needs.Start other) program)
      → Then runs past Alive
  as_asked runs past other same go =
      let born_so : Born s I parent own a new pid runs past (needs.Start asked) program =
      subst (λ (z : ChildData). IsProgramOf z pid program → Born s I parent own a new pid runs past (needs.Start z) program) same go it in
      subst (λ (z : NeedData). AsDue runs past z own.came) (sym starts) (subst (λ (g : GotData). AsDue runs past (needs.Start asked) g) (sym came) born_so)

  sender_bears : (began : ℕ) (past : List Own) → parent ≡ codes "sender" → s.actors parent ≡ Some (record { program = Sender began; past = past; life = Alive })
      → next_of (Sender began) past own.read own.ready ≡ own.due → Then (Sender began) past Alive
  sender_bears began past named is due =
      let d : Desk = sender_after None past in
      let next : next_of (Sender began) past own.read own.ready ≡ needs.Start asked = due ∙ starts in
      let w = starts_of d (row_now d own.read own.ready) asked next in
      let room : ℕ = d.bounce.room in
      as_asked (Sender began) past (child.Bounce room) (sym w.asked_is)
      (λ program_is. bounce_born s I parent own a new pid began past room program is (next ∙ ap needs.Start w.asked_is)
      (subst (λ (b : List ℕ). Inv (acted s b (event s I parent own a new pid (needs.Start (child.Bounce room))) 0 (Some (sender began past)))) (sym named)
      (starting s I 0 began past own (subst (λ (b : List ℕ). s.actors b ≡ Some (sender began past)) named is) soon (child.Bounce room) (got.Started pid) (next ∙ ap needs.Start w.asked_is)
      (λ b e t there. there) (record { given = refl; answers = refl })))
      program_is)

  local_bears : (began : ℕ) (past : List Own) → parent ≡ codes "lspawn" → s.actors parent ≡ Some (record { program = LocalSpawner began; past = past; life = Alive })
      → next_of (LocalSpawner began) past own.read own.ready ≡ own.due → Then (LocalSpawner began) past Alive
  local_bears began past named is due =
      let p : LocalPlace = local_after past in
      let w = local_starts s I 0 began past own (subst (λ (b : List ℕ). s.actors b ≡ Some (record { program = LocalSpawner began; past = past; life = Alive })) named is) asked (got.Started pid) (due ∙ starts) in
      as_asked (LocalSpawner began) past (local_asks p) w.0
      (delivery_born s I parent own a new pid began past p.work.request.slot p.delivery.words p.delivery.uid program is
      (subst (λ (b : List ℕ). Inv (acted s b (event s I parent own a new pid (needs.Start (local_asks p))) 0 (Some (record { program = LocalSpawner began; past = past; life = Alive }))))
      (sym named) w.1))

  delivery_bears : (start : ℕ) (args : LocalArgs) (past : List Own) → s.actors parent ≡ Some (record { program = Delivery start args; past = past; life = Alive })
      → next_of (Delivery start args) past own.read own.ready ≡ own.due → Then (Delivery start args) past Alive
  delivery_bears start args past is due =
      let next : next_of (Delivery start args) past own.read own.ready ≡ needs.Start asked = due ∙ starts in
      let w = starts_on s parent 0 start args past own I is asked next in
      let room : ℕ = w.0 in
      let forward : next_of (Delivery start args) past own.read own.ready ≡ needs.Start (child.Forward args.uid room) = next ∙ ap needs.Start w.1 in
      as_asked (Delivery start args) past (child.Forward args.uid room) (sym w.1)
      (λ program_is. forward_born s I parent own a new pid start args past room program is forward
      (started s parent 0 start args past own I is (child.Forward args.uid room) (got.Started pid) forward tt) program_is)

  by_program : (runs : Program) (past : List Own) (life : Life) → IsNamed parent runs → life ≡ Alive → s.actors parent ≡ Some (record { program = runs; past = past; life = life })
      → next_of runs past own.read own.ready ≡ own.due → Then runs past life
  by_program (Injector args) past life named alive is due =
      none_born (Injector args) past life (Next args past own.read own.ready) (alone_bears (Next args past own.read own.ready) (next_alone args past own.read own.ready)) due
  by_program (Cleaner began) past life named alive is due =
      let p = clean_after past in none_born (Cleaner began) past life (clean_due p.row p.name own.read) (clean_bears p.row p.name own.read) due
  by_program (Sender began) past Alive named alive is due = sender_bears began past named is due
  by_program (Sender began) past life named alive is due = absurd (cc)
  by_program (LocalSpawner began) past Alive named alive is due = local_bears began past named is due
  by_program (LocalSpawner began) past life named alive is due = absurd (cc)
  by_program (RemoteSpawner began) past life named alive is due =
      let p = remote_after past in
      none_born (RemoteSpawner began) past life (due_from (spawn_now p own.ready) p) (remote_bears (spawn_now p own.ready) p) due
  by_program (Delivery start args) past Alive named alive is due = delivery_bears start args past is due
  by_program (Delivery start args) past life named alive is due = absurd (cc)

pub children_keep : ChildrenKeep
children_keep parent own a program s I may =
    let x = may.actor in
    subst (λ (o : Option Actor). Inv (bears (acted s parent own 0 o) parent own a program)) (sym may.reads.is)
    (by_program s I parent own a may.new may.asked may.pid program may.starts may.came may.is may.reads.no_later
    x.program x.past x.life (I.crew parent x may.reads.is) may.reads.alive may.reads.is may.due)

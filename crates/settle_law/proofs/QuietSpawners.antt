-- If nobody but the sender has anything to do, no program of a living spawner runs: each has ended, and the spawner would take what it printed.
use Rattle.std.proofs.Common.{◌≡◌, ◌≢◌, ◌⊎◌, ⊎_elim, ◌==◌, inl, inr, ℕ, suc, ◌+◌, ◌<◌, List, [], ◌∷◌, get_or, length, Bool, true, false, not, ◌&&◌, ◌||◌, if◌then◌else◌, Option, Some, None, refl, sym, ap, ◌∙◌, subst, arith, codes}
use Rattle.std.specs.List.{list_any, position, range_with_len}
use Rattle.std.specs.Prelude.{Contains, is_some, nat_lt}
use Rattle.std.proofs.lemmas.Bool.{and_parts, cases_lt, false≢true, le-ltb}
use Rattle.std.proofs.lemmas.List.{get_or_past}
use Rattle.std.proofs.lemmas.List.Folds.{list_any_at}
use Rattle.std.proofs.lemmas.List.FromFn.{get_or-range_with_len, length-range_with_len}
use Rattle.std.proofs.lemmas.List.Quantifiers.{position-Some}
use Rattle.actor_names.specs.MailNames.{members}
use Rattle.call_fs.specs.Disk.{Disk}
use Rattle.call_fs.specs.Past.{IsRunBy}
use Rattle.call_fs.specs.declared.calls.CallData.{CallData}
use Rattle.call_fs.specs.declared.past.ChildData.{ChildData}
use Rattle.call_fs.specs.declared.past.NeedData.TheVariants as needs
use Rattle.call_fs.specs.declared.past.Own.{Own}
use Rattle.call_fs.specs.declared.program.Port.TheVariants as port
use Rattle.call_fs.specs.declared.program.Ready.{Ready}
use Rattle.call_fs.specs.declared.program.TheConstants.{INPUT_READY}
use Rattle.local_deliver.specs.declared.row.Row.{Row as DeliveryRow}
use Rattle.local_deliver.specs.declared.row.Row.TheVariants as delivers
use Rattle.local_deliver.specs.Drops.{Drop}
use Rattle.local_deliver.specs.declared.place.Place.{Place as DeliveryPlace}
use Rattle.local_deliver.specs.Table.{Next as DeliversNext, due_at as delivery_due_at, due_by_drop, place_after as delivery_after}
use Rattle.local_deliver.proofs.Dropped.{AtRow}
use Rattle.maildir_drop.specs.Table.{due_at as drop_due_at}
use Rattle.local_parts.specs.declared.arguments.LocalArgs.{LocalArgs}
use Rattle.local_spawn.specs.declared.row.Row.{Row as LocalRow}
use Rattle.local_spawn.specs.declared.row.Row.TheVariants as local_at
use Rattle.local_spawn.specs.Table.{due_at as local_due, place_after as local_after, program_of as local_program}
use Rattle.maildir_drop.specs.declared.row.Row.{Row as DropRow}
use Rattle.maildir_drop.specs.declared.row.Row.TheVariants as drop
use Rattle.queue_inject.specs.declared.injection.Arguments.{Arguments}
use Rattle.queue_inject.specs.declared.row.Row.{Row as InjectRow}
use Rattle.queue_inject.specs.declared.row.Row.TheVariants as inject
use Rattle.queue_inject.specs.Table.{call_at, has_input, in_time, is_late, next_piece, place_after as inject_after, work_of}
use Rattle.remote_spawn.specs.Table.{place_after as remote_after, program_of as remote_program}
use Rattle.send_core.proofs.Lists.{none_passes}
use Rattle.send_known.specs.declared.channel.Channel.{Channel}
use Rattle.send_known.specs.declared.channel.Channel.TheVariants.{Local, Remote}
use Rattle.spawn_protocol.specs.declared.request.Request.{Request}
use Rattle.spawner_parts.specs.declared.place.Place.{Place}
use Rattle.spawner_parts.specs.declared.row.Row.{Row}
use Rattle.spawner_parts.specs.declared.row.Row.TheVariants as at
use Rattle.spawner_parts.specs.Asked.{runs_in}
use Rattle.spawner_parts.specs.Causes.{programs}
use Rattle.spawner_parts.specs.Known.{At, Kept, Tells}
use Rattle.spawner_parts.specs.Table.{any_runs, arrive, due_at, is_asked, is_open, none_runs, resting, turning}
use Rattle.world_pipes.specs.Pipework.{Pipe, Slot, Tenant, is_ready}
use Rattle.world_pipes.specs.Pipework.Tenant.{Remote as Far, Runs}
use Rattle.world_events.specs.declared.event.Program.{Program}
use Rattle.world_events.specs.declared.event.Program.TheVariants.{Injector, Sender, LocalSpawner, RemoteSpawner, Delivery}
use Rattle.mail_world.specs.Generations.{CanNot, is_unreported, lives_in}
use Rattle.mail_world.specs.History.{Actor, Event, IsSender, Life, State, after, next_of}
use Rattle.mail_world.specs.History.Life.{Alive, Over, Stopped}
use Rattle.mail_world.specs.Readiness.{found_at, found_by, has_ended, input_alone, input_or_child, is_awaiting, is_gone, is_over, lies_ready, lowest_ended}
use Rattle.mail_world.proofs.Members.{member_contained}
use Rattle.world_law.specs.Crew.{IsNamed, is_alive}
use Rattle.world_law.specs.Inv.{Bears, HasSlot, Inv, IsTenantOf}
use Rattle.world_law.specs.Spawned.{IsSpawner, spawner_name, stands_after}
use Rattle.world_law.proofs.Histories.{always}
use Rattle.world_law.proofs.PostPipes.{not_spawner}
use Rattle.world_law.proofs.Ran.{have_run}
use Rattle.world_law.proofs.Tenants.{some_actor}
use Rattle.scenario.proofs.Carried.{lives_actor}
use Rattle.settle_law.specs.inside.Free.{OthersEnd, OthersRunNone}
use Rattle.settle_law.specs.Promised.{OthersWait}
use Rattle.settle_law.proofs.Searchers.{is_no_sender, searches_not}
use Rattle.settle_law.specs.Well.{GoesWell}
use Rattle.settle_law.proofs.Dropping.{HasDrop, drops_always}
use Rattle.settle_law.proofs.PipeEvents.{spawned_run, spawner_apart}
use Rattle.settle_law.proofs.SlotTies.{Ties, ties_always}
use Rattle.settle_law.proofs.Spawns.{next_on, tells_on}
use Rattle.settle_law.proofs.Tended.{FeedsNow, HasChild, Tended, and_true, tended_always}

-- Searches

-- what passes below 256 is found, or another one before it
record Found (test : ℕ → Bool) : Type 0 where
  slot : ℕ
  is : position test (range_with_len 0 256) ≡ Some slot
  passes : test slot ≡ true

range_at : (k : ℕ) → k < 256 → get_or (range_with_len 0 256) k 0 ≡ k
range_at k low = let same : 0 + k ≡ k = omega arith in get_or-range_with_len 0 256 k 0 low ∙ same

passes_at : (test : ℕ → Bool) (k : ℕ) → k < 256 → test k ≡ true → list_any test (range_with_len 0 256) ≡ true
passes_at test k low is =
    list_any_at test (range_with_len 0 256) k 0 (subst (λ (n : ℕ). k < n) (sym (length-range_with_len 0 256)) low) (ap test (range_at k low) ∙ is)

found_by_test : (test : ℕ → Bool) (k : ℕ) → k < 256 → test k ≡ true → Found test
found_by_test test k low is = by (position test (range_with_len 0 256)) refl
  where
    by : (o : Option ℕ) → position test (range_with_len 0 256) ≡ o → Found test
    by None none = absurd (none_passes test (range_with_len 0 256) none (passes_at test k low is))
    by (Some j) some =
        let f = position-Some test (range_with_len 0 256) j 0 some in
        let small : j < 256 = subst (λ (n : ℕ). j < n) (length-range_with_len 0 256) f.0 in
        record { slot = j; is = some; passes = sym (ap test (range_at j small)) ∙ f.1 }

-- Pipes

or_true : (b t : Bool) → t ≡ true → (b || t) ≡ true
or_true true t e = refl
or_true false t e = e

pub ready_shut : (pipe : Pipe) → pipe.shut ≡ true → is_ready pipe ≡ true
ready_shut pipe shut = or_true (not (length pipe.bytes == 0)) pipe.shut shut

-- An injector that has its input does something

module _ (s : State) (a : List ℕ) where
  calls_on : (late : Bool) (c : CallData) → CanNot s a (in_time true late (needs.File c)) → ⊥
  calls_on true c can = can
  calls_on false c can = can

  row_acts : (late : Bool) (pid start : ℕ) (piece : List ℕ) (row : InjectRow) → CanNot s a (in_time true late (call_at pid start piece row)) → ⊥
  row_acts late pid start piece (inject.Create seq) can = calls_on late _ can
  row_acts late pid start piece (inject.LinkMess seq n fd) can = calls_on late _ can
  row_acts late pid start piece (inject.UnlinkPid seq n fd) can = calls_on late _ can
  row_acts late pid start piece (inject.AppendMess n fd done) can = calls_on late _ can
  row_acts late pid start piece (inject.SyncMess n fd) can = calls_on late _ can
  row_acts late pid start piece (inject.CreateIntd n) can = calls_on late _ can
  row_acts late pid start piece (inject.AppendTodo n fd done) can = calls_on late _ can
  row_acts late pid start piece (inject.SyncTodo n fd) can = calls_on late _ can
  row_acts late pid start piece (inject.LinkTodo n) can = calls_on late _ can
  row_acts late pid start piece (inject.CleanIntd n status) can = calls_on late _ can
  row_acts late pid start piece (inject.CleanMess n status) can = calls_on late _ can
  row_acts late pid start piece inject.Queued can = can
  row_acts late pid start piece (inject.Failed status) can = can

  pub injector_acts : (args : Arguments) (past : List Own) (now : ℕ) (ready : Ready) → has_input ready ≡ true → CanNot s a (next_of (Injector args) past now ready) → ⊥
  injector_acts args past now ready has can =
      let row = inject_after args past in
      let work = work_of args in
      row_acts (is_late args now) work.pid work.start (next_piece work row) row
      (subst (λ (b : Bool). CanNot s a (in_time b (is_late args now) (call_at work.pid work.start (next_piece work row) row))) has can)

-- its input is found, if the pipe is shut
pub input_found : (s : State) (a : List ℕ) (args : Arguments) → (s.pipework.pipes a port.Input).shut ≡ true → has_input (found_by s a (Injector args)) ≡ true
input_found s a args shut =
    let none : is_awaiting s a ≡ false = ap (λ (b : Bool). is_some (s.pipework.slots a) && not b) (ready_shut (s.pipework.pipes a port.Input) shut) ∙ off (is_some (s.pipework.slots a)) in
    ap (λ (b : Bool). has_input (if b then input_alone false else INPUT_READY)) none
  where
    off : (b : Bool) → (b && false) ≡ false
    off true = refl
    off false = refl

alive_or : (life : Life) → (life ≡ Alive) ⊎ ((is_over life ≡ true) × (is_alive life ≡ false))
alive_or Alive = inl refl
alive_or (Over status) = inr (refl, refl)
alive_or Stopped = inr (refl, refl)

no_less : (k : ℕ) → not (nat_lt k 0) ≡ true
no_less k = ap (λ (b : Bool). not b) (le-ltb k 0 (omega arith))

-- a list of which nothing runs
runs_none : (running : List Bool) → ((k : ℕ) → runs_in running k ≡ true → ⊥) → any_runs running ≡ false
runs_none [] none = refl
runs_none (true ∷ rest) none = absurd (none 0 refl)
runs_none (false ∷ rest) none = runs_none rest (λ k runs. none (suc k) runs)

none_true : (running : List Bool) → ((k : ℕ) → runs_in running k ≡ true → ⊥) → none_runs running ≡ true
none_true running none = ap (λ (b : Bool). not b) (runs_none running none)

sender_among : Contains members (codes "sender")
sender_among = member_contained (codes "sender") refl

module _ (d : Disk) (h : List Event) (well : GoesWell d h) (others : OthersWait (after d h)) where
  abbrev s : State
  s = after d h

  I : Inv (after d h)
  I = always d h well.legal

  T : Tended (after d h).actors (after d h).pipework
  T = tended_always d h well.legal well.well

  K : Ties (after d h).actors (after d h).pipework
  K = ties_always d h well.legal well.well

  -- what waits, by what it finds
  waits_so : (a : List ℕ) (x : Actor) → s.actors a ≡ Some x → x.life ≡ Alive → a ≢ codes "sender" → CanNot s a (next_of x.program x.past s.now (found_by s a x.program))
  waits_so a x is alive apart = subst (λ (r : Ready). CanNot s a (next_of x.program x.past s.now r)) (ap (λ (o : Option Actor). found_at s a o) is) (others.waits a x is alive (searches_not a apart))

  -- who feeds a child doesn't wait
  feeds_not : (a : List ℕ) (x : Actor) (k : ℕ) → s.actors a ≡ Some x → x.life ≡ Alive → a ≢ codes "sender" → FeedsNow x k → ⊥
  feeds_not a x k is alive apart feeds =
      let f = feeds s.now (found_by s a x.program) in
      let can : CanNot s a (needs.Give (port.Program k) f.0) = subst (CanNot s a) f.1 (waits_so a x is alive apart) in
      can

  child_apart : (b : List ℕ) → (Contains members b → ⊥) → b ≢ codes "sender"
  child_apart b apart same = apart (subst (λ (n : List ℕ). Contains members n) (sym same) sender_among)

  -- A living delivery does something, or its injector

  at_status : (F : Type 0) (r : DeliveryRow) (o : Option Drop) → r ≡ delivers.TakeStatus → AtRow (λ d. Unit {0}) F F r o → F
  at_status F r o e h = subst (λ (q : DeliveryRow). AtRow (λ d. Unit {0}) F F q o) e h

  no_injector : (b c : List ℕ) (z i : Actor) (start : ℕ) (args : LocalArgs) (program : Program) → s.actors b ≡ Some z → z.life ≡ Alive → b ≢ codes "sender" → z.program ≡ Delivery start args
      → s.pipework.programs b 0 ≡ Some (Runs c) → s.actors c ≡ Some i → i.life ≡ Alive → c ≢ codes "sender" → i.program ≡ program → Bears (Delivery start args) program → ⊥
  no_injector b c z i start args (Injector other) there alive apart is runs inner lives away injects bears = ⊎_elim
      (λ (shut : (s.pipework.pipes c port.Input).shut ≡ true).
      injector_acts s c other i.past s.now (found_by s c (Injector other)) (input_found s c other shut)
      (subst (λ (p : Program). CanNot s c (next_of p i.past s.now (found_by s c p))) injects (waits_so c i inner lives away)))
      (λ (feeds : FeedsNow z 0). feeds_not b z 0 there alive apart feeds)
      (T.fed b c 0 z there (λ sends. subst IsSender is sends) runs)
  no_injector b c z i start args program there alive apart is runs inner lives away injects bears = absurd bears

  injector_ended : (b c : List ℕ) (z : Actor) (start : ℕ) (args : LocalArgs) → s.actors b ≡ Some z → z.life ≡ Alive → b ≢ codes "sender" → z.program ≡ Delivery start args → s.pipework.programs b 0 ≡ Some (Runs c)
      → has_ended s (Some (Runs c)) ≡ true
  injector_ended b c z start args there alive apart is runs =
      let t = I.tenants b 0 (Runs c) runs in
      let bearer : t.bearer.program ≡ Delivery start args = ap (λ (o : Actor). o.program) (some_actor t.bearer z (sym t.bearer_is ∙ there)) ∙ is in
      ⊎_elim
      (λ (lives : t.actor.life ≡ Alive).
      absurd (no_injector b c z t.actor start args t.actor.program there alive apart is runs t.is lives (child_apart c t.apart) refl (subst (λ (p : Program). Bears p t.actor.program) bearer t.bears)))
      (λ (over : (is_over t.actor.life ≡ true) × (is_alive t.actor.life ≡ false)). ap (λ (o : Option Actor). is_gone o) t.is ∙ over.0)
      (alive_or t.actor.life)

  drop_acts : (b : List ℕ) (it : Drop) (row : DropRow) → CanNot s b (drop_due_at it.names row it.place.left) → ⊥
  drop_acts b it (drop.Create attempt) can = can
  drop_acts b it (drop.Append attempt fd) can = can
  drop_acts b it (drop.Sync attempt fd) can = can
  drop_acts b it (drop.Close attempt fd) can = can
  drop_acts b it (drop.Link attempt) can = can
  drop_acts b it (drop.Shut attempt fd reason) can = can
  drop_acts b it (drop.Unlink attempt outcome) can = can
  drop_acts b it (drop.Ended attempt outcome) can = can

  module _ (a b : List ℕ) (k : ℕ) (y z : Actor) (start : ℕ) (args : LocalArgs) (parent : s.actors a ≡ Some y) (serves : y.life ≡ Alive) (far : a ≢ codes "sender") (no_sender : IsSender y.program → ⊥)
      (runs : s.pipework.programs a k ≡ Some (Runs b)) (there : s.actors b ≡ Some z) (alive : z.life ≡ Alive) (apart : b ≢ codes "sender") (is : z.program ≡ Delivery start args) where
    abbrev p : DeliveryPlace
    p = delivery_after args z.past

    ran : IsRunBy (DeliversNext args) z.past
    ran = subst (λ (q : Program). IsRunBy (next_of q) z.past) is (have_run d h well.legal b z there)

    drop_at : (o : Option Drop) → HasDrop delivers.Drop o → CanNot s b (due_by_drop o) → ⊥
    drop_at None has can = has
    drop_at (Some it) has can = drop_acts b it it.place.row can

    row_acts_so : (r : DeliveryRow) → p.row ≡ r → CanNot s b (delivery_due_at args r p) → ⊥
    row_acts_so delivers.TakeInput at_it can = ⊎_elim
        (λ (shut : (s.pipework.pipes b port.Input).shut ≡ true). false≢true (sym can ∙ ready_shut (s.pipework.pipes b port.Input) shut))
        (λ (feeds : FeedsNow y k). feeds_not a y k parent serves far feeds)
        (T.fed a b k y parent no_sender runs)
    row_acts_so delivers.TakeStatus at_it can =
        let c = at_status (HasChild s.pipework b) p.row p.dropping at_it (T.awaits b z start args there is) in
        false≢true (sym can ∙ ap (has_ended s) c.1 ∙ injector_ended b c.0 z start args there alive apart is c.1)
    row_acts_so delivers.Drop at_it can = drop_at p.dropping (subst (λ (r : DeliveryRow). HasDrop r p.dropping) at_it (drops_always args z.past ran)) can
    row_acts_so (delivers.Open what) at_it can = can
    row_acts_so (delivers.Read what fd) at_it can = can
    row_acts_so (delivers.Close what fd went) at_it can = can
    row_acts_so delivers.NextName at_it can = can
    row_acts_so delivers.Run at_it can = can
    row_acts_so delivers.Start at_it can = can
    row_acts_so delivers.Feed at_it can = can
    row_acts_so (delivers.Report status) at_it can = can
    row_acts_so (delivers.Fail reason) at_it can = can
    row_acts_so (delivers.Ended status) at_it can = can

    no_delivery : ⊥
    no_delivery = row_acts_so p.row refl (subst (λ (q : Program). CanNot s b (next_of q z.past s.now (found_by s b q))) is (waits_so b z there alive apart))

  -- What runs in a slot of a living spawner has ended

  module _ (c : Channel) (y : Actor) (there : s.actors (spawner_name c) ≡ Some y) (alive : y.life ≡ Alive) (serves : IsSpawner c y.program) where
    abbrev name : List ℕ
    name = spawner_name c

    run : IsRunBy (next_on c) y.past
    run = spawned_run c y.program serves y.past (have_run d h well.legal (spawner_name c) y there)

    told : Tells y.past (stands_after c y.past)
    told = tells_on c y.past run

    far : spawner_name c ≢ codes "sender"
    far same = not_spawner c (sym same)

    -- it runs there, and has ended
    record Ended (k : ℕ) : Type 0 where
      tenant : Tenant
      is : s.pipework.programs (spawner_name c) k ≡ Some tenant
      ended : has_ended s (Some tenant) ≡ true
      shut : (s.pipework.pipes (spawner_name c) (port.Program k)).shut ≡ true

    small : (k : ℕ) → runs_in (programs y.past) k ≡ true → k < 256
    small k runs = ⊎_elim
        (λ (lt : k < length (programs y.past)). let long = told.counts.long in omega (arith, lt, long))
        (λ past. absurd (false≢true (sym (get_or_past (programs y.past) k false past) ∙ runs)))
        (cases_lt k (length (programs y.past)))

    actor_ended : (k : ℕ) (b : List ℕ) (z : Actor) (program : Program) → s.pipework.programs (spawner_name c) k ≡ Some (Runs b) → s.actors b ≡ Some z → b ≢ codes "sender" → z.program ≡ program → Bears y.program program → Ended k
    actor_ended k b z program runs inner apart is bears = ⊎_elim
        (λ (lives : z.life ≡ Alive). absurd (by c y.program program serves bears lives is))
        (λ (over : (is_over z.life ≡ true) × (is_alive z.life ≡ false)).
        record { tenant = Runs b; is = runs; ended = ap (λ (o : Option Actor). is_gone o) inner ∙ over.0; shut = T.over (spawner_name c) b k z runs inner over.1 })
        (alive_or z.life)
      where
        by : (e : Channel) (q r : Program) → IsSpawner e q → Bears q r → z.life ≡ Alive → z.program ≡ r → ⊥
        by Local (LocalSpawner since) (Delivery start args) it bears lives is =
            no_delivery (spawner_name c) b k y z start args there alive far (λ sends. spawner_apart c y.program serves sends) runs inner lives apart is
        by Local (LocalSpawner since) r it bears lives is = absurd bears
        by Remote (RemoteSpawner since) r it bears lives is = absurd bears
        by Local q r it bears lives is = absurd it
        by Remote q r it bears lives is = absurd it

    far_ended : (k : ℕ) (reported : Bool) → k < 256 → spawner_name c ≡ codes "rspawn" → s.pipework.programs (spawner_name c) k ≡ Some (Far reported) → Ended k
    far_ended k true low remote runs = record { tenant = Far true; is = runs; ended = refl; shut = T.told (spawner_name c) k runs }
    far_ended k false low remote runs =
        let lives : lives_in (s.actors (codes "rspawn")) ≡ true = ap lives_in (ap s.actors (sym remote) ∙ there) ∙ lives_actor y alive in
        let open_is : is_unreported (s.pipework.programs (codes "rspawn") k) ≡ true = ap is_unreported (ap (λ (n : List ℕ). s.pipework.programs n k) (sym remote) ∙ runs) in
        let test : ℕ → Bool = λ d. not (nat_lt d 0) && (lives_in (s.actors (codes "rspawn")) && is_unreported (s.pipework.programs (codes "rspawn") d)) in
        let passes : test k ≡ true = and_true (not (nat_lt k 0)) (lives_in (s.actors (codes "rspawn")) && is_unreported (s.pipework.programs (codes "rspawn") k)) (no_less k) (and_true (lives_in (s.actors (codes "rspawn"))) (is_unreported (s.pipework.programs (codes "rspawn") k)) lives open_is) in
        absurd (none_passes test (range_with_len 0 256) others.reported (passes_at test k low passes))

    tenant_ended : (k : ℕ) (t : Tenant) → k < 256 → s.pipework.programs (spawner_name c) k ≡ Some t → IsTenantOf s (spawner_name c) k t → Ended k
    tenant_ended k (Runs b) low runs it =
        let bearer : it.bearer.program ≡ y.program = ap (λ (o : Actor). o.program) (some_actor it.bearer y (sym it.bearer_is ∙ there)) in
        actor_ended k b it.actor it.actor.program runs it.is (child_apart b it.apart) refl (subst (λ (p : Program). Bears p it.actor.program) bearer it.bears)
    tenant_ended k (Far reported) low runs it = far_ended k reported low it runs

    ended_in : (k : ℕ) → runs_in (programs y.past) k ≡ true → Ended k
    ended_in k runs = by (s.pipework.programs (spawner_name c) k) refl (sym (K c y there serves k) ∙ runs)
      where
        by : (o : Option Tenant) → s.pipework.programs (spawner_name c) k ≡ o → is_some o ≡ true → Ended k
        by None e none = absurd (cc)
        by (Some t) e some = tenant_ended k t (small k runs) e (I.tenants (spawner_name c) k t e)

    -- So the spawner would take it

    ended_runs : (k : ℕ) → has_ended s (s.pipework.programs (spawner_name c) k) ≡ true → runs_in (programs y.past) k ≡ true
    ended_runs k ended = K c y there serves k ∙ by (s.pipework.programs (spawner_name c) k) ended
      where
        by : (o : Option Tenant) → has_ended s o ≡ true → is_some o ≡ true
        by None none = absurd (cc)
        by (Some t) ended = refl

    module _ (k : ℕ) (runs : runs_in (programs y.past) k ≡ true) (program : ChildData) where
      abbrev place : Place
      place = stands_after c y.past

      abbrev ready : Ready
      ready = input_or_child s (spawner_name c)

      same_runs : (j : ℕ) → runs_in (stands_after c y.past).running j ≡ runs_in (programs y.past) j
      same_runs j = ap (λ (l : List Bool). runs_in l j) told.knows.running

      lowest : Found (λ d. has_ended s (s.pipework.programs (spawner_name c) d))
      lowest = let e = ended_in k runs in found_by_test (λ d. has_ended s (s.pipework.programs (spawner_name c) d)) k (small k runs) (ap (has_ended s) e.is ∙ e.ended)

      prints : (j : ℕ) → runs_in (programs y.past) j ≡ true → CanNot s (spawner_name c) (needs.Take (port.Program j)) → ⊥
      prints j there can = false≢true (sym can ∙ ready_shut (s.pipework.pipes (spawner_name c) (port.Program j)) (ended_in j there).shut)

      takes_found : turning (stands_after c y.past) (lowest_ended s (spawner_name c)) ≡ at.TakeOutput lowest.slot
      takes_found =
          ap (turning (stands_after c y.past)) lowest.is
          ∙ ap (λ (b : Bool). if b then at.TakeOutput lowest.slot else resting (stands_after c y.past)) (same_runs lowest.slot ∙ ended_runs lowest.slot lowest.passes)

      idle_acts : (b : Bool) → is_asked (stands_after c y.past) (input_or_child s (spawner_name c)) ≡ b
          → CanNot s (spawner_name c) (due_at program (if b then at.TakeInput else turning (stands_after c y.past) (lowest_ended s (spawner_name c))) (stands_after c y.past)) → ⊥
      idle_acts true asks can = false≢true (sym can ∙ (and_parts (is_open (stands_after c y.past).inbox.intake) (lies_ready s (spawner_name c) port.Input) asks).1)
      idle_acts false asks can =
          prints lowest.slot (ended_runs lowest.slot lowest.passes) (subst (λ (r : Row). CanNot s (spawner_name c) (due_at program r (stands_after c y.past))) takes_found can)

      place_acts : (owed : List ℕ) (dealt : List Request) (r : Row) → At r (stands_after c y.past) owed dealt → Kept y.past r
          → CanNot s (spawner_name c) (due_at program (arrive r (stands_after c y.past) (input_or_child s (spawner_name c))) (stands_after c y.past)) → ⊥
      place_acts owed dealt at.Idle h kept can = idle_acts (is_asked (stands_after c y.past) (input_or_child s (spawner_name c))) refl can
      place_acts owed dealt at.TakeInput h kept can = kept
      place_acts owed dealt (at.TakeOutput j) h kept can = prints j (sym (same_runs j) ∙ h.1) can
      place_acts owed dealt (at.TakeStatus j) h kept can =
          let e = ended_in j (sym (same_runs j) ∙ h.1) in false≢true (sym can ∙ ap (has_ended s) e.is ∙ e.ended)
      place_acts owed dealt at.Greet h kept can = can
      place_acts owed dealt at.OpenMess h kept can = can
      place_acts owed dealt (at.ReadMess fd) h kept can = can
      place_acts owed dealt (at.CloseMess fd whole) h kept can = can
      place_acts owed dealt at.Start h kept can = can
      place_acts owed dealt at.Feed h kept can = can
      place_acts owed dealt at.Report h kept can = can
      place_acts owed dealt (at.Ended code) h kept can = can

  -- So a spawner of which a program runs does something

  module _ (k : ℕ) where
    local_acts : (y : Actor) (there : s.actors (spawner_name Local) ≡ Some y) → y.life ≡ Alive → IsSpawner Local y.program → runs_in (programs y.past) k ≡ true → (r : LocalRow) → (local_after y.past).row ≡ r
        → CanNot s (spawner_name Local) (local_due r (input_or_child s (spawner_name Local)) (local_after y.past)) → ⊥
    local_acts y there alive serves runs local_at.Serves is can =
        let t = told Local y there alive serves in
        let l = local_after y.past in
        place_acts Local y there alive serves k runs (local_program l) t.counts.owed t.counts.dealt l.work.row t.counts.at t.knows.kept can
    local_acts y there alive serves runs local_at.OpenUsers is can = can
    local_acts y there alive serves runs (local_at.ReadUsers fd) is can = can
    local_acts y there alive serves runs (local_at.CloseUsers fd whole) is can = can
    local_acts y there alive serves runs local_at.OutOfMemory is can = can

    spawner_acts : (c : Channel) (y : Actor) (program : Program) → s.actors (spawner_name c) ≡ Some y → y.life ≡ Alive → IsSpawner c y.program → IsSpawner c program → runs_in (programs y.past) k ≡ true
        → CanNot s (spawner_name c) (next_of program y.past s.now (found_by s (spawner_name c) program)) → ⊥
    spawner_acts Local y (LocalSpawner since) there alive serves it runs can = local_acts y there alive serves runs (local_after y.past).row refl can
    spawner_acts Remote y (RemoteSpawner since) there alive serves it runs can =
        let t = told Remote y there alive serves in
        let p = remote_after y.past in
        place_acts Remote y there alive serves k runs (remote_program p.request) t.counts.owed t.counts.dealt p.row t.counts.at t.knows.kept can
    spawner_acts Local y program there alive serves it runs can = absurd it
    spawner_acts Remote y program there alive serves it runs can = absurd it

  none_of : (c : Channel) (y : Actor) → s.actors (spawner_name c) ≡ Some y → y.life ≡ Alive → IsSpawner c y.program → none_runs (stands_after c y.past).running ≡ true
  none_of c y there alive serves =
      let t = told c y there alive serves in
      ap none_runs t.knows.running
      ∙ none_true (programs y.past) (λ k runs. spawner_acts k c y y.program there alive serves serves runs (waits_so (spawner_name c) y there alive (λ same. not_spawner c (sym same))))

  -- So who else lives is no injector of a mail, and runs in no slot of another one than the sender

  alone_acts : (a : List ℕ) (x : Actor) (args : Arguments) → s.actors a ≡ Some x → x.life ≡ Alive → a ≢ codes "sender" → x.program ≡ Injector args → s.pipework.slots a ≡ None → ⊥
  alone_acts a x args there alive apart is alone =
      let awaits : is_awaiting s a ≡ false = ap (λ (o : Option Slot). is_some o && not (lies_ready s a port.Input)) alone in
      let found : has_input (found_by s a (Injector args)) ≡ true = ap (λ (b : Bool). has_input (if b then input_alone false else INPUT_READY)) awaits in
      injector_acts s a args x.past s.now (found_by s a (Injector args)) found
      (subst (λ (p : Program). CanNot s a (next_of p x.past s.now (found_by s a p))) is (waits_so a x there alive apart))

  child_acts : (a b : List ℕ) (k : ℕ) (y z : Actor) → s.actors a ≡ Some y → y.life ≡ Alive → (IsSender y.program → ⊥) → s.pipework.programs a k ≡ Some (Runs b) → s.actors b ≡ Some z → z.life ≡ Alive → ⊥
  child_acts a b k y z there alive no_sender runs inner lives =
      let t = I.tenants a k (Runs b) runs in
      let bearer : t.bearer ≡ y = some_actor t.bearer y (sym t.bearer_is ∙ there) in
      let child : t.actor ≡ z = some_actor t.actor z (sym t.is ∙ inner) in
      let bears : Bears y.program z.program = subst (λ (o : Actor). Bears o.program z.program) bearer (subst (λ (o : Actor). Bears t.bearer.program o.program) child t.bears) in
      let has : HasSlot y.program k = subst (λ (o : Actor). HasSlot o.program k) bearer t.has in
      by y.program z.program refl refl bears has (I.crew a y there) (child_apart b t.apart)
    where
      by : (p q : Program) → y.program ≡ p → z.program ≡ q → Bears p q → HasSlot p k → IsNamed a p → b ≢ codes "sender" → ⊥
      by (LocalSpawner since) (Delivery start args) is_p is_q bears has named away =
          no_delivery a b k y z start args there alive (λ same. not_spawner Local (sym same ∙ named)) no_sender runs inner lives away is_q
      by (Delivery start args) (Injector other) is_p is_q bears has named away =
          no_injector a b y z start args (Injector other) there alive (child_apart a named) is_p (subst (λ (n : ℕ). s.pipework.programs a n ≡ Some (Runs b)) has runs) inner lives away is_q bears
      by (Sender since) q is_p is_q bears has named away = absurd (no_sender (subst IsSender (sym is_p) tt))
      by p q is_p is_q bears has named away = absurd bears

pub others_end : OthersEnd
others_end = record {
  mails = λ d h well others a x args there alive none. alone_acts d h well others a x args there alive (is_no_sender a none);
  children = λ d h well others. child_acts d h well others;
}

pub others_run_none : OthersRunNone
others_run_none d h well others c y there alive serves = none_of d h well others c y there alive serves

-- Where nothing fails a program runs in a slot of a spawner just if the spawner has started one there and hasn't taken its status.
use Rattle.std.proofs.Common.{◌≡◌, ◌≢◌, ⊎_elim, ℕ, ◌<◌, ◌≤◌, ◌==◌, List, [], ◌∷◌, length, replicate, set, Bool, true, false, ◌&&◌, if◌then◌else◌, Option, Some, None, refl, sym, ap, ◌∙◌, subst, bytes_eq, codes}
use Rattle.std.specs.List.{list_all}
use Rattle.std.specs.Prelude.{is_some}
use Rattle.std.proofs.lemmas.Bool.{and_parts, cases_eq, cases_lt, eq-eqb, ne_eqb}
use Rattle.std.proofs.lemmas.List.{get_or-replicate, get_or-set_other, get_or-set_same, get_or_past, length-replicate}
use Rattle.call_fs.specs.Disk.{Disk}
use Rattle.call_fs.specs.Maps.{put_at}
use Rattle.call_fs.proofs.Maps.{put_at_cases}
use Rattle.call_fs.specs.Past.{IsRunBy}
use Rattle.call_fs.specs.Program.{MayCome}
use Rattle.call_fs.specs.declared.past.ChildData.{ChildData}
use Rattle.call_fs.specs.declared.past.ChildData.TheVariants as child
use Rattle.call_fs.specs.declared.past.GotData.{GotData}
use Rattle.call_fs.specs.declared.past.GotData.TheVariants as came
use Rattle.call_fs.specs.declared.past.NeedData.{NeedData}
use Rattle.call_fs.specs.declared.past.NeedData.TheVariants as needs
use Rattle.call_fs.specs.declared.past.Own.{Own}
use Rattle.call_fs.specs.declared.program.Port.TheVariants as port
use Rattle.local_spawn.specs.declared.row.Row.{Row as LocalRow}
use Rattle.local_spawn.specs.declared.row.Row.TheVariants as local_at
use Rattle.local_spawn.specs.Table.{due_at as local_due_at, place_after as local_after, program_of as local_program}
use Rattle.program_law.proofs.Post.Sums.{not_running}
use Rattle.remote_spawn.specs.Table.{place_after as remote_after, program_of as remote_program}
use Rattle.send_known.specs.declared.channel.Channel.{Channel}
use Rattle.send_known.specs.declared.channel.Channel.TheVariants.{Local, Remote}
use Rattle.spawner_parts.specs.declared.place.Place.{Place}
use Rattle.spawner_parts.specs.Asked.{runs_in}
use Rattle.spawner_parts.specs.Causes.{programs, programs_by, slot_of}
use Rattle.spawner_parts.specs.Known.{Tells}
use Rattle.spawner_parts.specs.Table.{due_at, row_now}
use Rattle.spawner_parts.proofs.Balance.{comes_at}
use Rattle.spawner_parts.proofs.Settled.{at_start}
use Rattle.spawner_parts.proofs.Tallies.{good_slot}
use Rattle.world_pipes.specs.Pipework.{Pipework, Tenant, is_member, programs_after}
use Rattle.world_pipes.specs.Pipework.{slot_of as child_slot}
use Rattle.world_pipes.specs.Pipework.Tenant.{Remote as Far, Runs}
use Rattle.world_events.specs.declared.event.Program.{Program}
use Rattle.world_events.specs.declared.event.Program.TheVariants.{Injector, Delivery}
use Rattle.mail_world.specs.History.{Actor, Allowed, ComesOf, Event, IsProgramOf, Legal, Life, MayBear, MayDo, MayRun, State, acted, after, bears, finished, happens, newborn, next_of, slot_by}
use Rattle.mail_world.specs.History.Event.{Start, Act, Child, Generation, Report, End, Stop, Moment, Halt}
use Rattle.mail_world.specs.History.Life.{Over}
use Rattle.mail_world.proofs.Coming.{may_come}
use Rattle.mail_world.proofs.Members.{are_four, four_new}
use Rattle.queue_law.proofs.Tests.{other_text, same_text}
use Rattle.world_law.specs.Spawned.{IsSpawner, spawner_name}
use Rattle.world_law.proofs.PostPipes.{programs_left}
use Rattle.world_law.proofs.Ran.{HaveRun, born_comes, have_run}
use Rattle.world_law.proofs.Tenants.{slot_named, slot_numbered, some_actor}
use Rattle.settle_law.specs.Well.{came_well, goes_well}
use Rattle.settle_law.proofs.PipeEvents.{spawned_run}
use Rattle.settle_law.proofs.Spawns.{next_on, tells_on}

abbrev pub Ties : (List ℕ → Option Actor) → Pipework → Type 0
Ties actors w = (c : Channel) (y : Actor) → actors (spawner_name c) ≡ Some y → IsSpawner c y.program → (slot : ℕ) → runs_in (programs y.past) slot ≡ is_some (w.programs (spawner_name c) slot)

-- A slot of an actor, and another one

here_true : (a : List ℕ) (k d : ℕ) → k ≡ d → (bytes_eq a a && (k == d)) ≡ true
here_true a k d e = ap (λ (t : Bool). t && (k == d)) (same_text a) ∙ eq-eqb k d e

there_false : (a : List ℕ) (k d : ℕ) → k ≢ d → (bytes_eq a a && (k == d)) ≡ false
there_false a k d apart = ap (λ (t : Bool). t && (k == d)) (same_text a) ∙ ne_eqb k d apart

-- A program starts, or its status is taken

module _ (w : Pipework) (a : List ℕ) (running : List Bool) (h : (k : ℕ) → runs_in running k ≡ is_some (w.programs a k)) where
  freed : (d k : ℕ) → runs_in (set running d false) k ≡ is_some (if bytes_eq a a && (k == d) then None else w.programs a k)
  freed d k = ⊎_elim
      (λ (e : k ≡ d). ap (runs_in (set running d false)) e ∙ not_running running d
      ∙ sym (ap (λ (t : Bool). is_some (if t then None else w.programs a k)) (here_true a k d e)))
      (λ (apart : k ≢ d). get_or-set_other running d k false false apart ∙ h k
      ∙ sym (ap (λ (t : Bool). is_some (if t then None else w.programs a k)) (there_false a k d apart)))
      (cases_eq k d)

  begun : (d k : ℕ) (t : Tenant) → d < length running → runs_in (set running d true) k ≡ is_some (if bytes_eq a a && (k == d) then Some t else w.programs a k)
  begun d k t low = ⊎_elim
      (λ (e : k ≡ d). ap (runs_in (set running d true)) e ∙ get_or-set_same running d true false low
      ∙ sym (ap (λ (u : Bool). is_some (if u then Some t else w.programs a k)) (here_true a k d e)))
      (λ (apart : k ≢ d). get_or-set_other running d k true false apart ∙ h k
      ∙ sym (ap (λ (u : Bool). is_some (if u then Some t else w.programs a k)) (there_false a k d apart)))
      (cases_eq k d)

  abbrev Steps : NeedData → GotData → Type 0
  Steps due got = (k : ℕ) → runs_in (programs_by running due got) k ≡ is_some (programs_after w.programs a due got a k)

  -- it starts no child of its own
  abbrev StartsNone : NeedData → GotData → Type 0
  StartsNone (needs.Start (child.Remote slot domain sender recipient)) got = Unit {0}
  StartsNone (needs.Start asked) (came.Started pid) = ⊥
  StartsNone due got = Unit {0}

  ties_step : (due : NeedData) (got : GotData) → MayCome due got → came_well got ≡ true → StartsNone due got → ((asked : ChildData) → due ≡ needs.Start asked → slot_of asked < length running) → Steps due got
  ties_step (needs.Take (port.Status d)) (came.Ended status) may well none low k = freed d k
  ties_step (needs.Take (port.Status d)) came.Crashed may well none low k = freed d k
  ties_step (needs.Take (port.Status d)) came.Failed may well none low k = absurd (cc)
  ties_step (needs.Take (port.Status d)) got may well none low k = absurd may
  ties_step (needs.Start (child.Remote slot domain sender recipient)) (came.Started pid) may well none low k =
      begun slot k (Far false) (low (child.Remote slot domain sender recipient) refl)
  ties_step (needs.Start asked) (came.Started pid) may well none low k = absurd none
  ties_step due got may well none low k = h k

-- A program is started in a slot below 120

module _ (mine : List Own) (own : Own) (asked : ChildData) where
  started_low : (program : ChildData) (p : Place) → slot_of program ≡ p.request.slot → Tells mine p → due_at program (row_now p own.ready) p ≡ needs.Start asked → slot_of asked < 120
  started_low program p here t due =
      let a = at_start program asked p t.counts.owed t.counts.dealt (row_now p own.ready) (comes_at p t.counts.owed t.counts.dealt p.row own.ready t.counts.at) due in
      subst (λ (n : ℕ). n < 120) (sym here ∙ ap slot_of a.1) (good_slot p.running p.request a.0.good).0

  local_low : (r : LocalRow) → (local_after mine).row ≡ r → Tells mine (local_after mine).work → local_due_at r own.ready (local_after mine) ≡ needs.Start asked → slot_of asked < 120
  local_low local_at.Serves is t due = let l = local_after mine in started_low (local_program l) l.work refl t due
  local_low row is t due = absurd (cc)

  low_on : (c : Channel) → IsRunBy (next_on c) (own ∷ mine) → own.due ≡ needs.Start asked → slot_of asked < 120
  low_on Local run due = local_low (local_after mine).row refl (tells_on Local mine run.0) (run.1.0 ∙ due)
  low_on Remote run due = let p = remote_after mine in started_low (remote_program p.request) p refl (tells_on Remote mine run.0) (run.1.0 ∙ due)

long_on : (c : Channel) (mine : List Own) → IsRunBy (next_on c) mine → length (programs mine) ≡ 120
long_on c mine run = (tells_on c mine run).counts.long

-- An event of an actor

module _ (s : State) (T : Ties s.actors s.pipework) (R : HaveRun s.actors) (a : List ℕ) (own : Own) (wrote : ℕ) (x : Actor) (is : s.actors a ≡ Some x)
    (due : next_of x.program x.past own.read own.ready ≡ own.due) (may : MayCome own.due own.came) (well : came_well own.came ≡ true) where
  abbrev y : Actor
  y = record { program = x.program; past = own ∷ x.past; life = x.life }

  abbrev acted_one : State
  acted_one = acted s a own wrote (Some x)

  others_tie : (c : Channel) (z : Actor) → spawner_name c ≢ a → s.actors (spawner_name c) ≡ Some z → IsSpawner c z.program → (slot : ℕ)
      → runs_in (programs z.past) slot ≡ is_some (acted_one.pipework.programs (spawner_name c) slot)
  others_tie c z apart there it slot =
      T c z there it slot ∙ ap is_some (sym (programs_left s.pipework a (spawner_name c) own.due own.came slot (λ e. apart (sym e))))

  -- by its own slots then
  own_low : (c : Channel) → IsSpawner c x.program → (asked : ChildData) → own.due ≡ needs.Start asked → slot_of asked < length (programs x.past)
  own_low c it asked e =
      let run : IsRunBy (next_on c) (own ∷ x.past) = spawned_run c x.program it (own ∷ x.past) (R a x is, (due, may)) in
      subst (λ (n : ℕ). slot_of asked < n) (sym (long_on c x.past run.0)) (low_on x.past own asked c run e)

  own_tie : (c : Channel) → a ≡ spawner_name c → IsSpawner c x.program → (k : ℕ) → runs_in (programs x.past) k ≡ is_some (s.pipework.programs a k)
  own_tie c name it k = T c x (ap s.actors (sym name) ∙ is) it k ∙ ap (λ (n : List ℕ). is_some (s.pipework.programs n k)) (sym name)

-- it starts a remote program, or no program by itself
none_alone : (s : State) (a : List ℕ) (w : Pipework) (running : List Bool) (due : NeedData) (got : GotData) (wrote : ℕ) → ComesOf s a due got wrote → (h : (k : ℕ) → runs_in running k ≡ is_some (w.programs a k))
    → StartsNone w a running h due got
none_alone s a w running (needs.Start (child.Remote slot domain sender recipient)) got wrote comes h = tt
none_alone s a w running (needs.Start (child.Bounce room)) (came.Started pid) wrote comes h = comes
none_alone s a w running (needs.Start (child.Forward uid room)) (came.Started pid) wrote comes h = comes
none_alone s a w running (needs.Start (child.Local slot words uid)) (came.Started pid) wrote comes h = comes
none_alone s a w running due got wrote comes h = tt

acts_tie : (s : State) → Ties s.actors s.pipework → HaveRun s.actors → (a : List ℕ) (own : Own) (wrote : ℕ) (may : MayDo s a own wrote) → came_well own.came ≡ true
    → let t = acted s a own wrote (Some may.actor) in Ties t.actors t.pipework
acts_tie s T R a own wrote may well c z there it slot =
    let x = may.actor in
    let comes = may_come s a own.due own.came wrote may.came in
    let then_is : Actor = record { program = x.program; past = own ∷ x.past; life = x.life } in
    ⊎_elim
    (λ (e : (spawner_name c ≡ a) × (put_at s.actors a (Some then_is) (spawner_name c) ≡ Some then_is)).
    let same : then_is ≡ z = some_actor then_is z (sym e.1 ∙ there) in
    let serves : IsSpawner c x.program = subst (λ (o : Actor). IsSpawner c o.program) (sym same) it in
    let h = own_tie s T R a own wrote x may.reads.is may.due comes well c (sym e.0) serves in
    ap (λ (o : Actor). runs_in (programs o.past) slot) (sym same)
    ∙ ties_step s.pipework a (programs x.past) h own.due own.came comes well (none_alone s a s.pipework (programs x.past) own.due own.came wrote may.came h)
    (own_low s T R a own wrote x may.reads.is may.due comes well c serves) slot
    ∙ ap (λ (n : List ℕ). is_some ((acted s a own wrote (Some may.actor)).pipework.programs n slot)) (sym e.0))
    (λ (e : (spawner_name c ≢ a) × (put_at s.actors a (Some then_is) (spawner_name c) ≡ s.actors (spawner_name c))).
    others_tie s T R a own wrote x may.reads.is may.due comes well c z e.0 (sym e.1 ∙ there) it slot)
    (put_at_cases s.actors a (Some then_is) (spawner_name c))

-- The start of a child

same_slot : (asked : ChildData) (pid : ℕ) (program : Program) → IsProgramOf asked pid program → slot_of asked ≡ child_slot asked
same_slot (child.Bounce room) pid program it = refl
same_slot (child.Forward uid room) pid program it = refl
same_slot (child.Local slot words uid) pid program it = refl
same_slot (child.Remote slot domain sender recipient) pid program it = absurd it

child_left : (asked : ChildData) (pid : ℕ) (program : Program) → IsProgramOf asked pid program → (w : Pipework) (a b : List ℕ) (got : GotData) (k : ℕ) → programs_after w.programs a (needs.Start asked) got b k ≡ w.programs b k
child_left (child.Bounce room) pid program it w a b got k = refl
child_left (child.Forward uid room) pid program it w a b got k = refl
child_left (child.Local slot words uid) pid program it w a b got k = refl
child_left (child.Remote slot domain sender recipient) pid program it w a b got k = absurd it

off_text : (t u : Bool) (x y : Option Tenant) → t ≡ false → (if t && u then x else y) ≡ y
off_text true u x y e = absurd (cc)
off_text false u x y e = refl

no_spawner : (c : Channel) (asked : ChildData) (pid : ℕ) (program : Program) → IsProgramOf asked pid program → IsSpawner c program → ⊥
no_spawner Local (child.Bounce room) pid (Injector args) it serves = serves
no_spawner Remote (child.Bounce room) pid (Injector args) it serves = serves
no_spawner Local (child.Forward uid room) pid (Injector args) it serves = serves
no_spawner Remote (child.Forward uid room) pid (Injector args) it serves = serves
no_spawner Local (child.Local slot words uid) pid (Delivery start args) it serves = serves
no_spawner Remote (child.Local slot words uid) pid (Delivery start args) it serves = serves
no_spawner c asked pid program it serves = absurd it

module _ (s : State) (T : Ties s.actors s.pipework) (R : HaveRun s.actors) (parent : List ℕ) (own : Own) (a : List ℕ) (program : Program) (may : MayBear s parent own a program) where
  abbrev then_is : Actor
  then_is = record { program = may.actor.program; past = own ∷ may.actor.past; life = may.actor.life }

  abbrev mid : State
  mid = acted s parent own 0 (Some may.actor)

  abbrev born : State
  born = bears (acted s parent own 0 (Some may.actor)) parent own a program

  comes : MayCome own.due own.came
  comes = born_comes s parent own a program may

  well : came_well own.came ≡ true
  well = ap came_well may.came

  left : (b : List ℕ) (k : ℕ) → mid.pipework.programs b k ≡ s.pipework.programs b k
  left b k = ap (λ (n : NeedData). programs_after s.pipework.programs parent n own.came b k) may.starts ∙ child_left may.asked may.pid program may.is s.pipework parent b own.came k

  slot_is : slot_by own.due ≡ slot_of may.asked
  slot_is = ap slot_by may.starts ∙ sym (same_slot may.asked may.pid program may.is)

  parent_ties : (c : Channel) → parent ≡ spawner_name c → IsSpawner c may.actor.program → (k : ℕ) → runs_in (programs (own ∷ may.actor.past)) k ≡ is_some (born.pipework.programs parent k)
  parent_ties c name it k =
      let h = own_tie s T R parent own 0 may.actor may.reads.is may.due comes well c name it in
      let low = own_low s T R parent own 0 may.actor may.reads.is may.due comes well c it may.asked may.starts in
      ap (λ (n : NeedData). runs_in (programs_by (programs may.actor.past) n own.came) k) may.starts
      ∙ ap (λ (g : GotData). runs_in (programs_by (programs may.actor.past) (needs.Start may.asked) g) k) may.came
      ∙ begun s.pipework parent (programs may.actor.past) h (slot_of may.asked) k (Runs a) low
      ∙ ap (λ (d : ℕ). is_some (if bytes_eq parent parent && (k == d) then Some (Runs a) else s.pipework.programs parent k)) (sym slot_is)
      ∙ ap (λ (o : Option Tenant). is_some (if bytes_eq parent parent && (k == slot_by own.due) then Some (Runs a) else o)) (sym (left parent k))

  others_born : (c : Channel) (z : Actor) → spawner_name c ≢ parent → s.actors (spawner_name c) ≡ Some z → IsSpawner c z.program → (k : ℕ)
      → runs_in (programs z.past) k ≡ is_some (born.pipework.programs (spawner_name c) k)
  others_born c z apart there it k =
      others_tie s T R parent own 0 may.actor may.reads.is may.due comes well c z apart there it k
      ∙ ap is_some (sym (off_text (bytes_eq (spawner_name c) parent) (k == slot_by own.due) (Some (Runs a)) (mid.pipework.programs (spawner_name c) k) (other_text (spawner_name c) parent apart)))

  child_ties : Ties born.actors born.pipework
  child_ties c z there it k = ⊎_elim
      (λ (e : (spawner_name c ≡ a) × (born.actors (spawner_name c) ≡ Some (newborn program))).
      absurd (no_spawner c may.asked may.pid program may.is (subst (λ (o : Actor). IsSpawner c o.program) (sym (some_actor (newborn program) z (sym e.1 ∙ there))) it)))
      (λ (e : (spawner_name c ≢ a) × (born.actors (spawner_name c) ≡ mid.actors (spawner_name c))). ⊎_elim
      (λ (p : (spawner_name c ≡ parent) × (put_at s.actors parent (Some then_is) (spawner_name c) ≡ Some then_is)).
      let same : then_is ≡ z = some_actor then_is z (sym p.1 ∙ (sym e.1 ∙ there)) in
      let serves : IsSpawner c may.actor.program = subst (λ (o : Actor). IsSpawner c o.program) (sym same) it in
      ap (λ (o : Actor). runs_in (programs o.past) k) (sym same) ∙ parent_ties c (sym p.0) serves k
      ∙ ap (λ (n : List ℕ). is_some (born.pipework.programs n k)) (sym p.0))
      (λ (p : (spawner_name c ≢ parent) × (put_at s.actors parent (Some then_is) (spawner_name c) ≡ s.actors (spawner_name c))).
      others_born c z p.0 (sym p.1 ∙ (sym e.1 ∙ there)) it k)
      (put_at_cases s.actors parent (Some then_is) (spawner_name c)))
      (put_at_cases mid.actors a (Some (newborn program)) (spawner_name c))

-- A generation starts

none_run : (slot : ℕ) → runs_in (replicate 120 false) slot ≡ false
none_run slot = ⊎_elim
    (λ (lt : slot < 120). get_or-replicate 120 slot false false lt)
    (λ past. get_or_past (replicate 120 false) slot false (subst (λ (n : ℕ). n ≤ slot) (sym (length-replicate 120 false)) past))
    (cases_lt slot 120)

is_spawner_member : (c : Channel) → is_member (spawner_name c) ≡ true
is_spawner_member Local = refl
is_spawner_member Remote = refl

generation_ties : (s : State) (sender clean lspawn rspawn : Program) → let t = happens s (Generation (sender ∷ clean ∷ lspawn ∷ rspawn ∷ [])) in Ties t.actors t.pipework
generation_ties s sender clean lspawn rspawn c z there it slot =
    let w = four_new s.actors sender clean lspawn rspawn (spawner_name c) (is_spawner_member c) in
    ap (λ (o : Actor). runs_in (programs o.past) slot) (sym (some_actor (newborn w.0) z (sym w.1 ∙ there))) ∙ none_run slot
    ∙ sym (ap (λ (t : Bool). is_some (if t then None else s.pipework.programs (spawner_name c) slot)) (is_spawner_member c))

-- A report comes for what runs

report_ties : (s : State) → Ties s.actors s.pipework → (number : ℕ) (output : List ℕ) → s.pipework.programs (codes "rspawn") number ≡ Some (Far false)
    → let t = happens s (Report number output) in Ties t.actors t.pipework
report_ties s T number output runs c z there it slot = T c z there it slot ∙ by (bytes_eq (spawner_name c) (codes "rspawn") && (slot == number)) refl
  where
    by : (t : Bool) → (bytes_eq (spawner_name c) (codes "rspawn") && (slot == number)) ≡ t
        → is_some (s.pipework.programs (spawner_name c) slot) ≡ is_some (if bytes_eq (spawner_name c) (codes "rspawn") && (slot == number) then Some (Far true) else s.pipework.programs (spawner_name c) slot)
    by true e =
        let name = slot_named (spawner_name c) (codes "rspawn") (slot == number) e in
        let same = slot_numbered (spawner_name c) (codes "rspawn") slot number e in
        (λ i. is_some (s.pipework.programs (name i) (same i))) ∙ ap is_some runs ∙ sym (ap (λ (t : Bool). is_some (if t then Some (Far true) else s.pipework.programs (spawner_name c) slot)) e)
    by false e = sym (ap (λ (t : Bool). is_some (if t then Some (Far true) else s.pipework.programs (spawner_name c) slot)) e)

-- An end, and a start alone

ends_tie : (s : State) → Ties s.actors s.pipework → (a : List ℕ) (life : Life) (o : Option Actor) → s.actors a ≡ o → let t = finished s a life o in Ties t.actors t.pipework
ends_tie s T a life None is c z there it slot = T c z there it slot
ends_tie s T a life (Some x) is c z there it slot =
    let y : Actor = record { program = x.program; past = x.past; life = life } in
    ⊎_elim
    (λ (e : (spawner_name c ≡ a) × (put_at s.actors a (Some y) (spawner_name c) ≡ Some y)).
    let same : y ≡ z = some_actor y z (sym e.1 ∙ there) in
    ap (λ (o : Actor). runs_in (programs o.past) slot) (sym same) ∙ T c x (ap s.actors e.0 ∙ is) (subst (λ (o : Actor). IsSpawner c o.program) (sym same) it) slot)
    (λ (e : (spawner_name c ≢ a) × (put_at s.actors a (Some y) (spawner_name c) ≡ s.actors (spawner_name c))). T c z (sym e.1 ∙ there) it slot)
    (put_at_cases s.actors a (Some y) (spawner_name c))

alone_no_spawner : (c : Channel) (program : Program) → MayRun program → IsSpawner c program → ⊥
alone_no_spawner Local (Injector args) runs serves = serves
alone_no_spawner Remote (Injector args) runs serves = serves
alone_no_spawner c program runs serves = absurd runs

start_ties : (s : State) → Ties s.actors s.pipework → (a : List ℕ) (program : Program) → MayRun program → Ties (put_at s.actors a (Some (newborn program))) s.pipework
start_ties s T a program runs c z there it slot = ⊎_elim
    (λ (e : (spawner_name c ≡ a) × (put_at s.actors a (Some (newborn program)) (spawner_name c) ≡ Some (newborn program))).
    absurd (alone_no_spawner c program runs (subst (λ (o : Actor). IsSpawner c o.program) (sym (some_actor (newborn program) z (sym e.1 ∙ there))) it)))
    (λ (e : (spawner_name c ≢ a) × (put_at s.actors a (Some (newborn program)) (spawner_name c) ≡ s.actors (spawner_name c))). T c z (sym e.1 ∙ there) it slot)
    (put_at_cases s.actors a (Some (newborn program)) (spawner_name c))

-- Each event

abbrev TiedIn : State → Type 0
TiedIn s = Ties s.actors s.pipework

event_ties : (e : Event) (s : State) → HaveRun s.actors → TiedIn s → Allowed s e → goes_well e ≡ true → TiedIn (happens s e)
event_ties (Start a program) s R T may well = start_ties s T a program may.runs
event_ties (Act a own wrote) s R T may well = subst (λ (o : Option Actor). TiedIn (acted s a own wrote o)) (sym may.reads.is) (acts_tie s T R a own wrote may well)
event_ties (Child parent own a program) s R T may well =
    subst (λ (o : Option Actor). TiedIn (bears (acted s parent own 0 o) parent own a program)) (sym may.reads.is) (child_ties s T R parent own a program may)
event_ties (Generation (sender ∷ clean ∷ lspawn ∷ rspawn ∷ [])) s R T may well = generation_ties s sender clean lspawn rspawn
event_ties (Generation crew) s R T may well = absurd (are_four crew may.kinds)
event_ties (Report slot output) s R T may well = report_ties s T slot output may.runs
event_ties (End a read ready status) s R T may well = ends_tie s T a (Over status) (s.actors a) refl
event_ties (Stop a) s R T may well = absurd (cc)
event_ties (Moment m) s R T may well = T
event_ties (Halt how contents) s R T may well = absurd (cc)

pub ties_always : (d : Disk) (h : List Event) → Legal d h → list_all goes_well h ≡ true → let s = after d h in Ties s.actors s.pipework
ties_always d [] legal well = λ c y there it slot. absurd (cc)
ties_always d (e ∷ h) legal well =
    let parts = and_parts (goes_well e) (list_all goes_well h) well in
    event_ties e (after d h) (have_run d h legal.0) (ties_always d h legal.0 parts.1) legal.1 parts.0

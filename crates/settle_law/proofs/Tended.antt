-- Where nothing fails a child has its whole input once its parent gave it, and what it prints ends with it.
use Rattle.std.proofs.Common.{◌≡◌, ◌≢◌, ◌⊎◌, inl, inr, ⊎_elim, ℕ, ◌==◌, List, [], ◌∷◌, take, Bool, true, false, ◌&&◌, if◌then◌else◌, Option, Some, None, refl, sym, ap, ◌∙◌, subst, bytes_eq, codes}
use Rattle.std.specs.List.{list_all}
use Rattle.std.specs.Prelude.{Contains}
use Rattle.std.proofs.lemmas.Bool.{and_parts, eq-eqb, false≢true}
use Rattle.actor_names.specs.MailNames.{members}
use Rattle.call_fs.specs.Disk.{Disk}
use Rattle.call_fs.specs.Maps.{put_at}
use Rattle.call_fs.proofs.Maps.{put_at_cases, put_at_other, put_at_same}
use Rattle.call_fs.specs.Past.{IsRunBy}
use Rattle.call_fs.specs.Program.{MayCome}
use Rattle.call_fs.specs.declared.past.ChildData.{ChildData}
use Rattle.call_fs.specs.declared.past.ChildData.TheVariants as child
use Rattle.call_fs.specs.declared.past.GotData.{GotData}
use Rattle.call_fs.specs.declared.past.GotData.TheVariants as came
use Rattle.call_fs.specs.declared.past.NeedData.{NeedData}
use Rattle.call_fs.specs.declared.past.NeedData.TheVariants as needs
use Rattle.call_fs.specs.declared.past.Own.{Own}
use Rattle.call_fs.specs.declared.program.Port.{Port}
use Rattle.call_fs.specs.declared.program.Port.TheVariants as port
use Rattle.call_fs.specs.declared.program.Ready.{Ready}
use Rattle.local_deliver.specs.declared.row.Row.{Row as DeliveryRow}
use Rattle.local_deliver.specs.declared.row.Row.TheVariants as delivers
use Rattle.local_deliver.specs.Drops.{Drop}
use Rattle.local_deliver.specs.Table.{due_at as delivery_due_at, place_after as delivery_after}
use Rattle.local_deliver.proofs.Dropped.{AtPlace, AtRow, stepped}
use Rattle.local_deliver.proofs.Forwards.{next as feeds_forward, single}
use Rattle.local_parts.specs.declared.arguments.LocalArgs.{LocalArgs}
use Rattle.local_spawn.specs.declared.place.Place.{Place as LocalPlace}
use Rattle.local_spawn.specs.declared.row.Row.{Row as LocalRow}
use Rattle.local_spawn.specs.declared.row.Row.TheVariants as local_at
use Rattle.local_spawn.specs.Table.{act as local_act, due_at as local_due_at, due_by as local_due, due_from as local_due_from, place_after as local_after, program_of as local_program, served}
use Rattle.spawner_parts.specs.declared.row.Row.{Row}
use Rattle.spawner_parts.specs.declared.row.Row.TheVariants as at
use Rattle.spawner_parts.specs.Table.{row_now}
use Rattle.world_pipes.specs.Pipework.{Mouth, Pipe, Pipework, Tenant, actor_of, closed, far_end, fresh, given, gives, input_of, is_member, is_port, is_writer, mouth, pipes_after, programs_after, put_pipe, put_program, slot_of, taken, writer}
use Rattle.world_pipes.specs.Pipework.Tenant.{Remote, Runs}
use Rattle.world_events.specs.declared.event.Program.{Program}
use Rattle.world_events.specs.declared.event.Program.TheVariants.{Injector, Sender, LocalSpawner, Delivery}
use Rattle.mail_world.specs.History.{Actor, Allowed, ComesOf, Event, IsSender, Legal, Life, MayBear, MayDo, MayRun, State, acted, after, bears, finished, happens, newborn, next_of, slot_by}
use Rattle.mail_world.specs.History.Event.{Start, Act, Child, Generation, Report, End, Stop, Moment, Halt}
use Rattle.mail_world.specs.History.Life.{Alive, Over}
use Rattle.mail_world.proofs.Coming.{may_come}
use Rattle.mail_world.proofs.Members.{are_four, four_other, member_contained}
use Rattle.queue_law.proofs.Tests.{other_text, same_text}
use Rattle.world_law.specs.Crew.{IsNamed, is_alive}
use Rattle.world_law.specs.Inv.{Bears, Inv}
use Rattle.world_law.proofs.Histories.{always}
use Rattle.world_law.proofs.Pipes.{away_same}
use Rattle.world_law.proofs.PostPipes.{programs_left}
use Rattle.world_law.proofs.Ran.{HaveRun, born_comes, have_run}
use Rattle.world_law.proofs.Tenants.{slot_named, slot_numbered, some_actor}
use Rattle.settle_law.specs.Well.{came_well, goes_well}

-- it is next to give the program in a slot its input
abbrev pub FeedsNow : Actor → ℕ → Type 0
FeedsNow x d = (now : ℕ) (ready : Ready) → (text : List ℕ) × (next_of x.program x.past now ready ≡ needs.Give (port.Program d) text)

abbrev pub HasChild : Pipework → List ℕ → Type 0
HasChild w a = (b : List ℕ) × (w.programs a 0 ≡ Some (Runs b))

-- A child was given its input, or its parent is next to give it. Who is over prints nothing more. A delivery that feeds or awaits an injector has one.
pub record Tended (actors : List ℕ → Option Actor) (w : Pipework) : Type 0 where
  pub fed : (a b : List ℕ) (d : ℕ) (x : Actor) → actors a ≡ Some x → (IsSender x.program → ⊥) → w.programs a d ≡ Some (Runs b) → ((w.pipes b port.Input).shut ≡ true) ⊎ FeedsNow x d
  pub over : (a b : List ℕ) (d : ℕ) (z : Actor) → w.programs a d ≡ Some (Runs b) → actors b ≡ Some z → is_alive z.life ≡ false → (w.pipes a (port.Program d)).shut ≡ true
  pub told : (a : List ℕ) (d : ℕ) → w.programs a d ≡ Some (Remote true) → (w.pipes a (port.Program d)).shut ≡ true
  pub awaits : (a : List ℕ) (x : Actor) (start : ℕ) (args : LocalArgs) → actors a ≡ Some x → x.program ≡ Delivery start args → AtPlace (λ d. Unit {0}) (HasChild w a) (HasChild w a) (delivery_after args x.past)

-- Pipes that are shut

abbrev Shuts : (Pipe → Pipe) → Type 0
Shuts change = (pipe : Pipe) → pipe.shut ≡ true → (change pipe).shut ≡ true

pub shut_if : (t : Bool) (x y : Pipe) → x.shut ≡ true → y.shut ≡ true → (if t then x else y).shut ≡ true
shut_if true x y h k = h
shut_if false x y h k = k

put_shut : (pipes : List ℕ → Port → Pipe) (to : Option Mouth) (change : Pipe → Pipe) → Shuts change → (b : List ℕ) (p : Port) → (pipes b p).shut ≡ true → (put_pipe pipes to change b p).shut ≡ true
put_shut pipes None change keeps b p h = h
put_shut pipes (Some to) change keeps b p h = shut_if (bytes_eq b to.actor && is_port p to.port) (change (pipes b p)) (pipes b p) (keeps (pipes b p) h) h

gives_shut : (w : Pipework) (a : List ℕ) (to : Port) (bytes : List ℕ) (b : List ℕ) (p : Port) → (w.pipes b p).shut ≡ true → (gives w a to bytes b p).shut ≡ true
gives_shut w a (port.Program d) bytes b p h = put_shut w.pipes (input_of (w.programs a d)) (λ pipe. closed (given bytes pipe)) (λ pipe k. refl) b p h
gives_shut w a to bytes b p h = put_shut w.pipes (far_end w a to) (given bytes) (λ pipe k. k) b p h

-- an event of an actor leaves an input shut
pub input_shut : (w : Pipework) (a : List ℕ) (due : NeedData) (got : GotData) (wrote : ℕ) (b : List ℕ) → (w.pipes b port.Input).shut ≡ true → (pipes_after w a due got wrote b port.Input).shut ≡ true
input_shut w a (needs.Give to bytes) came.Gave wrote b h = gives_shut w a to bytes b port.Input h
input_shut w a (needs.Give to bytes) came.Failed wrote b h = gives_shut w a to (take wrote bytes) b port.Input h
input_shut w a (needs.Take p) (came.Took bytes) wrote b h = put_shut w.pipes (Some (mouth a p)) (taken bytes) (λ pipe k. k) b port.Input h
input_shut w a (needs.Start (child.Remote slot domain sender recipient)) (came.Started pid) wrote b h =
    ap (λ (pipe : Pipe). pipe.shut) (away_same w.pipes (Some (mouth a (port.Program slot))) (λ pipe. fresh) b port.Input refl) ∙ h
input_shut w a due got wrote b h = h

-- and an output, unless a remote program starts there
abbrev IsOld : Tenant → Type 0
IsOld (Remote false) = ⊥
IsOld t = Unit {0}

abbrev Stays : Pipework → List ℕ → ℕ → Tenant → (List ℕ → ℕ → Option Tenant) → (List ℕ → Port → Pipe) → Type 0
Stays w b d t programs pipes = (w.programs b d ≡ Some t) × ((w.pipes b (port.Program d)).shut ≡ true → (pipes b (port.Program d)).shut ≡ true)

freed_stays : (u : Bool) (o : Option Tenant) (t : Tenant) → (if u then None else o) ≡ Some t → o ≡ Some t
freed_stays true o t is = absurd (cc)
freed_stays false o t is = is

begun_stays : (u : Bool) (o : Option Tenant) (t : Tenant) (x : Pipe) → IsOld t → (if u then Some (Remote false) else o) ≡ Some t → (o ≡ Some t) × (x.shut ≡ true → (if u then fresh else x).shut ≡ true)
begun_stays true o t x old is = absurd (subst IsOld (one t is) old)
  where
    one : (t : Tenant) → ◌≡◌ {A = Option Tenant} (Some (Remote false)) (Some t) → t ≡ Remote false
    one t e = cc
begun_stays false o t x old is = (is, λ h. h)

output_stays : (w : Pipework) (a : List ℕ) (due : NeedData) (got : GotData) (wrote : ℕ) (b : List ℕ) (d : ℕ) (t : Tenant) → IsOld t → programs_after w.programs a due got b d ≡ Some t
    → Stays w b d t (programs_after w.programs a due got) (pipes_after w a due got wrote)
output_stays w a (needs.Take (port.Status k)) (came.Ended status) wrote b d t old is = (freed_stays (bytes_eq b a && (d == k)) (w.programs b d) t is, λ h. h)
output_stays w a (needs.Take (port.Status k)) came.Crashed wrote b d t old is = (freed_stays (bytes_eq b a && (d == k)) (w.programs b d) t is, λ h. h)
output_stays w a (needs.Take p) (came.Took bytes) wrote b d t old is = (is, λ h. put_shut w.pipes (Some (mouth a p)) (taken bytes) (λ pipe k. k) b (port.Program d) h)
output_stays w a (needs.Give to bytes) came.Gave wrote b d t old is = (is, λ h. gives_shut w a to bytes b (port.Program d) h)
output_stays w a (needs.Give to bytes) came.Failed wrote b d t old is = (is, λ h. gives_shut w a to (take wrote bytes) b (port.Program d) h)
output_stays w a (needs.Start (child.Remote slot domain sender recipient)) (came.Started pid) wrote b d t old is =
    begun_stays (bytes_eq b a && (d == slot)) (w.programs b d) t (w.pipes b (port.Program d)) old is
output_stays w a due got wrote b d t old is = (is, λ h. h)

-- A giving to a child shuts its input

pub and_true : (t u : Bool) → t ≡ true → u ≡ true → (t && u) ≡ true
and_true true true one two = refl
and_true true false one two = absurd (cc)
and_true false u one two = absurd (cc)

pub fed_now : (w : Pipework) (a : List ℕ) (d : ℕ) (text : List ℕ) (b : List ℕ) (o : Option Tenant) → o ≡ Some (Runs b) → (put_pipe w.pipes (input_of o) (λ pipe. closed (given text pipe)) b port.Input).shut ≡ true
fed_now w a d text b None is = absurd (cc)
fed_now w a d text b (Some (Remote told)) is = absurd (cc)
fed_now w a d text b (Some (Runs c)) is =
    let same : c ≡ b = cc in
    subst (λ (n : List ℕ). (put_pipe w.pipes (input_of (Some (Runs n))) (λ pipe. closed (given text pipe)) b port.Input).shut ≡ true) (sym same)
    (ap (λ (t : Bool). (if t && true then closed (given text (w.pipes b port.Input)) else w.pipes b port.Input).shut) (same_text b))

-- Who starts a child is next to give it its input

module _ (p : LocalPlace) (ready next : Ready) (asked : ChildData) (pid : ℕ) where
  abbrev Feeds : NeedData → Type 0
  Feeds due = (text : List ℕ) × (due ≡ needs.Give (port.Program (slot_of asked)) text)

  same_start : (x : ChildData) → needs.Start x ≡ needs.Start asked → x ≡ asked
  same_start x e = cc

  work_feeds : (row : Row) → local_due_from row p ≡ needs.Start asked → let q = served row (came.Started pid) p in Feeds (local_due_from (row_now q.work next) q)
  work_feeds at.Start e = (p.work.message, ap (λ (k : ℕ). needs.Give (port.Program k) p.work.message) (ap slot_of (same_start (local_program p) e)))
  work_feeds row e = absurd (cc)

  local_by : (r : LocalRow) → p.row ≡ r → local_due_at r ready p ≡ needs.Start asked → let q = local_act r ready (came.Started pid) p in Feeds (local_due q next)
  local_by local_at.Serves is due =
      let q : LocalPlace = served (row_now p.work ready) (came.Started pid) p in
      let w = work_feeds (row_now p.work ready) due in
      (w.0, ap (λ (r : LocalRow). local_due_at r next q) is ∙ w.1)
  local_by row is due = absurd (cc)

  local_feeds : local_due p ready ≡ needs.Start asked → let q = local_act p.row ready (came.Started pid) p in Feeds (local_due q next)
  local_feeds due = local_by p.row refl due

-- by any table but the sender's
pub feeds_after : (program : Program) (past : List Own) (own : Own) (other : Program) (asked : ChildData) (pid : ℕ) (life : Life) → Bears program other → (IsSender program → ⊥) → IsRunBy (next_of program) (own ∷ past)
    → own.due ≡ needs.Start asked → own.came ≡ came.Started pid → FeedsNow (record { program = program; past = own ∷ past; life = life }) (slot_of asked)
feeds_after (LocalSpawner since) past own (Delivery start args) asked pid life bears apart run due got now ready =
    let p = local_after past in
    subst (λ (g : GotData). let q = local_act p.row own.ready g p in (text : List ℕ) × (local_due q ready ≡ needs.Give (port.Program (slot_of asked)) text)) (sym got)
    (local_feeds p own.ready ready asked pid (run.1.0 ∙ due))
feeds_after (Delivery start args) past own (Injector other) asked pid life bears apart run due got now ready =
    let it = feeds_forward args (own ∷ past) run (asked, (pid, (due, got))) in
    let is = (single args past own.read own.ready asked run.0 (run.1.0 ∙ due)).0 in
    let first : slot_of asked ≡ 0 = ap slot_of is.1 in
    let w = it.1 now ready in
    (it.0, w ∙ ap (λ (k : ℕ). needs.Give (port.Program k) it.0) (sym first))
feeds_after (Sender since) past own other asked pid life bears apart run due got now ready = absurd (apart tt)
feeds_after program past own other asked pid life bears apart run due got now ready = absurd bears

at_more : (F G : Type 0) → (F → G) → (r : DeliveryRow) (o : Option Drop) → AtRow (λ d. Unit {0}) F F r o → AtRow (λ d. Unit {0}) G G r o
at_more F G more delivers.Drop None h = tt
at_more F G more delivers.Drop (Some d) h = tt
at_more F G more delivers.Feed o h = more h
at_more F G more delivers.TakeStatus o h = more h
at_more F G more delivers.TakeInput o h = tt
at_more F G more (delivers.Open what) o h = tt
at_more F G more (delivers.Read what fd) o h = tt
at_more F G more (delivers.Close what fd went) o h = tt
at_more F G more delivers.NextName o h = tt
at_more F G more delivers.Run o h = tt
at_more F G more delivers.Start o h = tt
at_more F G more (delivers.Report status) o h = tt
at_more F G more (delivers.Fail reason) o h = tt
at_more F G more (delivers.Ended status) o h = tt

abbrev Awaits : Pipework → List ℕ → LocalArgs → List Own → Type 0
Awaits w a args past = AtPlace (λ d. Unit {0}) (HasChild w a) (HasChild w a) (delivery_after args past)

awaits_more : (v w : Pipework) (a b : List ℕ) → (HasChild v a → HasChild w b) → (args : LocalArgs) (past : List Own) → Awaits v a args past → Awaits w b args past
awaits_more v w a b more args past h = let p = delivery_after args past in at_more (HasChild v a) (HasChild w b) more p.row p.dropping h

at_feed : (F : Type 0) (r : DeliveryRow) (o : Option Drop) → r ≡ delivers.Feed → AtRow (λ d. Unit {0}) F F r o → F
at_feed F r o e h = subst (λ (q : DeliveryRow). AtRow (λ d. Unit {0}) F F q o) e h

-- a giving leaves the slots
given_left : (w : Pipework) (a : List ℕ) (due : NeedData) (got : GotData) (b : List ℕ) → got ≡ came.Gave → w.programs a 0 ≡ Some (Runs b) → programs_after w.programs a due got a 0 ≡ Some (Runs b)
given_left w a due got b gave is = subst (λ (g : GotData). programs_after w.programs a due g a 0 ≡ Some (Runs b)) (sym gave) (by due)
  where
    by : (n : NeedData) → programs_after w.programs a n came.Gave a 0 ≡ Some (Runs b)
    by (needs.Take (port.Status d)) = is
    by (needs.Start (child.Remote slot domain sender recipient)) = is
    by n = is

-- An event of an actor

module _ (s : State) (T : Tended s.actors s.pipework) (a : List ℕ) (own : Own) (wrote : ℕ) (x : Actor) (is : s.actors a ≡ Some x) (alive : x.life ≡ Alive)
    (due : next_of x.program x.past own.read own.ready ≡ own.due) (may : MayCome own.due own.came) (well : came_well own.came ≡ true) where
  abbrev y : Actor
  y = record { program = x.program; past = own ∷ x.past; life = x.life }

  abbrev actors_then : List ℕ → Option Actor
  actors_then = put_at s.actors a (Some y)

  abbrev w_then : Pipework
  w_then = (acted s a own wrote (Some x)).pipework

  -- a giving to a child is whole
  gave_well : (text : List ℕ) (d : ℕ) → own.due ≡ needs.Give (port.Program d) text → own.came ≡ came.Gave
  gave_well text d e = by own.came (subst (λ (n : NeedData). MayCome n own.came) e may) well
    where
      by : (got : GotData) → MayCome (needs.Give (port.Program d) text) got → came_well got ≡ true → got ≡ came.Gave
      by came.Gave may well = refl
      by came.Failed may well = absurd (cc)
      by got may well = absurd may

  own_fed : (b : List ℕ) (d : ℕ) → (IsSender x.program → ⊥) → w_then.programs a d ≡ Some (Runs b) → (w_then.pipes b port.Input).shut ≡ true
  own_fed b d apart runs =
      let was = (output_stays s.pipework a own.due own.came wrote a d (Runs b) tt runs).0 in
      ⊎_elim
      (λ (h : (s.pipework.pipes b port.Input).shut ≡ true). input_shut s.pipework a own.due own.came wrote b h)
      (λ (feeds : FeedsNow x d).
      let f = feeds own.read own.ready in
      let gives_it : own.due ≡ needs.Give (port.Program d) f.0 = sym due ∙ f.1 in
      let got = gave_well f.0 d gives_it in
      subst (λ (n : NeedData). (pipes_after s.pipework a n own.came wrote b port.Input).shut ≡ true) (sym gives_it)
      (subst (λ (g : GotData). (pipes_after s.pipework a (needs.Give (port.Program d) f.0) g wrote b port.Input).shut ≡ true) (sym got)
      (fed_now s.pipework a d f.0 b (s.pipework.programs a d) was)))
      (T.fed a b d x is apart was)

  fed_then : (e b : List ℕ) (d : ℕ) (z : Actor) → actors_then e ≡ Some z → (IsSender z.program → ⊥) → w_then.programs e d ≡ Some (Runs b) → ((w_then.pipes b port.Input).shut ≡ true) ⊎ FeedsNow z d
  fed_then e b d z there apart runs = ⊎_elim
      (λ (c : (e ≡ a) × (actors_then e ≡ Some y)).
      let same : y ≡ z = some_actor y z (sym c.1 ∙ there) in
      inl (own_fed b d (subst (λ (o : Actor). IsSender o.program → ⊥) (sym same) apart) (subst (λ (n : List ℕ). w_then.programs n d ≡ Some (Runs b)) c.0 runs)))
      (λ (c : (e ≢ a) × (actors_then e ≡ s.actors e)). ⊎_elim
      (λ (h : (s.pipework.pipes b port.Input).shut ≡ true). inl (input_shut s.pipework a own.due own.came wrote b h))
      (λ (feeds : FeedsNow z d). inr feeds)
      (T.fed e b d z (sym c.1 ∙ there) apart (output_stays s.pipework a own.due own.came wrote e d (Runs b) tt runs).0))
      (put_at_cases s.actors a (Some y) e)

  over_then : (e b : List ℕ) (d : ℕ) (z : Actor) → w_then.programs e d ≡ Some (Runs b) → actors_then b ≡ Some z → is_alive z.life ≡ false → (w_then.pipes e (port.Program d)).shut ≡ true
  over_then e b d z runs there dead =
      let w = output_stays s.pipework a own.due own.came wrote e d (Runs b) tt runs in
      ⊎_elim
      (λ (c : (b ≡ a) × (actors_then b ≡ Some y)).
      let same : y ≡ z = some_actor y z (sym c.1 ∙ there) in
      let lives : is_alive z.life ≡ true = ap (λ (o : Actor). is_alive o.life) (sym same) ∙ ap is_alive alive in
      absurd (false≢true (sym dead ∙ lives)))
      (λ (c : (b ≢ a) × (actors_then b ≡ s.actors b)). w.1 (T.over e b d z w.0 (sym c.1 ∙ there) dead))
      (put_at_cases s.actors a (Some y) b)

  told_then : (e : List ℕ) (d : ℕ) → w_then.programs e d ≡ Some (Remote true) → (w_then.pipes e (port.Program d)).shut ≡ true
  told_then e d runs = let w = output_stays s.pipework a own.due own.came wrote e d (Remote true) tt runs in w.1 (T.told e d w.0)

  -- another one has its child still
  child_then : (e : List ℕ) → e ≢ a → HasChild s.pipework e → HasChild w_then e
  child_then e apart h = (h.0, programs_left s.pipework a e own.due own.came 0 (λ same. apart (sym same)) ∙ h.1)

  -- so has the actor itself while it feeds or awaits it
  delivery_due : (start : ℕ) (args : LocalArgs) → x.program ≡ Delivery start args → next_of (Delivery start args) x.past own.read own.ready ≡ own.due
  delivery_due start args is_delivery = subst (λ (o : Program). next_of o x.past own.read own.ready ≡ own.due) is_delivery due

  own_awaits : (F : Type 0) (start : ℕ) (args : LocalArgs) → x.program ≡ Delivery start args → ((delivery_after args x.past).row ≡ delivers.Start → (pid : ℕ) → own.came ≡ came.Started pid → F)
      → ((b : List ℕ) → s.pipework.programs a 0 ≡ Some (Runs b) → own.came ≡ came.Gave → F) → AtPlace (λ d. Unit {0}) F F (delivery_after args (own ∷ x.past))
  own_awaits F start args is_delivery starts gives =
      let p = delivery_after args x.past in
      let was = T.awaits a x start args is is_delivery in
      stepped args own.read (λ d. Unit {0}) F F p.row own.came p refl (λ m path host. tt) (λ d e drops none. tt) starts
      (λ e got. let h = at_feed (HasChild s.pipework a) p.row p.dropping e was in gives h.0 h.1 got)
      (subst (λ (n : NeedData). MayCome n own.came) (sym (delivery_due start args is_delivery)) may)

  awaits_then : (w : Pipework) → ((e : List ℕ) → e ≢ a → HasChild s.pipework e → HasChild w e)
      → ((start : ℕ) (args : LocalArgs) → x.program ≡ Delivery start args → (delivery_after args x.past).row ≡ delivers.Start → (pid : ℕ) → own.came ≡ came.Started pid → HasChild w a)
      → ((b : List ℕ) → s.pipework.programs a 0 ≡ Some (Runs b) → own.came ≡ came.Gave → HasChild w a)
      → (e : List ℕ) (z : Actor) (start : ℕ) (args : LocalArgs) → actors_then e ≡ Some z → z.program ≡ Delivery start args → Awaits w e args z.past
  awaits_then w others starts gives e z start args there is_delivery = ⊎_elim
      (λ (c : (e ≡ a) × (actors_then e ≡ Some y)).
      let same : y ≡ z = some_actor y z (sym c.1 ∙ there) in
      let one : x.program ≡ Delivery start args = ap (λ (o : Actor). o.program) same ∙ is_delivery in
      subst (λ (n : List ℕ). Awaits w n args z.past) (sym c.0)
      (subst (λ (o : Actor). Awaits w a args o.past) same (own_awaits (HasChild w a) start args one (starts start args one) gives)))
      (λ (c : (e ≢ a) × (actors_then e ≡ s.actors e)).
      awaits_more s.pipework w e e (others e c.0) args z.past (T.awaits e z start args (sym c.1 ∙ there) is_delivery))
      (put_at_cases s.actors a (Some y) e)

-- no start of an injector is an event of its own
none_started : (s : State) (a : List ℕ) (due : NeedData) (got : GotData) (wrote uid room pid : ℕ) → ComesOf s a due got wrote → due ≡ needs.Start (child.Forward uid room) → got ≡ came.Started pid → ⊥
none_started s a due got wrote uid room pid comes is started =
    subst (λ (g : GotData). ComesOf s a (needs.Start (child.Forward uid room)) g wrote) started (subst (λ (n : NeedData). ComesOf s a n got wrote) is comes)

module _ (s : State) (T : Tended s.actors s.pipework) (a : List ℕ) (own : Own) (wrote : ℕ) (may : MayDo s a own wrote) (well : came_well own.came ≡ true) where
  abbrev then_is : State
  then_is = acted s a own wrote (Some may.actor)

  act_comes : MayCome own.due own.came
  act_comes = may_come s a own.due own.came wrote may.came

  start_none : (start : ℕ) (args : LocalArgs) → may.actor.program ≡ Delivery start args → (delivery_after args may.actor.past).row ≡ delivers.Start → (pid : ℕ) → own.came ≡ came.Started pid → ⊥
  start_none start args is row pid started =
      let p = delivery_after args may.actor.past in
      none_started s a own.due own.came wrote args.uid p.room pid may.came
      (sym (delivery_due s T a own wrote may.actor may.reads.is may.reads.alive may.due act_comes well start args is) ∙ ap (λ (q : DeliveryRow). delivery_due_at args q p) row) started

  acts_tended : Tended then_is.actors then_is.pipework
  acts_tended = record {
    fed = fed_then s T a own wrote may.actor may.reads.is may.reads.alive may.due act_comes well;
    over = over_then s T a own wrote may.actor may.reads.is may.reads.alive may.due act_comes well;
    told = told_then s T a own wrote may.actor may.reads.is may.reads.alive may.due act_comes well;
    awaits = awaits_then s T a own wrote may.actor may.reads.is may.reads.alive may.due act_comes well then_is.pipework
        (child_then s T a own wrote may.actor may.reads.is may.reads.alive may.due act_comes well)
        (λ start args is row pid started. absurd (start_none start args is row pid started))
        (λ b is gave. (b, given_left s.pipework a own.due own.came b gave is));
  }

-- The start of a child

unless_first : (t u : Bool) (x y : Option Tenant) → t ≡ false → (if t && u then x else y) ≡ y
unless_first true u x y e = absurd (cc)
unless_first false u x y e = refl

pub put_left : (programs : List ℕ → ℕ → Option Tenant) (a : List ℕ) (d : ℕ) (t : Option Tenant) (e : List ℕ) (k : ℕ) → e ≢ a → put_program programs a d t e k ≡ programs e k
put_left programs a d t e k apart = unless_first (bytes_eq e a) (k == d) t (programs e k) (other_text e a apart)

module _ (s : State) (I : Inv s) (T : Tended s.actors s.pipework) (parent : List ℕ) (own : Own) (a : List ℕ) (program : Program) (may : MayBear s parent own a program)
    (run : IsRunBy (next_of may.actor.program) (own ∷ may.actor.past)) (J : Inv (bears (acted s parent own 0 (Some may.actor)) parent own a program)) where
  abbrev bearer_then : Actor
  bearer_then = record { program = may.actor.program; past = own ∷ may.actor.past; life = may.actor.life }

  abbrev mid : State
  mid = acted s parent own 0 (Some may.actor)

  abbrev born : State
  born = bears (acted s parent own 0 (Some may.actor)) parent own a program

  abbrev slot : ℕ
  slot = slot_by own.due

  child_comes : MayCome own.due own.came
  child_comes = born_comes s parent own a program may

  child_well : came_well own.came ≡ true
  child_well = ap came_well may.came

  -- the child is new: it is no parent, and runs nowhere
  no_actor : (z : Actor) → s.actors a ≡ Some z → ⊥
  no_actor z there = let both : ◌≡◌ {A = Option Actor} None (Some z) = sym may.new ∙ there in absurd (cc)

  parted : parent ≢ a
  parted same = no_actor may.actor (ap s.actors (sym same) ∙ may.reads.is)

  no_parent : (b : List ℕ) (d : ℕ) → s.pipework.programs a d ≡ Some (Runs b) → ⊥
  no_parent b d runs = let t = I.tenants a d (Runs b) runs in no_actor t.bearer t.bearer_is

  ran : (e b : List ℕ) (d : ℕ) → mid.pipework.programs e d ≡ Some (Runs b) → s.pipework.programs e d ≡ Some (Runs b)
  ran e b d runs = (output_stays s.pipework parent own.due own.came 0 e d (Runs b) tt runs).0

  bearer_there : born.actors parent ≡ Some bearer_then
  bearer_there = put_at_other mid.actors a (Some (newborn program)) parent parted ∙ put_at_same s.actors parent (Some bearer_then)

  child_there : born.actors a ≡ Some (newborn program)
  child_there = put_at_same mid.actors a (Some (newborn program))

  child_runs : born.pipework.programs parent slot ≡ Some (Runs a)
  child_runs = ap (λ (t : Bool). if t then Some (Runs a) else mid.pipework.programs parent slot) (and_true (bytes_eq parent parent) (slot == slot) (same_text parent) (eq-eqb slot slot refl))

  -- in each slot the child runs, or what ran there before, and its output is as it was
  abbrev Place_then : (e : List ℕ) (d : ℕ) → Tenant → Type 0
  Place_then e d t =
      ((e ≡ parent) × (d ≡ slot) × (t ≡ Runs a))
      ⊎ ((mid.pipework.programs e d ≡ Some t) × ((mid.pipework.pipes e (port.Program d)).shut ≡ true → (born.pipework.pipes e (port.Program d)).shut ≡ true))

  placed : (e : List ℕ) (d : ℕ) (t : Tenant) → born.pipework.programs e d ≡ Some t → Place_then e d t
  placed e d t is = by (bytes_eq e parent && (d == slot)) refl is
    where
      by : (u : Bool) → (bytes_eq e parent && (d == slot)) ≡ u → (if u then Some (Runs a) else mid.pipework.programs e d) ≡ Some t → Place_then e d t
      by true at_it is = inl (slot_named e parent (d == slot) at_it, slot_numbered e parent d slot at_it, cc)
      by false off is = inr (is, λ h. ap (λ (u : Bool). (if u then fresh else mid.pipework.pipes e (port.Program d)).shut) off ∙ h)

  input_born : (b : List ℕ) → (mid.pipework.pipes b port.Input).shut ≡ true → (born.pipework.pipes b port.Input).shut ≡ true
  input_born b h = ap (λ (pipe : Pipe). pipe.shut) (away_same mid.pipework.pipes (Some (mouth parent (port.Program slot))) (λ pipe. fresh) b port.Input refl) ∙ h

  child_fed : (z : Actor) → born.actors parent ≡ Some z → (IsSender z.program → ⊥) → FeedsNow z slot
  child_fed z there apart =
      let t = J.tenants parent slot (Runs a) child_runs in
      let one : t.bearer.program ≡ may.actor.program = ap (λ (o : Actor). o.program) (some_actor t.bearer bearer_then (sym t.bearer_is ∙ bearer_there)) in
      let two : t.actor.program ≡ program = ap (λ (o : Actor). o.program) (some_actor t.actor (newborn program) (sym t.is ∙ child_there)) in
      let bears_it : Bears may.actor.program program = subst (λ (p : Program). Bears p program) one (subst (Bears t.bearer.program) two t.bears) in
      let same : bearer_then ≡ z = some_actor bearer_then z (sym bearer_there ∙ there) in
      let none : IsSender may.actor.program → ⊥ = subst (λ (o : Actor). IsSender o.program → ⊥) (sym same) apart in
      subst (λ (o : Actor). FeedsNow o slot) same
      (subst (FeedsNow bearer_then) (sym (ap slot_by may.starts))
      (feeds_after may.actor.program may.actor.past own program may.asked may.pid may.actor.life bears_it none run may.starts may.came))

  fed_born : (e b : List ℕ) (d : ℕ) (z : Actor) → born.actors e ≡ Some z → (IsSender z.program → ⊥) → born.pipework.programs e d ≡ Some (Runs b) → ((born.pipework.pipes b port.Input).shut ≡ true) ⊎ FeedsNow z d
  fed_born e b d z there apart runs = ⊎_elim
      (λ (c : (e ≡ parent) × (d ≡ slot) × (Runs b ≡ Runs a)).
      inr (subst (FeedsNow z) (sym c.1) (child_fed z (ap born.actors (sym c.0) ∙ there) apart)))
      (λ (c : (mid.pipework.programs e d ≡ Some (Runs b)) × ((mid.pipework.pipes e (port.Program d)).shut ≡ true → (born.pipework.pipes e (port.Program d)).shut ≡ true)). ⊎_elim
      (λ (n : (e ≡ a) × (born.actors e ≡ Some (newborn program))). absurd (no_parent b d (ran a b d (subst (λ (m : List ℕ). mid.pipework.programs m d ≡ Some (Runs b)) n.0 c.0))))
      (λ (n : (e ≢ a) × (born.actors e ≡ mid.actors e)). ⊎_elim
      (λ (h : (mid.pipework.pipes b port.Input).shut ≡ true). inl (input_born b h))
      (λ (f : FeedsNow z d). inr f)
      (fed_then s T parent own 0 may.actor may.reads.is may.reads.alive may.due child_comes child_well e b d z (sym n.1 ∙ there) apart c.0))
      (put_at_cases mid.actors a (Some (newborn program)) e))
      (placed e d (Runs b) runs)

  over_born : (e b : List ℕ) (d : ℕ) (z : Actor) → born.pipework.programs e d ≡ Some (Runs b) → born.actors b ≡ Some z → is_alive z.life ≡ false → (born.pipework.pipes e (port.Program d)).shut ≡ true
  over_born e b d z runs there dead = ⊎_elim
      (λ (n : (b ≡ a) × (born.actors b ≡ Some (newborn program))).
      absurd (false≢true (sym dead ∙ sym (ap (λ (o : Actor). is_alive o.life) (some_actor (newborn program) z (sym n.1 ∙ there))))))
      (λ (n : (b ≢ a) × (born.actors b ≡ mid.actors b)). ⊎_elim
      (λ (c : (e ≡ parent) × (d ≡ slot) × (Runs b ≡ Runs a)). absurd (n.0 (same_name b a c.2)))
      (λ (c : (mid.pipework.programs e d ≡ Some (Runs b)) × ((mid.pipework.pipes e (port.Program d)).shut ≡ true → (born.pipework.pipes e (port.Program d)).shut ≡ true)).
      c.1 (over_then s T parent own 0 may.actor may.reads.is may.reads.alive may.due child_comes child_well e b d z c.0 (sym n.1 ∙ there) dead))
      (placed e d (Runs b) runs))
      (put_at_cases mid.actors a (Some (newborn program)) b)
    where
      same_name : (m n : List ℕ) → Runs m ≡ Runs n → m ≡ n
      same_name m n e = cc

  told_born : (e : List ℕ) (d : ℕ) → born.pipework.programs e d ≡ Some (Remote true) → (born.pipework.pipes e (port.Program d)).shut ≡ true
  told_born e d runs = ⊎_elim
      (λ (c : (e ≡ parent) × (d ≡ slot) × (Remote true ≡ Runs a)). let both = c.2 in absurd (cc))
      (λ (c : (mid.pipework.programs e d ≡ Some (Remote true)) × ((mid.pipework.pipes e (port.Program d)).shut ≡ true → (born.pipework.pipes e (port.Program d)).shut ≡ true)).
      c.1 (told_then s T parent own 0 may.actor may.reads.is may.reads.alive may.due child_comes child_well e d c.0))
      (placed e d (Remote true) runs)

  other_born : (e : List ℕ) → e ≢ parent → HasChild s.pipework e → HasChild born.pipework e
  other_born e apart h =
      let m = child_then s T parent own 0 may.actor may.reads.is may.reads.alive may.due child_comes child_well e apart h in
      (m.0, put_left mid.pipework.programs parent slot (Some (Runs a)) e 0 apart ∙ m.1)

  parent_born : (start : ℕ) (args : LocalArgs) → may.actor.program ≡ Delivery start args → HasChild born.pipework parent
  parent_born start args is =
      let run_so : IsRunBy (next_of (Delivery start args)) (own ∷ may.actor.past) = subst (λ (p : Program). IsRunBy (next_of p) (own ∷ may.actor.past)) is run in
      let asked = (single args may.actor.past own.read own.ready may.asked run_so.0 (run_so.1.0 ∙ may.starts)).0 in
      let first : slot ≡ 0 = ap slot_by may.starts ∙ ap slot_of asked.1 in
      (a, subst (λ (k : ℕ). born.pipework.programs parent k ≡ Some (Runs a)) first child_runs)

  awaits_born : (e : List ℕ) (z : Actor) (start : ℕ) (args : LocalArgs) → born.actors e ≡ Some z → z.program ≡ Delivery start args → Awaits born.pipework e args z.past
  awaits_born e z start args there is = ⊎_elim
      (λ (n : (e ≡ a) × (born.actors e ≡ Some (newborn program))). subst (λ (o : Actor). Awaits born.pipework e args o.past) (some_actor (newborn program) z (sym n.1 ∙ there)) tt)
      (λ (n : (e ≢ a) × (born.actors e ≡ mid.actors e)).
      awaits_then s T parent own 0 may.actor may.reads.is may.reads.alive may.due child_comes child_well born.pipework other_born
      (λ start args is row pid started. parent_born start args is)
      (λ b runs gave. let both : came.Started may.pid ≡ came.Gave = sym may.came ∙ gave in absurd (cc)) e z start args (sym n.1 ∙ there) is)
      (put_at_cases mid.actors a (Some (newborn program)) e)

  child_tended : Tended born.actors born.pipework
  child_tended = record { fed = fed_born; over = over_born; told = told_born; awaits = awaits_born }

-- A generation starts

if_none : (t : Bool) (o : Option Tenant) (u : Tenant) → (if t then None else o) ≡ Some u → (t ≡ false) × (o ≡ Some u)
if_none true o u is = absurd (cc)
if_none false o u is = (refl, is)

pub same_if : {V : Type 0} (t : Bool) (x y : V) → t ≡ false → (if t then x else y) ≡ y
same_if true x y e = absurd (cc)
same_if false x y e = refl

pub no_member : (t : Bool) (n : List ℕ) → is_member n ≡ t → (Contains members n → ⊥) → is_member n ≡ false
no_member true n is apart = absurd (apart (member_contained n is))
no_member false n is apart = is

module _ (s : State) (I : Inv s) (T : Tended s.actors s.pipework) (sender clean lspawn rspawn : Program) (J : Inv (happens s (Generation (sender ∷ clean ∷ lspawn ∷ rspawn ∷ [])))) where
  abbrev begun : State
  begun = happens s (Generation (sender ∷ clean ∷ lspawn ∷ rspawn ∷ []))

  was : (e : List ℕ) (d : ℕ) (t : Tenant) → begun.pipework.programs e d ≡ Some t → (is_member e ≡ false) × (s.pipework.programs e d ≡ Some t)
  was e d t is = if_none (is_member e) (s.pipework.programs e d) t is

  pipe_left : (e : List ℕ) (p : Port) → is_member e ≡ false → begun.pipework.pipes e p ≡ s.pipework.pipes e p
  pipe_left e p off = same_if (is_member e) fresh (s.pipework.pipes e p) off

  actor_left : (e : List ℕ) → is_member e ≡ false → begun.actors e ≡ s.actors e
  actor_left e off = four_other s.actors sender clean lspawn rspawn e off

  child_off : (e b : List ℕ) (d : ℕ) → s.pipework.programs e d ≡ Some (Runs b) → is_member b ≡ false
  child_off e b d runs = no_member (is_member b) b refl (I.tenants e d (Runs b) runs).apart

  generation_tended : Tended begun.actors begun.pipework
  generation_tended = record {
    fed = λ e b d z there apart runs.
        let w = was e d (Runs b) runs in
        ⊎_elim
        (λ (h : (s.pipework.pipes b port.Input).shut ≡ true). inl (ap (λ (pipe : Pipe). pipe.shut) (pipe_left b port.Input (child_off e b d w.1)) ∙ h))
        (λ (f : FeedsNow z d). inr f)
        (T.fed e b d z (sym (actor_left e w.0) ∙ there) apart w.1);
    over = λ e b d z runs there dead.
        let w = was e d (Runs b) runs in
        ap (λ (pipe : Pipe). pipe.shut) (pipe_left e (port.Program d) w.0) ∙ T.over e b d z w.1 (sym (actor_left b (child_off e b d w.1)) ∙ there) dead;
    told = λ e d runs. let w = was e d (Remote true) runs in ap (λ (pipe : Pipe). pipe.shut) (pipe_left e (port.Program d) w.0) ∙ T.told e d w.1;
    awaits = λ e z start args there is.
        let off = no_member (is_member e) e refl (named e z start args is (J.crew e z there)) in
        awaits_more s.pipework begun.pipework e e (λ h. (h.0, same_if (is_member e) None (s.pipework.programs e 0) off ∙ h.1)) args z.past (T.awaits e z start args (sym (actor_left e off) ∙ there) is);
  }
    where
      named : (e : List ℕ) (z : Actor) (start : ℕ) (args : LocalArgs) → z.program ≡ Delivery start args → IsNamed e z.program → Contains members e → ⊥
      named e z start args is h = subst (IsNamed e) is h

-- A report comes

if_told : (t : Bool) (o : Option Tenant) (b : List ℕ) → (if t then Some (Remote true) else o) ≡ Some (Runs b) → (t ≡ false) × (o ≡ Some (Runs b))
if_told true o b is = absurd (cc)
if_told false o b is = (refl, is)

module _ (s : State) (I : Inv s) (T : Tended s.actors s.pipework) (slot : ℕ) (output : List ℕ) where
  abbrev reported : State
  reported = happens s (Report slot output)

  report_tended : Tended reported.actors reported.pipework
  report_tended = record {
    fed = λ e b d z there apart runs.
        let w = if_told (bytes_eq e (codes "rspawn") && (d == slot)) (s.pipework.programs e d) b runs in
        ⊎_elim
        (λ (h : (s.pipework.pipes b port.Input).shut ≡ true). inl (put_shut s.pipework.pipes (Some (mouth (codes "rspawn") (port.Program slot))) (λ pipe. closed (given output pipe)) (λ pipe k. refl) b port.Input h))
        (λ (f : FeedsNow z d). inr f)
        (T.fed e b d z there apart w.1);
    over = λ e b d z runs there dead.
        let w = if_told (bytes_eq e (codes "rspawn") && (d == slot)) (s.pipework.programs e d) b runs in
        put_shut s.pipework.pipes (Some (mouth (codes "rspawn") (port.Program slot))) (λ pipe. closed (given output pipe)) (λ pipe k. refl) e (port.Program d) (T.over e b d z w.1 there dead);
    told = λ e d runs. told_so e d (bytes_eq e (codes "rspawn") && (d == slot)) refl runs;
    awaits = λ e z start args there is.
        awaits_more s.pipework reported.pipework e e
        (λ h. (h.0, put_left s.pipework.programs (codes "rspawn") slot (Some (Remote true)) e 0 (λ same. named e z start args is (I.crew e z there) same) ∙ h.1)) args z.past (T.awaits e z start args there is);
  }
    where
      told_so : (e : List ℕ) (d : ℕ) (t : Bool) → (bytes_eq e (codes "rspawn") && (d == slot)) ≡ t → (if t then Some (Remote true) else s.pipework.programs e d) ≡ Some (Remote true)
          → (reported.pipework.pipes e (port.Program d)).shut ≡ true
      told_so e d true at_it is = ap (λ (t : Bool). (if t then closed (given output (s.pipework.pipes e (port.Program d))) else s.pipework.pipes e (port.Program d)).shut) at_it
      told_so e d false off is = ap (λ (t : Bool). (if t then closed (given output (s.pipework.pipes e (port.Program d))) else s.pipework.pipes e (port.Program d)).shut) off ∙ T.told e d is

      named : (e : List ℕ) (z : Actor) (start : ℕ) (args : LocalArgs) → z.program ≡ Delivery start args → IsNamed e z.program → e ≡ codes "rspawn" → ⊥
      named e z start args is h same = subst (IsNamed e) is h (member_contained e (ap is_member same))

-- An end

module _ (s : State) (T : Tended s.actors s.pipework) (a : List ℕ) (x : Actor) (is : s.actors a ≡ Some x) (life : Life) where
  abbrev ended : State
  ended = finished s a life (Some x)

  abbrev x_then : Actor
  x_then = record { program = x.program; past = x.past; life = life }

  mono : (b : List ℕ) (p : Port) → (s.pipework.pipes b p).shut ≡ true → (ended.pipework.pipes b p).shut ≡ true
  mono b p h = shut_if (is_writer a (writer s.pipework b p)) (closed (s.pipework.pipes b p)) (s.pipework.pipes b p) refl h

  closes : (e : List ℕ) (d : ℕ) (o : Option Tenant) → o ≡ Some (Runs a) → (if is_writer a (actor_of o) then closed (s.pipework.pipes e (port.Program d)) else s.pipework.pipes e (port.Program d)).shut ≡ true
  closes e d None none = absurd (cc)
  closes e d (Some (Remote told)) none = absurd (cc)
  closes e d (Some (Runs b)) runs =
      let same : b ≡ a = cc in
      ap (λ (t : Bool). (if t then closed (s.pipework.pipes e (port.Program d)) else s.pipework.pipes e (port.Program d)).shut) (ap (bytes_eq a) same ∙ same_text a)

  end_tended : Tended ended.actors ended.pipework
  end_tended = record {
    fed = λ e b d z there apart runs. ⊎_elim
        (λ (c : (e ≡ a) × (ended.actors e ≡ Some x_then)).
        let same : x_then ≡ z = some_actor x_then z (sym c.1 ∙ there) in
        more b d z (subst (λ (o : Actor). ((s.pipework.pipes b port.Input).shut ≡ true) ⊎ FeedsNow o d) same
        (T.fed e b d x (ap s.actors c.0 ∙ is) (subst (λ (o : Actor). IsSender o.program → ⊥) (sym same) apart) runs)))
        (λ (c : (e ≢ a) × (ended.actors e ≡ s.actors e)). more b d z (T.fed e b d z (sym c.1 ∙ there) apart runs))
        (put_at_cases s.actors a (Some x_then) e);
    over = λ e b d z runs there dead. ⊎_elim
        (λ (c : (b ≡ a) × (ended.actors b ≡ Some x_then)). closes e d (s.pipework.programs e d) (runs ∙ ap (λ (n : List ℕ). Some (Runs n)) c.0))
        (λ (c : (b ≢ a) × (ended.actors b ≡ s.actors b)). mono e (port.Program d) (T.over e b d z runs (sym c.1 ∙ there) dead))
        (put_at_cases s.actors a (Some x_then) b);
    told = λ e d runs. mono e (port.Program d) (T.told e d runs);
    awaits = λ e z start args there is_delivery. ⊎_elim
        (λ (c : (e ≡ a) × (ended.actors e ≡ Some x_then)).
        let same : x_then ≡ z = some_actor x_then z (sym c.1 ∙ there) in
        subst (λ (o : Actor). Awaits ended.pipework e args o.past) same (T.awaits e x start args (ap s.actors c.0 ∙ is) (ap (λ (o : Actor). o.program) same ∙ is_delivery)))
        (λ (c : (e ≢ a) × (ended.actors e ≡ s.actors e)). T.awaits e z start args (sym c.1 ∙ there) is_delivery)
        (put_at_cases s.actors a (Some x_then) e);
  }
    where
      more : (b : List ℕ) (d : ℕ) (z : Actor) → ((s.pipework.pipes b port.Input).shut ≡ true) ⊎ FeedsNow z d → ((ended.pipework.pipes b port.Input).shut ≡ true) ⊎ FeedsNow z d
      more b d z (inl h) = inl (mono b port.Input h)
      more b d z (inr f) = inr f

-- A start alone

start_tended : (s : State) → Inv s → Tended s.actors s.pipework → (a : List ℕ) (program : Program) → MayRun program → s.actors a ≡ None
    → Tended (put_at s.actors a (Some (newborn program))) s.pipework
start_tended s I T a program runs_alone new = record {
  fed = λ e b d z there apart runs. ⊎_elim
      (λ (c : (e ≡ a) × (put_at s.actors a (Some (newborn program)) e ≡ Some (newborn program))). let t = I.tenants e d (Runs b) runs in absurd (none t.bearer (ap s.actors (sym c.0) ∙ t.bearer_is)))
      (λ (c : (e ≢ a) × (put_at s.actors a (Some (newborn program)) e ≡ s.actors e)). T.fed e b d z (sym c.1 ∙ there) apart runs)
      (put_at_cases s.actors a (Some (newborn program)) e);
  over = λ e b d z runs there dead. ⊎_elim
      (λ (c : (b ≡ a) × (put_at s.actors a (Some (newborn program)) b ≡ Some (newborn program))). let t = I.tenants e d (Runs b) runs in absurd (none t.actor (ap s.actors (sym c.0) ∙ t.is)))
      (λ (c : (b ≢ a) × (put_at s.actors a (Some (newborn program)) b ≡ s.actors b)). T.over e b d z runs (sym c.1 ∙ there) dead)
      (put_at_cases s.actors a (Some (newborn program)) b);
  told = T.told;
  awaits = λ e z start args there is. ⊎_elim
      (λ (c : (e ≡ a) × (put_at s.actors a (Some (newborn program)) e ≡ Some (newborn program))).
      subst (λ (o : Actor). Awaits s.pipework e args o.past) (some_actor (newborn program) z (sym c.1 ∙ there)) tt)
      (λ (c : (e ≢ a) × (put_at s.actors a (Some (newborn program)) e ≡ s.actors e)). T.awaits e z start args (sym c.1 ∙ there) is)
      (put_at_cases s.actors a (Some (newborn program)) e);
}
  where
    none : (z : Actor) → s.actors a ≡ Some z → ⊥
    none z there = let both : ◌≡◌ {A = Option Actor} None (Some z) = sym new ∙ there in absurd (cc)

-- Each event

ends_by : (s : State) → Tended s.actors s.pipework → (a : List ℕ) (life : Life) (o : Option Actor) → s.actors a ≡ o → let t = finished s a life o in Tended t.actors t.pipework
ends_by s T a life None is = T
ends_by s T a life (Some x) is = end_tended s T a x is life

abbrev TendedIn : State → Type 0
TendedIn s = Tended s.actors s.pipework

event_tended : (e : Event) (s : State) → Inv s → HaveRun s.actors → Inv (happens s e) → TendedIn s → Allowed s e → goes_well e ≡ true → TendedIn (happens s e)
event_tended (Start a program) s I R J T may well = start_tended s I T a program may.runs may.new
event_tended (Act a own wrote) s I R J T may well = subst (λ (o : Option Actor). TendedIn (acted s a own wrote o)) (sym may.reads.is) (acts_tended s T a own wrote may well)
event_tended (Child parent own a program) s I R J T may well =
    subst (λ (o : Option Actor). TendedIn (bears (acted s parent own 0 o) parent own a program)) (sym may.reads.is)
    (child_tended s I T parent own a program may (R parent may.actor may.reads.is, (may.due, born_comes s parent own a program may))
    (subst (λ (o : Option Actor). Inv (bears (acted s parent own 0 o) parent own a program)) may.reads.is J))
event_tended (Generation (sender ∷ clean ∷ lspawn ∷ rspawn ∷ [])) s I R J T may well = generation_tended s I T sender clean lspawn rspawn J
event_tended (Generation crew) s I R J T may well = absurd (are_four crew may.kinds)
event_tended (Report slot output) s I R J T may well = report_tended s I T slot output
event_tended (End a read ready status) s I R J T may well = ends_by s T a (Over status) (s.actors a) refl
event_tended (Stop a) s I R J T may well = absurd (cc)
event_tended (Moment m) s I R J T may well = T
event_tended (Halt how contents) s I R J T may well = absurd (cc)

pub tended_always : (d : Disk) (h : List Event) → Legal d h → list_all goes_well h ≡ true → let s = after d h in Tended s.actors s.pipework
tended_always d [] legal well = record {
  fed = λ a b d x there apart runs. absurd (cc);
  over = λ a b d z runs there dead. absurd (cc);
  told = λ a d runs. absurd (cc);
  awaits = λ a x start args there is. absurd (cc);
}
tended_always d (e ∷ h) legal well =
    let parts = and_parts (goes_well e) (list_all goes_well h) well in
    event_tended e (after d h) (always d h legal.0) (have_run d h legal.0) (always d (e ∷ h) legal) (tended_always d h legal.0 parts.1) legal.1 parts.0

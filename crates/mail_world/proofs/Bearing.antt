-- An actor starts a child: an injector, which awaits its input then, or a local delivery.
use Rattle.std.proofs.Common.{◌≡◌, ◌≢◌, ◌⊎◌, inl, inr, ⊎_elim, ℕ, zero, suc, ◌+◌, ◌-◌, ◌^◌, ◌≤◌, ◌<◌, min, List, [], ◌∷◌, ◌++◌, length, set, Bool, true, false, if◌then◌else◌, Option, Some, None, is_some, refl, sym, ap, ◌∙◌, subst, arith, bytes_eq, codes, reverse}
use Rattle.std.specs.Prelude.{not, ◌&&◌, ◌==◌}
use Rattle.std.specs.List.{slice_get, sum_by}
use Rattle.std.proofs.lemmas.Bool.Decides.{eqb_tells}
use Rattle.std.proofs.lemmas.List.{length-append, length-set}
use Rattle.std.proofs.lemmas.Option.{slice_get_within}
use Rattle.call_fs.specs.Disk.{Disk}
use Rattle.call_fs.specs.Maps.{put_at}
use Rattle.call_fs.proofs.Maps.{put_at_same, put_at_other}
use Rattle.call_fs.specs.Past.{held}
use Rattle.call_fs.specs.declared.past.ChildData.{ChildData}
use Rattle.call_fs.specs.declared.past.ChildData.TheVariants as child
use Rattle.call_fs.specs.declared.past.DeliveryWordsData.{DeliveryWordsData}
use Rattle.call_fs.specs.declared.past.GotData.TheVariants as got
use Rattle.call_fs.specs.declared.past.NeedData.{NeedData}
use Rattle.call_fs.specs.declared.past.NeedData.TheVariants as needs
use Rattle.call_fs.specs.declared.past.Own.{Own}
use Rattle.call_fs.specs.declared.program.Port.{Port}
use Rattle.call_fs.specs.declared.program.Port.TheVariants as port
use Rattle.actor_names.specs.ChildNames.{bounce_name, delivery_name, forward_of}
use Rattle.local_parts.specs.Arguments.{local_args}
use Rattle.world_events.specs.Inputs.{bounce, forward}
use Rattle.world_events.specs.Children.{IsActor, counts_with, entry_after}
use Rattle.world_events.specs.declared.books.Entry.{Entry}
use Rattle.world_events.specs.declared.event.Event.{Event as Kept}
use Rattle.world_events.specs.declared.event.Event.TheVariants as kept
use Rattle.world_events.specs.declared.event.Program.{Program}
use Rattle.world_events.specs.declared.event.Program.TheVariants.{Injector, Sender, LocalSpawner, Delivery}
use Rattle.world_pipes.specs.declared.mouths.Mouths.{Mouths}
use Rattle.world_pipes.specs.Mouths.{pipe_of, tenant_of, ended_of, change_at}
use Rattle.mail_world.specs.declared.actor.Actor.{Actor as Held}
use Rattle.mail_world.specs.declared.any_machine.AnyMachine.{AnyMachine}
use Rattle.mail_world.specs.Books.{AreBooked, entry_by}
use Rattle.mail_world.specs.ByKind.{injection_of, BearsIn, IsMail, Follows, awaits_of}
use Rattle.world_pipes.specs.Seating.{IsFreshOne, HasPipesFor, HasPlaceAfter}
use Rattle.mail_world.specs.History.{Actor, State, IsDelivery, IsLocalSpawner, acted, bears, begins, newborn, next_of}
use Rattle.mail_world.specs.History.Life.{Alive}
use Rattle.mail_world.specs.Inside.{known, among_all, RunsAt, RunsBy, HasBorneLast, HasJustStarted, MayFeed, IsAwaited, IsBorne, IsUnwired, IsMember, IsStranger, HasOpen, IsOpenTo, IsWorld, ArePiped}
use Rattle.mail_world.specs.Pipework.{Pipe, Pipework, Tenant, Slot, is_member, is_ready, fresh, pipework_after, slot_of, with_child}
use Rattle.mail_world.specs.Pipework.Tenant.{Runs}
use Rattle.mail_world.specs.Readiness.{is_awaiting, is_gone, found_in}
use Rattle.mail_world.specs.Wired.{seat, slot_in, tenant_in, kept_at, AreWired, IsOwnPort, IsSlotOf, slots_at, HaveSlots, HaveChildren, AreOver, MayRunIn}
use Rattle.mail_world.specs.Children.{Begins, IsDueOfChild, IsMachineOf, IsStart, IsPaid, Serves}
use Rattle.mail_world.specs.Generations.{idled_by}
use Rattle.mail_world.specs.World.{Counts, child_of, IsKeptStart, next_pid, starts_in, with_inputs}
use Rattle.world_events.specs.declared.answers.Did.{Did}
use Rattle.world_pipes.proofs.Grows.{wired_grows, slots_grow, children_grow, over_grow}
use Rattle.world_pipes.proofs.Keeps.{slots_set, children_started, over_alike, over_started}
use Rattle.mail_world.proofs.Awaiting.{awaits_same}
use Rattle.mail_world.proofs.Births.{born_parts, HasNames, IsNewChild, new_child, bounces_within, deliveries_within, count_then, unborn_then, undelivered_then, numbered_then}
use Rattle.mail_world.proofs.Booked.{look_booked, child_booked, unentered_booked}
use Rattle.mail_world.proofs.Borne.{feed_push, stranger_awaits}
use Rattle.mail_world.proofs.Crew.{apart_by}
use Rattle.mail_world.proofs.Feeders.{IsFeeder, Starts, starter, starts_at}
use Rattle.mail_world.proofs.Feeding.{spawner_is}
use Rattle.mail_world.proofs.Histories.{LeadsOn, child_told, led_still}
use Rattle.mail_world.proofs.Fed.{borne_feeds, fed_mail}
use Rattle.mail_world.proofs.Known.{known_push, inputs_push}
use Rattle.mail_world.proofs.Lists.{each_set, each_push, get_set, some_at}
use Rattle.mail_world.proofs.Passes.{passing}
use Rattle.mail_world.proofs.Seats.{seat_none}
use Rattle.mail_world.proofs.Serving.{HasParent, HasServed, IsAsking, asking, LeavesBeside, with_deed, served_member, newborn_member, crew_bears, deed_open, newborn_open, beside_open, all_open, acting_parent, parent_finds, parent_runs, none_of_it, pipes_within, serves, places_still, stands_still, some_slot, whole_more}
use Rattle.mail_world.proofs.Steps.{AreKept, turned_keeps, paid_turned, as_they_were}
use Rattle.mail_world.proofs.Unwired.{no_slots, put_away}
use Rattle.mail_world.proofs.Wires.{wired_bears}
use Rattle.mail_world.proofs.Worlds.{on_told, pid_push, one_pid}
use Rattle.queue_law.proofs.Tests.{text_cases, same_text, other_text}

and_false : (t : Bool) → (t && false) ≡ false
and_false true = refl
and_false false = refl

-- what is due
pub start_is : (due : NeedData) → IsStart due → (asked : ChildData) × (due ≡ needs.Start asked) × IsActor asked
start_is (needs.Start (child.Bounce room)) starts = (child.Bounce room, refl, tt)
start_is (needs.Start (child.Forward uid room)) starts = (child.Forward uid room, refl, tt)
start_is (needs.Start (child.Local slot words uid)) starts = (child.Local slot words uid, refl, tt)
start_is other starts = absurd starts

-- no injector starts one
starts_no_mail : (program : Program) (asked : ChildData) → Starts program asked → IsMail program → ⊥
starts_no_mail (Injector args) asked may mail = may
starts_no_mail other asked may mail = mail

-- a delivery is started by the local spawner
spawns_local : (program : Program) (d : ℕ) (words : DeliveryWordsData) (uid : ℕ) → Starts program (child.Local d words uid) → IsLocalSpawner program
spawns_local (LocalSpawner start) d words uid may = tt
spawns_local other d words uid may = absurd may

-- the machine that was made for the child stands for its program
pub machine_begins : (b : Counts) (a : List ℕ) (asked : ChildData) (pid p : ℕ) (c : List ℕ) (program : Program) (machine : AnyMachine)
    → child_of b a asked pid p ≡ Some (c, program) → IsMachineOf asked pid p machine → Begins machine program
machine_begins b a (child.Bounce room) pid p c program machine born of =
    subst (Begins machine) (born_parts (bounce_name (b.bounces + 1), Injector (bounce pid p)) c program born).1 of
machine_begins b a (child.Forward uid room) pid p c program machine born of =
    subst (Begins machine) (born_parts (forward_of a, Injector (forward uid pid p)) c program born).1 of
machine_begins b a (child.Local d words uid) pid p c program machine born of =
    subst (Begins machine) (born_parts (delivery_name (b.deliveries + 1), Delivery p (local_args words uid pid)) c program born).1 of
machine_begins b a (child.Remote d domain sender recipient) pid p c program machine born of = absurd of

-- there is such a slot
pub slot_low : (i d n : ℕ) → MayRunIn i d → d < 256 → n ≡ slots_at i → d < n
slot_low zero d n may low many =
    let first : d ≡ 0 = may in
    let some = some_slot zero n many in omega (arith, first, some)
slot_low (suc zero) d n may low many = absurd may
slot_low (suc (suc zero)) d n may low many = let all : n ≡ 256 = many in omega (arith, all, low)
slot_low (suc (suc (suc zero))) d n may low many = absurd may
slot_low (suc (suc (suc (suc i)))) d n may low many =
    let first : d ≡ 0 = may in
    let some = some_slot (suc (suc (suc (suc i)))) n many in omega (arith, first, some)

-- an actor of this name started in a slot
pub record HasStartedIn (m v : Mouths) (d : ℕ) (c : List ℕ) : Type 0 where
  pub pipes : (q : Port) → pipe_of v q ≡ change_at (port.Program d) (λ _. fresh) (pipe_of m) q
  pub tenants : (e : ℕ) → tenant_of v e ≡ (if e == d then Some (Runs c) else tenant_of m e)
  pub ended : (e : ℕ) → ended_of v e ≡ (if e == d then false else ended_of m e)
  pub slots : length v.slots.items ≡ length m.slots.items

-- the parent was paid, and nothing else was done
pub paid_keeps : (told : Option Disk) (crew : ℕ) (places : List ℕ → Option ℕ) (actors : List Held) (mouths : List Mouths) (entries : List Entry) (events : List Kept) (p n : ℕ) (b : Counts) (a : List ℕ) (i : ℕ) (parent : Actor) (z : Held)
    → AreKept told crew places actors mouths entries events p n b → (here : HasParent actors (known events) events p a i parent) → IsPaid here.held z events
    → AreKept told crew places (set actors i z) mouths entries events p n b
paid_keeps told crew places actors mouths entries events p n b a i parent z w here paid =
    turned_keeps told crew places actors mouths mouths entries events p n b i here.held z w (record { is = here.is; member = here.member; lives = here.lives })
    (paid_turned (known events) events p here.held z here.member here.lives paid.follows paid.name paid.ended paid.status paid.awaits paid.paid paid.descriptors paid.stays) (as_they_were mouths)

-- what it does to the pipes

-- the start of an actor passes nothing
started_work : (w : Pipework) (a : List ℕ) (asked : ChildData) (pid : ℕ) → IsActor asked → pipework_after w a (needs.Start asked) (got.Started pid) 0 ≡ w
started_work w a (child.Bounce room) pid actor = refl
started_work w a (child.Forward uid room) pid actor = refl
started_work w a (child.Local slot words uid) pid actor = refl
started_work w a (child.Remote slot domain sender recipient) pid actor = absurd actor

input_same : (w : Pipework) (a c b : List ℕ) (d : ℕ) → (with_child w a d c).pipes b port.Input ≡ w.pipes b port.Input
input_same w a c b d = ap (λ (t : Bool). if t then fresh else w.pipes b port.Input) (and_false (bytes_eq b a))

slot_beside : (w : Pipework) (a c b : List ℕ) (d : ℕ) → b ≢ c → (with_child w a d c).slots b ≡ w.slots b
slot_beside w a c b d far = put_at_other w.slots c (Some (slot_in a d)) b far

slot_is : (w : Pipework) (a c : List ℕ) (d : ℕ) → (with_child w a d c).slots c ≡ Some (slot_in a d)
slot_is w a c d = put_at_same w.slots c (Some (slot_in a d))

runs_beside : (w : Pipework) (a c b : List ℕ) (d e : ℕ) → b ≢ a → (with_child w a d c).programs b e ≡ w.programs b e
runs_beside w a c b d e far = ap (λ (t : Bool). if t && (e == d) then Some (Runs c) else w.programs b e) (other_text b a far)

-- who runs in a slot then: the child in that one, and whoever ran in another one
ran_then : (w : Pipework) (a c b : List ℕ) (d e : ℕ) (f : List ℕ) → (with_child w a d c).programs b e ≡ Some (Runs f) → ((b ≡ a) × (e ≡ d) × (f ≡ c)) ⊎ (w.programs b e ≡ Some (Runs f))
ran_then w a c b d e f runs = ⊎_elim
    (λ (q : (b ≡ a) × (bytes_eq b a ≡ true)). ⊎_elim
    (λ (g : ((e == d) ≡ true) × (e ≡ d)).
    let both : ◌≡◌ {A = Option Tenant} (Some (Runs c)) (Some (Runs f)) =
    sym (ap (λ (t : Bool). if t && (e == d) then Some (Runs c) else w.programs b e) q.1 ∙ ap (λ (t : Bool). if t then Some (Runs c) else w.programs b e) g.0) ∙ runs in
    let same : c ≡ f = cc in inl (q.0, g.1, sym same))
    (λ (g : ((e == d) ≡ false) × (e ≢ d)). inr (sym (ap (λ (t : Bool). if t && (e == d) then Some (Runs c) else w.programs b e) q.1 ∙ ap (λ (t : Bool). if t then Some (Runs c) else w.programs b e) g.0) ∙ runs))
    (eqb_tells e d))
    (λ (q : (b ≢ a) × (bytes_eq b a ≡ false)). inr (sym (runs_beside w a c b d e q.0) ∙ runs))
    (text_cases b a)

-- an actor keeps its slot as it is kept, if another one gets a place
slot_wires : (wires later : List ℕ → Option ℕ) (c : List ℕ) (slot : Option Slot) (kept : Option (ℕ × ℕ)) → ((b : List ℕ) → b ≢ c → later b ≡ wires b) → wires c ≡ None → IsSlotOf wires slot kept → IsSlotOf later slot kept
slot_wires wires later c slot None same none of = of
slot_wires wires later c slot (Some at) same none of =
    (of.0, of.1, same of.0 (λ e. let both : ◌≡◌ {A = Option ℕ} None (Some at.0) = sym none ∙ ap wires (sym e) ∙ of.2 in cc) ∙ of.2)

-- What is due

-- the start of a child
pub record IsBearing (crew : ℕ) (places : List ℕ → Option ℕ) (mouths : List Mouths) (actors : List Held) (events : List Kept) (p : ℕ) (b : Counts) (a : List ℕ) (due : NeedData) : Type 0 where
  pub asks : IsAsking crew places actors events p a due
  pub asked : ChildData
  pub due_is : due ≡ needs.Start asked
  pub actor : IsActor asked
  pub starts : Starts asks.parent.program asked
  pub wire : ℕ
  pub wire_is : asks.here.held.wire ≡ Some wire
  pub low : wire < length mouths
  pub four : 4 ≤ length mouths
  pub runs_in : MayRunIn wire (slot_of asked)
  pub within : crew ≤ length actors
  pub few : b.bounces ≤ length events
  pub less : b.deliveries ≤ length events

pub bearing : {D : Type 0} (d : D) (told : Option Disk) (crew : ℕ) (places : List ℕ → Option ℕ) (actors : List Held) (mouths : List Mouths) (events : List Kept) (p n : ℕ) (b : Counts) (a : List ℕ) (due : NeedData)
    → IsWorld told (among_all crew places) actors (known events) events p n b → ArePiped crew mouths actors (known events) events → IsDueOfChild (record { disk = d; events = events; present = p }) a due → IsStart due
    → IsBearing crew places mouths actors events p b a due
bearing d told crew places actors mouths events p n b a due w piped asked starts =
    let it = asking d told crew places actors events p n b a due w asked in
    let s = start_is due starts in
    let run = parent_runs crew mouths actors events p a it.at it.parent it.here it.is it.alive in
    let may = starter it.parent.program it.parent.past p (found_in (known events) a) s.0 run (it.next ∙ s.1) in
    let at = starts_at (piped.wires a) it.parent.program s.0 may s.2 (piped.runs a it.parent it.is it.alive) in
    let wire : it.here.held.wire ≡ Some at.0 = sym (piped.places it.at it.here.held it.here.is it.here.lives) ∙ ap piped.wires it.here.name ∙ at.1 in
    let within = pipes_within crew places mouths actors (known events) events p it.at it.here.held w.kept piped it.here.is it.here.lives at.0 wire in
    record {
      asks = it;
      asked = s.0;
      due_is = s.1;
      actor = s.2;
      starts = may;
      wire = at.0;
      wire_is = wire;
      low = within.1;
      four = within.0;
      runs_in = at.2;
      within = piped.many;
      few = subst (λ (b : Counts). b.bounces ≤ length events) (sym w.count) (bounces_within events);
      less = subst (λ (b : Counts). b.deliveries ≤ length events) (sym w.count) (deliveries_within events);
    }

abbrev pub bear_own : List Kept → ℕ → List ℕ → ℕ → ChildData → Own
bear_own events p a pid asked = record { read = p; ready = found_in (known events) a; due = needs.Start asked; came = got.Started pid }

-- the pipes, once the child has those that it needs
pub record AreGrown (wires later : List ℕ → Option ℕ) (mouths now : List Mouths) (w : Pipework) (gone : List ℕ → Bool) (c : List ℕ) (program : Program) (wire : Option ℕ) : Type 0 where
  pub wired : AreWired later now w
  pub slots : HaveSlots now
  pub children : HaveChildren now
  pub over : AreOver gone now
  pub same : (b : List ℕ) → b ≢ c → later b ≡ wires b
  pub mine : later c ≡ wire
  pub runs : RunsBy wire program
  pub many : length mouths ≤ length now

-- The pipes of the child

module _ (crew : ℕ) (mouths : List Mouths) (actors : List Held) (s t : State) (events : List Kept) (a : List ℕ) (at d : ℕ) (c : List ℕ) (program : Program) (m v : Mouths) (piped : ArePiped crew mouths actors s events)
    (of : piped.wires a ≡ Some at) (there : slice_get mouths at ≡ Some m) (unwired : IsUnwired piped.wires s.pipework c) (named : is_member c ≡ false) (runs_in : MayRunIn at d)
    (began : HasStartedIn m v d c)
    (work : t.pipework ≡ with_child s.pipework a d c) (lives : is_gone (t.actors c) ≡ false) (alike : (e : List ℕ) → e ≢ c → is_gone (t.actors e) ≡ is_gone (s.actors e)) where
  -- it is in no slot yet
  no_tenant : (j : ℕ) (u : Mouths) (e : ℕ) → slice_get mouths j ≡ Some u → tenant_of u e ≡ Some (Runs c) → ⊥
  no_tenant j u e at_it runs =
      let b = piped.wired.owned j (slice_get_within mouths j u at_it) in
      let has : s.pipework.programs b.0 e ≡ Some (Runs c) =
      piped.wired.programs b.0 e ∙ ap (λ (o : Option ℕ). tenant_in (kept_at o mouths) e) b.1 ∙ ap (λ (o : Option Mouths). tenant_in o e) at_it ∙ runs in
      let both : ◌≡◌ {A = Option Slot} None (Some (slot_in b.0 e)) = sym unwired.slot ∙ piped.wired.children b.0 e c has in cc

  wired : AreWired piped.wires (set mouths at v) (with_child s.pipework a d c)
  wired = wired_bears piped.wires mouths a at m v of there s.pipework piped.wired d c unwired.slot unwired.place named began.pipes began.tenants

  over : AreOver (λ e. is_gone (t.actors e)) (set mouths at v)
  over = over_started mouths at m v d c there began.tenants (λ e. is_gone (t.actors e)) began.ended lives
      (over_alike (λ e. is_gone (s.actors e)) (λ e. is_gone (t.actors e)) mouths
      (λ j u e f at_it runs. alike f (λ same. no_tenant j u e at_it (runs ∙ ap (λ (f : List ℕ). Some (Runs f)) same))) piped.over)

  -- of an injector none
  pub grown_none : IsMail program → AreGrown piped.wires piped.wires mouths (set mouths at v) t.pipework (λ e. is_gone (t.actors e)) c program None
  grown_none mail = record {
    wired = subst (AreWired piped.wires (set mouths at v)) (sym work) wired;
    slots = slots_set mouths at m v there began.slots piped.slots;
    children = children_started mouths at m v d c there began.tenants runs_in named piped.children;
    over = over;
    same = λ b far. refl;
    mine = unwired.place;
    runs = mail;
    many = let same = length-set mouths at v in omega (arith, same);
  }

  its_ports : (n : ℕ) (q : Port) → 4 ≤ n → IsOwnPort n q → IsOwnPort 4 q
  its_ports n port.Clean high low = absurd (omega (arith, high, low))
  its_ports n port.Lspawn high low = absurd (omega (arith, high, low))
  its_ports n port.Rspawn high low = absurd (omega (arith, high, low))
  its_ports n port.Input high mine = tt
  its_ports n port.Output high mine = tt
  its_ports n port.Todo high mine = tt
  its_ports n (port.Program e) high mine = tt
  its_ports n (port.Status e) high mine = tt

  high_runs : (n : ℕ) (program : Program) → 4 ≤ n → IsDelivery program → RunsBy (Some n) program
  high_runs (suc (suc (suc (suc n)))) program high delivers = delivers
  high_runs zero program high delivers = absurd (omega (arith, high))
  high_runs (suc zero) program high delivers = absurd (omega (arith, high))
  high_runs (suc (suc zero)) program high delivers = absurd (omega (arith, high))
  high_runs (suc (suc (suc zero))) program high delivers = absurd (omega (arith, high))

  -- of a delivery some after the others
  pub grown_one : (k : Mouths) → IsDelivery program → IsFreshOne k → 4 ≤ length mouths → a ≡ codes "lspawn"
      → AreGrown piped.wires (put_at piped.wires c (Some (length (set mouths at v)))) mouths (set mouths at v ++ k ∷ []) t.pipework (λ e. is_gone (t.actors e)) c program (Some (length (set mouths at v)))
  grown_one k delivers fresh_one low spawner =
      let one = set mouths at v in
      let w = with_child s.pipework a d c in
      let same = length-set mouths at v in
      let four : 4 ≤ length one = omega (arith, low, same) in
      let far : c ≢ a = λ e. let both : ◌≡◌ {A = Option ℕ} None (Some at) = sym unwired.place ∙ ap piped.wires e ∙ of in cc in
      let slot : w.slots c ≡ Some (slot_in (codes "lspawn") d) = slot_is s.pipework a c d ∙ ap (λ (a : List ℕ). Some (slot_in a d)) spawner in
      let empty : (q : Port) → IsOwnPort (length one) q → w.pipes c q ≡ fresh =
      λ q own. put_away s.pipework.pipes (record { actor = a; port = port.Program d }) (λ _. fresh) c q far ∙ unwired.pipes q (its_ports (length one) q four own) in
      let longer = length-append one (k ∷ []) in
      record {
        wired = subst (AreWired (put_at piped.wires c (Some (length one))) (one ++ k ∷ [])) (sym work) (wired_grows piped.wires one w c k d wired unwired.place named four slot empty fresh_one);
        slots = slots_grow piped.wires one w c k d wired unwired.place named four slot empty fresh_one (slots_set mouths at m v there began.slots piped.slots);
        children = children_grow piped.wires one w c k d wired unwired.place named four slot empty fresh_one (children_started mouths at m v d c there began.tenants runs_in named piped.children);
        over = over_grow piped.wires one w c k d wired unwired.place named four slot empty fresh_one (λ e. is_gone (t.actors e)) over;
        same = λ b far. put_at_other piped.wires c (Some (length one)) b far;
        mine = put_at_same piped.wires c (Some (length one));
        runs = high_runs (length one) program four delivers;
        many = omega (arith, same, longer);
      }

-- The child is born

module _ (told : Option Disk) (crew : ℕ) (places next : List ℕ → Option ℕ) (actors : List Held) (mouths : List Mouths) (events : List Kept) (p n : ℕ) (b : Counts) (a : List ℕ) (i : ℕ) (parent : Actor)
    (w : IsWorld told (among_all crew places) actors (known events) events p n b) (piped : ArePiped crew mouths actors (known events) events)
    (is : (known events).actors a ≡ Some parent) (alive : parent.life ≡ Alive) (here : HasParent actors (known events) events p a i parent)
    (asked : ChildData) (actor : IsActor asked) (may : Starts parent.program asked) (c : List ℕ) (program : Program) (pid : ℕ) (born : child_of b a asked pid p ≡ Some (c, program))
    (due : next_of parent.program parent.past p (found_in (known events) a) ≡ needs.Start asked) where
  abbrev own : Own
  own = bear_own events p a pid asked

  abbrev k : Kept
  k = kept.Child a own c program

  abbrev later : List Kept
  later = events ++ k ∷ []

  abbrev slot : ℕ
  slot = slot_of asked

  abbrev deed : State
  deed = acted (known events) a own 0 (Some parent)

  abbrev t : State
  t = begins deed c program (with_child (known events).pipework a slot c)

  names : HasNames (among_all crew places) (known events) b
  names = record { unborn = w.unborn; undelivered = w.undelivered; numbered = w.numbered }

  pub bear_new : IsNewChild (among_all crew places) a asked pid p c program
  bear_new = new_child (among_all crew places) actors (known events) events p b a parent w.kept names is (parent_runs crew mouths actors events p a i parent here is alive) (found_in (known events) a) pid p asked due may c program born

  stranger : IsStranger (known events) events c
  stranger = w.kept.strangers c bear_new.new

  apart : a ≢ c
  apart e = let both : ◌≡◌ {A = Option Actor} None (Some parent) = sym stranger.unknown ∙ ap (known events).actors (sym e) ∙ is in absurd (cc)

  no_mail : IsMail parent.program → ⊥
  no_mail = starts_no_mail parent.program asked may

  pub bear_leads : LeadsOn told told events later p p
  bear_leads = child_told told events p a parent own c program asked pid piped.whole (acting_parent crew mouths actors events p a i parent here is alive)
      (parent_finds crew mouths actors events p a i parent here is alive) refl due refl refl stranger.unknown bear_new.is bear_new.began

  pub bear_serves : {D : Type 0} (tells : D → Option Disk) (d : D) → tells d ≡ told → pid ≡ next_pid events → (did : Did) → did.at ≡ length events → did.ended ≡ None
      → did.idle ≡ idled_by ((known events).actors a) own
      → Serves tells a (record { disk = d; events = events; present = p }) (record { disk = d; events = later; present = p }) did
  bear_serves tells d same pid_is did at over idle =
      serves tells d events p a own k did
      (record { actor = parent; is = is; read = refl; ready = refl; due = due; came = ap got.Started pid_is })
      (subst (λ (o : Option (List ℕ × Program)). IsKeptStart o a own k) (sym (ap (λ (b : Counts). child_of b a asked pid p) (sym w.count) ∙ born)) refl)
      (subst (λ (o : Option Disk). LeadsOn o o events later p p) (sym same) bear_leads) at over idle refl

  is_now : known later ≡ t
  is_now =
      known_push events k tt ∙ ap (λ (o : Option Actor). bears (acted (known events) a own 0 o) a own c program) is
      ∙ ap (λ (work : Pipework). begins deed c program (with_child work a slot c)) (started_work (known events).pipework a asked pid actor)

  acts : t.actors a ≡ Some (with_deed parent own)
  acts = put_at_other _ c (Some (newborn program)) a apart ∙ put_at_same (known events).actors a _

  born_now : t.actors c ≡ Some (newborn program)
  born_now = put_at_same _ c (Some (newborn program))

  beside : (b : List ℕ) → b ≢ a → b ≢ c → t.actors b ≡ (known events).actors b
  beside b far other = put_at_other _ c (Some (newborn program)) b other ∙ put_at_other (known events).actors a _ b far

  same_awaits : (b : List ℕ) → b ≢ c → is_awaiting t b ≡ is_awaiting (known events) b
  same_awaits b far = awaits_same (known events) t b (slot_beside (known events).pipework a c b slot far) (input_same (known events).pipework a c b slot)

  child_awaits : is_awaiting t c ≡ true
  child_awaits =
      ap (λ (o : Option Slot). is_some o && not (is_ready ((with_child (known events).pipework a slot c).pipes c port.Input))) (slot_is (known events).pipework a c slot)
      ∙ ap (λ (pipe : Pipe). not (is_ready pipe)) (input_same (known events).pipework a c c slot ∙ (piped.fresh c stranger.unknown bear_new.named).pipes port.Input tt)

  unwired : IsUnwired piped.wires (known events).pipework c
  unwired = piped.fresh c stranger.unknown bear_new.named

  leaves : LeavesBeside a c (known events) t k
  leaves = record { actors = beside; holder = refl; no_start = λ b other. other_text c b (λ e. other (sym e)); no_end = λ b. refl }

  -- The pipes of its parent, in whose slot it is, and its own
  module _ (at : ℕ) (m v : Mouths) (placed : here.held.wire ≡ Some at) (there : slice_get mouths at ≡ Some m) (four : 4 ≤ length mouths) (runs_in : MayRunIn at slot) (began : HasStartedIn m v slot c) where
    at_parent : piped.wires a ≡ Some at
    at_parent = ap piped.wires (sym here.name) ∙ piped.places i here.held here.is here.lives ∙ placed

    gone_alike : (e : List ℕ) → e ≢ c → is_gone (t.actors e) ≡ is_gone ((known events).actors e)
    gone_alike e far = ⊎_elim
        (λ (f : (e ≡ a) × (bytes_eq e a ≡ true)). ap (λ (e : List ℕ). is_gone (t.actors e)) f.0 ∙ ap is_gone acts ∙ sym (ap is_gone is) ∙ ap (λ (e : List ℕ). is_gone ((known events).actors e)) (sym f.0))
        (λ (f : (e ≢ a) × (bytes_eq e a ≡ false)). ap is_gone (beside e f.0 far))
        (text_cases e a)

    abbrev IsGrown : List Mouths → Option ℕ → Type 0
    IsGrown now wire = (grown : List ℕ → Option ℕ) × AreGrown piped.wires grown mouths now t.pipework (λ e. is_gone (t.actors e)) c program wire

    grown_mail : IsMail program → (now : List Mouths) (wire : Option ℕ) → (now ≡ set mouths at v) × (wire ≡ None) → IsGrown now wire
    grown_mail mail now wire after =
        subst (IsGrown now) (sym after.1) (subst (λ (now : List Mouths). IsGrown now None) (sym after.0)
        (piped.wires, grown_none crew mouths actors (known events) t events a at slot c program m v piped at_parent there unwired bear_new.named runs_in began refl (ap is_gone born_now) gone_alike mail))

    grown_delivery : IsLocalSpawner parent.program → IsDelivery program → (pipes : Mouths) → IsFreshOne pipes → (now : List Mouths) (wire : Option ℕ)
        → (now ≡ set mouths at v ++ pipes ∷ []) × (wire ≡ Some (length (set mouths at v))) → IsGrown now wire
    grown_delivery spawns delivers pipes fresh_one now wire after =
        let runs : RunsAt (seat a) parent.program =
        subst (λ (x : Actor). RunsAt (seat a) x.program) here.same (subst (λ (e : List ℕ). RunsAt (seat e) here.member.actor.program) here.name here.member.runs) in
        subst (IsGrown now) (sym after.1) (subst (λ (now : List Mouths). IsGrown now (Some (length (set mouths at v)))) (sym after.0) (
          put_at piped.wires c (Some (length (set mouths at v))),
          grown_one crew mouths actors (known events) t events a at slot c program m v piped at_parent there unwired bear_new.named runs_in began refl (ap is_gone born_now) gone_alike
              pipes delivers fresh_one four (spawner_is a parent.program runs spawns),
        ))

    grown_by : (one : ChildData) → IsActor one → Starts parent.program one → child_of b a one pid p ≡ Some (c, program) → (own_pipes : Option Mouths) → HasPipesFor one own_pipes
        → (now : List Mouths) (wire : Option ℕ) → HasPlaceAfter (set mouths at v) now own_pipes wire → IsGrown now wire
    grown_by (child.Bounce room) actor may born own_pipes has now wire after =
        grown_mail (subst IsMail (born_parts (bounce_name (b.bounces + 1), Injector (bounce pid p)) c program born).1 tt) now wire
        (subst (λ (o : Option Mouths). HasPlaceAfter (set mouths at v) now o wire) has after)
    grown_by (child.Forward uid room) actor may born own_pipes has now wire after =
        grown_mail (subst IsMail (born_parts (forward_of a, Injector (forward uid pid p)) c program born).1 tt) now wire
        (subst (λ (o : Option Mouths). HasPlaceAfter (set mouths at v) now o wire) has after)
    grown_by (child.Local d words uid) actor may born own_pipes has now wire after =
        let it = some_at IsFreshOne own_pipes has in
        grown_delivery (spawns_local parent.program d words uid may)
        (subst IsDelivery (born_parts (delivery_name (b.deliveries + 1), Delivery p (local_args words uid pid)) c program born).1 tt) it.0 it.2 now wire
        (subst (λ (o : Option Mouths). HasPlaceAfter (set mouths at v) now o wire) it.1 after)
    grown_by (child.Remote d domain sender recipient) actor may born own_pipes has now wire after = absurd actor

    bear_grown : (own_pipes : Option Mouths) (now : List Mouths) (wire : Option ℕ) → HasPipesFor asked own_pipes → HasPlaceAfter (set mouths at v) now own_pipes wire → IsGrown now wire
    bear_grown own_pipes now wire has after = grown_by asked actor may born own_pipes has now wire after

  module _ (y z : Held) (served : HasServed here.held y own (length events) parent) (name : z.name ≡ c) (ended : z.ended ≡ None) (paid : z.owed ≡ None) (status : z.status ≡ None) (list : z.descriptors.items ≡ [])
      (follows : Follows z.machine program []) (awaits : IsMail program → awaits_of z.machine ≡ true) where
    abbrev now_actors : List Held
    now_actors = set actors i y ++ z ∷ []

    parent_member : IsMember t later p y
    parent_member =
        served_member actors (known events) t events k p a i parent here y own served refl (other_text c a (λ e. apart (sym e))) refl acts refl due tt no_mail

    child_member : IsMember t later p z
    child_member = newborn_member (known events) t events k p z c program (subst (λ (o : Option ℕ). RunsAt o program) (sym (seat_none c bear_new.named)) bear_new.alone) stranger (same_text c) born_now name ended paid status follows bear_new.began
        (λ mail. awaits mail ∙ sym child_awaits)

    opens : (d : Disk) → IsOpenTo d actors (known events) → IsOpenTo d now_actors t
    opens d o =
        let s = known events in
        let x = here.held in
        all_open d actors now_actors s t refl o (each_push (λ (j : ℕ) (v : Held). HasOpen d t v) (set actors i y) z
        (newborn_open d s t z c program refl stranger.holds_none name list born_now)
        (each_set (λ (j : ℕ) (v : Held). HasOpen d t v) actors i y
        (deed_open d s t x y own parent refl served.name served.descriptors (ap s.actors here.name ∙ is) alive (ap t.actors here.name ∙ acts)
        ((passing (needs.Start asked) (got.Started pid) tt).held (held parent.past)) (o.each i x here.is))
        (λ j v other at.
        let far : v.name ≢ a = λ e. apart_by (among_all crew places) x.name v.name i j (w.kept.placed i x here.is) (w.kept.placed j v at) other (e ∙ sym here.name) in
        let beyond : v.name ≢ c = λ e. let both : ◌≡◌ {A = Option ℕ} None (Some j) = sym bear_new.new ∙ ap (among_all crew places) (sym e) ∙ w.kept.placed j v at in absurd (cc) in
        beside_open d s t v refl (beside v.name far beyond) (o.each j v at))))

    pub bear_keeps : (q : ℕ) → q ≡ min (n + 1) (2 ^ 32 - 1) → ((b : List ℕ) → among_all crew next b ≡ put_at (among_all crew places) c (Some (length actors)) b)
        → IsWorld told (among_all crew next) now_actors (known later) later p q (counts_with b asked)
    bear_keeps q next_is put =
        let s = known events in
        let placed : among_all crew places a ≡ Some i = ap (among_all crew places) (sym here.name) ∙ w.kept.placed i here.held here.is in
        subst (λ (s : State). IsWorld told (among_all crew next) now_actors s later p q (counts_with b asked)) (sym is_now) (record {
          moment = w.moment;
          now = w.now;
          pid = one_pid n q (sum_by starts_in events) 1 w.pid next_is ∙ sym (pid_push events k);
          count = count_then events b a own asked pid p c program w.count born;
          unborn = unborn_then (among_all crew places) (among_all crew next) s b a asked pid p i (length actors) c program names parent is placed may born put;
          undelivered = undelivered_then (among_all crew places) (among_all crew next) s b a asked pid p i (length actors) c program names parent is placed may born put;
          numbered = numbered_then (among_all crew places) actors s t events p b a parent own pid p c program w.kept names is stranger.unknown refl acts born_now beside asked refl may born;
          kept = crew_bears s t events k p a c leaves (among_all crew places) (among_all crew next) actors i here.held y z w.kept here.is here.name served.name name bear_new.new put (length-set actors i y)
              (λ b. refl) (λ v far other lives before. before ∙ sym (same_awaits v.name other)) parent_member child_member;
          opens = on_told told (λ d. IsOpenTo d actors s) (λ d. IsOpenTo d now_actors t) opens w.opens;
          led = led_still told events later p p bear_leads w.led;
        })

    pub bear_booked : (entries : List Entry) → AreBooked crew entries actors events → z.entry ≡ entry_after (length entries) program
        → AreBooked crew (entries ++ entry_by c (injection_of program)) now_actors later
    bear_booked entries booked entry = by_program program entry where
      wide : crew ≤ length (set actors i y)
      wide = subst (λ (n : ℕ). crew ≤ n) (sym (length-set actors i y)) piped.many

      stood : AreBooked crew entries (set actors i y) events
      stood = look_booked crew actors events i here.held y entries booked here.is served.name served.stays.entry

      by_program : (program : Program) → z.entry ≡ entry_after (length entries) program
          → AreBooked crew (entries ++ entry_by c (injection_of program)) now_actors (events ++ kept.Child a own c program ∷ [])
      by_program (Injector args) entry = child_booked crew (set actors i y) events z a own c args entries wide stood name entry
      by_program other entry = unentered_booked crew (set actors i y) events z a own c other entries refl stood entry

    module _ (grown : List ℕ → Option ℕ) (now : List Mouths) (at : ℕ) (pipes : AreGrown piped.wires grown mouths now t.pipework (λ c. is_gone (t.actors c)) c program z.wire)
        (placed : here.held.wire ≡ Some at) (four : 4 ≤ length mouths) (slot_kept : z.slot ≡ Some (at, slot)) where
      just : HasJustStarted later a c
      just = record { later = []; own = own; program = program; before = with_inputs (reverse events); are = inputs_push events k tt; apart = λ i x within. absurd (omega (arith, within)) }

      of : grown a ≡ Some at
      of = pipes.same a apart ∙ ap piped.wires (sym here.name) ∙ piped.places i here.held here.is here.lives ∙ placed

      feeds : (b : List ℕ) (x : Actor) → (known events).actors b ≡ Some x → HasBorneLast x.past → IsFeeder x.program
      feeds = borne_feeds (among_all crew places) actors (known events) events p w.kept

      -- who runs which program then
      ran_program : (b : List ℕ) (x : Actor) → b ≢ c → t.actors b ≡ Some x → (x_was : Actor) × ((known events).actors b ≡ Some x_was) × (x.program ≡ x_was.program) × (x.life ≡ x_was.life)
      ran_program b x other there = ⊎_elim
          (λ (f : (b ≡ a) × (bytes_eq b a ≡ true)).
          let both : ◌≡◌ {A = Option Actor} (Some (with_deed parent own)) (Some x) = sym acts ∙ ap t.actors (sym f.0) ∙ there in
          let same : with_deed parent own ≡ x = cc in
          (parent, ap (known events).actors f.0 ∙ is, ap (λ (x : Actor). x.program) (sym same), ap (λ (x : Actor). x.life) (sym same)))
          (λ (f : (b ≢ a) × (bytes_eq b a ≡ false)). (x, sym (beside b f.0 other) ∙ there, refl, refl))
          (text_cases b a)

      -- and it is there
      runs_program : (b : List ℕ) (x : Actor) → (known events).actors b ≡ Some x → (now_x : Actor) × (t.actors b ≡ Some now_x) × (now_x.program ≡ x.program)
      runs_program b x there = ⊎_elim
          (λ (f : (b ≡ a) × (bytes_eq b a ≡ true)).
          let both : ◌≡◌ {A = Option Actor} (Some parent) (Some x) = sym is ∙ ap (known events).actors (sym f.0) ∙ there in
          let same : parent ≡ x = cc in
          (with_deed parent own, ap t.actors f.0 ∙ acts, ap (λ (x : Actor). x.program) same))
          (λ (f : (b ≢ a) × (bytes_eq b a ≡ false)). (x, beside b f.0 (known_apart b x there) ∙ there, refl))
          (text_cases b a)
        where
          known_apart : (b : List ℕ) (x : Actor) → (known events).actors b ≡ Some x → b ≢ c
          known_apart b x there same = let both : ◌≡◌ {A = Option Actor} None (Some x) = sym stranger.unknown ∙ ap (known events).actors (sym same) ∙ there in cc

      -- what runs in that slot of its parent
      bears_it : (parent_program : Program) (asked : ChildData) (program : Program) → Starts parent_program asked → IsActor asked → child_of b a asked pid p ≡ Some (c, program) → BearsIn parent_program (slot_of asked) program
      bears_it (Sender start) (child.Bounce room) program may actor born =
          subst (BearsIn (Sender start) 0) (born_parts (bounce_name (b.bounces + 1), Injector (bounce pid p)) c program born).1 (refl, tt)
      bears_it (LocalSpawner start) (child.Local d words uid) program may actor born =
          subst (BearsIn (LocalSpawner start) d) (born_parts (delivery_name (b.deliveries + 1), Delivery p (local_args words uid pid)) c program born).1 tt
      bears_it (Delivery start args) (child.Forward uid room) program may actor born =
          subst (BearsIn (Delivery start args) 0) (born_parts (forward_of a, Injector (forward uid pid p)) c program born).1 (refl, tt)
      bears_it other (child.Remote d domain sender recipient) program may actor born = absurd actor
      bears_it other asked program may actor born = absurd may

      borne_by : (b : List ℕ) (d : ℕ) (e : List ℕ) → t.pipework.programs b d ≡ Some (Runs e) → IsBorne grown t b d e
      borne_by b d e runs = ⊎_elim
          (λ (f : (b ≡ a) × (d ≡ slot) × (e ≡ c)). record {
            child = newborn program;
            is = ap t.actors f.2 ∙ born_now;
            runs = subst (λ (o : Option ℕ). RunsBy o program) (sym (ap grown f.2 ∙ pipes.mine)) pipes.runs;
            bears = λ x there.
                let both : ◌≡◌ {A = Option Actor} (Some (with_deed parent own)) (Some x) = sym acts ∙ ap t.actors (sym f.0) ∙ there in
                let same : with_deed parent own ≡ x = cc in
                subst (λ (x : Actor). BearsIn x.program d program) same (subst (λ (d : ℕ). BearsIn parent.program d program) (sym f.1) (bears_it parent.program asked program may actor born));
          })
          (λ (f : (known events).pipework.programs b d ≡ Some (Runs e)).
          let was = piped.born b d e f in
          let e_now = runs_program e was.child was.is in
          let e_far : e ≢ c = λ same. let both : ◌≡◌ {A = Option Actor} None (Some was.child) = sym stranger.unknown ∙ ap (known events).actors (sym same) ∙ was.is in cc in
          let b_far : b ≢ c = λ same.
          let both : ◌≡◌ {A = Option Tenant} None (Some (Runs e)) =
          sym (no_slots piped.wires mouths (known events).pipework c piped.wired unwired.place d) ∙ ap (λ (b : List ℕ). (known events).pipework.programs b d) (sym same) ∙ f in cc in
          record {
            child = e_now.0;
            is = e_now.1;
            runs = subst (λ (o : Option ℕ). RunsBy o e_now.0.program) (sym (pipes.same e e_far)) (subst (RunsBy (piped.wires e)) (sym e_now.2) was.runs);
            bears = λ x there.
                let b_was = ran_program b x b_far there in
                subst (λ (q : Program). BearsIn q d e_now.0.program) (sym b_was.2) (subst (BearsIn b_was.0.program d) (sym e_now.2) (was.bears b_was.0 b_was.1));
          })
          (ran_then (known events).pipework a c b slot d e runs)

      -- the start of an injector is one that is fed next
      its_slot : (asked : ChildData) → IsActor asked → HasBorneLast (bear_own events p a pid asked ∷ parent.past) → slot_of asked ≡ 0
      its_slot (child.Bounce room) actor borne = refl
      its_slot (child.Forward uid room) actor borne = refl
      its_slot (child.Local d words uid) actor borne = absurd borne
      its_slot (child.Remote d domain sender recipient) actor borne = absurd actor

      runs_there : t.pipework.programs a slot ≡ Some (Runs c)
      runs_there =
          ap (λ (t : Bool). if t && (slot == slot) then Some (Runs c) else (known events).pipework.programs a slot) (same_text a)
          ∙ ⊎_elim
          (λ (f : ((slot == slot) ≡ true) × (slot ≡ slot)). ap (λ (t : Bool). if t then Some (Runs c) else (known events).pipework.programs a slot) f.0)
          (λ (f : ((slot == slot) ≡ false) × (slot ≢ slot)). absurd (f.1 refl))
          (eqb_tells slot slot)

      unborn_awaits : is_awaiting (known events) c ≡ true → ⊥
      unborn_awaits awaits = let both : false ≡ true = sym (stranger_awaits crew mouths actors (known events) events c piped stranger.unknown) ∙ awaits in cc

      fed_still : (b : List ℕ) (x : Actor) → t.actors b ≡ Some x → x.life ≡ Alive → HasBorneLast x.past → MayFeed t later b
      fed_still b x there lives borne = ⊎_elim
          (λ (f : (b ≡ c) × (bytes_eq b c ≡ true)).
          let both : ◌≡◌ {A = Option Actor} (Some (newborn program)) (Some x) = sym born_now ∙ ap t.actors (sym f.0) ∙ there in
          let same : newborn program ≡ x = cc in
          absurd (subst (λ (x : Actor). HasBorneLast x.past) (sym same) borne))
          (λ (f : (b ≢ c) × (bytes_eq b c ≡ false)). ⊎_elim
          (λ (g : (b ≡ a) × (bytes_eq b a ≡ true)).
          let both : ◌≡◌ {A = Option Actor} (Some (with_deed parent own)) (Some x) = sym acts ∙ ap t.actors (sym g.0) ∙ there in
          let same : with_deed parent own ≡ x = cc in
          let first = its_slot asked actor (subst (λ (x : Actor). HasBorneLast x.past) (sym same) borne) in
          subst (MayFeed t later) (sym g.0) (record { child = c; runs = ap (t.pipework.programs a) (sym first) ∙ runs_there; awaiting = child_awaits; just = just }))
          (λ (g : (b ≢ a) × (bytes_eq b a ≡ false)).
          let was = sym (beside b g.0 f.0) ∙ there in
          feed_push (known events) t events k b tt
          (λ e runs awaits. (
            (λ same. g.0 (sym same)),
            (λ same. no_mail (fed_mail crew mouths actors (known events) events piped b x 0 e parent was (feeds b x was borne) runs (ap (known events).actors (sym same) ∙ is)).1),
            (λ same. unborn_awaits (ap (is_awaiting (known events)) same ∙ awaits)),
          ))
          (runs_beside (known events).pipework a c b slot 0 g.0)
          (λ e runs awaits. same_awaits e (λ same. unborn_awaits (ap (is_awaiting (known events)) (sym same) ∙ awaits)) ∙ awaits)
          (piped.fed b x was lives borne))
          (text_cases b a))
          (text_cases b c)

      -- an injector that was started is its parent's newest child
      its_birth : (asked : ChildData) (program : Program) → IsActor asked → child_of b a asked pid p ≡ Some (c, program) → IsMail program → HasBorneLast (bear_own events p a pid asked ∷ parent.past)
      its_birth (child.Bounce room) program actor born mail = tt
      its_birth (child.Forward uid room) program actor born mail = tt
      its_birth (child.Local d words uid) program actor born mail =
          absurd (subst IsMail (sym (born_parts (delivery_name (b.deliveries + 1), Delivery p (local_args words uid pid)) c program born).1) mail)
      its_birth (child.Remote d domain sender recipient) program actor born mail = absurd actor

      awaited_still : (e : List ℕ) (x : Actor) → t.actors e ≡ Some x → IsMail x.program → is_awaiting t e ≡ true → IsAwaited t e
      awaited_still e x there mail awaits = ⊎_elim
          (λ (f : (e ≡ c) × (bytes_eq e c ≡ true)).
          let both : ◌≡◌ {A = Option Actor} (Some (newborn program)) (Some x) = sym born_now ∙ ap t.actors (sym f.0) ∙ there in
          let same : newborn program ≡ x = cc in
          let birth = its_birth asked program actor born (subst (λ (x : Actor). IsMail x.program) (sym same) mail) in
          subst (IsAwaited t) (sym f.0) (record {
            parent = a;
            runs = ap (t.pipework.programs a) (sym (its_slot asked actor birth)) ∙ runs_there;
            actor = with_deed parent own;
            is = acts;
            alive = alive;
            borne = birth;
          }))
          (λ (f : (e ≢ c) × (bytes_eq e c ≡ false)).
          let was = ran_program e x f.0 there in
          let it = piped.awaited e was.0 was.1 (subst IsMail was.2 mail) (sym (same_awaits e f.0) ∙ awaits) in
          let far : it.parent ≢ a = none_of_it crew mouths actors events p a i parent here is alive piped p (found_in (known events) a) (needs.Start asked) due (λ bytes e. cc) e it in
          let other : it.parent ≢ c = λ same. let both : ◌≡◌ {A = Option Actor} None (Some it.actor) = sym stranger.unknown ∙ ap (known events).actors (sym same) ∙ it.is in cc in
          record {
            parent = it.parent;
            runs = runs_beside (known events).pipework a c it.parent slot 0 far ∙ it.runs;
            actor = it.actor;
            is = beside it.parent far other ∙ it.is;
            alive = it.alive;
            borne = it.borne;
          })
          (text_cases e c)

      -- nobody else has the child's name
      old_name : (j : ℕ) (u : Held) → slice_get (set actors i y) j ≡ Some u → u.name ≢ c
      old_name j u at_it e = ⊎_elim
          (λ (f : (j ≡ i) × (y ≡ u)). apart (sym (sym (ap (λ (u : Held). u.name) f.1) ∙ served.name ∙ here.name) ∙ e))
          (λ (f : (j ≢ i) × (slice_get actors j ≡ Some u)).
          let both : ◌≡◌ {A = Option ℕ} None (Some j) = sym bear_new.new ∙ ap (among_all crew places) (sym e) ∙ w.kept.placed j u f.1 in cc)
          (get_set actors i y j u at_it)

      -- each other actor that is no member has its pipes where it had them
      others_then : (j : ℕ) (u : Held) → slice_get (set actors i y) j ≡ Some u → is_member u.name ≡ false → grown u.name ≡ u.wire
      others_then j u at_it other = ⊎_elim
          (λ (f : (j ≡ i) × (y ≡ u)).
          let name_is : here.held.name ≡ u.name = sym served.name ∙ ap (λ (u : Held). u.name) f.1 in
          pipes.same u.name (old_name j u at_it) ∙ ap piped.wires (sym name_is) ∙ piped.others i here.held here.is (ap is_member name_is ∙ other) ∙ sym served.stays.wire ∙ ap (λ (u : Held). u.wire) f.1)
          (λ (f : (j ≢ i) × (slice_get actors j ≡ Some u)). pipes.same u.name (old_name j u at_it) ∙ piped.others j u f.1 other)
          (get_set actors i y j u at_it)

      piped_then : ArePiped crew now now_actors (known later) later
      piped_then =
          let s = known events in
          let wider = length-append (set actors i y) (z ∷ []) in
          let wide = length-set actors i y in
          let many = piped.many in
          let more = pipes.many in
          subst (λ (s : State). ArePiped crew now now_actors s later) (sym is_now) (record {
            wires = grown;
            wired = pipes.wired;
            slots = pipes.slots;
            children = pipes.children;
            over = pipes.over;
            places = each_push (λ (j : ℕ) (u : Held). u.ended ≡ None → grown u.name ≡ u.wire) (set actors i y) z (λ lives. ap grown name ∙ pipes.mine)
                (λ j u at_it lives. pipes.same u.name (old_name j u at_it) ∙ places_still piped.wires actors i here.held y here.is served.name served.ended served.stays piped.places j u at_it lives);
            stands = each_push (λ (j : ℕ) (u : Held). u.ended ≡ None → IsSlotOf grown (t.pipework.slots u.name) u.slot) (set actors i y) z
                (λ lives. subst (IsSlotOf grown (t.pipework.slots z.name)) (sym slot_kept) (a, ap t.pipework.slots name ∙ slot_is s.pipework a c slot, of))
                (λ j u at_it lives. subst (λ (o : Option Slot). IsSlotOf grown o u.slot) (sym (slot_beside s.pipework a c u.name slot (old_name j u at_it)))
                (slot_wires piped.wires grown c (s.pipework.slots u.name) u.slot pipes.same unwired.place
                (stands_still piped.wires s.pipework.slots actors i here.held y here.is served.name served.ended served.stays piped.stands j u at_it lives)));
            others = each_push (λ (j : ℕ) (u : Held). is_member u.name ≡ false → grown u.name ≡ u.wire) (set actors i y) z (λ other. ap grown name ∙ pipes.mine) others_then;
            runs = λ b x there lives. ⊎_elim
                (λ (f : (b ≡ c) × (bytes_eq b c ≡ true)).
                let both : ◌≡◌ {A = Option Actor} (Some (newborn program)) (Some x) = sym born_now ∙ ap t.actors (sym f.0) ∙ there in
                let same : newborn program ≡ x = cc in
                subst (λ (x : Actor). RunsBy (grown b) x.program) same (subst (λ (o : Option ℕ). RunsBy o program) (sym (ap grown f.0 ∙ pipes.mine)) pipes.runs))
                (λ (f : (b ≢ c) × (bytes_eq b c ≡ false)).
                let was = ran_program b x f.0 there in
                subst (λ (o : Option ℕ). RunsBy o x.program) (sym (pipes.same b f.0)) (subst (RunsBy (piped.wires b)) (sym was.2) (piped.runs b was.0 was.1 (sym was.3 ∙ lives))))
                (text_cases b c);
            born = borne_by;
            whole = whole_more events k piped.whole tt;
            fresh = λ b none other_name.
                let other : b ≢ c = λ e. let both : ◌≡◌ {A = Option Actor} None (Some (newborn program)) = sym none ∙ ap t.actors e ∙ born_now in absurd (cc) in
                let far : b ≢ a = λ e. let both : ◌≡◌ {A = Option Actor} None (Some (with_deed parent own)) = sym none ∙ ap t.actors e ∙ acts in absurd (cc) in
                let was = piped.fresh b (sym (beside b far other) ∙ none) other_name in
                record {
                  place = pipes.same b other ∙ was.place;
                  slot = slot_beside s.pipework a c b slot other ∙ was.slot;
                  pipes = λ q own_port. put_away s.pipework.pipes (record { actor = a; port = port.Program slot }) (λ _. fresh) b q far ∙ was.pipes q own_port;
                };
            fed = fed_still;
            awaited = awaited_still;
            count = ⊎_elim
                (λ (f : length mouths ≡ 0). let none = f in absurd (omega (arith, none, four)))
                (λ (f : (4 ≤ length mouths) × (crew ≡ 4)). inr (omega (arith, four, more), f.1))
                piped.count;
            few = piped.few;
            many = omega (arith, wider, wide, many);
            seated = λ j u low at_it lives. omega (arith, four, more);
          })

    pub bear_piped : (at : ℕ) (m v : Mouths) → here.held.wire ≡ Some at → slice_get mouths at ≡ Some m → 4 ≤ length mouths → MayRunIn at slot → HasStartedIn m v slot c
        → (own_pipes : Option Mouths) (now : List Mouths) → HasPipesFor asked own_pipes → HasPlaceAfter (set mouths at v) now own_pipes z.wire → z.slot ≡ Some (at, slot) → ArePiped crew now now_actors (known later) later
    bear_piped at m v placed there four runs_in began own_pipes now has after slot_kept =
        let it = bear_grown at m v placed there four runs_in began own_pipes now z.wire has after in
        piped_then it.0 now at it.1 placed four slot_kept

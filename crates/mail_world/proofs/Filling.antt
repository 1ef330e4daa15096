-- The local spawner gives a delivery its whole input.
use Rattle.std.proofs.Common.{◌≡◌, ◌≢◌, ◌⊎◌, ⊎_elim, ℕ, ◌+◌, ◌≤◌, ◌<◌, List, [], ◌∷◌, ◌++◌, length, set, true, false, Option, Some, None, is_some, refl, sym, ap, ◌∙◌, subst, codes, bytes_eq}
use Rattle.std.specs.Prelude.{not, ◌&&◌}
use Rattle.std.specs.List.{slice_get}
use Rattle.std.proofs.lemmas.List.{length-set}
use Rattle.std.proofs.lemmas.Option.{slice_get_within}
use Rattle.call_fs.specs.Disk.{Disk}
use Rattle.call_fs.proofs.Maps.{put_at_same, put_at_other}
use Rattle.call_fs.specs.Past.{held}
use Rattle.call_fs.specs.declared.past.GotData.TheVariants as got
use Rattle.call_fs.specs.declared.past.NeedData.{NeedData}
use Rattle.call_fs.specs.declared.past.NeedData.TheVariants as needs
use Rattle.call_fs.specs.declared.past.Own.{Own}
use Rattle.call_fs.specs.declared.program.Port.{Port}
use Rattle.call_fs.specs.declared.program.Port.TheVariants as port
use Rattle.world_events.specs.declared.books.Entry.{Entry}
use Rattle.world_events.specs.declared.event.Event.{Event as Kept}
use Rattle.world_events.specs.declared.event.Event.TheVariants as kept
use Rattle.world_pipes.specs.declared.mouths.Mouths.{Mouths}
use Rattle.world_pipes.specs.Mouths.{pipe_of, tenant_of, ended_of, change_at}
use Rattle.world_pipes.specs.Pipework.{Pipe, given, closed, mouth, input_of, put_pipe, is_member}
use Rattle.mail_world.specs.declared.actor.Actor.{Actor as Held}
use Rattle.mail_world.specs.Books.{AreBooked}
use Rattle.world_events.specs.declared.event.Program.{Program}
use Rattle.world_events.specs.declared.event.Program.TheVariants.{Injector, LocalSpawner, Delivery}
use Rattle.mail_world.specs.ByKind.{BearsIn, IsMail}
use Rattle.mail_world.specs.Children.{IsDueOfChild, IsGive, Serves, child_place}
use Rattle.mail_world.specs.Generations.{idled_by}
use Rattle.world_events.specs.declared.answers.Did.{Did}
use Rattle.mail_world.specs.History.{Actor, State, IsDelivery, IsFed, IsInputOf, IsLocalSpawner, acted, next_of, program_of}
use Rattle.mail_world.specs.History.Life.{Alive}
use Rattle.mail_world.specs.World.{Counts, IsKeptGiving, IsKeptTo}
use Rattle.mail_world.specs.Inside.{known, among_all, RunsAt, RunsBy, HasBorneLast, MayFeed, IsAwaited, IsMember, HasOpen, IsOpenTo, IsWorld, ArePiped}
use Rattle.mail_world.specs.Pipework.{Pipework, Slot, Tenant, is_ready}
use Rattle.mail_world.specs.Pipework.Tenant.{Runs}
use Rattle.mail_world.specs.Readiness.{is_gone, is_awaiting, found_in}
use Rattle.mail_world.specs.Wired.{seat, AreWired, IsSlotOf}
use Rattle.mail_world.proofs.Feeders.{IsFeeder}
use Rattle.mail_world.proofs.Booked.{look_booked, pass_booked}
use Rattle.mail_world.proofs.Borne.{feed_push}
use Rattle.mail_world.proofs.Fed.{borne_feeds, fed_mail}
use Rattle.mail_world.proofs.Piped.{borne_put, runs_put}
use Rattle.mail_world.proofs.Crew.{apart_by, crew_acts}
use Rattle.world_pipes.proofs.Keeps.{StayIn, all_stay, slots_set, children_set, over_set, over_alike}
use Rattle.mail_world.proofs.Histories.{LeadsOn, pass_told, led_still}
use Rattle.mail_world.proofs.Known.{known_push}
use Rattle.mail_world.proofs.Unwired.{put_away}
use Rattle.mail_world.proofs.Lists.{each_set}
use Rattle.mail_world.proofs.Passes.{passing}
use Rattle.mail_world.proofs.Serving.{HasParent, HasServed, HasChild, IsAsking, asking, give_is, has_child, child_beside, child_found, with_deed, served_member, deed_open, beside_open, all_open, acting_parent, parent_finds, serves, seated_still, places_still, stands_still, whole_more, bears_no_mail, others_still}
use Rattle.mail_world.proofs.Wires.{wired_pipe}
use Rattle.mail_world.proofs.Numbered.{still_count, before_none, numbered_put}
use Rattle.mail_world.proofs.Worlds.{on_told, pid_push, still_pid}
use Rattle.queue_law.proofs.Tests.{text_cases}

-- What is given

-- the whole input of who runs in a slot lies in its pipe then
abbrev filled_by : Pipework → List ℕ → Option Tenant → Pipework
filled_by w bytes o = record { pipes = put_pipe w.pipes (input_of o) (λ pipe. closed (given bytes pipe)); programs = w.programs; slots = w.slots }

abbrev pub filled : Pipework → List ℕ → List ℕ → Pipework
filled w c bytes = record { pipes = put_pipe w.pipes (Some (mouth c port.Input)) (λ pipe. closed (given bytes pipe)); programs = w.programs; slots = w.slots }

-- a delivery takes what it is given
takes_any : (program : Program) (bytes : List ℕ) → IsDelivery program → IsInputOf program bytes
takes_any (Delivery start args) bytes delivers = tt
takes_any other bytes delivers = absurd delivers

kept_so : (program : Program) (c a : List ℕ) (own : Own) (bytes : List ℕ) → IsDelivery program → IsKeptTo (Some program) c a own bytes (kept.Act a own)
kept_so (Delivery start args) c a own bytes delivers = refl
kept_so other c a own bytes delivers = absurd delivers

no_mail_delivers : (program : Program) → IsMail program → IsDelivery program → ⊥
no_mail_delivers (Injector args) mail delivers = delivers
no_mail_delivers other mail delivers = mail

spawns_none : (program : Program) → IsLocalSpawner program → IsFeeder program → ⊥
spawns_none (LocalSpawner start) spawner feeds = feeds
spawns_none other spawner feeds = spawner

-- what runs in a slot of the local spawner is a delivery, which has pipes
bears_delivery : (program : Program) (d : ℕ) (child : Program) → IsLocalSpawner program → BearsIn program d child → IsDelivery child
bears_delivery (LocalSpawner start) d child spawner bears = bears
bears_delivery other d child spawner bears = absurd spawner

delivery_place : (o : Option ℕ) (program : Program) → RunsBy o program → IsDelivery program → (i : ℕ) × (o ≡ Some i)
delivery_place (Some i) program runs delivers = (i, refl)
delivery_place None program runs delivers = absurd (no_mail_delivers program runs delivers)

-- what is due to the spawner, and to whom it is given
pub record IsFilling (crew : ℕ) (places : List ℕ → Option ℕ) (mouths : List Mouths) (actors : List Held) (events : List Kept) (p : ℕ) (a : List ℕ) (due : NeedData) (wires : List ℕ → Option ℕ) : Type 0 where
  pub asks : IsAsking crew places actors events p a due
  pub slot : ℕ
  pub bytes : List ℕ
  pub due_is : due ≡ needs.Give (port.Program slot) bytes
  pub child : List ℕ
  pub runs : (known events).pipework.programs a slot ≡ Some (Runs child)
  pub spawner : IsLocalSpawner asks.parent.program
  pub here : HasChild crew places actors (known events) events p child
  pub delivers : IsDelivery here.member.actor.program
  pub there : (known events).actors child ≡ Some here.member.actor
  pub found : child_place mouths asks.here.held.wire slot crew places ≡ Some (crew + here.at)
  pub within : crew + here.at < length actors
  pub to : ℕ
  pub of : wires child ≡ Some to
  pub to_is : here.held.wire ≡ Some to
  pub low : to < length mouths
  pub apart : (a ≢ child) × (crew + here.at ≢ asks.at)

pub filling : {D : Type 0} (d : D) (told : Option Disk) (crew : ℕ) (places : List ℕ → Option ℕ) (actors : List Held) (mouths : List Mouths) (events : List Kept) (p n : ℕ) (b : Counts) (a : List ℕ) (due : NeedData)
    → IsWorld told (among_all crew places) actors (known events) events p n b → (piped : ArePiped crew mouths actors (known events) events) → IsDueOfChild (record { disk = d; events = events; present = p }) a due → IsGive due
    → a ≡ codes "lspawn" → IsFilling crew places mouths actors events p a due piped.wires
filling d told crew places actors mouths events p n b a due w piped asked gives lspawn =
    let s = known events in
    let it = asking d told crew places actors events p n b a due w asked in
    let g = give_is s a due gives asked.of_child in
    let c = g.3.child in
    let h = has_child crew places mouths actors s events p a c w.kept piped g.3.runs in
    let m = it.here.member in
    let runs_spawner : IsLocalSpawner m.actor.program = subst (λ (o : Option ℕ). RunsAt o m.actor.program) (ap seat (it.here.name ∙ lspawn)) m.runs in
    let spawner : IsLocalSpawner it.parent.program = subst (λ (a : Actor). IsLocalSpawner a.program) it.here.same runs_spawner in
    let born = piped.born a g.0 c g.3.runs in
    let there : s.actors c ≡ Some h.member.actor = ap s.actors (sym h.name) ∙ h.member.is in
    let both : ◌≡◌ {A = Option Actor} (Some born.child) (Some h.member.actor) = sym born.is ∙ there in
    let one : born.child ≡ h.member.actor = cc in
    let delivers = bears_delivery it.parent.program g.0 born.child.program spawner (born.bears it.parent it.is) in
    let place = delivery_place (piped.wires c) born.child.program born.runs delivers in
    let of : piped.wires a ≡ it.here.held.wire = ap piped.wires (sym it.here.name) ∙ piped.places it.at it.here.held it.here.is it.here.lives in
    record {
      asks = it;
      slot = g.0;
      bytes = g.1;
      due_is = g.2;
      child = c;
      runs = g.3.runs;
      spawner = spawner;
      here = h;
      delivers = subst (λ (a : Actor). IsDelivery a.program) one delivers;
      there = there;
      found = child_found crew places mouths actors s events p a c it.here.held.wire piped.wires g.0 piped.wired of g.3.runs h;
      within = slice_get_within actors (crew + h.at) h.held h.is;
      to = place.0;
      of = place.1;
      to_is = sym (piped.others (crew + h.at) h.held h.is (ap is_member h.name ∙ h.named)) ∙ ap piped.wires h.name ∙ place.1;
      low = piped.wired.within c place.0 place.1 h.named;
      apart = child_beside crew places mouths actors s events p a c it.at it.parent w.kept piped it.here g.3.runs h;
    }

-- It is given

abbrev pub fill_own : List Kept → ℕ → List ℕ → ℕ → List ℕ → Own
fill_own events p a d bytes = record { read = p; ready = found_in (known events) a; due = needs.Give (port.Program d) bytes; came = got.Gave }

module _ (told : Option Disk) (crew : ℕ) (places : List ℕ → Option ℕ) (actors : List Held) (mouths : List Mouths) (entries : List Entry) (events : List Kept) (p n : ℕ) (b : Counts) (a : List ℕ) (i : ℕ) (parent : Actor)
    (w : IsWorld told (among_all crew places) actors (known events) events p n b) (piped : ArePiped crew mouths actors (known events) events)
    (is : (known events).actors a ≡ Some parent) (alive : parent.life ≡ Alive) (here : HasParent actors (known events) events p a i parent)
    (slot : ℕ) (bytes : List ℕ) (c : List ℕ) (runs : (known events).pipework.programs a slot ≡ Some (Runs c)) (child : Actor) (there : (known events).actors c ≡ Some child) (delivers : IsDelivery child.program)
    (spawner : IsLocalSpawner parent.program) (due : next_of parent.program parent.past p (found_in (known events) a) ≡ needs.Give (port.Program slot) bytes) where
  abbrev own : Own
  own = fill_own events p a slot bytes

  abbrev k : Kept
  k = kept.Act a own

  abbrev later : List Kept
  later = events ++ k ∷ []

  abbrev t : State
  t = acted (known events) a own 0 (Some parent)

  is_now : known later ≡ t
  is_now = known_push events k tt ∙ ap (acted (known events) a own 0) is

  pub fill_leads : LeadsOn told told events later p p
  fill_leads = pass_told told events p a parent own piped.whole (acting_parent crew mouths actors events p a i parent here is alive)
      (parent_finds crew mouths actors events p a i parent here is alive) refl due tt
      (λ t pipes same. subst (λ (o : Option Tenant). IsFed t o bytes) (sym (ap (λ (w : Pipework). w.programs a slot) pipes ∙ runs))
      (λ x at. takes_any x.program bytes (its_kind x (ap (λ (f : List ℕ → Option Actor). f c) (sym same) ∙ at))))
    where
      its_kind : (x : Actor) → (known events).actors c ≡ Some x → IsDelivery x.program
      its_kind x at = let both : ◌≡◌ {A = Option Actor} (Some child) (Some x) = sym there ∙ at in let one : child ≡ x = cc in subst (λ (x : Actor). IsDelivery x.program) one delivers

  pub fill_serves : {D : Type 0} (tells : D → Option Disk) (d : D) → tells d ≡ told → (did : Did) → did.at ≡ length events → did.ended ≡ None → did.idle ≡ idled_by ((known events).actors a) own
      → Serves tells a (record { disk = d; events = events; present = p }) (record { disk = d; events = later; present = p }) did
  fill_serves tells d same did at over idle = serves tells d events p a own k did
      (record { actor = parent; is = is; read = refl; ready = refl; due = due; came = refl })
      (subst (λ (o : Option Tenant). IsKeptGiving (known events) o a own bytes k) (sym runs)
      (subst (λ (o : Option Actor). IsKeptTo (program_of o) c a own bytes k) (sym there) (kept_so child.program c a own bytes delivers)))
      (subst (λ (o : Option Disk). LeadsOn o o events later p p) (sym same) fill_leads) at over idle refl

  pipes_are : t.pipework ≡ filled (known events).pipework c bytes
  pipes_are = ap (filled_by (known events).pipework bytes) runs

  -- each but the child awaits what it awaited
  same_awaits : (b : List ℕ) → b ≢ c → is_awaiting t b ≡ is_awaiting (known events) b
  same_awaits b far =
      ap (λ (w : Pipework). is_some (w.slots b) && not (is_ready (w.pipes b port.Input))) pipes_are
      ∙ ap (λ (pipe : Pipe). is_some ((known events).pipework.slots b) && not (is_ready pipe))
      (put_away (known events).pipework.pipes (mouth c port.Input) (λ pipe. closed (given bytes pipe)) b port.Input far)

  -- an injector isn't it
  mail_far : (b : List ℕ) (x : Actor) → (known events).actors b ≡ Some x → IsMail x.program → b ≢ c
  mail_far b x at mail same =
      let both : ◌≡◌ {A = Option Actor} (Some child) (Some x) = sym there ∙ ap (known events).actors (sym same) ∙ at in
      let one : child ≡ x = cc in
      no_mail_delivers x.program mail (subst (λ (x : Actor). IsDelivery x.program) one delivers)

  acts : t.actors a ≡ Some (with_deed parent own)
  acts = put_at_same (known events).actors a _

  beside : (b : List ℕ) → b ≢ a → t.actors b ≡ (known events).actors b
  beside b far = put_at_other (known events).actors a _ b far

  -- its parent is no injector
  no_mail : IsMail parent.program → ⊥
  no_mail mail =
      let born = piped.born a slot c runs in
      bears_no_mail parent.program slot born.child.program (born.bears parent is) mail

  module _ (y : Held) (served : HasServed here.held y own (length events) parent) where
    member : IsMember t later p y
    member =
        served_member actors (known events) t events k p a i parent here y own served refl refl refl acts refl due tt no_mail

    opens : (d : Disk) → IsOpenTo d actors (known events) → IsOpenTo d (set actors i y) t
    opens d o =
        let s = known events in
        let x = here.held in
        all_open d actors (set actors i y) s t refl o (each_set (λ (j : ℕ) (z : Held). HasOpen d t z) actors i y
        (deed_open d s t x y own parent refl served.name served.descriptors (ap s.actors here.name ∙ is) alive (ap t.actors here.name ∙ acts)
        ((passing (needs.Give (port.Program slot) bytes) got.Gave tt).held (held parent.past)) (o.each i x here.is))
        (λ j z other at. beside_open d s t z refl (beside z.name (λ e. apart_by (among_all crew places) x.name z.name i j (w.kept.placed i x here.is) (w.kept.placed j z at) other (e ∙ sym here.name))) (o.each j z at)))

    pub fill_keeps : IsWorld told (among_all crew places) (set actors i y) (known later) later p n b
    fill_keeps =
        let s = known events in
        subst (λ (s : State). IsWorld told (among_all crew places) (set actors i y) s later p n b) (sym is_now) (record {
          moment = w.moment;
          now = w.now;
          pid = w.pid ∙ sym (pid_push events k ∙ still_pid events k refl);
          count = w.count ∙ sym (still_count events k refl);
          unborn = w.unborn;
          undelivered = w.undelivered;
          numbered = numbered_put s t a parent (with_deed parent own) is refl refl (before_none own parent.past) w.numbered;
          kept = crew_acts (among_all crew places) actors s t events k p i here.held y w.kept here.is served.name (record {
            actors = λ b apart. beside b (λ e. apart (e ∙ sym here.name));
            holder = λ b apart fd was. was;
            no_start = λ b apart. refl;
            no_end = λ b apart. refl;
          }) (λ b. refl) (λ b x at mail apart. same_awaits b (mail_far b x at mail)) member;
          opens = on_told told (λ d. IsOpenTo d actors s) (λ d. IsOpenTo d (set actors i y) t) opens w.opens;
          led = led_still told events later p p fill_leads w.led;
        })

    pub fill_booked : AreBooked crew entries actors events → AreBooked crew entries (set actors i y) later
    fill_booked booked =
        pass_booked crew (set actors i y) events entries a own tt (look_booked crew actors events i here.held y entries booked here.is served.name served.stays.entry)

    module _ (to : ℕ) (of : piped.wires c ≡ Some to) (m v : Mouths) (there_is : slice_get mouths to ≡ Some m)
        (pipes : (q : Port) → pipe_of v q ≡ change_at port.Input (λ pipe. closed (given bytes pipe)) (pipe_of m) q)
        (tenants : (d : ℕ) → tenant_of v d ≡ tenant_of m d) (over : (d : ℕ) → ended_of v d ≡ ended_of m d)
        (slots : length v.slots.items ≡ length m.slots.items) where
      stay : StayIn m v
      stay = all_stay m v tenants over

      -- who is gone was
      gone_same : (b : List ℕ) → is_gone (t.actors b) ≡ is_gone ((known events).actors b)
      gone_same b = ⊎_elim
          (λ (f : (b ≡ a) × (bytes_eq b a ≡ true)). ap (λ (b : List ℕ). is_gone (t.actors b)) f.0 ∙ ap is_gone acts ∙ sym (ap is_gone is) ∙ ap (λ (b : List ℕ). is_gone ((known events).actors b)) (sym f.0))
          (λ f. ap is_gone (beside b f.0))
          (text_cases b a)

      -- each slot is as it was
      runs_then : (b : List ℕ) (d : ℕ) → t.pipework.programs b d ≡ (known events).pipework.programs b d
      runs_then b d = ap (λ (w : Pipework). w.programs b d) pipes_are

      fed_still : (b : List ℕ) (x : Actor) → t.actors b ≡ Some x → x.life ≡ Alive → HasBorneLast x.past → MayFeed t later b
      fed_still b x at lives borne = ⊎_elim
          (λ (f : (b ≡ a) × (bytes_eq b a ≡ true)).
          let both : ◌≡◌ {A = Option Actor} (Some (with_deed parent own)) (Some x) = sym acts ∙ ap t.actors (sym f.0) ∙ at in
          let same : with_deed parent own ≡ x = cc in
          absurd (subst (λ (x : Actor). HasBorneLast x.past) (sym same) borne))
          (λ (f : (b ≢ a) × (bytes_eq b a ≡ false)).
          let was : (known events).actors b ≡ Some x = sym (beside b f.0) ∙ at in
          let feeds = borne_feeds (among_all crew places) actors (known events) events p w.kept b x was borne in
          feed_push (known events) t events k b tt
          (λ e runs awaits. (
            (λ same. f.0 (sym same)),
            (λ same. no_mail (fed_mail crew mouths actors (known events) events piped b x 0 e parent was feeds runs (ap (known events).actors (sym same) ∙ is)).1),
          ))
          (runs_then b 0)
          (λ e runs awaits.
          let born = piped.born b 0 e runs in
          same_awaits e (mail_far e born.child born.is (fed_mail crew mouths actors (known events) events piped b x 0 e born.child was feeds runs born.is).1) ∙ awaits)
          (piped.fed b x was lives borne))
          (text_cases b a)

      awaited_still : (b : List ℕ) (x : Actor) → t.actors b ≡ Some x → IsMail x.program → is_awaiting t b ≡ true → IsAwaited t b
      awaited_still b x at mail awaits =
          let other : b ≢ a = λ same.
          let both : ◌≡◌ {A = Option Actor} (Some (with_deed parent own)) (Some x) = sym acts ∙ ap t.actors (sym same) ∙ at in
          let one : with_deed parent own ≡ x = cc in
          no_mail (subst (λ (x : Actor). IsMail x.program) (sym one) mail) in
          let was : (known events).actors b ≡ Some x = sym (beside b other) ∙ at in
          let it = piped.awaited b x was mail (sym (same_awaits b (mail_far b x was mail)) ∙ awaits) in
          let far : it.parent ≢ a = λ same.
          let both : ◌≡◌ {A = Option Actor} (Some it.actor) (Some parent) = sym it.is ∙ ap (known events).actors same ∙ is in
          let one : it.actor ≡ parent = cc in
          spawns_none parent.program spawner (subst (λ (x : Actor). IsFeeder x.program) one (borne_feeds (among_all crew places) actors (known events) events p w.kept it.parent it.actor it.is it.borne)) in
          record {
            parent = it.parent;
            runs = runs_then it.parent 0 ∙ it.runs;
            actor = it.actor;
            is = beside it.parent far ∙ it.is;
            alive = it.alive;
            borne = it.borne;
          }

      unlike : (b : List ℕ) → (known events).actors b ≡ None → b ≢ c
      unlike b none same = let both : ◌≡◌ {A = Option Actor} None (Some child) = sym none ∙ ap (known events).actors same ∙ there in cc

      pub fill_piped : ArePiped crew (set mouths to v) (set actors i y) (known later) later
      fill_piped =
          let s = known events in
          let grown = length-set mouths to v in
          subst (λ (s : State). ArePiped crew (set mouths to v) (set actors i y) s later) (sym is_now) (record {
            wires = piped.wires;
            wired = subst (AreWired piped.wires (set mouths to v)) (sym pipes_are) (wired_pipe piped.wires mouths c to m v of there_is s.pipework piped.wired port.Input (λ pipe. closed (given bytes pipe)) pipes tenants);
            slots = slots_set mouths to m v there_is slots piped.slots;
            children = children_set mouths to m v there_is (λ d e r. (stay d e r).0) piped.children;
            over = over_alike (λ b. is_gone (s.actors b)) (λ b. is_gone (t.actors b)) (set mouths to v) (λ j u d e at_it r. gone_same e)
                (over_set (λ b. is_gone (s.actors b)) mouths to m v there_is stay piped.over);
            places = places_still piped.wires actors i here.held y here.is served.name served.ended served.stays piped.places;
            stands = λ j z at_it lives. subst (λ (o : Option Slot). IsSlotOf piped.wires o z.slot) (sym (ap (λ (w : Pipework). w.slots z.name) pipes_are))
                (stands_still piped.wires s.pipework.slots actors i here.held y here.is served.name served.ended served.stays piped.stands j z at_it lives);
            others = others_still (λ (z : Held). piped.wires z.name ≡ z.wire) actors i here.held y here.is served.name
                (λ of. ap piped.wires served.name ∙ of ∙ sym served.stays.wire) piped.others;
            runs = runs_put s.actors a parent (with_deed parent own) is refl piped.wires (λ lives. lives) piped.runs;
            born = λ b d e r. borne_put s.actors a parent (with_deed parent own) is refl piped.wires s t refl refl b d e
                (piped.born b d e (sym (runs_then b d) ∙ r));
            whole = whole_more events k piped.whole tt;
            fresh = λ b none named.
                let far : b ≢ a = λ e. let both : ◌≡◌ {A = Option Actor} None (Some (with_deed parent own)) = sym none ∙ ap t.actors e ∙ acts in absurd (cc) in
                let was = piped.fresh b (sym (beside b far) ∙ none) named in
                record {
                  place = was.place;
                  slot = ap (λ (w : Pipework). w.slots b) pipes_are ∙ was.slot;
                  pipes = λ q own_port. ap (λ (w : Pipework). w.pipes b q) pipes_are
                      ∙ put_away s.pipework.pipes (mouth c port.Input) (λ pipe. closed (given bytes pipe)) b q (unlike b (sym (beside b far) ∙ none)) ∙ was.pipes q own_port;
                };
            fed = fed_still;
            awaited = awaited_still;
            count = subst (λ (l : ℕ). (l ≡ 0) ⊎ ((4 ≤ l) × (crew ≡ 4))) (sym grown) piped.count;
            few = piped.few;
            many = subst (λ (l : ℕ). crew ≤ l) (sym (length-set actors i y)) piped.many;
            seated = λ j z low at_it lives. subst (λ (l : ℕ). 4 ≤ l) (sym grown) (seated_still crew (length mouths) i actors here.held y here.is served.ended piped.seated j z low at_it lives);
          })

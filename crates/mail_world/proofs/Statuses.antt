-- An actor takes the status of its child.
use Rattle.std.proofs.Common.{◌≡◌, ◌≢◌, ◌⊎◌, inr, ⊎_elim, ℕ, ◌+◌, ◌≤◌, ◌<◌, List, [], ◌∷◌, ◌++◌, length, set, Bool, true, false, if◌then◌else◌, Option, Some, None, is_some, refl, sym, ap, ◌∙◌, subst, bytes_eq}
use Rattle.std.specs.Prelude.{not, ◌&&◌, ◌==◌}
use Rattle.std.specs.List.{slice_get}
use Rattle.std.proofs.lemmas.Bool.Decides.{eqb_tells}
use Rattle.std.proofs.lemmas.List.{length-set}
use Rattle.std.proofs.lemmas.Option.{slice_get_within}
use Rattle.call_fs.specs.Disk.{Disk}
use Rattle.call_fs.proofs.Maps.{put_at_same, put_at_other}
use Rattle.call_fs.specs.Past.{held}
use Rattle.call_fs.specs.Program.{IsKind, IsWithin}
use Rattle.call_fs.specs.declared.past.GotData.{GotData}
use Rattle.call_fs.specs.declared.past.GotData.TheVariants as got
use Rattle.call_fs.specs.declared.past.NeedData.{NeedData}
use Rattle.call_fs.specs.declared.past.NeedData.TheVariants as needs
use Rattle.call_fs.specs.declared.past.Own.{Own}
use Rattle.call_fs.specs.declared.program.Port.{Port}
use Rattle.call_fs.specs.declared.program.Port.TheVariants as port
use Rattle.world_events.specs.declared.books.Entry.{Entry}
use Rattle.world_events.specs.declared.event.Event.{Event as Kept}
use Rattle.world_events.specs.declared.event.Event.TheVariants as kept
use Rattle.world_pipes.specs.declared.mouths.Mouths.{Mouths}
use Rattle.world_pipes.specs.Mouths.{pipe_of, tenant_of, ended_of}
use Rattle.mail_world.specs.declared.actor.Actor.{Actor as Held}
use Rattle.mail_world.specs.Acting.{status_of}
use Rattle.mail_world.specs.Books.{AreBooked}
use Rattle.mail_world.specs.ByKind.{IsMail}
use Rattle.mail_world.specs.Children.{IsDueOfChild, IsTake, Serves, child_place}
use Rattle.mail_world.specs.Generations.{CanNot, Waits, idled_by}
use Rattle.world_events.specs.declared.answers.Did.{Did}
use Rattle.mail_world.specs.History.{Actor, Life, State, IsStatusOf, TenantEnds, acted, next_of}
use Rattle.mail_world.specs.History.Life.{Alive}
use Rattle.mail_world.specs.World.{Counts, EndsInWorld}
use Rattle.mail_world.specs.Inside.{known, among_all, life_by, HasBorneLast, MayFeed, IsAwaited, IsMember, HasOpen, IsOpenTo, IsWorld, ArePiped}
use Rattle.mail_world.specs.Pipework.{Pipework, Slot, Tenant, is_ready, put_program, pipework_after}
use Rattle.mail_world.specs.Pipework.Tenant.{Runs}
use Rattle.mail_world.specs.Readiness.{has_ended, is_gone, is_over, is_awaiting, found_in}
use Rattle.mail_world.specs.Wired.{tenant_in, kept_at, AreWired, IsSlotOf}
use Rattle.mail_world.proofs.Booked.{look_booked, pass_booked}
use Rattle.mail_world.proofs.Borne.{feed_push}
use Rattle.mail_world.proofs.Fed.{borne_feeds, fed_mail}
use Rattle.mail_world.proofs.Piped.{borne_put, runs_put}
use Rattle.mail_world.proofs.Crew.{apart_by, crew_acts}
use Rattle.world_pipes.proofs.Keeps.{StayIn, others_stay, slots_set, children_set, over_set, over_alike}
use Rattle.mail_world.proofs.Histories.{LeadsOn, pass_told, led_still}
use Rattle.mail_world.proofs.Known.{known_push}
use Rattle.mail_world.proofs.Leaving.{in_slot}
use Rattle.mail_world.proofs.Lists.{each_set}
use Rattle.mail_world.proofs.Passes.{passing}
use Rattle.mail_world.proofs.Serving.{HasParent, HasServed, HasChild, IsAsking, asking, take_is, has_child, child_beside, child_found, with_deed, served_member, deed_open, beside_open, all_open, acting_parent, parent_finds, none_of_it, serves, seated_still, places_still, stands_still, whole_more, bears_no_mail, others_still}
use Rattle.mail_world.proofs.Wires.{wired_program}
use Rattle.mail_world.proofs.Numbered.{still_count, before_none, numbered_put}
use Rattle.mail_world.proofs.Worlds.{on_told, pid_push, still_pid}
use Rattle.queue_law.proofs.Tests.{text_cases, other_text}

-- What its status is

-- a child that is over has one
pub status_is : (o status : Option ℕ) (came : GotData) → status_of o status ≡ Some came → IsStatusOf (life_by o status) came
status_is None status came is = absurd (cc)
status_is (Some at) (Some status) came is = let same : got.Ended status ≡ came = cc in sym same
status_is (Some at) None came is = let same : got.Crashed ≡ came = cc in sym same

pub status_kind : (d : ℕ) (o status : Option ℕ) (came : GotData) → status_of o status ≡ Some came → IsKind (needs.Take (port.Status d)) came
status_kind d None status came is = absurd (cc)
status_kind d (Some at) (Some status) came is = let same : got.Ended status ≡ came = cc in subst (IsKind (needs.Take (port.Status d))) same tt
status_kind d (Some at) None came is = let same : got.Crashed ≡ came = cc in subst (IsKind (needs.Take (port.Status d))) same tt

pub status_within : (o status : Option ℕ) (came : GotData) → status_of o status ≡ Some came → (most : ℕ) → IsWithin most came
status_within None status came is most = absurd (cc)
status_within (Some at) (Some status) came is most = let same : got.Ended status ≡ came = cc in subst (IsWithin most) same tt
status_within (Some at) None came is most = let same : got.Crashed ≡ came = cc in subst (IsWithin most) same tt

-- its slot is free then
abbrev freed : Pipework → List ℕ → ℕ → Pipework
freed w a d = record { pipes = w.pipes; programs = put_program w.programs a d None; slots = w.slots }

status_frees : (d : ℕ) (o status : Option ℕ) (came : GotData) → status_of o status ≡ Some came → (w : Pipework) (a : List ℕ) → pipework_after w a (needs.Take (port.Status d)) came 0 ≡ freed w a d
status_frees d None status came is w a = absurd (cc)
status_frees d (Some at) (Some status) came is w a =
    let same : got.Ended status ≡ came = cc in ap (λ (came : GotData). pipework_after w a (needs.Take (port.Status d)) came 0) (sym same)
status_frees d (Some at) None came is w a =
    let same : got.Crashed ≡ came = cc in ap (λ (came : GotData). pipework_after w a (needs.Take (port.Status d)) came 0) (sym same)

-- who runs in a slot then ran there
ran_still : (w : Pipework) (a : List ℕ) (d : ℕ) (b : List ℕ) (e : ℕ) (c : List ℕ) → (freed w a d).programs b e ≡ Some (Runs c) → w.programs b e ≡ Some (Runs c)
ran_still w a d b e c runs = ⊎_elim
    (λ (f : (b ≡ a) × (bytes_eq b a ≡ true)). ⊎_elim
    (λ (g : ((e == d) ≡ true) × (e ≡ d)).
    let both : ◌≡◌ {A = Option Tenant} None (Some (Runs c)) =
    sym (ap (λ (t : Bool). if t && (e == d) then None else w.programs b e) f.1 ∙ ap (λ (t : Bool). if t then None else w.programs b e) g.0) ∙ runs in absurd (cc))
    (λ (g : ((e == d) ≡ false) × (e ≢ d)).
    sym (ap (λ (t : Bool). if t && (e == d) then None else w.programs b e) f.1 ∙ ap (λ (t : Bool). if t then None else w.programs b e) g.0) ∙ runs)
    (eqb_tells e d))
    (λ (f : (b ≢ a) × (bytes_eq b a ≡ false)). sym (ap (λ (t : Bool). if t && (e == d) then None else w.programs b e) f.1) ∙ runs)
    (text_cases b a)

none_lasts : (o status : Option ℕ) → status_of o status ≡ None → o ≡ None
none_lasts None status is = refl
none_lasts (Some at) None is = absurd (cc)
none_lasts (Some at) (Some status) is = absurd (cc)

-- a child that isn't over makes its parent wait
pub status_waits : (crew : ℕ) (places : List ℕ → Option ℕ) (actors : List Held) (events : List Kept) (p : ℕ) (a : List ℕ) (parent : Actor) (d : ℕ) (c : List ℕ) → (known events).actors a ≡ Some parent → parent.life ≡ Alive
    → next_of parent.program parent.past p (found_in (known events) a) ≡ needs.Take (port.Status d) → (known events).pipework.programs a d ≡ Some (Runs c)
    → (h : HasChild crew places actors (known events) events p c) → status_of h.held.ended h.held.status ≡ None → Waits (known events) p a
status_waits crew places actors events p a parent d c is alive due runs h none =
    let s = known events in
    let life : h.member.actor.life ≡ Alive = h.member.life ∙ ap (λ (o : Option ℕ). life_by o h.held.status) (none_lasts h.held.ended h.held.status none) in
    let there : s.actors c ≡ Some h.member.actor = ap s.actors (sym h.name) ∙ h.member.is in
    let lasts : has_ended s (s.pipework.programs a d) ≡ false =
    ap (has_ended s) runs ∙ ap is_gone there ∙ ap is_over life in
    record { actor = parent; is = is; alive = alive; due = subst (CanNot s a) (sym due) lasts }

-- what is due to the parent, and whose status it is
pub record IsTaking (crew : ℕ) (places : List ℕ → Option ℕ) (mouths : List Mouths) (actors : List Held) (events : List Kept) (p : ℕ) (a : List ℕ) (due : NeedData) : Type 0 where
  pub asks : IsAsking crew places actors events p a due
  pub slot : ℕ
  pub due_is : due ≡ needs.Take (port.Status slot)
  pub child : List ℕ
  pub runs : (known events).pipework.programs a slot ≡ Some (Runs child)
  pub wire : ℕ
  pub wire_is : asks.here.held.wire ≡ Some wire
  pub low : wire < length mouths
  pub here : HasChild crew places actors (known events) events p child
  pub found : child_place mouths (Some wire) slot crew places ≡ Some (crew + here.at)
  pub within : crew + here.at < length actors
  pub apart : (a ≢ child) × (crew + here.at ≢ asks.at)

-- who has a child has pipes
some_wire : (mouths : List Mouths) (wire : Option ℕ) (d : ℕ) (c : List ℕ) → tenant_in (kept_at wire mouths) d ≡ Some (Runs c) → (i : ℕ) × (wire ≡ Some i) × (i < length mouths)
some_wire mouths None d c runs = absurd (cc)
some_wire mouths (Some i) d c runs = by_mouth (slice_get mouths i) refl runs where
  by_mouth : (o : Option Mouths) → slice_get mouths i ≡ o → tenant_in o d ≡ Some (Runs c) → (j : ℕ) × (Some i ≡ Some j) × (j < length mouths)
  by_mouth None at runs = absurd (cc)
  by_mouth (Some m) at runs = (i, refl, slice_get_within mouths i m at)

pub taking : {D : Type 0} (d : D) (told : Option Disk) (crew : ℕ) (places : List ℕ → Option ℕ) (actors : List Held) (mouths : List Mouths) (events : List Kept) (p n : ℕ) (b : Counts) (a : List ℕ) (due : NeedData)
    → IsWorld told (among_all crew places) actors (known events) events p n b → ArePiped crew mouths actors (known events) events → IsDueOfChild (record { disk = d; events = events; present = p }) a due → IsTake due
    → IsTaking crew places mouths actors events p a due
taking d told crew places actors mouths events p n b a due w piped asked takes =
    let s = known events in
    let it = asking d told crew places actors events p n b a due w asked in
    let t = take_is s a due takes asked.of_child in
    let h = has_child crew places mouths actors s events p a t.2.child w.kept piped t.2.runs in
    let of : piped.wires a ≡ it.here.held.wire = ap piped.wires (sym it.here.name) ∙ piped.places it.at it.here.held it.here.is it.here.lives in
    let wire = some_wire mouths it.here.held.wire t.0 t.2.child (in_slot piped.wires mouths s a t.2.child it.here.held.wire piped.wired of t.2.runs) in
    record {
      asks = it;
      slot = t.0;
      due_is = t.1;
      child = t.2.child;
      runs = t.2.runs;
      wire = wire.0;
      wire_is = wire.1;
      low = wire.2;
      here = h;
      found = child_found crew places mouths actors s events p a t.2.child (Some wire.0) piped.wires t.0 piped.wired (of ∙ wire.1) t.2.runs h;
      within = slice_get_within actors (crew + h.at) h.held h.is;
      apart = child_beside crew places mouths actors s events p a t.2.child it.at it.parent w.kept piped it.here t.2.runs h;
    }

-- It is taken

abbrev pub status_own : List Kept → ℕ → List ℕ → ℕ → GotData → Own
status_own events p a d came = record { read = p; ready = found_in (known events) a; due = needs.Take (port.Status d); came = came }

module _ (told : Option Disk) (crew : ℕ) (places : List ℕ → Option ℕ) (actors : List Held) (mouths : List Mouths) (entries : List Entry) (events : List Kept) (p n : ℕ) (b : Counts) (a : List ℕ) (i : ℕ) (parent : Actor)
    (w : IsWorld told (among_all crew places) actors (known events) events p n b) (piped : ArePiped crew mouths actors (known events) events)
    (is : (known events).actors a ≡ Some parent) (alive : parent.life ≡ Alive) (here : HasParent actors (known events) events p a i parent)
    (slot : ℕ) (c : List ℕ) (runs : (known events).pipework.programs a slot ≡ Some (Runs c)) (h : HasChild crew places actors (known events) events p c)
    (came : GotData) (ended : status_of h.held.ended h.held.status ≡ Some came)
    (due : next_of parent.program parent.past p (found_in (known events) a) ≡ needs.Take (port.Status slot)) where
  abbrev own : Own
  own = status_own events p a slot came

  abbrev k : Kept
  k = kept.Act a own

  abbrev later : List Kept
  later = events ++ k ∷ []

  abbrev t : State
  t = acted (known events) a own 0 (Some parent)

  is_now : known later ≡ t
  is_now = known_push events k tt ∙ ap (acted (known events) a own 0) is

  there : (known events).actors c ≡ Some h.member.actor
  there = ap (known events).actors (sym h.name) ∙ h.member.is

  is_status : IsStatusOf h.member.actor.life came
  is_status = subst (λ (life : Life). IsStatusOf life came) (sym h.member.life) (status_is h.held.ended h.held.status came ended)

  pub status_ends : EndsInWorld (known events) ((known events).pipework.programs a slot) came
  status_ends = subst (λ (o : Option Tenant). EndsInWorld (known events) o came) (sym runs) (h.member.actor, there, is_status)

  pub status_leads : LeadsOn told told events later p p
  status_leads = pass_told told events p a parent own piped.whole (acting_parent crew mouths actors events p a i parent here is alive)
      (parent_finds crew mouths actors events p a i parent here is alive) refl due tt
      (λ t pipes same. inr (subst (λ (o : Option Tenant). TenantEnds t o came) (sym (ap (λ (w : Pipework). w.programs a slot) pipes ∙ runs))
      (h.member.actor, ap (λ (f : List ℕ → Option Actor). f c) same ∙ there, is_status)))

  pub status_serves : {D : Type 0} (tells : D → Option Disk) (d : D) → tells d ≡ told → (did : Did) → did.at ≡ length events → did.ended ≡ None → did.idle ≡ idled_by ((known events).actors a) own
      → Serves tells a (record { disk = d; events = events; present = p }) (record { disk = d; events = later; present = p }) did
  status_serves tells d same did at over idle = serves tells d events p a own k did
      (record { actor = parent; is = is; read = refl; ready = refl; due = due; came = status_ends }) refl
      (subst (λ (o : Option Disk). LeadsOn o o events later p p) (sym same) status_leads) at over idle refl

  pipes_are : t.pipework ≡ freed (known events).pipework a slot
  pipes_are = status_frees slot h.held.ended h.held.status came ended (known events).pipework a

  same_awaits : (b : List ℕ) → is_awaiting t b ≡ is_awaiting (known events) b
  same_awaits b = ap (λ (w : Pipework). is_some (w.slots b) && not (is_ready (w.pipes b port.Input))) pipes_are

  acts : t.actors a ≡ Some (with_deed parent own)
  acts = put_at_same (known events).actors a _

  beside : (b : List ℕ) → b ≢ a → t.actors b ≡ (known events).actors b
  beside b far = put_at_other (known events).actors a _ b far

  -- its parent is no injector
  no_mail : IsMail parent.program → ⊥
  no_mail mail =
      let born = piped.born a slot c runs in
      bears_no_mail parent.program slot born.child.program (born.bears parent is) mail

  module _ (y : Held) (served : HasServed here.held y own (length events) parent) where
    member : IsMember t later p y
    member =
        served_member actors (known events) t events k p a i parent here y own served refl refl refl acts refl due (status_kind slot h.held.ended h.held.status came ended) no_mail

    opens : (d : Disk) → IsOpenTo d actors (known events) → IsOpenTo d (set actors i y) t
    opens d o =
        let s = known events in
        let x = here.held in
        all_open d actors (set actors i y) s t refl o (each_set (λ (j : ℕ) (z : Held). HasOpen d t z) actors i y
        (deed_open d s t x y own parent refl served.name served.descriptors (ap s.actors here.name ∙ is) alive (ap t.actors here.name ∙ acts)
        ((passing (needs.Take (port.Status slot)) came tt).held (held parent.past)) (o.each i x here.is))
        (λ j z other at. beside_open d s t z refl (beside z.name (λ e. apart_by (among_all crew places) x.name z.name i j (w.kept.placed i x here.is) (w.kept.placed j z at) other (e ∙ sym here.name))) (o.each j z at)))

    pub status_keeps : IsWorld told (among_all crew places) (set actors i y) (known later) later p n b
    status_keeps =
        let s = known events in
        subst (λ (s : State). IsWorld told (among_all crew places) (set actors i y) s later p n b) (sym is_now) (record {
          moment = w.moment;
          now = w.now;
          pid = w.pid ∙ sym (pid_push events k ∙ still_pid events k refl);
          count = w.count ∙ sym (still_count events k refl);
          unborn = w.unborn;
          undelivered = w.undelivered;
          numbered = numbered_put s t a parent (with_deed parent own) is refl refl (before_none own parent.past) w.numbered;
          kept = crew_acts (among_all crew places) actors s t events k p i here.held y w.kept here.is served.name (record {
            actors = λ b apart. beside b (λ e. apart (e ∙ sym here.name));
            holder = λ b apart fd was. was;
            no_start = λ b apart. refl;
            no_end = λ b apart. refl;
          }) (λ b. refl) (λ b x there mail apart. same_awaits b) member;
          opens = on_told told (λ d. IsOpenTo d actors s) (λ d. IsOpenTo d (set actors i y) t) opens w.opens;
          led = led_still told events later p p status_leads w.led;
        })

    pub status_booked : AreBooked crew entries actors events → AreBooked crew entries (set actors i y) later
    status_booked booked =
        pass_booked crew (set actors i y) events entries a own tt (look_booked crew actors events i here.held y entries booked here.is served.name served.stays.entry)

    module _ (at : ℕ) (placed : here.held.wire ≡ Some at) (m v : Mouths) (there_is : slice_get mouths at ≡ Some m) (pipes : (q : Port) → pipe_of v q ≡ pipe_of m q)
        (tenants : (d : ℕ) → tenant_of v d ≡ (if d == slot then None else tenant_of m d)) (over : (d : ℕ) → ended_of v d ≡ (if d == slot then false else ended_of m d))
        (slots : length v.slots.items ≡ length m.slots.items) where
      of : piped.wires a ≡ Some at
      of = ap piped.wires (sym here.name) ∙ piped.places i here.held here.is here.lives ∙ placed

      stay : StayIn m v
      stay = others_stay m v slot None false (λ e none. absurd (cc)) tenants over

      -- who is gone was
      gone_same : (b : List ℕ) → is_gone (t.actors b) ≡ is_gone ((known events).actors b)
      gone_same b = ⊎_elim
          (λ (f : (b ≡ a) × (bytes_eq b a ≡ true)). ap (λ (b : List ℕ). is_gone (t.actors b)) f.0 ∙ ap is_gone acts ∙ sym (ap is_gone is) ∙ ap (λ (b : List ℕ). is_gone ((known events).actors b)) (sym f.0))
          (λ f. ap is_gone (beside b f.0))
          (text_cases b a)

      -- each other slot is as it was
      runs_then : (b : List ℕ) (d : ℕ) → b ≢ a → t.pipework.programs b d ≡ (known events).pipework.programs b d
      runs_then b d far = ap (λ (w : Pipework). w.programs b d) pipes_are ∙ ap (λ (t : Bool). if t && (d == slot) then None else (known events).pipework.programs b d) (other_text b a far)

      fed_still : (b : List ℕ) (x : Actor) → t.actors b ≡ Some x → x.life ≡ Alive → HasBorneLast x.past → MayFeed t later b
      fed_still b x at lives borne = ⊎_elim
          (λ (f : (b ≡ a) × (bytes_eq b a ≡ true)).
          let both : ◌≡◌ {A = Option Actor} (Some (with_deed parent own)) (Some x) = sym acts ∙ ap t.actors (sym f.0) ∙ at in
          let same : with_deed parent own ≡ x = cc in
          absurd (subst (λ (x : Actor). HasBorneLast x.past) (sym same) borne))
          (λ (f : (b ≢ a) × (bytes_eq b a ≡ false)).
          let there : (known events).actors b ≡ Some x = sym (beside b f.0) ∙ at in
          let feeds = borne_feeds (among_all crew places) actors (known events) events p w.kept b x there borne in
          feed_push (known events) t events k b tt
          (λ e runs awaits. (
            (λ same. f.0 (sym same)),
            (λ same. no_mail (fed_mail crew mouths actors (known events) events piped b x 0 e parent there feeds runs (ap (known events).actors (sym same) ∙ is)).1),
          ))
          (runs_then b 0 f.0) (λ e runs awaits. same_awaits e ∙ awaits) (piped.fed b x there lives borne))
          (text_cases b a)

      awaited_still : (b : List ℕ) (x : Actor) → t.actors b ≡ Some x → IsMail x.program → is_awaiting t b ≡ true → IsAwaited t b
      awaited_still b x at mail awaits =
          let other : b ≢ a = λ same.
          let both : ◌≡◌ {A = Option Actor} (Some (with_deed parent own)) (Some x) = sym acts ∙ ap t.actors (sym same) ∙ at in
          let one : with_deed parent own ≡ x = cc in
          no_mail (subst (λ (x : Actor). IsMail x.program) (sym one) mail) in
          let it = piped.awaited b x (sym (beside b other) ∙ at) mail (sym (same_awaits b) ∙ awaits) in
          let far = none_of_it crew mouths actors events p a i parent here is alive piped p (found_in (known events) a) (needs.Take (port.Status slot)) due (λ bytes e. absurd (cc)) b it in
          record {
            parent = it.parent;
            runs = runs_then it.parent 0 far ∙ it.runs;
            actor = it.actor;
            is = beside it.parent far ∙ it.is;
            alive = it.alive;
            borne = it.borne;
          }

      pub status_piped : ArePiped crew (set mouths at v) (set actors i y) (known later) later
      status_piped =
          let s = known events in
          let grown = length-set mouths at v in
          subst (λ (s : State). ArePiped crew (set mouths at v) (set actors i y) s later) (sym is_now) (record {
            wires = piped.wires;
            wired = subst (AreWired piped.wires (set mouths at v)) (sym pipes_are) (wired_program piped.wires mouths a at m v of there_is s.pipework piped.wired slot None (λ e none. absurd (cc)) tenants pipes);
            slots = slots_set mouths at m v there_is slots piped.slots;
            children = children_set mouths at m v there_is (λ d e r. (stay d e r).0) piped.children;
            over = over_alike (λ b. is_gone (s.actors b)) (λ b. is_gone (t.actors b)) (set mouths at v) (λ j u d e at_it r. gone_same e)
                (over_set (λ b. is_gone (s.actors b)) mouths at m v there_is stay piped.over);
            places = places_still piped.wires actors i here.held y here.is served.name served.ended served.stays piped.places;
            stands = λ j z at_it lives. subst (λ (o : Option Slot). IsSlotOf piped.wires o z.slot) (sym (ap (λ (w : Pipework). w.slots z.name) pipes_are))
                (stands_still piped.wires s.pipework.slots actors i here.held y here.is served.name served.ended served.stays piped.stands j z at_it lives);
            others = others_still (λ (z : Held). piped.wires z.name ≡ z.wire) actors i here.held y here.is served.name
                (λ of. ap piped.wires served.name ∙ of ∙ sym served.stays.wire) piped.others;
            runs = runs_put s.actors a parent (with_deed parent own) is refl piped.wires (λ lives. lives) piped.runs;
            born = λ b d e r. borne_put s.actors a parent (with_deed parent own) is refl piped.wires s t refl refl b d e
                (piped.born b d e (ran_still s.pipework a slot b d e (ap (λ (w : Pipework). w.programs b d) (sym pipes_are) ∙ r)));
            whole = whole_more events k piped.whole tt;
            fresh = λ b none named.
                let far : b ≢ a = λ e. let both : ◌≡◌ {A = Option Actor} None (Some (with_deed parent own)) = sym none ∙ ap t.actors e ∙ acts in absurd (cc) in
                let was = piped.fresh b (sym (beside b far) ∙ none) named in
                record {
                  place = was.place;
                  slot = ap (λ (w : Pipework). w.slots b) pipes_are ∙ was.slot;
                  pipes = λ q own_port. ap (λ (w : Pipework). w.pipes b q) pipes_are ∙ was.pipes q own_port;
                };
            fed = fed_still;
            awaited = awaited_still;
            count = subst (λ (l : ℕ). (l ≡ 0) ⊎ ((4 ≤ l) × (crew ≡ 4))) (sym grown) piped.count;
            few = piped.few;
            many = subst (λ (l : ℕ). crew ≤ l) (sym (length-set actors i y)) piped.many;
            seated = λ j z low at_it lives. subst (λ (l : ℕ). 4 ≤ l) (sym grown) (seated_still crew (length mouths) i actors here.held y here.is served.ended piped.seated j z low at_it lives);
          })

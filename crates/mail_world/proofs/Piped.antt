-- The pipes that a world keeps, as one event comes.
use Rattle.std.proofs.Common.{◌≡◌, ◌≢◌, ◌⊎◌, inl, inr, ℕ, ◌≤◌, ◌<◌, List, [], ◌∷◌, ◌++◌, length, set, reverse, true, false, Option, Some, None, IsSome, refl, sym, ap, ◌∙◌, subst, ⊎_elim, arith, bytes_eq}
use Rattle.std.specs.Prelude.{option_map}
use Rattle.std.specs.List.{slice_get}
use Rattle.std.proofs.lemmas.List.{reverse-append, length-set, length-append}
use Rattle.std.proofs.lemmas.Option.{slice_get_within}
use Rattle.call_fs.specs.Disk.{Disk}
use Rattle.call_fs.specs.Maps.{put_at}
use Rattle.call_fs.proofs.Maps.{put_at_same, put_at_other}
use Rattle.call_fs.specs.declared.crash_file_system.Survival.{Survival}
use Rattle.call_fs.specs.declared.past.ChildData.TheVariants as child
use Rattle.call_fs.specs.declared.past.GotData.{GotData}
use Rattle.call_fs.specs.declared.past.GotData.TheVariants as got
use Rattle.call_fs.specs.declared.past.NeedData.{NeedData}
use Rattle.call_fs.specs.declared.past.NeedData.TheVariants as needs
use Rattle.call_fs.specs.declared.past.Own.{Own}
use Rattle.call_fs.specs.declared.program.Port.TheVariants as port
use Rattle.call_fs.specs.declared.program.Ready.{Ready}
use Rattle.queue_law.proofs.Tests.{text_cases}
use Rattle.world_events.specs.declared.event.Event.{Event as Kept}
use Rattle.world_events.specs.declared.event.Event.TheVariants as kept
use Rattle.world_events.specs.declared.event.Program.{Program}
use Rattle.world_pipes.specs.declared.mouths.Mouths.{Mouths}
use Rattle.world_pipes.specs.Mouths.{tenant_of}
use Rattle.world_pipes.specs.Pipework.{Tenant}
use Rattle.mail_world.specs.declared.actor.Actor.{Actor as Held}
use Rattle.mail_world.specs.Pipework.{Pipework, is_member, no_pipework, pipework_after}
use Rattle.mail_world.specs.Pipework.Tenant.{Runs}
use Rattle.mail_world.specs.History.{Actor, Life, State, acted, finished, happens, newborn, stopped}
use Rattle.mail_world.specs.History.Life.{Alive, Over, Stopped}
use Rattle.mail_world.specs.ByKind.{BearsIn, IsMail}
use Rattle.mail_world.specs.Readiness.{is_awaiting, is_gone, is_over}
use Rattle.mail_world.specs.Wired.{seat, tenant_in, kept_at, AreWired, IsSlotOf, HasWires, GivesWhole, IsWholeGiving, AreWholeGivings}
use Rattle.mail_world.specs.Inside.{known, event_of, IsApart, IsBirth, HasBorneLast, MayFeed, IsBorne, IsUnwired, RunsBy, AreActors, ArePiped, IsMember}
use Rattle.mail_world.specs.Acting.{IsCall, Brings, Keep, AreAsBefore, IsGoneToo, StaysAt, HasDone, IsFinished, AreCutOff}
use Rattle.mail_world.proofs.Feeders.{IsFeeder}
use Rattle.mail_world.proofs.Acts.{Finishes}
use Rattle.mail_world.proofs.Awaiting.{GivesToNone, awaits_same, ran_before, runs_still, finish_less, finish_other, finish_parent}
use Rattle.mail_world.proofs.Borne.{just_push, feed_push, borne_known, stranger_awaits}
use Rattle.mail_world.proofs.Fed.{borne_feeds, fed_mail}
use Rattle.mail_world.proofs.Unwired.{no_slots, acted_unwired, finished_unwired}
use Rattle.mail_world.proofs.Halts.{never_alive}
use Rattle.mail_world.proofs.Known.{IsPlain, known_push}
use Rattle.mail_world.proofs.Crew.{was_there, none_alive}
use Rattle.mail_world.proofs.Feeds.{own_tenant}
use Rattle.mail_world.proofs.Keeps.{over_alike}
use Rattle.mail_world.proofs.Leaving.{child_of}
use Rattle.mail_world.proofs.Lists.{each_push, get_set, get_push}
use Rattle.mail_world.proofs.Seats.{seat_none, same_seat}
use Rattle.mail_world.proofs.Worlds.{IsPlumbed}

pub plumbed : (crew : ℕ) (mouths : List Mouths) (actors : List Held) (s : State) (events : List Kept) → ArePiped crew mouths actors s events → IsPlumbed s events
plumbed crew mouths actors s events piped = record { whole = piped.whole; members = piped.wired.members }

pub whole_push : (events : List Kept) (k : Kept) → AreWholeGivings (reverse events) → IsWholeGiving k → AreWholeGivings (reverse (events ++ k ∷ []))
whole_push events k before one = subst AreWholeGivings (sym (reverse-append events (k ∷ []))) (one, before)

-- what a file call does to no pipe
call_pipework : (w : Pipework) (a : List ℕ) (due : NeedData) (came : GotData) → IsCall due came → pipework_after w a due came 0 ≡ w
call_pipework w a (needs.File c) (got.Answered told) call = refl
call_pipework w a (needs.File c) (got.Took bytes) call = absurd call
call_pipework w a (needs.File c) got.End call = absurd call
call_pipework w a (needs.File c) (got.Ended status) call = absurd call
call_pipework w a (needs.File c) got.Crashed call = absurd call
call_pipework w a (needs.File c) got.Gave call = absurd call
call_pipework w a (needs.File c) (got.Started pid) call = absurd call
call_pipework w a (needs.File c) got.Failed call = absurd call
call_pipework w a (needs.File c) got.Memory call = absurd call
call_pipework w a (needs.Take port) came call = absurd call
call_pipework w a (needs.Give port bytes) came call = absurd call
call_pipework w a (needs.Start asked) came call = absurd call
call_pipework w a (needs.Command bytes) came call = absurd call
call_pipework w a needs.Wait came call = absurd call
call_pipework w a (needs.Ended status) came call = absurd call

call_whole : (due : NeedData) (came : GotData) → IsCall due came → GivesWhole due came
call_whole (needs.File c) came call = tt
call_whole (needs.Take port) came call = tt
call_whole (needs.Give port bytes) came call = absurd call
call_whole (needs.Start asked) came call = tt
call_whole (needs.Command bytes) came call = tt
call_whole needs.Wait came call = tt
call_whole (needs.Ended status) came call = tt

brings_whole : (w : Pipework) (pid most : ℕ) (a : List ℕ) (due : NeedData) (came : GotData) → Brings w pid most a due came → GivesWhole due came
brings_whole w pid most a (needs.File c) came brings = tt
brings_whole w pid most a (needs.Take port) came brings = tt
brings_whole w pid most a (needs.Give port bytes) came brings = subst (GivesWhole (needs.Give port bytes)) (sym brings) tt
brings_whole w pid most a (needs.Start asked) came brings = tt
brings_whole w pid most a (needs.Command bytes) came brings = tt
brings_whole w pid most a needs.Wait came brings = tt
brings_whole w pid most a (needs.Ended status) came brings = tt

-- nothing that is kept as any other event starts an injector
call_bears_none : (due : NeedData) (came : GotData) → IsCall due came → IsBirth due came → ⊥
call_bears_none (needs.Start asked) came call birth = call
call_bears_none (needs.File c) came call birth = birth
call_bears_none (needs.Take port) came call birth = birth
call_bears_none (needs.Give port bytes) came call birth = birth
call_bears_none (needs.Command bytes) came call birth = birth
call_bears_none needs.Wait came call birth = birth
call_bears_none (needs.Ended status) came call birth = birth

brings_no_birth : (w : Pipework) (pid most : ℕ) (a : List ℕ) (due : NeedData) (came : GotData) → Brings w pid most a due came → IsBirth due came → ⊥
brings_no_birth w pid most a (needs.Start (child.Bounce room)) came brings birth = brings
brings_no_birth w pid most a (needs.Start (child.Forward uid room)) came brings birth = brings
brings_no_birth w pid most a (needs.Start (child.Local slot words uid)) came brings birth = birth
brings_no_birth w pid most a (needs.Start (child.Remote slot domain sender recipient)) came brings birth = birth
brings_no_birth w pid most a (needs.File c) came brings birth = birth
brings_no_birth w pid most a (needs.Take port) came brings birth = birth
brings_no_birth w pid most a (needs.Give port bytes) came brings birth = birth
brings_no_birth w pid most a (needs.Command bytes) came brings birth = birth
brings_no_birth w pid most a needs.Wait came brings birth = birth
brings_no_birth w pid most a (needs.Ended status) came brings birth = birth

-- Another actor in place of an old one: who was known is known, and who is unknown was it.
module _ (m : List ℕ → Option Actor) (b : List ℕ) (x y : Actor) (is : m b ≡ Some x) where
  known_put : (a : List ℕ) → IsSome (m a) → IsSome (put_at m b (Some y) a)
  known_put a some = ⊎_elim
      (λ f. subst (λ (o : Option Actor). IsSome o) (sym (ap (put_at m b (Some y)) f.0 ∙ put_at_same m b (Some y))) refl)
      (λ f. subst (λ (o : Option Actor). IsSome o) (sym (put_at_other m b (Some y) a f.0)) some)
      (text_cases a b)

  -- if its life is the same, as many are over
  gone_put : y.life ≡ x.life → (a : List ℕ) → is_gone (put_at m b (Some y) a) ≡ is_gone (m a)
  gone_put life a = ⊎_elim
      (λ f. ap is_gone (ap (put_at m b (Some y)) f.0 ∙ put_at_same m b (Some y)) ∙ ap is_over life ∙ sym (ap is_gone (ap m f.0 ∙ is)))
      (λ f. ap is_gone (put_at_other m b (Some y) a f.0))
      (text_cases a b)

  -- each one runs the program that it ran, if that one does
  module _ (program : y.program ≡ x.program) where
    pub program_put : (a : List ℕ) (z : Actor) → m a ≡ Some z → (w : Actor) × (put_at m b (Some y) a ≡ Some w) × (w.program ≡ z.program)
    program_put a z there = ⊎_elim
        (λ (f : (a ≡ b) × (bytes_eq a b ≡ true)).
        let both : ◌≡◌ {A = Option Actor} (Some x) (Some z) = sym is ∙ ap m (sym f.0) ∙ there in
        let same : x ≡ z = cc in
        (y, ap (put_at m b (Some y)) f.0 ∙ put_at_same m b (Some y), program ∙ ap (λ (a : Actor). a.program) same))
        (λ (f : (a ≢ b) × (bytes_eq a b ≡ false)). (z, put_at_other m b (Some y) a f.0 ∙ there, refl))
        (text_cases a b)

    pub program_before : (a : List ℕ) (w : Actor) → put_at m b (Some y) a ≡ Some w → (z : Actor) × (m a ≡ Some z) × (w.program ≡ z.program)
    program_before a w there = ⊎_elim
        (λ (f : (a ≡ b) × (bytes_eq a b ≡ true)).
        let both : ◌≡◌ {A = Option Actor} (Some y) (Some w) = sym (ap (put_at m b (Some y)) f.0 ∙ put_at_same m b (Some y)) ∙ there in
        let same : y ≡ w = cc in
        (x, ap m f.0 ∙ is, ap (λ (a : Actor). a.program) (sym same) ∙ program))
        (λ (f : (a ≢ b) × (bytes_eq a b ≡ false)). (w, sym (put_at_other m b (Some y) a f.0) ∙ there, refl))
        (text_cases a b)

    -- and who runs in a slot was borne as before
    pub borne_put : (wires : List ℕ → Option ℕ) (s t : State) → s.actors ≡ m → t.actors ≡ put_at m b (Some y) → (a : List ℕ) (d : ℕ) (c : List ℕ) → IsBorne wires s a d c → IsBorne wires t a d c
    borne_put wires s t old new a d c was =
        let w = program_put c was.child (ap (λ (f : List ℕ → Option Actor). f c) (sym old) ∙ was.is) in
        record {
          child = w.0;
          is = ap (λ (f : List ℕ → Option Actor). f c) new ∙ w.1;
          runs = subst (RunsBy (wires c)) (sym w.2) was.runs;
          bears = λ u there.
              let v = program_before a u (ap (λ (f : List ℕ → Option Actor). f a) (sym new) ∙ there) in
              subst (λ (p : Program). BearsIn p d w.0.program) (sym v.2)
              (subst (BearsIn v.0.program d) (sym w.2) (was.bears v.0 (ap (λ (f : List ℕ → Option Actor). f a) old ∙ v.1)));
        }

    -- who lives has its pipes by its program
    pub runs_put : (wires : List ℕ → Option ℕ) → (y.life ≡ Alive → x.life ≡ Alive) → ((a : List ℕ) (z : Actor) → m a ≡ Some z → z.life ≡ Alive → RunsBy (wires a) z.program)
        → (a : List ℕ) (w : Actor) → put_at m b (Some y) a ≡ Some w → w.life ≡ Alive → RunsBy (wires a) w.program
    runs_put wires on runs a w there alive = ⊎_elim
        (λ (f : (a ≡ b) × (bytes_eq a b ≡ true)).
        let both : ◌≡◌ {A = Option Actor} (Some y) (Some w) = sym (ap (put_at m b (Some y)) f.0 ∙ put_at_same m b (Some y)) ∙ there in
        let same : y ≡ w = cc in
        subst (λ (w : Actor). RunsBy (wires a) w.program) same (subst (RunsBy (wires a)) (sym program)
        (runs a x (ap m f.0 ∙ is) (on (ap (λ (w : Actor). w.life) same ∙ alive)))))
        (λ (f : (a ≢ b) × (bytes_eq a b ≡ false)). runs a w (sym (put_at_other m b (Some y) a f.0) ∙ there) alive)
        (text_cases a b)

unknown_put : (m : List ℕ → Option Actor) (b : List ℕ) (y : Actor) (a : List ℕ) → put_at m b (Some y) a ≡ None → (a ≢ b) × (m a ≡ None)
unknown_put m b y a none = ⊎_elim
    (λ f. let both : ◌≡◌ {A = Option Actor} (Some y) None = sym (ap (put_at m b (Some y)) f.0 ∙ put_at_same m b (Some y)) ∙ none in absurd (cc))
    (λ f. (f.0, sym (put_at_other m b (Some y) a f.0) ∙ none))
    (text_cases a b)

-- the members that live are among those that did
seated_set : (Q : Type 0) (crew : ℕ) (actors : List Held) (i : ℕ) (x y : Held) → slice_get actors i ≡ Some x → (y.ended ≡ None → x.ended ≡ None)
    → ((j : ℕ) (z : Held) → j < crew → slice_get actors j ≡ Some z → z.ended ≡ None → Q)
    → (j : ℕ) (z : Held) → j < crew → slice_get (set actors i y) j ≡ Some z → z.ended ≡ None → Q
seated_set Q crew actors i x y is on seated j z low at lives = ⊎_elim
    (λ f. seated i x (subst (λ (j : ℕ). j < crew) f.0 low) is (on (subst (λ (z : Held). z.ended ≡ None) (sym f.1) lives)))
    (λ f. seated j z low f.1 lives)
    (get_set actors i y j z at)

-- what holds of each that lives holds of each that lives then
living_set : (P : Held → Type 0) (actors : List Held) (i : ℕ) (x y : Held) → slice_get actors i ≡ Some x → (y.ended ≡ None → (x.ended ≡ None) × (P x → P y))
    → ((j : ℕ) (z : Held) → slice_get actors j ≡ Some z → z.ended ≡ None → P z) → (j : ℕ) (z : Held) → slice_get (set actors i y) j ≡ Some z → z.ended ≡ None → P z
living_set P actors i x y is on all j z at lives = ⊎_elim
    (λ f. let mine = on (subst (λ (z : Held). z.ended ≡ None) (sym f.1) lives) in subst P f.1 (mine.1 (all i x is mine.0)))
    (λ f. all j z f.1 lives)
    (get_set actors i y j z at)

-- what holds of each other actor than the members holds of each then
others_set : (P : Held → Type 0) (actors : List Held) (i : ℕ) (x y : Held) → slice_get actors i ≡ Some x → y.name ≡ x.name → (P x → P y)
    → ((j : ℕ) (z : Held) → slice_get actors j ≡ Some z → is_member z.name ≡ false → P z) → (j : ℕ) (z : Held) → slice_get (set actors i y) j ≡ Some z → is_member z.name ≡ false → P z
others_set P actors i x y is name on all j z at other = ⊎_elim
    (λ (f : (j ≡ i) × (y ≡ z)). subst P f.1 (on (all i x is (ap is_member (sym name) ∙ ap (λ (z : Held). is_member z.name) f.1 ∙ other))))
    (λ (f : (j ≢ i) × (slice_get actors j ≡ Some z)). all j z f.1 other)
    (get_set actors i y j z at)

-- where an actor has its pipes, and its slot
stays_wire : (wires : List ℕ → Option ℕ) (x y : Held) → y.name ≡ x.name → StaysAt x y → wires x.name ≡ x.wire → wires y.name ≡ y.wire
stays_wire wires x y name stays of = ap wires name ∙ of ∙ sym stays.wire

stays_slot : (wires : List ℕ → Option ℕ) (w : Pipework) (x y : Held) → y.name ≡ x.name → StaysAt x y → IsSlotOf wires (w.slots x.name) x.slot → IsSlotOf wires (w.slots y.name) y.slot
stays_slot wires w x y name stays of =
    subst (λ (a : List ℕ). IsSlotOf wires (w.slots a) y.slot) (sym name) (subst (IsSlotOf wires (w.slots x.name)) (sym stays.slot) of)

-- as many pipes
count_still : (crew n m : ℕ) → m ≡ n → (n ≡ 0) ⊎ ((4 ≤ n) × (crew ≡ 4)) → (m ≡ 0) ⊎ ((4 ≤ m) × (crew ≡ 4))
count_still crew n m same count = subst (λ (n : ℕ). (n ≡ 0) ⊎ ((4 ≤ n) × (crew ≡ 4))) (sym same) count

-- an actor that lives, with its pipes and its slot
pub has_wires : (crew : ℕ) (mouths : List Mouths) (actors : List Held) (s : State) (events : List Kept) (i : ℕ) (x : Held) (piped : ArePiped crew mouths actors s events) → slice_get actors i ≡ Some x → x.ended ≡ None
    → HasWires piped.wires mouths s.pipework x.name x.wire x.slot
has_wires crew mouths actors s events i x piped is lives = record { wired = piped.wired; at = piped.places i x is lives; slot_is = piped.stands i x is lives }

-- an actor's machine was paid, or looked, and perhaps there is more room in the pipes
pub look_piped : (crew : ℕ) (mouths later : List Mouths) (actors : List Held) (s : State) (events : List Kept) (i : ℕ) (x y : Held)
    → ArePiped crew mouths actors s events → slice_get actors i ≡ Some x → y.name ≡ x.name → y.ended ≡ x.ended → StaysAt x y → AreAsBefore mouths later → ArePiped crew later (set actors i y) s events
look_piped crew mouths later actors s events i x y piped is name ended stays same = record {
  wires = piped.wires;
  wired = same.wired piped.wires s.pipework piped.wired;
  slots = same.keep.slots piped.slots;
  children = same.keep.children piped.children;
  over = same.keep.over (λ c. is_gone (s.actors c)) piped.over;
  places = living_set (λ (z : Held). piped.wires z.name ≡ z.wire) actors i x y is (λ e. (sym ended ∙ e, stays_wire piped.wires x y name stays)) piped.places;
  stands = living_set (λ (z : Held). IsSlotOf piped.wires (s.pipework.slots z.name) z.slot) actors i x y is (λ e. (sym ended ∙ e, stays_slot piped.wires s.pipework x y name stays)) piped.stands;
  others = others_set (λ (z : Held). piped.wires z.name ≡ z.wire) actors i x y is name (stays_wire piped.wires x y name stays) piped.others;
  runs = piped.runs;
  born = piped.born;
  whole = piped.whole;
  fresh = piped.fresh;
  fed = piped.fed;
  awaited = piped.awaited;
  count = count_still crew (length mouths) (length later) same.keep.many piped.count;
  few = piped.few;
  many = subst (λ (n : ℕ). crew ≤ n) (sym (length-set actors i y)) piped.many;
  seated = λ j z low at lives. subst (λ (n : ℕ). 4 ≤ n) (sym same.keep.many) (seated_set (4 ≤ length mouths) crew actors i x y is (λ e. sym ended ∙ e) piped.seated j z low at lives);
}

-- An actor did something that is none of a child's: if it is an injector, it awaited no input, and it hasn't just started one.
pub done_piped : (crew : ℕ) (places : List ℕ → Option ℕ) (old new : Option Disk) (pipes later_pipes : List Mouths) (pid : ℕ) (actors : List Held) (events later : List Kept) (p i : ℕ) (x y : Held) (ready : Ready)
    → AreActors places actors (known events) events p → ArePiped crew pipes actors (known events) events → slice_get actors i ≡ Some x → x.ended ≡ None → (m : IsMember (known events) events p x)
    → (done : HasDone old new pipes later_pipes pid x y events later p ready) → GivesToNone (known events).pipework x.name done.own.due
    → ((c : List ℕ) (z : Actor) → (known events).actors c ≡ Some z → IsMail z.program → is_awaiting (acted (known events) x.name done.own 0 (Some m.actor)) c ≡ is_awaiting (known events) c)
    → (IsMail m.actor.program → is_awaiting (known events) x.name ≡ false) → (HasBorneLast m.actor.past → ⊥)
    → ArePiped crew later_pipes (set actors i y) (known later) later
done_piped crew places old new pipes later_pipes pid actors events later p i x y ready crewed piped is lives m done none awaits never unborn =
    subst (λ (l : List Kept). ArePiped crew later_pipes (set actors i y) (known l) l) (sym done.event)
    (subst (λ (t : State). ArePiped crew later_pipes (set actors i y) t (events ++ k ∷ [])) (sym (known_push events k tt ∙ ap (acted s x.name own 0) m.is)) (record {
      wires = wires;
      wired = wires_on;
      slots = keep.slots piped.slots;
      children = keep.children piped.children;
      over = over_alike (λ c. is_gone (s.actors c)) (λ c. is_gone (t.actors c)) later_pipes (λ j z d c at runs. gone_put s.actors x.name m.actor after_it m.is refl c)
          (keep.over (λ c. is_gone (s.actors c)) piped.over);
      places = living_set (λ (z : Held). wires z.name ≡ z.wire) actors i x y is (λ e. (lives, stays_wire wires x y done.name done.stays)) piped.places;
      stands = living_set (λ (z : Held). IsSlotOf wires (s.pipework.slots z.name) z.slot) actors i x y is (λ e. (lives, stays_slot wires s.pipework x y done.name done.stays)) piped.stands;
      others = others_set (λ (z : Held). wires z.name ≡ z.wire) actors i x y is done.name (stays_wire wires x y done.name done.stays) piped.others;
      runs = runs_put s.actors x.name m.actor after_it m.is refl wires (λ alive. alive) piped.runs;
      born = λ a d c runs. borne_put s.actors x.name m.actor after_it m.is refl wires s t refl refl a d c (piped.born a d c (ran a d c runs));
      whole = whole_push events k piped.whole whole;
      fresh = λ a unknown named.
          let other = unknown_put s.actors x.name after_it a unknown in
          acted_unwired wires pipes s.pipework x.name a own.due own.came piped.wired named other.0 none (piped.fresh a other.1 named);
      fed = λ a z there alive borne. ⊎_elim
          (λ same.
          let both : ◌≡◌ {A = Option Actor} (Some after_it) (Some z) = sym (put_at_same s.actors x.name (Some after_it)) ∙ ap t.actors same.0 ∙ there in
          let is_it : after_it ≡ z = cc in
          absurd (no_birth (subst (λ (z : Actor). HasBorneLast z.past) (sym is_it) borne)))
          (λ other.
          let was = sym (put_at_other s.actors x.name (Some after_it) a (λ e. other.0 (sym e))) ∙ there in
          feed_push s t events k a tt
          (λ c runs awaiting. (
            other.0,
            λ e.
                let mail = (fed_mail crew pipes actors s events piped a z 0 c m.actor was (feeds a z was borne) runs (ap s.actors (sym e) ∙ m.is)).1 in
                let both : false ≡ true = sym (never mail) ∙ ap (is_awaiting s) e ∙ awaiting in absurd (cc),
          ))
          (runs_still s.pipework x.name own.due own.came a 0 (λ e. other.0 (sym e)))
          (λ c runs awaiting.
          let born = piped.born a 0 c runs in
          awaits c born.child born.is (fed_mail crew pipes actors s events piped a z 0 c born.child was (feeds a z was borne) runs born.is).1 ∙ awaiting)
          (piped.fed a z was alive borne))
          (text_cases x.name a);
      awaited = λ c u known_now mail awaiting.
          let before = program_before s.actors x.name m.actor after_it m.is refl c u known_now in
          let its = subst IsMail before.2 mail in
          let was = piped.awaited c before.0 before.1 its (sym (awaits c before.0 before.1 its) ∙ awaiting) in
          ⊎_elim
          (λ same.
          let both : ◌≡◌ {A = Option Actor} (Some was.actor) (Some m.actor) = sym was.is ∙ ap s.actors (sym same.0) ∙ m.is in
          let is_it : was.actor ≡ m.actor = cc in
          absurd (unborn (subst (λ (z : Actor). HasBorneLast z.past) is_it was.borne)))
          (λ other. record {
            parent = was.parent;
            runs = runs_still s.pipework x.name own.due own.came was.parent 0 (λ e. other.0 (sym e)) ∙ was.runs;
            actor = was.actor;
            is = put_at_other s.actors x.name (Some after_it) was.parent (λ e. other.0 (sym e)) ∙ was.is;
            alive = was.alive;
            borne = was.borne;
          })
          (text_cases x.name was.parent);
      count = count_still crew (length pipes) (length later_pipes) keep.many piped.count;
      few = piped.few;
      many = subst (λ (n : ℕ). crew ≤ n) (sym (length-set actors i y)) piped.many;
      seated = λ j z low at alive. subst (λ (n : ℕ). 4 ≤ n) (sym keep.many) (seated_set (4 ≤ length pipes) crew actors i x y is (λ e. lives) piped.seated j z low at alive);
    }))
  where
    s : State
    s = known events

    own : Own
    own = done.own

    k : Kept
    k = kept.Act x.name own

    t : State
    t = acted s x.name own 0 (Some m.actor)

    after_it : Actor
    after_it = record { program = m.actor.program; past = own ∷ m.actor.past; life = m.actor.life }

    wires : List ℕ → Option ℕ
    wires = piped.wires

    feeds : (a : List ℕ) (z : Actor) → (known events).actors a ≡ Some z → HasBorneLast z.past → IsFeeder z.program
    feeds = borne_feeds places actors (known events) events p crewed

    has : HasWires piped.wires pipes (known events).pipework x.name x.wire x.slot
    has = has_wires crew pipes actors (known events) events i x piped is lives

    wires_on : AreWired piped.wires later_pipes (pipework_after (known events).pipework x.name own.due own.came 0)
    wires_on = ⊎_elim
        (λ call. subst (λ (l : List Mouths). AreWired wires l (pipework_after s.pipework x.name own.due own.came 0)) (sym call.1)
        (subst (AreWired wires pipes) (sym (call_pipework s.pipework x.name own.due own.came call.0)) piped.wired))
        (λ pass. pass.1.wired wires s.pipework has)
        done.passed

    keep : Keep pipes later_pipes
    keep = ⊎_elim
        (λ call. subst (Keep pipes) (sym call.1) (record { many = refl; slots = λ slots. slots; children = λ children. children; over = λ gone over. over }))
        (λ pass. pass.1.keep)
        done.passed

    whole : GivesWhole own.due own.came
    whole = ⊎_elim
        (λ call. call_whole own.due own.came call.0)
        (λ pass. brings_whole s.pipework pid _ x.name own.due own.came (pass.1.brings wires s.pipework has))
        done.passed

    no_birth : IsBirth own.due own.came → ⊥
    no_birth birth = ⊎_elim
        (λ call. call_bears_none own.due own.came call.0 birth)
        (λ pass. brings_no_birth s.pipework pid _ x.name own.due own.came (pass.1.brings wires s.pipework has) birth)
        done.passed

    ran : (a : List ℕ) (d : ℕ) (c : List ℕ) → t.pipework.programs a d ≡ Some (Runs c) → s.pipework.programs a d ≡ Some (Runs c)
    ran a d c runs = ran_before s.pipework x.name own.due own.came a d c runs

dead_over : (life : Life) → life ≢ Alive → is_over life ≡ true
dead_over Alive dead = absurd (dead refl)
dead_over (Over status) dead = refl
dead_over Stopped dead = refl

-- An actor ended or was stopped: it is none that awaits its input, or was stopped.
pub finish_piped : (crew : ℕ) (places : List ℕ → Option ℕ) (old new : Option Disk) (pipes later_pipes : List Mouths) (actors : List Held) (events later : List Kept) (p i : ℕ) (x y : Held) (k : Kept) (life : Life) (status : Option ℕ)
    → AreActors places actors (known events) events p → ArePiped crew pipes actors (known events) events → slice_get actors i ≡ Some x → x.ended ≡ None → (m : IsMember (known events) events p x) → Finishes x.name k life status → IsWholeGiving k
    → ((parent c : List ℕ) (z : Actor) → (known events).actors c ≡ Some z → IsMail z.program → x.name ≢ parent → is_awaiting (known events) c ≡ true → IsApart parent c k)
    → IsFinished k status old new pipes later_pipes x y events later
    → ArePiped crew later_pipes (set actors i y) (known later) later
finish_piped crew places old new pipes later_pipes actors events later p i x y k life status crewed piped is lives m f one apart over =
    subst (λ (l : List Kept). ArePiped crew later_pipes (set actors i y) (known l) l) (sym over.event)
    (subst (λ (t : State). ArePiped crew later_pipes (set actors i y) t (events ++ k ∷ [])) (sym (known_push events k f.plain ∙ f.happens s ∙ ap (finished s x.name life) m.is)) (record {
      wires = wires;
      wired = over.shuts.wired wires s.pipework has piped.children;
      slots = over.shuts.slots piped.slots;
      children = over.shuts.children piped.children;
      over = over.shuts.over wires s.pipework has piped.children (λ c. is_gone (s.actors c)) (λ c. is_gone (t.actors c)) gone_too piped.over;
      places = living_set (λ (z : Held). wires z.name ≡ z.wire) actors i x y is (λ e. absurd (dead e)) piped.places;
      stands = living_set (λ (z : Held). IsSlotOf wires (s.pipework.slots z.name) z.slot) actors i x y is (λ e. absurd (dead e)) piped.stands;
      others = others_set (λ (z : Held). wires z.name ≡ z.wire) actors i x y is over.name (stays_wire wires x y over.name over.stays) piped.others;
      runs = runs_put s.actors x.name m.actor after_it m.is refl wires (λ alive. absurd (f.dead alive)) piped.runs;
      born = λ a d c runs. borne_put s.actors x.name m.actor after_it m.is refl wires s t refl refl a d c (piped.born a d c runs);
      whole = whole_push events k piped.whole one;
      fresh = λ a unknown named.
          let other = unknown_put s.actors x.name after_it a unknown in
          finished_unwired wires pipes s.pipework x.name a piped.wired named (piped.fresh a other.1 named);
      fed = λ a z there alive borne. ⊎_elim
          (λ same.
          let both : ◌≡◌ {A = Option Actor} (Some after_it) (Some z) = sym (put_at_same s.actors x.name (Some after_it)) ∙ ap t.actors same.0 ∙ there in
          let is_it : after_it ≡ z = cc in
          absurd (f.dead (ap (λ (z : Actor). z.life) is_it ∙ alive)))
          (λ other.
          let was = sym (put_at_other s.actors x.name (Some after_it) a (λ e. other.0 (sym e))) ∙ there in
          fed_on a z other.0 was (feeds a z was borne) (piped.fed a z was alive borne))
          (text_cases x.name a);
      awaited = λ c u known_now mail awaiting.
          let before = program_before s.actors x.name m.actor after_it m.is refl c u known_now in
          let was = piped.awaited c before.0 before.1 (subst IsMail before.2 mail) (finish_less s x.name m.actor life c awaiting) in
          ⊎_elim
          (λ same.
          let its = child_of crew pipes actors s events piped x.name c (ap (λ (a : List ℕ). s.pipework.programs a 0) same.0 ∙ was.runs) in
          let both : false ≡ true = sym (finish_parent s m.actor life x.name c its) ∙ awaiting in absurd (cc))
          (λ other. record {
            parent = was.parent;
            runs = was.runs;
            actor = was.actor;
            is = put_at_other s.actors x.name (Some after_it) was.parent (λ e. other.0 (sym e)) ∙ was.is;
            alive = was.alive;
            borne = was.borne;
          })
          (text_cases x.name was.parent);
      count = count_still crew (length pipes) (length later_pipes) over.shuts.many piped.count;
      few = piped.few;
      many = subst (λ (n : ℕ). crew ≤ n) (sym (length-set actors i y)) piped.many;
      seated = λ j z low at alive. subst (λ (n : ℕ). 4 ≤ n) (sym over.shuts.many) (seated_set (4 ≤ length pipes) crew actors i x y is (λ e. lives) piped.seated j z low at alive);
    }))
  where
    s : State
    s = known events

    t : State
    t = finished s x.name life (Some m.actor)

    after_it : Actor
    after_it = record { program = m.actor.program; past = m.actor.past; life = life }

    wires : List ℕ → Option ℕ
    wires = piped.wires

    has : HasWires piped.wires pipes (known events).pipework x.name x.wire x.slot
    has = has_wires crew pipes actors (known events) events i x piped is lives

    dead : y.ended ≡ None → ⊥
    dead e = let both : ◌≡◌ {A = Option ℕ} None (Some (length events)) = sym e ∙ over.ended in cc

    gone_too : IsGoneToo x.name (λ c. is_gone (s.actors c)) (λ c. is_gone (t.actors c))
    gone_too = record {
      is = ap is_gone (put_at_same s.actors x.name (Some after_it)) ∙ dead_over life f.dead;
      others = λ b other. ap is_gone (put_at_other s.actors x.name (Some after_it) b other);
    }

    feeds : (a : List ℕ) (z : Actor) → (known events).actors a ≡ Some z → HasBorneLast z.past → IsFeeder z.program
    feeds = borne_feeds places actors (known events) events p crewed

    fed_on : (a : List ℕ) (z : Actor) → x.name ≢ a → (known events).actors a ≡ Some z → IsFeeder z.program → MayFeed s events a → MayFeed t (events ++ k ∷ []) a
    fed_on a z far there its may =
        let born = piped.born a 0 may.child may.runs in
        let mail = (fed_mail crew pipes actors s events piped a z 0 may.child born.child there its may.runs born.is).1 in
        record {
          child = may.child;
          runs = may.runs;
          awaiting = finish_other s m.actor life x.name may.child a (child_of crew pipes actors s events piped a may.child may.runs) far ∙ may.awaiting;
          just = just_push events k a may.child f.plain (apart a may.child born.child born.is mail far may.awaiting) may.just;
        }

-- An event that changes no pipe, after which the actors are as they were, but for one that starts perhaps, which is no member: it isn't
-- one of a child that awaits its input.
pub still_piped : (crew : ℕ) (mouths : List Mouths) (actors later : List Held) (events : List Kept) (k : Kept) → (piped : ArePiped crew mouths actors (known events) events)
    → IsPlain k → (happens (known events) (event_of k)).pipework ≡ (known events).pipework → IsWholeGiving k
    → ((a : List ℕ) (x : Actor) → (known events).actors a ≡ Some x → (happens (known events) (event_of k)).actors a ≡ Some x)
    → ((a : List ℕ) (x : Actor) → (happens (known events) (event_of k)).actors a ≡ Some x
    → ((known events).actors a ≡ Some x) ⊎ ((x.past ≡ []) × (is_member a ≡ false) × ((known events).actors a ≡ None) × IsMail x.program))
    → ((parent c : List ℕ) → IsSome ((known events).actors c) → IsApart parent c k)
    → crew ≤ length later → ((j : ℕ) (z : Held) → j < crew → slice_get later j ≡ Some z → slice_get actors j ≡ Some z)
    → ((j : ℕ) (z : Held) → slice_get later j ≡ Some z → z.ended ≡ None → (piped.wires z.name ≡ z.wire) × IsSlotOf piped.wires ((known events).pipework.slots z.name) z.slot)
    → ((j : ℕ) (z : Held) → slice_get later j ≡ Some z → is_member z.name ≡ false → piped.wires z.name ≡ z.wire)
    → ArePiped crew mouths later (known (events ++ k ∷ [])) (events ++ k ∷ [])
still_piped crew mouths actors later events k piped plain same one still were apart many there stand others =
    subst (λ (t : State). ArePiped crew mouths later t (events ++ k ∷ [])) (sym (known_push events k plain)) (record {
      wires = piped.wires;
      wired = subst (AreWired piped.wires mouths) (sym same) piped.wired;
      slots = piped.slots;
      children = piped.children;
      over = over_alike (λ c. is_gone (s.actors c)) (λ c. is_gone (t.actors c)) mouths gone_alike piped.over;
      places = λ j z at lives. (stand j z at lives).0;
      stands = λ j z at lives. subst (λ (w : Pipework). IsSlotOf piped.wires (w.slots z.name) z.slot) (sym same) (stand j z at lives).1;
      others = others;
      runs = λ a x is alive. ⊎_elim
          (λ (f : s.actors a ≡ Some x). piped.runs a x f alive)
          (λ (f : (x.past ≡ []) × (is_member a ≡ false) × (s.actors a ≡ None) × IsMail x.program). subst (λ (o : Option ℕ). RunsBy o x.program) (sym (piped.fresh a f.2 f.1).place) f.3)
          (were a x is);
      born = λ a d c runs.
          let ran = sym (ap (λ (w : Pipework). w.programs a d) same) ∙ runs in
          let was = piped.born a d c ran in
          record {
            child = was.child;
            is = still c was.child was.is;
            runs = was.runs;
            bears = λ z is. ⊎_elim
                (λ (f : s.actors a ≡ Some z). was.bears z f)
                (λ (f : (z.past ≡ []) × (is_member a ≡ false) × (s.actors a ≡ None) × IsMail z.program). absurd (no_one a d c ran (piped.fresh a f.2 f.1).place))
                (were a z is);
          };
      whole = whole_push events k piped.whole one;
      fresh = λ a unknown named. subst (λ (w : Pipework). IsUnwired piped.wires w a) (sym same) (piped.fresh a (unknown_then a unknown) named);
      fed = λ a x is alive borne. ⊎_elim
          (λ (f : s.actors a ≡ Some x). feed_push s t events k a plain
          (λ c runs awaiting. apart a c (borne_known piped.wires s a 0 c (piped.born a 0 c runs))) (ap (λ (w : Pipework). w.programs a 0) same) (λ c runs awaiting. awaits c ∙ awaiting)
          (piped.fed a x f alive borne))
          (λ (f : (x.past ≡ []) × (is_member a ≡ false) × (s.actors a ≡ None) × IsMail x.program). absurd (subst HasBorneLast f.0 borne))
          (were a x is);
      awaited = λ c u known_now mail awaiting.
          let before = was_known c u known_now awaiting in
          let was = piped.awaited c u before mail (sym (awaits c) ∙ awaiting) in
          record {
            parent = was.parent;
            runs = ap (λ (w : Pipework). w.programs was.parent 0) same ∙ was.runs;
            actor = was.actor;
            is = still was.parent was.actor was.is;
            alive = was.alive;
            borne = was.borne;
          };
      count = piped.count;
      few = piped.few;
      many = many;
      seated = λ j z low at lives. piped.seated j z low (there j z low at) lives;
    })
  where
    s : State
    s = known events

    t : State
    t = happens s (event_of k)

    awaits : (c : List ℕ) → is_awaiting t c ≡ is_awaiting s c
    awaits c = awaits_same s t c (ap (λ (w : Pipework). w.slots c) same) (ap (λ (w : Pipework). w.pipes c port.Input) same)

    -- who is new has no slot, so it awaits nothing
    was_known : (c : List ℕ) (u : Actor) → t.actors c ≡ Some u → is_awaiting t c ≡ true → s.actors c ≡ Some u
    was_known c u is awaiting = ⊎_elim
        (λ (f : s.actors c ≡ Some u). f)
        (λ (f : (u.past ≡ []) × (is_member c ≡ false) × (s.actors c ≡ None) × IsMail u.program).
        let both : false ≡ true = sym (stranger_awaits crew mouths actors s events c piped f.2) ∙ sym (awaits c) ∙ awaiting in absurd (cc))
        (were c u is)

    unknown_then : (a : List ℕ) → t.actors a ≡ None → s.actors a ≡ None
    unknown_then a none = by_actor (s.actors a) refl where
      by_actor : (o : Option Actor) → s.actors a ≡ o → s.actors a ≡ None
      by_actor None is = is
      by_actor (Some x) is = let both : ◌≡◌ {A = Option Actor} None (Some x) = sym none ∙ still a x is in absurd (cc)

    -- an actor in a slot was known
    gone_alike : (j : ℕ) (m : Mouths) (d : ℕ) (c : List ℕ) → slice_get mouths j ≡ Some m → tenant_of m d ≡ Some (Runs c) → is_gone (t.actors c) ≡ is_gone (s.actors c)
    gone_alike j m d c at runs =
        let own = piped.wired.owned j (slice_get_within mouths j m at) in
        let was = piped.born own.0 d c (own_tenant piped.wires mouths s.pipework own.0 j m piped.wired own.1 at d ∙ runs) in
        ap is_gone (still c was.child was.is) ∙ sym (ap is_gone was.is)

    -- who has no place has no slots
    no_one : (a : List ℕ) (d : ℕ) (c : List ℕ) → s.pipework.programs a d ≡ Some (Runs c) → piped.wires a ≡ None → ⊥
    no_one a d c runs none =
        let both : ◌≡◌ {A = Option Tenant} None (Some (Runs c)) = sym (no_slots piped.wires mouths s.pipework a piped.wired none d) ∙ runs in cc

-- a mail started
pub start_piped : (crew : ℕ) (mouths : List Mouths) (actors : List Held) (events : List Kept) (y : Held) (a : List ℕ) (program : Program)
    → is_member a ≡ false → (known events).actors a ≡ None → IsMail program → y.name ≡ a → y.wire ≡ None → y.slot ≡ None
    → ArePiped crew mouths actors (known events) events → ArePiped crew mouths (actors ++ y ∷ []) (known (events ++ kept.Start a program ∷ [])) (events ++ kept.Start a program ∷ [])
start_piped crew mouths actors events y a program named new mail name wire slot piped =
    let s = known events in
    let grown = length-append actors (y ∷ []) in
    let many = piped.many in
    still_piped crew mouths actors (actors ++ y ∷ []) events (kept.Start a program) piped tt refl tt
    (λ b x is. put_at_other s.actors a (Some (newborn program)) b (λ e. unlike b x is e) ∙ is)
    (λ b x is. ⊎_elim
    (λ f.
    let both : ◌≡◌ {A = Option Actor} (Some (newborn program)) (Some x) = sym (ap (put_at s.actors a (Some (newborn program))) f.0 ∙ put_at_same s.actors a (Some (newborn program))) ∙ is in
    let same : newborn program ≡ x = cc in
    inr (ap (λ (x : Actor). x.past) (sym same), ap is_member f.0 ∙ named, ap s.actors f.0 ∙ new, subst (λ (x : Actor). IsMail x.program) same mail))
    (λ f. inl (sym (put_at_other s.actors a (Some (newborn program)) b f.0) ∙ is))
    (text_cases b a))
    (λ parent c some. apart c some)
    (omega (arith, grown, many))
    (λ j z low at. ⊎_elim (λ f. absurd (omega (arith, f.0, low, many))) (λ f. f) (get_push actors y j z at))
    (each_push (λ (j : ℕ) (z : Held). z.ended ≡ None → (piped.wires z.name ≡ z.wire) × IsSlotOf piped.wires (s.pipework.slots z.name) z.slot) actors y
    (λ lives. (
      ap piped.wires name ∙ (piped.fresh a new named).place ∙ sym wire,
      subst (IsSlotOf piped.wires (s.pipework.slots y.name)) (sym slot) (ap s.pipework.slots name ∙ (piped.fresh a new named).slot),
    ))
    (λ j z at lives. (piped.places j z at lives, piped.stands j z at lives)))
    (each_push (λ (j : ℕ) (z : Held). is_member z.name ≡ false → piped.wires z.name ≡ z.wire) actors y (λ other. ap piped.wires name ∙ (piped.fresh a new named).place ∙ sym wire) piped.others)
  where
    unlike : (b : List ℕ) (x : Actor) → (known events).actors b ≡ Some x → b ≡ a → ⊥
    unlike b x is same = let both : ◌≡◌ {A = Option Actor} None (Some x) = sym new ∙ ap (known events).actors (sym same) ∙ is in cc

    apart : (b : List ℕ) → IsSome ((known events).actors b) → a ≢ b
    apart b some same = let both : IsSome {T = Actor} None = subst (λ (o : Option Actor). IsSome o) (ap (known events).actors (sym same) ∙ new) some in absurd (cc)

-- a moment came
pub moment_piped : (crew : ℕ) (mouths : List Mouths) (actors : List Held) (events : List Kept) (m : ℕ)
    → ArePiped crew mouths actors (known events) events → ArePiped crew mouths actors (known (events ++ kept.Moment m ∷ [])) (events ++ kept.Moment m ∷ [])
moment_piped crew mouths actors events m piped =
    still_piped crew mouths actors actors events (kept.Moment m) piped tt refl tt (λ a x is. is) (λ a x is. inl is) (λ parent c some. tt) piped.many (λ j z low at. at)
    (λ j z at lives. (piped.places j z at lives, piped.stands j z at lives)) piped.others

-- the machine stopped
none_kept : (o : Option ℕ) → kept_at o [] ≡ None
none_kept None = refl
none_kept (Some i) = refl

no_seat_other : (a : List ℕ) (i : ℕ) → seat a ≡ Some i → is_member a ≡ false → ⊥
no_seat_other a i of other = let both : ◌≡◌ {A = Option ℕ} None (Some i) = sym (seat_none a other) ∙ of in cc

pub no_wires : AreWired seat [] no_pipework
no_wires = record {
  pipes = λ a i q of own. refl;
  programs = λ a d. sym (ap (λ (o : Option Mouths). tenant_in o d) (none_kept (seat a)));
  seats = λ a member. refl;
  members = λ a member. refl;
  others = λ a i of other. absurd (no_seat_other a i of other);
  within = λ a i of other. absurd (no_seat_other a i of other);
  apart = λ a b i of too. sym (same_seat a b i of too);
  owned = λ i low. absurd (omega (arith, low));
  children = λ a d c runs. absurd (cc);
}

stopped_none : (o : Option Actor) (x : Actor) → option_map stopped o ≡ Some x → x.life ≡ Alive → ⊥
stopped_none None x is alive = let both : ◌≡◌ {A = Option Actor} None (Some x) = is in absurd (cc)
stopped_none (Some z) x is alive = let same : stopped z ≡ x = cc in never_alive z.life (ap (λ (x : Actor). x.life) same ∙ alive)

pub halt_piped : (crew : ℕ) (mouths : List Mouths) (actors stood : List Held) (events : List Kept) (how : Survival)
    → ArePiped crew mouths actors (known events) events → AreCutOff (length events) actors stood → ArePiped crew [] stood (known (events ++ kept.Halt how ∷ [])) (events ++ kept.Halt how ∷ [])
halt_piped crew mouths actors stood events how piped cut =
    subst (λ (t : State). ArePiped crew [] stood t (events ++ kept.Halt how ∷ [])) (sym (known_push events (kept.Halt how) tt)) (record {
      wires = seat;
      wired = no_wires;
      slots = λ i m at. absurd (cc);
      children = λ i m d c at runs. absurd (cc);
      over = λ i m d c at runs. absurd (cc);
      places = λ j z at lives. absurd (none_lives j z at lives);
      stands = λ j z at lives. absurd (none_lives j z at lives);
      others = λ j z at other. seat_none z.name other ∙ sym (was_there (length events) actors stood cut j z at).2.wire;
      runs = λ a x is alive. absurd (stopped_none ((known events).actors a) x is alive);
      born = λ a d c runs. absurd (cc);
      whole = whole_push events (kept.Halt how) piped.whole tt;
      fresh = λ a unknown named. record { place = seat_none a named; slot = refl; pipes = λ q own. refl };
      fed = λ a x is alive borne. absurd (stopped_none ((known events).actors a) x is alive);
      awaited = λ c u there mail awaiting. absurd (cc);
      count = inl refl;
      few = piped.few;
      many = subst (λ (n : ℕ). crew ≤ n) (sym cut.many) piped.many;
      seated = λ j z low at lives. absurd (none_lives j z at lives);
    })
  where
    none_lives : (j : ℕ) (z : Held) → slice_get stood j ≡ Some z → z.ended ≡ None → ⊥
    none_lives j z at lives = let x = was_there (length events) actors stood cut j z at in none_alive (length events) x.0.ended (sym x.2.ended ∙ lives)

-- nothing happened yet
pub none_piped : ArePiped 0 [] [] (known []) []
none_piped = record {
  wires = seat;
  wired = no_wires;
  slots = λ i m at. absurd (cc);
  children = λ i m d c at runs. absurd (cc);
  over = λ i m d c at runs. absurd (cc);
  places = λ j z at lives. absurd (cc);
  stands = λ j z at lives. absurd (cc);
  others = λ j z at other. absurd (cc);
  runs = λ a x is alive. absurd (cc);
  born = λ a d c runs. absurd (cc);
  whole = tt;
  fresh = λ a unknown named. record { place = seat_none a named; slot = refl; pipes = λ q own. refl };
  fed = λ a x is alive borne. absurd (cc);
  awaited = λ c u there mail awaiting. absurd (cc);
  count = inl refl;
  few = inl refl;
  many = omega arith;
  seated = λ j z low at lives. absurd (cc);
}

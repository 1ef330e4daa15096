-- What a world keeps of its actors, as it does for one of them what concerns a child: an event of its parent that another actor, the
-- child, may take part in.
use Rattle.std.proofs.Common.{◌≡◌, ◌≢◌, ◌⊎◌, inl, inr, ℕ, zero, suc, ◌+◌, ◌≤◌, ◌<◌, List, [], ◌∷◌, ◌++◌, length, set, Bool, true, false, ◌||◌, Option, Some, None, if◌then◌else◌, IsSomeAnd, is_some, refl, sym, ap, ◌∙◌, subst, ⊎_elim, arith, bytes_eq, get_or, reverse}
use Rattle.std.proofs.Math.Bool.{or-false, or-true}
use Rattle.std.proofs.lemmas.List.{reverse-append}
use Rattle.std.proofs.lemmas.Bool.{ltb-true}
use Rattle.std.proofs.lemmas.Option.{get_or_from_slice_get}
use Rattle.std.specs.Prelude.{nat_lt}
use Rattle.std.specs.List.{slice_get}
use Rattle.std.specs.Option.{IsSome, option_map}
use Rattle.call_fs.specs.Disk.{Disk}
use Rattle.call_fs.specs.Maps.{put_at}
use Rattle.call_fs.proofs.Maps.{put_at_same, put_at_other}
use Rattle.call_fs.specs.Past.{IsRunBy, held}
use Rattle.call_fs.specs.Program.{IsKind, IsWithin, MayCome}
use Rattle.call_fs.specs.declared.program.Ready.{Ready}
use Rattle.call_fs.specs.declared.modes.Mode.{Mode}
use Rattle.call_fs.specs.declared.past.ChildData.{ChildData}
use Rattle.call_fs.specs.declared.past.ChildData.TheVariants as child
use Rattle.call_fs.specs.declared.past.GotData.{GotData}
use Rattle.call_fs.specs.declared.past.NeedData.{NeedData}
use Rattle.call_fs.specs.declared.past.NeedData.TheVariants as needs
use Rattle.call_fs.specs.declared.past.Own.{Own}
use Rattle.call_fs.specs.declared.program.Port.{Port}
use Rattle.call_fs.specs.declared.program.Port.TheVariants as port
use Rattle.world_events.specs.declared.event.Event.{Event as Kept}
use Rattle.world_events.specs.declared.event.Program.{Program}
use Rattle.world_events.specs.declared.event.Program.TheVariants.{Injector}
use Rattle.world_events.specs.Inputs.{own_in}
use Rattle.mail_world.specs.declared.actor.Actor.{Actor as Held}
use Rattle.mail_world.specs.Acting.{is_due_of_child, IsOwed, StaysAt}
use Rattle.mail_world.specs.declared.any_machine.AnyMachine.{AnyMachine}
use Rattle.mail_world.specs.ByKind.{BearsIn, IsMail, Follows, CanFind, present_of, found_of, looked_of, need_of, takes_of, awaits_of, with_own, own_of}
use Rattle.world_events.specs.declared.answers.Did.{Did}
use Rattle.mail_world.specs.Children.{IsDueOfChild, IsStart, IsGive, IsTake, MayTakeIn, HasTakenIn, Serves, place_by_name, child_place}
use Rattle.mail_world.specs.Crew.{IsFoundAt}
use Rattle.mail_world.specs.Generations.{idled_in, idled_by, has_idled}
use Rattle.mail_world.specs.History.{Actor, Life, State, latest, newborn, next_of, start_of, MayFind}
use Rattle.mail_world.specs.History.Life.{Alive}
use Rattle.mail_world.specs.Inside.{known, HasBorneLast, IsAwaited, Owes, RunsAt, RunsBy, unowed, StandsFor, span_by, life_by, IsMember, IsStranger, AreActors, has, is_by, AreApart, Owns, HasOpen, IsOpenTo, IsWorld, ArePiped, place_by, among_all}
use Rattle.mail_world.specs.Readiness.{is_awaiting, found_at, found_by, found_in}
use Rattle.mail_world.specs.Pipework.{Slot, Tenant, is_member}
use Rattle.mail_world.specs.Pipework.Tenant.{Runs}
use Rattle.mail_world.specs.Wired.{seat, slots_at, AreWired, IsSlotOf, IsWholeGiving, AreWholeGivings}
use Rattle.world_pipes.specs.declared.mouths.Mouths.{Mouths}
use Rattle.world_pipes.specs.Mouths.{actor_of}
use Rattle.mail_world.specs.World.{Counts, next_pid, counts_in, IsOwnOf, IsKeptBy, span_of, ends, starts, was_started}
use Rattle.mail_world.proofs.Crew.{life_same, over_is, member_alive, owes_still, started_push, apart_by}
use Rattle.mail_world.proofs.Awaiting.{can_find}
use Rattle.mail_world.proofs.Found.{found_is}
use Rattle.mail_world.proofs.Histories.{IsActing, FindsIn, LeadsOn, goes_on}
use Rattle.mail_world.proofs.Lasts.{same_last}
use Rattle.mail_world.proofs.Feeders.{birth_feeds, feeder_next}
use Rattle.mail_world.proofs.Leaving.{child_apart, child_named, has_place, in_slot}
use Rattle.mail_world.proofs.Borne.{borne_known}
use Rattle.mail_world.proofs.Members.{whether}
use Rattle.mail_world.proofs.Programs.{found_finds}
use Rattle.mail_world.proofs.Seats.{seat_low, seat_none}
use Rattle.mail_world.proofs.Machines.{own_is}
use Rattle.mail_world.proofs.Lists.{get_last, get_set, each_set, some_set, each_push, some_push, some_last, some_at}
use Rattle.mail_world.proofs.Spans.{span_push, span_stays, span_begins}
use Rattle.queue_law.proofs.Tests.{text_cases, same_text, other_text}

-- The parent

-- it lives, and stands at this place
pub record HasParent (actors : List Held) (s : State) (events : List Kept) (p : ℕ) (a : List ℕ) (i : ℕ) (parent : Actor) : Type 0 where
  pub held : Held
  pub is : slice_get actors i ≡ Some held
  pub name : held.name ≡ a
  pub member : IsMember s events p held
  pub lives : held.ended ≡ None
  pub same : member.actor ≡ parent

alive_lasts : (o status : Option ℕ) → life_by o status ≡ Alive → o ≡ None
alive_lasts None status is = refl
alive_lasts (Some at) status is = absurd (over_is at status is)

-- who is alive has a place
pub has_parent : (places : List ℕ → Option ℕ) (actors : List Held) (s : State) (events : List Kept) (p : ℕ) (a : List ℕ) (i : ℕ) (parent : Actor)
    → AreActors places actors s events p → s.actors a ≡ Some parent → parent.life ≡ Alive → places a ≡ Some i → HasParent actors s events p a i parent
has_parent places actors s events p a i parent w is alive at =
    let x = some_at (λ (x : Held). x.name ≡ a) (slice_get actors i) (w.named a i at) in
    let m = w.members i x.0 x.1 in
    let both : ◌≡◌ {A = Option Actor} (Some m.actor) (Some parent) = sym m.is ∙ ap s.actors x.2 ∙ is in
    let same : m.actor ≡ parent = cc in
    let lives = alive_lasts x.0.ended x.0.status (sym m.life ∙ ap (λ (a : Actor). a.life) same ∙ alive) in
    record { held = x.0; is = x.1; name = x.2; member = m; lives = lives; same = same }

-- after an event of its own
abbrev pub with_deed : Actor → Own → Actor
with_deed actor own = record { program = actor.program; past = own ∷ actor.past; life = actor.life }

pub deed_member : (s t : State) (events : List Kept) (k : Kept) (p : ℕ) (x y : Held) (own : Own) (m : IsMember s events p x)
    → x.ended ≡ None → own_in k ≡ Some own → starts x.name k ≡ false → ends x.name k ≡ false → t.actors x.name ≡ Some (with_deed m.actor own)
    → y.name ≡ x.name → y.ended ≡ x.ended → y.status ≡ x.status → own.read ≡ p
    → next_of m.actor.program m.actor.past own.read own.ready ≡ own.due → MayCome own.due own.came
    → StandsFor y m.actor.program (own ∷ m.actor.past) → ((at : ℕ) → y.owed ≡ Some at → IsOwed y own (length events) at) → (IsMail m.actor.program → awaits_of y.machine ≡ is_awaiting t y.name)
    → IsMember t (events ++ k ∷ []) p y
deed_member s t events k p x y own m alive own_is no_start no_end acts name ended status read due may follows owes awaits = record {
  actor = with_deed m.actor own;
  is = ap t.actors name ∙ acts;
  follows = λ e. follows;
  owes = λ e at is. let o = owes at is in record {
    own = own;
    before = m.actor.past;
    newest = refl;
    event = k;
    there = ap (slice_get (events ++ k ∷ [])) o.here ∙ get_last events k;
    is = own_is;
    read = o.read;
    found = o.found;
    looked = o.looked;
    due = o.due;
    kind = o.kind;
    within = o.within;
  };
  runs = subst (λ (a : List ℕ). RunsAt (seat a) m.actor.program) (sym name) m.runs;
  run = (m.run, (due, may));
  in_order = omega (arith, read);
  life = m.life ∙ life_same x.ended y.ended x.status y.status ended status;
  unended = λ e. status ∙ m.unended (sym ended ∙ e);
  awaits = λ e mail. awaits mail;
  spans = ap (λ (a : List ℕ). span_of a (reverse (events ++ k ∷ []))) name ∙ span_stays events k x.name no_start no_end ∙ m.spans ∙ ap span_by (sym ended);
  closed = λ at e. let both : ◌≡◌ {A = Option ℕ} None (Some at) = sym (ended ∙ alive) ∙ e in absurd (cc);
}

-- The others

pub get_beside : (xs : List Held) (h : ℕ) (y : Held) (i : ℕ) (z : Held) → i ≢ h → slice_get xs i ≡ Some z → slice_get (set xs h y) i ≡ Some z
get_beside [] h y i z other is = is
get_beside (v ∷ vs) zero y zero z other is = absurd (other refl)
get_beside (v ∷ vs) zero y (suc i) z other is = is
get_beside (v ∷ vs) (suc h) y zero z other is = is
get_beside (v ∷ vs) (suc h) y (suc i) z other is = get_beside vs h y i z (λ e. other (ap suc e)) is

-- an event leaves each actor but these two as it was
pub record LeavesBeside (a c : List ℕ) (s t : State) (k : Kept) : Type 0 where
  pub actors : (b : List ℕ) → b ≢ a → b ≢ c → t.actors b ≡ s.actors b
  pub holder : t.holder ≡ s.holder
  pub no_start : (b : List ℕ) → b ≢ c → starts b k ≡ false
  pub no_end : (b : List ℕ) → ends b k ≡ false

module _ (s t : State) (events : List Kept) (k : Kept) (p : ℕ) (a c : List ℕ) (leaves : LeavesBeside a c s t k) where
  pub beside_member : (x : Held) → x.name ≢ a → x.name ≢ c → (m : IsMember s events p x) → (x.ended ≡ None → IsMail m.actor.program → awaits_of x.machine ≡ is_awaiting t x.name) → IsMember t (events ++ k ∷ []) p x
  beside_member x far other m awaits = record {
    actor = m.actor;
    is = leaves.actors x.name far other ∙ m.is;
    follows = m.follows;
    owes = λ lives at is. owes_still x events k m.actor.past at (m.owes lives at is);
    runs = m.runs;
    run = m.run;
    in_order = m.in_order;
    life = m.life;
    unended = m.unended;
    awaits = awaits;
    spans = span_stays events k x.name (leaves.no_start x.name other) (leaves.no_end x.name) ∙ m.spans;
    closed = m.closed;
  }

  pub beside_stranger : (b : List ℕ) → b ≢ a → b ≢ c → IsStranger s events b → IsStranger t (events ++ k ∷ []) b
  beside_stranger b far other m = record {
    unknown = leaves.actors b far other ∙ m.unknown;
    unborn = span_stays events k b (leaves.no_start b other) (leaves.no_end b) ∙ m.unborn;
    holds_none = λ fd. ap (λ (h : ℕ → Option (List ℕ)). is_by b (h fd)) leaves.holder ∙ m.holds_none fd;
  }

  apart_none : (places : List ℕ → Option ℕ) (d b : List ℕ) (i : ℕ) → places d ≡ Some i → places b ≡ None → b ≢ d
  apart_none places d b i at none same = let both : ◌≡◌ {A = Option ℕ} None (Some i) = sym none ∙ ap places same ∙ at in absurd (cc)

  -- The child stands at a place, and is another one then.
  pub crew_feeds : (places : List ℕ → Option ℕ) (actors : List Held) (h i : ℕ) (x y z w : Held)
      → AreActors places actors s events p → slice_get actors h ≡ Some x → x.name ≡ a → slice_get actors i ≡ Some z → z.name ≡ c → y.name ≡ x.name → w.name ≡ z.name → a ≢ c
      → ((b : List ℕ) → starts b k ≡ false)
      → ((v : Held) → v.name ≢ a → v.name ≢ c → v.ended ≡ None → awaits_of v.machine ≡ is_awaiting s v.name → awaits_of v.machine ≡ is_awaiting t v.name)
      → IsMember t (events ++ k ∷ []) p y → IsMember t (events ++ k ∷ []) p w → AreActors places (set (set actors h y) i w) t (events ++ k ∷ []) p
  crew_feeds places actors h i x y z w crew is mine there its same kept far no_start awaits parent child =
      let here = crew.placed h x is in
      let place = crew.placed i z there in
      let beside : i ≢ h = λ e. far (sym mine ∙ same_name h x z is (ap (slice_get actors) (sym e) ∙ there) ∙ its) in
      let mid = set actors h y in
      let mid_is : slice_get mid i ≡ Some z = get_beside actors h y i z beside there in
      record {
        placed = each_set (λ j (v : Held). places v.name ≡ Some j) mid i w (ap places kept ∙ place) (λ j v other found.
            each_set (λ j (v : Held). places v.name ≡ Some j) actors h y (ap places same ∙ here) (λ j v other at. crew.placed j v at) j v found);
        members = each_set (λ j (v : Held). IsMember t (events ++ k ∷ []) p v) mid i w child (λ j v other found. ⊎_elim
            (λ f. subst (λ (v : Held). IsMember t (events ++ k ∷ []) p v) f.1 parent)
            (λ f.
            let one : v.name ≢ a = subst (λ (b : List ℕ). v.name ≢ b) mine (apart_by places x.name v.name h j here (crew.placed j v f.1) f.0) in
            let two : v.name ≢ c = subst (λ (b : List ℕ). v.name ≢ b) its (apart_by places z.name v.name i j place (crew.placed j v f.1) other) in
            let m = crew.members j v f.1 in
            beside_member v one two m (λ lives mail. awaits v one two lives (m.awaits lives mail)))
            (get_set actors h y j v found));
        named = λ b j at. some_set (λ (v : Held). v.name ≡ b) mid i z w j mid_is (λ e. kept ∙ e) (some_set (λ (v : Held). v.name ≡ b) actors h x y j is (λ e. same ∙ e) (crew.named b j at));
        strangers = λ b none. beside_stranger b (subst (λ (d : List ℕ). b ≢ d) mine (apart_none places x.name b h here none))
            (subst (λ (d : List ℕ). b ≢ d) its (apart_none places z.name b i place none)) (crew.strangers b none);
        started = λ b. started_push events k b ∙ ap (λ t. was_started events b || t) (no_start b) ∙ or-false (was_started events b) ∙ crew.started b;
      }
    where
      same_name : (j : ℕ) (u v : Held) → slice_get actors j ≡ Some u → slice_get actors j ≡ Some v → u.name ≡ v.name
      same_name j u v first second = let both : ◌≡◌ {A = Option Held} (Some u) (Some v) = sym first ∙ second in let one : u ≡ v = cc in ap (λ (x : Held). x.name) one

  -- The child is a new actor.
  pub crew_bears : (places next : List ℕ → Option ℕ) (actors : List Held) (h : ℕ) (x y z : Held)
      → AreActors places actors s events p → slice_get actors h ≡ Some x → x.name ≡ a → y.name ≡ x.name → z.name ≡ c → places c ≡ None
      → ((b : List ℕ) → next b ≡ put_at places c (Some (length actors)) b) → length (set actors h y) ≡ length actors
      → ((b : List ℕ) → starts b k ≡ bytes_eq c b)
      → ((v : Held) → v.name ≢ a → v.name ≢ c → v.ended ≡ None → awaits_of v.machine ≡ is_awaiting s v.name → awaits_of v.machine ≡ is_awaiting t v.name)
      → IsMember t (events ++ k ∷ []) p y → IsMember t (events ++ k ∷ []) p z → AreActors next (set actors h y ++ z ∷ []) t (events ++ k ∷ []) p
  crew_bears places next actors h x y z crew is mine same its new put many start awaits parent child =
      let here = crew.placed h x is in
      let mid = set actors h y in
      let born : next c ≡ Some (length mid) = put c ∙ put_at_same places c (Some (length actors)) ∙ ap Some (sym many) in
      let old : (b : List ℕ) → b ≢ c → next b ≡ places b = λ b other. put b ∙ put_at_other places c (Some (length actors)) b other in
      let apart_new : (j : ℕ) (v : Held) → places v.name ≡ Some j → v.name ≢ c = λ j v at e. let both : ◌≡◌ {A = Option ℕ} None (Some j) = sym new ∙ ap places (sym e) ∙ at in absurd (cc) in
      record {
        placed = each_push (λ j (v : Held). next v.name ≡ Some j) mid z (ap next its ∙ born)
            (each_set (λ j (v : Held). next v.name ≡ Some j) actors h y (ap next same ∙ old x.name (apart_new h x here) ∙ here)
            (λ j v other at. old v.name (apart_new j v (crew.placed j v at)) ∙ crew.placed j v at));
        members = each_push (λ j (v : Held). IsMember t (events ++ k ∷ []) p v) mid z child
            (each_set (λ j (v : Held). IsMember t (events ++ k ∷ []) p v) actors h y parent (λ j v other at.
            let one : v.name ≢ a = subst (λ (b : List ℕ). v.name ≢ b) mine (apart_by places x.name v.name h j here (crew.placed j v at) other) in
            let two : v.name ≢ c = apart_new j v (crew.placed j v at) in
            let m = crew.members j v at in
            beside_member v one two m (λ lives mail. awaits v one two lives (m.awaits lives mail))));
        named = λ b j at. ⊎_elim
            (λ f.
            let same_at : ◌≡◌ {A = Option ℕ} (Some j) (Some (length mid)) = sym at ∙ ap next f.0 ∙ born in
            let last : j ≡ length mid = cc in
            subst (λ (j : ℕ). IsSomeAnd (slice_get (mid ++ z ∷ []) j) (λ v. v.name ≡ b)) (sym last) (some_last (λ (v : Held). v.name ≡ b) mid z (its ∙ sym f.0)))
            (λ f. some_push (λ (v : Held). v.name ≡ b) mid z j (some_set (λ (v : Held). v.name ≡ b) actors h x y j is (λ e. same ∙ e) (crew.named b j (sym (old b f.0) ∙ at))))
            (text_cases b c);
        strangers = λ b none.
            let other : b ≢ c = λ e. let both : ◌≡◌ {A = Option ℕ} None (Some (length mid)) = sym none ∙ ap next e ∙ born in absurd (cc) in
            let before : places b ≡ None = sym (old b other) ∙ none in
            beside_stranger b (subst (λ (d : List ℕ). b ≢ d) mine (apart_none places x.name b h here before)) other (crew.strangers b before);
        started = λ b. started_push events k b ∙ ⊎_elim
            (λ f. ap (λ t. was_started events b || t) (start b ∙ ap (bytes_eq c) f.0 ∙ same_text c) ∙ or-true (was_started events b) ∙ sym (ap is_some (ap next f.0 ∙ born)))
            (λ f. ap (λ t. was_started events b || t) (start b ∙ other_text c b (λ e. f.0 (sym e))) ∙ or-false (was_started events b) ∙ crew.started b ∙ sym (ap is_some (old b f.0)))
            (text_cases b c);
      }

-- a child that has just started
pub newborn_member : (s t : State) (events : List Kept) (k : Kept) (p : ℕ) (z : Held) (c : List ℕ) (program : Program) → RunsAt (seat c) program
    → IsStranger s events c → starts c k ≡ true → t.actors c ≡ Some (newborn program) → z.name ≡ c → z.ended ≡ None → z.owed ≡ None → z.status ≡ None → Follows z.machine program []
    → start_of program ≡ p → (IsMail program → awaits_of z.machine ≡ is_awaiting t c) → IsMember t (events ++ k ∷ []) p z
newborn_member s t events k p z c program runs stranger start acts name ended paid status follows now awaits = record {
  actor = newborn program;
  is = ap t.actors name ∙ acts;
  follows = λ e. subst (λ (o : Option ℕ). Follows z.machine program (unowed o [])) (sym paid) follows;
  owes = λ e at is. let both : ◌≡◌ {A = Option ℕ} None (Some at) = sym paid ∙ is in absurd (cc);
  runs = subst (λ (a : List ℕ). RunsAt (seat a) program) (sym name) runs;
  run = tt;
  in_order = omega arith;
  life = sym (ap (λ (o : Option ℕ). life_by o z.status) ended);
  unended = λ e. status;
  awaits = λ e mail. awaits mail ∙ ap (is_awaiting t) (sym name);
  spans = ap (λ (a : List ℕ). span_of a (reverse (events ++ k ∷ []))) name ∙ span_push events k c
      ∙ span_begins c k (length events) (span_of c (reverse events)) stranger.unborn start ∙ ap span_by (sym ended);
  closed = λ at e. let both : ◌≡◌ {A = Option ℕ} None (Some at) = sym ended ∙ e in absurd (cc);
}

-- What is open

pub still_open : (d : Disk) (s t : State) (v z : Held) → t.holder ≡ s.holder → z.name ≡ v.name → z.descriptors.items ≡ v.descriptors.items
    → ((actor : Actor) → t.actors z.name ≡ Some actor → actor.life ≡ Alive → Owns d s.holder v.name (held actor.past)) → HasOpen d s v → HasOpen d t z
still_open d s t v z holder name list owns old = record {
  lists = λ fd. ap (has fd) list ∙ old.lists fd ∙ ap (λ (h : ℕ → Option (List ℕ)). is_by v.name (h fd)) (sym holder) ∙ ap (λ (a : List ℕ). is_by a (t.holder fd)) (sym name);
  apart = subst AreApart (sym list) old.apart;
  owns = λ actor at lives. subst (λ (h : ℕ → Option (List ℕ)). Owns d h z.name (held actor.past)) (sym holder)
      (subst (λ (a : List ℕ). Owns d s.holder a (held actor.past)) (sym name) (owns actor at lives));
}

-- of the parent, whose event opened nothing
pub deed_open : (d : Disk) (s t : State) (x y : Held) (own : Own) (parent : Actor) → t.holder ≡ s.holder → y.name ≡ x.name → y.descriptors.items ≡ x.descriptors.items
    → s.actors x.name ≡ Some parent → parent.life ≡ Alive → t.actors x.name ≡ Some (with_deed parent own) → held (own ∷ parent.past) ≡ held parent.past → HasOpen d s x → HasOpen d t y
deed_open d s t x y own parent holder name list is alive acts holds old =
    still_open d s t x y holder name list (λ actor at lives.
    let both : ◌≡◌ {A = Option Actor} (Some (with_deed parent own)) (Some actor) = sym acts ∙ ap t.actors (sym name) ∙ at in
    let one : with_deed parent own ≡ actor = cc in
    subst (λ (z : Actor). Owns d s.holder x.name (held z.past)) one (subst (λ (h : ℕ → Option Mode). Owns d s.holder x.name h) (sym holds) (old.owns parent is alive))) old

-- of one that did nothing
pub idle_open : (d : Disk) (s t : State) (v z : Held) (program : Program) (life : Life) → t.holder ≡ s.holder → z.name ≡ v.name → z.descriptors.items ≡ v.descriptors.items
    → t.actors v.name ≡ Some (record { program = program; past = []; life = life }) → HasOpen d s v → HasOpen d t z
idle_open d s t v z program life holder name list is old =
    still_open d s t v z holder name list (λ actor at lives.
    let both : ◌≡◌ {A = Option Actor} (Some (record { program = program; past = []; life = life })) (Some actor) = sym is ∙ ap t.actors (sym name) ∙ at in
    let one : record { program = program; past = []; life = life } ≡ actor = cc in
    subst (λ (z : Actor). Owns d s.holder v.name (held z.past)) one (λ fd mode is. absurd (cc))) old

pub beside_open : (d : Disk) (s t : State) (v : Held) → t.holder ≡ s.holder → t.actors v.name ≡ s.actors v.name → HasOpen d s v → HasOpen d t v
beside_open d s t v holder same old = still_open d s t v v holder refl refl (λ actor at lives. old.owns actor (sym same ∙ at) lives) old

-- a new one has nothing open
pub newborn_open : (d : Disk) (s t : State) (z : Held) (c : List ℕ) (program : Program) → t.holder ≡ s.holder → ((fd : ℕ) → is_by c (s.holder fd) ≡ false) → z.name ≡ c → z.descriptors.items ≡ []
    → t.actors c ≡ Some (newborn program) → HasOpen d t z
newborn_open d s t z c program holder none name list acts = record {
  lists = λ fd. ap (has fd) list ∙ sym (ap (λ (a : List ℕ). is_by a (t.holder fd)) name ∙ ap (λ (h : ℕ → Option (List ℕ)). is_by c (h fd)) holder ∙ none fd);
  apart = subst AreApart (sym list) tt;
  owns = λ actor at lives.
      let both : ◌≡◌ {A = Option Actor} (Some (newborn program)) (Some actor) = sym acts ∙ ap t.actors (sym name) ∙ at in
      let one : newborn program ≡ actor = cc in
      subst (λ (a : Actor). Owns d t.holder z.name (held a.past)) one (λ fd mode is. absurd (cc));
}

pub all_open : (d : Disk) (actors later : List Held) (s t : State) → t.holder ≡ s.holder → IsOpenTo d actors s → ((j : ℕ) (z : Held) → slice_get later j ≡ Some z → HasOpen d t z) → IsOpenTo d later t
all_open d actors later s t holder open_to each = record {
  held = λ fd b at. open_to.held fd b (ap (λ (h : ℕ → Option (List ℕ)). h fd) (sym holder) ∙ at);
  each = each;
}

-- What its machine is handed

-- it was handed what came of this event
pub taken_in : (x y : Held) (m : AnyMachine) (own : Own) (index : ℕ) (idle : Bool) → present_of m ≡ own.read → found_of m ≡ own.ready → looked_of m ≡ true → need_of m ≡ own.due
    → IsKind own.due own.came → ((most : ℕ) → IsWithin most own.came)
    → ((program : Program) (past : List Own) → Follows x.machine program past → Follows m program past)
    → ((program : Program) (past : List Own) → Follows m program past → StandsFor y program (with_own m own.came past))
    → ((program : Program) (past : List Own) → Follows m program past → idle ≡ idled_in program past (own_of m own.came))
    → ((at : ℕ) → y.owed ≡ Some at → (at ≡ index) × (y.machine ≡ m))
    → y.name ≡ x.name → y.descriptors.items ≡ x.descriptors.items → y.ended ≡ x.ended → y.status ≡ x.status → awaits_of y.machine ≡ awaits_of x.machine → StaysAt x y
    → HasTakenIn x y own index idle
taken_in x y m own index idle read found looked due kind within stands follows idles owes name list ended status awaits stays = record {
  follows = λ program past f. subst (StandsFor y program) (own_is m own past read found due) (follows program past (stands program past f));
  idled = λ program past f. idles program past (stands program past f) ∙ ap (idled_first program past) (own_is m own past read found due);
  owes = λ at is. let o = owes at is in record {
    here = o.0;
    read = ap present_of o.1 ∙ read;
    found = ap found_of o.1 ∙ found;
    looked = ap looked_of o.1 ∙ looked;
    due = ap need_of o.1 ∙ due;
    kind = kind;
    within = within (takes_of y.machine);
  };
  name = name;
  descriptors = list;
  ended = ended;
  status = status;
  awaits = awaits;
  stays = stays;
} where
  idled_first : Program → List Own → List Own → Bool
  idled_first program past [] = false
  idled_first program past (first ∷ rest) = idled_in program past first

-- What the parent does

-- its machine, which was paid, was handed what came of its event, or owes it
pub record HasServed (x y : Held) (own : Own) (index : ℕ) (parent : Actor) : Type 0 where
  pub stands : StandsFor y parent.program (own ∷ parent.past)
  pub owes : (at : ℕ) → y.owed ≡ Some at → IsOwed y own index at
  pub name : y.name ≡ x.name
  pub descriptors : y.descriptors.items ≡ x.descriptors.items
  pub ended : y.ended ≡ x.ended
  pub status : y.status ≡ x.status
  pub awaits : awaits_of y.machine ≡ awaits_of x.machine
  pub stays : StaysAt x y

pub served_member : (actors : List Held) (s t : State) (events : List Kept) (k : Kept) (p : ℕ) (a : List ℕ) (i : ℕ) (parent : Actor) (here : HasParent actors s events p a i parent) (y : Held) (own : Own)
    → HasServed here.held y own (length events) parent → own_in k ≡ Some own → starts a k ≡ false → ends a k ≡ false
    → t.actors a ≡ Some (with_deed parent own) → own.read ≡ p → next_of parent.program parent.past own.read own.ready ≡ own.due → MayCome own.due own.came
    → (IsMail parent.program → ⊥) → IsMember t (events ++ k ∷ []) p y
served_member actors s t events k p a i parent here y own served own_is no_start no_end acts read due may no_mail =
    let x = here.held in
    let m = here.member in
    let stands : StandsFor y m.actor.program (own ∷ m.actor.past) = subst (λ (a : Actor). StandsFor y a.program (own ∷ a.past)) (sym here.same) served.stands in
    let due_is : next_of m.actor.program m.actor.past own.read own.ready ≡ own.due = ap (λ (a : Actor). next_of a.program a.past own.read own.ready) here.same ∙ due in
    let acted : t.actors x.name ≡ Some (with_deed m.actor own) = ap t.actors here.name ∙ acts ∙ ap (λ (a : Actor). Some (with_deed a own)) (sym here.same) in
    deed_member s t events k p x y own m here.lives own_is (ap (λ (a : List ℕ). starts a k) here.name ∙ no_start) (ap (λ (a : List ℕ). ends a k) here.name ∙ no_end) acted
    served.name served.ended served.status read due_is may stands served.owes (λ mail. absurd (no_mail (subst (λ (a : Actor). IsMail a.program) here.same mail)))

-- The child

-- it stands among the mails at this place
pub record HasChild (crew : ℕ) (places : List ℕ → Option ℕ) (actors : List Held) (s : State) (events : List Kept) (p : ℕ) (c : List ℕ) : Type 0 where
  pub at : ℕ
  pub place : places c ≡ Some at
  pub held : Held
  pub is : slice_get actors (crew + at) ≡ Some held
  pub name : held.name ≡ c
  pub member : IsMember s events p held
  pub named : is_member c ≡ false

pub has_child : (crew : ℕ) (places : List ℕ → Option ℕ) (mouths : List Mouths) (actors : List Held) (s : State) (events : List Kept) (p : ℕ) (a c : List ℕ)
    {d : ℕ} → AreActors (among_all crew places) actors s events p → ArePiped crew mouths actors s events → s.pipework.programs a d ≡ Some (Runs c) → HasChild crew places actors s events p c
has_child crew places mouths actors s events p a c {d} w piped runs = by_place (places c) refl where
  named : is_member c ≡ false
  named = child_named crew mouths actors s events piped a c runs

  among : (o : Option ℕ) → places c ≡ o → among_all crew places c ≡ option_map (λ i. crew + i) o
  among o is = ap (λ (q : Option ℕ). place_by crew q (places c)) (seat_none c named) ∙ ap (option_map (λ i. crew + i)) is

  unknown : (o : Option Actor) → o ≡ None → IsSome o → ⊥
  unknown None none there = absurd (cc)
  unknown (Some x) none there = absurd (cc)

  by_place : (o : Option ℕ) → places c ≡ o → HasChild crew places actors s events p c
  by_place None is = absurd (unknown (s.actors c) (w.strangers c (among None is)).unknown (borne_known piped.wires s a d c (piped.born a d c runs)))
  by_place (Some i) is =
      let z = some_at (λ (z : Held). z.name ≡ c) (slice_get actors (crew + i)) (w.named c (crew + i) (among (Some i) is)) in
      record { at = i; place = is; held = z.0; is = z.1; name = z.2; member = w.members (crew + i) z.0 z.1; named = named }

-- it stands elsewhere than its parent, which is no mail
pub child_beside : (crew : ℕ) (places : List ℕ → Option ℕ) (mouths : List Mouths) (actors : List Held) (s : State) (events : List Kept) (p : ℕ) (a c : List ℕ) (i : ℕ) (parent : Actor) {d : ℕ}
    → AreActors (among_all crew places) actors s events p → ArePiped crew mouths actors s events → (here : HasParent actors s events p a i parent) → s.pipework.programs a d ≡ Some (Runs c)
    → (h : HasChild crew places actors s events p c) → (a ≢ c) × (crew + h.at ≢ i)
child_beside crew places mouths actors s events p a c i parent {d} w piped here runs h =
    let far = child_apart crew (among_all crew places) mouths actors s events p i here.held w piped here.is c (ap (λ (b : List ℕ). s.pipework.programs b d) here.name ∙ runs) in (
      λ same. far (sym same ∙ sym here.name),
      λ same.
          let both : ◌≡◌ {A = Option Held} (Some h.held) (Some here.held) = sym h.is ∙ ap (slice_get actors) same ∙ here.is in
          let one : h.held ≡ here.held = cc in
          far (sym h.name ∙ ap (λ (x : Held). x.name) one),
    )

-- who is read at that place after the parent was served
pub child_read : (crew : ℕ) (places : List ℕ → Option ℕ) (actors : List Held) (s : State) (events : List Kept) (p : ℕ) (c : List ℕ) (h : HasChild crew places actors s events p c) (i : ℕ) (y x : Held)
    → crew + h.at ≢ i → x ≡ get_or (set actors i y) (crew + h.at) x → h.held ≡ x
child_read crew places actors s events p c h i y x beside read =
    sym (get_or_from_slice_get (set actors i y) (crew + h.at) h.held x (get_beside actors i y (crew + h.at) h.held beside h.is)) ∙ sym read

-- so that place is found
pub child_found : (crew : ℕ) (places : List ℕ → Option ℕ) (mouths : List Mouths) (actors : List Held) (s : State) (events : List Kept) (p : ℕ) (a c : List ℕ) (wire : Option ℕ) (wires : List ℕ → Option ℕ) (d : ℕ)
    → AreWired wires mouths s.pipework → wires a ≡ wire → s.pipework.programs a d ≡ Some (Runs c) → (h : HasChild crew places actors s events p c) → child_place mouths wire d crew places ≡ Some (crew + h.at)
child_found crew places mouths actors s events p a c wire wires d wired of runs h =
    ap (λ (o : Option Tenant). place_by_name crew places (actor_of o)) (in_slot wires mouths s a c wire wired of runs) ∙ ap (λ (o : Option ℕ). found o) h.place
  where
    found : Option ℕ → Option ℕ
    found None = None
    found (Some i) = Some (crew + i)

-- What is known of the parent

module _ (crew : ℕ) (mouths : List Mouths) (actors : List Held) (events : List Kept) (p : ℕ) (a : List ℕ) (i : ℕ) (parent : Actor) (here : HasParent actors (known events) events p a i parent)
    (is : (known events).actors a ≡ Some parent) (alive : parent.life ≡ Alive) where
  pub acting_parent : IsActing (known events) a p parent
  acting_parent = record { is = is; alive = alive; in_order = subst (λ (a : Actor). latest a.program a.past ≤ p) here.same here.member.in_order }

  pub parent_runs : IsRunBy (next_of parent.program) parent.past
  parent_runs = subst (λ (a : Actor). IsRunBy (next_of a.program) a.past) here.same here.member.run

  -- what it finds it may find
  pub parent_finds : FindsIn events a parent (found_in (known events) a)
  parent_finds = λ t pipes. subst (MayFind t a parent.program parent.past) (sym (ap (found_at (known events) a) is))
      (found_finds (known events) t a parent.program parent.past pipes)

  -- who does something else than to give its child its input has not just started it
  pub not_borne : ArePiped crew mouths actors (known events) events → (now : ℕ) (ready : Ready) (due : NeedData) → next_of parent.program parent.past now ready ≡ due
      → ((bytes : List ℕ) → due ≡ needs.Give (port.Program 0) bytes → ⊥) → HasBorneLast parent.past → ⊥
  not_borne piped now ready due next other borne =
      let may = piped.fed a parent is alive borne in
      let gives = feeder_next parent.program parent.past (birth_feeds parent.program parent.past parent_runs borne) parent_runs borne in
      other gives.0 (sym next ∙ gives.1 now ready)

  -- nor does anybody await anything of it
  pub none_of_it : ArePiped crew mouths actors (known events) events → (now : ℕ) (ready : Ready) (due : NeedData) → next_of parent.program parent.past now ready ≡ due
      → ((bytes : List ℕ) → due ≡ needs.Give (port.Program 0) bytes → ⊥) → (c : List ℕ) → (it : IsAwaited (known events) c) → it.parent ≢ a
  none_of_it piped now ready due next other c it = λ same.
      let both : ◌≡◌ {A = Option Actor} (Some it.actor) (Some parent) = sym it.is ∙ ap (known events).actors same ∙ is in
      let one : it.actor ≡ parent = cc in
      not_borne piped now ready due next other (subst (λ (a : Actor). HasBorneLast a.past) one it.borne)

-- who stands at a seat has that place
pub seat_place : (crew : ℕ) (places : List ℕ → Option ℕ) (a : List ℕ) (j i : ℕ) → seat a ≡ Some j → among_all crew places a ≡ Some i → (j ≡ i) × (j < crew)
seat_place crew places a j i seated at = by_crew (nat_lt j crew) refl (sym (ap (λ (o : Option ℕ). place_by crew o (places a)) seated) ∙ at) where
  by_crew : (t : Bool) → nat_lt j crew ≡ t → (if t then Some j else None) ≡ Some i → (j ≡ i) × (j < crew)
  by_crew true low here = (cc, ltb-true j crew low)
  by_crew false low here = absurd (cc)

-- it has them among those that are kept
pub pipes_within : (crew : ℕ) (places : List ℕ → Option ℕ) (mouths : List Mouths) (actors : List Held) (s : State) (events : List Kept) (p i : ℕ) (x : Held)
    → AreActors (among_all crew places) actors s events p → ArePiped crew mouths actors s events → slice_get actors i ≡ Some x → x.ended ≡ None → (j : ℕ) → x.wire ≡ Some j
    → (4 ≤ length mouths) × (j < length mouths)
pipes_within crew places mouths actors s events p i x w piped is lives j at = by_name (whether (is_member x.name)) where
  of : piped.wires x.name ≡ Some j
  of = piped.places i x is lives ∙ at

  by_name : (is_member x.name ≡ true) ⊎ (is_member x.name ≡ false) → (4 ≤ length mouths) × (j < length mouths)
  by_name (inl member) =
      let seated : seat x.name ≡ Some j = sym (piped.wired.seats x.name member) ∙ of in
      let low = seat_low x.name j seated in
      let place = seat_place crew places x.name j i seated (w.placed i x is) in
      let same = place.0 in
      let less = place.1 in
      let four = piped.seated i x (omega (arith, less, same)) is lives in
      (four, omega (arith, four, low))
  by_name (inr other) =
      let within = piped.wired.within x.name j of other in
      let high = (piped.wired.others x.name j of other).high in
      (omega (arith, within, high), within)

-- a slot, kept by the same place
pub slot_at : (i j d e : ℕ) (o : Option (ℕ × ℕ)) → o ≡ Some (i, d) → i ≡ j → d ≡ e → o ≡ Some (j, e)
slot_at i j d e o is same number = subst (λ (d : ℕ). o ≡ Some (j, d)) number (subst (λ (n : ℕ). o ≡ Some (n, d)) same is)

-- there is a first slot everywhere
pub some_slot : (i n : ℕ) → n ≡ slots_at i → 0 < n
some_slot i n is = by_low (nat_lt i 4) is where
  by_low : (t : Bool) → n ≡ (if t then 256 else 1) → 0 < n
  by_low true is = omega (arith, is)
  by_low false is = omega (arith, is)

-- what it finds is what the state says
pub finds_by : (crew : ℕ) (mouths : List Mouths) (actors : List Held) (s : State) (events : List Kept) (p i : ℕ) (x : Held) (ready : Ready) (m : IsMember s events p x)
    → slice_get actors i ≡ Some x → x.ended ≡ None → ArePiped crew mouths actors s events → IsFoundAt mouths x.wire (awaits_of x.machine) ready → ready ≡ found_by s x.name m.actor.program
finds_by crew mouths actors s events p i x ready m is lives piped found =
    found_is s piped.wires mouths x.name x.wire m.actor.program (awaits_of x.machine) ready piped.wired piped.slots piped.over (piped.places i x is lives)
    (subst (λ (o : Option ℕ). RunsBy o m.actor.program) (piped.places i x is lives) (piped.runs x.name m.actor m.is (member_alive s events p x m lives))) (m.awaits lives) found

-- the members that live are among those that did
pub seated_still : (crew n i : ℕ) (actors : List Held) (x y : Held) → slice_get actors i ≡ Some x → y.ended ≡ x.ended
    → ((j : ℕ) (z : Held) → j < crew → slice_get actors j ≡ Some z → z.ended ≡ None → 4 ≤ n)
    → (j : ℕ) (z : Held) → j < crew → slice_get (set actors i y) j ≡ Some z → z.ended ≡ None → 4 ≤ n
seated_still crew n i actors x y is ended seated j z low at lives = ⊎_elim
    (λ (f : (j ≡ i) × (y ≡ z)). seated i x (subst (λ (j : ℕ). j < crew) f.0 low) is (sym ended ∙ subst (λ (z : Held). z.ended ≡ None) (sym f.1) lives))
    (λ f. seated j z low f.1 lives)
    (get_set actors i y j z at)

-- each has its pipes where it had them, and its slot
pub places_still : (wires : List ℕ → Option ℕ) (actors : List Held) (i : ℕ) (x y : Held) → slice_get actors i ≡ Some x → y.name ≡ x.name → y.ended ≡ x.ended → StaysAt x y
    → ((j : ℕ) (z : Held) → slice_get actors j ≡ Some z → z.ended ≡ None → wires z.name ≡ z.wire)
    → (j : ℕ) (z : Held) → slice_get (set actors i y) j ≡ Some z → z.ended ≡ None → wires z.name ≡ z.wire
places_still wires actors i x y is name ended stays places j z at lives = ⊎_elim
    (λ (f : (j ≡ i) × (y ≡ z)). subst (λ (z : Held). wires z.name ≡ z.wire) f.1
    (ap wires name ∙ places i x is (sym ended ∙ subst (λ (z : Held). z.ended ≡ None) (sym f.1) lives) ∙ sym stays.wire))
    (λ f. places j z f.1 lives)
    (get_set actors i y j z at)

pub stands_still : (wires : List ℕ → Option ℕ) (slots : List ℕ → Option Slot) (actors : List Held) (i : ℕ) (x y : Held) → slice_get actors i ≡ Some x → y.name ≡ x.name → y.ended ≡ x.ended → StaysAt x y
    → ((j : ℕ) (z : Held) → slice_get actors j ≡ Some z → z.ended ≡ None → IsSlotOf wires (slots z.name) z.slot)
    → (j : ℕ) (z : Held) → slice_get (set actors i y) j ≡ Some z → z.ended ≡ None → IsSlotOf wires (slots z.name) z.slot
stands_still wires slots actors i x y is name ended stays stands j z at lives = ⊎_elim
    (λ (f : (j ≡ i) × (y ≡ z)). subst (λ (z : Held). IsSlotOf wires (slots z.name) z.slot) f.1
    (subst (IsSlotOf wires (slots y.name)) (sym stays.slot) (subst (λ (o : Option Slot). IsSlotOf wires o x.slot) (sym (ap slots name))
    (stands i x is (sym ended ∙ subst (λ (z : Held). z.ended ≡ None) (sym f.1) lives)))))
    (λ f. stands j z f.1 lives)
    (get_set actors i y j z at)

-- what holds of each other actor than the members holds of each then
pub others_still : (P : Held → Type 0) (actors : List Held) (i : ℕ) (x y : Held) → slice_get actors i ≡ Some x → y.name ≡ x.name → (P x → P y)
    → ((j : ℕ) (z : Held) → slice_get actors j ≡ Some z → is_member z.name ≡ false → P z) → (j : ℕ) (z : Held) → slice_get (set actors i y) j ≡ Some z → is_member z.name ≡ false → P z
others_still P actors i x y is name on all j z at other = ⊎_elim
    (λ (f : (j ≡ i) × (y ≡ z)). subst P f.1 (on (all i x is (ap is_member (sym name) ∙ ap (λ (z : Held). is_member z.name) f.1 ∙ other))))
    (λ (f : (j ≢ i) × (slice_get actors j ≡ Some z)). all j z f.1 other)
    (get_set actors i y j z at)

pub whole_more : (events : List Kept) (k : Kept) → AreWholeGivings (reverse events) → IsWholeGiving k → AreWholeGivings (reverse (events ++ k ∷ []))
whole_more events k before one = subst AreWholeGivings (sym (reverse-append events (k ∷ []))) (one, before)

-- who is alive has a place
pub parent_at : (places : List ℕ → Option ℕ) (actors : List Held) (s : State) (events : List Kept) (p : ℕ) (a : List ℕ) (parent : Actor) → AreActors places actors s events p → s.actors a ≡ Some parent
    → (i : ℕ) × (places a ≡ Some i)
parent_at places actors s events p a parent w is = has_place places actors s events p a w (subst (λ (o : Option Actor). IsSome o) (sym is) refl)

-- What of a child is due

pub start_due : (has : ℕ → Bool) (asked : ChildData) → is_due_of_child has (needs.Start asked) ≡ true → IsStart (needs.Start asked)
start_due has (child.Bounce room) is = tt
start_due has (child.Forward uid room) is = tt
start_due has (child.Local slot words uid) is = tt
start_due has (child.Remote slot domain sender recipient) is = absurd (cc)

pub give_due : (has : ℕ → Bool) (to : Port) (bytes : List ℕ) → is_due_of_child has (needs.Give to bytes) ≡ true → IsGive (needs.Give to bytes)
give_due has (port.Program d) bytes is = tt
give_due has port.Input bytes is = absurd (cc)
give_due has port.Output bytes is = absurd (cc)
give_due has port.Clean bytes is = absurd (cc)
give_due has port.Lspawn bytes is = absurd (cc)
give_due has port.Rspawn bytes is = absurd (cc)
give_due has port.Todo bytes is = absurd (cc)
give_due has (port.Status d) bytes is = absurd (cc)

status_due : (has : ℕ → Bool) (from : Port) → is_due_of_child has (needs.Take from) ≡ true → IsTake (needs.Take from)
status_due has (port.Status d) is = tt
status_due has port.Input is = absurd (cc)
status_due has port.Output is = absurd (cc)
status_due has port.Clean is = absurd (cc)
status_due has port.Lspawn is = absurd (cc)
status_due has port.Rspawn is = absurd (cc)
status_due has port.Todo is = absurd (cc)
status_due has (port.Program d) is = absurd (cc)

pub take_due : (has : ℕ → Bool) (due : NeedData) → is_due_of_child has due ≡ true → ((asked : ChildData) → due ≡ needs.Start asked → ⊥) → ((to : Port) (bytes : List ℕ) → due ≡ needs.Give to bytes → ⊥) → IsTake due
take_due has (needs.Take from) is no_start no_give = status_due has from is
take_due has (needs.Start asked) is no_start no_give = absurd (no_start asked refl)
take_due has (needs.Give to bytes) is no_start no_give = absurd (no_give to bytes refl)
take_due has (needs.File call) is no_start no_give = absurd (cc)
take_due has (needs.Command bytes) is no_start no_give = absurd (cc)
take_due has needs.Wait is no_start no_give = absurd (cc)
take_due has (needs.Ended status) is no_start no_give = absurd (cc)

-- so it is a slot's, in which a child runs
pub record IsOfSlot (s : State) (a : List ℕ) (d : ℕ) : Type 0 where
  pub child : List ℕ
  pub runs : s.pipework.programs a d ≡ Some (Runs child)

abbrev pub has_in : State → List ℕ → ℕ → Bool
has_in s a d = is_some (actor_of (s.pipework.programs a d))

pub of_slot : (s : State) (a : List ℕ) (d : ℕ) → has_in s a d ≡ true → IsOfSlot s a d
of_slot s a d has = by_tenant (s.pipework.programs a d) refl has where
  by_tenant : (o : Option Tenant) → s.pipework.programs a d ≡ o → is_some (actor_of o) ≡ true → IsOfSlot s a d
  by_tenant (Some (Runs c)) is has = record { child = c; runs = is }
  by_tenant (Some (Tenant.Remote reported)) is has = absurd (cc)
  by_tenant None is has = absurd (cc)

pub take_is : (s : State) (a : List ℕ) (due : NeedData) → IsTake due → is_due_of_child (has_in s a) due ≡ true → (d : ℕ) × (due ≡ needs.Take (port.Status d)) × IsOfSlot s a d
take_is s a (needs.Take (port.Status d)) takes is = (d, refl, of_slot s a d is)
take_is s a other takes is = absurd takes

pub give_is : (s : State) (a : List ℕ) (due : NeedData) → IsGive due → is_due_of_child (has_in s a) due ≡ true → (d : ℕ) × (bytes : List ℕ) × (due ≡ needs.Give (port.Program d) bytes) × IsOfSlot s a d
give_is s a (needs.Give (port.Program d) bytes) gives is = (d, bytes, refl, of_slot s a d is)
give_is s a other gives is = absurd gives

-- who bears children is no injector
pub bears_no_mail : (program : Program) (d : ℕ) (child : Program) → BearsIn program d child → IsMail program → ⊥
bears_no_mail (Injector args) d child bears mail = bears
bears_no_mail other d child bears mail = mail

-- What the parent is handed

-- what is due to it, and where it stands
pub record IsAsking (crew : ℕ) (places : List ℕ → Option ℕ) (actors : List Held) (events : List Kept) (p : ℕ) (a : List ℕ) (due : NeedData) : Type 0 where
  pub parent : Actor
  pub is : (known events).actors a ≡ Some parent
  pub alive : parent.life ≡ Alive
  pub at : ℕ
  pub place : among_all crew places a ≡ Some at
  pub here : HasParent actors (known events) events p a at parent
  pub next : next_of parent.program parent.past p (found_in (known events) a) ≡ due

pub asking : {D : Type 0} (d : D) (told : Option Disk) (crew : ℕ) (places : List ℕ → Option ℕ) (actors : List Held) (events : List Kept) (p n : ℕ) (b : Counts) (a : List ℕ) (due : NeedData)
    → IsWorld told (among_all crew places) actors (known events) events p n b → IsDueOfChild (record { disk = d; events = events; present = p }) a due → IsAsking crew places actors events p a due
asking d told crew places actors events p n b a due w asked =
    let at = parent_at (among_all crew places) actors (known events) events p a asked.actor w.kept asked.is in
    record {
      parent = asked.actor;
      is = asked.is;
      alive = asked.alive;
      at = at.0;
      place = at.1;
      here = has_parent (among_all crew places) actors (known events) events p a at.0 asked.actor w.kept asked.is asked.alive at.1;
      next = asked.due_is;
    }

-- who is read at its place
pub parent_is : (actors : List Held) (s : State) (events : List Kept) (p : ℕ) (a : List ℕ) (i : ℕ) (parent : Actor) (here : HasParent actors s events p a i parent) (x : Held) → x ≡ get_or actors i x → here.held ≡ x
parent_is actors s events p a i parent here x read = sym (get_or_from_slice_get actors i here.held x here.is) ∙ sym read

-- the place that was found is its place
pub same_at : (o : Option ℕ) (i j : ℕ) → o ≡ Some i → o ≡ Some j → i ≡ j
same_at o i j one other = let both : ◌≡◌ {A = Option ℕ} (Some i) (Some j) = sym one ∙ other in cc

-- what it owes is there
pub parent_owes : (actors : List Held) (s : State) (events : List Kept) (p : ℕ) (a : List ℕ) (i : ℕ) (parent : Actor) (here : HasParent actors s events p a i parent) (x : Held) → here.held ≡ x
    → (at : ℕ) → x.owed ≡ Some at → (past : List Own) × Owes x events past at
parent_owes actors s events p a i parent here x read at owed =
    let m = here.member in
    (m.actor.past, subst (λ (x : Held). (at : ℕ) → x.owed ≡ Some at → Owes x events m.actor.past at) read (m.owes here.lives) at owed)

module _ (actors : List Held) (s : State) (events : List Kept) (p : ℕ) (a : List ℕ) (i : ℕ) (parent : Actor) (here : HasParent actors s events p a i parent) (is : s.actors a ≡ Some parent)
    (x z : Held) (read : here.held ≡ x)
    (pays : (program : Program) (past : List Own) → ((at : ℕ) → x.owed ≡ Some at → Owes x events past at) → StandsFor x program past → Follows z.machine program past)
    (awaits : awaits_of z.machine ≡ awaits_of x.machine) where
  -- what it owed was handed in
  paid : Follows z.machine parent.program parent.past
  paid =
      let m = here.member in
      subst (λ (w : Actor). Follows z.machine w.program w.past) here.same (pays m.actor.program m.actor.past
      (subst (λ (x : Held). (at : ℕ) → x.owed ≡ Some at → Owes x events m.actor.past at) read (m.owes here.lives)) (subst (λ (x : Held). StandsFor x m.actor.program m.actor.past) read (m.follows here.lives)))

  pub may_take : (own : Own) → own.read ≡ p → own.ready ≡ found_in s a → next_of parent.program parent.past p (found_in s a) ≡ own.due → IsKind own.due own.came
      → ((most : ℕ) → IsWithin most own.came) → MayTakeIn z.machine p (found_in s a) own
  may_take own at ready due kind within = record {
    program = parent.program;
    past = parent.past;
    follows = paid;
    found = subst (CanFind z.machine) (sym (ap (found_at s a) is))
        (can_find s a z.machine parent.program parent.past paid
        (λ mail. awaits ∙ ap (λ (x : Held). awaits_of x.machine) (sym read) ∙ here.member.awaits here.lives (subst (λ (a : Actor). IsMail a.program) (sym here.same) mail) ∙ ap (is_awaiting s) here.name));
    read = at;
    ready_is = ready;
    due = due;
    kind = kind;
    within = within;
  }

  pub was_served : (y : Held) (own : Own) (idle : Bool) → z.name ≡ x.name → z.descriptors.items ≡ x.descriptors.items → z.ended ≡ x.ended → z.status ≡ x.status → StaysAt x z
      → HasTakenIn z y own (length events) idle → HasServed here.held y own (length events) parent × (idle ≡ idled_by (s.actors a) own)
  was_served y own idle name list ended status stays taken = (
    subst (λ (x : Held). HasServed x y own (length events) parent) (sym read) (record {
      stands = taken.follows parent.program parent.past paid;
      owes = taken.owes;
      name = taken.name ∙ name;
      descriptors = taken.descriptors ∙ list;
      ended = taken.ended ∙ ended;
      status = taken.status ∙ status;
      awaits = taken.awaits ∙ awaits;
      stays = record { wire = taken.stays.wire ∙ stays.wire; slot = taken.stays.slot ∙ stays.slot; entry = taken.stays.entry ∙ stays.entry };
    }),
    taken.idled parent.program parent.past paid ∙ sym (ap (λ (o : Option Actor). idled_by o own) is),
  )

-- what it reads by its setting
pub at_setting : (now p : ℕ) (ready found : Ready) (due same : NeedData) (came : GotData) (own : Own) → own ≡ record { read = now; ready = ready; due = due; came = came } → now ≡ p → ready ≡ found → due ≡ same
    → own ≡ record { read = p; ready = found; due = same; came = came }
at_setting now p ready found due same came own is at finds due_is =
    is ∙ ap (λ (read : ℕ). record { read = read; ready = ready; due = due; came = came }) at ∙ ap (λ (ready : Ready). record { read = p; ready = ready; due = due; came = came }) finds
    ∙ ap (λ (due : NeedData). record { read = p; ready = found; due = due; came = came }) due_is

pub may_at : (m : AnyMachine) (now p : ℕ) (ready found : Ready) (own same : Own) → now ≡ p → ready ≡ found → own ≡ same → MayTakeIn m p found same → MayTakeIn m now ready own
may_at m now p ready found own same at finds is may =
    subst (MayTakeIn m now ready) (sym is) (subst (λ (ready : Ready). MayTakeIn m now ready same) (sym finds) (subst (λ (now : ℕ). MayTakeIn m now found same) (sym at) may))

pub taken_at : (x y : Held) (own same : Own) (index many : ℕ) (idle : Bool) → own ≡ same → index ≡ many → HasTakenIn x y own index idle → HasTakenIn x y same many idle
taken_at x y own same index many idle is at taken = subst (λ (n : ℕ). HasTakenIn x y same n idle) at (subst (λ (own : Own). HasTakenIn x y own index idle) is taken)

-- so it served its parent
pub serves : {D : Type 0} (tells : D → Option Disk) (d : D) (events : List Kept) (p : ℕ) (a : List ℕ) (own : Own) (k : Kept) (did : Did) → IsOwnOf (known events) (next_pid events) p a own
    → IsKeptBy (known events) (counts_in events) a own own.due own.came k → LeadsOn (tells d) (tells d) events (events ++ k ∷ []) p p
    → did.at ≡ length events → did.ended ≡ None → did.idle ≡ idled_by ((known events).actors a) own → has_idled (known events) k ≡ idled_by ((known events).actors a) own
    → Serves tells a (record { disk = d; events = events; present = p }) (record { disk = d; events = events ++ k ∷ []; present = p }) did
serves tells d events p a own k did of kept leads at ended idle same = record {
  event = (own, k, of, kept, refl);
  goes_on = goes_on (tells d) (tells d) events (events ++ k ∷ []) p p leads;
  present = refl;
  disk = refl;
  at = at;
  ended = ended;
  idle = λ e is. idle ∙ sym same ∙ ap (has_idled (known events)) (same_last events k e is);
}

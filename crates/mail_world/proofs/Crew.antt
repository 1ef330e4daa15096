-- The actors that a world keeps, as one event comes.
use Rattle.std.proofs.Common.{◌≡◌, ◌≢◌, ℕ, zero, suc, ◌≤◌, ◌<◌, List, [], ◌∷◌, ◌++◌, length, set, false, ◌||◌, is_some, Option, Some, None, IsSomeAnd, refl, sym, ap, ◌∙◌, subst, ⊎_elim, arith, bytes_eq, reverse}
use Rattle.std.proofs.Math.Bool.{or-false, or-true}
use Rattle.std.proofs.lemmas.List.Folds.{list_any-append}
use Rattle.std.proofs.lemmas.Option.{slice_get_within}
use Rattle.std.specs.List.{slice_get}
use Rattle.std.specs.Option.{option_map}
use Rattle.call_fs.specs.Maps.{put_at}
use Rattle.mail_world.specs.declared.actor.Actor.{Actor as Held}
use Rattle.world_events.specs.declared.event.Event.{Event as Kept}
use Rattle.world_events.specs.declared.event.Event.TheVariants as kept
use Rattle.call_fs.specs.declared.crash_file_system.Survival.{Survival}
use Rattle.mail_world.specs.History.{State, Actor, stopped, cut_off}
use Rattle.mail_world.specs.History.Life.{Alive}
use Rattle.mail_world.specs.World.{span_after, span_of, ends, starts, was_started}
use Rattle.call_fs.specs.declared.past.Own.{Own}
use Rattle.world_events.specs.declared.event.Program.{Program}
use Rattle.mail_world.specs.Wired.{seat}
use Rattle.mail_world.specs.ByKind.{IsMail, Follows, awaits_of, present_of, found_of, looked_of, need_of, takes_of}
use Rattle.call_fs.specs.Program.{IsWithin}
use Rattle.mail_world.specs.Readiness.{is_awaiting}
use Rattle.mail_world.specs.Inside.{RunsAt, unowed, Owes, span_by, life_by, IsMember, IsStranger, AreActors, is_by}
use Rattle.mail_world.specs.Acting.{ended_by, IsCutOff, AreCutOff}
use Rattle.mail_world.specs.Children.{IsCut}
use Rattle.call_fs.proofs.Maps.{put_at_same, put_at_other}
use Rattle.queue_law.proofs.Tests.{text_cases, same_text, other_text}
use Rattle.mail_world.proofs.Members.{whether}
use Rattle.mail_world.proofs.Awaiting.{owes_none}
use Rattle.mail_world.proofs.Lists.{get_still, get_set, each_set, some_set, each_push, some_push, some_last, some_at, some_within}
use Rattle.mail_world.proofs.Spans.{span_push, span_stays}

-- Who lives, by its end and its status

pub life_same : (o q status other : Option ℕ) → q ≡ o → other ≡ status → life_by o status ≡ life_by q other
life_same o q status other same status_is = ap (λ (o : Option ℕ). life_by o status) (sym same) ∙ ap (life_by q) (sym status_is)

pub over_is : (at : ℕ) (status : Option ℕ) → life_by (Some at) status ≡ Alive → ⊥
over_is at None is = cc
over_is at (Some status) is = cc

pub member_alive : (s : State) (events : List Kept) (p : ℕ) (x : Held) (m : IsMember s events p x) → x.ended ≡ None → m.actor.life ≡ Alive
member_alive s events p x m lives = m.life ∙ ap (λ (o : Option ℕ). life_by o x.status) lives

pub member_over : (s : State) (events : List Kept) (p : ℕ) (x : Held) (m : IsMember s events p x) (at : ℕ) → x.ended ≡ Some at → m.actor.life ≡ Alive → ⊥
member_over s events p x m at ended alive = over_is at x.status (sym (ap (λ (o : Option ℕ). life_by o x.status) ended) ∙ sym m.life ∙ alive)

-- another place is as it was
get_other : {X : Type 0} (xs : List X) (i : ℕ) (y : X) (j : ℕ) (z : X) → j ≢ i → slice_get xs j ≡ Some z → slice_get (set xs i y) j ≡ Some z
get_other [] i y j z other is = is
get_other (v ∷ vs) zero y zero z other is = absurd (other refl)
get_other (v ∷ vs) zero y (suc j) z other is = is
get_other (v ∷ vs) (suc i) y zero z other is = is
get_other (v ∷ vs) (suc i) y (suc j) z other is = get_other vs i y j z (λ e. other (ap suc e)) is

-- an event leaves each actor but one as it was
pub record ActsAlone (a : List ℕ) (s t : State) (k : Kept) : Type 0 where
  pub actors : (b : List ℕ) → b ≢ a → t.actors b ≡ s.actors b
  pub holder : (b : List ℕ) → b ≢ a → (fd : ℕ) → is_by b (s.holder fd) ≡ false → is_by b (t.holder fd) ≡ false
  pub no_start : (b : List ℕ) → b ≢ a → starts b k ≡ false
  pub no_end : (b : List ℕ) → b ≢ a → ends b k ≡ false

pub started_push : (events : List Kept) (k : Kept) (a : List ℕ) → was_started (events ++ k ∷ []) a ≡ (was_started events a || starts a k)
started_push events k a = list_any-append (starts a) events (k ∷ []) ∙ ap (λ b. was_started events a || b) (or-false (starts a k))

-- what it owes stays in the history
pub owes_still : (x : Held) (events : List Kept) (k : Kept) (past : List Own) (at : ℕ) → Owes x events past at → Owes x (events ++ k ∷ []) past at
owes_still x events k past at o = record {
  own = o.own;
  before = o.before;
  newest = o.newest;
  event = o.event;
  there = get_still events k at o.event o.there;
  is = o.is;
  read = o.read;
  found = o.found;
  looked = o.looked;
  due = o.due;
  kind = o.kind;
  within = o.within;
}

-- another actor
pub other_member : (s t : State) (events : List Kept) (k : Kept) (p : ℕ) (a : List ℕ) (x : Held) → ActsAlone a s t k → x.name ≢ a → (m : IsMember s events p x)
    → (x.ended ≡ None → IsMail m.actor.program → awaits_of x.machine ≡ is_awaiting t x.name) → IsMember t (events ++ k ∷ []) p x
other_member s t events k p a x acts apart m awaits = record {
  actor = m.actor;
  is = acts.actors x.name apart ∙ m.is;
  follows = m.follows;
  owes = λ lives at is. owes_still x events k m.actor.past at (m.owes lives at is);
  runs = m.runs;
  run = m.run;
  in_order = m.in_order;
  life = m.life;
  unended = m.unended;
  awaits = awaits;
  spans = span_stays events k x.name (acts.no_start x.name apart) (acts.no_end x.name apart) ∙ m.spans;
  closed = m.closed;
}

-- one that is given no input any more
cut_owes : (z w : Held) (events : List Kept) (program : Program) (past : List Own) (at : ℕ) → IsCut z w → Follows z.machine program (unowed z.owed past) → Owes z events past at → Owes w events past at
cut_owes z w events program past at cut follows o = ⊎_elim
    (λ awaits. absurd (owes_none z events program past (unowed z.owed past) at o follows awaits))
    (λ none.
    let same = cut.same none in record {
      own = o.own;
      before = o.before;
      newest = o.newest;
      event = o.event;
      there = o.there;
      is = o.is;
      read = ap present_of same ∙ o.read;
      found = ap found_of same ∙ o.found;
      looked = ap looked_of same ∙ o.looked;
      due = ap need_of same ∙ o.due;
      kind = o.kind;
      within = subst (λ (n : ℕ). IsWithin n o.own.came) (sym (ap takes_of same)) o.within;
    })
    (whether (awaits_of z.machine))

pub cut_member : (s t : State) (events : List Kept) (k : Kept) (p : ℕ) (a : List ℕ) (z w : Held) → ActsAlone a s t k → z.name ≢ a → IsMember s events p z → IsCut z w
    → is_awaiting t z.name ≡ false → IsMember t (events ++ k ∷ []) p w
cut_member s t events k p a z w acts apart m cut none = record {
  actor = m.actor;
  is = ap t.actors cut.name ∙ acts.actors z.name apart ∙ m.is;
  follows = λ e. subst (λ (o : Option ℕ). Follows w.machine m.actor.program (unowed o m.actor.past)) (sym cut.owed)
      (cut.follows m.actor.program (unowed z.owed m.actor.past) (m.follows (sym cut.ended ∙ e)));
  owes = λ e at is. owes_still w events k m.actor.past at (cut_owes z w events m.actor.program m.actor.past at cut (m.follows (sym cut.ended ∙ e)) (m.owes (sym cut.ended ∙ e) at (sym cut.owed ∙ is)));
  runs = subst (λ (a : List ℕ). RunsAt (seat a) m.actor.program) (sym cut.name) m.runs;
  run = m.run;
  in_order = m.in_order;
  life = m.life ∙ life_same z.ended w.ended z.status w.status cut.ended cut.status;
  unended = λ e. cut.status ∙ m.unended (sym cut.ended ∙ e);
  awaits = λ e mail. cut.awaits ∙ sym (ap (is_awaiting t) cut.name ∙ none);
  spans = ap (λ (a : List ℕ). span_of a (reverse (events ++ k ∷ []))) cut.name
      ∙ span_stays events k z.name (acts.no_start z.name apart) (acts.no_end z.name apart) ∙ m.spans ∙ ap span_by (sym cut.ended);
  closed = λ at e. cut.descriptors ∙ m.closed at (sym cut.ended ∙ e);
}

pub other_stranger : (s t : State) (events : List Kept) (k : Kept) (a b : List ℕ) → ActsAlone a s t k → b ≢ a → IsStranger s events b → IsStranger t (events ++ k ∷ []) b
other_stranger s t events k a b acts apart m = record {
  unknown = acts.actors b apart ∙ m.unknown;
  unborn = span_stays events k b (acts.no_start b apart) (acts.no_end b apart) ∙ m.unborn;
  holds_none = λ fd. acts.holder b apart fd (m.holds_none fd);
}

-- two names at two places
pub apart_by : (places : List ℕ → Option ℕ) (a b : List ℕ) (i j : ℕ) → places a ≡ Some i → places b ≡ Some j → j ≢ i → b ≢ a
apart_by places a b i j at other apart same =
    let both : ◌≡◌ {A = Option ℕ} (Some j) (Some i) = sym other ∙ ap places same ∙ at in apart (cc)

apart_none : (places : List ℕ → Option ℕ) (a b : List ℕ) (i : ℕ) → places a ≡ Some i → places b ≡ None → b ≢ a
apart_none places a b i at other same =
    let both : ◌≡◌ {A = Option ℕ} None (Some i) = sym other ∙ ap places same ∙ at in absurd (cc)

-- one actor acts
pub crew_acts : (places : List ℕ → Option ℕ) (actors : List Held) (s t : State) (events : List Kept) (k : Kept) (p i : ℕ) (x y : Held)
    → AreActors places actors s events p → slice_get actors i ≡ Some x → y.name ≡ x.name → ActsAlone x.name s t k → ((a : List ℕ) → starts a k ≡ false)
    → ((b : List ℕ) (a : Actor) → s.actors b ≡ Some a → IsMail a.program → b ≢ x.name → is_awaiting t b ≡ is_awaiting s b) → IsMember t (events ++ k ∷ []) p y → AreActors places (set actors i y) t (events ++ k ∷ []) p
crew_acts places actors s t events k p i x y crew is same acts no_start awaits new =
    let place = crew.placed i x is in record {
      placed = each_set (λ j (z : Held). places z.name ≡ Some j) actors i y (ap places same ∙ place) (λ j z apart h. crew.placed j z h);
      members = each_set (λ j (z : Held). IsMember t (events ++ k ∷ []) p z) actors i y new (λ j z apart h.
          let other = apart_by places x.name z.name i j place (crew.placed j z h) apart in
          let m = crew.members j z h in
          other_member s t events k p x.name z acts other m (λ lives mail. m.awaits lives mail ∙ sym (awaits z.name m.actor m.is mail other)));
      named = λ a j at. some_set (λ (z : Held). z.name ≡ a) actors i x y j is (λ e. same ∙ e) (crew.named a j at);
      strangers = λ a none. other_stranger s t events k x.name a acts (apart_none places x.name a i place none) (crew.strangers a none);
      started = λ a. started_push events k a ∙ ap (λ b. was_started events a || b) (no_start a) ∙ or-false (was_started events a) ∙ crew.started a;
    }

-- and another one is changed with that
pub crew_leaves : (places : List ℕ → Option ℕ) (actors : List Held) (s t : State) (events : List Kept) (k : Kept) (p i c : ℕ) (x y z w : Held)
    → AreActors places actors s events p → slice_get actors i ≡ Some x → slice_get actors c ≡ Some z → c ≢ i → y.name ≡ x.name → w.name ≡ z.name
    → ActsAlone x.name s t k → ((a : List ℕ) → starts a k ≡ false)
    → ((j : ℕ) (v : Held) (m : IsMember s events p v) → slice_get actors j ≡ Some v → j ≢ c → v.name ≢ x.name → v.ended ≡ None → IsMail m.actor.program → awaits_of v.machine ≡ is_awaiting t v.name)
    → IsMember t (events ++ k ∷ []) p y → IsMember t (events ++ k ∷ []) p w → AreActors places (set (set actors i y) c w) t (events ++ k ∷ []) p
crew_leaves places actors s t events k p i c x y z w crew is there other same kept acts no_start awaits new cut =
    let place = crew.placed i x is in
    let mid = set actors i y in
    let mid_is : slice_get mid c ≡ Some z = get_other actors i y c z other there in
    record {
      placed = each_set (λ j (v : Held). places v.name ≡ Some j) mid c w (ap places kept ∙ crew.placed c z there) (λ j v apart h.
          each_set (λ j (v : Held). places v.name ≡ Some j) actors i y (ap places same ∙ place) (λ j v apart h. crew.placed j v h) j v h);
      members = each_set (λ j (v : Held). IsMember t (events ++ k ∷ []) p v) mid c w cut (λ j v beside h. ⊎_elim
          (λ f. subst (λ (v : Held). IsMember t (events ++ k ∷ []) p v) f.1 new)
          (λ f. let far = apart_by places x.name v.name i j place (crew.placed j v f.1) f.0 in
          let m = crew.members j v f.1 in
          other_member s t events k p x.name v acts far m (awaits j v m f.1 beside far))
          (get_set actors i y j v h));
      named = λ a j at. some_set (λ (v : Held). v.name ≡ a) mid c z w j mid_is (λ e. kept ∙ e) (some_set (λ (v : Held). v.name ≡ a) actors i x y j is (λ e. same ∙ e) (crew.named a j at));
      strangers = λ a none. other_stranger s t events k x.name a acts (apart_none places x.name a i place none) (crew.strangers a none);
      started = λ a. started_push events k a ∙ ap (λ b. was_started events a || b) (no_start a) ∙ or-false (was_started events a) ∙ crew.started a;
    }

-- an actor's machine looks, and no event comes
pub crew_looks : (places : List ℕ → Option ℕ) (actors : List Held) (s : State) (events : List Kept) (p i : ℕ) (x y : Held)
    → AreActors places actors s events p → slice_get actors i ≡ Some x → y.name ≡ x.name → IsMember s events p y → AreActors places (set actors i y) s events p
crew_looks places actors s events p i x y crew is same new = record {
  placed = each_set (λ j (z : Held). places z.name ≡ Some j) actors i y (ap places same ∙ crew.placed i x is) (λ j z apart h. crew.placed j z h);
  members = each_set (λ j (z : Held). IsMember s events p z) actors i y new (λ j z apart h. crew.members j z h);
  named = λ a j at. some_set (λ (z : Held). z.name ≡ a) actors i x y j is (λ e. same ∙ e) (crew.named a j at);
  strangers = crew.strangers;
  started = crew.started;
}

-- an event of no actor comes, and the present moment is a later one
pub crew_waits : (places : List ℕ → Option ℕ) (actors : List Held) (s t : State) (events : List Kept) (k : Kept) (p q : ℕ) → p ≤ q
    → AreActors places actors s events p → t.actors ≡ s.actors → t.holder ≡ s.holder → ((a : List ℕ) → ends a k ≡ false) → ((a : List ℕ) → starts a k ≡ false)
    → ((b : List ℕ) → is_awaiting t b ≡ is_awaiting s b) → AreActors places actors t (events ++ k ∷ []) q
crew_waits places actors s t events k p q later crew same holder no_end no_start awaits = record {
  placed = crew.placed;
  members = λ i x is. let m = crew.members i x is in let order = m.in_order in record {
    actor = m.actor;
    is = ap (λ (f : List ℕ → Option Actor). f x.name) same ∙ m.is;
    follows = m.follows;
    owes = λ lives at is. owes_still x events k m.actor.past at (m.owes lives at is);
    runs = m.runs;
    run = m.run;
    in_order = omega arith;
    life = m.life;
    unended = m.unended;
    awaits = λ lives mail. m.awaits lives mail ∙ sym (awaits x.name);
    spans = span_stays events k x.name (no_start x.name) (no_end x.name) ∙ m.spans;
    closed = m.closed;
  };
  named = crew.named;
  strangers = λ a none. let m = crew.strangers a none in record {
    unknown = ap (λ (f : List ℕ → Option Actor). f a) same ∙ m.unknown;
    unborn = span_stays events k a (no_start a) (no_end a) ∙ m.unborn;
    holds_none = λ fd. ap (λ (f : ℕ → Option (List ℕ)). is_by a (f fd)) holder ∙ m.holds_none fd;
  };
  started = λ a. started_push events k a ∙ ap (λ b. was_started events a || b) (no_start a) ∙ or-false (was_started events a) ∙ crew.started a;
}

-- the actors after a machine stop are those that there were
pub was_there : (at : ℕ) (old new : List Held) → AreCutOff at old new → (i : ℕ) (y : Held) → slice_get new i ≡ Some y → (x : Held) × (slice_get old i ≡ Some x) × IsCutOff at x y
was_there at old new cut i y is =
    let within : i < length old = subst (λ n. i < n) cut.many (slice_get_within new i y is) in
    let x = some_within old i within in
    (x.0, x.1, cut.each i x.0 y x.1 is)

is_there : (at : ℕ) (old new : List Held) → AreCutOff at old new → (i : ℕ) (x : Held) → slice_get old i ≡ Some x → (y : Held) × (slice_get new i ≡ Some y) × IsCutOff at x y
is_there at old new cut i x is =
    let within : i < length new = subst (λ n. i < n) (sym cut.many) (slice_get_within old i x is) in
    let y = some_within new i within in
    (y.0, y.1, cut.each i x y.0 is y.1)

-- what is known after a machine stop
pub record Halted (s t : State) : Type 0 where
  pub actors : (a : List ℕ) → t.actors a ≡ option_map stopped (s.actors a)
  pub holder : (fd : ℕ) → t.holder fd ≡ None

span_cut : (a : List ℕ) (how : Survival) (n : ℕ) (o : Option ℕ) → span_after a (kept.Halt how) n (span_by o) ≡ span_by (ended_by n o)
span_cut a how n None = refl
span_cut a how n (Some at) = refl

-- what a machine stop makes of a life
cut_life : (n : ℕ) (o status : Option ℕ) → (o ≡ None → status ≡ None) → cut_off (life_by o status) ≡ life_by (ended_by n o) status
cut_life n None status none = sym (ap (life_by (Some n)) (none refl))
cut_life n (Some at) None none = refl
cut_life n (Some at) (Some status) none = refl

pub none_alive : (n : ℕ) (o : Option ℕ) → ended_by n o ≡ None → ⊥
none_alive n None h = cc
none_alive n (Some at) h = cc

halt_member : (s t : State) (events : List Kept) (how : Survival) (p : ℕ) (x y : Held) → Halted s t → IsCutOff (length events) x y → IsMember s events p x → IsMember t (events ++ kept.Halt how ∷ []) p y
halt_member s t events how p x y halted cut m = record {
  actor = stopped m.actor;
  is = ap t.actors cut.name ∙ halted.actors x.name ∙ ap (option_map stopped) m.is;
  follows = λ e. absurd (none_alive (length events) x.ended (sym cut.ended ∙ e));
  owes = λ e at is. absurd (none_alive (length events) x.ended (sym cut.ended ∙ e));
  runs = subst (λ (a : List ℕ). RunsAt (seat a) m.actor.program) (sym cut.name) m.runs;
  run = m.run;
  in_order = m.in_order;
  life = ap cut_off m.life ∙ cut_life (length events) x.ended x.status m.unended ∙ life_same (ended_by (length events) x.ended) y.ended x.status y.status cut.ended cut.status;
  unended = λ e. absurd (none_alive (length events) x.ended (sym cut.ended ∙ e));
  awaits = λ e mail. absurd (none_alive (length events) x.ended (sym cut.ended ∙ e));
  spans = ap (λ (a : List ℕ). span_of a (reverse (events ++ kept.Halt how ∷ []))) cut.name ∙ span_push events (kept.Halt how) x.name
      ∙ ap (span_after x.name (kept.Halt how) (length events)) m.spans ∙ span_cut x.name how (length events) x.ended ∙ ap span_by (sym cut.ended);
  closed = λ at e. cut.descriptors;
}

-- the machine stops
pub crew_halts : (places : List ℕ → Option ℕ) (old new : List Held) (s t : State) (events : List Kept) (how : Survival) (p : ℕ)
    → AreActors places old s events p → Halted s t → AreCutOff (length events) old new → AreActors places new t (events ++ kept.Halt how ∷ []) p
crew_halts places old new s t events how p crew halted cut = record {
  placed = λ i y is. let x = was_there (length events) old new cut i y is in ap places x.2.name ∙ crew.placed i x.0 x.1;
  members = λ i y is. let x = was_there (length events) old new cut i y is in halt_member s t events how p x.0 y halted x.2 (crew.members i x.0 x.1);
  named = λ a i at.
      let x = some_at (λ (x : Held). x.name ≡ a) (slice_get old i) (crew.named a i at) in
      let y = is_there (length events) old new cut i x.0 x.1 in
      subst (λ (o : Option Held). IsSomeAnd o (λ x. x.name ≡ a)) (sym y.1) (y.2.name ∙ x.2);
  strangers = λ a none. let m = crew.strangers a none in record {
    unknown = halted.actors a ∙ ap (option_map stopped) m.unknown;
    unborn = span_push events (kept.Halt how) a ∙ ap (span_after a (kept.Halt how) (length events)) m.unborn;
    holds_none = λ fd. ap (is_by a) (halted.holder fd);
  };
  started = λ a. started_push events (kept.Halt how) a ∙ or-false (was_started events a) ∙ crew.started a;
}

-- an event starts that actor, and leaves the others as they were
pub record StartsAlone (a : List ℕ) (s t : State) (k : Kept) : Type 0 where
  pub actors : (b : List ℕ) → b ≢ a → t.actors b ≡ s.actors b
  pub holder : t.holder ≡ s.holder
  pub no_end : (b : List ℕ) → ends b k ≡ false
  pub start : (b : List ℕ) → starts b k ≡ bytes_eq a b

-- an actor starts
pub crew_starts : (places : List ℕ → Option ℕ) (actors : List Held) (s t : State) (events : List Kept) (k : Kept) (p : ℕ) (a : List ℕ) (y : Held) (next : List ℕ → Option ℕ)
    → AreActors places actors s events p → places a ≡ None → ((b : List ℕ) → next b ≡ put_at places a (Some (length actors)) b) → y.name ≡ a → StartsAlone a s t k
    → ((b : List ℕ) → b ≢ a → is_awaiting t b ≡ is_awaiting s b) → IsMember t (events ++ k ∷ []) p y → AreActors next (actors ++ y ∷ []) t (events ++ k ∷ []) p
crew_starts places actors s t events k p a y next crew new put name starts_a awaits member =
    let here : next a ≡ Some (length actors) = put a ∙ put_at_same places a (Some (length actors)) in
    let there : (b : List ℕ) → b ≢ a → next b ≡ places b = λ b apart. put b ∙ put_at_other places a (Some (length actors)) b apart in
    let old : (j : ℕ) (z : Held) → slice_get actors j ≡ Some z → z.name ≢ a = λ j z h. apart_some places a z.name j new (crew.placed j z h) in
    record {
      placed = each_push (λ j (z : Held). next z.name ≡ Some j) actors y (ap next name ∙ here) (λ j z h. there z.name (old j z h) ∙ crew.placed j z h);
      members = each_push (λ j (z : Held). IsMember t (events ++ k ∷ []) p z) actors y member (λ j z h.
          let m = crew.members j z h in
          other_member s t events k p a z acts (old j z h) m (λ lives mail. m.awaits lives mail ∙ sym (awaits z.name (old j z h))));
      named = λ b j at. ⊎_elim
          (λ f. let same : ◌≡◌ {A = Option ℕ} (Some j) (Some (length actors)) = sym at ∙ ap next f.0 ∙ here in
          let last : j ≡ length actors = cc in
          subst (λ (j : ℕ). IsSomeAnd (slice_get (actors ++ y ∷ []) j) (λ z. z.name ≡ b)) (sym last) (some_last (λ (z : Held). z.name ≡ b) actors y (name ∙ sym f.0)))
          (λ f. some_push (λ (z : Held). z.name ≡ b) actors y j (crew.named b j (sym (there b f.0) ∙ at)))
          (text_cases b a);
      strangers = λ b none. let apart : b ≢ a = λ same. let both : ◌≡◌ {A = Option ℕ} None (Some (length actors)) = sym none ∙ ap next same ∙ here in absurd (cc) in
          other_stranger s t events k a b acts apart (crew.strangers b (sym (there b apart) ∙ none));
      started = λ b. started_push events k b ∙ ⊎_elim
          (λ f. ap (λ c. was_started events b || c) (starts_a.start b ∙ ap (bytes_eq a) f.0 ∙ same_text a) ∙ or-true (was_started events b) ∙ sym (ap is_some (ap next f.0 ∙ here)))
          (λ f. ap (λ c. was_started events b || c) (starts_a.start b ∙ other_text a b (λ e. f.0 (sym e))) ∙ or-false (was_started events b) ∙ crew.started b ∙ sym (ap is_some (there b f.0)))
          (text_cases b a);
    } where
      apart_some : (places : List ℕ → Option ℕ) (a b : List ℕ) (j : ℕ) → places a ≡ None → places b ≡ Some j → b ≢ a
      apart_some places a b j none at same = let both : ◌≡◌ {A = Option ℕ} (Some j) None = sym at ∙ ap places same ∙ none in absurd (cc)

      acts : ActsAlone a s t k
      acts = record {
        actors = starts_a.actors;
        holder = λ b apart fd none. ap (λ (h : ℕ → Option (List ℕ)). is_by b (h fd)) starts_a.holder ∙ none;
        no_start = λ b apart. starts_a.start b ∙ other_text a b (λ e. apart (sym e));
        no_end = λ b apart. starts_a.no_end b;
      }

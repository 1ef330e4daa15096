-- A step of an actor, by all that a world keeps: before it, while the machine looks, and after it.
use Rattle.std.proofs.Common.{◌≡◌, ◌≢◌, ⊎_elim, ℕ, ◌+◌, ◌-◌, ◌^◌, ◌≤◌, min, List, [], ◌∷◌, ◌++◌, length, set, Bool, true, false, Option, Some, None, is_some, refl, sym, ap, ◌∙◌, subst, arith, get_or}
use Rattle.std.specs.Prelude.{not, ◌||◌, ◌==◌, if◌then◌else◌, take, IsSomeAnd}
use Rattle.std.specs.List.{slice_get, sum_by}
use Rattle.call_fs.specs.Disk.{Disk}
use Rattle.call_fs.specs.declared.past.GotData.{GotData}
use Rattle.call_fs.specs.declared.past.GotData.TheVariants as came
use Rattle.call_fs.specs.declared.past.NeedData.{NeedData}
use Rattle.call_fs.specs.declared.past.NeedData.TheVariants as needs
use Rattle.call_fs.specs.declared.past.Own.{Own}
use Rattle.call_fs.specs.declared.past.ChildData.{ChildData}
use Rattle.call_fs.specs.declared.past.ChildData.TheVariants as child
use Rattle.call_fs.specs.declared.program.Port.{Port}
use Rattle.call_fs.specs.declared.program.Port.TheVariants as port
use Rattle.call_fs.specs.declared.program.Ready.{Ready}
use Rattle.world_events.specs.declared.event.Event.{Event as Kept}
use Rattle.world_events.specs.declared.event.Event.TheVariants as kept
use Rattle.world_events.specs.declared.event.Program.{Program}
use Rattle.world_events.specs.declared.event.Program.TheVariants.{Cleaner}
use Rattle.world_events.specs.declared.books.Entry.{Entry}
use Rattle.world_pipes.specs.declared.mouths.Mouths.{Mouths}
use Rattle.world_pipes.specs.Pipework.{Pipe, is_ready}
use Rattle.world_pipes.specs.Pipes.{offered}
use Rattle.call_fs.specs.declared.file_system.TheConstants.{PIECE}
use Rattle.mail_world.specs.declared.actor.Actor.{Actor as Held}
use Rattle.world_events.specs.declared.answers.WorldError.{WorldError}
use Rattle.world_events.specs.declared.answers.WorldError.TheVariants as why
use Rattle.mail_world.specs.Books.{noted, AreBooked}
use Rattle.mail_world.specs.ByKind.{IsMail, Follows, CanFind, takes_of, awaits_of}
use Rattle.world_pipes.specs.Mouths.{actor_of}
use Rattle.world_pipes.specs.Pipework.{Pipework, Tenant}
use Rattle.world_pipes.specs.Pipework.Tenant.{Runs}
use Rattle.mail_world.specs.History.{Actor, State, finished, next_of}
use Rattle.mail_world.specs.History.Life.{Over}
use Rattle.mail_world.specs.World.{Counts, starts_in, next_pid, most_of, IsStep}
use Rattle.mail_world.specs.Wired.{tenant_in, kept_at, AreWired, HasWires}
use Rattle.mail_world.specs.Children.{IsDueOfChild, child_place, HasLeftIf}
use Rattle.mail_world.specs.Inside.{known, among_all, RunsBy, StandsFor, Owes, IsMember, AreActors, IsWorld, ArePiped, HasBorneLast}
use Rattle.mail_world.specs.Crew.{IsFoundAt}
use Rattle.mail_world.specs.Generations.{CanNot, Waits, idled_of, has_idled, idled_by}
use Rattle.mail_world.specs.Readiness.{has_ended, found_by, found_at, found_in, is_awaiting}
use Rattle.mail_world.specs.Acting.{is_due_of_child, has_actor, IsSeated, StaysAt, HasEnded, IsAct, IsNoAct, IsCall, MayAct, Brings, BringsNone, AreAsBefore, HasDone, HasActed, HasLooked, HasWaited, HasIdled, IsNoLiving}
use Rattle.mail_world.proofs.Acts.{end_finishes}
use Rattle.mail_world.proofs.Awaiting.{GivesToNone, can_find, due_waits}
use Rattle.mail_world.proofs.Crew.{member_alive, member_over}
use Rattle.mail_world.proofs.Leaving.{Leaves, leaves, in_slot}
use Rattle.mail_world.proofs.Members.{whether}
use Rattle.mail_world.proofs.Passes.{gives_to_none}
use Rattle.mail_world.proofs.Feeders.{birth_feeds, feeder_next}
use Rattle.mail_world.proofs.Serving.{finds_by, pipes_within}
use Rattle.mail_world.proofs.Booked.{look_booked, newest_is, one_booked}
use Rattle.world_pipes.proofs.Keeps.{before_same}
use Rattle.mail_world.proofs.Found.{ended_remote}
use Rattle.mail_world.proofs.Histories.{LeadsOn}
use Rattle.mail_world.proofs.Lasts.{same_last}
use Rattle.mail_world.proofs.Lists.{some_at, set_again}
use Rattle.mail_world.proofs.Piped.{plumbed, has_wires, look_piped, done_piped, finish_piped}
use Rattle.mail_world.proofs.Programs.{program_acts, machine_takes}
use Rattle.mail_world.proofs.Wires.{same_place}
use Rattle.mail_world.proofs.Worlds.{StandsAt, GoesWith, stands_whole, may_act, look_keeps, paid_follows, done_goes, done_keeps, done_step, ended_keeps, ended_leads_on, ended_step, acts_not}

-- All that a world keeps but the room in its history.
pub record AreKept (told : Option Disk) (crew : ℕ) (places : List ℕ → Option ℕ) (actors : List Held) (mouths : List Mouths) (entries : List Entry) (events : List Kept) (p n : ℕ) (b : Counts) : Type 0 where
  pub world : IsWorld told (among_all crew places) actors (known events) events p n b
  pub booked : AreBooked crew entries actors events
  pub piped : ArePiped crew mouths actors (known events) events

-- The machine of an actor looked, or was handed what it owed.
pub record HasTurned (x y : Held) (program : Program) (past : List Own) : Type 0 where
  pub name : y.name ≡ x.name
  pub ended : y.ended ≡ x.ended
  pub status : y.status ≡ x.status
  pub awaits : awaits_of y.machine ≡ awaits_of x.machine
  pub paid : y.owed ≡ None
  pub descriptors : y.descriptors.items ≡ x.descriptors.items
  pub stays : StaysAt x y
  pub follows : Follows y.machine program past

pub turned_keeps : (told : Option Disk) (crew : ℕ) (places : List ℕ → Option ℕ) (actors : List Held) (mouths wired : List Mouths) (entries : List Entry) (events : List Kept) (p n : ℕ) (b : Counts) (i : ℕ) (x y : Held)
    → AreKept told crew places actors mouths entries events p n b → (at : StandsAt (among_all crew places) actors (known events) events p i x)
    → HasTurned x y at.member.actor.program at.member.actor.past → AreAsBefore mouths wired
    → AreKept told crew places (set actors i y) wired entries events p n b
turned_keeps told crew places actors mouths wired entries events p n b i x y w at turned same = record {
  world = look_keeps told (among_all crew places) actors (known events) events p n b i x y w.world at turned.name turned.ended turned.status turned.awaits turned.paid turned.descriptors turned.follows;
  booked = look_booked crew actors events i x y entries w.booked at.is turned.name turned.stays.entry;
  piped = look_piped crew mouths wired actors (known events) events i x y w.piped at.is turned.name turned.ended turned.stays same;
}

-- and stands at its place
pub turned_stands : (told : Option Disk) (crew : ℕ) (places : List ℕ → Option ℕ) (actors : List Held) (mouths : List Mouths) (entries : List Entry) (events : List Kept) (p n : ℕ) (b : Counts) (i : ℕ) (x y : Held)
    → AreKept told crew places (set actors i y) mouths entries events p n b → StandsAt (among_all crew places) actors (known events) events p i x → y.ended ≡ x.ended
    → StandsAt (among_all crew places) (set actors i y) (known events) events p i y
turned_stands told crew places actors mouths entries events p n b i x y w at ended =
    let is = same_place actors i x y at.is in
    record { is = is; member = w.world.kept.members i y is; lives = ended ∙ at.lives }

-- nothing was made of the pipes
pub as_they_were : (mouths : List Mouths) → AreAsBefore mouths mouths
as_they_were mouths = before_same mouths mouths refl

-- a machine that was paid
pub paid_turned : (s : State) (events : List Kept) (p : ℕ) (x z : Held) (m : IsMember s events p x) → x.ended ≡ None
    → ((program : Program) (past : List Own) → ((at : ℕ) → x.owed ≡ Some at → Owes x events past at) → StandsFor x program past → Follows z.machine program past)
    → z.name ≡ x.name → z.ended ≡ x.ended → z.status ≡ x.status → awaits_of z.machine ≡ awaits_of x.machine → z.owed ≡ None → z.descriptors.items ≡ x.descriptors.items → StaysAt x z
    → HasTurned x z m.actor.program m.actor.past
paid_turned s events p x z m lives pays name ended status awaits paid descriptors stays = record {
  name = name;
  ended = ended;
  status = status;
  awaits = awaits;
  paid = paid;
  descriptors = descriptors;
  stays = stays;
  follows = paid_follows s events p x z m lives pays;
}

-- one that looked, and owes nothing
pub looked_turned : (s : State) (events : List Kept) (p : ℕ) (x y : Held) (m : IsMember s events p x) → x.ended ≡ None → x.owed ≡ None → HasLooked x y → HasTurned x y m.actor.program m.actor.past
looked_turned s events p x y m lives paid looked = record {
  name = looked.name;
  ended = looked.ended;
  status = looked.status;
  awaits = looked.awaits;
  paid = looked.owed ∙ paid;
  descriptors = looked.descriptors;
  stays = looked.stays;
  follows = looked.follows m.actor.program m.actor.past (stands_whole s events p x m lives paid);
}

-- What a step needs

-- it may be told that
pub may_find : (s : State) (events : List Kept) (p : ℕ) (x : Held) (ready : Ready) (m : IsMember s events p x) → x.ended ≡ None → x.owed ≡ None → ready ≡ found_by s x.name m.actor.program → CanFind x.machine ready
may_find s events p x ready m lives paid finds =
    subst (CanFind x.machine) (sym finds) (can_find s x.name x.machine m.actor.program m.actor.past (stands_whole s events p x m lives paid) (m.awaits lives))

-- it may act
pub may_step : (told : Option Disk) (crew : ℕ) (places : List ℕ → Option ℕ) (actors : List Held) (mouths : List Mouths) (entries : List Entry) (events : List Kept) (p n : ℕ) (b : Counts) (i : ℕ) (x : Held) (ready : Ready)
    → AreKept told crew places actors mouths entries events p n b → (at : StandsAt (among_all crew places) actors (known events) events p i x) → x.owed ≡ None
    → ready ≡ found_by (known events) x.name at.member.actor.program
    → is_due_of_child (has_actor mouths x.wire) (next_of at.member.actor.program at.member.actor.past p ready) ≡ false → MayAct told x.machine x.wire mouths p ready
may_step told crew places actors mouths entries events p n b i x ready w at paid finds own =
    may_act told (among_all crew places) actors (known events) events p n b i x mouths ready w.world at paid finds
    (subst (λ (o : Option ℕ). RunsBy o at.member.actor.program) (w.piped.places i x at.is at.lives)
    (w.piped.runs x.name at.member.actor at.member.is (member_alive (known events) events p x at.member at.lives))) own

-- it has its pipes among these
pub is_seated : (told : Option Disk) (crew : ℕ) (places : List ℕ → Option ℕ) (actors : List Held) (mouths : List Mouths) (entries : List Entry) (events : List Kept) (p n : ℕ) (b : Counts) (i : ℕ) (x : Held)
    → AreKept told crew places actors mouths entries events p n b → slice_get actors i ≡ Some x → x.ended ≡ None → IsSeated x.wire mouths
is_seated told crew places actors mouths entries events p n b i x w is lives = record {
  slots = w.piped.slots;
  four = λ j wire. (pipes_within crew places mouths actors (known events) events p i x w.world.kept w.piped is lives j wire).0;
  within = λ j wire. (pipes_within crew places mouths actors (known events) events p i x w.world.kept w.piped is lives j wire).1;
}

-- What a step did

still_next : (n q sum : ℕ) → n ≡ min (77 + sum) (2 ^ 32 - 1) → q ≡ min (n + 0) (2 ^ 32 - 1) → q ≡ n
still_next n q sum was next = omega (arith, was, next)

most_some : (program : Program) → 1 ≤ most_of program
most_some (Cleaner start) = let same : PIECE ≡ 8192 = refl in omega (arith, same)
most_some other = omega arith

-- what is ready is offered
ready_offers : (t shut : Bool) (took got : GotData) → (not t || shut) ≡ false → (if t then (if shut then Some came.End else None) else Some took) ≡ Some got → ⊥
ready_offers true true took got ready is = cc
ready_offers true false took got ready is = cc
ready_offers false shut took got ready is = cc

pub none_ready : (most : ℕ) (pipe : Pipe) (got : GotData) → is_ready pipe ≡ false → offered most pipe ≡ Some got → ⊥
none_ready most pipe got ready is = ready_offers (length pipe.bytes == 0) pipe.shut (came.Took (take most pipe.bytes)) got ready is

calls_can : (s : State) (a : List ℕ) (due : NeedData) (got : GotData) → IsCall due got → CanNot s a due → ⊥
calls_can s a (needs.File c) got call can = can
calls_can s a (needs.Take port) got call can = absurd call
calls_can s a (needs.Give port bytes) got call can = absurd call
calls_can s a (needs.Start asked) got call can = absurd call
calls_can s a (needs.Command bytes) got call can = absurd call
calls_can s a needs.Wait got call can = absurd call
calls_can s a (needs.Ended status) got call can = absurd call

brings_can : (s : State) (pid most : ℕ) (a : List ℕ) (due : NeedData) (got : GotData) → Brings s.pipework pid most a due got → CanNot s a due → ⊥
brings_can s pid most a (needs.File c) got brings can = can
brings_can s pid most a (needs.Take (port.Status d)) got brings can = let both : true ≡ false = sym (ap (has_ended s) brings.0) ∙ can in absurd (cc)
brings_can s pid most a (needs.Take port.Input) got brings can = none_ready most (s.pipework.pipes a port.Input) got can brings
brings_can s pid most a (needs.Take port.Output) got brings can = none_ready most (s.pipework.pipes a port.Output) got can brings
brings_can s pid most a (needs.Take port.Clean) got brings can = none_ready most (s.pipework.pipes a port.Clean) got can brings
brings_can s pid most a (needs.Take port.Lspawn) got brings can = none_ready most (s.pipework.pipes a port.Lspawn) got can brings
brings_can s pid most a (needs.Take port.Rspawn) got brings can = none_ready most (s.pipework.pipes a port.Rspawn) got can brings
brings_can s pid most a (needs.Take port.Todo) got brings can = none_ready most (s.pipework.pipes a port.Todo) got can brings
brings_can s pid most a (needs.Take (port.Program d)) got brings can = none_ready most (s.pipework.pipes a (port.Program d)) got can brings
brings_can s pid most a (needs.Give port bytes) got brings can = can
brings_can s pid most a (needs.Start asked) got brings can = can
brings_can s pid most a (needs.Command bytes) got brings can = can
brings_can s pid most a needs.Wait got brings can = absurd brings
brings_can s pid most a (needs.Ended status) got brings can = can

-- what brings nothing by the pipes that are kept can't be done
abbrev TakesNoActor : State → List ℕ → NeedData → Type 0
TakesNoActor s a (needs.Take (port.Status d)) = (c : List ℕ) → s.pipework.programs a d ≡ Some (Runs c) → ⊥
TakesNoActor s a due = Unit {0}

takes_no_actor : (s : State) (wires : List ℕ → Option ℕ) (mouths : List Mouths) (a : List ℕ) (wire : Option ℕ) (due : NeedData) → AreWired wires mouths s.pipework → wires a ≡ wire
    → is_due_of_child (has_actor mouths wire) due ≡ false → TakesNoActor s a due
takes_no_actor s wires mouths a wire (needs.Take (port.Status d)) wired of mine = gives_to_none wires mouths s.pipework a wire (needs.Give (port.Program d) []) wired of mine
takes_no_actor s wires mouths a wire due wired of mine = tt

none_can : (s : State) (a : List ℕ) (due : NeedData) → TakesNoActor s a due → BringsNone s.pipework a due → CanNot s a due
none_can s a (needs.File c) none brings = absurd brings
none_can s a (needs.Take (port.Status d)) none brings = ended_remote s (s.pipework.programs a d) none ∙ brings
none_can s a (needs.Take port.Input) none brings = brings
none_can s a (needs.Take port.Output) none brings = brings
none_can s a (needs.Take port.Clean) none brings = brings
none_can s a (needs.Take port.Lspawn) none brings = brings
none_can s a (needs.Take port.Rspawn) none brings = brings
none_can s a (needs.Take port.Todo) none brings = brings
none_can s a (needs.Take (port.Program d)) none brings = brings
none_can s a (needs.Give port bytes) none brings = absurd brings
none_can s a (needs.Start asked) none brings = absurd brings
none_can s a (needs.Command bytes) none brings = absurd brings
none_can s a needs.Wait none brings = tt
none_can s a (needs.Ended status) none brings = absurd brings

-- a program that passes something takes some of what lies there
passes_some : (w : Pipework) (pid : ℕ) (a : List ℕ) (x : Held) (program : Program) (past : List Own) (p : ℕ) (ready : Ready) (due : NeedData) (got : GotData) → Follows x.machine program past
    → next_of program past p ready ≡ due → IsNoAct due → Brings w pid (takes_of x.machine) a due got → 1 ≤ takes_of x.machine
passes_some w pid a x program past p ready due got follows is none brings = ⊎_elim
    (λ mail. absurd (acts_not w pid (takes_of x.machine) a due got (subst IsAct is (program_acts program mail past p ready)) none brings))
    (λ takes. let some = most_some program in omega (arith, takes, some))
    (machine_takes x.machine program past follows)

-- who awaits does nothing
waits_on : (s : State) (events : List Kept) (p : ℕ) (x : Held) (ready : Ready) (m : IsMember s events p x) → x.ended ≡ None → x.owed ≡ None → ready ≡ found_by s x.name m.actor.program
    → IsMail m.actor.program → is_awaiting s x.name ≡ true → next_of m.actor.program m.actor.past p ready ≡ needs.Wait
waits_on s events p x ready m lives paid finds mail awaits =
    ap (next_of m.actor.program m.actor.past p) finds
    ∙ due_waits s x.name x.machine m.actor.program m.actor.past p (stands_whole s events p x m lives paid) (m.awaits lives mail ∙ awaits) awaits

wait_brings : (w : Pipework) (pid most : ℕ) (a : List ℕ) (due : NeedData) (got : GotData) → due ≡ needs.Wait → Brings w pid most a due got → ⊥
wait_brings w pid most a due got is brings = subst (λ (due : NeedData). Brings w pid most a due got) is brings

wait_calls : (due : NeedData) (got : GotData) → due ≡ needs.Wait → IsCall due got → ⊥
wait_calls due got is call = subst (λ (due : NeedData). IsCall due got) is call

-- who has just started a child gives it its input next, and the world does that for it
never_borne : (crew : ℕ) (mouths : List Mouths) (actors : List Held) (events : List Kept) (p i : ℕ) (x : Held) (ready : Ready) (m : IsMember (known events) events p x)
    → ArePiped crew mouths actors (known events) events → slice_get actors i ≡ Some x → x.ended ≡ None
    → is_due_of_child (has_actor mouths x.wire) (next_of m.actor.program m.actor.past p ready) ≡ false → HasBorneLast m.actor.past → ⊥
never_borne crew mouths actors events p i x ready m piped is lives mine borne =
    let s = known events in
    let may = piped.fed x.name m.actor m.is (member_alive s events p x m lives) borne in
    let gives = feeder_next m.actor.program m.actor.past (birth_feeds m.actor.program m.actor.past m.run borne) m.run borne in
    let there : has_actor mouths x.wire 0 ≡ true =
    ap (λ (o : Option Tenant). is_some (actor_of o)) (in_slot piped.wires mouths s x.name may.child x.wire piped.wired (piped.places i x is lives) may.runs) in
    let both : true ≡ false = sym there ∙ sym (ap (is_due_of_child (has_actor mouths x.wire)) (gives.1 p ready)) ∙ mine in cc

-- the list of the actors once the one that is over has left
pub left_booked : (crew : ℕ) (actors stood : List Held) (s t : State) (events : List Kept) (i : ℕ) (x y : Held) (entries : List Entry) → Leaves actors stood s t i x y
    → AreBooked crew entries (set actors i y) events → AreBooked crew entries stood events
left_booked crew actors stood s t events i x y entries leaves booked = ⊎_elim
    (λ same. subst (λ (l : List Held). AreBooked crew entries l events) (sym same.0) booked)
    (λ cut. subst (λ (l : List Held). AreBooked crew entries l events) (sym cut.is)
    (look_booked crew (set actors i y) events cut.place cut.old cut.new entries booked cut.mid cut.cut.name cut.cut.stays.entry))
    leaves

pub left_piped : (crew : ℕ) (mouths : List Mouths) (actors stood : List Held) (s t u : State) (events : List Kept) (i : ℕ) (x y : Held) → Leaves actors stood s t i x y
    → ArePiped crew mouths (set actors i y) u events → ArePiped crew mouths stood u events
left_piped crew mouths actors stood s t u events i x y leaves piped = ⊎_elim
    (λ same. subst (λ (l : List Held). ArePiped crew mouths l u events) (sym same.0) piped)
    (λ cut. subst (λ (l : List Held). ArePiped crew mouths l u events) (sym cut.is)
    (look_piped crew mouths mouths (set actors i y) u events cut.place cut.old cut.new piped cut.mid cut.cut.name cut.cut.ended cut.cut.stays (as_they_were mouths)))
    leaves

module _ (old new : Option Disk) (crew : ℕ) (places : List ℕ → Option ℕ) (actors : List Held) (mouths piped : List Mouths) (entries : List Entry) (events later : List Kept) (p n : ℕ) (b : Counts) (i : ℕ) (x y : Held) (ready : Ready)
    (w : AreKept old crew places actors mouths entries events p n b) (at : StandsAt (among_all crew places) actors (known events) events p i x) (paid : x.owed ≡ None)
    (finds : ready ≡ found_by (known events) x.name at.member.actor.program)
    (mine : is_due_of_child (has_actor mouths x.wire) (next_of at.member.actor.program at.member.actor.past p ready) ≡ false) where
  wired : HasWires w.piped.wires mouths (known events).pipework x.name x.wire x.slot
  wired = has_wires crew mouths actors (known events) events i x w.piped at.is at.lives

  due_is : (pid : ℕ) (done : HasDone old new mouths piped pid x y events later p ready) → next_of at.member.actor.program at.member.actor.past p ready ≡ done.own.due
  due_is pid done = done.due at.member.actor.program at.member.actor.past (stands_whole (known events) events p x at.member at.lives paid)

  mine_of : (pid : ℕ) (done : HasDone old new mouths piped pid x y events later p ready) → is_due_of_child (has_actor mouths x.wire) done.own.due ≡ false
  mine_of pid done = ap (is_due_of_child (has_actor mouths x.wire)) (sym (due_is pid done)) ∙ mine

  to_none : (pid : ℕ) (done : HasDone old new mouths piped pid x y events later p ready) → GivesToNone (known events).pipework x.name done.own.due
  to_none pid done = gives_to_none w.piped.wires mouths (known events).pipework x.name x.wire done.own.due w.piped.wired wired.at (mine_of pid done)

  goes_with : (pid : ℕ) (done : HasDone old new mouths piped pid x y events later p ready) → GoesWith old new (among_all crew places) actors events p i x y at.member done.own
  goes_with pid done =
      let m = at.member in
      let follows = stands_whole (known events) events p x m at.lives paid in
      done_goes old new (among_all crew places) actors mouths piped pid events later p n b i x y ready w.world (plumbed crew mouths actors (known events) events w.piped) w.piped.wires wired at paid done (to_none pid done)
      (λ none brings. passes_some (known events).pipework pid x.name x m.actor.program m.actor.past p ready done.own.due done.own.came follows (due_is pid done) none brings) finds

  never_awaits : (pid : ℕ) (done : HasDone old new mouths piped pid x y events later p ready) → IsMail at.member.actor.program → is_awaiting (known events) x.name ≡ false
  never_awaits pid done mail = ⊎_elim
      (λ awaits.
      let is : done.own.due ≡ needs.Wait = sym (due_is pid done) ∙ waits_on (known events) events p x ready at.member at.lives paid finds mail awaits in
      absurd (⊎_elim
      (λ call. wait_calls done.own.due done.own.came is call.0)
      (λ pass. wait_brings (known events).pipework pid (takes_of x.machine) x.name done.own.due done.own.came is (pass.1.brings w.piped.wires (known events).pipework wired))
      done.passed))
      (λ none. none)
      (whether (is_awaiting (known events) x.name))

  -- its last event started no child
  unborn : HasBorneLast at.member.actor.past → ⊥
  unborn borne = never_borne crew mouths actors events p i x ready at.member w.piped at.is at.lives mine borne

  -- it ended, so it awaited nothing
  ended_apart : (status : ℕ) → HasEnded status old new mouths piped x y events later p ready → (parent c : List ℕ) (z : Actor) → (known events).actors c ≡ Some z → IsMail z.program
      → x.name ≢ parent → is_awaiting (known events) c ≡ true → (x.name ≢ parent) × (x.name ≢ c)
  ended_apart status over parent c z there mail other awaits = (
    other,
    λ same.
        let both : ◌≡◌ {A = Option Actor} (Some z) (Some at.member.actor) = sym there ∙ ap (known events).actors (sym same) ∙ at.member.is in
        let one : z ≡ at.member.actor = cc in
        let is = waits_on (known events) events p x ready at.member at.lives paid finds (subst (λ (a : Actor). IsMail a.program) one mail) (ap (is_awaiting (known events)) same ∙ awaits) in
        let due = over.due at.member.actor.program at.member.actor.past (stands_whole (known events) events p x at.member at.lives paid) in
        let both : needs.Wait ≡ needs.Ended status = sym is ∙ due in cc,
  )

  pub acted_leads : (ended : Option ℕ) (pid : ℕ) → HasActed ended old new mouths piped pid x y events later p ready → LeadsOn old new events later p p
  acted_leads None pid done = subst (λ (l : List Kept). LeadsOn old new events l p p) (sym done.event) (goes_with pid done).leads
  acted_leads (Some status) pid over = ended_leads_on status old new (among_all crew places) actors mouths piped events later p n b i x y ready w.world at paid finds w.piped.whole over

  pub acted_keeps : (ended : Option ℕ) (pid : ℕ) → HasActed ended old new mouths piped pid x y events later p ready → (now : List Entry) (q : ℕ) (r : Kept)
      → r ≡ get_or later (length later - 1) r → q ≡ min (n + starts_in r) (2 ^ 32 - 1) → (x.entry ≡ None → now ≡ entries)
      → ((m : ℕ) (e : Entry) → x.entry ≡ Some m → slice_get entries m ≡ Some e → now ≡ set entries m (noted r e))
      → (child : Option ℕ) (stood : List Held) → child ≡ child_place mouths x.wire 0 crew places → HasLeftIf (is_some ended) child (set actors i y) stood
      → AreKept new crew places stood piped now later p q b
  acted_keeps None pid done now q r newest next none own child stood child_is stays =
      let k : Kept = kept.Act x.name done.own in
      let same : r ≡ k = newest_is later events k r done.event newest in
      subst (λ (l : List Held). AreKept new crew places l piped now later p q b) (sym stays) (record {
        world = done_keeps old new (among_all crew places) actors mouths piped pid events later p n q b i x y ready w.world at paid done (goes_with pid done)
            (next ∙ ap (λ (k : Kept). min (n + starts_in k) (2 ^ 32 - 1)) same);
        booked = one_booked (among_all crew places) crew actors events later i x y entries now k r w.world.kept.placed w.booked at.is done.name done.stays.entry refl done.event newest none own;
        piped = done_piped crew (among_all crew places) old new mouths piped pid actors events later p i x y ready w.world.kept w.piped at.is at.lives at.member done
            (to_none pid done) (goes_with pid done).awaits (never_awaits pid done) unborn;
      })
  acted_keeps (Some status) pid over now q r newest next none own child stood child_is left =
      let k : Kept = kept.End x.name p ready status in
      let same : r ≡ k = newest_is later events k r over.over.event newest in
      let still : q ≡ n = still_next n q (sum_by starts_in events) w.world.pid (next ∙ ap (λ (k : Kept). min (n + starts_in k) (2 ^ 32 - 1)) same) in
      let leave = leaves crew places mouths actors stood (known events) events p x y x.wire (Over status) at.member.actor w.world.kept w.piped wired.at i child at.is child_is left in
      let t = finished (known events) x.name (Over status) (Some at.member.actor) in
      record {
        world = subst (λ (q : ℕ). IsWorld new (among_all crew places) stood (known later) later p q b) (sym still)
            (ended_keeps status old new (among_all crew places) actors stood mouths piped events later p n b i x y ready w.world at paid finds w.piped.whole over leave);
        booked = left_booked crew actors stood (known events) t later i x y now leave
            (one_booked (among_all crew places) crew actors events later i x y entries now k r w.world.kept.placed w.booked at.is over.over.name over.over.stays.entry refl over.over.event newest none own);
        piped = left_piped crew piped actors stood (known events) t (known later) later i x y leave
            (finish_piped crew (among_all crew places) old new mouths piped actors events later p i x y k (Over status) (Some status) w.world.kept w.piped at.is at.lives at.member (end_finishes x.name p ready status) tt (ended_apart status over) over.over);
      }

  pub acted_step : {D : Type 0} (d e : D) (a : List ℕ) (ended : Option ℕ) → x.name ≡ a → HasActed ended old new mouths piped (next_pid events) x y events later p ready
      → IsStep a ended (record { disk = d; events = events; present = p }) (record { disk = e; events = later; present = p })
  acted_step d e a None name done =
      done_step d e old new mouths piped events later p a x y (has_actor mouths x.wire) ready name at.member at.lives paid finds w.piped.wires wired mine done (to_none (next_pid events) done)
  acted_step d e a (Some status) name over = ended_step d e status old new mouths piped events later p a x y ready name at.member at.lives paid finds over

  -- it didn't wait
  pub acted_waits : (ended : Option ℕ) (pid : ℕ) → HasActed ended old new mouths piped pid x y events later p ready → Waits (known events) p x.name → ⊥
  acted_waits ended pid acted waits = by_end ended acted where
    m : IsMember (known events) events p x
    m = at.member

    here : ready ≡ found_in (known events) x.name
    here = finds ∙ sym (ap (found_at (known events) x.name) m.is)

    waits_so : next_of m.actor.program m.actor.past p ready ≡ next_of waits.actor.program waits.actor.past p (found_in (known events) x.name)
    waits_so =
        let both : ◌≡◌ {A = Option Actor} (Some m.actor) (Some waits.actor) = sym m.is ∙ waits.is in
        let same : m.actor ≡ waits.actor = cc in
        ap (next_of m.actor.program m.actor.past p) here ∙ ap (λ (a : Actor). next_of a.program a.past p (found_in (known events) x.name)) same

    by_end : (ended : Option ℕ) → HasActed ended old new mouths piped pid x y events later p ready → ⊥
    by_end None done =
        let due = done.due m.actor.program m.actor.past (stands_whole (known events) events p x m at.lives paid) in
        let can : CanNot (known events) x.name done.own.due = subst (CanNot (known events) x.name) (sym waits_so ∙ due) waits.due in
        ⊎_elim
        (λ call. calls_can (known events) x.name done.own.due done.own.came call.0 can)
        (λ pass. brings_can (known events) pid (takes_of x.machine) x.name done.own.due done.own.came (pass.1.brings w.piped.wires (known events).pipework wired) can)
        done.passed
    by_end (Some status) over =
        let due = over.due m.actor.program m.actor.past (stands_whole (known events) events p x m at.lives paid) in
        subst (CanNot (known events) x.name) (sym waits_so ∙ due) waits.due

  -- it waits
  pub waited_waits : HasWaited mouths piped x y p ready → Waits (known events) p x.name
  waited_waits waited =
      let m = at.member in
      let here : ready ≡ found_in (known events) x.name = finds ∙ sym (ap (found_at (known events) x.name) m.is) in
      record {
        actor = m.actor;
        is = m.is;
        alive = member_alive (known events) events p x m at.lives;
        due = subst (λ (ready : Ready). CanNot (known events) x.name (next_of m.actor.program m.actor.past p ready)) here
            (none_can (known events) x.name (next_of m.actor.program m.actor.past p ready)
            (takes_no_actor (known events) w.piped.wires mouths x.name x.wire (next_of m.actor.program m.actor.past p ready) w.piped.wired wired.at mine)
            (waited.waits m.actor.program m.actor.past (stands_whole (known events) events p x m at.lives paid) w.piped.wires (known events).pipework wired));
      }

  -- and whether an idle turn ended
  pub acted_idle : (ended : Option ℕ) (pid : ℕ) (idle : Bool) → HasActed ended old new mouths piped pid x y events later p ready → HasIdled idle x events later
      → (k : Kept) → later ≡ events ++ k ∷ [] → idle ≡ has_idled (known events) k
  acted_idle ended pid idle acted idled k event =
      let m = at.member in
      idled k event m.actor.program m.actor.past (stands_whole (known events) events p x m at.lives paid) ∙ by_end ended acted
    where
      by_end : (ended : Option ℕ) → HasActed ended old new mouths piped pid x y events later p ready → idled_of at.member.actor.program at.member.actor.past k ≡ has_idled (known events) k
      by_end None done =
          let same : kept.Act x.name done.own ≡ k = same_last events (kept.Act x.name done.own) k (sym done.event ∙ event) in
          subst (λ (k : Kept). idled_of at.member.actor.program at.member.actor.past k ≡ has_idled (known events) k) same
          (sym (ap (λ (o : Option Actor). idled_by o done.own) at.member.is))
      by_end (Some status) over =
          let same : kept.End x.name p ready status ≡ k = same_last events (kept.End x.name p ready status) k (sym over.over.event ∙ event) in
          subst (λ (k : Kept). idled_of at.member.actor.program at.member.actor.past k ≡ has_idled (known events) k) same refl

-- An actor that was paid, and perhaps has looked, stands at its place in a world, and finds this ready.
pub record StandsReady (told : Option Disk) (crew : ℕ) (places : List ℕ → Option ℕ) (items : List Held) (mouths : List Mouths) (entries : List Entry) (events : List Kept) (p n : ℕ) (b : Counts) (place : ℕ) (a : List ℕ) (y : Held) (ready : Ready) : Type 0 where
  pub actors : List Held
  pub same : (v : Held) → set actors place v ≡ set items place v
  pub here : actors ≡ set items place y
  pub world : AreKept told crew places actors mouths entries events p n b
  pub at : StandsAt (among_all crew places) actors (known events) events p place y
  pub paid : y.owed ≡ None
  pub finds : ready ≡ found_by (known events) y.name at.member.actor.program
  pub name : y.name ≡ a

module _ (told : Option Disk) (crew : ℕ) (places : List ℕ → Option ℕ) (items : List Held) (mouths : List Mouths) (entries : List Entry) (events : List Kept) (p n : ℕ) (b : Counts) (place : ℕ) (a : List ℕ) (ready : Ready) where
  -- it finds what the events tell
  pub ready_found : (y : Held) → StandsReady told crew places items mouths entries events p n b place a y ready → ready ≡ found_in (known events) a
  ready_found y r = r.finds ∙ sym (ap (found_at (known events) y.name) r.at.member.is) ∙ ap (found_in (known events)) r.name

  pub paid_stands : (x z : Held) → AreKept told crew places items mouths entries events p n b → (at : StandsAt (among_all crew places) items (known events) events p place x) → x.name ≡ a
      → HasTurned x z at.member.actor.program at.member.actor.past → IsFoundAt mouths z.wire (awaits_of z.machine) ready → StandsReady told crew places items mouths entries events p n b place a z ready
  paid_stands x z w at name turned found =
      let now = turned_keeps told crew places items mouths mouths entries events p n b place x z w at turned (as_they_were mouths) in
      let stands = turned_stands told crew places items mouths entries events p n b place x z now at turned.ended in
      record {
        actors = set items place z;
        same = λ v. set_again items place z v;
        here = refl;
        world = now;
        at = stands;
        paid = turned.paid;
        finds = finds_by crew mouths (set items place z) (known events) events p place z ready stands.member stands.is stands.lives now.piped found;
        name = turned.name ∙ name;
      }

  same_actor : (s : State) (x y : Held) (m : IsMember s events p x) (o : IsMember s events p y) → y.name ≡ x.name → m.actor ≡ o.actor
  same_actor s x y m o name =
      let both : ◌≡◌ {A = Option Actor} (Some m.actor) (Some o.actor) = sym m.is ∙ ap s.actors (sym name) ∙ o.is in cc

  pub looked_stands : (z v : Held) → StandsReady told crew places items mouths entries events p n b place a z ready → HasLooked z v → StandsReady told crew places items mouths entries events p n b place a v ready
  looked_stands z v r looked =
      let turned = looked_turned (known events) events p z v r.at.member r.at.lives r.paid looked in
      let now = turned_keeps told crew places r.actors mouths mouths entries events p n b place z v r.world r.at turned (as_they_were mouths) in
      let stands = turned_stands told crew places r.actors mouths entries events p n b place z v now r.at turned.ended in
      let one = same_actor (known events) z v r.at.member stands.member looked.name in
      record {
        actors = set r.actors place v;
        same = λ y. set_again r.actors place v y ∙ r.same y;
        here = r.same v;
        world = now;
        at = stands;
        paid = turned.paid;
        finds = r.finds ∙ ap (λ (name : List ℕ). found_by (known events) name r.at.member.actor.program) (sym looked.name) ∙ ap (λ (actor : Actor). found_by (known events) v.name actor.program) one;
        name = looked.name ∙ r.name;
      }

  -- what holds of what its machine asked before it looked again holds of what is next
  pub next_by : (P : NeedData → Type 0) (z v : Held) (r : StandsReady told crew places items mouths entries events p n b place a z ready) (q : StandsReady told crew places items mouths entries events p n b place a v ready)
      → v.name ≡ z.name → ((program : Program) (past : List Own) → Follows z.machine program past → P (next_of program past p ready)) → P (next_of q.at.member.actor.program q.at.member.actor.past p ready)
  next_by P z v r q name asks =
      subst (λ (actor : Actor). P (next_of actor.program actor.past p ready)) (same_actor (known events) z v r.at.member q.at.member name)
      (asks r.at.member.actor.program r.at.member.actor.past (stands_whole (known events) events p z r.at.member r.at.lives r.paid))

-- What of a child is due to an actor

given_same : (has other : ℕ → Bool) → ((d : ℕ) → has d ≡ other d) → (to : Port) (bytes : List ℕ) → is_due_of_child has (needs.Give to bytes) ≡ is_due_of_child other (needs.Give to bytes)
given_same has other same (port.Program d) bytes = same d
given_same has other same port.Input bytes = refl
given_same has other same port.Output bytes = refl
given_same has other same port.Clean bytes = refl
given_same has other same port.Lspawn bytes = refl
given_same has other same port.Rspawn bytes = refl
given_same has other same port.Todo bytes = refl
given_same has other same (port.Status d) bytes = refl

taken_same : (has other : ℕ → Bool) → ((d : ℕ) → has d ≡ other d) → (from : Port) → is_due_of_child has (needs.Take from) ≡ is_due_of_child other (needs.Take from)
taken_same has other same (port.Status d) = same d
taken_same has other same port.Input = refl
taken_same has other same port.Output = refl
taken_same has other same port.Clean = refl
taken_same has other same port.Lspawn = refl
taken_same has other same port.Rspawn = refl
taken_same has other same port.Todo = refl
taken_same has other same (port.Program d) = refl

started_same : (has other : ℕ → Bool) (asked : ChildData) → is_due_of_child has (needs.Start asked) ≡ is_due_of_child other (needs.Start asked)
started_same has other (child.Bounce room) = refl
started_same has other (child.Forward uid room) = refl
started_same has other (child.Local slot words uid) = refl
started_same has other (child.Remote slot domain sender recipient) = refl

pub due_same : (has other : ℕ → Bool) → ((d : ℕ) → has d ≡ other d) → (due : NeedData) → is_due_of_child has due ≡ is_due_of_child other due
due_same has other same (needs.Start asked) = started_same has other asked
due_same has other same (needs.Give to bytes) = given_same has other same to bytes
due_same has other same (needs.Take from) = taken_same has other same from
due_same has other same (needs.File c) = refl
due_same has other same (needs.Command bytes) = refl
due_same has other same needs.Wait = refl
due_same has other same (needs.Ended status) = refl

pub asks_child : {D : Type 0} (d : D) (told : Option Disk) (crew : ℕ) (places : List ℕ → Option ℕ) (actors : List Held) (mouths : List Mouths) (entries : List Entry) (events : List Kept) (p n : ℕ) (b : Counts) (i : ℕ) (x : Held) (ready : Ready) (due : NeedData)
    → AreKept told crew places actors mouths entries events p n b → (at : StandsAt (among_all crew places) actors (known events) events p i x)
    → ready ≡ found_by (known events) x.name at.member.actor.program → is_due_of_child (has_actor mouths x.wire) due ≡ true
    → next_of at.member.actor.program at.member.actor.past p ready ≡ due → IsDueOfChild (record { disk = d; events = events; present = p }) x.name due
asks_child d told crew places actors mouths entries events p n b i x ready due w at finds of_child next =
    let s = known events in
    let m = at.member in
    let here : found_in s x.name ≡ ready = ap (found_at s x.name) m.is ∙ sym finds in
    record {
      actor = m.actor;
      is = m.is;
      alive = member_alive s events p x m at.lives;
      due_is = ap (next_of m.actor.program m.actor.past p) here ∙ next;
      of_child = due_same (λ d. is_some (actor_of (s.pipework.programs x.name d))) (has_actor mouths x.wire)
          (λ d. ap (λ (o : Option Tenant). is_some (actor_of o))
          (w.piped.wired.programs x.name d ∙ ap (λ (o : Option ℕ). tenant_in (kept_at o mouths) d) (w.piped.places i x at.is at.lives))) due ∙ of_child;
    }

-- Who doesn't live waits for nothing.

pub no_living_waits : (places : List ℕ → Option ℕ) (actors : List Held) (s : State) (events : List Kept) (p : ℕ) (a : List ℕ) (error : WorldError)
    → AreActors places actors s events p → IsNoLiving places actors a error → Waits s p a → ⊥
no_living_waits places actors s events p a why.Unknown crew none waits =
    let both : ◌≡◌ {A = Option Actor} None (Some waits.actor) = sym (crew.strangers a none).unknown ∙ waits.is in absurd (cc)
no_living_waits places actors s events p a (why.Gone b here) crew none waits =
    let named = some_at (λ (x : Held). x.name ≡ a) (slice_get actors none.1) (crew.named a none.1 none.2) in
    let ended : named.0.ended ≡ Some here = subst (λ (o : Option Held). IsSomeAnd o (λ x. x.ended ≡ Some here)) named.1 none.3 in
    let m = crew.members none.1 named.0 named.1 in
    let both : ◌≡◌ {A = Option Actor} (Some m.actor) (Some waits.actor) = sym m.is ∙ ap s.actors named.2 ∙ waits.is in
    let same : m.actor ≡ waits.actor = cc in
    member_over s events p named.0 m here ended (ap (λ (x : Actor). x.life) same ∙ waits.alive)
no_living_waits places actors s events p a (why.NotWaiting b) crew none waits = absurd none
no_living_waits places actors s events p a (why.Alive b) crew none waits = absurd none
no_living_waits places actors s events p a why.Taken crew none waits = absurd none
no_living_waits places actors s events p a (why.Past now) crew none waits = absurd none
no_living_waits places actors s events p a why.Memory crew none waits = absurd none

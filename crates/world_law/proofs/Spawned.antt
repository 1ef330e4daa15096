-- Each event keeps what stands between the sender and each spawner; so what a spawner has in hand is of messages in S5.
use Rattle.std.proofs.Common.{◌≡◌, ◌≢◌, ⊎_elim, ℕ, List, [], ◌∷◌, ◌++◌, true, false, Option, Some, None, option_map, refl, sym, ap, ◌∙◌, subst, arith, codes}
use Rattle.std.specs.Prelude.{Contains}
use Rattle.call_fs.specs.Disk.{Disk}
use Rattle.call_fs.specs.Program.{MayCome}
use Rattle.call_fs.proofs.Maps.{put_at_other}
use Rattle.call_fs.specs.declared.past.ChildData.{ChildData}
use Rattle.call_fs.specs.declared.past.ChildData.TheVariants as child
use Rattle.call_fs.specs.declared.past.GotData.{GotData}
use Rattle.call_fs.specs.declared.past.NeedData.{NeedData}
use Rattle.call_fs.specs.declared.past.NeedData.TheVariants as needs
use Rattle.call_fs.specs.declared.past.Own.{Own}
use Rattle.call_fs.specs.declared.program.Port.TheVariants as port
use Rattle.local_spawn.specs.Table.{place_after as local_after}
use Rattle.program_law.specs.Post.Posts.{IsOffered, Post, Spawner, work_of}
use Rattle.program_law.specs.Post.Posts.Spawner.{Local as LocalAt, Remote as RemoteAt}
use Rattle.program_law.specs.Post.Senders.{IsSome}
use Rattle.program_law.proofs.Post.Senders.{senders_keep}
use Rattle.queue_states.specs.declared.state.State.TheVariants.{S5}
use Rattle.queue_states.specs.States.{state_of}
use Rattle.remote_spawn.specs.Table.{place_after as remote_after}
use Rattle.send_core.specs.Table.{begun, port_of}
use Rattle.send_jobs.specs.declared.attempts.Attempt.{Attempt}
use Rattle.send_known.specs.declared.channel.Channel.{Channel}
use Rattle.send_known.specs.declared.channel.Channel.TheVariants as channel
use Rattle.send_jobs.specs.Sending.{lane}
use Rattle.send_jobs.specs.Slots.{attempt_in}
use Rattle.spawn_protocol.specs.declared.request.Request.{Request}
use Rattle.spawner_parts.specs.declared.place.Place.{Place}
use Rattle.spawner_parts.specs.declared.row.Row.{Row}
use Rattle.spawner_parts.specs.declared.row.Row.TheVariants as at
use Rattle.world_events.specs.declared.event.Program.{Program}
use Rattle.world_events.specs.declared.event.Program.TheVariants.{Injector, Cleaner, Sender, LocalSpawner, RemoteSpawner, Delivery}
use Rattle.mail_world.specs.History.{Actor, Allowed, ComesOf, Event, IsProgramOf, IsSender, Legal, Life, MayBear, MayDo, MayRun, State, acted, after, bears, cut_off, happens, opening, stopped}
use Rattle.mail_world.specs.History.Event.{Start, Act, Child, Generation, Report, End, Stop, Moment, Halt}
use Rattle.mail_world.specs.History.Life.{Alive, Over, Stopped}
use Rattle.mail_world.proofs.Coming.{may_come}
use Rattle.mail_world.proofs.Members.{are_four, four_lspawn, four_rspawn, four_sender}
use Rattle.world_law.specs.Crew.{is_alive}
use Rattle.world_law.specs.Inv.{Inv}
use Rattle.world_law.specs.inside.Posts.{desk_by, desk_in, sends_in}
use Rattle.world_law.specs.Spawned.{HoldsStanding, IsSpawner, RequestsStand, spawner_name, stands_after, started_after}
use Rattle.world_law.specs.Standing.{IsOut}
use Rattle.world_law.proofs.Flights.{flights_stand}
use Rattle.world_law.proofs.Halted.{stopped_dead}
use Rattle.world_law.proofs.Histories.{always}
use Rattle.world_law.proofs.PostEvents.{IsOther}
use Rattle.world_law.proofs.PostSends.{some_of}
use Rattle.world_law.proofs.PostServes.{offered_by}
use Rattle.world_law.proofs.SpawnedEvents.{StandsIn, bears_stand, begins_stand, ends_stand, other_acts, sender_acts, spawner_acts}
use Rattle.world_law.proofs.SpawnedHand.{holds}
use Rattle.world_law.proofs.SpawnedRests.{rests_if, shown, shown_goes}
use Rattle.world_law.proofs.SpawnedViews.{Held, Sight, Stands, begins, first_sight, gone, nobody, post_held, side_by, side_in, sight_of}
use Rattle.world_law.proofs.Starts.{is_cleaner, is_local, is_remote, is_sender}

-- An event of an actor, with what comes of a taking

module _ (s : State) (I : Inv s) (c : Channel) (S : StandsIn c s) (a : List ℕ) (own : Own) (wrote : ℕ) where
  link_some : ComesOf s a own.due own.came wrote → own.due ≡ needs.Take (port_of c) → IsSome own.came (s.pipework.pipes a (port_of c)).bytes
  link_some comes e = by c (subst (λ (n : NeedData). ComesOf s a n own.came wrote) e comes)
    where
      by : (k : Channel) → ComesOf s a (needs.Take (port_of k)) own.came wrote → IsSome own.came (s.pipework.pipes a (port_of k)).bytes
      by channel.Local h = some_of (s.pipework.pipes a port.Lspawn) own.came h
      by channel.Remote h = some_of (s.pipework.pipes a port.Rspawn) own.came h

  input_offered : ComesOf s a own.due own.came wrote → own.due ≡ needs.Take port.Input → IsOffered (s.pipework.pipes a port.Input).bytes own.came
  input_offered comes e = offered_by (s.pipework.pipes a port.Input) own.came (subst (λ (n : NeedData). ComesOf s a n own.came wrote) e comes)

acts_by : (s : State) → Inv s → (c : Channel) → StandsIn c s → (a : List ℕ) (own : Own) (wrote : ℕ) (may : MayDo s a own wrote) (program : Program)
    → may.actor.program ≡ program
    → StandsIn c (acted s a own wrote (Some may.actor))
acts_by s I c S a own wrote may (Sender began) e =
    sender_acts s I c S a own wrote may.actor may.reads.is may.reads.alive (subst IsSender (sym e) tt) may.reads.no_later may.due (may_come s a own.due own.came wrote may.came)
    (link_some s I c S a own wrote may.came)
acts_by s I channel.Local S a own wrote may (LocalSpawner began) e =
    spawner_acts s I channel.Local S a own wrote may.actor may.reads.is may.reads.alive (subst (IsSpawner channel.Local) (sym e) tt) may.due
    (may_come s a own.due own.came wrote may.came) (input_offered s I channel.Local S a own wrote may.came)
acts_by s I channel.Remote S a own wrote may (RemoteSpawner began) e =
    spawner_acts s I channel.Remote S a own wrote may.actor may.reads.is may.reads.alive (subst (IsSpawner channel.Remote) (sym e) tt) may.due
    (may_come s a own.due own.came wrote may.came) (input_offered s I channel.Remote S a own wrote may.came)
acts_by s I channel.Local S a own wrote may program e = other_acts s I channel.Local S a own wrote may.actor may.reads.is (subst (IsOther channel.Local) (sym e) tt) may.due
acts_by s I channel.Remote S a own wrote may program e = other_acts s I channel.Remote S a own wrote may.actor may.reads.is (subst (IsOther channel.Remote) (sym e) tt) may.due

-- A start

child_other : (c : Channel) (asked : ChildData) (pid : ℕ) (program : Program) → IsProgramOf asked pid program → IsOther c program
child_other channel.Local (child.Bounce room) pid (Injector args) it = tt
child_other channel.Remote (child.Bounce room) pid (Injector args) it = tt
child_other channel.Local (child.Forward uid room) pid (Injector args) it = tt
child_other channel.Remote (child.Forward uid room) pid (Injector args) it = tt
child_other channel.Local (child.Local slot words uid) pid (Delivery start args) it = tt
child_other channel.Remote (child.Local slot words uid) pid (Delivery start args) it = tt
child_other c asked pid program it = absurd it

run_other : (c : Channel) (program : Program) → MayRun program → IsOther c program
run_other channel.Local (Injector args) runs = tt
run_other channel.Remote (Injector args) runs = tt
run_other c program runs = absurd runs

module _ (s : State) (I : Inv s) (parent : List ℕ) (own : Own) (a : List ℕ) (program : Program) (may : MayBear s parent own a program) where
  abbrev moved : State
  moved = acted s parent own 0 (Some may.actor)

  -- the child is new then too
  still_new : moved.actors a ≡ None
  still_new =
      let y : Actor = record { program = may.actor.program; past = own ∷ may.actor.past; life = may.actor.life } in
      put_at_other s.actors parent (Some y) a apart ∙ may.new
    where
      apart : a ≢ parent
      apart same = let both : ◌≡◌ {A = Option Actor} None (Some may.actor) = sym may.new ∙ ap s.actors same ∙ may.reads.is in absurd (cc)

  came : MayCome own.due own.came
  came = subst (λ (n : NeedData). MayCome n own.came) (sym may.starts) (subst (λ (c : GotData). MayCome (needs.Start may.asked) c) (sym may.came) tt)

  takes_no_link : (c : Channel) → own.due ≡ needs.Take (port_of c) → IsSome own.came (s.pipework.pipes parent (port_of c)).bytes
  takes_no_link c e = let both : needs.Start may.asked ≡ needs.Take (port_of c) = sym may.starts ∙ e in absurd (cc)

  takes_no_input : own.due ≡ needs.Take port.Input → IsOffered (s.pipework.pipes parent port.Input).bytes own.came
  takes_no_input e = let both : needs.Start may.asked ≡ needs.Take port.Input = sym may.starts ∙ e in absurd (cc)

  moved_by : (c : Channel) → StandsIn c s → (z : Program) → may.actor.program ≡ z → StandsIn c moved
  moved_by c S (Sender began) e =
      sender_acts s I c S parent own 0 may.actor may.reads.is may.reads.alive (subst IsSender (sym e) tt) may.reads.no_later may.due came (takes_no_link c)
  moved_by channel.Local S (LocalSpawner began) e =
      spawner_acts s I channel.Local S parent own 0 may.actor may.reads.is may.reads.alive (subst (IsSpawner channel.Local) (sym e) tt) may.due came takes_no_input
  moved_by channel.Remote S (RemoteSpawner began) e =
      spawner_acts s I channel.Remote S parent own 0 may.actor may.reads.is may.reads.alive (subst (IsSpawner channel.Remote) (sym e) tt) may.due came takes_no_input
  moved_by channel.Local S z e = other_acts s I channel.Local S parent own 0 may.actor may.reads.is (subst (IsOther channel.Local) (sym e) tt) may.due
  moved_by channel.Remote S z e = other_acts s I channel.Remote S parent own 0 may.actor may.reads.is (subst (IsOther channel.Remote) (sym e) tt) may.due

  children_stand : (c : Channel) → StandsIn c s → StandsIn c (happens s (Child parent own a program))
  children_stand c S = subst (λ (o : Option Actor). StandsIn c (bears (acted s parent own 0 o) parent own a program)) (sym may.reads.is)
      (bears_stand c moved (moved_by c S may.actor.program refl) parent own a program (child_other c may.asked may.pid program may.is) still_new)

-- A generation starts

module _ (s : State) (first second third last : ℕ) where
  abbrev four_begun : State
  four_begun = happens s (Generation (Sender first ∷ Cleaner second ∷ LocalSpawner third ∷ RemoteSpawner last ∷ []))

  seen_begun : (c : Channel) → sight_of c four_begun.actors four_begun.pipework ≡ first_sight c
  seen_begun channel.Local = λ i. record {
    desk = desk_in (four_sender s.actors (Sender first) (Cleaner second) (LocalSpawner third) (RemoteSpawner last) i);
    sends = sends_in (four_sender s.actors (Sender first) (Cleaner second) (LocalSpawner third) (RemoteSpawner last) i);
    side = side_in channel.Local (four_lspawn s.actors (Sender first) (Cleaner second) (LocalSpawner third) (RemoteSpawner last) i);
    told = [];
    asked = [];
  }
  seen_begun channel.Remote = λ i. record {
    desk = desk_in (four_sender s.actors (Sender first) (Cleaner second) (LocalSpawner third) (RemoteSpawner last) i);
    sends = sends_in (four_sender s.actors (Sender first) (Cleaner second) (LocalSpawner third) (RemoteSpawner last) i);
    side = side_in channel.Remote (four_rspawn s.actors (Sender first) (Cleaner second) (LocalSpawner third) (RemoteSpawner last) i);
    told = [];
    asked = [];
  }

generations_stand : (c : Channel) (s : State) (sender clean lspawn rspawn : Program) → Allowed s (Generation (sender ∷ clean ∷ lspawn ∷ rspawn ∷ []))
    → StandsIn c (happens s (Generation (sender ∷ clean ∷ lspawn ∷ rspawn ∷ [])))
generations_stand c s sender clean lspawn rspawn may =
    let one = is_sender sender may.kinds.0 in
    let two = is_cleaner clean may.kinds.1.0 in
    let three = is_local lspawn may.kinds.1.1.0 in
    let four = is_remote rspawn may.kinds.1.1.1.0 in
    subst (λ (p : Program). StandsIn c (happens s (Generation (p ∷ clean ∷ lspawn ∷ rspawn ∷ [])))) (sym one.1)
    (subst (λ (p : Program). StandsIn c (happens s (Generation (Sender one.0 ∷ p ∷ lspawn ∷ rspawn ∷ [])))) (sym two.1)
    (subst (λ (p : Program). StandsIn c (happens s (Generation (Sender one.0 ∷ Cleaner two.0 ∷ p ∷ rspawn ∷ [])))) (sym three.1)
    (subst (λ (p : Program). StandsIn c (happens s (Generation (Sender one.0 ∷ Cleaner two.0 ∷ LocalSpawner three.0 ∷ p ∷ [])))) (sym four.1)
    (subst (Stands c) (sym (seen_begun s one.0 two.0 three.0 four.0 c)) (begins c)))))

-- The machine stops

dead_serves : (c : Channel) (program : Program) (past : List Own) (life : Life) → is_alive life ≡ false → (side_by c program past life).serves ≡ false
dead_serves channel.Local (LocalSpawner since) past life dead = dead
dead_serves channel.Remote (RemoteSpawner since) past life dead = dead
dead_serves channel.Local program past life dead = refl
dead_serves channel.Remote program past life dead = refl

nobody_serves : (c : Channel) → (nobody c).serves ≡ false
nobody_serves channel.Local = refl
nobody_serves channel.Remote = refl

serves_halted : (c : Channel) (o : Option Actor) → (side_in c (option_map stopped o)).serves ≡ false
serves_halted c None = nobody_serves c
serves_halted c (Some x) = dead_serves c x.program x.past (cut_off x.life) (stopped_dead x.life)

halts_stand : (c : Channel) (s t : State) → t.actors ≡ (λ a. option_map stopped (s.actors a)) → StandsIn c t
halts_stand c s t are =
    gone c (sight_of c t.actors t.pipework)
    (ap (λ (f : List ℕ → Option Actor). (side_in c (f (spawner_name c))).serves) are ∙ serves_halted c (s.actors (spawner_name c)))

-- Each event

report_stands : (c : Channel) (s : State) → StandsIn c s → (slot : ℕ) (output : List ℕ) → StandsIn c (happens s (Report slot output))
report_stands channel.Local s S slot output = S
report_stands channel.Remote s S slot output = S

stands_keep : (e : Event) (s : State) → Inv s → (c : Channel) → StandsIn c s → Allowed s e → StandsIn c (happens s e)
stands_keep (Start a program) s I c S may = begins_stand c s S a program (run_other c program may.runs) may.new s.pipework refl refl
stands_keep (Act a own wrote) s I c S may =
    subst (λ (o : Option Actor). StandsIn c (acted s a own wrote o)) (sym may.reads.is) (acts_by s I c S a own wrote may may.actor.program refl)
stands_keep (Child parent own a program) s I c S may = children_stand s I parent own a program may c S
stands_keep (Generation (sender ∷ clean ∷ lspawn ∷ rspawn ∷ [])) s I c S may = generations_stand c s sender clean lspawn rspawn may
stands_keep (Generation crew) s I c S may = absurd (are_four crew may.kinds)
stands_keep (Report slot output) s I c S may = report_stands c s S slot output
stands_keep (End a read ready status) s I c S may = ends_stand s I c S a may.actor may.reads.is (Over status) refl
stands_keep (Stop a) s I c S may = ends_stand s I c S a may.actor may.is Stopped refl
stands_keep (Moment m) s I c S may = S
stands_keep (Halt how contents) s I c S may = halts_stand c s (happens s (Halt how contents)) refl

stands_always : (d : Disk) (before : List Event) → Legal d before → (c : Channel) → StandsIn c (after d before)
stands_always d [] legal c = let s = opening d in gone c (sight_of c s.actors s.pipework) (nobody_serves c)
stands_always d (e ∷ before) legal c =
    stands_keep e (after d before) (always d before legal.0) c (stands_always d before legal.0 c) legal.1

-- What a sender has out, or had, stays in S5.

empty_has : (t : Attempt) → Contains [] t → ⊥
empty_has t left = let low = left.1 in absurd (omega (arith, low))

none_left : (c : Channel) (t : Attempt) → Contains (lane c (begun None).slots).left t → ⊥
none_left channel.Local t left = empty_has t left
none_left channel.Remote t left = empty_has t left

none_out : (c : Channel) (t : Attempt) → IsOut (begun None) c t → ⊥
none_out c t out = ⊎_elim
    (λ (flying : (slot : ℕ) × (attempt_in (lane c (begun None).slots).slots slot ≡ Some t)).
    let none : attempt_in (lane c (begun None).slots).slots flying.0 ≡ None = (senders_keep.begins None refl).free c flying.0 in
    let both : ◌≡◌ {A = Option Attempt} None (Some t) = sym none ∙ flying.1 in
    absurd (cc))
    (λ (left : Contains (lane c (begun None).slots).left t). none_left c t left)
    out

out_stands : (d : Disk) (before : List Event) → Legal d before → (o : Option Actor) → (after d before).actors (codes "sender") ≡ o
    → (c : Channel) (t : Attempt) → IsOut (desk_in o) c t → state_of (after d before).disk t.n ≡ S5
out_stands d before legal None is c t out = absurd (none_out c t out)
out_stands d before legal (Some x) is c t out = by x.program refl out
  where
    by : (program : Program) → x.program ≡ program → IsOut (desk_by program x.past) c t → state_of (after d before).disk t.n ≡ S5
    by (Sender start) e out = flights_stand d before legal x is start e c t out
    by program e out = absurd (none_out c t out)

-- What a spawner has in hand

abbrev spawner_at : Channel → List Own → Spawner
spawner_at channel.Local past = LocalAt (local_after past)
spawner_at channel.Remote past = RemoteAt (remote_after past)

alive_side : (c : Channel) (program : Program) (past : List Own) (life : Life) → IsSpawner c program → life ≡ Alive
    → side_by c program past life ≡ record { spawner = spawner_at c past; serves = true; started = started_after c past }
alive_side channel.Local (LocalSpawner since) past Alive it alive = refl
alive_side channel.Remote (RemoteSpawner since) past Alive it alive = refl
alive_side channel.Local (LocalSpawner since) past life it alive = absurd (cc)
alive_side channel.Remote (RemoteSpawner since) past life it alive = absurd (cc)
alive_side channel.Local program past life it alive = absurd it
alive_side channel.Remote program past life it alive = absurd it

-- it is shown with all that it has in hand
from_shown_at : (s : State) (started : ℕ → Option Request) (given : List ℕ) (r : Row) (base : Place) → HoldsStanding s (rests_if r (record base { row = r })) started given
    → HoldsStanding s (record base { row = r }) started given
from_shown_at s started given (at.Ended status) base h =
    record { waits = h.waits; missing = h.missing; text = h.text; plain = h.plain; unread = h.unread; work = λ e. let both : false ≡ true = e in absurd (cc); runs = h.runs }
from_shown_at s started given r base h = h

from_shown : (s : State) (started : ℕ → Option Request) (given : List ℕ) (c : Channel) (past : List Own) → HoldsStanding s (work_of (shown (spawner_at c past))) started given
    → HoldsStanding s (stands_after c past) started given
from_shown s started given channel.Local past h = from_shown_at s started given (local_after past).work.row (local_after past).work h
from_shown s started given channel.Remote past h = from_shown_at s started given (remote_after past).row (remote_after past) h

module _ (s : State) (c : Channel) (S : StandsIn c s) (past : List Own)
    (is : side_in c (s.actors (spawner_name c)) ≡ record { spawner = spawner_at c past; serves = true; started = started_after c past })
    (stands : (t : Attempt) → IsOut (desk_in (s.actors (codes "sender"))) c t → state_of s.disk t.n ≡ S5) where
  abbrev v : Sight
  v = record {
    desk = desk_in (s.actors (codes "sender"));
    sends = sends_in (s.actors (codes "sender"));
    side = record { spawner = spawner_at c past; serves = true; started = started_after c past };
    told = (s.pipework.pipes (codes "sender") (port_of c)).bytes;
    asked = (s.pipework.pipes (spawner_name c) port.Input).bytes;
  }

  seen : sight_of c s.actors s.pipework ≡ v
  seen = λ i. record {
    desk = desk_in (s.actors (codes "sender"));
    sends = sends_in (s.actors (codes "sender"));
    side = is i;
    told = (s.pipework.pipes (codes "sender") (port_of c)).bytes;
    asked = (s.pipework.pipes (spawner_name c) port.Input).bytes;
  }

  in_hand : HoldsStanding s (stands_after c past) (started_after c past) (s.pipework.pipes (spawner_name c) port.Input).bytes
  in_hand =
      let given = (s.pipework.pipes (spawner_name c) port.Input).bytes in
      let r : Held c v = subst (Stands c) seen S refl in
      let x : Post = post_held (shown (spawner_at c past)) (given ++ r.missing) r.slots r.heard r.told r.tasks r.last r.done in
      from_shown s (started_after c past) given c past
      (holds x r.posted refl refl (shown_goes (spawner_at c past)) s (λ slot t there. stands t (r.out slot t there)) given r.missing (started_after c past) refl r.tied)

pub requests_stand : RequestsStand
requests_stand d before legal c y is alive it =
    let s = after d before in
    in_hand s c (stands_always d before legal c) y.past (ap (side_in c) is ∙ alive_side c y.program y.past y.life it alive)
    (λ t out. out_stands d before legal (s.actors (codes "sender")) refl c t out)

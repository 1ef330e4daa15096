-- Nothing is in flight at a rest.
use Rattle.std.proofs.Common.{◌≡◌, ℕ, ◌+◌, ◌==◌, List, [], ◌∷◌, ◌++◌, length, Bool, true, false, not, if◌then◌else◌, Option, Some, None, refl, sym, ap, ◌∙◌, subst, arith, codes}
use Rattle.std.specs.Prelude.{◌&&◌, cond, slice_get, slice_index_or}
use Rattle.std.proofs.lemmas.Bool.{and_parts, eqb-true, false≢true}
use Rattle.std.proofs.lemmas.List.{append-nil}
use Rattle.call_fs.specs.Disk.{Disk}
use Rattle.call_fs.specs.declared.past.ChildData.{ChildData}
use Rattle.call_fs.specs.declared.past.Own.{Own}
use Rattle.call_fs.specs.Past.{IsRunBy}
use Rattle.call_fs.specs.declared.program.Port.TheVariants as port
use Rattle.call_fs.specs.declared.program.Ready.{Ready}
use Rattle.local_spawn.specs.declared.row.Row.{Row as LocalRow}
use Rattle.local_spawn.specs.declared.row.Row.TheVariants as local_at
use Rattle.local_spawn.specs.Table.{due_at as local_due, place_after as local_after, program_of as local_program}
use Rattle.program_law.specs.Post.Posts.{owed_at, told_of}
use Rattle.remote_spawn.specs.Table.{place_after as remote_after, program_of as remote_program}
use Rattle.send_core.specs.Agrees.{has_ended}
use Rattle.send_core.specs.Past.{account, news, reports_in}
use Rattle.send_core.specs.Stands.{is_search}
use Rattle.send_core.specs.Table.{holds, link_of, row_now}
use Rattle.send_parts.specs.declared.row.Row.{Row as SendRow}
use Rattle.send_parts.specs.declared.row.Row.TheVariants as sends_at
use Rattle.send_jobs.specs.declared.attempts.Attempt.{Attempt}
use Rattle.send_known.specs.declared.channel.Channel.{Channel}
use Rattle.send_known.specs.declared.channel.Channel.TheVariants.{Local, Remote}
use Rattle.send_parts.specs.Channels.{port_of}
use Rattle.send_jobs.specs.Sending.{lane}
use Rattle.send_jobs.specs.Slots.{attempt_in}
use Rattle.spawn_protocol.specs.Cut.{cut}
use Rattle.spawn_protocol.specs.Cut.Cut.{More}
use Rattle.spawn_protocol.specs.declared.inbox.Intake.{Intake}
use Rattle.spawn_protocol.specs.declared.inbox.Intake.TheVariants as intake
use Rattle.spawn_protocol.specs.declared.request.Request.{Request}
use Rattle.spawner_parts.specs.declared.place.Place.{Place}
use Rattle.spawner_parts.specs.declared.row.Row.{Row}
use Rattle.spawner_parts.specs.declared.row.Row.TheVariants as at
use Rattle.spawner_parts.specs.Asked.{runs_in}
use Rattle.spawner_parts.specs.Counts.{asked, runs, times}
use Rattle.spawner_parts.specs.Known.{At, Kept, Rests, Tells}
use Rattle.spawner_parts.specs.Table.{any_runs, arrive, due_at, ended_by, is_asked, is_open, none_runs, resting, turning}
use Rattle.spawner_parts.proofs.Tallies.{idle_slot, or_false}
use Rattle.world_pipes.specs.Pipework.{Pipe, Pipework, is_ready}
use Rattle.world_events.specs.declared.event.Program.{Program}
use Rattle.world_events.specs.declared.event.Program.TheVariants.{LocalSpawner, RemoteSpawner, Sender}
use Rattle.mail_world.specs.Generations.{CanNot}
use Rattle.mail_world.specs.History.{Actor, IsSender, State, next_of}
use Rattle.mail_world.specs.History.Life.{Alive}
use Rattle.mail_world.specs.Readiness.{found_at, found_by, lies_ready}
use Rattle.scenario.specs.Deeds.{Deed, after, history_of}
use Rattle.world_law.specs.Spawned.{IsSpawner, spawner_name, stands_after}
use Rattle.world_law.specs.Standing.{goes_on}
use Rattle.world_law.proofs.PostPipes.{not_spawner}
use Rattle.world_law.proofs.Ran.{have_run}
use Rattle.settle_law.specs.inside.Free.{RestsFree}
use Rattle.settle_law.specs.inside.InHand.{InHand, coming, count}
use Rattle.settle_law.specs.inside.Living.Servant.{Spawns}
use Rattle.settle_law.specs.inside.Rests.{IsWholeTurn}
use Rattle.settle_law.specs.Ends.{deeds_of}
use Rattle.settle_law.proofs.SenderRests.{SendersRest, newest_rest}
use Rattle.settle_law.proofs.Searchers.{searches_not}
use Rattle.settle_law.proofs.Searching.{turn_keeps}
use Rattle.world_law.proofs.Tenants.{some_actor}
use Rattle.send_jobs.specs.declared.slots.Slots.{Slots}
use Rattle.settle_law.specs.Rests.{BeginsTurn}
use Rattle.settle_law.specs.Suffices.{desk_of}
use Rattle.settle_law.specs.Well.{GoesWell}
use Rattle.settle_law.proofs.Alike.{AreAlike}
use Rattle.settle_law.proofs.Carried.{told_news}
use Rattle.settle_law.proofs.Flying.{flights_are_in_hand}
use Rattle.settle_law.proofs.IdleTurns.{idle}
use Rattle.settle_law.proofs.Living.{servants_live}
use Rattle.settle_law.proofs.PipeEvents.{spawned_run}
use Rattle.settle_law.proofs.QuietSpawners.{others_run_none}
use Rattle.settle_law.proofs.Spawns.{next_on, tells_on}
use Rattle.settle_law.proofs.Splits.{all_plain}
use Rattle.settle_law.proofs.Unfinished.{none_waits}
use Rattle.settle_law.proofs.TurnPasts as turned

-- Pipes

pub length_none : (bytes : List ℕ) → length bytes ≡ 0 → bytes ≡ []
length_none [] e = refl
length_none (b ∷ bytes) e = absurd (cc)

pub nothing_lies : (pipe : Pipe) → is_ready pipe ≡ false → pipe.bytes ≡ []
nothing_lies pipe e = by (length pipe.bytes == 0) refl (or_false (not (length pipe.bytes == 0)) pipe.shut e).0
  where
    by : (b : Bool) → (length pipe.bytes == 0) ≡ b → not b ≡ false → pipe.bytes ≡ []
    by true is none = length_none pipe.bytes (eqb-true (length pipe.bytes) 0 is)
    by false is none = absurd (cc)

-- A spawner of which no program runs

-- what it may take is nothing
record Waits (s : State) (a : List ℕ) (p : Place) : Type 0 where
  row : p.row ≡ at.Idle
  takes : p.inbox.intake ≡ intake.Open
  empty : lies_ready s a port.Input ≡ false

none_in : (running : List Bool) (slot : ℕ) → none_runs running ≡ true → runs_in running slot ≡ true → ⊥
none_in running slot none run = by (any_runs running) refl none
  where
    by : (b : Bool) → any_runs running ≡ b → not b ≡ true → ⊥
    by true is e = absurd (cc)
    by false is e = false≢true (sym (idle_slot running slot is) ∙ run)

module _ (s : State) (a : List ℕ) (p : Place) (ready : Ready) (found : slice_index_or ready.links 0 false ≡ lies_ready s a port.Input) (none : none_runs p.running ≡ true) (program : ChildData) where
  idle_in : (slot : ℕ) (b : Bool) → runs_in p.running slot ≡ b → (if b then at.TakeOutput slot else resting p) ≡ resting p
  idle_in slot true run = absurd (none_in p.running slot none run)
  idle_in slot false run = refl

  rests_so : resting p ≡ ended_by p.inbox.intake
  rests_so = ap (λ (b : Bool). if b then ended_by p.inbox.intake else at.Idle) none

  turns_so : (o : Option ℕ) → turning p o ≡ ended_by p.inbox.intake
  turns_so None = rests_so
  turns_so (Some slot) = idle_in slot (runs_in p.running slot) refl ∙ rests_so

  -- nothing is asked of it, so that it takes requests still
  unasked : p.row ≡ at.Idle → is_asked p ready ≡ false → (i : Intake) → p.inbox.intake ≡ i → CanNot s a (due_at program (ended_by i) p) → Waits s a p
  unasked row asks intake.Open is can =
      record { row = row; takes = is; empty = sym found ∙ sym (ap (λ (i : Intake). is_open i && slice_index_or ready.links 0 false) is) ∙ asks }
  unasked row asks intake.Ended is can = absurd can
  unasked row asks intake.TooLong is can = absurd can

  idle_waits : p.row ≡ at.Idle → (b : Bool) → is_asked p ready ≡ b → CanNot s a (due_at program (if b then at.TakeInput else turning p ready.child) p) → Waits s a p
  idle_waits row true asks can =
      absurd (false≢true (sym can ∙ sym found ∙ (and_parts (is_open p.inbox.intake) (slice_index_or ready.links 0 false) asks).1))
  idle_waits row false asks can = unasked row asks p.inbox.intake refl (subst (λ (r : Row). CanNot s a (due_at program r p)) (turns_so ready.child) can)

  place_waits : (mine : List Own) (owed : List ℕ) (dealt : List Request) (r : Row) → p.row ≡ r → At r p owed dealt → Kept mine r → CanNot s a (due_at program (arrive r p ready) p) → Waits s a p
  place_waits mine owed dealt at.Idle is h kept can = idle_waits is (is_asked p ready) refl can
  place_waits mine owed dealt at.Greet is h kept can = absurd can
  place_waits mine owed dealt at.TakeInput is h kept can = absurd kept
  place_waits mine owed dealt at.OpenMess is h kept can = absurd can
  place_waits mine owed dealt (at.ReadMess fd) is h kept can = absurd can
  place_waits mine owed dealt (at.CloseMess fd whole) is h kept can = absurd can
  place_waits mine owed dealt at.Start is h kept can = absurd can
  place_waits mine owed dealt at.Feed is h kept can = absurd can
  place_waits mine owed dealt (at.TakeOutput slot) is h kept can = absurd (none_in p.running slot none h.1)
  place_waits mine owed dealt (at.TakeStatus slot) is h kept can = absurd (none_in p.running slot none h.1)
  place_waits mine owed dealt at.Report is h kept can = absurd can
  place_waits mine owed dealt (at.Ended code) is h kept can = absurd can

waits_local : (s : State) (a : List ℕ) (mine : List Own) (ready : Ready) → slice_index_or ready.links 0 false ≡ lies_ready s a port.Input → none_runs (local_after mine).work.running ≡ true
    → Tells mine (local_after mine).work → (r : LocalRow) → (local_after mine).row ≡ r → CanNot s a (local_due r ready (local_after mine)) → Waits s a (local_after mine).work
waits_local s a mine ready found none t local_at.Serves is can =
    let l = local_after mine in
    place_waits s a l.work ready found none (local_program l) mine t.counts.owed t.counts.dealt l.work.row refl t.counts.at t.knows.kept can
waits_local s a mine ready found none t local_at.OpenUsers is can = absurd can
waits_local s a mine ready found none t (local_at.ReadUsers fd) is can = absurd can
waits_local s a mine ready found none t (local_at.CloseUsers fd whole) is can = absurd can
waits_local s a mine ready found none t local_at.OutOfMemory is can = absurd can

spawner_waits : (s : State) (c : Channel) (a : List ℕ) (program : Program) (mine : List Own) (now : ℕ) → IsSpawner c program → IsRunBy (next_on c) mine → none_runs (stands_after c mine).running ≡ true
    → CanNot s a (next_of program mine now (found_by s a program)) → Waits s a (stands_after c mine)
spawner_waits s Local a (LocalSpawner since) mine now it run none can =
    waits_local s a mine (found_by s a (LocalSpawner since)) refl none (tells_on Local mine run) (local_after mine).row refl can
spawner_waits s Remote a (RemoteSpawner since) mine now it run none can =
    let p = remote_after mine in
    let t = tells_on Remote mine run in
    place_waits s a p (found_by s a (RemoteSpawner since)) refl none (remote_program p.request) mine t.counts.owed t.counts.dealt p.row refl t.counts.at t.knows.kept can
spawner_waits s Local a program mine now it run none can = absurd it
spawner_waits s Remote a program mine now it run none can = absurd it

-- So it has nothing in hand

rests_at : (p : Place) (owed : List ℕ) (dealt : List Request) (r : Row) → r ≡ at.Idle → At r p owed dealt → Rests p.inbox.intake p.inbox.ahead
rests_at p owed dealt r is h = let idle : At at.Idle p owed dealt = subst (λ (q : Row). At q p owed dealt) is h in idle.1

none_flies : (o : Option Attempt) → count o ≡ 0 → o ≡ None
none_flies None e = refl
none_flies (Some t) e = absurd (cc)

nothing_comes : (o : Option (List ℕ)) (slot : ℕ) → told_of slot (coming o []) ≡ 0
nothing_comes None slot = refl
nothing_comes (Some heard) slot =
    none (told_of slot (reports_in heard)) (told_of slot (news heard [])) (ap (λ (t : List ℕ). told_of slot (reports_in t)) (sym (append-nil heard)) ∙ told_news heard [] slot)
  where
    none : (a b : ℕ) → a ≡ a + b → b ≡ 0
    none a b e = omega (arith, e)

module _ (p : Place) (mine : List Own) (t : Tells mine p) (none : none_runs p.running ≡ true) (row : p.row ≡ at.Idle) (takes : p.inbox.intake ≡ intake.Open) where
  more : cut p.inbox.ahead ≡ More
  more =
      let h : Rests p.inbox.intake p.inbox.ahead = rests_at p t.counts.owed t.counts.dealt p.row row t.counts.at in
      let now : Rests intake.Open p.inbox.ahead = subst (λ (i : Intake). Rests i p.inbox.ahead) takes h in
      now

  runs_none : (slot : ℕ) → runs slot p.running ≡ 0
  runs_none slot = by (runs_in p.running slot) refl
    where
      by : (b : Bool) → runs_in p.running slot ≡ b → runs slot p.running ≡ 0
      by true run = absurd (none_in p.running slot none run)
      by false run = ap (λ (b : Bool). cond b 1 0) run

  none_owed : (slot : ℕ) → times slot (owed_at p.row p) ≡ 0
  none_owed slot = ap (λ (r : Row). times slot (owed_at r p)) row

  none_in_hand : (o : Option (List ℕ)) (slot many : ℕ) → InHand p [] (coming o []) slot many → many ≡ 0
  none_in_hand o slot many h =
      let waits : h.waits ≡ [] = none_waits p.inbox.ahead h.waits more (sym (append-nil p.inbox.ahead) ∙ h.text) (all_plain h.waits h.plain) in
      sum (asked slot h.waits) (times slot (owed_at p.row p)) (runs slot p.running) (told_of slot (coming o [])) many h.are
      (ap (asked slot) waits) (none_owed slot) (runs_none slot) (nothing_comes o slot)
    where
      sum : (a b c d many : ℕ) → a + ((b + c) + d) ≡ many → a ≡ 0 → b ≡ 0 → c ≡ 0 → d ≡ 0 → many ≡ 0
      sum a b c d many e f g h i = omega (arith, e, f, g, h, i)

-- At the search that ended the turn

begins_on : (row : SendRow) → BeginsTurn row → has_ended row ≡ false
begins_on (sends_at.Turn p) begins = refl
begins_on (sends_at.Start row) begins = absurd begins
begins_on (sends_at.TakeLink c) begins = absurd begins
begins_on (sends_at.Mark row m) begins = absurd begins
begins_on (sends_at.UnlinkFile c n p) begins = absurd begins
begins_on (sends_at.ReadFile c n begun reading) begins = absurd begins
begins_on (sends_at.Request c) begins = absurd begins
begins_on (sends_at.FindTodo search) begins = absurd begins
begins_on sends_at.InTodo begins = absurd begins
begins_on (sends_at.Finish row n) begins = absurd begins
begins_on (sends_at.Sweep row) begins = absurd begins
begins_on (sends_at.Ended status) begins = absurd begins

-- the sender found nothing of the spawner
linked : (c : Channel) (s : State) (start : ℕ) → holds (slice_get (found_by s (codes "sender") (Sender start)).links (link_of c)) ≡ lies_ready s (codes "sender") (port_of c)
linked Local s start = refl
linked Remote s start = refl

module _ (d : Disk) (later : List Deed) (first : Deed) (before : List Deed) (rest : SendersRest d later first before) where
  abbrev s : State
  s = after d before

  abbrev now : State
  now = after d (later ++ first ∷ before)

  abbrev x : Actor
  x = rest.turn.actor

  abbrev own : Own
  own = rest.turn.searches.own

  whole : IsWholeTurn x.past own (turned.more d later first before rest.turn)
  whole = turned.whole d later first before rest.turn

  sends : (start : ℕ) × (x.program ≡ Sender start) × (is_search (row_now (desk_of x.past) own.read own.ready) ≡ true)
  sends = turned.sends d later first before rest.turn

  alike : AreAlike s now
  alike = turned.alike d later first before rest.turn

  earlier : GoesWell d (history_of before)
  earlier = turned.well_before d later first before rest.turn rest.well

  ready_is : own.ready ≡ found_by s (codes "sender") (Sender sends.0)
  ready_is = rest.turn.searches.finds.found ∙ ap (λ (o : Option Actor). found_at s (codes "sender") o) rest.turn.is ∙ ap (λ (p : Program). found_by s (codes "sender") p) sends.1

  -- no report lies there
  told_none : (c : Channel) → (s.pipework.pipes (codes "sender") (port_of c)).bytes ≡ []
  told_none c = nothing_lies (s.pipework.pipes (codes "sender") (port_of c))
      (sym (linked c s sends.0) ∙ ap (λ (r : Ready). holds (slice_get r.links (link_of c))) (sym ready_is) ∙ (idle x.past own (turned.more d later first before rest.turn) whole).rests.links c)

  module _ (c : Channel) (y : Actor) (there : s.actors (spawner_name c) ≡ Some y) (alive : y.life ≡ Alive) (serves : IsSpawner c y.program) where
    still : now.actors (spawner_name c) ≡ Some y
    still = sym (alike.others (spawner_name c) (λ same. not_spawner c (sym same))) ∙ there

    none : none_runs (stands_after c y.past).running ≡ true
    none = others_run_none d (history_of (later ++ first ∷ before)) rest.well rest.others c y still alive serves

    run : IsRunBy (next_on c) y.past
    run = spawned_run c y.program serves y.past (have_run d (history_of before) earlier.legal (spawner_name c) y there)

    can : CanNot now (spawner_name c) (next_of y.program y.past now.now (found_by now (spawner_name c) y.program))
    can = subst (λ (r : Ready). CanNot now (spawner_name c) (next_of y.program y.past now.now r)) (ap (λ (o : Option Actor). found_at now (spawner_name c) o) still)
        (rest.others.waits (spawner_name c) y still alive (searches_not (spawner_name c) (λ same. not_spawner c (sym same))))

    waits : Waits now (spawner_name c) (stands_after c y.past)
    waits = spawner_waits now c (spawner_name c) y.program y.past now.now serves run none can

    -- nor does a request
    asks_none : (s.pipework.pipes (spawner_name c) port.Input).bytes ≡ []
    asks_none = nothing_lies (s.pipework.pipes (spawner_name c) port.Input) (ap (λ (w : Pipework). is_ready (w.pipes (spawner_name c) port.Input)) alike.pipework ∙ waits.empty)

    goes : goes_on (stands_after c y.past).row ≡ true
    goes = ap goes_on waits.row

    free : (slot : ℕ) → attempt_in (lane c (desk_of x.past).slots).slots slot ≡ None
    free slot =
        let many = count (attempt_in (lane c (desk_of x.past).slots).slots slot) in
        let p = stands_after c y.past in
        let o = (account c x.past).heard in
        let all : InHand p (s.pipework.pipes (spawner_name c) port.Input).bytes (coming o (s.pipework.pipes (codes "sender") (port_of c)).bytes) slot many =
        flights_are_in_hand d (history_of before) earlier c x y sends.0 rest.turn.is sends.1 (begins_on (desk_of x.past).row whole.begins) there serves goes waits.takes slot in
        let none_left : InHand p [] (coming o []) slot many =
        subst (λ (t : List ℕ). InHand p [] (coming o t) slot many) (told_none c) (subst (λ (t : List ℕ). InHand p t (coming o (s.pipework.pipes (codes "sender") (port_of c)).bytes) slot many) asks_none all) in
        none_flies (attempt_in (lane c (desk_of x.past).slots).slots slot) (none_in_hand p y.past (tells_on c y.past run) none waits.row waits.takes o slot many none_left)

  -- the spawners live, since the sender does
  all_free : (c : Channel) (slot : ℕ) → attempt_in (lane c (desk_of x.past).slots).slots slot ≡ None
  all_free c slot =
      let served = servants_live d (history_of before) earlier (Spawns c) x rest.turn.is (turned.alive d later first before rest.turn rest.well) (subst IsSender (sym sends.1) tt) in
      free c served.actor served.is served.alive served.serves slot

pub free_before : (d : Disk) (later : List Deed) (first : Deed) (before : List Deed) (rest : SendersRest d later first before)
    → (c : Channel) (slot : ℕ) → attempt_in (lane c (desk_of rest.turn.actor.past).slots).slots slot ≡ None
free_before d later first before rest c slot = all_free d later first before rest c slot

-- nor at its end, since searches leave the slots
pub rests_free : RestsFree
rests_free d turns before rest z there c slot =
    let w = newest_rest d turns before rest in
    let y = turned.y d w.later w.first w.before w.rest.turn in
    let is : (after d (deeds_of turns ++ before)).actors (codes "sender") ≡ Some y = ap (λ (l : List Deed). (after d l).actors (codes "sender")) w.are ∙ turned.is_now d w.later w.first w.before w.rest.turn in
    let keeps = turn_keeps w.rest.turn.actor.past w.rest.turn.searches.own (turned.more d w.later w.first w.before w.rest.turn) (turned.whole d w.later w.first w.before w.rest.turn) in
    subst (λ (o : Actor). attempt_in (lane c (desk_of o.past).slots).slots slot ≡ None) (some_actor y z (sym is ∙ there))
    (subst (λ (s : Slots). attempt_in (lane c s).slots slot ≡ None) (sym keeps.slots) (free_before d w.later w.first w.before w.rest c slot))

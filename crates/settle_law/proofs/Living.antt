-- Where nothing fails who serves a sender lives as long as it: its input doesn't end before, and no field of a request is too long.
use Rattle.std.proofs.Common.{◌≡◌, ◌≢◌, ◌⊎◌, inl, inr, ⊎_elim, ℕ, List, [], ◌∷◌, take, Bool, true, false, ◌&&◌, if◌then◌else◌, Option, Some, None, refl, sym, ap, ◌∙◌, subst, bytes_eq, codes}
use Rattle.std.specs.List.{list_all}
use Rattle.std.specs.Prelude.{Contains, flat_map}
use Rattle.std.proofs.lemmas.Bool.{and_parts, false≢true}
use Rattle.std.proofs.lemmas.List.{append-nil}
use Rattle.actor_names.specs.MailNames.{members}
use Rattle.call_fs.specs.Disk.{Disk}
use Rattle.call_fs.specs.Maps.{put_at}
use Rattle.call_fs.specs.Past.{IsRunBy, taken as taken_by}
use Rattle.call_fs.proofs.Maps.{put_at_cases}
use Rattle.call_fs.specs.declared.past.ChildData.{ChildData}
use Rattle.call_fs.specs.declared.past.ChildData.TheVariants as child
use Rattle.call_fs.specs.declared.past.GotData.{GotData}
use Rattle.call_fs.specs.declared.past.GotData.TheVariants as came
use Rattle.call_fs.specs.declared.past.NeedData.{NeedData}
use Rattle.call_fs.specs.declared.past.NeedData.TheVariants as needs
use Rattle.call_fs.specs.declared.past.Own.{Own}
use Rattle.call_fs.specs.declared.program.Port.{Port}
use Rattle.call_fs.specs.declared.program.Port.TheVariants as port
use Rattle.call_fs.specs.declared.program.Ready.{Ready}
use Rattle.local_spawn.specs.Causes.{HasEnded, IsStarved, Starves}
use Rattle.local_spawn.specs.Causes.HasEnded.{AsAny, InItsStart}
use Rattle.local_spawn.specs.Causes.Starves.{OpenRefused}
use Rattle.local_spawn.proofs.Ends.{ends as local_ends}
use Rattle.queue_clean.specs.Causes.{EndsWith as CleanEndsWith, IsEnded as CleanEnded}
use Rattle.queue_clean.specs.Causes.EndsWith.{GiveFailed as AnswerFailed, InputEnded, TakeFailed}
use Rattle.queue_clean.proofs.Reasons.{ends as clean_ends}
use Rattle.queue_law.proofs.Tests.{other_text}
use Rattle.remote_spawn.proofs.Tells.{ends as remote_ends}
use Rattle.send_known.specs.declared.channel.Channel.{Channel}
use Rattle.send_known.specs.declared.channel.Channel.TheVariants.{Local, Remote}
use Rattle.spawn_protocol.specs.Request.{IsTooLong, request_text}
use Rattle.spawn_protocol.specs.Request.Start.{NoByte}
use Rattle.spawn_protocol.proofs.Requests.{never_text}
use Rattle.spawn_protocol.specs.declared.request.Request.{Request}
use Rattle.spawner_parts.specs.Causes.{EndsWith, IsEnded, IsFailed, IsOver, end_by, has_end}
use Rattle.spawner_parts.specs.Causes.EndsWith.{GiveFailed, ProgramFailed, RequestsFailed}
use Rattle.spawner_parts.specs.Causes.IsOver.{FieldTooLong, RequestsEnded}
use Rattle.world_pipes.specs.Pipework.{Mouth, Pipe, Pipework, Tenant, closed, far_end, fresh, given, gives, input_of, is_port, is_writer, mouth, pipes_after, put_pipe, taken, writer}
use Rattle.world_pipes.specs.Pipework.Tenant.{Remote as Far, Runs}
use Rattle.world_events.specs.declared.event.Program.{Program}
use Rattle.world_events.specs.declared.event.Program.TheVariants.{Injector, Cleaner, LocalSpawner, RemoteSpawner, Delivery}
use Rattle.mail_world.specs.History.{Actor, Allowed, ComesOf, Event, IsCleaner, IsProgramOf, IsSender, Legal, MayBear, MayRun, State, acted, after, bears, finished, happens, newborn, next_of, slot_by}
use Rattle.mail_world.specs.History.Event.{Start, Act, Child, Generation, Report, End, Stop, Moment, Halt}
use Rattle.mail_world.specs.History.Life.{Alive, Over}
use Rattle.mail_world.proofs.Members.{are_four, four_clean, four_lspawn, four_rspawn, member_contained}
use Rattle.world_law.specs.Inv.{Inv}
use Rattle.world_law.specs.Spawned.{IsSpawner}
use Rattle.world_law.proofs.Histories.{always}
use Rattle.world_law.proofs.Pipes.{away_same}
use Rattle.world_law.proofs.Ran.{HaveRun, have_run}
use Rattle.world_law.proofs.Starts.{is_cleaner, is_local, is_remote, is_sender}
use Rattle.world_law.proofs.Tenants.{some_actor}
use Rattle.settle_law.specs.inside.Living.{RunsAs, Servant, ServantsLive, servant_name}
use Rattle.settle_law.specs.inside.Living.Servant.{Cleans, Spawns}
use Rattle.settle_law.specs.Well.{came_well, goes_well}
use Rattle.settle_law.proofs.Carried.{Posts}
use Rattle.settle_law.proofs.Flying.{posts_in}
use Rattle.settle_law.proofs.PipeEvents.{asked_of, spawned_run, told_of as told_in}
use Rattle.settle_law.proofs.SmallNumbers.{PastsWell, is_well, pasts_well, went_well}
use Rattle.settle_law.proofs.Spawns.{next_on}

-- Why a spawner would end

abbrev TooLong : List Own → Type 0
TooLong mine = (requests : List Request) × IsTooLong (taken_by mine) requests

failed_not : (mine : List Own) (status : ℕ) → list_all is_well mine ≡ true → IsFailed mine status → ⊥
failed_not [] status well failed = failed
failed_not (own ∷ mine) status well failed = by status own.due own.came failed (went_well own (and_parts (is_well own) (list_all is_well mine) well).0)
  where
    by : (status : ℕ) (due : NeedData) (got : GotData) → EndsWith status due got → came_well got ≡ true → ⊥
    by status due got (GiveFailed bytes) h = false≢true h
    by status due got RequestsFailed h = false≢true h
    by status due got (ProgramFailed slot) h = false≢true h

starved_not : (mine : List Own) → list_all is_well mine ≡ true → IsStarved mine → ⊥
starved_not (own ∷ []) well starved = by own.due own.came starved (went_well own (and_parts (is_well own) true well).0)
  where
    by : (due : NeedData) (got : GotData) → Starves due got → came_well got ≡ true → ⊥
    by due got (OpenRefused bytes) h = false≢true h
starved_not mine well starved = absurd starved

over_so : (mine : List Own) (status : ℕ) → has_end mine ≡ false → IsOver mine status → TooLong mine
over_so mine status none (RequestsEnded ended idle) = absurd (false≢true (sym none ∙ ended))
over_so mine status none (FieldTooLong requests long idle) = (requests, long)

ended_so : (mine : List Own) (status : ℕ) → list_all is_well mine ≡ true → has_end mine ≡ false → IsEnded mine status → TooLong mine
ended_so mine status well none (inl failed) = absurd (failed_not mine status well failed)
ended_so mine status well none (inr over) = over_so mine status none over

has_ended_so : (mine : List Own) (status : ℕ) → list_all is_well mine ≡ true → has_end mine ≡ false → HasEnded mine status → TooLong mine
has_ended_so mine status well none (AsAny why_it) = ended_so mine status well none why_it
has_ended_so mine status well none (InItsStart starved is) = absurd (starved_not mine well starved)

ends_of : (c : Channel) (program : Program) → IsSpawner c program → (mine : List Own) (now : ℕ) (ready : Ready) (status : ℕ) → IsRunBy (next_on c) mine → next_of program mine now ready ≡ needs.Ended status
    → list_all is_well mine ≡ true → has_end mine ≡ false → TooLong mine
ends_of Local (LocalSpawner since) it mine now ready status run due well none = has_ended_so mine status well none (local_ends tt mine now ready status run due)
ends_of Remote (RemoteSpawner since) it mine now ready status run due well none = ended_so mine status well none (remote_ends tt mine now ready status run due)
ends_of Local program it mine now ready status run due well none = absurd it
ends_of Remote program it mine now ready status run due well none = absurd it

-- and a cleaner

clean_not : (mine : List Own) (status : ℕ) → list_all is_well mine ≡ true → has_end mine ≡ false → CleanEnded mine status → ⊥
clean_not [] status well none ended = ended
clean_not (own ∷ mine) status well none ended = by status own.due own.came (has_end mine) ended (went_well own (and_parts (is_well own) (list_all is_well mine) well).0) none
  where
    by : (status : ℕ) (due : NeedData) (got : GotData) (old : Bool) → CleanEndsWith status due got → came_well got ≡ true → end_by old due got ≡ false → ⊥
    by status due got old InputEnded h none = false≢true (sym none)
    by status due got old (AnswerFailed bytes) h none = false≢true h
    by status due got old TakeFailed h none = false≢true h

abbrev Exceeds : Servant → List Own → Type 0
Exceeds Cleans mine = ⊥
Exceeds (Spawns c) mine = TooLong mine

ends_as : (m : Servant) (program : Program) → RunsAs m program → (mine : List Own) (now : ℕ) (ready : Ready) (status : ℕ) → IsRunBy (next_of program) mine → next_of program mine now ready ≡ needs.Ended status
    → list_all is_well mine ≡ true → has_end mine ≡ false → Exceeds m mine
ends_as Cleans (Cleaner since) it mine now ready status run due well none = clean_not mine status well none (clean_ends tt mine now ready status run due)
ends_as Cleans program it mine now ready status run due well none = absurd it
ends_as (Spawns c) program it mine now ready status run due well none = ends_of c program it mine now ready status (spawned_run c program it mine run) due well none

among : (m : Servant) → Contains members (servant_name m)
among Cleans = member_contained (codes "clean") refl
among (Spawns Local) = member_contained (codes "lspawn") refl
among (Spawns Remote) = member_contained (codes "rspawn") refl

-- Its input stays open

pub put_keeps : (pipes : List ℕ → Port → Pipe) (to : Option Mouth) (change : Pipe → Pipe) → ((pipe : Pipe) → (change pipe).shut ≡ pipe.shut) → (b : List ℕ) (p : Port) → (put_pipe pipes to change b p).shut ≡ (pipes b p).shut
put_keeps pipes None change keeps b p = refl
put_keeps pipes (Some to) change keeps b p = by (bytes_eq b to.actor && is_port p to.port)
  where
    by : (t : Bool) → (if t then change (pipes b p) else pipes b p).shut ≡ (pipes b p).shut
    by true = keeps (pipes b p)
    by false = refl

not_input : (pipes : List ℕ → Port → Pipe) (text : List ℕ) (b : List ℕ) (o : Option Tenant) → (o ≡ Some (Runs b) → ⊥) → (put_pipe pipes (input_of o) (λ pipe. closed (given text pipe)) b port.Input).shut ≡ (pipes b port.Input).shut
not_input pipes text b None none = refl
not_input pipes text b (Some (Far told)) none = refl
not_input pipes text b (Some (Runs c)) none =
    ap (λ (t : Bool). (if t && true then closed (given text (pipes b port.Input)) else pipes b port.Input).shut) (other_text b c (λ same. none (ap (λ (n : List ℕ). Some (Runs n)) (sym same))))

gives_keeps : (w : Pipework) (a : List ℕ) (to : Port) (text : List ℕ) (b : List ℕ) → ((d : ℕ) → w.programs a d ≡ Some (Runs b) → ⊥) → (gives w a to text b port.Input).shut ≡ (w.pipes b port.Input).shut
gives_keeps w a (port.Program d) text b none = not_input w.pipes text b (w.programs a d) (none d)
gives_keeps w a to text b none = put_keeps w.pipes (far_end w a to) (given text) (λ pipe. refl) b port.Input

input_keeps : (w : Pipework) (a : List ℕ) (due : NeedData) (got : GotData) (wrote : ℕ) (b : List ℕ) → ((d : ℕ) → w.programs a d ≡ Some (Runs b) → ⊥) → (pipes_after w a due got wrote b port.Input).shut ≡ (w.pipes b port.Input).shut
input_keeps w a (needs.Give to text) came.Gave wrote b none = gives_keeps w a to text b none
input_keeps w a (needs.Give to text) came.Failed wrote b none = gives_keeps w a to (take wrote text) b none
input_keeps w a (needs.Take p) (came.Took bytes) wrote b none = put_keeps w.pipes (Some (mouth a p)) (taken bytes) (λ pipe. refl) b port.Input
input_keeps w a (needs.Start (child.Remote slot domain sender recipient)) (came.Started pid) wrote b none =
    ap (λ (pipe : Pipe). pipe.shut) (away_same w.pipes (Some (mouth a (port.Program slot))) (λ pipe. fresh) b port.Input refl)
input_keeps w a due got wrote b none = refl

-- of each servant the writer is the sender
writes_not : (m : Servant) (w : Pipework) (a : List ℕ) → a ≢ codes "sender" → is_writer a (writer w (servant_name m) port.Input) ≡ false
writes_not Cleans w a apart = other_text a (codes "sender") apart
writes_not (Spawns Local) w a apart = other_text a (codes "sender") apart
writes_not (Spawns Remote) w a apart = other_text a (codes "sender") apart

-- no end comes of an open pipe
unended : (old : Bool) (due : NeedData) (got : GotData) → old ≡ false → (due ≡ needs.Take port.Input → got ≡ came.End → ⊥) → end_by old due got ≡ false
unended old (needs.Take port.Input) came.End none not_end = absurd (not_end refl refl)
unended old due got none not_end = none

no_end : (s : State) (a : List ℕ) (due : NeedData) (got : GotData) (wrote : ℕ) → ComesOf s a due got wrote → (s.pipework.pipes a port.Input).shut ≡ false → due ≡ needs.Take port.Input → got ≡ came.End → ⊥
no_end s a due got wrote comes is_open at_it ended =
    let it = subst (λ (g : GotData). ComesOf s a (needs.Take port.Input) g wrote) ended (subst (λ (n : NeedData). ComesOf s a n got wrote) at_it comes) in
    false≢true (sym is_open ∙ it.1)

-- As long as the sender lives

record Stands (m : Servant) (s : State) : Type 0 where
  servant : Actor
  is : s.actors (servant_name m) ≡ Some servant
  serves : RunsAs m servant.program
  lives : (servant.life ≡ Alive) ⊎ Exceeds m servant.past
  unshut : (s.pipework.pipes (servant_name m) port.Input).shut ≡ false
  takes : has_end servant.past ≡ false

abbrev LivesIn : Servant → State → Type 0
LivesIn m s = (x : Actor) → s.actors (codes "sender") ≡ Some x → x.life ≡ Alive → IsSender x.program → Stands m s

-- An event of an actor

module _ (s : State) (I : Inv s) (m : Servant) (L : LivesIn m s) (a : List ℕ) (own : Own) (wrote : ℕ) (z : Actor) (is : s.actors a ≡ Some z) (alive : z.life ≡ Alive)
    (open_end : (s.pipework.pipes a port.Input).shut ≡ false → own.due ≡ needs.Take port.Input → own.came ≡ came.End → ⊥) where
  abbrev then_is : Actor
  then_is = record { program = z.program; past = own ∷ z.past; life = z.life }

  abbrev t : State
  t = acted s a own wrote (Some z)

  pipe_then : (t.pipework.pipes (servant_name m) port.Input).shut ≡ (s.pipework.pipes (servant_name m) port.Input).shut
  pipe_then = input_keeps s.pipework a own.due own.came wrote (servant_name m) (λ d runs. (I.tenants a d (Runs (servant_name m)) runs).apart (among m))

  acted_stands : Stands m s → Stands m t
  acted_stands S = ⊎_elim
      (λ (e : (servant_name m ≡ a) × (put_at s.actors a (Some then_is) (servant_name m) ≡ Some then_is)).
      let same : S.servant ≡ z = some_actor S.servant z (sym S.is ∙ ap s.actors e.0 ∙ is) in
      let one : (s.pipework.pipes a port.Input).shut ≡ false = ap (λ (n : List ℕ). (s.pipework.pipes n port.Input).shut) (sym e.0) ∙ S.unshut in
      record {
        servant = then_is;
        is = e.1;
        serves = subst (λ (o : Actor). RunsAs m o.program) same S.serves;
        lives = inl alive;
        unshut = pipe_then ∙ S.unshut;
        takes = unended (has_end z.past) own.due own.came (sym (ap (λ (o : Actor). has_end o.past) same) ∙ S.takes) (open_end one);
      })
      (λ (e : (servant_name m ≢ a) × (put_at s.actors a (Some then_is) (servant_name m) ≡ s.actors (servant_name m))).
      record { servant = S.servant; is = e.1 ∙ S.is; serves = S.serves; lives = S.lives; unshut = pipe_then ∙ S.unshut; takes = S.takes })
      (put_at_cases s.actors a (Some then_is) (servant_name m))

  acted_lives : LivesIn m t
  acted_lives x there living sends = acted_stands (⊎_elim
      (λ (e : (codes "sender" ≡ a) × (put_at s.actors a (Some then_is) (codes "sender") ≡ Some then_is)).
      let same : then_is ≡ x = some_actor then_is x (sym e.1 ∙ there) in
      L z (ap s.actors e.0 ∙ is) alive (subst (λ (o : Actor). IsSender o.program) (sym same) sends))
      (λ (e : (codes "sender" ≢ a) × (put_at s.actors a (Some then_is) (codes "sender") ≡ s.actors (codes "sender"))). L x (sym e.1 ∙ there) living sends)
      (put_at_cases s.actors a (Some then_is) (codes "sender")))

-- One starts that is neither

module _ (m : Servant) (s : State) (L : LivesIn m s) (a : List ℕ) (program : Program) (new : s.actors a ≡ None) (other : IsSender program → ⊥) where
  started_lives : (pipes : List ℕ → Port → Pipe) → (pipes (servant_name m) port.Input).shut ≡ (s.pipework.pipes (servant_name m) port.Input).shut
      → (t : State) → t.actors ≡ put_at s.actors a (Some (newborn program)) → t.pipework.pipes ≡ pipes → LivesIn m t
  started_lives pipes same_shut t actors_are pipes_are x there living sends =
      let now : put_at s.actors a (Some (newborn program)) (codes "sender") ≡ Some x = sym (ap (λ (f : List ℕ → Option Actor). f (codes "sender")) actors_are) ∙ there in
      let S : Stands m s = ⊎_elim
      (λ (e : (codes "sender" ≡ a) × (put_at s.actors a (Some (newborn program)) (codes "sender") ≡ Some (newborn program))).
      absurd (other (subst (λ (o : Actor). IsSender o.program) (sym (some_actor (newborn program) x (sym e.1 ∙ now))) sends)))
      (λ (e : (codes "sender" ≢ a) × (put_at s.actors a (Some (newborn program)) (codes "sender") ≡ s.actors (codes "sender"))). L x (sym e.1 ∙ now) living sends)
      (put_at_cases s.actors a (Some (newborn program)) (codes "sender")) in
      let left : put_at s.actors a (Some (newborn program)) (servant_name m) ≡ Some S.servant = ⊎_elim
      (λ (e : (servant_name m ≡ a) × (put_at s.actors a (Some (newborn program)) (servant_name m) ≡ Some (newborn program))). absurd (both S.servant (sym new ∙ ap s.actors (sym e.0) ∙ S.is)))
      (λ (e : (servant_name m ≢ a) × (put_at s.actors a (Some (newborn program)) (servant_name m) ≡ s.actors (servant_name m))). e.1 ∙ S.is)
      (put_at_cases s.actors a (Some (newborn program)) (servant_name m)) in
      record {
        servant = S.servant;
        is = ap (λ (f : List ℕ → Option Actor). f (servant_name m)) actors_are ∙ left;
        serves = S.serves;
        lives = S.lives;
        unshut = ap (λ (f : List ℕ → Port → Pipe). (f (servant_name m) port.Input).shut) pipes_are ∙ same_shut ∙ S.unshut;
        takes = S.takes;
      }
    where
      both : (y : Actor) → ◌≡◌ {A = Option Actor} None (Some y) → ⊥
      both y e = cc

pub no_sender_alone : (program : Program) → MayRun program → IsSender program → ⊥
no_sender_alone (Injector args) runs sends = sends
no_sender_alone program runs sends = absurd runs

pub no_sender_child : (asked : ChildData) (pid : ℕ) (program : Program) → IsProgramOf asked pid program → IsSender program → ⊥
no_sender_child (child.Bounce room) pid (Injector args) it sends = sends
no_sender_child (child.Forward uid room) pid (Injector args) it sends = sends
no_sender_child (child.Local slot words uid) pid (Delivery start args) it sends = sends
no_sender_child asked pid program it sends = absurd it

module _ (s : State) (I : Inv s) (m : Servant) (L : LivesIn m s) (parent : List ℕ) (own : Own) (a : List ℕ) (program : Program) (may : MayBear s parent own a program) where
  abbrev mid : State
  mid = acted s parent own 0 (Some may.actor)

  mid_lives : LivesIn m mid
  mid_lives = acted_lives s I m L parent own 0 may.actor may.reads.is may.reads.alive (λ is_open due got. let both : needs.Start may.asked ≡ needs.Take port.Input = sym may.starts ∙ due in absurd (cc))

  mid_new : mid.actors a ≡ None
  mid_new =
      let y : Actor = record { program = may.actor.program; past = own ∷ may.actor.past; life = may.actor.life } in
      ⊎_elim
      (λ (e : (a ≡ parent) × (put_at s.actors parent (Some y) a ≡ Some y)). absurd (both (sym may.new ∙ ap s.actors e.0 ∙ may.reads.is)))
      (λ (e : (a ≢ parent) × (put_at s.actors parent (Some y) a ≡ s.actors a)). e.1 ∙ may.new)
      (put_at_cases s.actors parent (Some y) a)
    where
      both : ◌≡◌ {A = Option Actor} None (Some may.actor) → ⊥
      both e = cc

  child_lives : LivesIn m (bears mid parent own a program)
  child_lives =
      let born : State = bears mid parent own a program in
      started_lives m mid mid_lives a program mid_new (no_sender_child may.asked may.pid program may.is) born.pipework.pipes
      (ap (λ (pipe : Pipe). pipe.shut) (away_same mid.pipework.pipes (Some (mouth parent (port.Program (slot_by own.due)))) (λ pipe. fresh) (servant_name m) port.Input refl)) born refl refl

-- A generation

begun_lives : (m : Servant) (s : State) (sender clean lspawn rspawn : Program) → Allowed s (Generation (sender ∷ clean ∷ lspawn ∷ rspawn ∷ [])) → LivesIn m (happens s (Generation (sender ∷ clean ∷ lspawn ∷ rspawn ∷ [])))
begun_lives Cleans s sender clean lspawn rspawn may x there living sends = record {
  servant = newborn clean;
  is = four_clean s.actors sender clean lspawn rspawn;
  serves = let it = is_cleaner clean may.kinds.1.0 in subst IsCleaner (sym it.1) tt;
  lives = inl refl;
  unshut = refl;
  takes = refl;
}
begun_lives (Spawns Local) s sender clean lspawn rspawn may x there living sends = record {
  servant = newborn lspawn;
  is = four_lspawn s.actors sender clean lspawn rspawn;
  serves = let it = is_local lspawn may.kinds.1.1.0 in subst (IsSpawner Local) (sym it.1) tt;
  lives = inl refl;
  unshut = refl;
  takes = refl;
}
begun_lives (Spawns Remote) s sender clean lspawn rspawn may x there living sends = record {
  servant = newborn rspawn;
  is = four_rspawn s.actors sender clean lspawn rspawn;
  serves = let it = is_remote rspawn may.kinds.1.1.1.0 in subst (IsSpawner Remote) (sym it.1) tt;
  lives = inl refl;
  unshut = refl;
  takes = refl;
}

-- A report

report_lives : (m : Servant) (s : State) → LivesIn m s → (slot : ℕ) (output : List ℕ) → LivesIn m (happens s (Report slot output))
report_lives m s L slot output x there living sends =
    let S = L x there living sends in
    record {
      servant = S.servant;
      is = S.is;
      serves = S.serves;
      lives = S.lives;
      unshut = ap (λ (pipe : Pipe). pipe.shut) (away_same s.pipework.pipes (Some (mouth (codes "rspawn") (port.Program slot))) (λ pipe. closed (given output pipe)) (servant_name m) port.Input refl) ∙ S.unshut;
      takes = S.takes;
    }

-- An end

module _ (m : Servant) (s : State) (L : LivesIn m s) (R : HaveRun s.actors) (W : PastsWell s.actors) (a : List ℕ) (z : Actor) (is : s.actors a ≡ Some z) (status : ℕ) (read : ℕ) (ready : Ready)
    (due : next_of z.program z.past read ready ≡ needs.Ended status) where
  abbrev over_is : Actor
  over_is = record { program = z.program; past = z.past; life = Over status }

  ended_stands : a ≢ codes "sender" → Stands m s → Stands m (finished s a (Over status) (Some z))
  ended_stands apart S =
      let shut_so : (if is_writer a (writer s.pipework (servant_name m) port.Input) then closed (s.pipework.pipes (servant_name m) port.Input) else s.pipework.pipes (servant_name m) port.Input).shut ≡ false =
      ap (λ (b : Bool). (if b then closed (s.pipework.pipes (servant_name m) port.Input) else s.pipework.pipes (servant_name m) port.Input).shut) (writes_not m s.pipework a apart) ∙ S.unshut in
      ⊎_elim
      (λ (e : (servant_name m ≡ a) × (put_at s.actors a (Some over_is) (servant_name m) ≡ Some over_is)).
      let same : S.servant ≡ z = some_actor S.servant z (sym S.is ∙ ap s.actors e.0 ∙ is) in
      let serves : RunsAs m z.program = subst (λ (o : Actor). RunsAs m o.program) same S.serves in
      let none : has_end z.past ≡ false = sym (ap (λ (o : Actor). has_end o.past) same) ∙ S.takes in
      record {
        servant = over_is;
        is = e.1;
        serves = serves;
        lives = inr (ends_as m z.program serves z.past read ready status (R a z is) due (W a z is) none);
        unshut = shut_so;
        takes = none;
      })
      (λ (e : (servant_name m ≢ a) × (put_at s.actors a (Some over_is) (servant_name m) ≡ s.actors (servant_name m))).
      record { servant = S.servant; is = e.1 ∙ S.is; serves = S.serves; lives = S.lives; unshut = shut_so; takes = S.takes })
      (put_at_cases s.actors a (Some over_is) (servant_name m))

  ended_lives : LivesIn m (finished s a (Over status) (Some z))
  ended_lives x there living sends = ⊎_elim
      (λ (e : (codes "sender" ≡ a) × (put_at s.actors a (Some over_is) (codes "sender") ≡ Some over_is)).
      absurd (dead (ap (λ (o : Actor). o.life) (some_actor over_is x (sym e.1 ∙ there)) ∙ living)))
      (λ (e : (codes "sender" ≢ a) × (put_at s.actors a (Some over_is) (codes "sender") ≡ s.actors (codes "sender"))).
      ended_stands (λ same. e.0 (sym same)) (L x (sym e.1 ∙ there) living sends))
      (put_at_cases s.actors a (Some over_is) (codes "sender"))
    where
      dead : Over status ≡ Alive → ⊥
      dead e = cc

-- Each event

event_lives : (e : Event) (s : State) → Inv s → HaveRun s.actors → PastsWell s.actors → (m : Servant) → LivesIn m s → Allowed s e → goes_well e ≡ true → LivesIn m (happens s e)
event_lives (Start a program) s I R W m L may well =
    started_lives m s L a program may.new (no_sender_alone program may.runs) s.pipework.pipes refl (happens s (Start a program)) refl refl
event_lives (Act a own wrote) s I R W m L may well =
    subst (λ (o : Option Actor). LivesIn m (acted s a own wrote o)) (sym may.reads.is)
    (acted_lives s I m L a own wrote may.actor may.reads.is may.reads.alive (λ is_open. no_end s a own.due own.came wrote may.came is_open))
event_lives (Child parent own a program) s I R W m L may well =
    subst (λ (o : Option Actor). LivesIn m (bears (acted s parent own 0 o) parent own a program)) (sym may.reads.is) (child_lives s I m L parent own a program may)
event_lives (Generation (sender ∷ clean ∷ lspawn ∷ rspawn ∷ [])) s I R W m L may well = begun_lives m s sender clean lspawn rspawn may
event_lives (Generation crew) s I R W m L may well = absurd (are_four crew may.kinds)
event_lives (Report slot output) s I R W m L may well = report_lives m s L slot output
event_lives (End a read ready status) s I R W m L may well =
    subst (λ (o : Option Actor). LivesIn m (finished s a (Over status) o)) (sym may.reads.is) (ended_lives m s L R W a may.actor may.reads.is status read ready may.due)
event_lives (Stop a) s I R W m L may well = absurd (cc)
event_lives (Moment present) s I R W m L may well = λ x there living sends.
    let S = L x there living sends in
    record { servant = S.servant; is = S.is; serves = S.serves; lives = S.lives; unshut = S.unshut; takes = S.takes }
event_lives (Halt how contents) s I R W m L may well = absurd (cc)

lives_always : (d : Disk) (h : List Event) → Legal d h → list_all goes_well h ≡ true → (m : Servant) → LivesIn m (after d h)
lives_always d [] legal well m = λ x there living sends. absurd (cc)
lives_always d (e ∷ h) legal well m =
    let parts = and_parts (goes_well e) (list_all goes_well h) well in
    event_lives e (after d h) (always d h legal.0) (have_run d h legal.0) (pasts_well d h legal.0 parts.1) m (lives_always d h legal.0 parts.1 m) legal.1 parts.0

-- No field was too long

not_long : (c : Channel) (past mine : List Own) (told asks : List ℕ) → Posts c past mine told asks → TooLong mine → ⊥
not_long c past mine told asks P long =
    never_text (taken_by mine) asks long.0 P.requests NoByte long.1
    (record { text = sym P.are ∙ sym (append-nil (flat_map request_text P.requests)); whole = P.whole; begun = tt })

pub servants_live : ServantsLive
servants_live d h well m x is alive sends =
    let S = lives_always d h well.legal well.well m x is alive sends in
    record {
      actor = S.servant;
      is = S.is;
      serves = S.serves;
      alive = ⊎_elim
          (λ (lives : S.servant.life ≡ Alive). lives)
          (λ (over : Exceeds m S.servant.past). absurd (by m S.servant S.is S.serves over))
          S.lives;
    }
  where
    by : (k : Servant) (y : Actor) → (after d h).actors (servant_name k) ≡ Some y → RunsAs k y.program → Exceeds k y.past → ⊥
    by Cleans y there serves over = over
    by (Spawns c) y there serves over =
        let it = is_sender x.program sends in
        not_long c x.past y.past (told_in c (after d h)) (asked_of c (after d h)) (posts_in d h well c x y it.0 is it.1 there serves) over

-- What is held and given of messages through the start of a child. A delivery that starts has received nothing.
use Rattle.std.specs.Prelude.{Contains}
use Rattle.std.proofs.Common.{◌≡◌, ◌≢◌, ⊎_elim, ℕ, ◌==◌, List, [], ◌∷◌, Bool, true, false, ◌&&◌, Option, Some, None, refl, sym, ap, ◌∙◌, subst, codes}
use Rattle.std.proofs.lemmas.List.{get_or-set_other}
use Rattle.actor_names.specs.MailNames.{members}
use Rattle.call_fs.specs.Disk.{Among}
use Rattle.call_fs.specs.Maps.{put}
use Rattle.call_fs.specs.Past.{IsRunBy}
use Rattle.call_fs.specs.Program.{MayCome}
use Rattle.call_fs.proofs.Maps.{put_at_same, put_cases, put_same}
use Rattle.call_fs.specs.declared.past.ChildData.{ChildData}
use Rattle.call_fs.specs.declared.past.ChildData.TheVariants as child
use Rattle.call_fs.specs.declared.past.DeliveryWordsData.{DeliveryWordsData}
use Rattle.call_fs.specs.declared.past.GotData.{GotData}
use Rattle.call_fs.specs.declared.past.GotData.TheVariants as got
use Rattle.call_fs.specs.declared.past.NeedData.{NeedData}
use Rattle.call_fs.specs.declared.past.NeedData.TheVariants as needs
use Rattle.call_fs.specs.declared.past.Own.{Own}
use Rattle.call_fs.specs.declared.program.Port.TheVariants as port
use Rattle.call_fs.specs.declared.program.Ready.{Ready}
use Rattle.local_spawn.specs.declared.place.Place.{Place}
use Rattle.local_spawn.specs.declared.row.Row.{Row}
use Rattle.local_spawn.specs.declared.row.Row.TheVariants as at
use Rattle.local_spawn.specs.Deliveries.{crashed}
use Rattle.mail_bytes.specs.Netstring.{netstring}
use Rattle.local_spawn.specs.Table.{Next, act, due_at, due_by, due_from, moved, place_after, program_of, served}
use Rattle.local_spawn.proofs.Tells.{At as StandsAt, tells}
use Rattle.local_parts.specs.Arguments.{local_args}
use Rattle.program_law.specs.Post.Posts.{At, Done, IsAtWork, Task, asked_by, goes_at, task_of, told_by}
use Rattle.program_law.specs.Post.Senders.{is_on}
use Rattle.queue_inject.proofs.Acts.{IsAlone, next_alone}
use Rattle.send_core.specs.declared.desk.Desk.{Desk}
use Rattle.send_jobs.specs.declared.attempts.Attempt.{Attempt}
use Rattle.send_known.specs.declared.channel.Channel.TheVariants.{Local}
use Rattle.send_jobs.specs.Sending.{lane}
use Rattle.send_jobs.specs.Slots.{attempt_in}
use Rattle.spawn_protocol.specs.declared.request.Request.{Request}
use Rattle.spawner_parts.specs.declared.place.Place.{Place as Work}
use Rattle.spawner_parts.specs.declared.row.Row.{Row as WorkRow}
use Rattle.spawner_parts.specs.declared.row.Row.TheVariants as work_at
use Rattle.spawner_parts.specs.Asked.{runs_in}
use Rattle.spawner_parts.specs.Known.{At as KnownAt}
use Rattle.spawner_parts.specs.Table.{arrive, launched, row_now}
use Rattle.spawner_parts.proofs.Rows.{arrive_keeps}
use Rattle.world_pipes.specs.Pipework.{Pipe, Tenant, fresh, mouth, pipes_after}
use Rattle.world_pipes.specs.Pipework.Tenant.{Runs}
use Rattle.world_events.specs.declared.event.Program.{Program}
use Rattle.world_events.specs.declared.event.Program.TheVariants.{Cleaner, Delivery, Injector, LocalSpawner, RemoteSpawner, Sender}
use Rattle.mail_world.specs.History.{Actor, IsLocalSpawner, IsProgramOf, IsSender, Life, MayBear, State, acted, bears, books_after, bouncer_of, disk_after, holder_after, happens, newborn, next_of, slot_by}
use Rattle.mail_world.specs.History.Event.{Child}
use Rattle.mail_world.specs.History.Life.{Alive}
use Rattle.mail_world.proofs.Members.{member_contained}
use Rattle.world_law.specs.Crew.{IsNamed}
use Rattle.world_law.specs.Entered.{IsEntered}
use Rattle.world_law.specs.Inv.{Inv}
use Rattle.world_law.specs.inside.Posts.{IsDeliveryFor, PostsStand, View, desk_in, place_in, sends_in, serves_in, view_of}
use Rattle.world_law.proofs.EnteredKept.{KeepsHeld, ReceivedSame, given_for_kept}
use Rattle.world_law.proofs.EnteredLeft.{messages_left}
use Rattle.world_law.proofs.EnteredOthers.{entered_books, neither_moves}
use Rattle.world_law.proofs.EnteredSender.{sender_moves_messages}
use Rattle.world_law.proofs.EnteredStands.{Begins, DoneHold, FeedsLast, HoldsMessage, HoldsText, IsGivenFor, MessagesHold, MessagesStand, NothingComes, has_message, received, sends_on, serves_on}
use Rattle.world_law.proofs.MessageSteps.{IsNoFeed, launched_text, none_begin}
use Rattle.world_law.proofs.Newcomers.{acts}
use Rattle.world_law.proofs.Pipes.{away_same}
use Rattle.world_law.proofs.PostEvents.{IsNeither}
use Rattle.world_law.proofs.PostKept.{bears_leaves, child_neither, still_new}
use Rattle.world_law.proofs.PostPipes.{names_apart}
use Rattle.world_law.proofs.PostServes.{IsLocalDue, beside_is, delivery_is, gone, keeps, local_asked, local_due, runs_by, seen_borne, spawner, spawner_starts}
use Rattle.world_law.proofs.PostViews.{for_kept}
use Rattle.world_law.proofs.Ran.{HasRun, HaveRun, born_comes}
use Rattle.world_law.proofs.Received.{InputYields, books_same, received_acts, received_bears}
use Rattle.world_law.proofs.Tenants.{some_actor}

-- The row at which a start is due

starts_at : (asked : ChildData) (row : WorkRow) (p : Place) → due_from row p ≡ needs.Start asked → row ≡ work_at.Start
starts_at asked work_at.Start p e = refl
starts_at asked row p e = absurd (cc)

starts_serving : (asked : ChildData) (row : Row) (ready : Ready) (p : Place) → due_at row ready p ≡ needs.Start asked → (row ≡ at.Serves) × (row_now p.work ready ≡ work_at.Start)
starts_serving asked at.Serves ready p e = (refl, starts_at asked (row_now p.work ready) p e)
starts_serving asked row ready p e = absurd (cc)

-- it doesn't come of a look
starts_now : (row : WorkRow) (w : Work) (ready : Ready) → arrive row w ready ≡ work_at.Start → row ≡ work_at.Start
starts_now work_at.Idle w ready e = absurd (arrive_keeps (λ (r : WorkRow). r ≡ work_at.Start → ⊥) (λ none. cc) (λ none. cc) (λ slot none. cc) (λ status none. cc) w work_at.Idle ready (λ none. cc) e)
starts_now row w ready e = e

-- The local spawner starts a delivery

module _ (B C : ℕ → List ℕ → Type 0) (carry : (slot : ℕ) (name : List ℕ) → B slot name → C slot name)
    (s : State) (I : Inv s) (M : MessagesStand B s) (own : Own) (began : ℕ) (past : List Own) (is : s.actors (codes "lspawn") ≡ Some (spawner began past))
    (due : due_by (place_after past) own.ready ≡ own.due) (slot : ℕ) (words : DeliveryWordsData) (uid pid : ℕ) (starts : own.due ≡ needs.Start (child.Local slot words uid)) (came : own.came ≡ got.Started pid)
    (a : List ℕ) (new : s.actors a ≡ None) (start : ℕ) (ran : IsRunBy (Next tt) past) (comes : MayCome own.due own.came)
    (born_now : C (slot_by own.due) a) where
  abbrev name : List ℕ
  name = codes "lspawn"

  abbrev P : PostsStand s
  P = M.posts

  abbrev p : Place
  p = place_after past

  abbrev asked : ChildData
  asked = child.Local slot words uid

  abbrev delivery : Actor
  delivery = newborn (Delivery start (local_args words uid pid))

  abbrev mid : State
  mid = acted s name own 0 (Some (spawner began past))

  abbrev t : State
  t = bears mid name own a (Delivery start (local_args words uid pid))

  abbrev posts : PostsStand t
  posts = spawner_starts s I P own 0 began past is due slot words uid pid starts came a new start

  abbrev tasks : ℕ → Option Task
  tasks = put P.tasks slot (Some (task_of a words))

  -- Where it stands

  rows : (p.row ≡ at.Serves) × (row_now p.work own.ready ≡ work_at.Start)
  rows = starts_serving asked p.row own.ready p (due ∙ starts)

  row_is : p.work.row ≡ work_at.Start
  row_is = starts_now p.work.row p.work own.ready rows.1

  slot_is : p.work.request.slot ≡ slot
  slot_is =
      let same : needs.Start (program_of p) ≡ needs.Start asked =
      sym (ap (λ (r : WorkRow). due_from r p) rows.1) ∙ sym (ap (λ (r : Row). due_at r own.ready p) rows.0) ∙ due ∙ starts in
      cc

  abbrev fed : Work
  fed = launched crashed (got.Started pid) p.work

  moved_is : (moved p own).work ≡ fed
  moved_is =
      ap (λ (r : Row). (act r own.ready own.came p).work) rows.0 ∙ ap (λ (r : WorkRow). (served r own.came p).work) rows.1
      ∙ ap (λ (g : GotData). (served work_at.Start g p).work) came

  serves_then : (moved p own).row ≡ at.Serves
  serves_then = ap (λ (r : Row). (act r own.ready own.came p).row) rows.0 ∙ rows.0

  -- As both are seen

  abbrev afterwards : View
  afterwards = record {
    desk = desk_in (s.actors (codes "sender"));
    sends = sends_in (s.actors (codes "sender"));
    place = moved p own;
    serves = true;
    told = told_by own.due own.came 0 (s.pipework.pipes (codes "sender") port.Lspawn).bytes;
    asked = asked_by own.due own.came (s.pipework.pipes (codes "lspawn") port.Input).bytes;
  }

  seen : view_of t.actors t.pipework ≡ afterwards
  seen = seen_borne s I P own 0 began past is due slot words uid pid starts came a new start

  desk_same : desk_in (t.actors (codes "sender")) ≡ desk_in (s.actors (codes "sender"))
  desk_same = ap (λ (v : View). v.desk) seen

  work_is : (place_in (t.actors name)).work ≡ fed
  work_is = ap (λ (v : View). v.place.work) seen ∙ moved_is

  on_before : sends_on t ≡ true → sends_on s ≡ true
  on_before on = ap (λ (v : View). v.sends && is_on v.desk.row) (sym seen) ∙ on

  goes_before : serves_on s ≡ true
  goes_before = ap (λ (o : Option Actor). goes_at (serves_in o) (place_in o).work.row) is ∙ ap (goes_at true) row_is

  -- What stays

  entered : (n : ℕ) (m : List ℕ) → IsEntered s n m → IsEntered t n m
  entered = entered_books s t (books_same (bouncer_of s name) name s.books (LocalSpawner began) tt past own.read own.ready own.due own.came)

  held : KeepsHeld s t
  held fd how h = record {
    opened = ap (λ (z : NeedData). (disk_after s.disk own.read z own.came 0).opens fd) starts ∙ h.opened;
    held = ap (λ (z : NeedData). holder_after s.holder name z own.came fd) starts ∙ h.held;
  }

  unborn : mid.actors a ≡ None
  unborn = gone s I P own 0 began past is due slot words uid pid starts came a new start

  same_received : ReceivedSame s t
  same_received k it y there =
      let w = for_kept s mid (keeps s I P own 0 began past is due) k it in
      received_bears mid name own a (Delivery start (local_args words uid pid)) unborn k w y there
      ∙ received_acts s I name own 0 (spawner began past) is (λ k for. subst (IsNoFeed s.pipework name k.name) (sym starts) tt) (λ runs. absurd runs) k it w.delivery w.is

  -- What the new one has received

  born : t.actors a ≡ Some delivery
  born = put_at_same mid.actors a (Some delivery)

  none_lies : (Contains members a → ⊥) → (t.pipework.pipes a port.Input).bytes ≡ []
  none_lies apart =
      ap (λ (q : Pipe). q.bytes) (away_same mid.pipework.pipes (Some (mouth name (port.Program (slot_by own.due)))) (λ pipe. fresh) a port.Input refl)
      ∙ (λ i. (pipes_after s.pipework name (starts i) (came i) 0 a port.Input).bytes)
      ∙ M.new a new apart

  none_received : Inv t → (y : Actor) → t.actors a ≡ Some y → received t a y ≡ []
  none_received J y there = ap (λ (z : Actor). received t a z) (some_actor y delivery (sym there ∙ born)) ∙ none_lies (J.crew a delivery born)

  abbrev flies : ℕ → Option Attempt
  flies d = attempt_in (lane Local (desk_in (s.actors (codes "sender"))).slots).slots d

  -- what was given in another slot
  given_then : (k : Task) (d : ℕ) (it : IsDeliveryFor s k) → IsGivenFor s k.name (flies d) (P.last d) → IsGivenFor t k.name (attempt_in (lane Local (desk_in (t.actors (codes "sender"))).slots).slots d) (P.last d)
  given_then k d it h =
      subst (λ (z : Desk). IsGivenFor t k.name (attempt_in (lane Local z.slots).slots d) (P.last d)) (sym desk_same)
      (given_for_kept s t entered held same_received k it (flies d) (P.last d) h)

  -- the request at work, whose delivery it is
  last_is : P.last p.work.request.slot ≡ Some p.work.request
  last_is =
      let before : At Local P.done P.last p.work.row p.work = subst (λ (o : Option Actor). At Local P.done P.last (place_in o).work.row (place_in o).work) is (P.posted.fares.stands goes_before) in
      let works : IsAtWork P.last p.work.request = subst (λ (r : WorkRow). At Local P.done P.last r p.work) row_is before in
      works.last_is

  runs_now : runs_in fed.running fed.request.slot ≡ true
  runs_now =
      let it : StandsAt (own ∷ past) at.Serves (moved p own) = subst (λ (r : Row). StandsAt (own ∷ past) r (moved p own)) serves_then (tells tt (own ∷ past) (ran, (due, comes))) in
      let counts = it.tells.counts in
      let at_feed : KnownAt work_at.Feed fed counts.owed counts.dealt = subst (λ (w : Work). KnownAt w.row w counts.owed counts.dealt) moved_is counts.at in
      at_feed.1

  module _ (J : Inv t) (h : MessagesHold B s P) where
    message : HoldsMessage s P.tasks p.work
    message = subst (λ (o : Option Actor). HoldsMessage s P.tasks (place_in o).work) is
        (h.work (ap (λ (o : Option Actor). has_message (place_in o).work.row) is ∙ ap has_message row_is))

    text_is : p.work.message ≡ netstring message.message
    text_is = subst (λ (r : WorkRow). HoldsText s P.tasks message.n message.message r p.work) row_is message.holds

    unfed : (k : Task) → tasks p.work.request.slot ≡ Some k → (y : Actor) → t.actors k.name ≡ Some y → received t k.name y ≡ []
    unfed k runs y there =
        let put_is : tasks p.work.request.slot ≡ Some (task_of a words) = ap tasks slot_is ∙ put_same P.tasks slot (Some (task_of a words)) in
        let both : ◌≡◌ {A = Option Task} (Some (task_of a words)) (Some k) = sym put_is ∙ runs in
        let same : task_of a words ≡ k = cc in
        subst (λ (z : Task). (y : Actor) → t.actors z.name ≡ Some y → received t z.name y ≡ []) same (none_received J) y there

    work_then : HoldsMessage t tasks fed
    work_then = record {
      n = message.n;
      mess = message.mess;
      message = message.message;
      is = entered message.n message.message message.is;
      holds = launched_text t tasks message.n message.message pid crashed p.work text_is unfed;
    }

    given_new : (o : Option Attempt) (r : Option Request) → r ≡ Some p.work.request → IsGivenFor t a o r
    given_new None r e = tt
    given_new (Some f) None e = tt
    given_new (Some f) (Some r) e =
        let same : r ≡ p.work.request = cc in
        record {
          n = message.n;
          mess = ap (λ (z : Request). z.mess) same ∙ message.mess;
          message = message.message;
          is = entered message.n message.message message.is;
          begins = λ y there. subst (λ (z : List ℕ). Begins z (netstring message.message)) (sym (none_received J y there)) (none_begin (netstring message.message));
        }

    runs_before : (d : ℕ) → d ≢ slot → runs_in (place_in (t.actors name)).work.running d ≡ true → runs_in (place_in (s.actors name)).work.running d ≡ true
    runs_before d apart runs =
        ap (λ (o : Option Actor). runs_in (place_in o).work.running d) is
        ∙ sym (get_or-set_other p.work.running p.work.request.slot d true false (λ same. apart (same ∙ slot_is)))
        ∙ ap (λ (w : Work). runs_in w.running d) (sym work_is)
        ∙ runs

    runs_then : (d : ℕ) (k : Task) → tasks d ≡ Some k → runs_in (place_in (t.actors name)).work.running d ≡ true
        → IsGivenFor t k.name (attempt_in (lane Local (desk_in (t.actors (codes "sender"))).slots).slots d) (P.last d)
    runs_then d k there runs = ⊎_elim
        (λ (c : (d ≡ slot) × (tasks d ≡ Some (task_of a words))).
        let both : ◌≡◌ {A = Option Task} (Some (task_of a words)) (Some k) = sym c.1 ∙ there in
        let same : task_of a words ≡ k = cc in
        subst (λ (z : Task). IsGivenFor t z.name (attempt_in (lane Local (desk_in (t.actors (codes "sender"))).slots).slots d) (P.last d)) same
        (given_new (attempt_in (lane Local (desk_in (t.actors (codes "sender"))).slots).slots d) (P.last d) (ap P.last (c.0 ∙ sym slot_is) ∙ last_is)))
        (λ (c : (d ≢ slot) × (tasks d ≡ P.tasks d)).
        let was : P.tasks d ≡ Some k = sym c.1 ∙ there in
        given_then k d (P.run d k was).is_for (h.runs d k was (runs_before d c.0 runs)))
        (put_cases P.tasks slot (Some (task_of a words)) d)

    started_then : (d : ℕ) (k : Task) → tasks d ≡ Some k → runs_in (place_in (t.actors name)).work.running d ≡ true → C d k.name
    started_then d k there runs = ⊎_elim
        (λ (c : (d ≡ slot) × (tasks d ≡ Some (task_of a words))).
        let both : ◌≡◌ {A = Option Task} (Some (task_of a words)) (Some k) = sym c.1 ∙ there in
        let same : task_of a words ≡ k = cc in
        subst (λ (z : Task). C d z.name) same (subst (λ (n : ℕ). C n a) (ap slot_by starts ∙ sym c.0) born_now))
        (λ (c : (d ≢ slot) × (tasks d ≡ P.tasks d)). carry d k.name (h.started d k (sym c.1 ∙ there) (runs_before d c.0 runs)))
        (put_cases P.tasks slot (Some (task_of a words)) d)

    hold_then : MessagesHold C t posts
    unfolding spawner_starts
    hold_then = record {
      work = λ has. subst (λ (w : Work). HoldsMessage t tasks w) (sym work_is) work_then;
      feeds = subst (λ (w : Work). FeedsLast P.last w.row w) (sym work_is) (runs_now, last_is);
      runs = runs_then;
      started = started_then;
    }

  -- none of those that ended runs, and the new one hasn't ended
  not_run : DoneHold B s P → (x : Done) → Among x P.done → (d : ℕ) → t.pipework.programs name d ≡ Some (Runs x.task.name) → (b : Bool) → (d == slot) ≡ b → ⊥
  not_run h x among d runs true e =
      let both : ◌≡◌ {A = Option Tenant} (Some (Runs a)) (Some (Runs x.task.name)) =
      sym (runs_by s I P own 0 began past is due slot words uid pid starts came a new start d true e) ∙ runs in
      let same : a ≡ x.task.name = cc in
      let none : ◌≡◌ {A = Option Actor} None (Some (P.was x among).is_for.delivery) = sym new ∙ ap s.actors same ∙ (P.was x among).is_for.is in
      absurd (cc)
  not_run h x among d runs false e =
      h.gone x among d
      (sym (runs_by s I P own 0 began past is due slot words uid pid starts came a new start d false e ∙ beside_is s I P own 0 began past is due slot words uid pid starts came a new start d)
      ∙ runs)

  done_then : DoneHold B s P → DoneHold C t posts
  unfolding spawner_starts
  done_then h = record {
    was = λ x among. given_then x.task x.slot (P.was x among).is_for (h.was x among);
    started = λ x among. carry x.slot x.task.name (h.started x among);
    gone = λ x among d runs. not_run h x among d runs (d == slot) refl;
  }

  delivery_starts : Inv t → NothingComes t → MessagesStand C t
  delivery_starts J N = record {
    posts = posts;
    new = N;
    hold = λ on goes. hold_then J (M.hold (on_before on) goes_before);
    done = λ on. done_then (M.done (on_before on));
  }

by_local : (B C : ℕ → List ℕ → Type 0) → ((slot : ℕ) (name : List ℕ) → B slot name → C slot name) → (s : State) (I : Inv s) → MessagesStand B s → (parent : List ℕ) (program : Program) (past : List Own) (life : Life) (own : Own) → IsLocalSpawner program
    → IsNamed parent program → life ≡ Alive → s.actors parent ≡ Some (record { program = program; past = past; life = life }) → next_of program past own.read own.ready ≡ own.due
    → IsRunBy (next_of program) past → MayCome own.due own.came → (asked : ChildData) → own.due ≡ needs.Start asked → (pid : ℕ) → own.came ≡ got.Started pid → (a : List ℕ) → s.actors a ≡ None
    → (borne : Program) → IsProgramOf asked pid borne → C (slot_by own.due) a
    → let t = bears (acted s parent own 0 (Some (record { program = program; past = past; life = life }))) parent own a borne in Inv t → NothingComes t → MessagesStand C t
by_local B C carry s I M parent (LocalSpawner began) past Alive own it named alive is due ran comes asked starts pid came a new borne runs born_now =
    let due_is : IsLocalDue (needs.Start asked) = subst IsLocalDue (due ∙ starts) (local_due (place_after past).row own.ready (place_after past)) in
    let w = local_asked asked due_is in
    let d = delivery_is w.0 w.1 w.2 pid borne (subst (λ (c : ChildData). IsProgramOf c pid borne) w.3 runs) in
    subst (λ (b : List ℕ). Inv (bears (acted s b own 0 (Some (spawner began past))) b own a borne) → NothingComes (bears (acted s b own 0 (Some (spawner began past))) b own a borne)
    → MessagesStand C (bears (acted s b own 0 (Some (spawner began past))) b own a borne)) (sym named)
    (subst (λ (z : Program). Inv (bears (acted s (codes "lspawn") own 0 (Some (spawner began past))) (codes "lspawn") own a z)
    → NothingComes (bears (acted s (codes "lspawn") own 0 (Some (spawner began past))) (codes "lspawn") own a z)
    → MessagesStand C (bears (acted s (codes "lspawn") own 0 (Some (spawner began past))) (codes "lspawn") own a z)) (sym d.1)
    (delivery_starts B C carry s I M own began past (subst (λ (b : List ℕ). s.actors b ≡ Some (spawner began past)) named is) due
    w.0 w.1 w.2 pid (starts ∙ ap needs.Start w.3) came a new d.0 ran comes born_now))
by_local B C carry s I M parent (LocalSpawner began) past life own it named alive is due ran comes asked starts pid came a new borne runs born_now = absurd (cc)
by_local B C carry s I M parent other past life own it named alive is due ran comes asked starts pid came a new borne runs born_now = absurd it

-- By the program that starts it

module _ (B C : ℕ → List ℕ → Type 0) (carry : (slot : ℕ) (name : List ℕ) → B slot name → C slot name)
    (s : State) (I : Inv s) (M : MessagesStand B s) (parent : List ℕ) (own : Own) (a : List ℕ) (program : Program) (may : MayBear s parent own a program) where
  abbrev x : Actor
  x = may.actor

  abbrev moved_state : State
  moved_state = acted s parent own 0 (Some x)

  abbrev borne_state : State
  borne_state = bears moved_state parent own a program

  none_held : KeepsHeld s moved_state
  none_held fd how h = record {
    opened = ap (λ (z : NeedData). (disk_after s.disk own.read z own.came 0).opens fd) may.starts ∙ h.opened;
    held = ap (λ (z : NeedData). holder_after s.holder parent z own.came fd) may.starts ∙ h.held;
  }

  none_entered : (n : ℕ) (m : List ℕ) → IsEntered s n m → IsEntered moved_state n m
  none_entered = entered_books s moved_state (ap (λ (z : NeedData). books_after (bouncer_of s parent) s.books parent x.program x.past own.read own.ready z own.came) may.starts)

  nothing_comes : NothingComes moved_state
  nothing_comes = acts s I M.new parent own 0 x

  then_borne : MessagesStand C moved_state → parent ≢ codes "lspawn" → NothingComes borne_state → MessagesStand C borne_state
  then_borne Q apart N =
      let unborn = still_new s I M.posts parent own a program may in
      messages_left C C (λ slot b born. born) moved_state borne_state (bears_leaves moved_state parent apart own a program (child_neither may.asked may.pid program may.is) unborn)
      (λ on n m flies h. record { injection = h.injection; lives = h.lives; accepted = h.accepted; text = h.text }) (λ goes fd how h. record { opened = h.opened; held = h.held })
      (received_bears moved_state parent own a program unborn) Q N

  by_neither : IsNeither x.program → parent ≢ codes "lspawn" → NothingComes borne_state → MessagesStand C borne_state
  by_neither it apart =
      then_borne
      (neither_moves B C carry s I M parent own 0 x may.reads.is it may.due (λ on n m flies. none_entered n m) (λ off. none_held)
      (λ runs. subst (λ (n : NeedData). InputYields (s.pipework.pipes parent port.Input) n own.came) (sym may.starts) tt) nothing_comes)
      apart

  bears_by : (z : Program) → x.program ≡ z → IsNamed parent z → HasRun x → (parent ≡ codes "lspawn" → C (slot_by own.due) a) → Inv borne_state → NothingComes borne_state → MessagesStand C borne_state
  bears_by (Sender began) e named ran born J N =
      then_borne
      (sender_moves_messages B C s I parent own 0 x may.reads.is may.reads.alive (subst IsSender (sym e) tt) may.reads.no_later may.due (born_comes s parent own a program may)
      (λ taken. let both : needs.Start may.asked ≡ needs.Take port.Lspawn = sym may.starts ∙ taken in absurd (cc)) (λ slot b apart. carry slot b) none_held M nothing_comes)
      (λ same. names_apart (codes "sender") (codes "lspawn") refl (sym named ∙ same)) N
  bears_by (LocalSpawner began) e named ran born J N =
      by_local B C carry s I M parent x.program x.past x.life own (subst IsLocalSpawner (sym e) tt) (subst (IsNamed parent) (sym e) named) may.reads.alive may.reads.is may.due ran
      (born_comes s parent own a program may) may.asked may.starts may.pid may.came a may.new program may.is (born named) J N
  bears_by (Injector args) e named ran born J N =
      let due : next_of (Injector args) x.past own.read own.ready ≡ needs.Start may.asked = subst (λ (p : Program). next_of p x.past own.read own.ready ≡ needs.Start may.asked) e (may.due ∙ may.starts) in
      let none : ⊥ = subst IsAlone due (next_alone args x.past own.read own.ready) in
      absurd none
  bears_by (Cleaner began) e named ran born J N = by_neither (subst IsNeither (sym e) tt) (λ same. names_apart (codes "clean") (codes "lspawn") refl (sym named ∙ same)) N
  bears_by (RemoteSpawner began) e named ran born J N = by_neither (subst IsNeither (sym e) tt) (λ same. names_apart (codes "rspawn") (codes "lspawn") refl (sym named ∙ same)) N
  bears_by (Delivery began args) e named ran born J N = by_neither (subst IsNeither (sym e) tt)
      (λ same. named (subst (λ (n : List ℕ). Contains members n) (sym same) (member_contained (codes "lspawn") refl))) N

pub child_messages : (B C : ℕ → List ℕ → Type 0) → ((slot : ℕ) (name : List ℕ) → B slot name → C slot name) → (s : State) → Inv s → MessagesStand B s → HaveRun s.actors → (parent : List ℕ) (own : Own) (a : List ℕ) (program : Program) → MayBear s parent own a program
    → (parent ≡ codes "lspawn" → C (slot_by own.due) a)
    → Inv (happens s (Child parent own a program)) → NothingComes (happens s (Child parent own a program)) → MessagesStand C (happens s (Child parent own a program))
child_messages B C carry s I M R parent own a program may born =
    subst (λ (o : Option Actor). Inv (bears (acted s parent own 0 o) parent own a program) → NothingComes (bears (acted s parent own 0 o) parent own a program)
    → MessagesStand C (bears (acted s parent own 0 o) parent own a program)) (sym may.reads.is)
    (bears_by B C carry s I M parent own a program may may.actor.program refl (I.crew parent may.actor may.reads.is) (R parent may.actor may.reads.is) born)

-- What is held and given of messages after an event of the local spawner: what it holds of the request at work, and what it has given to each
-- delivery that runs or has ended with 0.
use Rattle.std.proofs.Common.{◌≡◌, ◌≢◌, ◌⊎◌, inl, inr, ⊎_elim, ℕ, List, [], ◌∷◌, ◌++◌, take, Bool, true, ◌&&◌, if◌then◌else◌, Option, Some, None, refl, sym, ap, ◌∙◌, subst, codes}
use Rattle.std.proofs.lemmas.Bool.{cases_eq, eq-eqb}
use Rattle.call_fs.specs.Disk.{Among}
use Rattle.call_fs.proofs.Maps.{put_at_other, put_at_same}
use Rattle.call_fs.specs.declared.past.GotData.{GotData}
use Rattle.call_fs.specs.declared.past.GotData.TheVariants as got
use Rattle.call_fs.specs.declared.past.NeedData.{NeedData}
use Rattle.call_fs.specs.declared.past.NeedData.TheVariants as needs
use Rattle.call_fs.specs.declared.past.Own.{Own}
use Rattle.call_fs.specs.declared.program.Port.TheVariants as port
use Rattle.call_fs.specs.Past.{taken}
use Rattle.local_spawn.specs.declared.place.Place.{Place as LocalPlace}
use Rattle.local_spawn.specs.declared.row.Row.{Row as LocalRow}
use Rattle.local_spawn.specs.declared.row.Row.TheVariants as local
use Rattle.mail_bytes.specs.Netstring.{netstring}
use Rattle.local_spawn.specs.Table.{due_at as local_due_at, due_by, due_from, moved, place_after}
use Rattle.program_law.specs.Post.Posts.{At, Done, Task, done_by, goes_at, tasks_by}
use Rattle.program_law.specs.Post.Senders.{is_on}
use Rattle.send_jobs.specs.declared.attempts.Attempt.{Attempt}
use Rattle.send_known.specs.declared.channel.Channel.TheVariants as channel
use Rattle.send_jobs.specs.Sending.{lane}
use Rattle.send_jobs.specs.Slots.{attempt_in}
use Rattle.spawn_protocol.specs.declared.request.Request.{Request}
use Rattle.spawner_parts.specs.declared.place.Place.{Place}
use Rattle.spawner_parts.specs.declared.row.Row.{Row}
use Rattle.spawner_parts.specs.declared.row.Row.TheVariants as at
use Rattle.spawner_parts.specs.Asked.{runs_in}
use Rattle.spawner_parts.specs.Table.{row_now}
use Rattle.world_pipes.specs.Pipework.{is_member, programs_after}
use Rattle.world_pipes.specs.Pipework.Tenant.{Runs}
use Rattle.world_events.specs.declared.event.Program.{Program}
use Rattle.world_events.specs.declared.event.Program.TheVariants.{LocalSpawner}
use Rattle.mail_world.specs.History.{Actor, ComesOf, IsLocalSpawner, Life, State, acted, next_of}
use Rattle.mail_world.specs.History.Life.{Alive}
use Rattle.world_law.specs.Crew.{IsNamed}
use Rattle.world_law.specs.Inv.{Inv}
use Rattle.world_law.specs.inside.Posts.{IsDeliveryFor, PostsStand, desk_in, place_in, sends_in, serves_in}
use Rattle.world_law.proofs.EnteredFlights.{flying_stays, work_asked}
use Rattle.world_law.proofs.EnteredStands.{Begins, DoneHold, FeedsLast, HoldsMessage, IsGivenFor, MessagesHold, MessagesStand, NothingComes, has_message, received, sends_on, serves_on}
use Rattle.world_law.proofs.MessageSteps.{IsNoFeed, fed_begins, fed_in_part, input_left}
use Rattle.world_law.proofs.Pipes.{no_member}
use Rattle.world_law.proofs.PostPipes.{names_apart}
use Rattle.world_law.proofs.PostServes.{IsDoneNow, IsLocalDue, StartsNone, done_cases, local_due, posted, spawner, spawner_event, starts_none, task_stays}
use Rattle.world_law.proofs.Received.{task_apart}
use Rattle.world_law.proofs.SpawnerGives.{IsNoProgram, fed_pipe, gives_at, no_feed, none_runs_in, one_slot, ran_before}
use Rattle.world_law.proofs.SpawnerLeads.{IsAsked, Leads, at_row, status_row, text_at}
use Rattle.world_law.proofs.SpawnerWorks.{doing, entered_then, goes_before, leads, then_of}
use Rattle.world_law.proofs.Tenants.{some_actor}

-- The request at work

same_request : (r k : Request) → ◌≡◌ {A = Option Request} (Some r) (Some k) → r ≡ k
same_request r k e = cc

-- while both go on its message is in S5
module _ (s : State) (I : Inv s) (P : PostsStand s) (on : sends_on s ≡ true) (goes : serves_on s ≡ true) where
  abbrev working : Place
  working = (place_in (s.actors (codes "lspawn"))).work

  work_stays : has_message working.row ≡ true → FeedsLast P.last working.row working → IsAsked s working.request
  work_stays has feeds =
      let w = work_asked s P on goes has feeds in
      record {
        n = w.attempt.n;
        mess = w.asks.1;
        stays = flying_stays s I on w.attempt.n (record { slot = working.request.slot; attempt = w.attempt; flies = w.flies; number = refl });
      }

not_feeding : (last : ℕ → Option Request) (row : Row) (p : Place) → row ≢ at.Feed → FeedsLast last row p
not_feeding last at.Feed p apart = absurd (apart refl)
not_feeding last row p apart = tt

-- An event

module _ (B C : ℕ → List ℕ → Type 0) (carry : (slot : ℕ) (name : List ℕ) → B slot name → C slot name)
    (s : State) (I : Inv s) (M : MessagesStand B s) (own : Own) (wrote began : ℕ) (past : List Own) (is : s.actors (codes "lspawn") ≡ Some (spawner began past)) where
  abbrev name : List ℕ
  name = codes "lspawn"

  abbrev P : PostsStand s
  P = M.posts

  abbrev here : LocalPlace
  here = place_after past

  abbrev p : Place
  p = here.work

  abbrev flies : ℕ → Option Attempt
  flies slot = attempt_in (lane channel.Local (desk_in (s.actors (codes "sender"))).slots).slots slot

  -- the state after it, by what was due and what came
  abbrev then_by : NeedData → GotData → State
  then_by due came = then_of s own wrote began past due came

  abbrev tasks_then : ℕ → Option Task
  tasks_then = tasks_by own.due own.came [] P.tasks

  -- A delivery has received the same, unless it is given something.

  module _ (k : Task) (it : IsDeliveryFor s k) where
    off : (m : List ℕ) → is_member m ≡ true → k.name ≢ m
    off m member = no_member s.pipework k.name (task_apart s I k it) m member

    is_still : (due : NeedData) (came : GotData) (y : Actor) → (then_by due came).actors k.name ≡ Some y → y ≡ it.delivery
    is_still due came y there = some_actor y it.delivery
        (sym there ∙ put_at_other s.actors name (Some (spawner began (doing s own wrote began past due came ∷ past))) k.name (off name refl) ∙ it.is)

    received_then : (due : NeedData) (came : GotData) → IsNoFeed s.pipework name k.name due → (y : Actor) → (then_by due came).actors k.name ≡ Some y
        → received (then_by due came) k.name y ≡ received s k.name it.delivery
    received_then due came none y there =
        ap (λ (z : Actor). received (then_by due came) k.name z) (is_still due came y there)
        ∙ ap (λ (lies : List ℕ). taken it.delivery.past ++ lies)
        (input_left s.pipework name k.name (off name refl) (off (codes "clean") refl) (off name refl) (off (codes "rspawn") refl) due came wrote none)

    given_then : IsNoFeed s.pipework name k.name own.due → (o : Option Attempt) (last : Option Request) → IsGivenFor s k.name o last → IsGivenFor (then_by own.due own.came) k.name o last
    given_then none (Some a) (Some r) h = record {
      n = h.n;
      mess = h.mess;
      message = h.message;
      is = entered_then s own wrote began past own.due own.came h.n h.message h.is;
      begins = λ y there. subst (λ (z : List ℕ). Begins z (netstring h.message)) (sym (received_then own.due own.came none y there)) (h.begins it.delivery it.is);
    }
    given_then none None last h = tt
    given_then none (Some a) None h = tt

    -- it is given this message, or a part of it
    module _ (slot : ℕ) (message text : List ℕ) (netstring_is : message ≡ netstring text) (runs : s.pipework.programs name slot ≡ Some (Runs k.name)) (none : received s k.name it.delivery ≡ []) where
      abbrev feeding : NeedData
      feeding = needs.Give (port.Program slot) message

      abbrev lies : List ℕ
      lies = (s.pipework.pipes k.name port.Input).bytes

      abbrev took_before : List ℕ
      took_before = taken it.delivery.past

      received_fed : (came : GotData) → ComesOf s name feeding came wrote → (y : Actor) → (then_by feeding came).actors k.name ≡ Some y → Begins (received (then_by feeding came) k.name y) (netstring text)
      received_fed got.Gave comes y there =
          subst (λ (z : List ℕ). Begins z (netstring text))
          (sym (ap (λ (z : Actor). received (then_by feeding got.Gave) k.name z) (is_still feeding got.Gave y there)
          ∙ ap (λ (z : List ℕ). took_before ++ z) (fed_pipe s.pipework name k.name slot message runs ∙ ap (λ (z : List ℕ). lies ++ z) netstring_is)))
          (fed_begins took_before lies text none)
      received_fed got.Failed comes y there =
          subst (λ (z : List ℕ). Begins z (netstring text))
          (sym (ap (λ (z : Actor). received (then_by feeding got.Failed) k.name z) (is_still feeding got.Failed y there)
          ∙ ap (λ (z : List ℕ). took_before ++ z) (fed_pipe s.pipework name k.name slot (take wrote message) runs ∙ ap (λ (z : List ℕ). lies ++ take wrote z) netstring_is)))
          (fed_in_part took_before lies text wrote none)
      received_fed came comes y there = absurd comes

  -- While both go on

  module _ (due : due_by here own.ready ≡ own.due) (comes : ComesOf s name own.due own.came wrote) where
    abbrev then_state : State
    then_state = then_by own.due own.came

    goes : goes_at true p.row ≡ true
    goes = goes_before s I own wrote began past is due comes

    serving : serves_on s ≡ true
    serving = ap (λ (o : Option Actor). goes_at (serves_in o) (place_in o).work.row) is ∙ goes

    starts_no : StartsNone own.due own.came
    starts_no = starts_none s name own.due own.came wrote (subst IsLocalDue due (local_due here.row own.ready here)) comes

    -- it gives nothing to a delivery, or the message to the one in the slot of the request at work
    abbrev IsFeeding : Type 0
    IsFeeding = (p.row ≡ at.Feed) × (own.due ≡ needs.Give (port.Program p.request.slot) p.message)

    gives_own : IsNoProgram own.due ⊎ IsFeeding
    gives_own = ⊎_elim
        (λ (none : IsNoProgram (local_due_at here.row own.ready here)). inl (subst IsNoProgram due none))
        (λ (c : (here.row ≡ local.Serves) × (row_now p own.ready ≡ at.Feed)).
        inr (at_row at.Feed p own.ready c.1 refl, sym due ∙ ap (λ (row : LocalRow). local_due_at row own.ready here) c.0 ∙ ap (λ (row : Row). due_from row here) c.1))
        (gives_at here.row own.ready here)

    -- of the sender nothing changes, of the local spawner its place
    there : then_state.actors (codes "sender") ≡ s.actors (codes "sender")
    there = put_at_other s.actors name (Some (spawner began (own ∷ past))) (codes "sender") (names_apart (codes "sender") name refl)

    now_here : then_state.actors name ≡ Some (spawner began (own ∷ past))
    now_here = put_at_same s.actors name (Some (spawner began (own ∷ past)))

    on_before : sends_on then_state ≡ true → sends_on s ≡ true
    on_before on = ap (λ (o : Option Actor). sends_in o && is_on (desk_in o).row) (sym there) ∙ on

    module _ (on : sends_on s ≡ true) where
      abbrev hold : MessagesHold B s P
      hold = M.hold on serving

      work : has_message p.row ≡ true → HoldsMessage s P.tasks p
      work = subst (λ (z : LocalPlace). has_message z.work.row ≡ true → HoldsMessage s P.tasks z.work) (ap place_in is) hold.work

      feeds : FeedsLast P.last p.row p
      feeds = subst (λ (z : LocalPlace). FeedsLast P.last z.work.row z.work) (ap place_in is) hold.feeds

      given_so : (slot : ℕ) (k : Task) → P.tasks slot ≡ Some k → runs_in p.running slot ≡ true → IsGivenFor s k.name (flies slot) (P.last slot)
      given_so slot k run running = hold.runs slot k run (ap (λ (z : LocalPlace). runs_in z.work.running slot) (ap place_in is) ∙ running)

      started_so : (slot : ℕ) (k : Task) → P.tasks slot ≡ Some k → runs_in p.running slot ≡ true → B slot k.name
      started_so slot k run running = hold.started slot k run (ap (λ (z : LocalPlace). runs_in z.work.running slot) (ap place_in is) ∙ running)

      asked : has_message p.row ≡ true → IsAsked s p.request
      asked has = subst (λ (z : LocalPlace). has_message z.work.row ≡ true → FeedsLast P.last z.work.row z.work → IsAsked s z.work.request) (ap place_in is) (work_stays s I P on serving) has feeds

      -- The deliveries that run

      -- one in another slot is given nothing
      other_slot : (b : List ℕ) (slot : ℕ) → slot ≢ p.request.slot → s.pipework.programs name slot ≡ Some (Runs b) → IsNoFeed s.pipework name b (needs.Give (port.Program p.request.slot) p.message)
      other_slot b slot apart runs = λ same. apart (one_slot s I name b slot p.request.slot runs same)

      -- and the one in its slot the message of the request at work
      module _ (feed : p.row ≡ at.Feed) (fed_is : own.due ≡ needs.Give (port.Program p.request.slot) p.message) (slot : ℕ) (same : slot ≡ p.request.slot) (k : Task) (run : P.tasks slot ≡ Some k) where
        abbrev holds_it : HoldsMessage s P.tasks p
        holds_it = work (ap has_message feed)

        last_is : P.last slot ≡ Some p.request
        last_is = ap P.last same ∙ (subst (λ (z : Row). FeedsLast P.last z p) feed feeds).1

        begins_then : (y : Actor) → then_state.actors k.name ≡ Some y → Begins (received then_state k.name y) (netstring holds_it.message)
        begins_then =
            let it = P.run slot k run in
            let text = text_at s P.tasks p at.Feed feed holds_it in
            let fed = received_fed k it.is_for p.request.slot p.message holds_it.message text.0 (ap (s.pipework.programs name) (sym same) ∙ it.runs)
            (text.1 k (ap P.tasks (sym same) ∙ run) it.is_for.delivery it.is_for.is) own.came in
            subst (λ (z : NeedData). ComesOf s name z own.came wrote → (y : Actor) → (then_by z own.came).actors k.name ≡ Some y → Begins (received (then_by z own.came) k.name y) (netstring holds_it.message))
            (sym fed_is) fed comes

        given_fed : (o : Option Attempt) (last : Option Request) → P.last slot ≡ last → IsGivenFor then_state k.name o last
        given_fed (Some a) (Some r) asks = record {
          n = holds_it.n;
          mess = ap (λ (z : Request). z.mess) (same_request r p.request (sym asks ∙ last_is)) ∙ holds_it.mess;
          message = holds_it.message;
          is = entered_then s own wrote began past own.due own.came holds_it.n holds_it.message holds_it.is;
          begins = begins_then;
        }
        given_fed None last asks = tt
        given_fed (Some a) None asks = tt

      runs_then : (slot : ℕ) (k : Task) → P.tasks slot ≡ Some k → runs_in p.running slot ≡ true → IsGivenFor then_state k.name (flies slot) (P.last slot)
      runs_then slot k run running =
          let it = P.run slot k run in
          let kept : IsNoFeed s.pipework name k.name own.due → IsGivenFor then_state k.name (flies slot) (P.last slot) =
          λ none. given_then k it.is_for none (flies slot) (P.last slot) (given_so slot k run running) in
          ⊎_elim
          (λ (none : IsNoProgram own.due). kept (no_feed s.pipework name k.name own.due none))
          (λ (c : IsFeeding). ⊎_elim
          (λ (same : slot ≡ p.request.slot). given_fed c.0 c.1 slot same k run (flies slot) (P.last slot) refl)
          (λ (apart : slot ≢ p.request.slot). kept (subst (IsNoFeed s.pipework name k.name) (sym c.1) (other_slot k.name slot apart it.runs)))
          (cases_eq slot p.request.slot))
          gives_own

      -- Those that ended with 0

      not_fed : (x : Done) → Among x P.done → IsNoFeed s.pipework name x.task.name own.due
      not_fed x older = ⊎_elim
          (λ (none : IsNoProgram own.due). no_feed s.pipework name x.task.name own.due none)
          (λ (c : IsFeeding). subst (IsNoFeed s.pipework name x.task.name) (sym c.1) ((M.done on).gone x older p.request.slot))
          gives_own

      -- one ran until its status was taken
      ran : (x : Done) → IsDoneNow own.due own.came P.tasks x → runs_in p.running x.slot ≡ true
      ran x now =
          let F = (posted s I P own wrote began past is due).fares in
          subst (λ (row : Row). At channel.Local P.done P.last row p) (status_row here.row own.ready here x.slot (due ∙ now.due_is)) (F.stands goes)

      was_then : (x : Done) → Among x (done_by own.due own.came P.tasks P.done) → IsGivenFor then_state x.task.name (flies x.slot) (P.last x.slot)
      was_then x among = ⊎_elim
          (λ (older : Among x P.done). given_then x.task (P.was x older).is_for (not_fed x older) (flies x.slot) (P.last x.slot) ((M.done on).was x older))
          (λ (now : IsDoneNow own.due own.came P.tasks x).
          given_then x.task (P.run x.slot x.task now.ran).is_for (no_feed s.pipework name x.task.name own.due (subst IsNoProgram (sym now.due_is) tt)) (flies x.slot) (P.last x.slot)
          (given_so x.slot x.task now.ran (ran x now)))
          (done_cases own.due own.came P.tasks P.done x among)

      started_then : (x : Done) → Among x (done_by own.due own.came P.tasks P.done) → B x.slot x.task.name
      started_then x among = ⊎_elim
          (λ (older : Among x P.done). (M.done on).started x older)
          (λ (now : IsDoneNow own.due own.came P.tasks x). started_so x.slot x.task now.ran (ran x now))
          (done_cases own.due own.came P.tasks P.done x among)

      -- whose slot is free then
      freed : (x : Done) → IsDoneNow own.due own.came P.tasks x → then_state.pipework.programs name x.slot ≡ None
      freed x now =
          (λ i. programs_after s.pipework.programs name (now.due_is i) (now.came_is i) name x.slot)
          ∙ ap (λ (t : Bool). if t then None else s.pipework.programs name x.slot) (eq-eqb x.slot x.slot refl)

      gone_then : (x : Done) → Among x (done_by own.due own.came P.tasks P.done) → (slot : ℕ) → then_state.pipework.programs name slot ≡ Some (Runs x.task.name) → ⊥
      gone_then x among slot runs =
          let before = ran_before s.pipework.programs own.due own.came starts_no slot (Runs x.task.name) runs in
          ⊎_elim
          (λ (older : Among x P.done). (M.done on).gone x older slot before)
          (λ (now : IsDoneNow own.due own.came P.tasks x).
          let same : slot ≡ x.slot = one_slot s I name x.task.name slot x.slot before (P.run x.slot x.task now.ran).runs in
          none_runs_in (Runs x.task.name) (sym (freed x now) ∙ ap (then_state.pipework.programs name) (sym same) ∙ runs))
          (done_cases own.due own.came P.tasks P.done x among)

    -- All of it

    abbrev posts_then : PostsStand then_state
    posts_then = spawner_event s I P own wrote began past is due comes

    module _ (J : Inv then_state) (N : NothingComes then_state) where
      abbrev to : LocalPlace
      to = moved here own

      module _ (on : sends_on then_state ≡ true) where
        led : Leads then_state tasks_then p.running to.work
        led = leads s I own wrote began past is P.tasks (work (on_before on)) (asked (on_before on)) due comes J

        asked_then : serves_on then_state ≡ true → has_message to.work.row ≡ true → IsAsked then_state to.work.request
        asked_then goes has =
            subst (λ (z : LocalPlace). has_message z.work.row ≡ true → FeedsLast posts_then.last z.work.row z.work → IsAsked then_state z.work.request) (ap place_in now_here)
            (work_stays then_state J posts_then on goes) has (not_feeding posts_then.last to.work.row to.work led.unfed)

        hold_then : serves_on then_state ≡ true → MessagesHold C then_state posts_then
        unfolding spawner_event
        hold_then goes = record {
          work = subst (λ (z : LocalPlace). has_message z.work.row ≡ true → HoldsMessage then_state tasks_then z.work) (sym (ap place_in now_here)) (led.holds (asked_then goes));
          feeds = subst (λ (z : LocalPlace). FeedsLast P.last z.work.row z.work) (sym (ap place_in now_here)) (not_feeding P.last to.work.row to.work led.unfed);
          runs = λ slot k run running.
              subst (λ (o : Option Actor). IsGivenFor then_state k.name (attempt_in (lane channel.Local (desk_in o).slots).slots slot) (P.last slot)) (sym there)
              (runs_then (on_before on) slot k (task_stays s.pipework own.due own.came P.tasks starts_no slot k run).0
              (led.runs slot (ap (λ (z : LocalPlace). runs_in z.work.running slot) (sym (ap place_in now_here)) ∙ running)));
          started = λ slot k run running.
              carry slot k.name (started_so (on_before on) slot k (task_stays s.pipework own.due own.came P.tasks starts_no slot k run).0
              (led.runs slot (ap (λ (z : LocalPlace). runs_in z.work.running slot) (sym (ap place_in now_here)) ∙ running)));
        }

        done_then : DoneHold C then_state posts_then
        unfolding spawner_event
        done_then = record {
          was = λ x among.
              subst (λ (o : Option Actor). IsGivenFor then_state x.task.name (attempt_in (lane channel.Local (desk_in o).slots).slots x.slot) (P.last x.slot)) (sym there)
              (was_then (on_before on) x among);
          started = λ x among. carry x.slot x.task.name (started_then (on_before on) x among);
          gone = gone_then (on_before on);
        }

      spawner_stands : MessagesStand C then_state
      spawner_stands = record { posts = posts_then; new = N; hold = hold_then; done = done_then }

-- By its program

messages_by : (B C : ℕ → List ℕ → Type 0) → ((slot : ℕ) (name : List ℕ) → B slot name → C slot name) → (s : State) (I : Inv s) (a : List ℕ) (own : Own) (wrote : ℕ) (program : Program) (past : List Own) (life : Life) → IsLocalSpawner program
    → IsNamed a program → life ≡ Alive → s.actors a ≡ Some (record { program = program; past = past; life = life }) → next_of program past own.read own.ready ≡ own.due
    → ComesOf s a own.due own.came wrote → MessagesStand B s → Inv (acted s a own wrote (Some (record { program = program; past = past; life = life })))
    → NothingComes (acted s a own wrote (Some (record { program = program; past = past; life = life })))
    → MessagesStand C (acted s a own wrote (Some (record { program = program; past = past; life = life })))
messages_by B C carry s I a own wrote (LocalSpawner began) past Alive it named alive is due comes M J N =
    subst (λ (b : List ℕ). MessagesStand C (acted s b own wrote (Some (spawner began past)))) (sym named)
    (spawner_stands B C carry s I M own wrote began past (subst (λ (b : List ℕ). s.actors b ≡ Some (spawner began past)) named is) due
    (subst (λ (b : List ℕ). ComesOf s b own.due own.came wrote) named comes)
    (subst (λ (b : List ℕ). Inv (acted s b own wrote (Some (spawner began past)))) named J)
    (subst (λ (b : List ℕ). NothingComes (acted s b own wrote (Some (spawner began past)))) named N))
messages_by B C carry s I a own wrote (LocalSpawner began) past life it named alive is due comes M J N = absurd (cc)
messages_by B C carry s I a own wrote other past life it named alive is due comes M J N = absurd it

pub spawner_messages : (B C : ℕ → List ℕ → Type 0) → ((slot : ℕ) (name : List ℕ) → B slot name → C slot name) → (s : State) → Inv s → (a : List ℕ) (own : Own) (wrote : ℕ) (x : Actor) → s.actors a ≡ Some x → x.life ≡ Alive → IsLocalSpawner x.program
    → next_of x.program x.past own.read own.ready ≡ own.due → ComesOf s a own.due own.came wrote → MessagesStand B s
    → Inv (acted s a own wrote (Some x)) → NothingComes (acted s a own wrote (Some x)) → MessagesStand C (acted s a own wrote (Some x))
spawner_messages B C carry s I a own wrote x is alive it due comes M J N =
    messages_by B C carry s I a own wrote x.program x.past x.life it (I.crew a x is) alive is due comes M J N

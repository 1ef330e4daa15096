-- What a sender and a spawner keep of each other, by the pasts of both and by what lies in the pipes between them: each event of a history in
-- which nothing fails is one of the sender, one of the spawner, or leaves all of that.
use Rattle.std.proofs.Common.{◌≡◌, ◌≢◌, ℕ, ◌≤◌, List, [], ◌∷◌, true, Option, Some, None, refl, sym, ap, ◌∙◌, subst, arith, codes}
use Rattle.std.specs.List.{list_all}
use Rattle.std.proofs.lemmas.Bool.{and_parts}
use Rattle.call_fs.specs.Disk.{Disk}
use Rattle.call_fs.specs.Maps.{put_at}
use Rattle.call_fs.specs.Past.{IsRunBy}
use Rattle.call_fs.specs.Program.{MayCome}
use Rattle.call_fs.proofs.Maps.{put_at_other, put_at_same}
use Rattle.call_fs.specs.declared.past.ChildData.{ChildData}
use Rattle.call_fs.specs.declared.past.ChildData.TheVariants as child
use Rattle.call_fs.specs.declared.past.GotData.{GotData}
use Rattle.call_fs.specs.declared.past.GotData.TheVariants as came
use Rattle.call_fs.specs.declared.past.NeedData.{NeedData}
use Rattle.call_fs.specs.declared.past.NeedData.TheVariants as needs
use Rattle.call_fs.specs.declared.past.Own.{Own}
use Rattle.call_fs.specs.declared.program.Port.TheVariants as port
use Rattle.mail_bytes.specs.Moments.{IsMoment}
use Rattle.program_law.specs.Post.Posts.{IsOffered, asked_by, told_by}
use Rattle.program_law.specs.Post.Senders.{AsksFor, asked_on, told_on}
use Rattle.program_law.specs.Sender.Asking.{IsRequestFor}
use Rattle.program_law.proofs.Sender.Asking.{requests_are_texts}
use Rattle.queue_law.specs.Numbers.{Role}
use Rattle.send_core.specs.Table.{Next}
use Rattle.send_known.specs.declared.channel.Channel.{Channel}
use Rattle.send_known.specs.declared.channel.Channel.TheVariants.{Local, Remote}
use Rattle.send_parts.specs.Channels.{port_of}
use Rattle.world_pipes.specs.Pipework.{is_writer, writer}
use Rattle.world_events.specs.declared.event.Program.{Program}
use Rattle.world_events.specs.declared.event.Program.TheVariants.{Injector, Sender, LocalSpawner, RemoteSpawner, Delivery}
use Rattle.mail_world.specs.History.{Actor, Allowed, ComesOf, Event, IsProgramOf, IsSender, Legal, Life, MayBear, MayRun, State, acted, after, bears, finished, happens, newborn, next_of, slot_by}
use Rattle.mail_world.specs.History.Event.{Start, Act, Child, Generation, Report, End, Stop, Moment, Halt}
use Rattle.mail_world.specs.History.Life.{Alive, Over}
use Rattle.mail_world.specs.Untouched.{queue}
use Rattle.mail_world.proofs.Coming.{may_come}
use Rattle.mail_world.proofs.Members.{are_four, four_lspawn, four_rspawn, four_sender}
use Rattle.world_law.specs.Crew.{IsNamed}
use Rattle.world_law.specs.Fares.{SenderFares}
use Rattle.world_law.specs.Inv.{Inv}
use Rattle.world_law.specs.Spawned.{IsSpawner, spawner_name}
use Rattle.world_law.proofs.Gone.{bytes_shut}
use Rattle.world_law.proofs.Histories.{always, sender_fares}
use Rattle.world_law.proofs.PostEvents.{IsMild, IsOther, acts_aside, calm, mild, tenant_not}
use Rattle.world_law.proofs.PostPipes.{asked_output, asked_sent, asked_spawned, not_spawner, told_output, told_sent, told_spawned}
use Rattle.world_law.proofs.PostSends.{asks_for}
use Rattle.world_law.proofs.PostServes.{offered_by}
use Rattle.world_law.proofs.PostViews.{put_seen}
use Rattle.world_law.proofs.Ran.{HaveRun, born_comes, have_run}
use Rattle.world_law.proofs.Starts.{is_local, is_remote, is_sender}
use Rattle.settle_law.specs.Suffices.{desk_of}
use Rattle.settle_law.specs.Well.{came_well, goes_well}
use Rattle.settle_law.proofs.Greeted.{IsTaken}
use Rattle.settle_law.proofs.ShortRequests.{IsShort, short_request}
use Rattle.settle_law.proofs.Spawns.{next_on}
use Rattle.settle_law.proofs.RoutesShort.{routes_short}

-- Their pasts, and what lies in the pipes

abbrev pub sends_by : Program → List Own → Option (List Own)
sends_by (Sender since) past = Some past
sends_by program past = None

abbrev pub sends_past : Option Actor → Option (List Own)
sends_past None = None
sends_past (Some x) = sends_by x.program x.past

abbrev pub spawns_by : Channel → Program → List Own → Option (List Own)
spawns_by Local (LocalSpawner since) past = Some past
spawns_by Remote (RemoteSpawner since) past = Some past
spawns_by c program past = None

abbrev pub spawns_past : Channel → Option Actor → Option (List Own)
spawns_past c None = None
spawns_past c (Some x) = spawns_by c x.program x.past

abbrev pub told_of : Channel → State → List ℕ
told_of c s = (s.pipework.pipes (codes "sender") (port_of c)).bytes

abbrev pub asked_of : Channel → State → List ℕ
asked_of c s = (s.pipework.pipes (spawner_name c) port.Input).bytes

-- What is known of an event

-- of a sender: it is due, it takes what lies there, it gives a request of an attempt, with no field that is too long, and it doesn't fail
pub record IsSent (c : Channel) (past : List Own) (told : List ℕ) (own : Own) : Type 0 where
  pub run : IsRunBy (Next None) (own ∷ past)
  pub takes : own.due ≡ needs.Take (port_of c) → (bytes : List ℕ) → own.came ≡ came.Took bytes → IsTaken told bytes
  pub gives : (text : List ℕ) → own.due ≡ needs.Give (port_of c) text → AsksFor c (desk_of past) text
  pub shorts : (text : List ℕ) → own.due ≡ needs.Give (port_of c) text → IsShort text
  pub well : came_well own.came ≡ true

-- of a spawner: it is due, it takes what lies there, and what it gives is given
pub record IsServed (c : Channel) (mine : List Own) (asks : List ℕ) (own : Own) : Type 0 where
  pub run : IsRunBy (next_on c) (own ∷ mine)
  pub offered : own.due ≡ needs.Take port.Input → IsOffered asks own.came
  pub gives : (text : List ℕ) → own.due ≡ needs.Give port.Output text → own.came ≡ came.Gave

-- what holds of both at first, and is kept by each such event
pub record IsKept (P : Channel → Option (List Own) → Option (List Own) → (told asks : List ℕ) → Type 0) : Type 0 where
  pub none : (c : Channel) (told asks : List ℕ) → P c None None told asks
  pub begins : (c : Channel) → P c (Some []) (Some []) [] []
  pub sends : (c : Channel) (past : List Own) (spawns : Option (List Own)) (told asks : List ℕ) (own : Own) (wrote : ℕ) → IsSent c past told own → P c (Some past) spawns told asks
      → P c (Some (own ∷ past)) spawns (told_on c own.due own.came told) (asked_on c own.due own.came wrote asks)
  pub serves : (c : Channel) (sends : Option (List Own)) (mine : List Own) (told asks : List ℕ) (own : Own) (wrote : ℕ) → IsServed c mine asks own → P c sends (Some mine) told asks
      → P c sends (Some (own ∷ mine)) (told_by own.due own.came wrote told) (asked_by own.due own.came asks)

other_sends : (c : Channel) (program : Program) → IsOther c program → (past : List Own) → sends_by program past ≡ None
other_sends Local (Sender since) it past = absurd it
other_sends Remote (Sender since) it past = absurd it
other_sends c program it past = refl

other_spawns : (c : Channel) (program : Program) → IsOther c program → (past : List Own) → spawns_by c program past ≡ None
other_spawns Local (LocalSpawner since) it past = absurd it
other_spawns Remote (RemoteSpawner since) it past = absurd it
other_spawns Local program it past = refl
other_spawns Remote program it past = refl

pub spawned_is : (c : Channel) (program : Program) → IsSpawner c program → (past : List Own) → spawns_by c program past ≡ Some past
spawned_is Local (LocalSpawner since) it past = refl
spawned_is Remote (RemoteSpawner since) it past = refl
spawned_is Local program it past = absurd it
spawned_is Remote program it past = absurd it

pub spawned_run : (c : Channel) (program : Program) → IsSpawner c program → (past : List Own) → IsRunBy (next_of program) past → IsRunBy (next_on c) past
spawned_run Local (LocalSpawner since) it past run = run
spawned_run Remote (RemoteSpawner since) it past run = run
spawned_run Local program it past run = absurd it
spawned_run Remote program it past run = absurd it

spawner_named : (c : Channel) (a : List ℕ) (program : Program) → IsSpawner c program → IsNamed a program → a ≡ spawner_name c
spawner_named Local a (LocalSpawner since) it named = named
spawner_named Remote a (RemoteSpawner since) it named = named
spawner_named Local a program it named = absurd it
spawner_named Remote a program it named = absurd it

pub spawner_apart : (c : Channel) (program : Program) → IsSpawner c program → IsSender program → ⊥
spawner_apart Local (LocalSpawner since) it sends = sends
spawner_apart Remote (RemoteSpawner since) it sends = sends
spawner_apart Local program it sends = it
spawner_apart Remote program it sends = it

-- what comes of a taking of the sender
pub takes_some : (s : State) (a : List ℕ) (own : Own) (wrote : ℕ) → ComesOf s a own.due own.came wrote → (c : Channel) → own.due ≡ needs.Take (port_of c) → (bytes : List ℕ)
    → own.came ≡ came.Took bytes → IsTaken (s.pipework.pipes a (port_of c)).bytes bytes
takes_some s a own wrote comes c due bytes got =
    by c (subst (λ (g : GotData). ComesOf s a (needs.Take (port_of c)) g wrote) got (subst (λ (n : NeedData). ComesOf s a n own.came wrote) due comes))
  where
    by : (k : Channel) → ComesOf s a (needs.Take (port_of k)) (came.Took bytes) wrote → IsTaken (s.pipework.pipes a (port_of k)).bytes bytes
    by Local h = h
    by Remote h = h

-- each request that a living sender of that state would give has no field that is too long
abbrev AllShort : State → Type 0
AllShort s = (x : Actor) (began : ℕ) → s.actors (codes "sender") ≡ Some x → x.life ≡ Alive → x.program ≡ Sender began → (role : ℕ → Role) (c : Channel) (text : List ℕ)
    → IsRequestFor (queue s role) c (desk_of x.past) text → IsShort text

gave_well : (got : GotData) (text : List ℕ) → MayCome (needs.Give port.Output text) got → came_well got ≡ true → got ≡ came.Gave
gave_well came.Gave text may well = refl
gave_well came.Failed text may well = absurd (cc)
gave_well got text may well = absurd may

run_other : (c : Channel) (program : Program) → MayRun program → IsOther c program
run_other Local (Injector args) runs = tt
run_other Remote (Injector args) runs = tt
run_other c program runs = absurd runs

child_other : (c : Channel) (asked : ChildData) (pid : ℕ) (program : Program) → IsProgramOf asked pid program → IsOther c program
child_other Local (child.Bounce room) pid (Injector args) it = tt
child_other Remote (child.Bounce room) pid (Injector args) it = tt
child_other Local (child.Forward uid room) pid (Injector args) it = tt
child_other Remote (child.Forward uid room) pid (Injector args) it = tt
child_other Local (child.Local slot words uid) pid (Delivery start args) it = tt
child_other Remote (child.Local slot words uid) pid (Delivery start args) it = tt
child_other c asked pid program it = absurd it

module _ (P : Channel → Option (List Own) → Option (List Own) → (told asks : List ℕ) → Type 0) (K : IsKept P) where
  abbrev In : Channel → State → Type 0
  In c s = P c (sends_past (s.actors (codes "sender"))) (spawns_past c (s.actors (spawner_name c))) (told_of c s) (asked_of c s)

  same : (c : Channel) (p q m n : Option (List Own)) (t u x y : List ℕ) → q ≡ p → n ≡ m → u ≡ t → y ≡ x → P c p m t x → P c q n u y
  same c p q m n t u x y sends spawns told asks h =
      subst (λ (o : Option (List Own)). P c o n u y) (sym sends)
      (subst (λ (o : Option (List Own)). P c p o u y) (sym spawns) (subst (λ (l : List ℕ). P c p m l y) (sym told) (subst (λ (l : List ℕ). P c p m t l) (sym asks) h)))

  -- An actor that is another one afterwards, and is seen as before

  one_stays : (c : Channel) (s : State) → In c s → (a : List ℕ) (y : Actor) (told asks : List ℕ) → sends_past (Some y) ≡ sends_past (s.actors a) → spawns_past c (Some y) ≡ spawns_past c (s.actors a)
      → told ≡ told_of c s → asks ≡ asked_of c s
      → P c (sends_past (put_at s.actors a (Some y) (codes "sender"))) (spawns_past c (put_at s.actors a (Some y) (spawner_name c))) told asks
  one_stays c s h a y told asks sends spawns told_is asks_is =
      same c _ _ _ _ _ told _ asks (put_seen sends_past s.actors a y (codes "sender") sends) (put_seen (spawns_past c) s.actors a y (spawner_name c) spawns) told_is asks_is h

  -- Events of actors

  module _ (s : State) (I : Inv s) (a : List ℕ) (own : Own) (wrote : ℕ) (x : Actor) (is : s.actors a ≡ Some x) (due : next_of x.program x.past own.read own.ready ≡ own.due)
      (run : IsRunBy (next_of x.program) (own ∷ x.past)) where
    abbrev then_is : Actor
    then_is = record { program = x.program; past = own ∷ x.past; life = x.life }

    other_acts : (c : Channel) → In c s → IsOther c x.program → In c (acted s a own wrote (Some x))
    other_acts c h it =
        let aside = acts_aside s I c a own wrote x is it due in
        one_stays c s h a then_is _ _
        (other_sends c x.program it (own ∷ x.past) ∙ sym (other_sends c x.program it x.past) ∙ ap sends_past (sym is))
        (other_spawns c x.program it (own ∷ x.past) ∙ sym (other_spawns c x.program it x.past) ∙ ap (spawns_past c) (sym is))
        aside.told aside.asked

    module _ (c : Channel) (h : In c s) (it : IsSpawner c x.program) (here : s.actors (spawner_name c) ≡ Some x) (offered : own.due ≡ needs.Take port.Input → IsOffered (asked_of c s) own.came)
        (gives : (text : List ℕ) → own.due ≡ needs.Give port.Output text → own.came ≡ came.Gave) where
      was_served : P c (sends_past (s.actors (codes "sender"))) (Some x.past) (told_of c s) (asked_of c s)
      was_served = subst (λ (o : Option (List Own)). P c (sends_past (s.actors (codes "sender"))) o (told_of c s) (asked_of c s)) (ap (spawns_past c) here ∙ spawned_is c x.program it x.past) h

      spawner_acts : In c (acted s (spawner_name c) own wrote (Some x))
      spawner_acts = same c _ _ _ _ _ _ _ _
          (ap sends_past (put_at_other s.actors (spawner_name c) (Some then_is) (codes "sender") (not_spawner c)))
          (ap (spawns_past c) (put_at_same s.actors (spawner_name c) (Some then_is)) ∙ spawned_is c x.program it (own ∷ x.past))
          (told_spawned s.pipework c own.due own.came wrote)
          (asked_spawned s.pipework c (tenant_not s I c (spawner_name c)) own.due own.came wrote
          (calm c own.due (subst IsMild due (mild x.program (spawner_apart c x.program it) x.past own.read own.ready))))
          (K.serves c (sends_past (s.actors (codes "sender"))) x.past (told_of c s) (asked_of c s) own wrote
          (record { run = spawned_run c x.program it (own ∷ x.past) run; offered = offered; gives = gives }) was_served)

  -- of the sender
  module _ (s : State) (I : Inv s) (own : Own) (wrote began : ℕ) (past : List Own) (life : Life) (alive : life ≡ Alive)
      (is : s.actors (codes "sender") ≡ Some (record { program = Sender began; past = past; life = life })) (soon : own.read ≤ s.now) (run : IsRunBy (Next None) (own ∷ past))
      (takes : (c : Channel) → own.due ≡ needs.Take (port_of c) → (bytes : List ℕ) → own.came ≡ came.Took bytes → IsTaken (told_of c s) bytes) (well : came_well own.came ≡ true)
      (short : AllShort s) where
    abbrev was : Actor
    was = record { program = Sender began; past = past; life = life }

    abbrev sent_is : Actor
    sent_is = record { program = Sender began; past = own ∷ past; life = life }

    moment : IsMoment own.read
    moment = let m = I.moment in omega (arith, m, soon)

    fares : SenderFares s.now (queue s I.role) (codes "sender") (desk_of past)
    fares = sender_fares s.now (queue s I.role) (codes "sender") (Sender began) past life began refl alive (I.fares (codes "sender") was is)

    request : (c : Channel) (text : List ℕ) → own.due ≡ needs.Give (port_of c) text → IsRequestFor (queue s I.role) c (desk_of past) text
    request c text e = requests_are_texts s.now (queue s I.role) (codes "sender") (desk_of past) own.read own.ready c text soon moment fares.stands fares.texts (run.1.0 ∙ e)

    gives_one : (c : Channel) (text : List ℕ) → own.due ≡ needs.Give (port_of c) text → AsksFor c (desk_of past) text
    gives_one c text e = asks_for (queue s I.role) (desk_of past) c text I.sound.fine (request c text e)

    short_one : (c : Channel) (text : List ℕ) → own.due ≡ needs.Give (port_of c) text → IsShort text
    short_one c text e =
        short was began is alive refl I.role c text (request c text e)

    was_sent : (c : Channel) → In c s → P c (Some past) (spawns_past c (s.actors (spawner_name c))) (told_of c s) (asked_of c s)
    was_sent c h = subst (λ (o : Option (List Own)). P c o (spawns_past c (s.actors (spawner_name c))) (told_of c s) (asked_of c s)) (ap sends_past is) h

    sender_acts : (c : Channel) → In c s → In c (acted s (codes "sender") own wrote (Some was))
    sender_acts c h = same c _ _ _ _ _ _ _ _
        (ap sends_past (put_at_same s.actors (codes "sender") (Some sent_is)))
        (ap (spawns_past c) (put_at_other s.actors (codes "sender") (Some sent_is) (spawner_name c) (λ e. not_spawner c (sym e))))
        (told_sent s.pipework c own.due own.came wrote)
        (asked_sent s.pipework c (tenant_not s I c (codes "sender")) own.due own.came wrote)
        (K.sends c past (spawns_past c (s.actors (spawner_name c))) (told_of c s) (asked_of c s) own wrote (record { run = run; takes = takes c; gives = gives_one c; shorts = short_one c; well = well }) (was_sent c h))

  -- of any actor

  module _ (s : State) (I : Inv s) (R : HaveRun s.actors) (a : List ℕ) (own : Own) (wrote : ℕ) (may : MayCome own.due own.came)
      (takes : (c : Channel) → own.due ≡ needs.Take (port_of c) → (bytes : List ℕ) → own.came ≡ came.Took bytes → IsTaken (s.pipework.pipes a (port_of c)).bytes bytes)
      (offered : own.due ≡ needs.Take port.Input → IsOffered (s.pipework.pipes a port.Input).bytes own.came) (well : came_well own.came ≡ true) (short : AllShort s) where
    gives_well : (text : List ℕ) → own.due ≡ needs.Give port.Output text → own.came ≡ came.Gave
    gives_well text e = gave_well own.came text (subst (λ (n : NeedData). MayCome n own.came) e may) well

    sends_now : (c : Channel) → In c s → (program : Program) (past : List Own) (life : Life) → IsSender program → IsNamed a program → life ≡ Alive
        → s.actors a ≡ Some (record { program = program; past = past; life = life }) → own.read ≤ s.now → next_of program past own.read own.ready ≡ own.due
        → In c (acted s a own wrote (Some (record { program = program; past = past; life = life })))
    sends_now c h (Sender began) past life it named alive is soon due =
        subst (λ (b : List ℕ). In c (acted s b own wrote (Some (record { program = Sender began; past = past; life = life })))) (sym named)
        (sender_acts s I own wrote began past life alive (subst (λ (b : List ℕ). s.actors b ≡ Some (record { program = Sender began; past = past; life = life })) named is) soon
        (R a (record { program = Sender began; past = past; life = life }) is, (due, may))
        (λ k e bytes got. subst (λ (b : List ℕ). IsTaken (s.pipework.pipes b (port_of k)).bytes bytes) named (takes k e bytes got)) well short c h)
    sends_now c h program past life it named alive is soon due = absurd it

    module _ (x : Actor) (is : s.actors a ≡ Some x) (due : next_of x.program x.past own.read own.ready ≡ own.due) where
      ran : IsRunBy (next_of x.program) (own ∷ x.past)
      ran = (R a x is, (due, may))

      serves_now : (c : Channel) → In c s → IsSpawner c x.program → In c (acted s a own wrote (Some x))
      serves_now c h it =
          let name = spawner_named c a x.program it (I.crew a x is) in
          subst (λ (b : List ℕ). In c (acted s b own wrote (Some x))) (sym name)
          (spawner_acts s I a own wrote x is due ran c h it (subst (λ (b : List ℕ). s.actors b ≡ Some x) name is)
          (subst (λ (b : List ℕ). own.due ≡ needs.Take port.Input → IsOffered (s.pipework.pipes b port.Input).bytes own.came) name offered) gives_well)

      acts_now : x.life ≡ Alive → own.read ≤ s.now → (c : Channel) → In c s → (program : Program) → x.program ≡ program → In c (acted s a own wrote (Some x))
      acts_now alive soon c h (Sender began) e = sends_now c h x.program x.past x.life (subst IsSender (sym e) tt) (I.crew a x is) alive is soon due
      acts_now alive soon Local h (LocalSpawner began) e = serves_now Local h (subst (IsSpawner Local) (sym e) tt)
      acts_now alive soon Remote h (RemoteSpawner began) e = serves_now Remote h (subst (IsSpawner Remote) (sym e) tt)
      acts_now alive soon Local h program e = other_acts s I a own wrote x is due ran Local h (subst (IsOther Local) (sym e) tt)
      acts_now alive soon Remote h program e = other_acts s I a own wrote x is due ran Remote h (subst (IsOther Remote) (sym e) tt)

  -- A start

  begins_so : (c : Channel) (s : State) → In c s → (a : List ℕ) (program : Program) → IsOther c program → s.actors a ≡ None → (told asks : List ℕ) → told ≡ told_of c s → asks ≡ asked_of c s
      → P c (sends_past (put_at s.actors a (Some (newborn program)) (codes "sender"))) (spawns_past c (put_at s.actors a (Some (newborn program)) (spawner_name c))) told asks
  begins_so c s h a program it new told asks told_is asks_is =
      one_stays c s h a (newborn program) told asks (other_sends c program it [] ∙ ap sends_past (sym new)) (other_spawns c program it [] ∙ ap (spawns_past c) (sym new)) told_is asks_is

  module _ (s : State) (I : Inv s) (R : HaveRun s.actors) (parent : List ℕ) (own : Own) (a : List ℕ) (program : Program) (may : MayBear s parent own a program)
      (short : AllShort s) where
    abbrev moved : State
    moved = acted s parent own 0 (Some may.actor)

    -- the child is new then too
    still_new : moved.actors a ≡ None
    still_new =
        let y : Actor = record { program = may.actor.program; past = own ∷ may.actor.past; life = may.actor.life } in
        put_at_other s.actors parent (Some y) a apart ∙ may.new
      where
        apart : a ≢ parent
        apart e = let both : ◌≡◌ {A = Option Actor} None (Some may.actor) = sym may.new ∙ ap s.actors e ∙ may.reads.is in absurd (cc)

    takes_none : (c : Channel) → own.due ≡ needs.Take (port_of c) → (bytes : List ℕ) → own.came ≡ came.Took bytes → IsTaken (s.pipework.pipes parent (port_of c)).bytes bytes
    takes_none c due bytes got = let both : needs.Start may.asked ≡ needs.Take (port_of c) = sym may.starts ∙ due in absurd (cc)

    offered_none : own.due ≡ needs.Take port.Input → IsOffered (s.pipework.pipes parent port.Input).bytes own.came
    offered_none due = let both : needs.Start may.asked ≡ needs.Take port.Input = sym may.starts ∙ due in absurd (cc)

    children_so : (c : Channel) → In c s → In c (happens s (Child parent own a program))
    children_so c h =
        let now : In c moved =
        acts_now s I R parent own 0 (born_comes s parent own a program may) takes_none offered_none (ap came_well may.came) short may.actor may.reads.is may.due may.reads.alive may.reads.no_later c h
        may.actor.program refl in
        subst (λ (o : Option Actor). In c (bears (acted s parent own 0 o) parent own a program)) (sym may.reads.is)
        (begins_so c moved now a program (child_other c may.asked may.pid program may.is) still_new (told_of c (bears moved parent own a program)) (asked_of c (bears moved parent own a program))
        (told_output moved.pipework c parent (slot_by own.due)) (asked_output moved.pipework c parent (slot_by own.due)))

  -- A generation starts

  begun_so : (c : Channel) (sends spawns : Option (List Own)) → sends ≡ Some [] → spawns ≡ Some [] → P c sends spawns [] []
  begun_so c sends spawns sent spawned = same c (Some []) sends (Some []) spawns [] [] [] [] sent spawned refl refl (K.begins c)

  generations_so : (c : Channel) (s : State) (sender clean lspawn rspawn : Program) → Allowed s (Generation (sender ∷ clean ∷ lspawn ∷ rspawn ∷ [])) → In c (happens s (Generation (sender ∷ clean ∷ lspawn ∷ rspawn ∷ [])))
  generations_so c s sender clean lspawn rspawn may =
      let one = is_sender sender may.kinds.0 in
      let three = is_local lspawn may.kinds.1.1.0 in
      let four = is_remote rspawn may.kinds.1.1.1.0 in
      subst (λ (p : Program). In c (happens s (Generation (p ∷ clean ∷ lspawn ∷ rspawn ∷ [])))) (sym one.1)
      (subst (λ (p : Program). In c (happens s (Generation (Sender one.0 ∷ clean ∷ p ∷ rspawn ∷ [])))) (sym three.1)
      (subst (λ (p : Program). In c (happens s (Generation (Sender one.0 ∷ clean ∷ LocalSpawner three.0 ∷ p ∷ [])))) (sym four.1)
      (by c one.0 three.0 four.0)))
    where
      by : (k : Channel) (first third last : ℕ) → In k (happens s (Generation (Sender first ∷ clean ∷ LocalSpawner third ∷ RemoteSpawner last ∷ [])))
      by Local first third last = begun_so Local _ _ (ap sends_past (four_sender s.actors (Sender first) clean (LocalSpawner third) (RemoteSpawner last)))
          (ap (spawns_past Local) (four_lspawn s.actors (Sender first) clean (LocalSpawner third) (RemoteSpawner last)))
      by Remote first third last = begun_so Remote _ _ (ap sends_past (four_sender s.actors (Sender first) clean (LocalSpawner third) (RemoteSpawner last)))
          (ap (spawns_past Remote) (four_rspawn s.actors (Sender first) clean (LocalSpawner third) (RemoteSpawner last)))

  -- An end

  ends_so : (c : Channel) (s : State) → In c s → (a : List ℕ) (life : Life) (o : Option Actor) → s.actors a ≡ o → In c (finished s a life o)
  ends_so c s h a life None is = h
  ends_so c s h a life (Some x) is =
      let y : Actor = record { program = x.program; past = x.past; life = life } in
      one_stays c s h a y _ _ (ap sends_past (sym is)) (ap (spawns_past c) (sym is))
      (bytes_shut (is_writer a (writer s.pipework (codes "sender") (port_of c))) (s.pipework.pipes (codes "sender") (port_of c)))
      (bytes_shut (is_writer a (writer s.pipework (spawner_name c) port.Input)) (s.pipework.pipes (spawner_name c) port.Input))

  report_so : (c : Channel) (s : State) → In c s → (slot : ℕ) (output : List ℕ) → In c (happens s (Report slot output))
  report_so Local s h slot output = h
  report_so Remote s h slot output = h

  event_so : (e : Event) (s : State) → Inv s → HaveRun s.actors → AllShort s → (c : Channel) → In c s → Allowed s e → goes_well e ≡ true → In c (happens s e)
  event_so (Start a program) s I R short c h may well = begins_so c s h a program (run_other c program may.runs) may.new (told_of c s) (asked_of c s) refl refl
  event_so (Act a own wrote) s I R short c h may well =
      subst (λ (o : Option Actor). In c (acted s a own wrote o)) (sym may.reads.is)
      (acts_now s I R a own wrote (may_come s a own.due own.came wrote may.came) (takes_some s a own wrote may.came)
      (λ e. offered_by (s.pipework.pipes a port.Input) own.came (subst (λ (n : NeedData). ComesOf s a n own.came wrote) e may.came)) well short may.actor may.reads.is may.due may.reads.alive
      may.reads.no_later c h may.actor.program refl)
  event_so (Child parent own a program) s I R short c h may well = children_so s I R parent own a program may short c h
  event_so (Generation (sender ∷ clean ∷ lspawn ∷ rspawn ∷ [])) s I R short c h may well = generations_so c s sender clean lspawn rspawn may
  event_so (Generation crew) s I R short c h may well = absurd (are_four crew may.kinds)
  event_so (Report slot output) s I R short c h may well = report_so c s h slot output
  event_so (End a read ready status) s I R short c h may well = ends_so c s h a (Over status) (s.actors a) refl
  event_so (Stop a) s I R short c h may well = absurd (cc)
  event_so (Moment m) s I R short c h may well = h
  event_so (Halt how contents) s I R short c h may well = absurd (cc)

  pub kept_always : (d : Disk) (h : List Event) → Legal d h → list_all goes_well h ≡ true → (c : Channel) → In c (after d h)
  kept_always d [] legal well c = K.none c [] []
  kept_always d (e ∷ h) legal well c =
      let parts = and_parts (goes_well e) (list_all goes_well h) well in
      event_so e (after d h) (always d h legal.0) (have_run d h legal.0)
      (λ x began is alive sends role k text w. short_request d h legal.0 parts.1 x began is alive sends (routes_short d h legal.0) role k text w) c (kept_always d h legal.0 parts.1 c) legal.1 parts.0

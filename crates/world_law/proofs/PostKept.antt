-- Each event keeps what lies between the sender and the local spawner, which so holds after each legal history.
use Rattle.std.specs.Prelude.{Contains}
use Rattle.std.proofs.Common.{◌≡◌, ◌≢◌, ℕ, List, [], ◌∷◌, Bool, true, false, ◌&&◌, Option, Some, None, option_map, refl, sym, ap, ◌∙◌, subst, codes}
use Rattle.call_fs.specs.Disk.{Disk}
use Rattle.call_fs.specs.Maps.{put_at}
use Rattle.call_fs.proofs.Maps.{put_at_other}
use Rattle.call_fs.specs.declared.crash_file_system.Survival.{Survival}
use Rattle.call_fs.specs.declared.past.ChildData.{ChildData}
use Rattle.call_fs.specs.declared.past.ChildData.TheVariants as child
use Rattle.call_fs.specs.declared.past.NeedData.TheVariants as needs
use Rattle.call_fs.specs.declared.past.Own.{Own}
use Rattle.call_fs.specs.declared.program.Port.TheVariants as port
use Rattle.actor_names.specs.MailNames.{members}
use Rattle.local_spawn.specs.Table.{begun as spawner_begun}
use Rattle.program_law.specs.Post.Posts.{Done, Posted}
use Rattle.program_law.specs.Post.Senders.{IsFirst, is_on}
use Rattle.program_law.proofs.Post.Asks.{losses_keep, starts_posted}
use Rattle.program_law.proofs.Post.Senders.{senders_keep}
use Rattle.queue_inject.proofs.Acts.{IsAlone, next_alone}
use Rattle.send_core.specs.declared.desk.Desk.{Desk}
use Rattle.send_core.specs.Table.{begun}
use Rattle.send_known.specs.declared.channel.Channel.TheVariants as channel
use Rattle.world_pipes.specs.Pipework.{no_pipework, with_child}
use Rattle.world_pipes.specs.Pipework.Tenant.{Runs}
use Rattle.world_events.specs.declared.event.Program.{Program}
use Rattle.world_events.specs.declared.event.Program.TheVariants.{Injector, Cleaner, Sender, LocalSpawner, RemoteSpawner, Delivery}
use Rattle.mail_world.specs.History.{Actor, Allowed, Event, IsLocalSpawner, IsProgramOf, IsSender, Legal, Life, MayBear, MayDo, MayRun, State, acted, after, bears, begins, cut_off, happens, newborn, next_of, opening, slot_by, stopped}
use Rattle.mail_world.specs.History.Event.{Start, Act, Child, Generation, Report, End, Stop, Moment, Halt}
use Rattle.mail_world.specs.History.Life.{Alive, Over, Stopped}
use Rattle.mail_world.proofs.Members.{are_four, four_lspawn, four_other, four_sender, member_contained}
use Rattle.world_law.specs.Crew.{IsNamed, is_alive}
use Rattle.world_law.specs.Inv.{Inv}
use Rattle.world_law.specs.inside.Posts.{PostsStand, View, WasDone, desk_in, place_in, post_of, sends_by, sends_in, serves_by, serves_in, view_of}
use Rattle.world_law.proofs.Halted.{stopped_dead}
use Rattle.world_law.proofs.Histories.{always}
use Rattle.world_law.proofs.PostEvents.{IsNeither, ends_leave, neither_acts, neither_seen}
use Rattle.world_law.proofs.PostPipes.{asked_output, names_apart, slots_left, told_output}
use Rattle.world_law.proofs.PostSends.{sender_acts, sender_moves}
use Rattle.world_law.proofs.PostServes.{spawner_acts, spawner_bears}
use Rattle.world_law.proofs.PostViews.{Leaves, halves, new_keeps_done, posts_left, put_seen, view_same}
use Rattle.world_law.proofs.Ran.{born_comes}
use Rattle.world_law.proofs.Starts.{is_cleaner, is_local, is_remote, is_sender, no_member}

-- At the start nobody is there

opening_stands : (d : Disk) → PostsStand (opening d)
opening_stands d = record {
  tasks = λ slot. None;
  last = λ slot. None;
  done = [];
  posted = losses_keep.gone (post_of (view_of (λ a. None) no_pipework) (λ slot. None) (λ slot. None) []) refl refl;
  first = senders_keep.begins None;
  run = λ slot k h. absurd (cc);
  was = λ x among. absurd among;
}

-- An actor starts that is neither side

begins_left : (s : State) → PostsStand s → (a : List ℕ) (program : Program) → IsNeither program → s.actors a ≡ None → PostsStand (begins s a program s.pipework)
begins_left s P a program it new =
    let y : Actor = newborn program in
    let seen : halves (Some y) ≡ halves (s.actors a) = neither_seen program it [] Alive ∙ sym (ap halves new) in
    posts_left s (begins s a program s.pipework) (record {
      view = view_same s.actors (put_at s.actors a (Some y)) s.pipework s.pipework (put_seen halves s.actors a y (codes "sender") seen) (put_seen halves s.actors a y (codes "lspawn") seen) refl refl;
      keeps = new_keeps_done s.actors a y new;
      homes = λ b z there. refl;
      slots = λ slot. refl;
    }) P

starts_stand : (s : State) → PostsStand s → (a : List ℕ) (program : Program) → s.actors a ≡ None → MayRun program → PostsStand (begins s a program s.pipework)
starts_stand s P a (Injector args) new runs = begins_left s P a (Injector args) tt new
starts_stand s P a other new runs = absurd runs

-- Or as a child of another one than the local spawner

pub child_neither : (asked : ChildData) (pid : ℕ) (program : Program) → IsProgramOf asked pid program → IsNeither program
child_neither (child.Bounce room) pid (Injector args) it = tt
child_neither (child.Forward uid room) pid (Injector args) it = tt
child_neither (child.Local slot words uid) pid (Delivery start args) it = tt
child_neither asked pid program it = absurd it

pub bears_leaves : (s : State) (parent : List ℕ) → parent ≢ codes "lspawn" → (own : Own) (a : List ℕ) (program : Program) → IsNeither program → s.actors a ≡ None
    → Leaves s (bears s parent own a program)
bears_leaves s parent apart own a program it new =
    let y : Actor = newborn program in
    let seen : halves (Some y) ≡ halves (s.actors a) = neither_seen program it [] Alive ∙ sym (ap halves new) in
    record {
      view = view_same s.actors (put_at s.actors a (Some y)) s.pipework (with_child s.pipework parent (slot_by own.due) a)
          (put_seen halves s.actors a y (codes "sender") seen) (put_seen halves s.actors a y (codes "lspawn") seen)
          (told_output s.pipework channel.Local parent (slot_by own.due)) (asked_output s.pipework channel.Local parent (slot_by own.due));
      keeps = new_keeps_done s.actors a y new;
      homes = λ b z there. put_at_other s.pipework.slots a (Some (record { parent = parent; number = slot_by own.due })) b
          (λ same. let both : ◌≡◌ {A = Option Actor} None (Some z) = sym new ∙ ap s.actors (sym same) ∙ there in absurd (cc));
      slots = λ slot. slots_left s.pipework.programs parent (codes "lspawn") (slot_by own.due) (Some (Runs a)) slot apart;
    }

module _ (s : State) (I : Inv s) (P : PostsStand s) (parent : List ℕ) (own : Own) (a : List ℕ) (program : Program) (may : MayBear s parent own a program) where
  abbrev x : Actor
  x = may.actor

  abbrev moved : State
  moved = acted s parent own 0 (Some x)

  -- the child is new then too
  pub still_new : moved.actors a ≡ None
  still_new =
      let y : Actor = record { program = x.program; past = own ∷ x.past; life = x.life } in
      put_at_other s.actors parent (Some y) a apart ∙ may.new
    where
      apart : a ≢ parent
      apart same = let both : ◌≡◌ {A = Option Actor} None (Some x) = sym may.new ∙ ap s.actors same ∙ may.reads.is in absurd (cc)

  borne_left : PostsStand moved → parent ≢ codes "lspawn" → PostsStand (bears moved parent own a program)
  borne_left Q apart = posts_left moved (bears moved parent own a program) (bears_leaves moved parent apart own a program (child_neither may.asked may.pid program may.is) still_new) Q

  by_neither : IsNeither x.program → parent ≢ codes "lspawn" → PostsStand (bears moved parent own a program)
  by_neither it apart = borne_left (neither_acts s I P parent own 0 x may.reads.is it may.due) apart

  bears_by : (z : Program) → x.program ≡ z → IsNamed parent z → PostsStand (bears moved parent own a program)
  bears_by (Sender began) e named =
      borne_left
      (sender_moves s I P parent own 0 x may.reads.is may.reads.alive (subst IsSender (sym e) tt) may.reads.no_later may.due (born_comes s parent own a program may)
      (λ taken. let both : needs.Start may.asked ≡ needs.Take port.Lspawn = sym may.starts ∙ taken in absurd (cc)))
      (λ same. names_apart (codes "sender") (codes "lspawn") refl (sym named ∙ same))
  bears_by (LocalSpawner began) e named =
      spawner_bears s I P parent own x may.reads.is may.reads.alive (subst IsLocalSpawner (sym e) tt) may.due may.asked may.starts may.pid may.came a may.new program may.is
  bears_by (Injector args) e named =
      let due : next_of (Injector args) x.past own.read own.ready ≡ needs.Start may.asked =
      subst (λ (p : Program). next_of p x.past own.read own.ready ≡ needs.Start may.asked) e (may.due ∙ may.starts) in
      let none : ⊥ = subst IsAlone due (next_alone args x.past own.read own.ready) in
      absurd none
  bears_by (Cleaner began) e named = by_neither (subst IsNeither (sym e) tt) (λ same. names_apart (codes "clean") (codes "lspawn") refl (sym named ∙ same))
  bears_by (RemoteSpawner began) e named = by_neither (subst IsNeither (sym e) tt) (λ same. names_apart (codes "rspawn") (codes "lspawn") refl (sym named ∙ same))
  bears_by (Delivery began args) e named = by_neither (subst IsNeither (sym e) tt)
      (λ same. named (subst (λ (n : List ℕ). Contains members n) (sym same) (member_contained (codes "lspawn") refl)))

  children_stand : PostsStand (happens s (Child parent own a program))
  children_stand = subst (λ (o : Option Actor). PostsStand (bears (acted s parent own 0 o) parent own a program)) (sym may.reads.is)
      (bears_by x.program refl (I.crew parent x may.reads.is))

-- A generation starts: nothing that was done is lost

pub generation_done : (s : State) → Inv s → (sender clean lspawn rspawn : Program) (x : Done) → WasDone s x
    → WasDone (happens s (Generation (sender ∷ clean ∷ lspawn ∷ rspawn ∷ []))) x
generation_done s I sender clean lspawn rspawn x h =
    let apart : Contains members x.task.name → ⊥ = subst (λ (z : Program). IsNamed x.task.name z) h.is_for.program (I.crew x.task.name h.is_for.delivery h.is_for.is) in
    record {
      is_for = record {
        delivery = h.is_for.delivery;
        is = four_other s.actors sender clean lspawn rspawn x.task.name (no_member x.task.name apart) ∙ h.is_for.is;
        start = h.is_for.start;
        args = h.is_for.args;
        program = h.is_for.program;
        sender = h.is_for.sender;
        recipient = h.is_for.recipient;
      };
      in_slot = h.in_slot;
      over = h.over;
    }

module _ (s : State) (I : Inv s) (P : PostsStand s) (first second third last : ℕ) where
  abbrev pub four_begun : State
  four_begun = happens s (Generation (Sender first ∷ Cleaner second ∷ LocalSpawner third ∷ RemoteSpawner last ∷ []))

  abbrev pub begun_view : View
  begun_view = record { desk = begun None; sends = true; place = spawner_begun; serves = true; told = []; asked = [] }

  sender_is : four_begun.actors (codes "sender") ≡ Some (newborn (Sender first))
  sender_is = four_sender s.actors (Sender first) (Cleaner second) (LocalSpawner third) (RemoteSpawner last)

  pub lspawn_is : four_begun.actors (codes "lspawn") ≡ Some (newborn (LocalSpawner third))
  lspawn_is = four_lspawn s.actors (Sender first) (Cleaner second) (LocalSpawner third) (RemoteSpawner last)

  pub seen_begun : view_of four_begun.actors four_begun.pipework ≡ begun_view
  seen_begun = λ i. record {
    desk = desk_in (sender_is i);
    sends = sends_in (sender_is i);
    place = place_in (lspawn_is i);
    serves = serves_in (lspawn_is i);
    told = [];
    asked = [];
  }

  generation_stands : PostsStand four_begun
  generation_stands = record {
    tasks = λ slot. None;
    last = P.last;
    done = P.done;
    posted = subst (λ (v : View). Posted (post_of v (λ slot. None) P.last P.done)) (sym seen_begun) (starts_posted (λ slot. None) P.last P.done).0;
    first = subst (λ (v : View). IsFirst v.desk.row v.desk) (sym seen_begun) (senders_keep.begins None);
    run = λ slot k h. absurd (cc);
    was = λ x among. generation_done s I (Sender first) (Cleaner second) (LocalSpawner third) (RemoteSpawner last) x (P.was x among);
  }

generations_stand : (s : State) → Inv s → PostsStand s → (sender clean lspawn rspawn : Program) → Allowed s (Generation (sender ∷ clean ∷ lspawn ∷ rspawn ∷ []))
    → PostsStand (happens s (Generation (sender ∷ clean ∷ lspawn ∷ rspawn ∷ [])))
generations_stand s I P sender clean lspawn rspawn may =
    let one = is_sender sender may.kinds.0 in
    let two = is_cleaner clean may.kinds.1.0 in
    let three = is_local lspawn may.kinds.1.1.0 in
    let four = is_remote rspawn may.kinds.1.1.1.0 in
    subst (λ (p : Program). PostsStand (happens s (Generation (p ∷ clean ∷ lspawn ∷ rspawn ∷ [])))) (sym one.1)
    (subst (λ (p : Program). PostsStand (happens s (Generation (Sender one.0 ∷ p ∷ lspawn ∷ rspawn ∷ [])))) (sym two.1)
    (subst (λ (p : Program). PostsStand (happens s (Generation (Sender one.0 ∷ Cleaner two.0 ∷ p ∷ rspawn ∷ [])))) (sym three.1)
    (subst (λ (p : Program). PostsStand (happens s (Generation (Sender one.0 ∷ Cleaner two.0 ∷ LocalSpawner three.0 ∷ p ∷ [])))) (sym four.1)
    (generation_stands s I P one.0 two.0 three.0 four.0))))

-- The machine stops: both sides are gone

dead_sends : (program : Program) (life : Life) → is_alive life ≡ false → sends_by program life ≡ false
dead_sends (Sender since) life dead = dead
dead_sends program life dead = refl

dead_serves : (program : Program) (life : Life) → is_alive life ≡ false → serves_by program life ≡ false
dead_serves (LocalSpawner since) life dead = dead
dead_serves program life dead = refl

pub sends_halted : (o : Option Actor) → sends_in (option_map stopped o) ≡ false
sends_halted None = refl
sends_halted (Some x) = dead_sends x.program (cut_off x.life) (stopped_dead x.life)

serves_halted : (o : Option Actor) → serves_in (option_map stopped o) ≡ false
serves_halted None = refl
serves_halted (Some x) = dead_serves x.program (cut_off x.life) (stopped_dead x.life)

desk_halted : (o : Option Actor) → desk_in (option_map stopped o) ≡ desk_in o
desk_halted None = refl
desk_halted (Some x) = refl

pub halts_stand : (s : State) → PostsStand s → (how : Survival) (contents : ℕ → List ℕ) → PostsStand (happens s (Halt how contents))
halts_stand s P how contents = record {
  tasks = λ slot. None;
  last = P.last;
  done = [];
  posted = losses_keep.gone (post_of (view_of (λ a. option_map stopped (s.actors a)) no_pipework) (λ slot. None) P.last [])
      (ap (λ (b : Bool). b && is_on (desk_in (option_map stopped (s.actors (codes "sender")))).row) (sends_halted (s.actors (codes "sender")))) (serves_halted (s.actors (codes "lspawn")));
  first = subst (λ (d : Desk). IsFirst d.row d) (sym (desk_halted (s.actors (codes "sender")))) P.first;
  run = λ slot k h. absurd (cc);
  was = λ x among. absurd among;
}

-- Each event

act_by : (s : State) → Inv s → PostsStand s → (a : List ℕ) (own : Own) (wrote : ℕ) (may : MayDo s a own wrote) (program : Program) → may.actor.program ≡ program
    → PostsStand (acted s a own wrote (Some may.actor))
act_by s I P a own wrote may (Sender began) e =
    sender_acts s I P a own wrote may.actor may.reads.is may.reads.alive (subst IsSender (sym e) tt) may.reads.no_later may.due may.came
act_by s I P a own wrote may (LocalSpawner began) e =
    spawner_acts s I P a own wrote may.actor may.reads.is may.reads.alive (subst IsLocalSpawner (sym e) tt) may.due may.came
act_by s I P a own wrote may other e = neither_acts s I P a own wrote may.actor may.reads.is (subst IsNeither (sym e) tt) may.due

posts_keep : (e : Event) (s : State) → Inv s → PostsStand s → Allowed s e → PostsStand (happens s e)
posts_keep (Start a program) s I P may = starts_stand s P a program may.new may.runs
posts_keep (Act a own wrote) s I P may =
    subst (λ (o : Option Actor). PostsStand (acted s a own wrote o)) (sym may.reads.is) (act_by s I P a own wrote may may.actor.program refl)
posts_keep (Child parent own a program) s I P may = children_stand s I P parent own a program may
posts_keep (Generation (sender ∷ clean ∷ lspawn ∷ rspawn ∷ [])) s I P may = generations_stand s I P sender clean lspawn rspawn may
posts_keep (Generation crew) s I P may = absurd (are_four crew may.kinds)
posts_keep (Report slot output) s I P may =
    posts_left s (happens s (Report slot output)) (record { view = refl; keeps = λ a x is. (x, is, refl, λ h. h); homes = λ a x is. refl; slots = λ d. refl }) P
posts_keep (End a read ready status) s I P may = ends_leave s I P a may.actor may.reads.is may.reads.alive (Over status) refl
posts_keep (Stop a) s I P may = ends_leave s I P a may.actor may.is may.alive Stopped refl
posts_keep (Moment m) s I P may = posts_left s (happens s (Moment m)) (record { view = refl; keeps = λ a x is. (x, is, refl, λ h. h); homes = λ a x is. refl; slots = λ d. refl }) P
posts_keep (Halt how contents) s I P may = halts_stand s P how contents

pub posts_always : (d : Disk) (before : List Event) → Legal d before → PostsStand (after d before)
posts_always d [] legal = opening_stands d
posts_always d (e ∷ before) legal =
    posts_keep e (after d before) (always d before legal.0) (posts_always d before legal.0) legal.1

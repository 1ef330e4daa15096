-- An actor has ended or was stopped: what it held open is closed, and nothing else of the queue changed.
use Rattle.std.proofs.Common.{◌≡◌, ◌≢◌, ◌⊎◌, inl, inr, ℕ, List, Bool, true, false, Option, Some, None, refl, sym, ap, ◌∙◌, subst, ⊎_elim, codes, if◌then◌else◌}
use Rattle.std.proofs.lemmas.Bool.Decides.{eqb_tells}
use Rattle.call_fs.specs.Disk.{Open}
use Rattle.call_fs.specs.Maps.{put_at}
use Rattle.call_fs.proofs.Maps.{put_at_cases}
use Rattle.call_fs.specs.declared.past.Own.{Own}
use Rattle.call_fs.specs.declared.past.NeedData.TheVariants as needs
use Rattle.call_fs.specs.declared.program.Port.TheVariants as port
use Rattle.call_fs.specs.declared.program.Ready.{Ready}
use Rattle.program_law.specs.Errand.Errands.{Awaits, Link, loses}
use Rattle.program_law.specs.Errand.Errands.Awaits.{Over as Lost}
use Rattle.program_law.proofs.Errand.Links.{losses_keep}
use Rattle.queue_inject.specs.declared.row.Row.TheVariants as inject
use Rattle.queue_inject.specs.Table.{place_after as inject_after}
use Rattle.queue_clean.specs.Commands.{message_of}
use Rattle.queue_clean.specs.Table.{Place, place_after}
use Rattle.local_spawn.specs.Table.{place_after as local_after}
use Rattle.remote_spawn.specs.Table.{place_after as spawn_after}
use Rattle.send_parts.specs.declared.row.Row.{Row}
use Rattle.send_parts.specs.declared.row.Row.TheVariants as at
use Rattle.send_core.specs.Table.{place_after as send_after}
use Rattle.send_core.specs.Turn.{known_of}
use Rattle.send_parts.specs.declared.rows.FinishRow.TheVariants as finish
use Rattle.todo_pass.specs.declared.row.Row.{Row as PassRow}
use Rattle.todo_pass.specs.declared.row.Row.TheVariants as todo
use Rattle.todo_pass.specs.Table.{Pass}
use Rattle.program_law.specs.Delivery.Rests.{DeliveryRests}
use Rattle.program_law.proofs.Delivery.Stay.{drops_stay}
use Rattle.local_deliver.specs.Carried.{IsCarried}
use Rattle.local_deliver.proofs.Carrying.{carried_out}
use Rattle.local_parts.specs.declared.arguments.LocalArgs.{LocalArgs}
use Rattle.queue_law.specs.Books.{Books}
use Rattle.queue_law.specs.Injectors.{IsHeld}
use Rattle.queue_law.specs.Numbers.{Queue, About, about, IsPreprocessed}
use Rattle.queue_law.specs.Cleaners.{Needs, IsBeside}
use Rattle.queue_law.specs.Rests.{Spares, SparesNames}
use Rattle.queue_law.specs.Steps.{Elsewhere}
use Rattle.queue_law.proofs.Frame.{injector_frame, still_there}
use Rattle.queue_law.proofs.Injectors.{injector_done, injector_over}
use Rattle.queue_law.proofs.RestIsKept.{rest_is_kept}
use Rattle.queue_law.proofs.Tests.{unless_same}
use Rattle.program_law.specs.Sender.InTodo.{IsExpected}
use Rattle.program_law.specs.Sender.Stands.{SparesSorted}
use Rattle.program_law.specs.Sender.LeftAlone.{LeavesPass, LeavesRow}
use Rattle.program_law.proofs.Sender.Asking.{texts_keep}
use Rattle.program_law.proofs.Sender.LeftAlone.{senders_are_left_alone}
use Rattle.world_pipes.specs.Pipework.{Pipe, closed, without_writer, is_writer, writer}
use Rattle.world_events.specs.declared.event.Program.{Program}
use Rattle.world_events.specs.declared.event.Program.TheVariants.{Injector, Cleaner, Sender, LocalSpawner, RemoteSpawner, Delivery}
use Rattle.mail_world.specs.History.{Actor, Life, State, next_of, unless_by, shut_by, finished}
use Rattle.mail_world.specs.History.Life.{Alive, Over, Stopped}
use Rattle.mail_world.specs.Untouched.{queue}
use Rattle.world_law.specs.Crew.{is_alive, is_well, awaits_by, awaits_in, place_in, lives_by, lives_in, link_in, IsNamed}
use Rattle.world_law.specs.Deliveries.{AreForwarded}
use Rattle.world_law.specs.Fares.{FaresBy, IfAlive}
use Rattle.world_law.specs.Inv.{Inv, ErrandRests, ErrandsRest}
use Rattle.world_law.specs.Laws.{EndsKeep, StopsKeep}
use Rattle.world_law.proofs.Forwarded.{delivery_left}
use Rattle.world_law.proofs.Held.{lspawn_holds, spawner_holds}
use Rattle.world_law.proofs.Tenants.{GoesOn, dead_child, one_child, one_crewed, one_keeps, tenants_kept}

-- Steps that change nothing that concerns a number

module _ (q r : Queue) (same : (n : ℕ) → about r n ≡ about q n) where
  leaves_pass : (row : PassRow) (p : Pass) → LeavesPass row p None q r
  leaves_pass todo.Answer p = λ (h : IsExpected (about q p.n) (known_of p)). subst (λ (w : About). IsExpected w (known_of p)) (sym (same p.n)) h
  leaves_pass todo.Done p = tt
  leaves_pass (todo.Left why) p = tt
  leaves_pass todo.Lost p = tt
  leaves_pass row p = (λ e. absurd (cc), same p.n)

  leaves_row : (row : Row) (p : Pass) → LeavesRow row p None q r
  leaves_row at.InTodo p = leaves_pass p.row p
  leaves_row (at.Finish finish.Give n) p = λ e. absurd (cc)
  leaves_row (at.Sweep row) p = λ n is e. absurd (cc)
  leaves_row row p = tt

-- what such a step leaves of an errand, if it spares all closed numbers
module _ (now : ℕ) (q r : Queue) (S : Spares now None q r) where
  none : (n : ℕ) → None ≢ Some n
  none n e = absurd (cc)

  pub errands_spared : (cleans : Bool) (x : Link) → ErrandRests now q cleans x → ErrandRests now r cleans x
  errands_spared cleans x E = record {
    waits = E.waits;
    errand = E.errand;
    rests = λ lives command is.
        let w = E.rests lives command is in
        let n = message_of command in
        record { closed = S.closed n (none n) w.closed; rest = subst (Needs command) (sym (S.abouts n (none n) w.closed)) w.rest };
    asked = λ n is. S.closed n (none n) (E.asked n is);
    told = λ n is well.
        let w = E.told n is well in
        record { closed = S.closed n (none n) w.closed; rest = subst (IsPreprocessed) (sym (S.abouts n (none n) w.closed)) w.rest };
  }

-- The sender is lost, or goes on, and the cleaner too

module _ (now : ℕ) (q : Queue) (lives later : Bool) (x : Link) (still : later ≡ true → lives ≡ true) (E : ErrandRests now q lives x) where
  errands_lost : ErrandRests now q later (loses x)
  errands_lost = record {
    waits = E.waits;
    errand = losses_keep.lost E.waits x E.errand;
    rests = λ alive. E.rests (still alive);
    asked = λ n h. absurd (cc);
    told = λ n h. absurd (cc);
  }

  errands_go_on : ErrandRests now q later x
  errands_go_on = record { waits = E.waits; errand = E.errand; rests = λ alive. E.rests (still alive); asked = E.asked; told = E.told }

  errands_by : (w : Awaits) → (w ≡ Lost) ⊎ (w ≡ x.awaits)
      → ErrandRests now q later (record { awaits = w; place = x.place; given = x.given; answers = x.answers })
  errands_by w is = ⊎_elim
      (λ (lost : w ≡ Lost). subst (λ (v : Awaits). ErrandRests now q later (record { awaits = v; place = x.place; given = x.given; answers = x.answers })) (sym lost) errands_lost)
      (λ (same : w ≡ x.awaits). subst (λ (v : Awaits). ErrandRests now q later (record { awaits = v; place = x.place; given = x.given; answers = x.answers })) (sym same) errands_go_on)
      is

  pub errands_at : (w : Awaits) (p : Place) (given answers : List ℕ) → (w ≡ Lost) ⊎ (w ≡ x.awaits) → p ≡ x.place → given ≡ x.given → answers ≡ x.answers
      → ErrandRests now q later (record { awaits = w; place = p; given = given; answers = answers })
  errands_at w p given answers is place same told =
      subst (λ (z : Place). ErrandRests now q later (record { awaits = w; place = z; given = given; answers = answers })) (sym place)
      (subst (λ (z : List ℕ). ErrandRests now q later (record { awaits = w; place = x.place; given = z; answers = answers })) (sym same)
      (subst (λ (z : List ℕ). ErrandRests now q later (record { awaits = w; place = x.place; given = x.given; answers = z })) (sym told)
      (errands_by w is)))

-- a pipe that is shut has its bytes
pub bytes_shut : (t : Bool) (p : Pipe) → (if t then closed p else p).bytes ≡ p.bytes
bytes_shut true p = refl
bytes_shut false p = refl

-- An actor is over

-- an injector that is at its end with 0, and a delivery
abbrev IsDone : Program → List Own → Type 0
IsDone (Injector args) past = inject_after args past ≡ inject.Queued
IsDone (Delivery start args) past = IsCarried args past
IsDone other past = Unit {0}

done_at : (now : ℕ) (q : Queue) (a : List ℕ) (program : Program) (past : List Own) (life : Life) (read : ℕ) (ready : Ready)
    → FaresBy now q a program past life → life ≡ Alive → next_of program past read ready ≡ needs.Ended 0 → IsDone program past
done_at now q a (Injector args) past life read ready F alive next =
    injector_done now q a args past (is_alive life) (is_well life) read ready F (ap is_alive alive) next
done_at now q a (Delivery start args) past Alive read ready F alive next = carried_out args past read ready F.rests.run next
done_at now q a (Delivery start args) past life read ready F alive next = absurd (cc)
done_at now q a other past life read ready F alive next = tt

zero_of : (status : ℕ) → is_well (Over status) ≡ true → status ≡ 0
zero_of status well = ⊎_elim (λ w. w.1) (λ w. let v = sym w.0 ∙ well in absurd (cc)) (eqb_tells status 0)

-- what holds of an actor with this life
abbrev with_life : Actor → Life → Actor
with_life x life = record { program = x.program; past = x.past; life = life }

-- a delivery that is over rests on nothing
rests_over : (q r : Queue) (a : List ℕ) (args : LocalArgs) (past : List Own) (life : Life) → is_alive life ≡ false → IfAlive life (DeliveryRests r a args past)
rests_over q r a args past Alive dead = absurd (cc)
rests_over q r a args past (Over status) dead = tt
rests_over q r a args past Stopped dead = tt

-- of one that is over, only an injector's account of itself is asked, and a delivery's
fares_over : (now : ℕ) (q r : Queue) → r.books ≡ q.books → (a : List ℕ) (program : Program) (past : List Own) (old life : Life)
    → is_alive life ≡ false → (is_well life ≡ true → IsDone program past) → FaresBy now q a program past old → FaresBy now r a program past life
fares_over now q r same a (Injector args) past old life dead ends F =
    injector_over now q r same a args past (is_alive old) (is_well old) (is_alive life) (is_well life) F (λ h. absurd (cc)) ends
fares_over now q r same a (Delivery start args) past old life dead ends F = record {
  rests = rests_over q r a args past life dead;
  forwards = subst (λ (b : Books). AreForwarded b past) (sym same) F.forwards;
  well = ends;
}
fares_over now q r same a other past old Alive dead ends F = absurd (cc)
fares_over now q r same a other past old (Over status) dead ends F = tt
fares_over now q r same a other past old Stopped dead ends F = tt

awaits_over : (life : Life) (program : Program) (past : List Own) → is_alive life ≡ false → awaits_by life program past ≡ Lost
awaits_over Alive program past dead = absurd (cc)
awaits_over (Over status) program past dead = refl
awaits_over Stopped program past dead = refl

pub dead_cleaner : (program : Program) (life : Life) → is_alive life ≡ false → lives_by program life ≡ false
dead_cleaner (Cleaner start) life dead = dead
dead_cleaner other life dead = refl

module _ (s : State) (I : Inv s) (a : List ℕ) (x : Actor) (is : s.actors a ≡ Some x) (life : Life)
    (dead : is_alive life ≡ false) (ends : is_well life ≡ true → IsDone x.program x.past) where
  abbrev before : Queue
  before = queue s I.role

  abbrev over : Queue
  over = record { disk = shut_by a s.holder s.disk; holder = λ fd. unless_by a (s.holder fd) (s.holder fd); books = s.books; role = I.role }

  still_open : (o : List ℕ) (fd : ℕ) (how : Open) → o ≢ a → IsHeld s.disk.opens s.holder o fd how → IsHeld over.disk.opens over.holder o fd how
  still_open o fd how other h = record {
    opened = ap (λ w. unless_by a w (s.disk.opens fd)) h.held ∙ unless_same o a None (s.disk.opens fd) other ∙ h.opened;
    held = ap (λ w. unless_by a w (s.holder fd)) h.held ∙ unless_same o a None (s.holder fd) other ∙ h.held;
  }

  elsewhere : Elsewhere s.now a None before over
  elsewhere = record {
    looks = λ _ _. refl;
    living = λ _ _. refl;
    opens = still_open;
    roles = λ _ _ _. refl;
    apart = λ _ _ _ _ _ _ _ _ _ h. absurd (cc);
    accepted = λ i h _. still_there s.books i h;
  }

  spares : Spares s.now None before over × SparesNames before over
  spares = rest_is_kept.closed s.now a None before over elsewhere I.sound.suits (λ n h. absurd (cc))

  spares_sorted : SparesSorted before over
  spares_sorted = record { taken_up = λ n h. h; sorted = λ n h info there. refl }

  -- what others hold open

  none_beside : (p : Place) → IsBeside None p
  none_beside p n h = absurd (cc)

  fares_other : (o : List ℕ) → o ≢ a → (program : Program) (past : List Own) (lasts : Life) → FaresBy s.now before o program past lasts
      → FaresBy s.now over o program past lasts
  fares_other o other (Injector args) past lasts F = injector_frame s.now a None before over elsewhere o other args past (is_alive lasts) (is_well lasts) F
  fares_other o other (Cleaner start) past Alive F =
      rest_is_kept.spared s.now None before over spares.0 spares.1 (place_after past) (none_beside (place_after past)) F
  fares_other o other (Sender start) past Alive F =
      let d = send_after None past in
      record {
        stands = senders_are_left_alone.others s.now o a None None before over d elsewhere other spares_sorted spares.0
            (leaves_row before over (λ _. refl) d.row d.pass) F.stands;
        texts = texts_keep.others s.now before over o d spares_sorted F.stands F.texts;
      }
  fares_other o other (LocalSpawner start) past Alive F = lspawn_holds before over o (λ fd how. still_open o fd how other) (local_after past) F
  fares_other o other (RemoteSpawner start) past Alive F = spawner_holds before over o (λ fd how. still_open o fd how other) (spawn_after past).row F
  fares_other o other (Delivery start args) past lasts F =
      delivery_left before over a o other (drops_stay.tmp a before over (drops_stay.same a before over refl refl refl)) (λ fd how. still_open o fd how other) (λ i h accepted. still_there s.books i h) args past lasts F
  fares_other o other program past (Over status) F = tt
  fares_other o other program past Stopped F = tt

  -- the sender and the cleaner

  abbrev actors_after : List ℕ → Option Actor
  actors_after = put_at s.actors a (Some (with_life x life))

  sender_after : (awaits_in (actors_after (codes "sender")) ≡ Lost) ⊎ (awaits_in (actors_after (codes "sender")) ≡ awaits_in (s.actors (codes "sender")))
  sender_after = ⊎_elim
      (λ (c : (codes "sender" ≡ a) × (actors_after (codes "sender") ≡ Some (with_life x life))). inl (ap awaits_in c.1 ∙ awaits_over life x.program x.past dead))
      (λ (c : (codes "sender" ≢ a) × (actors_after (codes "sender") ≡ s.actors (codes "sender"))). inr (ap awaits_in c.1))
      (put_at_cases s.actors a (Some (with_life x life)) (codes "sender"))

  cleaner_after : place_in (actors_after (codes "clean")) ≡ place_in (s.actors (codes "clean"))
  cleaner_after = ⊎_elim
      (λ (c : (codes "clean" ≡ a) × (actors_after (codes "clean") ≡ Some (with_life x life))). ap place_in c.1 ∙ sym (ap place_in (ap s.actors c.0 ∙ is)))
      (λ (c : (codes "clean" ≢ a) × (actors_after (codes "clean") ≡ s.actors (codes "clean"))). ap place_in c.1)
      (put_at_cases s.actors a (Some (with_life x life)) (codes "clean"))

  cleaner_lived : lives_in (actors_after (codes "clean")) ≡ true → lives_in (s.actors (codes "clean")) ≡ true
  cleaner_lived lives = ⊎_elim
      (λ (c : (codes "clean" ≡ a) × (actors_after (codes "clean") ≡ Some (with_life x life))). let w = sym (dead_cleaner x.program life dead) ∙ (sym (ap lives_in c.1) ∙ lives) in absurd (cc))
      (λ (c : (codes "clean" ≢ a) × (actors_after (codes "clean") ≡ s.actors (codes "clean"))). sym (ap lives_in c.1) ∙ lives)
      (put_at_cases s.actors a (Some (with_life x life)) (codes "clean"))

  errands_over : ErrandsRest (finished s a life (Some x)) I.role
  errands_over =
      errands_at s.now over (lives_in (s.actors (codes "clean"))) (lives_in (actors_after (codes "clean"))) (link_in s) cleaner_lived
      (errands_spared s.now before over spares.0 (lives_in (s.actors (codes "clean"))) (link_in s) I.errands)
      (awaits_in (actors_after (codes "sender"))) (place_in (actors_after (codes "clean")))
      ((without_writer s.pipework a).pipes (codes "clean") port.Input).bytes ((without_writer s.pipework a).pipes (codes "sender") port.Clean).bytes
      sender_after cleaner_after
      (bytes_shut (is_writer a (writer s.pipework (codes "clean") port.Input)) (s.pipework.pipes (codes "clean") port.Input))
      (bytes_shut (is_writer a (writer s.pipework (codes "sender") port.Clean)) (s.pipework.pipes (codes "sender") port.Clean))

  -- each actor afterwards
  each_after : (P : Actor → List ℕ → Type 0) → P (with_life x life) a → ((o : List ℕ) (y : Actor) → o ≢ a → s.actors o ≡ Some y → P y o)
      → (o : List ℕ) (y : Actor) → actors_after o ≡ Some y → P y o
  each_after P own others o y h = ⊎_elim
      (λ (c : (o ≡ a) × (actors_after o ≡ Some (with_life x life))).
      let same : with_life x life ≡ y = (let w = c.1 in cc) in
      subst (P y) (sym c.0) (subst (λ (z : Actor). P z a) same own))
      (λ (c : (o ≢ a) × (actors_after o ≡ s.actors o)). others o y c.0 (sym c.1 ∙ h))
      (put_at_cases s.actors a (Some (with_life x life)) o)

  goes : GoesOn (s.actors a) x.program
  goes = subst (λ (o : Option Actor). GoesOn o x.program) (sym is) refl

  pub finished_keeps : Inv (finished s a life (Some x))
  finished_keeps = record {
    role = I.role;
    moment = I.moment;
    sound = record { suits = I.sound.suits; fine = I.sound.fine; over = I.sound.over };
    bounces = I.bounces;
    crew = each_after (λ y o. IsNamed o y.program) (I.crew a x is) (λ o y other h. I.crew o y h);
    fares = each_after (λ y o. FaresBy s.now over o y.program y.past y.life)
        (fares_over s.now before over refl a x.program x.past x.life life dead ends (I.fares a x is))
        (λ o y other h. fares_other o other y.program y.past y.life (I.fares o y h));
    crewed = one_crewed s.actors a (with_life x life) goes I.crewed;
    tenants = tenants_kept s (finished s a life (Some x)) (one_keeps s.actors a (with_life x life) goes) (λ b z there. refl) (λ o d t h. inl h) I.tenants;
    child = one_child s (finished s a life (Some x)) (one_keeps s.actors a (with_life x life) goes) (λ o d t h. inl h) I.tenants a (with_life x life)
        (dead_child (finished s a life (Some x)) a x.program x.past life dead) I.child;
    errands = errands_over;
  }

pub stops_keep : StopsKeep
stops_keep a s I may =
    subst (λ (o : Option Actor). Inv (finished s a Stopped o)) (sym may.is)
    (finished_keeps s I a may.actor may.is Stopped refl (λ h. absurd (cc)))

-- an end comes of the actor's table
pub ends_keep : EndsKeep
ends_keep a read ready status s I may =
    let x = may.actor in
    subst (λ (o : Option Actor). Inv (finished s a (Over status) o)) (sym may.reads.is)
    (finished_keeps s I a x may.reads.is (Over status) refl
    (λ well. let zero_status : status ≡ 0 = zero_of status well in
    done_at s.now (queue s I.role) a x.program x.past x.life read ready (I.fares a x may.reads.is) may.reads.alive (may.due ∙ ap needs.Ended zero_status)))

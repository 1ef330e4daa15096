-- What a sender had in flight stays preprocessed, also once it is gone.
use Rattle.std.proofs.Common.{◌≡◌, ◌≢◌, ⊎_elim, ℕ, ◌≤◌, List, [], ◌∷◌, true, false, Option, Some, None, refl, sym, ap, ◌∙◌, subst, arith, codes}
use Rattle.std.specs.Prelude.{Contains}
use Rattle.call_fs.specs.Disk.{Disk}
use Rattle.call_fs.specs.Maps.{put_at}
use Rattle.call_fs.proofs.Maps.{put_at_cases}
use Rattle.call_fs.specs.declared.past.GotData.{GotData}
use Rattle.call_fs.specs.declared.past.GotData.TheVariants as got
use Rattle.call_fs.specs.declared.past.NeedData.{NeedData}
use Rattle.call_fs.specs.declared.past.NeedData.TheVariants as needs
use Rattle.call_fs.specs.declared.past.Own.{Own}
use Rattle.call_fs.specs.Survival.{halted}
use Rattle.program_law.specs.Channel.Tied.{in_hand, is_at}
use Rattle.program_law.proofs.Channel.Counts.{contained_counts}
use Rattle.program_law.proofs.Channel.Ties.{at_itself}
use Rattle.queue_clean.specs.declared.command.Command.{Command}
use Rattle.queue_clean.specs.declared.command.Command.TheVariants.{Foop, Todo as Sort}
use Rattle.queue_clean.specs.declared.row.Row.{Row}
use Rattle.queue_clean.specs.declared.row.Row.TheVariants as at
use Rattle.queue_clean.specs.Commands.{message_of}
use Rattle.queue_clean.specs.Table.{Place, place_after}
use Rattle.queue_law.specs.Cleaners.{CleanerStands, Needs, StandsAt, number_at}
use Rattle.queue_law.specs.Numbers.{About, Queue, about}
use Rattle.queue_law.specs.Numbers.Role.{AsOld}
use Rattle.queue_law.proofs.Cleaners.{cleaners_keep as calls_keep}
use Rattle.queue_law.proofs.Looks.{find_some, found, mapped_some}
use Rattle.queue_paths.specs.Names.Name.{Of}
use Rattle.queue_paths.specs.Names.Part.{Info}
use Rattle.queue_law.proofs.Waits.{todo_unnamed, todo_absent}
use Rattle.send_parts.specs.declared.row.Row.{Row as SenderRow}
use Rattle.send_core.specs.Table.{place_after as sender_after}
use Rattle.send_jobs.specs.declared.attempts.Attempt.{Attempt}
use Rattle.send_known.specs.declared.channel.Channel.{Channel}
use Rattle.send_jobs.specs.declared.slots.Slots.{Slots}
use Rattle.send_jobs.specs.Jobs.{job_of}
use Rattle.send_jobs.specs.Sending.{lane}
use Rattle.send_jobs.specs.Slots.{attempt_in}
use Rattle.program_law.specs.Sender.Knows.{IsSettledIn, Serves}
use Rattle.program_law.specs.Sender.Stands.{LaneStands}
use Rattle.program_law.specs.Sender.Views.{first_at}
use Rattle.program_law.proofs.Sender.Others.{the_job}
use Rattle.world_events.specs.declared.event.Program.{Program}
use Rattle.world_events.specs.declared.event.Program.TheVariants.{Cleaner, Sender}
use Rattle.mail_world.specs.History.{Actor, Allowed, ComesOf, Event, Legal, Life, MayBear, State, acted, after, bears, books_after, bouncer_of, disk_after, finished, happens, newborn, next_of, stopped}
use Rattle.mail_world.specs.History.Event.{Start, Act, Child, Generation, Report, End, Stop, Moment, Halt}
use Rattle.mail_world.specs.History.Life.{Alive, Over, Stopped}
use Rattle.mail_world.specs.Untouched.{about_in, program_of, queue}
use Rattle.mail_world.proofs.Members.{are_four, four_sender}
use Rattle.world_law.specs.Crew.{IsNamed, is_alive}
use Rattle.world_law.specs.Fares.{FaresBy}
use Rattle.world_law.specs.Inv.{Inv}
use Rattle.world_law.specs.Leaves.{IsSparing, LeavesMost}
use Rattle.world_law.specs.Standing.{FlightsStand, IsOut}
use Rattle.world_law.proofs.Delivered.{flies}
use Rattle.world_law.proofs.Histories.{always}
use Rattle.world_law.proofs.Leaves.{events_leave}
use Rattle.world_law.proofs.Standing.{settled_state}
use Rattle.world_law.proofs.Tenants.{some_actor}

-- what is preprocessed stays so
abbrev KeepsSettled : State → State → Type 0
KeepsSettled s t = (n : ℕ) → IsSettledIn (about_in s n) → IsSettledIn (about_in t n)

-- An event of the cleaner, whose number at work isn't

needs_apart : (command : Command) (w : About) → Needs command w → IsSettledIn w → ⊥
needs_apart (Foop n) w spent h = let none = spent.unsorted Info refl in let there = h.info_there in absurd (cc)
needs_apart (Sort n) w ready h = let none = h.no_todo in let there = ready.queued.todo_there in absurd (cc)

row_apart : (now : ℕ) (q : Queue) (row : Row) (p : Place) (n : ℕ) → StandsAt now q row p → IsSettledIn (about q n) → number_at row ≢ Some n
row_apart now q (at.UnlinkIntd command) p n rests h is =
    let same : message_of command ≡ n = cc in
    needs_apart command (about q (message_of command)) rests.rest (subst (λ (m : ℕ). IsSettledIn (about q m)) (sym same) h)
row_apart now q (at.UnlinkSecond command) p n rests h is =
    let same : message_of command ≡ n = cc in
    needs_apart command (about q (message_of command)) rests.rest.0 (subst (λ (m : ℕ). IsSettledIn (about q m)) (sym same) h)
row_apart now q row p n rests h is = absurd (cc)

abbrev cleaner : ℕ → List Own → Actor
cleaner began past = record { program = Cleaner began; past = past; life = Alive }

module _ (s : State) (I : Inv s) (a : List ℕ) (own : Own) (wrote began : ℕ) (past : List Own) (is : s.actors a ≡ Some (cleaner began past)) (soon : own.read ≤ s.now) where
  abbrev event : NeedData → GotData → Own
  event due came = record { read = own.read; ready = own.ready; due = due; came = came }

  abbrev q : Queue
  q = queue s I.role

  cleaner_kept : (due : NeedData) (came : GotData) → next_of (Cleaner began) past own.read own.ready ≡ due → ComesOf s a due came wrote
      → KeepsSettled s (acted s a (event due came) wrote (Some (cleaner began past)))
  cleaner_kept (needs.File c) (got.Answered told) next comes = λ n h.
      let stands : CleanerStands s.now q (place_after past) = I.fares a (cleaner began past) is in
      let leads = calls_keep s.now q a past own.read own.ready c told wrote I.sound stands soon next comes.0 in
      subst IsSettledIn (sym (leads.abouts n (row_apart s.now q (place_after past).row (place_after past) n stands h))) h
  cleaner_kept (needs.Take from) came next comes = λ n h. h
  cleaner_kept due came next comes = λ n h. h

-- An event of a program that spares what is preprocessed

act_spares : (s : State) (a : List ℕ) (own : Own) (wrote : ℕ) → LeavesMost s (Act a own wrote) → (x : Actor) → s.actors a ≡ Some x → IsSparing (Some x.program)
    → KeepsSettled s (acted s a own wrote (Some x))
act_spares s a own wrote L x is spares = λ n h.
    let left = L.sorted refl (subst (λ (o : Option Actor). IsSparing (program_of o)) (sym is) spares) n (Info, refl, λ none. let there = h.info_there in absurd (cc)) in
    subst (λ (o : Option Actor). IsSettledIn (about_in (acted s a own wrote o) n)) is (subst IsSettledIn (sym left) h)

-- A machine stop

halted_settled : (s : State) (contents : ℕ → List ℕ) (t : State) → t.disk ≡ halted contents s.disk → t.books ≡ s.books → KeepsSettled s t
halted_settled s contents t disk books = λ n h.
    let info = found s.disk.names s.disk.files (Of Info n) h.info h.info_there in
    let there = find_some s.disk.names (halted contents s.disk).files (Of Info n) h.info.number info.0 in
    let none = todo_absent s.disk.names (halted contents s.disk).files n (todo_unnamed s.disk.names s.disk.files n h.no_todo) in
    let then_about : About = about (record { disk = halted contents s.disk; holder = s.holder; books = s.books; role = λ _. AsOld }) n in
    let settled : IsSettledIn then_about = record { no_todo = none; info = record { number = h.info.number; file = (halted contents s.disk).files h.info.number }; info_there = there; injection = h.injection; lives = h.lives } in
    let same : then_about ≡ about_in t n = λ i. about (record { disk = sym disk i; holder = s.holder; books = sym books i; role = λ _. AsOld }) n in
    subst IsSettledIn same settled

-- The sender

-- one that is gone was there before, with the same past, and what was preprocessed is so still
record WasThere (s t : State) (x : Actor) : Type 0 where
  y : Actor
  is : s.actors (codes "sender") ≡ Some y
  program : y.program ≡ x.program
  past : y.past ≡ x.past
  keeps : KeepsSettled s t

abbrev GoneBefore : State → State → Type 0
GoneBefore s t = (x : Actor) → t.actors (codes "sender") ≡ Some x → is_alive x.life ≡ false → WasThere s t x

same_life : (x y : Actor) → ◌≡◌ {A = Option Actor} (Some y) (Some x) → y.life ≡ Alive → is_alive x.life ≡ false → ⊥
same_life x y e alive dead =
    let same : y ≡ x = some_actor y x e in
    let both : true ≡ false = sym (ap is_alive (sym (ap (λ (z : Actor). z.life) same) ∙ alive)) ∙ dead in
    absurd (cc)

-- another actor is put
others_there : (s t : State) (a : List ℕ) (y : Actor) → t.actors ≡ put_at s.actors a (Some y) → y.life ≡ Alive → (codes "sender" ≢ a → KeepsSettled s t) → GoneBefore s t
others_there s t a y put alive keeps x is dead = ⊎_elim
    (λ (c : (codes "sender" ≡ a) × (put_at s.actors a (Some y) (codes "sender") ≡ Some y)).
    let none : ⊥ = same_life x y (sym c.1 ∙ sym (ap (λ (f : List ℕ → Option Actor). f (codes "sender")) put) ∙ is) alive dead in absurd none)
    (λ (c : (codes "sender" ≢ a) × (put_at s.actors a (Some y) (codes "sender") ≡ s.actors (codes "sender"))).
    record { y = x; is = sym c.1 ∙ sym (ap (λ (f : List ℕ → Option Actor). f (codes "sender")) put) ∙ is; program = refl; past = refl; keeps = keeps c.0 })
    (put_at_cases s.actors a (Some y) (codes "sender"))

act_keeps : (s : State) (I : Inv s) (a : List ℕ) (own : Own) (wrote : ℕ) → LeavesMost s (Act a own wrote) → (x : Actor) → s.actors a ≡ Some x → x.life ≡ Alive → own.read ≤ s.now
    → next_of x.program x.past own.read own.ready ≡ own.due → ComesOf s a own.due own.came wrote → (program : Program) → x.program ≡ program → codes "sender" ≢ a
    → KeepsSettled s (acted s a own wrote (Some x))
act_keeps s I a own wrote L x is alive soon due comes (Sender began) e apart = absurd (apart (sym (subst (IsNamed a) e (I.crew a x is))))
act_keeps s I a own wrote L x is alive soon due comes (Cleaner began) e apart =
    let x_is : x ≡ cleaner began x.past = λ i. record { program = e i; past = x.past; life = alive i } in
    subst (λ (z : Actor). KeepsSettled s (acted s a own wrote (Some z))) (sym x_is)
    (cleaner_kept s I a own wrote began x.past (is ∙ ap Some x_is) soon own.due own.came (subst (λ (p : Program). next_of p x.past own.read own.ready ≡ own.due) e due) comes)
act_keeps s I a own wrote L x is alive soon due comes other e apart = act_spares s a own wrote L x is (subst (λ (p : Program). IsSparing (Some p)) (sym e) tt)

-- an end or a stop changes neither a name nor a file
finished_there : (s : State) (a : List ℕ) (life : Life) (x : Actor) → s.actors a ≡ Some x → GoneBefore s (finished s a life (Some x))
finished_there s a life x is z there dead = ⊎_elim
    (λ (c : (codes "sender" ≡ a) × (put_at s.actors a (Some gone) (codes "sender") ≡ Some gone)).
    let same : gone ≡ z = some_actor gone z (sym c.1 ∙ there) in
    record { y = x; is = ap s.actors c.0 ∙ is; program = ap (λ (v : Actor). v.program) same; past = ap (λ (v : Actor). v.past) same; keeps = λ n h. h })
    (λ (c : (codes "sender" ≢ a) × (put_at s.actors a (Some gone) (codes "sender") ≡ s.actors (codes "sender"))).
    record { y = z; is = sym c.1 ∙ there; program = refl; past = refl; keeps = λ n h. h })
    (put_at_cases s.actors a (Some gone) (codes "sender"))
  where
    gone : Actor
    gone = record { program = x.program; past = x.past; life = life }

child_there : (s : State) (parent : List ℕ) (own : Own) (a : List ℕ) (program : Program) (may : MayBear s parent own a program) → GoneBefore s (bears (acted s parent own 0 (Some may.actor)) parent own a program)
child_there s parent own a program may z there dead = ⊎_elim
    (λ (c : (codes "sender" ≡ a) × (put_at mid.actors a (Some (newborn program)) (codes "sender") ≡ Some (newborn program))).
    let none : ⊥ = same_life z (newborn program) (sym c.1 ∙ there) refl dead in absurd none)
    (λ (c : (codes "sender" ≢ a) × (put_at mid.actors a (Some (newborn program)) (codes "sender") ≡ mid.actors (codes "sender"))).
    let w = others_there s mid parent moved refl may.reads.alive (λ apart. kept) z (sym c.1 ∙ there) dead in
    record { y = w.y; is = w.is; program = w.program; past = w.past; keeps = kept })
    (put_at_cases mid.actors a (Some (newborn program)) (codes "sender"))
  where
    x : Actor
    x = may.actor

    moved : Actor
    moved = record { program = may.actor.program; past = own ∷ may.actor.past; life = may.actor.life }

    mid : State
    mid = acted s parent own 0 (Some may.actor)

    same : (n : ℕ) → about_in mid n ≡ about_in s n
    same n = λ i. about (record {
      disk = disk_after s.disk own.read (may.starts i) own.came 0;
      holder = s.holder;
      books = books_after (bouncer_of s parent) s.books parent may.actor.program may.actor.past own.read own.ready (may.starts i) own.came;
      role = λ _. AsOld;
    }) n

    kept : (n : ℕ) → IsSettledIn (about_in s n) → IsSettledIn (about_in mid n)
    kept n h = subst IsSettledIn (sym (same n)) h

gone_before : (e : Event) (s : State) → Inv s → LeavesMost s e → Allowed s e → GoneBefore s (happens s e)
gone_before (Start a program) s I L may = others_there s (happens s (Start a program)) a (newborn program) refl refl (λ apart n h. h)
gone_before (Act a own wrote) s I L may =
    subst (λ (o : Option Actor). GoneBefore s (acted s a own wrote o)) (sym may.reads.is)
    (others_there s (acted s a own wrote (Some may.actor)) a (record { program = may.actor.program; past = own ∷ may.actor.past; life = may.actor.life }) refl may.reads.alive
    (act_keeps s I a own wrote L may.actor may.reads.is may.reads.alive may.reads.no_later may.due may.came may.actor.program refl))
gone_before (Child parent own a program) s I L may =
    subst (λ (o : Option Actor). GoneBefore s (bears (acted s parent own 0 o) parent own a program)) (sym may.reads.is) (child_there s parent own a program may)
gone_before (Generation (sender ∷ clean ∷ lspawn ∷ rspawn ∷ [])) s I L may = λ x is dead.
    let none : ⊥ = same_life x (newborn sender) (sym (four_sender s.actors sender clean lspawn rspawn) ∙ is) refl dead in absurd none
gone_before (Generation crew) s I L may = absurd (are_four crew may.kinds)
gone_before (Report slot output) s I L may = λ x is dead. record { y = x; is = is; program = refl; past = refl; keeps = λ n h. h }
gone_before (End a read ready status) s I L may =
    subst (λ (o : Option Actor). GoneBefore s (finished s a (Over status) o)) (sym may.reads.is) (finished_there s a (Over status) may.actor may.reads.is)
gone_before (Stop a) s I L may = subst (λ (o : Option Actor). GoneBefore s (finished s a Stopped o)) (sym may.is) (finished_there s a Stopped may.actor may.is)
gone_before (Moment m) s I L may = λ x is dead. record { y = x; is = is; program = refl; past = refl; keeps = λ n h. h }
gone_before (Halt how contents) s I L may = λ x is dead.
    let w = mapped_some stopped (s.actors (codes "sender")) x is in
    record {
      y = w.0;
      is = w.1;
      program = ap (λ (v : Actor). v.program) w.2;
      past = ap (λ (v : Actor). v.past) w.2;
      keeps = halted_settled s contents (happens s (Halt how contents)) refl refl;
    }

-- What it has or had in flight

abbrev FlightOf : State → List Own → Type 0
FlightOf s past = (ch : Channel) (t : Attempt) → IsOut (sender_after None past) ch t → IsSettledIn (about_in s t.n)

left_serves : (q : Queue) (row : SenderRow) (ch : Channel) (s : Slots) → LaneStands q row ch s → (t : Attempt) → Contains (lane ch s).left t → Serves (about q t.n) ch
left_serves q row ch s l t w =
    let one = contained_counts (is_at t.n t.place) (lane ch s).left t w (at_itself t) in
    let held : 1 ≤ in_hand (first_at row ch) t.n t.place (lane ch s) = omega (arith, one) in
    let job = the_job (job_of t.n (lane ch s).jobs) (l.tied.owned t.n t.place held) in
    l.jobs t.n job.0 job.1

abbrev AllFlights : State → Type 0
AllFlights s = (x : Actor) → s.actors (codes "sender") ≡ Some x → (start : ℕ) → x.program ≡ Sender start → FlightOf s x.past

alive_flight : (s : State) (I : Inv s) (a : List ℕ) (program : Program) (past : List Own) (life : Life) → life ≡ Alive → (start : ℕ) → program ≡ Sender start
    → FaresBy s.now (queue s I.role) a program past life → FlightOf s past
alive_flight s I a (Sender since) past Alive alive start is F = λ ch t out.
    let d = sender_after None past in
    let q = queue s I.role in
    ⊎_elim
    (λ (flying : (slot : ℕ) × (attempt_in (lane ch d.slots).slots slot ≡ Some t)).
    (flies q d.row ch d.slots I.sound (F.stands.lanes ch) flying.0 t flying.1).sorted)
    (λ (left : Contains (lane ch d.slots).left t). (left_serves q d.row ch d.slots (F.stands.lanes ch) t left).sorted)
    out
alive_flight s I a (Sender since) past life alive start is F = absurd (cc)
alive_flight s I a program past life alive start is F = absurd (cc)

flights_keep : (s t : State) → Inv t → GoneBefore s t → AllFlights s → AllFlights t
flights_keep s t I gone F x is start program = by x.life refl where
  dead : is_alive x.life ≡ false → FlightOf t x.past
  dead e =
      let w = gone x is e in
      subst (FlightOf t) w.past (λ ch k out. w.keeps k.n (F w.y w.is start (w.program ∙ program) ch k out))

  by : (life : Life) → x.life ≡ life → FlightOf t x.past
  by Alive e = alive_flight t I (codes "sender") x.program x.past x.life e start program (I.fares (codes "sender") x is)
  by (Over status) e = dead (ap is_alive e)
  by Stopped e = dead (ap is_alive e)

flights_always : (d : Disk) (before : List Event) → Legal d before → AllFlights (after d before)
flights_always d [] legal = λ x is start program. absurd (cc)
flights_always d (e ∷ before) legal =
    flights_keep (after d before) (after d (e ∷ before)) (always d (e ∷ before) legal)
    (gone_before e (after d before) (always d before legal.0) (events_leave d e before legal) legal.1)
    (flights_always d before legal.0)

pub flights_stand : FlightsStand
flights_stand d before legal x is start program ch t out =
    let s = after d before in
    let I = always d before legal in
    settled_state (queue s I.role) t.n (I.sound.fine t.n) (flights_always d before legal x is start program ch t out)

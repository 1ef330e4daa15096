-- Of each local recipient that is accounted for as delivered a delivery for its address has ended with 0, and took the message as entered.
use Rattle.std.proofs.Common.{◌≡◌, ◌≢◌, ◌⊎◌, inl, inr, ⊎_elim, ℕ, List, [], ◌∷◌, ◌++◌, true, ◌&&◌, option_map, Option, Some, None, refl, sym, ap, ◌∙◌, subst, codes, arith, ◌≤◌}
use Rattle.std.specs.Prelude.{Contains}
use Rattle.address_rules.specs.declared.controls.Controls.{Controls}
use Rattle.call_fs.specs.Disk.{Among, Disk}
use Rattle.call_fs.proofs.Maps.{put_at_other}
use Rattle.call_fs.specs.declared.past.GotData.{GotData}
use Rattle.call_fs.specs.declared.past.GotData.TheVariants as got
use Rattle.call_fs.specs.declared.past.NeedData.{NeedData}
use Rattle.call_fs.specs.declared.past.NeedData.TheVariants as needs
use Rattle.call_fs.specs.declared.past.Own.{Own}
use Rattle.call_fs.specs.declared.program.Port.TheVariants as port
use Rattle.actor_names.specs.MailNames.{members}
use Rattle.call_fs.specs.Past.{taken}
use Rattle.local_parts.specs.Inputs.{message_in}
use Rattle.program_law.specs.Post.Posts.{Done, Task}
use Rattle.program_law.specs.Post.Senders.{is_on}
use Rattle.queue_inject.specs.declared.injection.Arguments.{Arguments}
use Rattle.queue_inject.specs.Texts.{entered}
use Rattle.queue_law.specs.Books.{Injection, IsInjected, routed_in, spot_in}
use Rattle.queue_law.specs.Ledgers.{Spot, Ledger}
use Rattle.queue_law.specs.Numbers.{Queue}
use Rattle.queue_law.specs.Routes.{Recipient, routed, spot_of}
use Rattle.send_core.specs.declared.desk.Desk.{Desk}
use Rattle.send_parts.specs.declared.row.Row.{Row}
use Rattle.send_parts.specs.declared.row.Row.TheVariants as at
use Rattle.send_core.specs.Booked.{booked_at, reported_when}
use Rattle.send_core.specs.Desk.{link, with_reader}
use Rattle.send_core.specs.Table.{place_after as sender_after, due_at, row_now}
use Rattle.send_jobs.specs.Bookings.Booking.{Reported, Routed}
use Rattle.send_known.specs.declared.channel.Channel.{Channel}
use Rattle.send_known.specs.declared.channel.Channel.TheVariants.{Local}
use Rattle.send_jobs.specs.Sending.{lane}
use Rattle.send_jobs.specs.Slots.{attempt_in}
use Rattle.send_parts.specs.declared.reply.Way.{Way}
use Rattle.send_parts.specs.declared.reply.Way.TheVariants as way
use Rattle.send_parts.specs.Replies.{said}
use Rattle.spawn_protocol.specs.Report.{read_on}
use Rattle.program_law.specs.Sender.Rows.{RowStands, works}
use Rattle.todo_pass.specs.declared.row.Row.{Row as PassRow}
use Rattle.world_pipes.specs.Pipework.{Pipe, Yields}
use Rattle.world_events.specs.declared.event.Program.{Program}
use Rattle.world_events.specs.declared.event.Program.TheVariants.{Sender}
use Rattle.mail_world.specs.History.{Actor, Allowed, ComesOf, Event, Legal, Life, State, acted, after, bears, cut_off, finished, happens, newborn, next_of, stopped}
use Rattle.mail_world.specs.History.Event.{Start, Act, Child, Generation, Report, End, Stop, Moment, Halt}
use Rattle.mail_world.specs.History.Life.{Alive, Over, Stopped}
use Rattle.mail_world.specs.Untouched.{queue}
use Rattle.world_law.specs.Bounces.{IsKept}
use Rattle.world_law.specs.Crew.{IsNamed}
use Rattle.world_law.specs.Inv.{Inv}
use Rattle.world_law.specs.Deliveries.{IsCarriedOut}
use Rattle.world_law.specs.Headline.{EndsWell}
use Rattle.world_law.specs.inside.Posts.{IsDeliveryFor, PostsStand, WasDone, desk_in, sends_in}
use Rattle.world_law.proofs.Born.{IsBorn}
use Rattle.world_law.proofs.Delivered.{routed_there}
use Rattle.world_law.proofs.DeliveredBooks.{IsSaid, all_channel, said_at, said_heard}
use Rattle.world_law.proofs.Entered.{given_in, messages_always, took_entered}
use Rattle.world_law.proofs.EnteredStands.{MessagesStand, sends_on}
use Rattle.world_law.proofs.Histories.{always}
use Rattle.world_law.proofs.PostHeard.{link_hears, link_on}
use Rattle.world_law.proofs.Safe.{end_well}
use Rattle.world_law.proofs.Starts.{no_member}
use Rattle.world_law.proofs.Tenants.{some_actor}
use Rattle.mail_world.proofs.Members.{crew_other}
use Rattle.call_fs.specs.Maps.{put_at}
use Rattle.world_law.proofs.SendersPut.{sender}
use Rattle.queue_law.specs.Ledgers.Line.{Delivers}
use Rattle.program_law.specs.Sender.Stands.{StandsAt}
use Rattle.todo_pass.specs.Disks.{HoldsTodo}
use Rattle.program_law.specs.Sender.InTodo.{PassGoesOn, TodoStands}
use Rattle.program_law.proofs.Sender.Arrive.{arrived}
use Rattle.send_runs.proofs.Entries.{given_at}
use Rattle.world_law.specs.Lives.{begun_in}
use Rattle.world_law.proofs.Lives.{HasLine, IsNew, IsOf, KeepsRoutes, Was, controls_in, entries_by, entries_in, entries_of, event_goes}
use Rattle.send_jobs.specs.Bookings.{Booking}

-- Who has ended with 0 stays as it is

over_put : (actors : List ℕ → Option Actor) (a b : List ℕ) (y : Option Actor) (z x : Actor) → actors b ≡ Some z → z.life ≡ Alive → actors a ≡ Some x → x.life ≡ Over 0
    → put_at actors b y a ≡ Some x
over_put actors a b y z x there alive is over = put_at_other actors b y a apart ∙ is
  where
    apart : a ≢ b
    apart same =
        let one : z ≡ x = some_actor z x (sym there ∙ ap actors (sym same) ∙ is) in
        let both : Alive ≡ Over 0 = sym alive ∙ ap (λ (v : Actor). v.life) one ∙ over in
        absurd (cc)

over_new : (actors : List ℕ → Option Actor) (a b : List ℕ) (y : Option Actor) (x : Actor) → actors b ≡ None → actors a ≡ Some x → put_at actors b y a ≡ Some x
over_new actors a b y x new is = put_at_other actors b y a apart ∙ is
  where
    apart : a ≢ b
    apart same = let both : ◌≡◌ {A = Option Actor} None (Some x) = sym new ∙ ap actors (sym same) ∙ is in absurd (cc)

over_kept : (e : Event) (s : State) → Allowed s e → (a : List ℕ) (x : Actor) → s.actors a ≡ Some x → x.life ≡ Over 0 → (Contains members a → ⊥) → (happens s e).actors a ≡ Some x
over_kept (Start b program) s may a x is over apart = over_new s.actors a b (Some (newborn program)) x may.new is
over_kept (Act b own wrote) s may a x is over apart =
    let y = may.actor in
    subst (λ (o : Option Actor). (acted s b own wrote o).actors a ≡ Some x) (sym may.reads.is)
    (over_put s.actors a b (Some (record { program = y.program; past = own ∷ y.past; life = y.life })) y x may.reads.is may.reads.alive is over)
over_kept (Child parent own b program) s may a x is over apart =
    let y = may.actor in
    subst (λ (o : Option Actor). (bears (acted s parent own 0 o) parent own b program).actors a ≡ Some x) (sym may.reads.is)
    (put_at_other (acted s parent own 0 (Some y)).actors b (Some (newborn program)) a other
    ∙ over_put s.actors a parent (Some (record { program = y.program; past = own ∷ y.past; life = y.life })) y x may.reads.is may.reads.alive is over)
  where
    other : a ≢ b
    other same = let both : ◌≡◌ {A = Option Actor} None (Some x) = sym may.new ∙ ap s.actors (sym same) ∙ is in absurd (cc)
over_kept (Generation crew) s may a x is over apart = crew_other s.actors crew a (no_member a apart) ∙ is
over_kept (Report slot output) s may a x is over apart = is
over_kept (End b read ready status) s may a x is over apart =
    let y = may.actor in
    subst (λ (o : Option Actor). (finished s b (Over status) o).actors a ≡ Some x) (sym may.reads.is)
    (over_put s.actors a b (Some (record { program = y.program; past = y.past; life = Over status })) y x may.reads.is may.reads.alive is over)
over_kept (Stop b) s may a x is over apart =
    let y = may.actor in
    subst (λ (o : Option Actor). (finished s b Stopped o).actors a ≡ Some x) (sym may.is)
    (over_put s.actors a b (Some (record { program = y.program; past = y.past; life = Stopped })) y x may.is may.alive is over)
over_kept (Moment m) s may a x is over apart = is
over_kept (Halt how contents) s may a x is over apart =
    ap (option_map stopped) is
    ∙ ap (λ (l : Life). Some (record { program = x.program; past = x.past; life = l })) (ap cut_off over ∙ sym over)

-- A delivery for this address has ended with 0, and took the message that was entered with these arguments.
pub record IsDoneFor (s : State) (of : Arguments) (address : List ℕ) : Type 0 where
  pub task : Task
  pub is_for : IsDeliveryFor s task
  pub over : is_for.delivery.life ≡ Over 0
  pub recipient : task.recipient ≡ address
  pub took : message_in (taken is_for.delivery.past) ≡ Some (entered of)

done_keeps : (e : Event) (s : State) → Inv s → Allowed s e → (of : Arguments) (address : List ℕ) → IsDoneFor s of address → IsDoneFor (happens s e) of address
done_keeps e s I may of address h = record {
  task = h.task;
  is_for = record {
    delivery = h.is_for.delivery;
    is = over_kept e s may h.task.name h.is_for.delivery h.is_for.is h.over
        (subst (λ (z : Program). IsNamed h.task.name z) h.is_for.program (I.crew h.task.name h.is_for.delivery h.is_for.is));
    start = h.is_for.start;
    args = h.is_for.args;
    program = h.is_for.program;
    sender = h.is_for.sender;
    recipient = h.is_for.recipient;
  };
  over = h.over;
  recipient = h.recipient;
  took = h.took;
}

-- A local recipient that is reported now

when_local : (came : GotData) (pipe : Pipe) (d : Desk) (n place : ℕ) → Yields pipe came → Among (Reported true Local n place) (reported_when (said came).way Local (said came).bytes d)
    → (bytes : List ℕ) × (rest : List ℕ) × (bytes ≢ []) × (pipe.bytes ≡ bytes ++ rest) × Among (Reported true Local n place) (reported_when way.Fine Local bytes d)
when_local (got.Took bytes) pipe d n place y h = (bytes, y.1.0, y.0, y.1.1, h)
when_local got.End pipe d n place y h = absurd h
when_local got.Failed pipe d n place y h = absurd h
when_local came pipe d n place y h = absurd y

when_channel : (w : Way) (e : Channel) (bytes : List ℕ) (d : Desk) (c : Channel) (n place : ℕ) → Among (Reported true c n place) (reported_when w e bytes d) → c ≡ e
when_channel way.Fine e bytes d c n place h = let it = read_on (link e d).reader bytes in all_channel e true c n place it.0 (with_reader e it.1 d) h
when_channel w e bytes d c n place h = absurd h

some_injection : (x y : Injection) → ◌≡◌ {A = Option Injection} (Some x) (Some y) → x ≡ y
some_injection x y e = cc

-- what a delivery took that ended with 0 is a message
pub took_message : (s : State) → Inv s → (x : Done) (was : WasDone s x) → (m : List ℕ) × (message_in (taken was.is_for.delivery.past) ≡ Some m)
took_message s I x was =
    let it : EndsWell s.books x.task.name was.is_for.delivery.program was.is_for.delivery.past =
    end_well s I x.task.name was.is_for.delivery was.is_for.is was.over in
    let carried : IsCarriedOut s.books was.is_for.args was.is_for.delivery.past = subst (λ (z : Program). EndsWell s.books x.task.name z was.is_for.delivery.past) was.is_for.program it in
    (carried.carried.message, carried.carried.input)

module _ (B : ℕ → List ℕ → Type 0) (s : State) (I : Inv s) (M : MessagesStand B s) (own : Own) (wrote began : ℕ) (past : List Own) (is : s.actors (codes "sender") ≡ Some (sender began past)) (soon : own.read ≤ s.now)
    (due : due_at (row_now (sender_after None past) own.read own.ready) (sender_after None past) ≡ own.due) (comes : ComesOf s (codes "sender") own.due own.came wrote) where
  abbrev P : PostsStand s
  P = M.posts

  abbrev d : Desk
  d = sender_after None past

  abbrev row : Row
  row = row_now d own.read own.ready

  abbrev q : Queue
  q = queue s I.role

  module _ (i : Injection) (r : Recipient i.args) (n : ℕ) (lives : s.books.living n ≡ Some i) where
    abbrev spot : Spot
    spot = spot_in i r

    abbrev IsDone : Type 0
    IsDone = IsDoneFor s i.args (routed_in i r)

    -- the slots that the state shows
    shown : (slot : ℕ) → attempt_in (lane Local (desk_in (s.actors (codes "sender"))).slots).slots slot ≡ attempt_in (lane Local d.slots).slots slot
    shown slot = ap (λ (o : Option Actor). attempt_in (lane Local (desk_in o).slots).slots slot) is

    of_said : sends_on s ≡ true → spot.channel ≡ Local → IsSaid P.done (lane Local d.slots).slots n spot.place → IsDone
    of_said on here z =
        let number : s.books.living z.attempt.n ≡ Some i = ap s.books.living (sym z.number_is) ∙ lives in
        let address : z.attempt.address ≡ routed_in i r =
        routed_there q d.row Local d.slots I.sound ((I.fares (codes "sender") (sender began past) is).stands.lanes Local) z.slot z.attempt z.flies i number r here z.place_is in
        let was = P.was z.it z.among in
        let flies = shown z.it.slot ∙ ap (attempt_in (lane Local d.slots).slots) z.slot_is ∙ z.flies in
        let given = given_in B s I M on z.it z.attempt flies ((M.done on).was z.it z.among) in
        let w = took_message s I z.it was in
        let it = took_entered B s I M on z.it was z.attempt.n given w.0 w.1 in
        let same : it.injection ≡ i = some_injection it.injection i (sym it.lives ∙ number) in
        record {
          task = z.it.task;
          is_for = was.is_for;
          over = was.over;
          recipient = z.recipient_is ∙ address;
          took = w.1 ∙ ap Some (it.text ∙ ap entered (ap (λ (y : Injection). y.args) same));
        }

    of_local : spot.channel ≡ Local → row ≡ at.TakeLink Local → Among (Reported true Local n spot.place) (reported_when (said own.came).way Local (said own.came).bytes d)
        → IsDone
    of_local here at_link h =
        let taking : needs.Take port.Lspawn ≡ own.due = ap (λ (z : Row). due_at z d) (sym at_link) ∙ due in
        let w = when_local own.came (s.pipework.pipes (codes "sender") port.Lspawn) d n spot.place (subst (λ (z : NeedData). ComesOf s (codes "sender") z own.came wrote) (sym taking) comes) h in
        let it = read_on (link Local d).reader w.0 in
        let heard = link_hears s I P own began past is w.0 w.1 w.2 w.3 at_link in
        let on : sends_on s ≡ true = ap (λ (o : Option Actor). sends_in o && is_on (desk_in o).row) is ∙ link_on d.row d own.read own.ready at_link in
        of_said on here (said_heard P.done n spot.place it.0 (lane Local d.slots).slots (with_reader Local it.1 d) refl heard w.4)

    said_now : spot.channel ≡ Local → Among (Reported true spot.channel n spot.place) (booked_at row own.came d) → IsDone
    said_now on h =
        let w = said_at row own.came d true spot.channel n spot.place h in
        let same : w.0 ≡ Local = sym (when_channel (said own.came).way w.0 (said own.came).bytes d spot.channel n spot.place w.2) ∙ on in
        of_local on (w.1 ∙ ap at.TakeLink same)
        (subst (λ (c : Channel). Among (Reported true c n spot.place) (reported_when (said own.came).way Local (said own.came).bytes d)) on
        (subst (λ (e : Channel). Among (Reported true spot.channel n spot.place) (reported_when (said own.came).way e (said own.came).bytes d)) same w.2))

  -- it isn't routed now if it was delivered to
  not_routed : (i : Injection) (n : ℕ) (x : Spot) → s.books.living n ≡ Some i → Among (Routed n) (booked_at row own.came d)
      → Among x i.ledger.delivered ⊎ Among (Reported true x.channel n x.place) (booked_at row own.came d) → ⊥
  not_routed i n x lives routes has =
      let g = given_at row own.came d n routes in
      let here : StandsAt s.now q (codes "sender") row d =
      arrived s.now own.read q (codes "sender") soon (let m = I.moment in omega (arith, m, soon)) d own.ready (I.fares (codes "sender") (sender began past) is).stands in
      let goes : TodoStands d.book.controls s.now q (codes "sender") d.pass.row d.pass =
      (subst (λ (z : Row). RowStands s.now q (codes "sender") z d.book d.slots (works d)) g.row_is here.rests).1.1 in
      let pass : PassGoesOn d.book.controls s.now q (codes "sender") d.pass = subst (λ (z : PassRow). TodoStands d.book.controls s.now q (codes "sender") z d.pass) g.gives goes in
      let queued = (pass.stands.rests (subst HoldsTodo (sym g.gives) tt)).rest in
      let same : queued.taken.injection ≡ i = some_injection queued.taken.injection i (sym queued.taken.lives ∙ ap s.books.living (sym g.number_is) ∙ lives) in
      let fresh : i.ledger.delivered ≡ [] = ap (λ (y : Injection). y.ledger.delivered) (sym same) ∙ ap (λ (l : Ledger). l.delivered) queued.fresh in
      ⊎_elim
      (λ (old : Among x i.ledger.delivered). subst (Among x) fresh old)
      (λ (new : Among (Reported true x.channel n x.place) (booked_at row own.came d)).
      let w = said_at row own.came d true x.channel n x.place new in let both : at.InTodo ≡ at.TakeLink w.0 = sym g.row_is ∙ w.1 in absurd (cc))
      has

-- The invariant: each local recipient that a ledger has as delivered has such a delivery.
abbrev DeliveredStand : State → Type 0
DeliveredStand s = (i : Injection) → IsKept s.books i → (r : Recipient i.args) → (spot_in i r).channel ≡ Local → Among (spot_in i r) i.ledger.delivered → IsDoneFor s i.args (routed_in i r)

-- it is delivered to, or told of with this event
abbrev HasOrSaid : Injection → List Booking → ℕ → Spot → Type 0
HasOrSaid i es n x = Among x i.ledger.delivered ⊎ Among (Reported true x.channel n x.place) es

-- so it is of each that is told of, and such a message isn't routed
record IsTold (s : State) (es : List Booking) (i : Injection) (n : ℕ) : Type 0 where
  said : (r : Recipient i.args) → (spot_in i r).channel ≡ Local → Among (Reported true (spot_in i r).channel n (spot_in i r).place) es → IsDoneFor s i.args (routed_in i r)
  unrouted : (x : Spot) → Among (Routed n) es → HasOrSaid i es n x → ⊥

told_none : (s : State) (i : Injection) (n : ℕ) → IsTold s [] i n
told_none s i n = record { said = λ r on none. absurd none; unrouted = λ x none has. none }

entered_by : (B : ℕ → List ℕ → Type 0) (s : State) (I : Inv s) → MessagesStand B s → (a : List ℕ) (own : Own) (wrote : ℕ) (program : Program) (past : List Own) (life : Life)
    → life ≡ Alive → IsNamed a program → s.actors a ≡ Some (record { program = program; past = past; life = life }) → own.read ≤ s.now
    → next_of program past own.read own.ready ≡ own.due → ComesOf s a own.due own.came wrote
    → (i : Injection) (n : ℕ) → s.books.living n ≡ Some i → IsTold s (entries_by program past own.read own.ready own.came) i n
entered_by B s I M a own wrote (Sender since) past Alive alive named is soon due comes i n lives =
    let there = subst (λ (b : List ℕ). s.actors b ≡ Some (sender since past)) named is in
    let came = subst (λ (b : List ℕ). ComesOf s b own.due own.came wrote) named comes in
    record {
      said = λ r on said. said_now B s I M own wrote since past there soon due came i r n lives on said;
      unrouted = λ x routes has. not_routed B s I M own wrote since past there soon due came i n x lives routes has;
    }
entered_by B s I M a own wrote (Sender since) past life alive named is soon due comes i n lives = absurd (cc)
entered_by B s I M a own wrote program past life alive named is soon due comes i n lives = told_none s i n

event_told : (B : ℕ → List ℕ → Type 0) (e : Event) (s : State) (I : Inv s) → MessagesStand B s → Allowed s e → (i : Injection) (n : ℕ) → s.books.living n ≡ Some i → IsTold s (entries_in s e) i n
event_told B (Act a own wrote) s I M may i n lives =
    let x = may.actor in
    subst (λ (o : Option Actor). IsTold s (entries_of o own) i n) (sym may.reads.is)
    (entered_by B s I M a own wrote x.program x.past x.life may.reads.alive (I.crew a x may.reads.is) may.reads.is may.reads.no_later may.due may.came i n lives)
event_told B e s I M may i n lives = told_none s i n

-- what holds of the state before holds of the one after
module _ (B : ℕ → List ℕ → Type 0) (e : Event) (s : State) (I : Inv s) (M : MessagesStand B s) (D : DeliveredStand s) (may : Allowed s e) where
  abbrev es : List Booking
  es = entries_in s e

  -- of one whose life lasts, by what it was before
  module _ (i j : Injection) (n : ℕ) (lives : s.books.living n ≡ Some i) (args_are : j.args ≡ i.args) where
    T : IsTold s es i n
    T = event_told B e s I M may i n lives

    abbrev DoneBy : Controls → Arguments → Type 0
    DoneBy routes args = (r : Recipient args) → (spot_of routes args r).channel ≡ Local → HasOrSaid i es n (spot_of routes args r) → IsDoneFor s args (routed routes args r)

    before : DoneBy i.ledger.routes i.args
    before r on has = ⊎_elim
        (λ (old : Among (spot_in i r) i.ledger.delivered). D i (inl (n, lives)) r on old)
        (λ (new : Among (Reported true (spot_in i r).channel n (spot_in i r).place) es). T.said r on new)
        has

    done_now : KeepsRoutes (controls_in s e) es n i j → (r : Recipient j.args) → (spot_in j r).channel ≡ Local → HasOrSaid i es n (spot_in j r) → IsDoneFor s j.args (routed_in j r)
    done_now routes r on has = ⊎_elim
        (λ (same : j.ledger.routes ≡ i.ledger.routes).
        subst (λ (c : Controls). DoneBy c j.args) (sym same) (subst (DoneBy i.ledger.routes) (sym args_are) before) r on has)
        (λ (routed : Among (Routed n) es × (j.ledger.routes ≡ controls_in s e)). absurd (T.unrouted (spot_in j r) routed.0 has))
        routes

  event_done : (j : Injection) → IsKept (happens s e).books j → (r : Recipient j.args) → (spot_in j r).channel ≡ Local → Among (spot_in j r) j.ledger.delivered → IsDoneFor s j.args (routed_in j r)
  event_done j kept r on among =
      let G = event_goes s e may in
      ⊎_elim
      (λ (living : (n : ℕ) × ((happens s e).books.living n ≡ Some j)). ⊎_elim
      (λ (new : IsNew (begun_in s e) living.0 j). absurd (subst (λ (l : Ledger). Among (spot_in j r) l.delivered) new.2 among))
      (λ (was : Was (controls_in s e) s.books (begun_in s e) es living.0 j).
      let w = was.1 in
      done_now w.0 j living.0 w.1 w.2.args_are w.4 r on (⊎_elim
      (λ (old : HasLine (Delivers (spot_in j r)) w.0.ledger). inl old)
      (λ (said : IsOf (controls_in s e) es living.0 (Delivers (spot_in j r))). inr said.0)
      (w.3 (Delivers (spot_in j r)) among)))
      (G.back living.0 j living.1))
      (λ (over : Among j (happens s e).books.over). ⊎_elim
      (λ (old : Among j s.books.over). D j (inr old) r on among)
      (λ (ended : (n : ℕ) × (begun_in s e ≡ Some n) × (s.books.living n ≡ Some j)). D j (inl (ended.0, ended.2)) r on among)
      (G.over j over))
      kept

delivered_always : (d : Disk) (before : List Event) → Legal d before → DeliveredStand (after d before)
delivered_always d [] legal i kept r on among = ⊎_elim
    (λ (w : (n : ℕ) × (◌≡◌ {A = Option Injection} None (Some i))). absurd (cc w.1))
    (λ (none : ⊥). absurd none)
    kept
delivered_always d (e ∷ before) legal i kept r on among =
    let s = after d before in
    let I = always d before legal.0 in
    done_keeps e s I legal.1 i.args (routed_in i r)
    (event_done (IsBorn before) e s I (messages_always d before legal.0) (delivered_always d before legal.0) legal.1 i kept r on among)

pub done_for : (d : Disk) (before : List Event) → Legal d before → (i : Injection) → IsInjected (after d before).books i
    → (r : Recipient i.args) → (spot_in i r).channel ≡ Local → Among (spot_in i r) i.ledger.delivered → IsDoneFor (after d before) i.args (routed_in i r)
done_for d before legal i here r on among =
    let s = after d before in
    let kept : IsKept s.books i = ⊎_elim (λ (lives : s.books.living i.number ≡ Some i). inl (i.number, lives)) (λ (over : Among i s.books.over). inr over) here in
    delivered_always d before legal i kept r on among

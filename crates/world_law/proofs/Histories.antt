-- Each event keeps what holds of the whole system, which so holds after each legal history; and each giving to a spawner is an attempt.
use Rattle.std.proofs.Common.{◌≡◌, ◌≢◌, ◌⊎◌, inl, inr, ⊎_elim, ℕ, List, [], ◌∷◌, map, false, Option, Some, None, option_map, Contains, refl, sym, ap, ◌∙◌, subst, arith}
use Rattle.std.specs.Prelude.{slice_get}
use Rattle.call_fs.specs.Disk.{Among, Disk, IsWhole}
use Rattle.call_fs.specs.declared.calls.CallData.TheVariants.{Link}
use Rattle.call_fs.specs.declared.past.NeedData.{NeedData}
use Rattle.call_fs.specs.declared.past.NeedData.TheVariants as needs
use Rattle.call_fs.specs.declared.past.Own.{Own}
use Rattle.call_fs.specs.declared.program.Ready.{Ready}
use Rattle.program_law.proofs.Delivery.Events.{linked_is_whole}
use Rattle.call_fs.specs.Past.{taken, IsRunBy}
use Rattle.local_deliver.specs.Table.{Next as DeliversNext}
use Rattle.local_parts.specs.declared.arguments.LocalArgs.{LocalArgs}
use Rattle.local_parts.specs.Inputs.{message_in}
use Rattle.local_parts.specs.Texts.{maildir_text}
use Rattle.mail_bytes.specs.Moments.{IsMoment}
use Rattle.queue_inject.specs.declared.injection.Arguments.{Arguments}
use Rattle.queue_law.specs.Accounts.{Accounted}
use Rattle.queue_law.specs.Accounts.Accounted.{Returned}
use Rattle.queue_law.specs.Books.{IsValid}
use Rattle.queue_law.specs.Notes.{name_in}
use Rattle.queue_law.specs.Numbers.{Queue, Role, entry, find}
use Rattle.program_law.specs.Channel.Files.{IsOpen}
use Rattle.program_law.specs.Sender.Views.{files_of, records_at}
use Rattle.send_links.specs.Records.{records_of}
use Rattle.envelope_records.specs.declared.channel.Record.{Record}
use Rattle.queue_law.specs.Routes.{lane_part, sender_of}
use Rattle.queue_law.proofs.Looks.{not_found}
use Rattle.queue_paths.specs.Names.{path}
use Rattle.queue_paths.specs.Names.Name.{Of}
use Rattle.send_core.specs.Agrees.{has_ended, task_of}
use Rattle.send_core.specs.Past.{Task, account, first_of}
use Rattle.send_core.specs.Table.{Next, arrive, place_after as sender_after, due_at, port_of, row_now}
use Rattle.send_core.specs.declared.desk.Desk.{Desk}
use Rattle.send_parts.specs.declared.row.Row.{Row}
use Rattle.send_parts.specs.declared.row.Row.TheVariants as at
use Rattle.send_core.proofs.Agreed.{lanes_agree}
use Rattle.send_core.proofs.Runs.{gives_requests}
use Rattle.send_jobs.specs.declared.attempts.Attempt.{Attempt}
use Rattle.send_jobs.specs.Sending.{lane}
use Rattle.send_links.specs.Requests.{request_of, to_slot}
use Rattle.world_law.proofs.Ran.{have_run}
use Rattle.send_known.specs.declared.channel.Channel.{Channel}
use Rattle.program_law.proofs.Sender.Arrive.{arrived}
use Rattle.program_law.proofs.Sender.Asking.{requests_are_texts}
use Rattle.world_events.specs.declared.event.Program.{Program}
use Rattle.world_events.specs.declared.event.Program.TheVariants.{Injector, Cleaner, Sender, LocalSpawner, RemoteSpawner, Delivery}
use Rattle.mail_world.specs.ByKind.{IsMail}
use Rattle.mail_world.specs.History.{Actor, Event, IsCleaner, IsDelivery, IsLocalSpawner, IsRemoteSpawner, IsSender, Legal, Life, MayDo, State, after, happens, next_of}
use Rattle.mail_world.specs.History.Event.{Start, Act, Child, Generation, Report, End, Stop, Moment, Halt}
use Rattle.mail_world.specs.History.Life.{Alive}
use Rattle.mail_world.specs.Untouched.{queue}
use Rattle.world_law.specs.Bounces.{BouncesAreAccepted, BouncesAreReadLast, IsAddressed, IsBounceOf, IsByBounce, IsNamedInBounce, ReturnedRecipientsAreNamed}
use Rattle.world_law.specs.Deliveries.{DropsAreWhole}
use Rattle.world_law.specs.Fares.{DeliveryFares, FaresBy, SenderFares}
use Rattle.world_law.specs.Headline.{AttemptsAreSound, IsAttempt, SafeState}
use Rattle.world_law.specs.Inv.{Inv}
use Rattle.world_law.specs.Laws.{Always, AreAccounted, HistoriesAreSafe, IsKeptBy}
use Rattle.world_law.proofs.Begins.{inv_begins}
use Rattle.world_law.proofs.BounceEnvelopes.{bounce_addressed, not_double}
use Rattle.world_law.proofs.BouncesLast.{channels_are_gone, opening}
use Rattle.world_law.proofs.Children.{children_keep}
use Rattle.world_law.proofs.Cleaning.{cleaners_keep}
use Rattle.world_law.proofs.Deliveries.{deliveries_keep}
use Rattle.world_law.proofs.Gone.{ends_keep, stops_keep}
use Rattle.world_law.proofs.Halted.{halts_keep}
use Rattle.world_law.proofs.Injects.{injectors_keep}
use Rattle.world_law.proofs.Later.{moments_keep, reports_keep}
use Rattle.world_law.proofs.Locals.{locals_keep}
use Rattle.world_law.proofs.Remotes.{remotes_keep}
use Rattle.world_law.proofs.Safe.{inv_is_safe}
use Rattle.world_law.proofs.SendersEvents.{senders_keep}
use Rattle.world_law.proofs.Starts.{generations_keep, starts_keep}
use Rattle.world_law.proofs.Tenants.{some_actor}

-- an event of an actor, by the program that it runs
act_keeps : (a : List ℕ) (own : Own) (wrote : ℕ) (s : State) → Inv s → (may : MayDo s a own wrote) → (program : Program) → may.actor.program ≡ program
    → Inv (happens s (Act a own wrote))
act_keeps a own wrote s I may (Injector args) e = injectors_keep a own wrote s I may (subst IsMail (sym e) tt)
act_keeps a own wrote s I may (Cleaner began) e = cleaners_keep a own wrote s I may (subst IsCleaner (sym e) tt)
act_keeps a own wrote s I may (Sender began) e = senders_keep a own wrote s I may (subst IsSender (sym e) tt)
act_keeps a own wrote s I may (LocalSpawner began) e = locals_keep a own wrote s I may (subst IsLocalSpawner (sym e) tt)
act_keeps a own wrote s I may (RemoteSpawner began) e = remotes_keep a own wrote s I may (subst IsRemoteSpawner (sym e) tt)
act_keeps a own wrote s I may (Delivery start args) e = deliveries_keep a own wrote s I may (subst IsDelivery (sym e) tt)

event_keeps : (e : Event) → IsKeptBy e
event_keeps (Start a program) = starts_keep a program
event_keeps (Act a own wrote) = λ s I may. act_keeps a own wrote s I may may.actor.program refl
event_keeps (Child parent own a program) = children_keep parent own a program
event_keeps (Generation crew) = generations_keep crew
event_keeps (Report slot output) = reports_keep slot output
event_keeps (End a read ready status) = ends_keep a read ready status
event_keeps (Stop a) = stops_keep a
event_keeps (Moment m) = moments_keep m
event_keeps (Halt how contents) = halts_keep how contents

pub always : Always
always d [] legal = inv_begins d legal
always d (e ∷ before) legal = event_keeps e (after d before) (always d before legal.0) legal.1

-- so each state is safe
pub histories_are_safe : HistoriesAreSafe
histories_are_safe d before legal = inv_is_safe (after d before) (have_run d before legal) (always d before legal)

pub safe_always : (d : Disk) (before : List Event) → Legal d before → SafeState (after d before)
safe_always d before legal = (histories_are_safe d before legal).0

-- and each recipient is accounted for by the ledgers
pub accounts_always : (d : Disk) (before : List Event) → Legal d before → AreAccounted (after d before)
accounts_always d before legal = (histories_are_safe d before legal).1

-- Attempts

pub sender_fares : (now : ℕ) (q : Queue) (a : List ℕ) (program : Program) (past : List Own) (life : Life) (start : ℕ) → program ≡ Sender start → life ≡ Alive
    → FaresBy now q a program past life → SenderFares now q a (sender_after None past)
sender_fares now q a (Sender began) past Alive start is alive F = F
sender_fares now q a (Sender began) past life start is alive F = absurd (cc)
sender_fares now q a other past life start is alive F = absurd (cc)

-- what is due to a sender
due_of : (program : Program) (past : List Own) (read : ℕ) (ready : Ready) (start : ℕ) (due : NeedData) → program ≡ Sender start → next_of program past read ready ≡ due
    → due_at (row_now (sender_after None past) read ready) (sender_after None past) ≡ due
due_of program past read ready start due is next = subst (λ (p : Program). next_of p past read ready ≡ due) is next

-- a sender that gives hasn't ended
goes_on : (row : Row) (d : Desk) (now : ℕ) (ready : Ready) (ch : Channel) (text : List ℕ) → due_at (arrive row d now ready) d ≡ needs.Give (port_of ch) text → has_ended row ≡ false
goes_on (at.Ended status) d now ready ch text e = absurd (cc)
goes_on row d now ready ch text e = refl

-- the first of those that are left
first_left : (left : List Attempt) (a : Attempt) (tasks : List Task) → slice_get left 0 ≡ Some a → (left ≡ []) ⊎ (map task_of left ≡ tasks) → (rest : List Task) × (tasks ≡ task_of a ∷ rest)
first_left [] a tasks first agrees = absurd (cc)
first_left (b ∷ left) a tasks first agrees =
    let same : b ≡ a = cc in
    ⊎_elim
    (λ (none : b ∷ left ≡ []). absurd (cc))
    (λ (are : map task_of (b ∷ left) ≡ tasks). (map task_of left, sym are ∙ ap (λ (z : Attempt). task_of z ∷ map task_of left) same))
    agrees

-- two requests with one text are for one slot
same_slot : (text : List ℕ) (j k n m : ℕ) (from to of by : List ℕ) → text ≡ to_slot j (request_of n from to) → text ≡ to_slot k (request_of m of by) → j ≡ k
same_slot text j k n m from to of by one two = sym (ap first_of one) ∙ ap first_of two

text_for : (text : List ℕ) (j k n : ℕ) (from to : List ℕ) → text ≡ to_slot j (request_of n from to) → j ≡ k → text ≡ to_slot k (request_of n from to)
text_for text j k n from to is same = is ∙ ap (λ (slot : ℕ). to_slot slot (request_of n from to)) same

same_first : (tasks rest more : List Task) (t u : Task) → tasks ≡ t ∷ rest → tasks ≡ u ∷ more → u ≡ t
same_first tasks rest more t u one two = let both : t ∷ rest ≡ u ∷ more = sym one ∙ two in cc

-- its record reads `T` in its file
read_of : (s : State) (role : ℕ → Role) (ch : Channel) (a : Attempt) → IsOpen (files_of (queue s role) ch) a
    → (file : ℕ) × (s.disk.names (path (Of (lane_part ch) a.n)) ≡ Some file) × (records : List Record) × (records_of (s.disk.files file).bytes ≡ Some records)
    × Contains records (record { done = false; place = a.place; address = a.address })
unfolding find
read_of s role ch a it = by (s.disk.names (path (Of (lane_part ch) a.n))) refl it.there
  where
    by : (o : Option ℕ) → s.disk.names (path (Of (lane_part ch) a.n)) ≡ o → records_at (option_map (entry s.disk.files) o) ≡ Some it.records
        → (file : ℕ) × (s.disk.names (path (Of (lane_part ch) a.n)) ≡ Some file) × (records : List Record) × (records_of (s.disk.files file).bytes ≡ Some records)
        × Contains records (record { done = false; place = a.place; address = a.address })
    by None is there = absurd (cc)
    by (Some file) is there = (file, is, it.records, there, it.reads)

module _ (s : State) (I : Inv s) (a : List ℕ) (own : Own) (wrote : ℕ) (may : MayDo s a own wrote) (start : ℕ) (is : may.actor.program ≡ Sender start)
    (ran : IsRunBy (Next None) may.actor.past) where
  attempted : (ch : Channel) (text : List ℕ) → own.due ≡ needs.Give (port_of ch) text → IsAttempt s may.actor.past ch text
  attempted ch text given =
      let x = may.actor in
      let d = sender_after None x.past in
      let F = sender_fares s.now (queue s I.role) a x.program x.past x.life start is may.reads.alive (I.fares a x may.reads.is) in
      let soon = may.reads.no_later in
      let moment : IsMoment own.read = (let m = I.moment in omega (arith, m, soon)) in
      let due = due_of x.program x.past own.read own.ready start (needs.Give (port_of ch) text) is (may.due ∙ given) in
      let w = requests_are_texts s.now (queue s I.role) a d own.read own.ready ch text soon moment F.stands F.texts due in
      let g = gives_requests None x.past own.read own.ready ran ch text due in
      let agrees = lanes_agree None x.past ran ch (goes_on d.row d own.read own.ready ch text due) in
      let first = first_left (lane ch d.slots).left w.attempt (account ch x.past).to_give w.next_is agrees.to_give in
      let task : g.task ≡ task_of w.attempt = same_first (account ch x.past).to_give first.0 g.rest (task_of w.attempt) g.task first.1 g.next in
      let slot : w.slot ≡ g.slot = same_slot text w.slot g.slot w.attempt.n g.task.n (sender_of w.injection.args) w.attempt.address g.sender g.task.address w.is g.is in
      record {
        attempt = w.attempt;
        rest = first.0;
        slot = g.slot;
        injection = w.injection;
        next_is = first.1;
        reads = read_of s I.role ch w.attempt w.reads;
        lives = w.lives;
        free = g.free;
        lowest = g.lowest;
        limited = g.limited;
        text_is = text_for text w.slot g.slot w.attempt.n (sender_of w.injection.args) w.attempt.address w.is slot;
        alone = subst (λ (z : Task). (k : ℕ) (t : Task) → (account ch x.past).in_flight k ≡ Some t → t.n ≡ z.n → t.place ≢ z.place) task g.once;
      }

pub attempts_are_sound : AttemptsAreSound
attempts_are_sound d a own wrote before legal x is start program ch text given =
    let may = legal.1 in
    let same : may.actor ≡ x = some_actor may.actor x (sym may.reads.is ∙ is) in
    let program_is : may.actor.program ≡ Sender start = ap (λ (y : Actor). y.program) same ∙ program in
    let ran : IsRunBy (Next None) may.actor.past = subst (λ (p : Program). IsRunBy (next_of p) may.actor.past) program_is (have_run d before legal.0 a may.actor may.reads.is) in
    subst (λ (y : Actor). IsAttempt (after d before) y.past ch text) same
    (attempted (after d before) (always d before legal.0) a own wrote may start program_is ran ch text given)

pub bounces_are_accepted : BouncesAreAccepted
bounces_are_accepted d before legal i h x among =
    let returned = (always d before legal).bounces i (⊎_elim
    (λ (lives : (after d before).books.living i.number ≡ Some i). inl (i.number, lives))
    (λ (over : Among i (after d before).books.over). inr over)
    h) x among in
    let valid = (safe_always d before legal).valid returned.accepted.0 returned.accepted.1 returned.accepted.4 in
    (returned, bounce_addressed x.read.by returned.no_nul i.args x.read.notes x.args (subst IsValid returned.accepted.3 valid) returned.carries)

pub returned_recipients_are_named : ReturnedRecipientsAreNamed
returned_recipients_are_named d before legal i here r account says = by account says where
  by : (it : Accounted (after d before).disk (after d before).books i r) → IsByBounce it → IsNamedInBounce (after d before).books i (name_in i r)
  by (Returned failed x bounced read named) says =
      let w = bounces_are_accepted d before legal i here x bounced in
      let it = subst (λ (z : Arguments). (carries : IsBounceOf x.read.by i.args x.read.notes z) × IsAddressed carries.bounce z) (sym w.0.accepted.3) (w.0.carries, w.1) in
      record {
        read = x.read;
        among = read;
        named = named;
        bounce = w.0.accepted.0;
        injected = w.0.accepted.1;
        accepted = w.0.accepted.4;
        carries = it.0;
        addressed = it.1;
        single = not_double x.read.by i.args x.read.notes x.args w.0.carries;
      }
  by other says = absurd says

-- Bounces are read last

module _ (s : State) (I : Inv s) (a : List ℕ) (own : Own) (wrote : ℕ) (may : MayDo s a own wrote) (start : ℕ) (is : may.actor.program ≡ Sender start) where
  read_last : (n : ℕ) → own.due ≡ opening n → (ch : Channel) → s.disk.names (path (Of (lane_part ch) n)) ≡ None
  read_last n due ch =
      let x = may.actor in
      let q = queue s I.role in
      let F = sender_fares s.now q a x.program x.past x.life start is may.reads.alive (I.fares a x may.reads.is) in
      let d = sender_after None x.past in
      let soon = may.reads.no_later in
      let moment : IsMoment own.read = (let m = I.moment in omega (arith, m, soon)) in
      let at_row = arrived s.now own.read q a soon moment d own.ready F.stands in
      not_found q.disk.names q.disk.files (Of (lane_part ch) n)
      (channels_are_gone s.now q a d n (row_now d own.read own.ready) at_row (due_of x.program x.past own.read own.ready start (opening n) is (may.due ∙ due)) ch)

pub bounces_are_read_last : BouncesAreReadLast
bounces_are_read_last d a own wrote before legal x is start program n due ch =
    let may = legal.1 in
    let same : may.actor ≡ x = some_actor may.actor x (sym may.reads.is ∙ is) in
    read_last (after d before) (always d before legal.0) a own wrote may start (ap (λ (y : Actor). y.program) same ∙ program) n due ch

-- Drops

pub delivery_fares : (now : ℕ) (q : Queue) (a : List ℕ) (program : Program) (past : List Own) (life : Life) (start : ℕ) (args : LocalArgs)
    → program ≡ Delivery start args → life ≡ Alive
    → FaresBy now q a program past life → DeliveryFares q a args past Alive
delivery_fares now q a (Delivery began words) past Alive start args is alive F = let same : words ≡ args = cc in subst (λ (z : LocalArgs). DeliveryFares q a z past Alive) same F
delivery_fares now q a (Delivery began words) past life start args is alive F = absurd (cc)
delivery_fares now q a other past life start args is alive F = absurd (cc)

-- what is due to a delivery
pub delivery_due : (program : Program) (past : List Own) (read : ℕ) (ready : Ready) (start : ℕ) (args : LocalArgs) (due : NeedData) → program ≡ Delivery start args → next_of program past read ready ≡ due
    → DeliversNext args past read ready ≡ due
delivery_due program past read ready start args due is next = subst (λ (p : Program). next_of p past read ready ≡ due) is next

module _ (s : State) (I : Inv s) (a : List ℕ) (own : Own) (wrote : ℕ) (may : MayDo s a own wrote) (start : ℕ) (args : LocalArgs)
    (is : may.actor.program ≡ Delivery start args) where
  linked_whole : (from to : List ℕ) → own.due ≡ needs.File (Link from to)
      → (message : List ℕ) × (message_in (taken may.actor.past) ≡ Some message) × IsWhole s.disk from (maildir_text args message)
  linked_whole from to due =
      let x = may.actor in
      let q = queue s I.role in
      let F = delivery_fares s.now q a x.program x.past x.life start args is may.reads.alive (I.fares a x may.reads.is) in
      linked_is_whole q a args x.past own.read own.ready from to F.rests
      (delivery_due x.program x.past own.read own.ready start args (needs.File (Link from to)) is (may.due ∙ due))

pub drops_are_whole : DropsAreWhole
drops_are_whole d a own wrote before legal x is start args program from to due =
    let may = legal.1 in
    let same : may.actor ≡ x = some_actor may.actor x (sym may.reads.is ∙ is) in
    subst (λ (y : Actor). (message : List ℕ) × (message_in (taken y.past) ≡ Some message) × IsWhole (after d before).disk from (maildir_text args message)) same
    (linked_whole (after d before) (always d before legal.0) a own wrote may start args (ap (λ (y : Actor). y.program) same ∙ program) from to due)

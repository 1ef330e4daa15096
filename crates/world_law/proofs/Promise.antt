-- The promise holds of each prefix of a legal history.
use Rattle.std.proofs.Common.{◌≡◌, ℕ, List, [], ◌∷◌, ◌++◌, true, Option, Some, None, option_map, IsSomeAnd, refl, sym, ap, ◌∙◌, subst, codes}
use Rattle.call_fs.specs.Disk.{Disk}
use Rattle.call_fs.specs.Past.{IsRunBy}
use Rattle.call_fs.specs.Past.{taken}
use Rattle.local_parts.specs.Inputs.{message_in}
use Rattle.queue_inject.specs.Texts.{entered}
use Rattle.address_rules.specs.declared.controls.Controls.{Controls}
use Rattle.queue_law.specs.Books.{Injection, routed_in, spot_in}
use Rattle.queue_law.specs.Routes.{Recipient, routed, spot_of}
use Rattle.program_law.specs.Post.Laws.{AreHeard, IsHeard, WasDelivered}
use Rattle.program_law.specs.Post.Posts.{freed}
use Rattle.program_law.proofs.Post.Desks.{desks_tell, was_in}
use Rattle.send_core.specs.declared.desk.Desk.{Desk}
use Rattle.send_core.specs.Agrees.{task_of}
use Rattle.send_core.specs.Desk.{told}
use Rattle.send_core.specs.Past.{Account, Task, account, settle, settle_by}
use Rattle.send_core.specs.Table.{Next, place_after as sender_after}
use Rattle.send_runs.proofs.Reports.{Flies, flies_told}
use Rattle.send_jobs.specs.declared.attempts.Attempt.{Attempt}
use Rattle.send_known.specs.declared.channel.Channel.TheVariants.{Local}
use Rattle.send_jobs.specs.Sending.{lane}
use Rattle.send_jobs.specs.Slots.{attempt_in}
use Rattle.spawn_protocol.specs.declared.report.Report.{Report}
use Rattle.world_events.specs.declared.event.Event.{Event as Kept}
use Rattle.world_events.specs.declared.event.Program.{Program}
use Rattle.world_events.specs.declared.event.Program.TheVariants.{Sender}
use Rattle.mail_world.specs.History.{Actor, Event, Legal, State, after, next_of}
use Rattle.mail_world.specs.History.Life.{Over}
use Rattle.mail_world.specs.History.Event.{Act}
use Rattle.mail_world.specs.World.{IsHistory}
use Rattle.mail_world.proofs.Waiting.{legal_before}
use Rattle.world_law.specs.Carried.{AreTrue, Carried, DeliveredAreCarried, IsTrue, KReportsAreCarried, WasCarried, WasCarriedFor}
use Rattle.world_law.specs.Headline.{EachPromised, Headline, Promise, WorldsAreSafe}
use Rattle.world_law.specs.Lives.{SenderDid}
use Rattle.world_law.specs.Reported.{WasTaken}
use Rattle.world_law.specs.Inv.{Inv}
use Rattle.world_law.specs.Crew.{IsNamed}
use Rattle.world_law.specs.Started.{WasAsked}
use Rattle.world_law.specs.inside.Posts.{IsDeliveryFor, desk_by, desk_in}
use Rattle.world_law.proofs.Addressed.{deliveries_are_carried}
use Rattle.world_law.proofs.Apart.{started_for}
use Rattle.world_law.proofs.Asked.{asked_in}
use Rattle.world_law.proofs.Born.{IsBorn}
use Rattle.world_law.proofs.DeliveredDone.{done_for, took_message}
use Rattle.world_law.proofs.Entered.{given_in, messages_always, took_entered}
use Rattle.world_law.proofs.EnteredStands.{MessagesStand, sends_on}
use Rattle.world_law.proofs.Histories.{accounts_always, always, attempts_are_sound, safe_always}
use Rattle.world_law.proofs.Ledger.{accounted_in}
use Rattle.world_law.proofs.Lives.{life_of}
use Rattle.world_law.proofs.Routed.{ledgers_are_routed}
use Rattle.world_law.proofs.Reported.{ledgers_are_of_reports}
use Rattle.world_law.proofs.Heard.{flies_now, reports_now}
use Rattle.world_law.proofs.PostHeard.{takes_reports}
use Rattle.world_law.proofs.Ran.{have_run}
use Rattle.world_law.proofs.Tenants.{some_actor}

-- A delivery that ended with 0 was carried out, for the message that it took

module _ (d : Disk) (h : List Event) (legal : Legal d h) where
  same_message : (m n : List ℕ) → ◌≡◌ {A = Option (List ℕ)} (Some m) (Some n) → m ≡ n
  same_message m n e = cc

  carried_for : (name address recipient sender message : List ℕ) (it : IsDeliveryFor (after d h) (record { name = name; sender = sender; recipient = recipient }))
      → it.delivery.life ≡ Over 0 → recipient ≡ address → message_in (taken it.delivery.past) ≡ Some message → WasCarried d h address message
  carried_for name address recipient sender message it over same took =
      let w = deliveries_are_carried d h legal name it.delivery it.is it.start it.args it.program over in
      let is : w.0 ≡ message = same_message w.0 message (sym w.1.input ∙ took) in
      record {
        name = name;
        delivery = it.delivery;
        is = it.is;
        over = over;
        start = it.start;
        args = it.args;
        program = it.program;
        recipient = sym same ∙ it.recipient;
        carried = subst (λ (m : List ℕ). Carried d h name it.args it.delivery.past m) is w.1;
      }

  -- Reports

  abbrev s : State
  s = after d h

  abbrev I : Inv s
  I = always d h legal

  abbrev M : MessagesStand (IsBorn h) s
  M = messages_always d h legal

  abbrev slots : List (Option Attempt)
  slots = (lane Local (desk_in (s.actors (codes "sender"))).slots).slots

  module _ (on : sends_on s ≡ true) (asked : (slot : ℕ) (t : Attempt) → attempt_in slots slot ≡ Some t → WasAsked d h slot (task_of t)) where
    carried_in : (slot : ℕ) (t : Attempt) → attempt_in slots slot ≡ Some t → WasDelivered M.posts.done slot t.address → WasCarriedFor d h slot (task_of t)
    unfolding carried_for
    carried_in slot t flies w =
        let was = M.posts.was w.it w.among in
        let given = given_in (IsBorn h) s I M on w.it t (ap (attempt_in slots) w.slot_is ∙ flies) ((M.done on).was w.it w.among) in
        let took = took_message s I w.it was in
        record {
          message = took.0;
          entered = took_entered (IsBorn h) s I M on w.it was t.n given took.0 took.1;
          it = carried_for w.it.task.name t.address w.it.task.recipient w.it.task.sender took.0 was.is_for was.over w.recipient_is took.1;
          in_slot = was.in_slot ∙ ap (λ (n : ℕ). Some (record { parent = codes "lspawn"; number = n })) w.slot_is;
          started = started_for d h w.it.task.name slot (task_of t) (asked slot t flies) (subst (λ (n : ℕ). IsBorn h n w.it.task.name) w.slot_is ((M.done on).started w.it w.among));
        }

    true_of : (r : Report) (o : Option Attempt) → ((t : Attempt) → o ≡ Some t → attempt_in slots r.slot ≡ Some t) → IsHeard Local M.posts.done r o → IsTrue d h r (option_map task_of o)
    true_of r None flies heard = heard
    true_of r (Some t) flies heard = λ success. carried_in r.slot t (flies t refl) (heard success)

    -- one report after the other
    all_true : (rs : List Report) (left : List (Option Attempt)) (z : Desk) (a : Account) → Flies Local a z → (lane Local z.slots).slots ≡ left
        → ((slot : ℕ) (t : Attempt) → attempt_in left slot ≡ Some t → attempt_in slots slot ≡ Some t) → AreHeard Local M.posts.done rs left → AreTrue d h rs a
    all_true [] left z a flies same old heard = tt
    all_true (r ∷ rs) left z a flies same old heard =
        let o : Option Attempt = attempt_in (lane Local z.slots).slots r.slot in
        let later : Flies Local (settle r a) (told Local r z) = subst (λ (t : Option Task). Flies Local (settle_by t r a) (told Local r z)) (flies r.slot) (flies_told Local a r o z refl flies) in (
          subst (IsTrue d h r) (flies r.slot)
              (true_of r o (λ t is. old r.slot t (ap (λ (o : List (Option Attempt)). attempt_in o r.slot) (sym same) ∙ is))
              (subst (λ (o : List (Option Attempt)). IsHeard Local M.posts.done r (attempt_in o r.slot)) (sym same) heard.0)),
          all_true rs (freed r left) (told Local r z) (settle r a) later (desks_tell.one Local r z ∙ ap (freed r) same) (λ slot t is. old slot t (was_in left r slot t is)) heard.1,
        )

pub k_reports_are_carried : KReportsAreCarried
k_reports_are_carried d a own wrote before legal x is start program taking bytes came =
    let due : next_of (Sender start) x.past own.read own.ready ≡ own.due =
    subst (λ (p : Program). next_of p x.past own.read own.ready ≡ own.due) program
    (let may = legal.1 in let same : may.actor ≡ x = some_actor may.actor x (sym may.reads.is ∙ is) in subst (λ (y : Actor). next_of y.program y.past own.read own.ready ≡ own.due) same may.due) in
    let run : IsRunBy (Next None) x.past = subst (λ (p : Program). IsRunBy (next_of p) x.past) program (have_run d before legal.0 a x is) in
    let name : a ≡ codes "sender" = subst (IsNamed a) program ((always d before legal.0).crew a x is) in
    let here : (after d before).actors (codes "sender") ≡ Some x = ap (after d before).actors (sym name) ∙ is in
    let desk : desk_in ((after d before).actors (codes "sender")) ≡ sender_after None x.past = ap desk_in here ∙ ap (λ (p : Program). desk_by p x.past) program in
    let flew = flies_now x.past run own due taking in
    let asked : (slot : ℕ) (t : Attempt) → attempt_in (slots d before legal.0) slot ≡ Some t → WasAsked d before slot (task_of t) =
    λ slot t flies. asked_in slot (task_of t) d before legal.0 x here
    (sym (flew slot) ∙ ap (option_map task_of) (ap (λ (z : Desk). attempt_in (lane Local z.slots).slots slot) (sym desk) ∙ flies)) in
    let all = takes_reports (after d before) (always d before legal.0) (messages_always d before legal.0).posts
    (λ rs z. (y : Account) → Flies Local y z → AreTrue d before rs y) (λ z y flies. tt)
    (λ on rs z same heard y flies. all_true d before legal.0 on asked rs (lane Local z.slots).slots z y flies refl
    (λ slot t there. ap (λ (l : List (Option Attempt)). attempt_in l slot) (sym same) ∙ there) heard)
    a own wrote legal.1 x is start program taking bytes came in
    reports_now x.past run own due taking bytes came (λ rs. AreTrue d before rs (account Local x.past)) tt (all (account Local x.past) flew)

-- and whom ledgers have as delivered
pub delivered_are_carried : DeliveredAreCarried
delivered_are_carried d before legal i here r on among =
    let w = done_for d before legal i here r on among in
    carried_for d before legal w.task.name (routed_in i r) w.task.recipient w.task.sender (entered i.args) w.is_for w.over w.recipient w.took

-- The promise

abbrev Delivers : Disk → List Event → Injection → Controls → Type 0
Delivers d h i routes = (r : Recipient i.args) → (spot_of routes i.args r).channel ≡ Local → WasTaken d h true i (spot_of routes i.args r)
    → WasCarried d h (routed routes i.args r) (entered i.args)

promised : (d : Disk) (h : List Event) → Legal d h → Promise d h
promised d h legal = record {
  safe = record {
    state = safe_always d h legal;
    accounted = λ i here accepted.
        let life = life_of d h legal i here in (life.0, life.1, λ r. accounted_in d h legal i here life.0 life.1 r (accounts_always d h legal i here accepted r));
  };
  delivered = λ i here life it.
      subst (Delivers d h i) (ledgers_are_routed d h legal i life it).0 (λ r on was. delivered_are_carried d h legal i here r on ((ledgers_are_of_reports d h legal i here (spot_in i r)).0.1 was));
  attempts = λ later until all it ch text due. attempts_are_sound d it.name it.own it.wrote it.earlier (legal_at later until all it) it.sender it.is it.start it.program ch text due;
  reports = λ later until all it due bytes came. k_reports_are_carried d it.name it.own it.wrote it.earlier (legal_at later until all it) it.sender it.is it.start it.program due bytes came;
  carried = λ name x is start args program over. deliveries_are_carried d h legal name x is start args program over;
}
  where
    legal_at : (later until : List Event) → later ++ until ≡ h → (it : SenderDid d until) → Legal d (Act it.name it.own it.wrote ∷ it.earlier)
    legal_at later until all it = subst (Legal d) it.all (legal_before d later until (subst (Legal d) (sym all) legal))

pub headline : Headline
headline d later before legal = promised d before (legal_before d later before legal)

happened_safe : (opening : Disk) (told : Option Disk) (events : List Kept) (present : ℕ) (h : List Event)
    → IsSomeAnd told (λ now. IsHistory opening now events present h) → EachPromised opening h
happened_safe opening None events present h happened = absurd happened
happened_safe opening (Some now) events present h happened = λ later before same.
    headline opening later before (subst (Legal opening) (sym same) happened.legal)

pub worlds_are_safe : WorldsAreSafe
worlds_are_safe opening w h happened = happened_safe opening w.disk w.events w.present h happened

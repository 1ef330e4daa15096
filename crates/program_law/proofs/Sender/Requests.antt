-- A request: it is of a record that reads `T`, and keeps what the sender relies on.
use Rattle.std.proofs.Common.{◌≡◌, ℕ, List, [], drop, Bool, true, false, Option, Some, None, refl, sym, ap, ◌∙◌, subst}
use Rattle.std.specs.Prelude.{IsSome, if◌then◌else◌, is_some}
use Rattle.call_fs.specs.declared.past.GotData.{GotData}
use Rattle.send_core.specs.declared.desk.Desk.{Desk}
use Rattle.send_parts.specs.declared.row.Point.TheVariants as point
use Rattle.send_parts.specs.declared.row.Row.TheVariants as at
use Rattle.send_core.specs.Desk.{request_sent, stands_at, with_requests}
use Rattle.send_core.specs.Table.{busy}
use Rattle.send_core.specs.Turn.{lost, requested}
use Rattle.send_jobs.specs.declared.attempts.Attempt.{Attempt}
use Rattle.send_known.specs.declared.channel.Channel.{Channel}
use Rattle.send_known.specs.declared.channel.Channel.TheVariants.{Local, Remote}
use Rattle.send_jobs.specs.declared.lane.Lane.{Lane}
use Rattle.send_jobs.specs.declared.slots.Slots.{Slots}
use Rattle.send_jobs.specs.Jobs.{job_of}
use Rattle.send_jobs.specs.Lanes.{next, sent, sent_in}
use Rattle.send_jobs.specs.Sending.{lane, next_delivery, sent_as, sent_on}
use Rattle.send_jobs.specs.Slots.{lowest}
use Rattle.send_known.specs.declared.messages.Messages.{Messages}
use Rattle.send_parts.specs.declared.reply.Way.{Way}
use Rattle.send_parts.specs.declared.reply.Way.TheVariants as way
use Rattle.send_parts.specs.Replies.{said}
use Rattle.program_law.proofs.Channel.Ties.{request_kept}
use Rattle.program_law.specs.Channel.Tied.{IsTied}
use Rattle.program_law.specs.Channel.Tied.First.{Unwritten}
use Rattle.queue_law.specs.Numbers.{Queue}
use Rattle.program_law.specs.Sender.Views.{files_of}
use Rattle.program_law.specs.Sender.Rows.{HasNoMarks, works}
use Rattle.program_law.specs.Sender.Stands.{DueApart, SenderStands, Stands, StandsAt}
use Rattle.program_law.specs.Sender.Passing.{RequestLeads}
use Rattle.program_law.proofs.Sender.Apart.{IsFewer, apart_lane}
use Rattle.program_law.proofs.Sender.Arrive.{IsPlain}
use Rattle.program_law.proofs.Sender.Desks.{OnDesk, on_of, stand}
use Rattle.program_law.proofs.Sender.Lanes.{OnBoth, OnLane}

pub the : {A : Type 0} (o : Option A) → IsSome o → (x : A) × (o ≡ Some x)
the None h = absurd (cc)
the (Some x) h = (x, refl)

-- it is in flight in the lowest free slot
sent_is : (l : Lane) (delivery slot : ℕ) (t : Attempt) → next l ≡ Some t → lowest l.slots ≡ Some slot → sent delivery l ≡ sent_in (Some slot) (Some t) delivery l
sent_is l delivery slot t e f = ap (λ o. sent_in o (next l) delivery l) f ∙ ap (λ o. sent_in (Some slot) o delivery l) e

sent_lane : (q : Queue) (ch : Channel) (l : Lane) → OnLane q ch l → (delivery slot : ℕ) (t : Attempt) → next l ≡ Some t → lowest l.slots ≡ Some slot
    → OnLane q ch (sent delivery l)
sent_lane q ch l h delivery slot t there free =
    let same = sent_is l delivery slot t there free in
    let out : Lane = sent_in (Some slot) (Some t) delivery l in
    let tied = (request_kept (files_of q ch) Unwritten l delivery slot t h.tied there free).2 in
    let on : OnLane q ch out = record { tied = subst (λ (m : Lane). IsTied (files_of q ch) Unwritten m) same tied; jobs = h.jobs; marks = h.marks } in
    subst (OnLane q ch) (sym same) on

sent_marks : (l : Lane) (delivery slot : ℕ) (t : Attempt) → next l ≡ Some t → lowest l.slots ≡ Some slot → l.marks ≡ [] → (sent delivery l).marks ≡ []
sent_marks l delivery slot t e f bare = ap (λ (m : Lane). m.marks) (sent_is l delivery slot t e f) ∙ bare

-- of both channels, when the next attempt of one has gone out
sent_both : (q : Queue) (c : Channel) (s : Slots) → OnBoth q s → (delivery slot : ℕ) (t : Attempt) → next (lane c s) ≡ Some t → lowest (lane c s).slots ≡ Some slot
    → OnBoth q (sent_as (Some slot) c delivery s)
sent_both q Local s h delivery slot t e f Local = sent_lane q Local s.local (h Local) delivery slot t e f
sent_both q Local s h delivery slot t e f Remote = h Remote
sent_both q Remote s h delivery slot t e f Local = h Local
sent_both q Remote s h delivery slot t e f Remote = sent_lane q Remote s.remote (h Remote) delivery slot t e f

sent_bare : (c : Channel) (s : Slots) → HasNoMarks s → (delivery slot : ℕ) (t : Attempt) → next (lane c s) ≡ Some t → lowest (lane c s).slots ≡ Some slot
    → HasNoMarks (sent_as (Some slot) c delivery s)
sent_bare Local s h delivery slot t e f Local = sent_marks s.local delivery slot t e f (h Local)
sent_bare Local s h delivery slot t e f Remote = h Remote
sent_bare Remote s h delivery slot t e f Local = h Local
sent_bare Remote s h delivery slot t e f Remote = sent_marks s.remote delivery slot t e f (h Remote)

sent_fewer : (l : Lane) (delivery slot : ℕ) (t : Attempt) → next l ≡ Some t → lowest l.slots ≡ Some slot → IsFewer (sent delivery l).jobs l.jobs
sent_fewer l delivery slot t e f n some = subst (λ (m : Lane). IsSome (job_of n m.jobs)) (sent_is l delivery slot t e f) some

sent_apart : (c : Channel) (m : Messages) (s : Slots) → DueApart m s → (delivery slot : ℕ) (t : Attempt) → next (lane c s) ≡ Some t → lowest (lane c s).slots ≡ Some slot
    → DueApart m (sent_as (Some slot) c delivery s)
sent_apart Local m s h delivery slot t e f Local = apart_lane Local (sent delivery) m s (sent_fewer s.local delivery slot t e f) h Local
sent_apart Local m s h delivery slot t e f Remote = h Remote
sent_apart Remote m s h delivery slot t e f Local = h Local
sent_apart Remote m s h delivery slot t e f Remote = apart_lane Remote (sent delivery) m s (sent_fewer s.remote delivery slot t e f) h Remote

plain_row : (c : Channel) → IsPlain (at.Request c)
plain_row c = record { first = λ ch. refl; controls_read = tt }

module _ (now : ℕ) (q : Queue) (a : List ℕ) where
  -- what a desk with these slots relies on at the next point
  gave_on : (c : Channel) (s : Slots) (d : Desk) → OnDesk q d → OnBoth q s → DueApart d.book.messages s → HasNoMarks s → Stands now q a (at.Turn (point.Pass c false)) d.book s (works d)
  gave_on c s d h lanes apart bare =
      let e : Desk = record d { slots = s } in
      let on : OnDesk q e = record { known = h.known; due = h.due; lanes = lanes; apart = apart; no_nul = h.no_nul } in
      stand now q a (at.Turn (point.Pass c false)) e (λ ch. refl) on bare

  -- the request was given
  given_on : (c : Channel) (d : Desk) → OnDesk q d → HasNoMarks d.slots → (slot : ℕ) (t : Attempt) → next (lane c d.slots) ≡ Some t → lowest (lane c d.slots).slots ≡ Some slot
      → Stands now q a (at.Turn (point.Pass c false)) d.book (sent_on c d.slots) (works d)
  given_on c d h bare slot t e f =
      let s : Slots = sent_as (Some slot) c (next_delivery d.slots) d.slots in
      let same : sent_on c d.slots ≡ s = ap (λ o. sent_as o c (next_delivery d.slots) d.slots) f in
      subst (λ (x : Slots). Stands now q a (at.Turn (point.Pass c false)) d.book x (works d)) (sym same)
      (gave_on c s d h (sent_both q c d.slots h.lanes (next_delivery d.slots) slot t e f) (sent_apart c d.book.messages d.slots h.apart (next_delivery d.slots) slot t e f) (sent_bare c d.slots bare (next_delivery d.slots) slot t e f))

  sent_by : (c : Channel) (d : Desk) (b : Bool) → is_some (next (lane c d.slots)) ≡ b → Stands now q a (at.Turn (point.Pass c false)) d.book (sent_on c d.slots) (works d)
      → IsSome (next (lane c d.slots)) → SenderStands now q a (request_sent c (stands_at d (point.Pass c false)))
  sent_by Local d b e h some =
      subst (λ (x : Bool). SenderStands now q a (if x then with_requests Local (drop 1 d.local.requests) (record (stands_at d (point.Pass Local false)) { slots = sent_on Local d.slots }) else stands_at d (point.Pass Local false)))
      (sym some) h
  sent_by Remote d b e h some =
      subst (λ (x : Bool). SenderStands now q a (if x then with_requests Remote (drop 1 d.remote.requests) (record (stands_at d (point.Pass Remote false)) { slots = sent_on Remote d.slots }) else stands_at d (point.Pass Remote false)))
      (sym some) h

  lost_at : (c : Channel) (d : Desk) → OnDesk q d → Stands now q a (lost c) d.book d.slots (works d)
  lost_at Local d h = stand now q a (at.Ended 82) d (λ ch. refl) h tt
  lost_at Remote d h = stand now q a (at.Ended 83) d (λ ch. refl) h tt

  came_on : (c : Channel) (d : Desk) (w : Way) → OnDesk q d → SenderStands now q a (request_sent c (stands_at d (point.Pass c false)))
      → SenderStands now q a (requested w c d)
  came_on c d way.Fine on h = h
  came_on c d way.Over on h = lost_at c d on
  came_on c d way.Absent on h = lost_at c d on
  came_on c d way.NoMemory on h = lost_at c d on
  came_on c d way.Broken on h = lost_at c d on

  -- the turn had a step more
  busy_on : (d : Desk) → SenderStands now q a d → SenderStands now q a (busy d)
  busy_on d h = h

  pub requests : (c : Channel) (d : Desk) (read : ℕ) (came : GotData) → StandsAt now q a (at.Request c) d → RequestLeads now q a c d read came
  requests c d read came h =
      let on = on_of now q a (at.Request c) d (plain_row c) (λ n w. w) h in
      let bare = h.rests.0 in
      let t = the (next (lane c d.slots)) h.rests.1.0 in
      let slot = the (lowest (lane c d.slots).slots) h.rests.1.1 in
      let l = on.lanes c in
      let kept = request_kept (files_of q c) Unwritten (lane c d.slots) (next_delivery d.slots) slot.0 t.0 l.tied t.1 slot.1 in
      let given = given_on c d on bare slot.0 t.0 t.1 slot.1 in
      record {
        asked = record { attempt = t.0; next_is = t.1; reads = kept.0; alone = kept.1 };
        stands = busy_on (requested (said came).way c d) (came_on c d (said came).way on (sent_by c d true h.rests.1.0 given h.rests.1.0));
      }

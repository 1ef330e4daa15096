-- What an event of the sender does to the slots of a channel, and to what it gives to the spawner.
use Rattle.std.proofs.Common.{◌≡◌, ◌≢◌, ⊎_elim, ℕ, ◌≤◌, List, [], ◌∷◌, drop, replicate, min, Bool, true, false, if◌then◌else◌, Option, Some, None, refl, sym, ap, ◌∙◌, subst}
use Rattle.std.specs.Prelude.{is_some}
use Rattle.std.proofs.lemmas.Bool.{cases_lt}
use Rattle.std.proofs.lemmas.List.{get_or-replicate, get_or-set_other, get_or_past, length-replicate}
use Rattle.call_fs.specs.declared.past.GotData.{GotData}
use Rattle.call_fs.specs.declared.past.GotData.TheVariants as came
use Rattle.call_fs.specs.declared.past.NeedData.{NeedData}
use Rattle.call_fs.specs.declared.past.NeedData.TheVariants as needs
use Rattle.call_fs.specs.declared.past.Own.{Own}
use Rattle.call_fs.specs.declared.program.Port.TheVariants as port
use Rattle.call_fs.specs.declared.program.Ready.{Ready}
use Rattle.call_fs.specs.Program.{MayCome}
use Rattle.program_law.specs.Post.Posts.{freed, freed_all}
use Rattle.program_law.specs.Post.Senders.{AsksFor, IsFirst, IsLate, asked_on, is_early, is_on}
use Rattle.program_law.proofs.Post.Aways.{IsAway, away_asked, control_away, row_away, start_away}
use Rattle.program_law.proofs.Post.Desks.{desks_tell, was_in}
use Rattle.program_law.proofs.Post.Leaves.{Halves, IsStill, Same, act_goes}
use Rattle.send_core.specs.declared.desk.Desk.{Desk}
use Rattle.send_parts.specs.declared.row.Point.TheVariants as point
use Rattle.send_parts.specs.declared.row.Row.{Row}
use Rattle.send_parts.specs.declared.row.Row.TheVariants as at
use Rattle.send_core.specs.Desk.{link, stands_at, with_requests}
use Rattle.send_core.specs.Table.{act, arrive, due_at, from_point, moved, moved_by, port_of, row_now}
use Rattle.send_jobs.specs.declared.attempts.Attempt.{Attempt}
use Rattle.send_known.specs.declared.channel.Channel.{Channel}
use Rattle.send_known.specs.declared.channel.Channel.TheVariants.{Local, Remote}
use Rattle.send_jobs.specs.declared.lane.Lane.{Lane}
use Rattle.send_jobs.specs.declared.slots.Slots.{Slots}
use Rattle.send_jobs.specs.Lanes.{next, sent_in}
use Rattle.send_jobs.specs.Sending.{lane, next_delivery, sent_as, sent_on}
use Rattle.send_jobs.specs.Slots.{attempt_in, lowest}
use Rattle.send_parts.specs.declared.rows.StartRow.{StartRow}
use Rattle.send_parts.specs.declared.rows.StartRow.TheVariants as start
use Rattle.send_parts.specs.Replies.{said}
use Rattle.send_links.specs.Requests.{first_text}
use Rattle.send_parts.specs.Start.{remote_limit}
use Rattle.spawn_protocol.specs.declared.report.Report.{Report}
use Rattle.spawn_protocol.specs.Report.{read_on}
use Rattle.world_law.proofs.PostSends.{stays_late}

-- Nothing is given, and the slots are what they were; reports free some, while it goes on; a request is given for the lowest free slot; or it
-- is given in part, and the sender is lost.
pub data Change (c : Channel) (d e : Desk) (due : NeedData) (got : GotData) : Type 0 where
  Still : ((slot : ℕ) → attempt_in (lane c e.slots).slots slot ≡ attempt_in (lane c d.slots).slots slot) → ((wrote : ℕ) (asked : List ℕ) → asked_on c due got wrote asked ≡ asked)
      → Change c d e due got
  Freed : is_on e.row ≡ true → ((slot : ℕ) (t : Attempt) → attempt_in (lane c e.slots).slots slot ≡ Some t → attempt_in (lane c d.slots).slots slot ≡ Some t) → Change c d e due got
  Asked : is_on e.row ≡ true → (slot : ℕ) → lowest (lane c d.slots).slots ≡ Some slot
      → ((other : ℕ) → other ≢ slot → attempt_in (lane c e.slots).slots other ≡ attempt_in (lane c d.slots).slots other) → Change c d e due got
  Cut : is_on e.row ≡ false → (text : List ℕ) → due ≡ needs.Give (port_of c) text → got ≡ came.Failed → lane c e.slots ≡ lane c d.slots → Change c d e due got

-- Reports free slots

fewer : (rs : List Report) (slots : List (Option Attempt)) (slot : ℕ) (t : Attempt) → attempt_in (freed_all rs slots) slot ≡ Some t → attempt_in slots slot ≡ Some t
fewer [] slots slot t is = is
fewer (r ∷ rs) slots slot t is = was_in slots r slot t (fewer rs (freed r slots) slot t is)

-- A request goes to the lowest free one

sent_in_other : (low : Option ℕ) (o : Option Attempt) (delivery : ℕ) (l : Lane) (slot other : ℕ) → low ≡ Some slot → other ≢ slot
    → attempt_in (sent_in low o delivery l).slots other ≡ attempt_in l.slots other
sent_in_other (Some k) (Some a) delivery l slot other is apart =
    let same : k ≡ slot = cc in
    get_or-set_other l.slots k other (Some (record a { delivery = delivery })) None (λ e. apart (e ∙ same))
sent_in_other (Some k) None delivery l slot other is apart = refl
sent_in_other None o delivery l slot other is apart = refl

sent_as_other : (c : Channel) (low : Option ℕ) (delivery : ℕ) (s : Slots) (slot other : ℕ) → lowest (lane c s).slots ≡ Some slot → other ≢ slot
    → attempt_in (lane c (sent_as low c delivery s)).slots other ≡ attempt_in (lane c s).slots other
sent_as_other c None delivery s slot other is apart = refl
sent_as_other Local (Some k) delivery s slot other is apart = sent_in_other (lowest s.local.slots) (next s.local) delivery s.local slot other is apart
sent_as_other Remote (Some k) delivery s slot other is apart = sent_in_other (lowest s.remote.slots) (next s.remote) delivery s.remote slot other is apart

abbrev sent_desk : Channel → Desk → Desk
sent_desk c d = with_requests c (drop 1 (link c d).requests) (record d { slots = sent_on c d.slots })

sent_other : (c : Channel) (b : Bool) (d : Desk) (slot other : ℕ) → lowest (lane c d.slots).slots ≡ Some slot → other ≢ slot
    → attempt_in (lane c (if b then sent_desk c d else d).slots).slots other ≡ attempt_in (lane c d.slots).slots other
sent_other c false d slot other is apart = refl
sent_other Local true d slot other is apart = sent_as_other Local (lowest d.slots.local.slots) (next_delivery d.slots) d.slots slot other is apart
sent_other Remote true d slot other is apart = sent_as_other Remote (lowest d.slots.remote.slots) (next_delivery d.slots) d.slots slot other is apart

-- that of the other channel leaves them

local_lane : (low : Option ℕ) (delivery : ℕ) (s : Slots) → (sent_as low Remote delivery s).local ≡ s.local
local_lane None delivery s = refl
local_lane (Some k) delivery s = refl

remote_lane : (low : Option ℕ) (delivery : ℕ) (s : Slots) → (sent_as low Local delivery s).remote ≡ s.remote
remote_lane None delivery s = refl
remote_lane (Some k) delivery s = refl

local_sent : (b : Bool) (d : Desk) → (if b then sent_desk Remote d else d).slots.local ≡ d.slots.local
local_sent true d = local_lane (lowest d.slots.remote.slots) (next_delivery d.slots) d.slots
local_sent false d = refl

remote_sent : (b : Bool) (d : Desk) → (if b then sent_desk Local d else d).slots.remote ≡ d.slots.remote
remote_sent true d = remote_lane (lowest d.slots.local.slots) (next_delivery d.slots) d.slots
remote_sent false d = refl

sent_row : (c : Channel) (b : Bool) (d : Desk) → (if b then sent_desk c d else d).row ≡ d.row
sent_row Local true d = refl
sent_row Remote true d = refl
sent_row c false d = refl

-- By its rows

slots_on : (c : Channel) (d e : Desk) → Same d e → (lane c e.slots).slots ≡ (lane c d.slots).slots
slots_on Local d e s = ap (λ (h : Halves). h.local_slots) s
slots_on Remote d e s = ap (λ (h : Halves). h.remote_slots) s

no_attempt : (n slot : ℕ) → attempt_in (replicate n None) slot ≡ None
no_attempt n slot = ⊎_elim
    (λ lt. get_or-replicate n slot None None lt)
    (λ past. get_or_past (replicate n None) slot None (subst (λ k. k ≤ slot) (sym (length-replicate n None)) past))
    (cases_lt slot n)

start_asked : (c : Channel) (row : StartRow) (d : Desk) (got : GotData) (wrote : ℕ) (asked : List ℕ) → asked_on c (due_at (at.Start row) d) got wrote asked ≡ asked
start_asked c (start.Control f reading) d got wrote asked = away_asked c (due_at (at.Start (start.Control f reading)) d) got wrote asked (control_away f reading d)
start_asked c start.GreetLocal d got wrote asked = refl
start_asked c (start.GreetRemote limit) d got wrote asked = refl
start_asked c row d got wrote asked = away_asked c (due_at (at.Start row) d) got wrote asked (start_away row d refl)

module _ (d : Desk) (read : ℕ) where
  abbrev Leads : Channel → Row → GotData → Type 0
  Leads c row got = Change c d (moved_by row read got d) (due_at row d) got

  still : (c : Channel) (row : Row) (got : GotData) → IsStill row → Leads c row got
  still c row got is = Still
      (λ slot. ap (λ (l : List (Option Attempt)). attempt_in l slot) (slots_on c d (act row read got d) (act_goes row read got d is).same))
      (λ wrote asked. away_asked c (due_at row d) got wrote asked (row_away row d is))

  -- its start: once it took both first bytes all slots are free

  start_slots : (c : Channel) (row : StartRow) (got : GotData) → IsFirst (at.Start row) d → (slot : ℕ)
      → attempt_in (lane c (moved_by (at.Start row) read got d).slots).slots slot ≡ attempt_in (lane c d.slots).slots slot
  start_slots Local (start.GreetRemote limit) got quiet slot = no_attempt (min limit 120) slot ∙ sym ((quiet refl).free Local slot)
  start_slots Remote (start.GreetRemote limit) got quiet slot = no_attempt (min (remote_limit (said got).bytes d.book.controls) 120) slot ∙ sym ((quiet refl).free Remote slot)
  start_slots c row got quiet slot = refl

  -- takings

  took : (c k : Channel) (bytes : List ℕ) → Leads c (at.TakeLink k) (came.Took bytes)
  took Local Local bytes = Freed refl
      (λ slot t is. fewer (read_on d.local.reader bytes).0 d.slots.local.slots slot t (ap (λ (l : List (Option Attempt)). attempt_in l slot) (sym (desks_tell.all Local bytes d)) ∙ is))
  took Remote Remote bytes = Freed refl
      (λ slot t is. fewer (read_on d.remote.reader bytes).0 d.slots.remote.slots slot t (ap (λ (l : List (Option Attempt)). attempt_in l slot) (sym (desks_tell.all Remote bytes d)) ∙ is))
  took Local Remote bytes = Still (λ slot. ap (λ (l : List (Option Attempt)). attempt_in l slot) (desks_tell.others Remote Local bytes d (λ e. cc)).0) (λ wrote asked. refl)
  took Remote Local bytes = Still (λ slot. ap (λ (l : List (Option Attempt)). attempt_in l slot) (desks_tell.others Local Remote bytes d (λ e. cc)).0) (λ wrote asked. refl)

  takes : (c k : Channel) (got : GotData) → MayCome (needs.Take (port_of k)) got → Leads c (at.TakeLink k) got
  takes c k (came.Took bytes) may = took c k bytes
  takes c Local came.End may = Still (λ slot. refl) (λ wrote asked. refl)
  takes c Remote came.End may = Still (λ slot. refl) (λ wrote asked. refl)
  takes c Local came.Failed may = Still (λ slot. refl) (λ wrote asked. refl)
  takes c Remote came.Failed may = Still (λ slot. refl) (λ wrote asked. refl)
  takes c Local got may = absurd may
  takes c Remote got may = absurd may

  -- givings

  gave : (c : Channel) → AsksFor c d (first_text (link c d).requests) → Leads c (at.Request c) came.Gave
  gave c A =
      let before : Desk = stands_at d (point.Pass c false) in
      let b = is_some (next (lane c before.slots)) in
      Asked (ap is_on (sent_row c b before)) A.slot A.free (λ other apart. sent_other c b before A.slot other A.free apart)

  gives : (c k : Channel) (got : GotData) → MayCome (due_at (at.Request k) d) got → ((text : List ℕ) → due_at (at.Request k) d ≡ needs.Give (port_of c) text → AsksFor c d text)
      → Leads c (at.Request k) got
  gives Local Local came.Gave may asks = gave Local (asks (first_text d.local.requests) refl)
  gives Remote Remote came.Gave may asks = gave Remote (asks (first_text d.remote.requests) refl)
  gives Local Remote came.Gave may asks =
      let before : Desk = stands_at d (point.Pass Remote false) in
      Still (λ slot. ap (λ (l : Lane). attempt_in l.slots slot) (local_sent (is_some (next (lane Remote before.slots))) before)) (λ wrote asked. refl)
  gives Remote Local came.Gave may asks =
      let before : Desk = stands_at d (point.Pass Local false) in
      Still (λ slot. ap (λ (l : Lane). attempt_in l.slots slot) (remote_sent (is_some (next (lane Local before.slots))) before)) (λ wrote asked. refl)
  gives Local Local came.Failed may asks = Cut refl (first_text d.local.requests) refl refl refl
  gives Remote Remote came.Failed may asks = Cut refl (first_text d.remote.requests) refl refl refl
  gives Local Remote came.Failed may asks = Still (λ slot. refl) (λ wrote asked. refl)
  gives Remote Local came.Failed may asks = Still (λ slot. refl) (λ wrote asked. refl)
  gives c k got may asks = absurd may

  by_row : (c : Channel) (row : Row) (got : GotData) → MayCome (due_at row d) got → IsFirst row d → ((text : List ℕ) → due_at row d ≡ needs.Give (port_of c) text → AsksFor c d text) → Leads c row got
  by_row c (at.Start row) got may first asks = Still (start_slots c row got first) (start_asked c row d got)
  by_row c (at.Turn p) got may first asks = absurd may
  by_row c (at.TakeLink k) got may first asks = takes c k got may
  by_row c (at.Request k) got may first asks = gives c k got may asks
  by_row c (at.Mark row m) got may first asks = still c (at.Mark row m) got tt
  by_row c (at.UnlinkFile k n p) got may first asks = still c (at.UnlinkFile k n p) got tt
  by_row c (at.ReadFile k n begun reading) got may first asks = still c (at.ReadFile k n begun reading) got tt
  by_row c (at.FindTodo again) got may first asks = still c (at.FindTodo again) got tt
  by_row c at.InTodo got may first asks = still c at.InTodo got tt
  by_row c (at.Finish row n) got may first asks = still c (at.Finish row n) got tt
  by_row c (at.Sweep row) got may first asks = still c (at.Sweep row) got tt
  by_row c (at.Ended status) got may first asks = absurd may

-- Any event that is due

late_first : (row : Row) (d : Desk) → IsLate row → IsFirst row d
late_first (at.Start row) d late = λ early. absurd (cc)
late_first row d late = tt

first_now : (row : Row) (d : Desk) (event : Own) → IsFirst row d → IsFirst (arrive row d event.read event.ready) d
first_now (at.Turn p) d event first = late_first (from_point p d event.read event.ready) d (stays_late (at.Turn p) d event tt)
first_now row d event first = first

pub changes : (c : Channel) (d : Desk) (event : Own) → event.due ≡ due_at (row_now d event.read event.ready) d → MayCome event.due event.came → IsFirst d.row d
    → ((text : List ℕ) → event.due ≡ needs.Give (port_of c) text → AsksFor c d text) → Change c d (moved d event) event.due event.came
changes c d event due may first asks =
    subst (λ (n : NeedData). Change c d (moved d event) n event.came) (sym due)
    (by_row d event.read c (row_now d event.read event.ready) event.came (subst (λ (n : NeedData). MayCome n event.came) due may) (first_now d.row d event first) (λ text e. asks text (due ∙ e)))

-- the sender goes on before its event
on_before_at : (row : Row) (d : Desk) (read : ℕ) (ready : Ready) (got : GotData) → MayCome (due_at (arrive row d read ready) d) got → is_on row ≡ true
on_before_at (at.Ended status) d read ready got may = absurd may
on_before_at row d read ready got may = refl

pub on_before : (d : Desk) (event : Own) → event.due ≡ due_at (row_now d event.read event.ready) d → MayCome event.due event.came → is_on d.row ≡ true
on_before d event due may = on_before_at d.row d event.read event.ready event.came (subst (λ (n : NeedData). MayCome n event.came) due may)

-- and gives only after its start
no_give : (c : Channel) (text : List ℕ) → IsAway (needs.Give (port_of c) text) → ⊥
no_give Local text away = away
no_give Remote text away = away

start_gives : (row : StartRow) (d : Desk) (c : Channel) (text : List ℕ) → due_at (at.Start row) d ≡ needs.Give (port_of c) text → is_early row ≡ false
start_gives (start.Control f reading) d c text is = absurd (no_give c text (subst IsAway is (control_away f reading d)))
start_gives start.GreetLocal d c text is = let both : needs.Take port.Lspawn ≡ needs.Give (port_of c) text = is in absurd (cc)
start_gives (start.GreetRemote limit) d c text is = let both : needs.Take port.Rspawn ≡ needs.Give (port_of c) text = is in absurd (cc)
start_gives row d c text is = refl

gives_late_at : (row : Row) (d : Desk) (read : ℕ) (ready : Ready) (c : Channel) (text : List ℕ) → due_at (arrive row d read ready) d ≡ needs.Give (port_of c) text → IsLate row
gives_late_at (at.Start row) d read ready c text is = start_gives row d c text is
gives_late_at row d read ready c text is = tt

pub gives_late : (d : Desk) (event : Own) (c : Channel) (text : List ℕ) → event.due ≡ due_at (row_now d event.read event.ready) d → event.due ≡ needs.Give (port_of c) text → IsLate d.row
gives_late d event c text due is = gives_late_at d.row d event.read event.ready c text (sym due ∙ is)

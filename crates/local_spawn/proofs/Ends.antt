-- What comes of that: why it has ended, and what became of its requests.
use Rattle.std.proofs.Common.{◌≡◌, ℕ, ◌≤◌, List, [], ◌∷◌, false, Option, Some, None, refl, sym, ap, ◌∙◌, subst}
use Rattle.call_fs.specs.declared.calls.CallData.{CallData}
use Rattle.call_fs.specs.declared.calls.CallData.TheVariants as call
use Rattle.call_fs.specs.declared.calls.How.TheVariants as how
use Rattle.call_fs.specs.declared.past.ChildData.{ChildData}
use Rattle.call_fs.specs.declared.past.GotData.{GotData}
use Rattle.call_fs.specs.declared.past.NeedData.{NeedData}
use Rattle.call_fs.specs.declared.past.NeedData.TheVariants as needs
use Rattle.call_fs.specs.declared.past.Own.{Own}
use Rattle.call_fs.specs.declared.program.Port.TheVariants as port
use Rattle.call_fs.specs.declared.program.Ready.{Ready}
use Rattle.call_fs.specs.Past.{IsRunBy, taken}
use Rattle.spawn_protocol.specs.Request.{HasRead, Reader}
use Rattle.spawn_protocol.specs.declared.request.Request.{Request}
use Rattle.spawner_parts.specs.declared.place.Place.{Place as Work}
use Rattle.spawner_parts.specs.declared.row.Row.{Row as WorkRow}
use Rattle.spawner_parts.specs.declared.row.Row.TheVariants as work_at
use Rattle.spawner_parts.specs.Causes.{EndsWith, IsOver}
use Rattle.spawner_parts.specs.Causes.EndsWith.{GiveFailed, RequestsFailed, ProgramFailed}
use Rattle.spawner_parts.specs.Counts.{IsAtRest, IsSettled, asked, dealt_with}
use Rattle.spawner_parts.specs.Known.{Tells, last_read}
use Rattle.spawner_parts.specs.Table as parts
use Rattle.spawner_parts.proofs.Carried.{gives as gives_at}
use Rattle.spawner_parts.proofs.Failures.{failed as fails_at}
use Rattle.spawner_parts.proofs.Reasons.{ends as ends_at}
use Rattle.spawner_parts.proofs.Rows.{arrive_keeps}
use Rattle.spawner_parts.proofs.Settled.{each as each_at, most as most_at, settles as settles_at, starts as starts_at}
use Rattle.local_spawn.specs.declared.assign.Assignment.{Assignment}
use Rattle.local_spawn.specs.declared.delivery.Delivery.{Delivery}
use Rattle.local_spawn.specs.declared.place.Place.{Place}
use Rattle.local_spawn.specs.declared.row.Row.{Row}
use Rattle.local_spawn.specs.declared.row.Row.TheVariants as at
use Rattle.local_spawn.specs.Causes.{HasEnded, HasFailed, IsStarved, Starves}
use Rattle.local_spawn.specs.Causes.HasEnded.{AsAny as ended_as_any, InItsStart as ended_in_start}
use Rattle.local_spawn.specs.Causes.HasFailed.{AsAny as failed_as_any, InItsStart as failed_in_start}
use Rattle.local_spawn.specs.Causes.Starves.{OpenRefused}
use Rattle.local_spawn.specs.Deliveries.{delivery_for}
use Rattle.mail_bytes.specs.Netstring.{netstring}
use Rattle.local_spawn.specs.Starts.{IsDeliveryOfOne}
use Rattle.local_spawn.specs.Table.{Next, act, begun, due_at, due_by, due_from, local_kind, place_after, program_of, users_name}
use Rattle.local_spawn.proofs.DeliveryLemmas.{delivery_is}
use Rattle.local_spawn.proofs.Tells.{At, IsDue, Serving, Starting, tells}

-- Ends

ends_by : (past : List Own) (p : Place) (ready : Ready) (status : ℕ) (row : Row) → At past row p → due_at row ready p ≡ needs.Ended status → HasEnded past status
ends_by past p ready status at.Serves a due = ended_as_any (ends_at (program_of p) past p.work ready status a.tells.knows due)
ends_by past p ready status at.OutOfMemory a due = ended_in_start a.0 (let same : status ≡ 51 = cc in same)
ends_by past p ready status at.OpenUsers a due = absurd (cc)
ends_by past p ready status (at.ReadUsers fd) a due = absurd (cc)
ends_by past p ready status (at.CloseUsers fd whole) a due = absurd (cc)

pub ends : (args : Unit {0}) (past : List Own) (now : ℕ) (ready : Ready) (status : ℕ) → IsRunBy (Next args) past → Next args past now ready ≡ needs.Ended status → HasEnded past status
ends args past now ready status run due = let p : Place = place_after past in ends_by past p ready status p.row (tells args past run) due

no_file : {status : ℕ} {due : NeedData} {got : GotData} (c : CallData) → EndsWith status due got → due ≡ needs.File c → ⊥
no_file c (GiveFailed bytes) e = cc
no_file c RequestsFailed e = cc
no_file c (ProgramFailed slot) e = cc

no_end : {status : ℕ} {due : NeedData} {got : GotData} (code : ℕ) → EndsWith status due got → due ≡ needs.Ended code → ⊥
no_end code (GiveFailed bytes) e = cc
no_end code RequestsFailed e = cc
no_end code (ProgramFailed slot) e = cc

fails_by : (event : Own) (p : Place) (ready : Ready) (status : ℕ) (row : Row) → p.row ≡ row → event.due ≡ due_at row event.ready p → EndsWith status event.due event.came
    → due_by (act row event.ready event.came p) ready ≡ needs.Ended status
fails_by event p ready status at.Serves is due why =
    let q : Place = act at.Serves event.ready event.came p in
    ap (λ (r : Row). due_at r ready q) is ∙ ap (λ row. parts.due_at (program_of q) row q.work) (fails_at (local_kind p.users) (program_of p) event p.work ready status due why)
fails_by event p ready status at.OpenUsers is due why = absurd (no_file (call.Open users_name how.Read) why due)
fails_by event p ready status (at.ReadUsers fd) is due why = absurd (no_file _ why due)
fails_by event p ready status (at.CloseUsers fd whole) is due why = absurd (no_file (call.Close fd) why due)
fails_by event p ready status at.OutOfMemory is due why = absurd (no_end 51 why due)

starved_by : (due : NeedData) (got : GotData) (ready other : Ready) → Starves due got → due_by (act at.OpenUsers ready got begun) other ≡ needs.Ended 51
starved_by _ _ ready other (OpenRefused bytes) = refl

starves : (past : List Own) (ready : Ready) → IsStarved past → due_by (place_after past) ready ≡ needs.Ended 51
starves [] ready s = absurd s
starves (event ∷ []) ready s = starved_by event.due event.came event.ready ready s
starves (event ∷ (other ∷ before)) ready s = absurd s

pub fails : (args : Unit {0}) (past : List Own) (now : ℕ) (ready : Ready) (status : ℕ) → IsRunBy (Next args) past → HasFailed past status → Next args past now ready ≡ needs.Ended status
fails args past now ready status run (failed_in_start s e) = starves past ready s ∙ ap needs.Ended (sym e)
fails args [] now ready status run (failed_as_any why) = absurd why
fails args (event ∷ before) now ready status run (failed_as_any why) =
    let p : Place = place_after before in fails_by event p ready status p.row refl (sym run.1.0) why

-- in its start nothing is over
not_over : (past : List Own) (ready : Ready) (status : ℕ) → Tells past parts.begun → IsOver past status → IsSettled past → ⊥
not_over past ready status t over s = let e : work_at.Greet ≡ work_at.Ended status = settles_at past parts.begun ready status t over s in cc

settles_by : (past : List Own) (p : Place) (ready : Ready) (status : ℕ) (row : Row) → At past row p → IsOver past status → IsSettled past → due_at row ready p ≡ needs.Ended status
settles_by past p ready status at.Serves a over s = ap (λ row. parts.due_at (program_of p) row p.work) (settles_at past p.work ready status a.tells over s)
settles_by past p ready status at.OpenUsers a over s = absurd (not_over past ready status a.1.tells over s)
settles_by past p ready status (at.ReadUsers fd) a over s = absurd (not_over past ready status a.tells over s)
settles_by past p ready status (at.CloseUsers fd whole) a over s = absurd (not_over past ready status a.tells over s)
settles_by past p ready status at.OutOfMemory a over s = absurd (not_over past ready status a.1.tells over s)

pub settles : (args : Unit {0}) (past : List Own) (now : ℕ) (ready : Ready) (status : ℕ) → IsRunBy (Next args) past → IsOver past status → IsSettled past → Next args past now ready ≡ needs.Ended status
settles args past now ready status run over s = let p : Place = place_after past in settles_by past p ready status p.row (tells args past run) over s

-- Requests

from_start : (past : List Own) (p : Place) → Starting past p → Tells past p.work
from_start past p s = subst (Tells past) (sym s.begun) s.tells

told_of : (past : List Own) (p : Place) (row : Row) → At past row p → Tells past p.work
told_of past p at.Serves a = a.tells
told_of past p at.OpenUsers a = from_start past p a.1
told_of past p (at.ReadUsers fd) a = from_start past p a
told_of past p (at.CloseUsers fd whole) a = from_start past p a
told_of past p at.OutOfMemory a = from_start past p a.1

pub most : (args : Unit {0}) (past : List Own) (requests : List Request) (reader : Reader) (slot : ℕ) → IsRunBy (Next args) past → HasRead (taken past) requests reader
    → dealt_with slot past ≤ asked slot requests
most args past requests reader slot run read =
    let p : Place = place_after past in most_at past p.work requests reader slot (told_of past p p.row (tells args past run)) read

-- a spawner that has begun is at rest
abbrev idle : Work
idle = record parts.begun { row = work_at.Idle }

idle_tells : (past : List Own) → Tells past parts.begun → Tells past idle
idle_tells past t = record {
  knows = record { kept = tt; running = t.knows.running; hears = t.knows.hears };
  counts = record {
    dealt = t.counts.dealt;
    owed = t.counts.owed;
    reads = t.counts.reads;
    same = t.counts.same;
    long = t.counts.long;
    sums = t.counts.sums;
    at = (t.counts.at.0, t.counts.at.2);
  };
  holds = tt;
}

abbrev nothing : Ready
nothing = record { links = false ∷ (false ∷ (false ∷ (false ∷ []))); child = None }

each_by : (past : List Own) (p : Place) (ready : Ready) (requests : List Request) (reader : Reader) (slot : ℕ) (row : Row) → At past row p → HasRead (taken past) requests reader
    → IsAtRest past (due_at row ready p) → asked slot requests ≡ dealt_with slot past
each_by past p ready requests reader slot at.Serves a read rest = each_at (program_of p) past p.work ready requests reader slot a.tells read rest
each_by past p ready requests reader slot at.OutOfMemory a read rest = each_at (program_of p) past idle nothing requests reader slot (idle_tells past a.1.tells) read tt
each_by past p ready requests reader slot at.OpenUsers a read rest = absurd rest
each_by past p ready requests reader slot (at.ReadUsers fd) a read rest = absurd rest
each_by past p ready requests reader slot (at.CloseUsers fd whole) a read rest = absurd rest

pub each : (args : Unit {0}) (past : List Own) (now : ℕ) (ready : Ready) (requests : List Request) (reader : Reader) (slot : ℕ) → IsRunBy (Next args) past → HasRead (taken past) requests reader
    → IsAtRest past (Next args past now ready) → asked slot requests ≡ dealt_with slot past
each args past now ready requests reader slot run read rest =
    let p : Place = place_after past in each_by past p ready requests reader slot p.row (tells args past run) read rest

-- Deliveries

no_start_due : (past : List Own) (p : Place) (ready : Ready) (program : ChildData) (row : Row) → At past row p → due_at row ready p ≡ needs.Start program → Serving past p × (due_from (parts.row_now p.work ready) p ≡ needs.Start program)
no_start_due past p ready program at.Serves a due = (a, due)
no_start_due past p ready program at.OpenUsers a due = absurd (cc)
no_start_due past p ready program (at.ReadUsers fd) a due = absurd (cc)
no_start_due past p ready program (at.CloseUsers fd whole) a due = absurd (cc)
no_start_due past p ready program at.OutOfMemory a due = absurd (cc)

-- which delivery is due at a start
due_delivery : (users : Option (List Assignment)) (delivery : Delivery) (w : Work) (program started : ChildData) (row : WorkRow) → IsDue users delivery w row
    → parts.due_at program row w ≡ needs.Start started → (delivery_for users w.request ≡ Some delivery) × (program ≡ started)
due_delivery users delivery w program started work_at.Start d due = (d, cc)
due_delivery users delivery w program started work_at.Greet d due = absurd (cc)
due_delivery users delivery w program started work_at.Idle d due = absurd (cc)
due_delivery users delivery w program started work_at.TakeInput d due = absurd (cc)
due_delivery users delivery w program started work_at.OpenMess d due = absurd (cc)
due_delivery users delivery w program started (work_at.ReadMess fd) d due = absurd (cc)
due_delivery users delivery w program started (work_at.CloseMess fd whole) d due = absurd (cc)
due_delivery users delivery w program started work_at.Feed d due = absurd (cc)
due_delivery users delivery w program started (work_at.TakeOutput slot) d due = absurd (cc)
due_delivery users delivery w program started (work_at.TakeStatus slot) d due = absurd (cc)
due_delivery users delivery w program started work_at.Report d due = absurd (cc)
due_delivery users delivery w program started (work_at.Ended code) d due = absurd (cc)

pub starts : (args : Unit {0}) (past : List Own) (now : ℕ) (ready : Ready) (requests : List Request) (reader : Reader) (program : ChildData) → IsRunBy (Next args) past
    → HasRead (taken past) requests reader → Next args past now ready ≡ needs.Start program → IsDeliveryOfOne past requests program
starts args past now ready requests reader program run read due =
    let p : Place = place_after past in
    let a = no_start_due past p ready program p.row (tells args past run) due in
    let s = a.0 in
    let d = due_delivery p.users p.delivery p.work (program_of p) program (parts.row_now p.work ready)
    (arrive_keeps (λ row. IsDue p.users p.delivery p.work row) tt tt (λ slot. tt) (λ status. tt) p.work p.work.row ready s.is_due) a.1 in
    let is = starts_at (program_of p) program past p.work ready requests reader refl s.tells read a.1 in
    delivery_is past requests p.users p.work.request p.delivery program s.those is d.0 d.1

pub gives : (args : Unit {0}) (past : List Own) (now : ℕ) (ready : Ready) (slot : ℕ) (bytes : List ℕ) → IsRunBy (Next args) past → Next args past now ready ≡ needs.Give (port.Program slot) bytes
    → bytes ≡ netstring (last_read past)
gives args past now ready slot bytes run due = let p : Place = place_after past in by p p.row (tells args past run) due where
  by : (p : Place) (row : Row) → At past row p → due_at row ready p ≡ needs.Give (port.Program slot) bytes → bytes ≡ netstring (last_read past)
  by p at.Serves a due = gives_at netstring (program_of p) past p.work ready slot bytes a.carries due
  by p at.OpenUsers a due = absurd (cc)
  by p (at.ReadUsers fd) a due = absurd (cc)
  by p (at.CloseUsers fd whole) a due = absurd (cc)
  by p at.OutOfMemory a due = absurd (cc)

-- What the sender keeps, and what its steps do to that.
use Rattle.std.specs.Prelude.{ℕ, ◌+◌, ◌-◌, ◌^◌, List, [], ◌∷◌, length, drop, Bool, false, ◌&&◌, ◌||◌, Option, Some, None, if◌then◌else◌, nat_lt, is_some}
use Rattle.envelope_records.specs.declared.channel.Record.{Record}
use Rattle.queue_limits.specs.declared.counts.TheConstants.{MAX_SLOTS}
use Rattle.send_jobs.specs.declared.attempts.Attempt.{Attempt}
use Rattle.send_jobs.specs.declared.attempts.Failure.{Failure}
use Rattle.send_known.specs.declared.channel.Channel.{Channel}
use Rattle.send_known.specs.declared.channel.Channel.TheVariants.{Local, Remote}
use Rattle.send_jobs.specs.declared.jobs.Job.{Job}
use Rattle.send_jobs.specs.Lanes.{next, begun_by, reported, owes, left_unmarked, job_over, ended}
use Rattle.send_jobs.specs.Sending.{lane, at_lane, sent_on}
use Rattle.send_jobs.specs.Slots.{attempt_in, lowest}
use Rattle.send_jobs.specs.Tries.{retry_of as next_try}
use Rattle.send_known.specs.Known.{birth_of, sender_of, first_idle}
use Rattle.spawn_protocol.specs.declared.report.Report.{Report}
use Rattle.spawn_protocol.specs.Report.{Reader, counted, read_on}
use Rattle.send_core.specs.declared.desk.Desk.{Desk}
use Rattle.send_parts.specs.declared.row.Point.{Point}
use Rattle.send_parts.specs.declared.row.Point.TheVariants as point
use Rattle.send_parts.specs.declared.row.Row.{Row}
use Rattle.send_parts.specs.declared.row.Row.TheVariants as at
use Rattle.send_links.specs.declared.link.Link.{Link}
use Rattle.send_links.specs.Requests.{requests_of, addressed}
pub use Rattle.send_jobs.specs.Failures.{is_final, failure_in}
pub use Rattle.send_jobs.specs.Lanes.{is_free_for}
pub use Rattle.send_jobs.specs.Tries.{due_on, due_then, file_gone, moment_of}
pub use Rattle.send_parts.specs.Sweep.{sweep_due}

-- Where it stands

abbrev pub goes : Desk → Row → Desk
goes d row = record d { row = row }

abbrev pub stands_at : Desk → Point → Desk
stands_at d p = record d { row = at.Turn p }

-- The channels

abbrev pub link : Channel → Desk → Link
link Local d = d.local
link Remote d = d.remote

abbrev pub with_link : Channel → Link → Desk → Desk
with_link Local l d = record d { local = l }
with_link Remote l d = record d { remote = l }

abbrev pub with_reader : Channel → Reader → Desk → Desk
with_reader c reader d = with_link c (record (link c d) { reader = reader }) d

abbrev pub with_requests : Channel → List (List ℕ) → Desk → Desk
with_requests c texts d = with_link c (record (link c d) { requests = texts }) d

-- a moment that never comes: while a job is on a message, that is not due
abbrev pub never : ℕ
never = 2 ^ 64 - 1

-- a failed step of a message is tried again so much later
abbrev pub later : ℕ → ℕ
later now = now + 123

-- Jobs

-- the next retry of a message, reckoned at its pass's begin
abbrev pub retry_of : Channel → ℕ → ℕ → Desk → ℕ
retry_of c n begun d = next_try c n begun d.book.messages

-- no job is on the message, and it is due then
abbrev pub due_again : Channel → ℕ → ℕ → Desk → Desk
due_again c n due d = record d { slots = at_lane c (ended n) d.slots; book = record d.book { messages = due_then c n due d.book.messages } }

-- a job that left a place `T` is over
abbrev pub retried : Channel → ℕ → ℕ → Desk → Desk
retried c n begun d = due_again c n (retry_of c n begun d) d

-- a job that left none `T` is over, and the channel file is gone
abbrev pub done_with : Channel → ℕ → Desk → Desk
done_with c n d = record d { slots = at_lane c (ended n) d.slots; book = record d.book { messages = file_gone c n d.book.messages } }

abbrev pub closed_by : Option Job → Channel → ℕ → Point → Desk → Desk
closed_by None c n p d = stands_at d p
closed_by (Some job) c n p d = if job.unmarked then retried c n job.begun (stands_at d p) else goes d (at.UnlinkFile c n p)

-- Once all places of a message's job were reported and marked, or their marks given up, the job is over: the channel file is
-- unlinked if each place reads `D`, and else the message is due at the next retry.
abbrev pub closed : Channel → ℕ → Point → Desk → Desk
closed c n p d = closed_by (job_over n (lane c d.slots)) c n p d

-- Reports

abbrev pub retried_if : Option Job → Channel → ℕ → Desk → Desk
retried_if None c n d = d
retried_if (Some job) c n d = retried c n job.begun d

-- a place of the message stays `T`; if that was the last place to be settled, the job is over
abbrev pub deferred : Channel → ℕ → Desk → Desk
deferred c n d =
    let after = record d { slots = at_lane c (left_unmarked n) d.slots } in retried_if (job_over n (lane c after.slots)) c n after

-- its place is to be marked, after this is noted if something is
abbrev pub waits : Channel → Attempt → Option Failure → Desk → Desk
waits c a note d = record d { slots = at_lane c (owes (record { attempt = a; note = note })) d.slots }

-- The place of a recipient that isn't tried again is to be marked, and else it stays `T`. It does so too if `MAX_SLOTS` marks are to be made already, as in no run.
abbrev pub settle : Report → Channel → Attempt → Desk → Desk
settle r c a d =
    if is_final (counted r.letter) a.dying && nat_lt (length (lane c d.slots).marks) MAX_SLOTS then waits c a (failure_in r) d else deferred c a.n d

abbrev pub told_by : Option Attempt → Channel → Report → Desk → Desk
told_by None c r d = d
told_by (Some a) c r d = settle r c a (record d { slots = at_lane c (reported r.slot) d.slots })

-- a report was taken: of the attempt in its slot, if one is in flight there
abbrev pub told : Channel → Report → Desk → Desk
told c r d = told_by (attempt_in (lane c d.slots).slots r.slot) c r d

abbrev pub told_all : Channel → List Report → Desk → Desk
told_all c [] d = d
told_all c (r ∷ rs) d = told_all c rs (told c r d)

-- bytes of a link were taken
abbrev pub heard : Channel → List ℕ → Desk → Desk
heard c bytes d = let it = read_on (link c d).reader bytes in told_all c it.0 (with_reader c it.1 d)

-- Passes

-- a pass that begins then is a dying one: its message has been in the queue too long
abbrev pub is_dying : ℕ → ℕ → Desk → Bool
is_dying n begun d = nat_lt (birth_of n d.book.messages.known + d.book.controls.queue_lifetime) begun

-- A pass over these records of a message has begun: its requests lie ready, and the message isn't due while it goes on.
abbrev pub has_begun : Channel → ℕ → ℕ → List Record → Desk → Desk
has_begun c n begun records d = with_requests c (requests_of n (sender_of n d.book.messages.known) records) (record d {
  slots = at_lane c (begun_by n records begun (is_dying n begun d)) d.slots;
  book = record d.book { messages = due_then c n never d.book.messages };
})

-- the next request of a channel was given
abbrev pub request_sent : Channel → Desk → Desk
request_sent c d =
    if is_some (next (lane c d.slots)) then with_requests c (drop 1 (link c d).requests) (record d { slots = sent_on c d.slots }) else d

-- the request that comes next is for the lowest free slot
abbrev pub ready_on : Channel → Desk → Desk
ready_on c d = with_requests c (addressed (lowest (lane c d.slots).slots) (link c d).requests) d

abbrev pub ready : Desk → Desk
ready d = ready_on Remote (ready_on Local d)

-- The turn

abbrev pub next_idle : ℕ → Desk → Option ℕ
next_idle now d = first_idle now d.book.messages.known

abbrev pub turn_counted : Option ℕ → Desk → Desk
turn_counted None d = stands_at d point.TakeLocal
turn_counted (Some k) d =
    if nat_lt 1 k then record d { turns = Some (k - 1); row = at.Turn point.TakeLocal } else record d { turns = Some 0; row = at.Ended 0 }

abbrev pub turn_over : Desk → Desk
turn_over d = turn_counted d.turns (record d { busy = false })

-- After the finish point, and after the todo point, at this moment: the turn is over if nothing is due in the points that
-- follow.
abbrev pub past_finish : ℕ → Desk → Desk
past_finish now d = if sweep_due now d.swept then stands_at d point.Sweep else turn_over d

abbrev pub past_todo : ℕ → Desk → Desk
past_todo now d =
    if is_some (next_idle now d) || sweep_due now d.swept then stands_at d point.Finish else turn_over d

-- One channel of the sender: what the open pass has still to give, what is in flight, which marks are to be made, and the
-- jobs; and what each call does to it.
use Rattle.std.specs.Prelude.{ℕ, ◌+◌, ◌≤◌, min, List, [], ◌∷◌, ◌++◌, length, drop, replicate, set, Bool, not, ◌&&◌, Option, Some, None, if◌then◌else◌, slice_get, is_some, is_none, count_by}
use Rattle.std.specs.List.{list_any}
use Rattle.envelope_records.specs.declared.channel.Record.{Record}
use Rattle.queue_limits.specs.declared.counts.TheConstants.{MAX_SLOTS}
use Rattle.send_jobs.specs.declared.attempts.Attempt.{Attempt}
use Rattle.send_jobs.specs.declared.attempts.Mark.{Mark}
use Rattle.send_jobs.specs.declared.jobs.Job.{Job}
use Rattle.send_jobs.specs.declared.lane.Lane.{Lane}
use Rattle.send_jobs.specs.Jobs.{new_job, put, unmark, without, job_of}
use Rattle.send_jobs.specs.Passes.{attempts_of}
use Rattle.send_jobs.specs.Slots.{lowest, is_on}

-- so many free slots, at most `MAX_SLOTS`, and nothing else
abbrev pub empty : ℕ → Lane
empty limit = record { left = []; slots = replicate (min limit MAX_SLOTS) None; marks = []; jobs = [] }

-- the next attempt of the open pass; none when no pass is open
abbrev pub next : Lane → Option Attempt
next lane = slice_get lane.left 0

-- a pass has begun: each of its records that reads `T` is to be given
abbrev pub begun_by : ℕ → List Record → ℕ → Bool → Lane → Lane
begun_by n records begun dying lane = record lane { left = attempts_of n dying records; jobs = put (new_job n begun) lane.jobs }

abbrev pub numbered : ℕ → Attempt → Attempt
numbered delivery a = record a { delivery = delivery }

abbrev pub sent_in : Option ℕ → Option Attempt → ℕ → Lane → Lane
sent_in (Some slot) (Some a) delivery lane = record lane { left = drop 1 lane.left; slots = set lane.slots slot (Some (numbered delivery a)) }
sent_in (Some slot) None delivery lane = lane
sent_in None first delivery lane = lane

-- the next attempt is in flight in the lowest free slot, as this delivery, if there is such a slot
abbrev pub sent : ℕ → Lane → Lane
sent delivery lane = sent_in (lowest lane.slots) (next lane) delivery lane

-- nothing is in flight in the slot any more
abbrev pub reported : ℕ → Lane → Lane
reported slot lane = record lane { slots = set lane.slots slot None }

-- how many attempts are in flight
abbrev pub in_flight : Lane → ℕ
in_flight lane = count_by is_some lane.slots

-- the open pass is this message's, or an attempt at it is in flight
abbrev pub is_open_on : ℕ → Lane → Bool
is_open_on n lane = is_on n (next lane)

abbrev pub is_in_flight : ℕ → Lane → Bool
is_in_flight n lane = list_any (is_on n) lane.slots

-- each place of the message's pass was reported
abbrev pub finished : ℕ → Lane → Bool
finished n lane = not (is_open_on n lane) && not (is_in_flight n lane)

-- none is open on the channel, and no attempt at the message is in flight there
abbrev pub is_free_for : ℕ → Lane → Bool
is_free_for n lane = is_none (next lane) && finished n lane

-- one mark more is to be made, after the others
abbrev pub owes : Mark → Lane → Lane
owes mark lane = record lane { marks = lane.marks ++ mark ∷ [] }

-- the first mark was made, or given up
abbrev pub mark_settled : Lane → Lane
mark_settled lane = record lane { marks = drop 1 lane.marks }

abbrev pub is_mark_on : ℕ → Mark → Bool
is_mark_on n mark = is_on n (Some mark.attempt)

-- a place of the message stays `T`
abbrev pub left_unmarked : ℕ → Lane → Lane
left_unmarked n lane = record lane { jobs = unmark n lane.jobs }

-- the job on this message, if each of its places was reported and no mark of it is to be made
abbrev pub job_over : ℕ → Lane → Option Job
job_over n lane = if finished n lane && not (list_any (is_mark_on n) lane.marks) then job_of n lane.jobs else None

-- there is no job on the message
abbrev pub ended : ℕ → Lane → Lane
ended n lane = record lane { jobs = without n lane.jobs }

-- Marks and attempts in flight are together no more than the slots. It is so if no attempt goes out while a mark is to be
-- made.
abbrev pub IsRoomy : Lane → Type 0
IsRoomy lane = length lane.marks + in_flight lane ≤ length lane.slots

-- What becomes of a delivery at a step of its drop: when the drop is made with it, and what else it leads to.
use Rattle.std.specs.Prelude.{Bool, true, false, ◌&&◌, Option, Some, None}
use Rattle.call_fs.specs.declared.past.GotData.{GotData}
use Rattle.call_fs.specs.declared.past.GotData.TheVariants as came
use Rattle.maildir_drop.specs.Ends.{EndData}
use Rattle.maildir_drop.specs.Ends.EndData.{IsDropped, IsDeferred, LacksMemory}
use Rattle.queue_limits.specs.declared.statuses.TheConstants.{MEMORY}
use Rattle.local_deliver.specs.declared.place.Place.{Place}
use Rattle.local_deliver.specs.declared.row.Failure.TheVariants as failure
use Rattle.local_deliver.specs.declared.steps.After.{After}
use Rattle.local_deliver.specs.declared.steps.After.TheVariants as after
use Rattle.local_deliver.specs.Drops.{Drop, is_linked}
use Rattle.local_deliver.specs.Table.{ends, fails}

-- by the end of the drop
abbrev pub after_of : Option EndData → After
after_of None = after.Goes
after_of (Some (IsDropped name)) = after.Failed
after_of (Some IsDeferred) = after.Failed
after_of (Some LacksMemory) = after.Memory

abbrev pub went : After → Place → Place
went after.Goes p = p
went after.Failed p = fails failure.Maildir (record p { dropping = None })
went after.Memory p = ends MEMORY (record p { dropping = None })

-- an answer to a call
abbrev pub is_answer : GotData → Bool
is_answer (came.Answered told) = true
is_answer (came.Took bytes) = false
is_answer came.End = false
is_answer (came.Ended status) = false
is_answer came.Crashed = false
is_answer came.Gave = false
is_answer (came.Started pid) = false
is_answer came.Failed = false
is_answer came.Memory = false

-- with this the drop is made: its link was, and the unlink after it was answered
abbrev pub is_made : Option Drop → GotData → Bool
is_made None got = false
is_made (Some d) got = is_answer got && is_linked d

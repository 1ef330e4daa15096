-- How many programs an event starts.
use Rattle.std.specs.Prelude.{ℕ, length, Bool, true, false, if◌then◌else◌}
use Rattle.actor_names.specs.MailNames.{members}
use Rattle.call_fs.specs.declared.past.GotData.{GotData}
use Rattle.call_fs.specs.declared.past.GotData.TheVariants.{Started}
use Rattle.call_fs.specs.declared.past.NeedData.{NeedData}
use Rattle.call_fs.specs.declared.past.NeedData.TheVariants.{Start}
use Rattle.world_events.specs.declared.event.Event.{Event as Kept}
use Rattle.world_events.specs.declared.event.Event.TheVariants as kept

-- an actor's event started a program
abbrev pub starts_program : NeedData → GotData → Bool
starts_program (Start asked) (Started pid) = true
starts_program due came = false

-- how many programs an event starts
abbrev pub starts_in : Kept → ℕ
starts_in (kept.Start b program) = 1
starts_in (kept.Act b own) = if starts_program own.due own.came then 1 else 0
starts_in (kept.Child b own c program) = 1
starts_in (kept.Feed b own c message envelope) = if starts_program own.due own.came then 1 else 0
starts_in (kept.Generation start) = length members
starts_in (kept.Report slot letter text) = 0
starts_in (kept.End b read ready status) = 0
starts_in (kept.Stop b) = 0
starts_in (kept.Moment m) = 0
starts_in (kept.Halt how) = 0

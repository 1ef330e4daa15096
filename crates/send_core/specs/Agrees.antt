-- What a sender keeps of a channel is what its past says of that channel.
use Rattle.std.specs.Prelude.{◌≡◌, ◌⊎◌, ℕ, List, [], drop, map, Bool, true, false, Option}
use Rattle.std.specs.Option.{option_map}
use Rattle.call_fs.specs.declared.past.Own.{Own}
use Rattle.send_jobs.specs.declared.attempts.Attempt.{Attempt}
use Rattle.send_jobs.specs.declared.attempts.Mark.{Mark}
use Rattle.send_known.specs.declared.channel.Channel.{Channel}
use Rattle.send_known.specs.declared.channel.Channel.TheVariants.{Local, Remote}
use Rattle.send_jobs.specs.declared.lane.Lane.{Lane}
use Rattle.send_jobs.specs.Sending.{lane}
use Rattle.send_jobs.specs.Slots.{attempt_in}
use Rattle.send_parts.specs.declared.row.MarkRow.{MarkRow}
use Rattle.send_parts.specs.declared.row.MarkRow.TheVariants as mark
use Rattle.send_parts.specs.declared.row.Row.{Row}
use Rattle.send_parts.specs.declared.row.Row.TheVariants as at
use Rattle.send_core.specs.Past.{Account, Owed, Task, account}
use Rattle.send_core.specs.Table.{place_after}

-- the record of an attempt; and of a mark, with what is noted before it
abbrev pub task_of : Attempt → Task
task_of a = record { n = a.n; place = a.place; address = a.address; dying = a.dying }

abbrev pub owed_at : Mark → Owed
owed_at m = record { task = task_of m.attempt; note = m.note }

-- the marks whose files weren't opened; once it was, the first is still at work
abbrev pub unopened : Bool → List Mark → List Mark
unopened true marks = drop 1 marks
unopened false marks = marks

-- the file of the first mark of the channel was opened
abbrev pub is_same : Channel → Channel → Bool
is_same Local Local = true
is_same Remote Remote = true
is_same c e = false

abbrev pub is_marking : MarkRow → Bool → Bool
is_marking mark.Note same = false
is_marking mark.Noting same = false
is_marking mark.Open same = false
is_marking row same = same

abbrev pub is_opened : Row → Channel → Bool
is_opened (at.Mark row m) c = is_marking row (is_same m.channel c)
is_opened row c = false

abbrev pub has_ended : Row → Bool
has_ended (at.Ended status) = true
has_ended row = false

-- In flight are the attempts of the account, in its slots; to be marked are its records, in its order and with their notes; and unless
-- nothing is left of the open pass, what is left is what is still to be given.
pub record Agrees (a : Account) (at_work : Bool) (lane : Lane) : Type 0 where
  pub in_flight : (slot : ℕ) → option_map task_of (attempt_in lane.slots slot) ≡ a.in_flight slot
  pub to_give : (lane.left ≡ []) ⊎ (map task_of lane.left ≡ a.to_give)
  pub to_mark : map owed_at (unopened at_work lane.marks) ≡ a.to_mark

-- so it is of each channel until the sender has ended
abbrev pub LanesAgree : Option ℕ → List Own → Type 0
LanesAgree turns past = (c : Channel) → has_ended (place_after turns past).row ≡ false → Agrees (account c past) (is_opened (place_after turns past).row c) (lane c (place_after turns past).slots)

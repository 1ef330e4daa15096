-- Both channels of the sender, and how many deliveries it has begun.
use Rattle.std.specs.Prelude.{ℕ, Option, Some, None}
use Rattle.mail_bytes.specs.Told.{raised}
use Rattle.send_known.specs.declared.channel.Channel.{Channel}
use Rattle.send_known.specs.declared.channel.Channel.TheVariants.{Local, Remote}
use Rattle.send_jobs.specs.declared.lane.Lane.{Lane}
use Rattle.send_jobs.specs.declared.slots.Slots.{Slots}
use Rattle.send_jobs.specs.Lanes.{empty, sent}
use Rattle.send_jobs.specs.Slots.{lowest}

-- one channel of them
abbrev pub lane : Channel → Slots → Lane
lane Local s = s.local
lane Remote s = s.remote

-- with one channel changed, and all else as it was
abbrev pub at_lane : Channel → (Lane → Lane) → Slots → Slots
at_lane Local f s = record s { local = f s.local }
at_lane Remote f s = record s { remote = f s.remote }

-- nothing is out, with so many local and remote slots
abbrev pub none_out : ℕ → ℕ → Slots
none_out local remote = record { local = empty local; remote = empty remote; given = 0 }

-- the number of the next delivery, which stays at u64's last value
abbrev pub next_delivery : Slots → ℕ
next_delivery s = raised s.given

abbrev pub sent_as : Option ℕ → Channel → ℕ → Slots → Slots
sent_as None channel delivery s = s
sent_as (Some slot) channel delivery s = record (at_lane channel (sent delivery) s) { given = delivery }

-- the next attempt of this channel went out, as the next delivery, if a slot of it was free
abbrev pub sent_on : Channel → Slots → Slots
sent_on channel s = sent_as (lowest (lane channel s).slots) channel (next_delivery s) s

-- When a queue has come to rest (qmail-send(8); INTERNALS, sections 2 and 6).
use Rattle.std.specs.Prelude.{◌≡◌, ◌⊎◌, ℕ, ◌<◌, List, false, Some, Contains, codes}
use Rattle.call_fs.specs.Disk.{Disk}
use Rattle.call_fs.specs.declared.past.Own.{Own}
use Rattle.envelope_records.specs.declared.channel.Record.{Record}
use Rattle.queue_law.specs.Routes.{lane_part}
use Rattle.queue_paths.specs.Names.{path}
use Rattle.queue_paths.specs.Names.Name.{Of}
use Rattle.queue_paths.specs.Names.Part.{Info}
use Rattle.queue_states.specs.declared.state.State.TheVariants.{S1, S5}
use Rattle.queue_states.specs.States.{state_of}
use Rattle.retry_schedule.specs.Retry.{next_retry}
use Rattle.send_known.specs.declared.channel.Channel.{Channel}
use Rattle.send_jobs.specs.Channels.{skip_of}
use Rattle.send_links.specs.Records.{records_of}
use Rattle.retry_law.specs.Tried.{tried_in}
use Rattle.mail_world.specs.History.{Actor, State}
use Rattle.mail_world.specs.History.Life.{Alive}

-- a record of the message's channel file reads `T`
pub record HasUndone (d : Disk) (c : Channel) (n : ℕ) : Type 0 where
  pub file : ℕ
  pub there : d.names (path (Of (lane_part c) n)) ≡ Some file
  pub records : List Record
  pub are : records_of (d.files file).bytes ≡ Some records
  pub undone : Record
  pub among : Contains records undone
  pub reads : undone.done ≡ false

-- The next retry of the message on a channel is later than now: reckoned from its birth, which is the moment of its info file, and from the begin
-- of the last pass that is over, by that past of the sender.
pub record IsTriedLater (s : State) (past : List Own) (c : Channel) (n : ℕ) : Type 0 where
  pub info : ℕ
  pub there : s.disk.names (path (Of Info n)) ≡ Some info
  pub begun : ℕ
  pub tried : tried_in c n past ≡ Some begun
  pub later : s.now < next_retry (s.disk.files info).moment begun (skip_of c)

-- It is preprocessed, a record of it reads `T`, and so it is on each channel on which one does.
pub record WaitsForRetry (s : State) (past : List Own) (n : ℕ) : Type 0 where
  pub state : state_of s.disk n ≡ S5
  pub channel : Channel
  pub undone : HasUndone s.disk channel n
  pub later : (c : Channel) → HasUndone s.disk c n → IsTriedLater s past c n

-- each message is gone or waits for its next retry
abbrev pub SettledBy : State → List Own → Type 0
SettledBy s past = (n : ℕ) → (state_of s.disk n ≡ S1) ⊎ WaitsForRetry s past n

-- so it is by the past of the sender, which lives
pub record Settled (s : State) : Type 0 where
  pub sender : Actor
  pub is : s.actors (codes "sender") ≡ Some sender
  pub alive : sender.life ≡ Alive
  pub settled : SettledBy s sender.past

-- each message is gone
abbrev pub AllGone : State → Type 0
AllGone s = (n : ℕ) → state_of s.disk n ≡ S1

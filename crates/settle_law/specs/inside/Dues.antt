-- When known messages are due at the end of an idle turn (qmail-send(8)).
use Rattle.std.specs.Prelude.{◌≡◌, ◌<◌, ◌≤◌, ℕ, List, ◌∷◌, ◌++◌, length, true, Some, None, All}
use Rattle.call_fs.specs.Disk.{Disk}
use Rattle.call_fs.specs.Past.{IsRunBy}
use Rattle.call_fs.specs.declared.past.Own.{Own}
use Rattle.send_core.specs.Table.{Next}
use Rattle.send_known.specs.declared.channel.Channel.{Channel}
use Rattle.send_jobs.specs.Sending.{lane}
use Rattle.send_jobs.specs.Slots.{attempt_in}
use Rattle.send_known.specs.declared.known.Known.{Known}
use Rattle.retry_law.specs.Moments.{TellsMoments}
use Rattle.retry_law.specs.Retries.{ArePlain, has_file}
use Rattle.settle_law.specs.inside.Rests.{IsWholeTurn}
use Rattle.settle_law.specs.Suffices.{IsDueSo, IsKnown, desk_of}
use Rattle.settle_law.specs.Well.{GoesWell}
use Rattle.world_events.specs.declared.event.Program.TheVariants.{Sender}
use Rattle.mail_world.specs.History.{Actor, Event, after}

-- A whole idle turn, with a slot on each channel and nothing in flight before it. Then each known message is due on each channel of which it has a file, if
-- nothing failed for it there.
abbrev pub RestsAreDue : Type 0
RestsAreDue = (past : List Own) (first : Own) (later : List Own) → IsRunBy (Next None) (later ++ first ∷ past) → IsWholeTurn past first later
    → ((c : Channel) → 0 < length (lane c (desk_of past).slots).slots) → ((c : Channel) (slot : ℕ) → attempt_in (lane c (desk_of past).slots).slots slot ≡ None)
    → All TellsMoments past → All (λ (e : Own). e.read ≤ first.read) past
    → (c : Channel) (k : Known) → IsKnown (later ++ first ∷ past) k → has_file c k ≡ true → ArePlain c k.n past → IsDueSo first.read (later ++ first ∷ past) c k

-- So it is in a history in which nothing fails, of each known message.
abbrev pub KnownAreDue : Type 0
KnownAreDue = (d : Disk) (h : List Event) → GoesWell d h → (a : List ℕ) (x : Actor) (start : ℕ) → (after d h).actors a ≡ Some x → x.program ≡ Sender start
    → (past : List Own) (first : Own) (later : List Own) → x.past ≡ later ++ first ∷ past → IsWholeTurn past first later
    → ((c : Channel) → 0 < length (lane c (desk_of past).slots).slots) → ((c : Channel) (slot : ℕ) → attempt_in (lane c (desk_of past).slots).slots slot ≡ None)
    → (c : Channel) (k : Known) → IsKnown x.past k → has_file c k ≡ true → IsDueSo first.read x.past c k

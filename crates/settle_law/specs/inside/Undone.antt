-- Which channel files still have something to do at the end of an idle turn (qmail-send(8)).
use Rattle.std.specs.Prelude.{◌≡◌, ◌<◌, ℕ, List, ◌∷◌, ◌++◌, length, true, Some, None}
use Rattle.call_fs.specs.Disk.{Disk}
use Rattle.call_fs.specs.declared.past.Own.{Own}
use Rattle.retry_law.specs.Retries.{has_file}
use Rattle.retry_law.specs.Tried.{tried_in}
use Rattle.send_jobs.specs.Sending.{lane}
use Rattle.send_jobs.specs.Slots.{attempt_in}
use Rattle.send_known.specs.declared.channel.Channel.{Channel}
use Rattle.send_known.specs.declared.known.Known.{Known}
use Rattle.world_events.specs.declared.event.Program.TheVariants.{Sender}
use Rattle.mail_world.specs.History.Life.{Alive}
use Rattle.mail_world.specs.History.{Actor, Event, after}
use Rattle.settle_law.specs.inside.Rests.{IsWholeTurn}
use Rattle.settle_law.specs.Settled.{HasUndone}
use Rattle.settle_law.specs.Suffices.{IsKnown, desk_of}
use Rattle.settle_law.specs.Well.{GoesWell}

-- A whole idle turn, with a slot on each channel and nothing in flight before it, in a history in which nothing fails. Then a known message that was tried
-- on a channel, and has a file there, has a record that reads `T`.
abbrev pub KnownAreUndone : Type 0
KnownAreUndone = (d : Disk) (h : List Event) → GoesWell d h → (a : List ℕ) (x : Actor) (start : ℕ) → (after d h).actors a ≡ Some x → x.life ≡ Alive → x.program ≡ Sender start
    → (past : List Own) (first : Own) (later : List Own) → x.past ≡ later ++ first ∷ past → IsWholeTurn past first later
    → ((c : Channel) → 0 < length (lane c (desk_of past).slots).slots) → ((c : Channel) (slot : ℕ) → attempt_in (lane c (desk_of past).slots).slots slot ≡ None)
    → (c : Channel) (k : Known) (begun : ℕ) → IsKnown x.past k → has_file c k ≡ true → tried_in c k.n x.past ≡ Some begun → HasUndone (after d h).disk c k.n

-- Facts of which a settled state comes: where all of them hold of a state, and of what the sender keeps of it by its past, it is settled.
use Rattle.std.specs.Prelude.{◌≡◌, ◌≢◌, ◌<◌, ◌≤◌, ℕ, List, length, false, true, Some, None, Contains}
use Rattle.call_fs.specs.declared.past.Own.{Own}
use Rattle.call_fs.specs.declared.program.Ready.{Ready}
use Rattle.queue_law.specs.Routes.{lane_part}
use Rattle.queue_paths.specs.Names.{path}
use Rattle.queue_paths.specs.Names.Name.{Of}
use Rattle.queue_paths.specs.Names.Part.{Info}
use Rattle.queue_states.specs.declared.state.State.TheVariants.{S2, S3, S4, S5, Other}
use Rattle.queue_states.specs.States.{state_of}
use Rattle.retry_schedule.specs.Retry.{next_retry}
use Rattle.send_core.specs.declared.desk.Desk.{Desk}
use Rattle.send_core.specs.Table.{place_after}
use Rattle.send_known.specs.declared.channel.Channel.{Channel}
use Rattle.send_jobs.specs.Channels.{skip_of}
use Rattle.send_jobs.specs.Sending.{lane}
use Rattle.send_jobs.specs.Slots.{attempt_in}
use Rattle.send_jobs.specs.Tries.{due_on}
use Rattle.send_known.specs.declared.known.Known.{Known}
use Rattle.retry_law.specs.Retries.{has_file}
use Rattle.retry_law.specs.Tried.{tried_in}
use Rattle.mail_world.specs.History.{State}
use Rattle.settle_law.specs.Rests.{IsAtRest}
use Rattle.settle_law.specs.Settled.{HasUndone}

-- what a sender that is never told to end keeps after its past
abbrev pub desk_of : List Own → Desk
desk_of past = place_after None past

abbrev pub IsKnown : List Own → Known → Type 0
IsKnown past k = Contains (desk_of past).book.messages.known k

-- A known message is due on a channel at the next retry after its last pass there, or at once if there was none.
pub record IsDueSo (now : ℕ) (past : List Own) (c : Channel) (k : Known) : Type 0 where
  pub due : ℕ
  pub entry : Contains (due_on c (desk_of past).book.messages) (due, k.n)
  pub retried : (begun : ℕ) → tried_in c k.n past ≡ Some begun → due ≡ next_retry k.birth begun (skip_of c)
  pub untried : tried_in c k.n past ≡ None → due ≤ now

-- Where nothing fails they hold at the end of an idle round of `settle` that ends an idle turn of the sender (`RestsHold`).
pub record HasRest (s : State) (past : List Own) (ready : Ready) : Type 0 where
  -- each number is in one of the five states, and in none of those between
  pub safe : (n : ℕ) → state_of s.disk n ≢ Other
  pub no_s2 : (n : ℕ) → state_of s.disk n ≢ S2
  pub no_s3 : (n : ℕ) → state_of s.disk n ≢ S3
  pub no_s4 : (n : ℕ) → state_of s.disk n ≢ S4
  -- each that is preprocessed is known
  pub known : (n : ℕ) → state_of s.disk n ≡ S5 → (k : Known) × IsKnown past k × (k.n ≡ n)
  -- the sender has nothing to do, and each channel has a slot and nothing in flight
  pub rests : IsAtRest (desk_of past) s.now ready
  pub slots : (c : Channel) → 0 < length (lane c (desk_of past).slots).slots
  pub free : (c : Channel) (slot : ℕ) → attempt_in (lane c (desk_of past).slots).slots slot ≡ None
  -- no finish was put off
  pub finish : (k : Known) → IsKnown past k → k.finish_at ≡ 0
  -- on a channel of which a known message has a file it is due so, and once it was tried a record of it reads `T`; of another it has none
  pub dues : (k : Known) (c : Channel) → IsKnown past k → has_file c k ≡ true → IsDueSo s.now past c k
  pub undone : (k : Known) (c : Channel) (begun : ℕ) → IsKnown past k → has_file c k ≡ true → tried_in c k.n past ≡ Some begun → HasUndone s.disk c k.n
  pub gone : (k : Known) (c : Channel) → IsKnown past k → has_file c k ≡ false → s.disk.names (path (Of (lane_part c) k.n)) ≡ None
  -- births are the moments of info files
  pub births : (k : Known) (info : ℕ) → IsKnown past k → s.disk.names (path (Of Info k.n)) ≡ Some info → (s.disk.files info).moment ≡ k.birth

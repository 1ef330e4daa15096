-- A known message that doesn't have its channel file has none.
use Rattle.std.proofs.Common.{◌≡◌, ℕ, false}
use Rattle.std.proofs.lemmas.List.Elements.{All-contains}
use Rattle.queue_law.specs.Numbers.{About, about}
use Rattle.queue_law.specs.Routes.{lane_part}
use Rattle.queue_law.proofs.Looks.{not_found}
use Rattle.queue_paths.specs.Names.Name.{Of}
use Rattle.program_law.specs.Sender.Knows.{IsKnown, IsLeaving, Knows, has_file}
use Rattle.program_law.specs.Sender.Knows.Knows.{Leaves, Stays}
use Rattle.retry_law.specs.Retries.{has_file as has_channel_file}
use Rattle.send_parts.specs.declared.row.Row.{Row}
use Rattle.send_parts.specs.declared.row.Row.TheVariants as at
use Rattle.send_known.specs.declared.channel.Channel.{Channel}
use Rattle.send_known.specs.declared.channel.Channel.TheVariants.{Local, Remote}
use Rattle.send_known.specs.declared.known.Known.{Known}
use Rattle.mail_world.specs.History.{after}
use Rattle.mail_world.specs.Untouched.{queue}
use Rattle.world_law.proofs.Histories.{always, sender_fares}
use Rattle.settle_law.specs.inside.Gone.{KnownAreGone}
use Rattle.settle_law.specs.Rests.{BeginsTurn}
use Rattle.settle_law.specs.Suffices.{desk_of}

-- where a turn begins no message is left
none_leaves : (row : Row) (n : ℕ) → BeginsTurn row → IsLeaving row n → ⊥
none_leaves (at.Finish row m) n begins leaves = begins
none_leaves (at.Ended status) n begins leaves = begins
none_leaves row n begins leaves = leaves

known_of : (row : Row) (w : About) (k : Known) → BeginsTurn row → Knows row w k → IsKnown w k
known_of row w k begins (Stays known) = known
known_of row w k begins (Leaves leaves) = absurd (none_leaves row k.n begins leaves)

same_file : (c : Channel) (k : Known) → has_channel_file c k ≡ false → has_file c k ≡ false
same_file Local k e = e
same_file Remote k e = e

pub known_are_gone : KnownAreGone
known_are_gone d h legal a x start is alive program begins c k there none =
    let s = after d h in
    let I = always d h legal in
    let q = queue s I.role in
    let F = sender_fares s.now q a x.program x.past x.life start program alive (I.fares a x is) in
    let row : Row = (desk_of x.past).row in
    let w : Knows row (about q k.n) k = All-contains (λ (y : Known). Knows row (about q y.n) y) (desk_of x.past).book.messages.known k F.stands.knows.known there in
    not_found q.disk.names q.disk.files (Of (lane_part c) k.n) ((known_of row (about q k.n) k begins w).gone c (same_file c k none))

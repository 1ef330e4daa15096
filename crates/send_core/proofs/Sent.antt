-- What is in flight once a request was given.
use Rattle.std.proofs.Common.{◌≡◌, drop, Bool, true, false, if◌then◌else◌, refl}
use Rattle.std.specs.Prelude.{is_some}
use Rattle.send_known.specs.declared.channel.Channel.{Channel}
use Rattle.send_known.specs.declared.channel.Channel.TheVariants.{Local, Remote}
use Rattle.send_jobs.specs.Lanes.{next}
use Rattle.send_jobs.specs.Sending.{lane, sent_on}
use Rattle.send_core.specs.declared.desk.Desk.{Desk}
use Rattle.send_core.specs.Desk.{link, request_sent, with_requests}
use Rattle.send_core.specs.Log.{status_if}

abbrev sent_desk : Channel → Desk → Desk
sent_desk c d = with_requests c (drop 1 (link c d).requests) (record d { slots = sent_on c d.slots })

by_open : (b : Bool) (c : Channel) (d : Desk) → status_if b (if b then sent_desk c d else d).slots ≡ status_if b (sent_on c d.slots)
by_open true Local d = refl
by_open true Remote d = refl
by_open false c d = refl

pub status_then : (c : Channel) (d : Desk) → status_if (is_some (next (lane c d.slots))) (request_sent c d).slots ≡ status_if (is_some (next (lane c d.slots))) (sent_on c d.slots)
status_then c d = by_open (is_some (next (lane c d.slots))) c d

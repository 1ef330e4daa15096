-- What a sender keeps of a channel agrees with its account.
use Rattle.std.proofs.Common.{◌≡◌, ℕ, List, Bool, true, false, Option}
use Rattle.bounce_record.specs.Writing.{Writing}
use Rattle.call_fs.specs.declared.past.Own.{Own}
use Rattle.call_fs.specs.Past.{IsRunBy}
use Rattle.send_core.specs.declared.desk.Desk.{Desk}
use Rattle.send_parts.specs.declared.row.MarkRow.{MarkRow}
use Rattle.send_parts.specs.declared.row.MarkRow.TheVariants as mark
use Rattle.send_parts.specs.declared.row.Marked.{Marked}
use Rattle.send_parts.specs.declared.row.Row.{Row}
use Rattle.send_parts.specs.declared.row.Row.TheVariants as at
use Rattle.send_core.specs.Table.{Next, place_after}
use Rattle.send_jobs.specs.declared.attempts.Mark.{Mark}
use Rattle.send_known.specs.declared.channel.Channel.{Channel}
use Rattle.send_known.specs.declared.channel.Channel.TheVariants.{Local, Remote}
use Rattle.send_jobs.specs.declared.lane.Lane.{Lane}
use Rattle.send_jobs.specs.declared.slots.Slots.{Slots}
use Rattle.send_jobs.specs.Sending.{lane}
use Rattle.send_links.specs.declared.link.Link.{Link}
use Rattle.send_parts.specs.declared.rows.StartRow.{StartRow}
use Rattle.send_parts.specs.declared.rows.StartRow.TheVariants as start
use Rattle.send_core.specs.Agrees.{Agrees, LanesAgree, has_ended, is_marking, is_opened, is_same}
use Rattle.send_core.specs.Past.{Account, Work, account, work}
use Rattle.send_core.proofs.Changes.{Both}
use Rattle.send_core.proofs.Fits.{Fits}
use Rattle.send_core.proofs.Runs.{Was, keeps}
use Rattle.send_core.proofs.Standing.{Early, FitAt, Half, InMark, InStart}

by_fit : (at_work : Bool) (a : Account) (l : Lane) (link : Link) → Fits at_work a l link → Agrees a at_work l
by_fit at_work a l link h = record { in_flight = h.0; to_give = h.1; to_mark = h.4 }

abbrev of_channel : Channel → Account → Account → Account
of_channel Local al ar = al
of_channel Remote al ar = ar

module _ (P : MarkRow → Option Mark → Marked → Writing → Type 0) (f : Option Work) (al ar : Account) where
  by_both : (c : Channel) (s : Slots) (l r : Link) → Both false false al ar s l r → Agrees (of_channel c al ar) false (lane c s)
  by_both Local s l r h = by_fit false al s.local l h.0
  by_both Remote s l r h = by_fit false ar s.remote r h.1

  by_early : (c : Channel) (s : Slots) (l r : Link) → Early P f al ar s l r → Agrees (of_channel c al ar) false (lane c s)
  by_early Local s l r h = by_fit false al s.local l h.1
  by_early Remote s l r h = by_fit false ar s.remote r h.2

  by_start : (c : Channel) (row : StartRow) (s : Slots) (l r : Link) → InStart P f al ar row s l r → Agrees (of_channel c al ar) false (lane c s)
  by_start c (start.Control file reading) s l r h = by_early c s l r h.0
  by_start c start.GreetLocal s l r h = by_early c s l r h.0
  by_start c (start.GreetRemote limit) s l r h = by_early c s l r h.0
  by_start c (start.Scan split) s l r h = by_both c s l r h.0
  by_start c (start.StatTodo split n) s l r h = by_both c s l r h.0
  by_start c (start.ReadInfo split n reading) s l r h = by_both c s l r h.0
  by_start c (start.StatInfo split n) s l r h = by_both c s l r h.0
  by_start c (start.StatLocal split n birth) s l r h = by_both c s l r h.0
  by_start c (start.StatRemote split n birth local) s l r h = by_both c s l r h.0
  by_start c start.Over s l r h = by_both c s l r h.0
  by_start c (start.Ended status) s l r h = by_both c s l r h.0

  by_half : (c of : Channel) (s : Slots) (l r : Link) → Half P f al ar of s l r → Agrees (of_channel c al ar) (is_same of c) (lane c s)
  by_half Local Local s l r h = by_fit true al s.local l h.0.0
  by_half Remote Local s l r h = by_fit false ar s.remote r h.0.1
  by_half Local Remote s l r h = by_fit false al s.local l h.0.0
  by_half Remote Remote s l r h = by_fit true ar s.remote r h.0.1

  by_mark : (c : Channel) (row : MarkRow) (m : Marked) (w : Writing) (s : Slots) (l r : Link) → InMark P f al ar row m w s l r → Agrees (of_channel c al ar) (is_marking row (is_same m.channel c)) (lane c s)
  by_mark c mark.Note m w s l r h = by_both c s l r h.0.0
  by_mark c mark.Noting m w s l r h = by_both c s l r h.0
  by_mark c mark.Open m w s l r h = by_both c s l r h.0.0
  by_mark c (mark.Write fd) m w s l r h = by_half c m.channel s l r h.0
  by_mark c (mark.Close fd written) m w s l r h = by_half c m.channel s l r h

  by_row : (c : Channel) (row : Row) (d : Desk) → has_ended row ≡ false → FitAt P f al ar row d → Agrees (of_channel c al ar) (is_opened row c) (lane c d.slots)
  by_row c (at.Start row) d e h = by_start c row d.slots d.local d.remote h
  by_row c (at.Turn p) d e h = by_both c d.slots d.local d.remote h.0
  by_row c (at.TakeLink of) d e h = by_both c d.slots d.local d.remote h.0
  by_row c (at.Mark row m) d e h = by_mark c row m d.note d.slots d.local d.remote h
  by_row c (at.UnlinkFile of n p) d e h = by_both c d.slots d.local d.remote h.0
  by_row c (at.ReadFile of n begun reading) d e h = by_both c d.slots d.local d.remote h.0
  by_row c (at.Request of) d e h = by_both c d.slots d.local d.remote h.0.0
  by_row c (at.FindTodo search) d e h = by_both c d.slots d.local d.remote h.0
  by_row c at.InTodo d e h = by_both c d.slots d.local d.remote h.0
  by_row c (at.Finish row n) d e h = by_both c d.slots d.local d.remote h.0
  by_row c (at.Sweep row) d e h = by_both c d.slots d.local d.remote h.0
  by_row c (at.Ended status) d e h = absurd (cc)

of_each : (c : Channel) (past : List Own) (at_work : Bool) (l : Lane) → Agrees (of_channel c (account Local past) (account Remote past)) at_work l → Agrees (account c past) at_work l
of_each Local past at_work l h = h
of_each Remote past at_work l h = h

pub lanes_agree : (turns : Option ℕ) (past : List Own) → IsRunBy (Next turns) past → LanesAgree turns past
lanes_agree turns past run c alive =
    let d : Desk = place_after turns past in
    of_each c past (is_opened d.row c) (lane c d.slots) (by_row (Was past) (work past) (account Local past) (account Remote past) c d.row d alive (keeps turns past run).0)

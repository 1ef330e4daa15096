use Rattle.std.proofs.Common.{◌≡◌, ◌≤◌, ◌++◌, drop, length}
use Rattle.send_links.specs.Rooms.{reports_room}
use Rattle.send_core.specs.Desk.{told_all}
use Rattle.send_core.specs.Log.{told_lines}
use Rattle.send_core.proofs.reports.tell_all.Given as goal

abbrev pub invariant-loop-report : goal.invariant-loop-report
invariant-loop-report l = record {
  desk : told_all l.channel (drop (length l.yielded) l.fn.reports.items) l.desk ≡ told_all l.channel l.fn.reports.items l.initial.desk;
  lines : l.log.text ++ told_lines l.channel (drop (length l.yielded) l.fn.reports.items) l.desk ≡ l.initial.log.text ++ told_lines l.channel l.fn.reports.items l.initial.desk;
  room : reports_room (drop (length l.yielded) l.fn.reports.items) ≤ l.log.room;
}

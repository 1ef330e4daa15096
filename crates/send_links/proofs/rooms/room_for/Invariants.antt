use Rattle.std.proofs.Common.{◌≡◌, ◌+◌, drop}
use Rattle.send_links.specs.Rooms.{reports_room}
use Rattle.send_links.proofs.rooms.room_for.Given as goal

abbrev pub invariant-loop-report : goal.invariant-loop-report
invariant-loop-report l = l.room + reports_room (drop l.report-index l.reports) ≡ reports_room l.reports

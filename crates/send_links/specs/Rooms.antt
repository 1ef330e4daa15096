-- How much room in the sender's log the lines of reports take (qmail-log(5)).
use Rattle.std.specs.Prelude.{ℕ, ◌+◌, List, [], ◌∷◌, length}
use Rattle.send_log.specs.declared.lines.TheConstants.{LINE_ROOM}
use Rattle.spawn_protocol.specs.declared.report.Report.{Report}

-- at most, two lines for each
abbrev pub reports_room : List Report → ℕ
reports_room [] = 0
reports_room (r ∷ rs) = (LINE_ROOM + LINE_ROOM + length r.text) + reports_room rs

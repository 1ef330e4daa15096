use Rattle.send_log.proofs.Apart.{same_is}
use Rattle.send_log.proofs.Logs.{logs_are}
use Rattle.send_log.proofs.Printed.{line_prints}
use Rattle.send_log.proofs.laws.lines_are_exact.Goals as goal

pub returns : goal.returns
returns c = record { printed = line_prints; same = same_is; logs = logs_are }

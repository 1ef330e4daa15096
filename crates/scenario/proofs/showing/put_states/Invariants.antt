use Rattle.std.proofs.Common.{◌≡◌, ◌++◌, take}
use Rattle.std.specs.Prelude.{flat_map}
use Rattle.crash_fs.specs.Crash.{crash_disk}
use Rattle.scenario.specs.Shown.{number_line}
use Rattle.scenario.proofs.showing.put_states.Given as goal

abbrev pub invariant-loop-number : goal.invariant-loop-number
invariant-loop-number l = l.text.items ≡ l.initial.text.items ++ flat_map (number_line (crash_disk l.disk)) (take l.number-index l.numbers)

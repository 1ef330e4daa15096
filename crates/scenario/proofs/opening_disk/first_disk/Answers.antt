use Rattle.std.proofs.Common.{sym, subst}
use Rattle.crash_fs.specs.Crash.{Crash, crash_disk}
use Rattle.script_disks.specs.FirstDisk.{IsFirstDisk}
use Rattle.scenario.proofs.opening_disk.first_disk.Goals as goal

pub returns-clause-disk : goal.returns-clause-disk
returns-clause-disk c = subst (λ (d : Crash). IsFirstDisk c.args.opening.now (crash_disk d)) (sym c.new.ensures) c.in_ok-disk.ensures.disk

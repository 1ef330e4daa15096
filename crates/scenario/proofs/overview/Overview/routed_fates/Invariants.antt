use Rattle.std.proofs.Common.{◌≡◌, map, take}
use Rattle.queue_law.specs.Books.{Books}
use Rattle.script_fates.specs.Fates.{AreFates, IsUsed}
use Rattle.mem_fs.specs.MemDisk.{disk_of}
use Rattle.script_disks.specs.Records.{AreNoted}
use Rattle.scenario.specs.Shown.{fate_of, lasting}
use Rattle.scenario.specs.Viewed.{view_at}
use Rattle.scenario.proofs.overview.Overview.routed_fates.Given as goal

-- what became of the recipients so far
abbrev pub invariant-loop-route : goal.invariant-loop-route
invariant-loop-route l = (books : Books) → AreFates l.self.fates.now books → IsUsed l.entry.number → AreNoted (disk_of l.self.disk.now.held) (lasting books l.entry.actor l.entry.number) l.noted
    → l.fates.items ≡ map (fate_of (view_at l.self books) l.entry.actor l.entry.number l.failed) (take l.route-index l.routes)

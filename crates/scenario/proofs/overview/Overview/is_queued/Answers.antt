use Rattle.std.proofs.Common.{sym, ap, ◌∙◌}
use Rattle.mem_fs.specs.MemDisk.{disk_of}
use Rattle.queue_paths.specs.Parts.{parts_of}
use Rattle.queue_paths.proofs.Parts.{todo_some}
use Rattle.scenario.specs.Shown.{is_queued}
use Rattle.scenario.proofs.overview.Overview.is_queued.Goals as goal

pub returns-in-Some : goal.returns-in-Some
returns-in-Some c =
    let disk = disk_of c.args.self.now.disk.now.held in
    c.is_either.ensures ∙ sym (todo_some (parts_of disk.names c.in-Some.n)) ∙ ap (is_queued disk) (sym c.in-Some.is)

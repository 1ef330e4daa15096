use Rattle.std.proofs.Common.{sym, ap, ◌∙◌}
use Rattle.std.proofs.lemmas.Result.{on_ok_weaker}
use Rattle.crash_fs.specs.Crash.{Crash, crash_disk}
use Rattle.mem_fs.specs.MemDisk.{Planned, disk_of}
use Rattle.scenario.proofs.showing.put_fated.Goals as goal

pub returns : goal.returns
returns c =
    on_ok_weaker c.put_all.result
    (λ put. (
      put.0,
      put.1,
      λ d plan h playing fates. put.2 d plan h playing (record {
        disk = ap (λ (m : Planned). disk_of m.held) c.below.ensures ∙ ap (λ (m : Crash). crash_disk m) c.disk.ensures ∙ sym playing.is.disk;
        fates = fates;
      }),
    ))
    c.put_all.ensures

use Rattle.std.proofs.Common.{sym, ap, ◌∙◌}
use Rattle.std.proofs.lemmas.Result.{IfOk-weaker}
use Rattle.crash_fs.specs.Crash.{Crash, crash_disk}
use Rattle.mem_fs.specs.MemDisk.{Planned, disk_of}
use Rattle.scenario.proofs.summing.fates_heard.Goals as goal

pub returns : goal.returns
returns c =
    IfOk-weaker c.fates_told.result _ _
    (λ fates told d plan h playing heard. told d plan h playing (record {
      disk = ap (λ (m : Planned). disk_of m.held) c.below.ensures ∙ ap (λ (m : Crash). crash_disk m) c.disk.ensures ∙ sym playing.is.disk;
      fates = heard;
    }))
    c.fates_told.ensures

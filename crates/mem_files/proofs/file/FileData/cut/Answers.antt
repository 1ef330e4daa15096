use Rattle.std.proofs.Common.{◌∙◌, arith}
use Rattle.mem_files.proofs.Survivors.{survivor-cut}
use Rattle.mem_files.proofs.file.FileData.cut.Goals as goal

pub invariant_of-self : goal.invariant_of-self
invariant_of-self c =
    let size = c.len.ensures ∙ c.truncate.new.self.ok.0 in (
      omega (arith, c.self.invariant.0, c.truncate.ensures.len),
      c.self.invariant.1,
      rw (c.min-self-inside.ensures, size, c.truncate.ensures.items) (survivor-cut c.args.len _ c.self.invariant.2),
    )

use Rattle.std.proofs.Common.{◌∙◌}
use Rattle.mem_fs.proofs.NameTable.{name-found}
use Rattle.mem_fs.proofs.names.number_of.Goals as goal

pub returns : goal.returns
returns c = c.copied.ensures ∙ c.get.ensures.value ∙ name-found c.args.names.now.entries c.args.name.now

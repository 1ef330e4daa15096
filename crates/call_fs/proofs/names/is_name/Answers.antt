use Rattle.std.proofs.Common.{IsTrue, ◌↔◌, subst}
use Rattle.call_fs.specs.Names.{AreParts}
use Rattle.call_fs.proofs.names.is_name.Goals as goal

pub returns : goal.returns
returns c = subst (λ text. IsTrue c.are_parts.result ↔ AreParts text) c.without_slash.ensures c.are_parts.ensures

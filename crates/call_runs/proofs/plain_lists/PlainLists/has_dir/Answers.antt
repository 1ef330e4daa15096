use Rattle.std.proofs.Common.{◌↔◌, IsTrue, Contains, List, ℕ, subst}
use Rattle.call_fs.specs.Disk.{dir_of}
use Rattle.call_runs.proofs.plain_lists.PlainLists.has_dir.Goals as goal

pub returns-then-is_name : goal.returns-then-is_name
returns-then-is_name c =
    let is : IsTrue c.is_dir.result ↔ Contains c.args.self.now.dirs.items (dir_of c.args.name.now) =
    subst (λ (x : List ℕ). IsTrue c.is_dir.result ↔ Contains c.args.self.now.dirs.items x) c.dir_of.ensures c.is_dir.ensures in
    (λ yes. (c.is_name.ensures.0 c.if-is_name.true, is.0 yes), λ has. is.1 has.1)

use Rattle.std.proofs.Common.{◌↔◌, IsTrue, Contains, List, ℕ, subst, ap, ◌∙◌}
use Rattle.mem_fs.specs.MemDisk.{Held}
use Rattle.mem_fs.proofs.store.Store.is_dir.Goals as goal

pub returns : goal.returns
returns c = subst (λ (dirs : List (List ℕ)). IsTrue c.is_dir.result ↔ Contains dirs c.args.dir.now) (c.deref.ensures.value ∙ ap (λ (h : Held). h.dirs) c.self.view_is) c.is_dir.ensures

use Rattle.std.proofs.Common.{ap, sym}
use Rattle.mem_fs.specs.Tables.{at_name}
use Rattle.mem_fs.specs.MemDisk.{Held, disk_of}
use Rattle.mem_fs.proofs.Steps.{if_some_weaker, if_none_weaker}
use Rattle.mem_fs.proofs.store.Store.next_name.Goals as goal

pub returns-clause-some : goal.returns-clause-some
returns-clause-some c = if_some_weaker c.next.result (λ name h. h (disk_of c.args.self.now) (ap (λ (g : Held). at_name g.names) (sym c.self.view_is))) c.next.ensures.some

pub returns-clause-none : goal.returns-clause-none
returns-clause-none c = if_none_weaker c.next.result (λ h. h (disk_of c.args.self.now) (ap (λ (g : Held). at_name g.names) (sym c.self.view_is))) c.next.ensures.none

use Rattle.std.proofs.Common.{sym, subst}
use Rattle.call_fs.specs.declared.past.NeedData.TheVariants.{Take}
use Rattle.call_fs.specs.Program.{MayCome, came_of}
use Rattle.test_local.proofs.tests.running.taken.Goals as goal

pub returns-in-Status : goal.returns-in-Status
returns-in-Status c = subst (λ p. MayCome (Take p) (came_of c.status_end.result)) (sym c.in-Status.is) (c.status_end.ensures c.in-Status.field-0)

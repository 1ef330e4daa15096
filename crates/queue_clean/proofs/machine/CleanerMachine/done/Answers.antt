use Rattle.std.proofs.Common.{Result, Ok, Err}
use Rattle.std.specs.Prelude.{OnOk}
use Rattle.queue_clean.proofs.machine.CleanerMachine.done.Goals as goal

on_ok : {T E P : Type 0} (r : Result T E) → P → OnOk r P
on_ok (Ok x) p = p
on_ok (Err e) p = tt

pub returns-clause-stands : goal.returns-clause-stands
returns-clause-stands c = λ args past s. on_ok c.done.result (c.done.ensures.stands args past s)

use Rattle.std.proofs.Common.{ℕ, arith, rules}
use Rattle.call_fs.specs.Free.{IsFree}
use Rattle.mem_fs.specs.MemDisk.{disk_of}
use Rattle.call_runs.specs.Lists.{held_of}
use Rattle.call_runs.proofs.Files.{none_to}
use Rattle.call_runs.proofs.plain_lists.PlainLists.least_free.Goals as goal

pub loop-number-init : goal.loop-number-init
loop-number-init c = λ m lt free. absurd (omega (arith, lt, free.0))

pub loop-number-preserved : goal.loop-number-preserved
loop-number-preserved c =
    none_to (λ (m : ℕ). IsFree (disk_of (held_of c.args.self.now)) m) c.loop-number.number _ c.loop-number.invariant
    (λ free. let yes = c.is_free.ensures.1 free in let other = c.loop-number-test.true in absurd (cc)) (search rules)

pub returns : goal.returns
returns c = record { free = c.is_free.ensures.0 (search rules); least = c.loop-number.invariant }

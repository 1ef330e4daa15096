use Rattle.std.proofs.Common.{◌≡◌, ◌≤◌, ℕ, None, arith, rules}
use Rattle.mem_files.specs.Tables.{at_number}
use Rattle.mem_fs.proofs.Steps.{none_of}
use Rattle.call_runs.proofs.Files.{none_to, unsome}
use Rattle.call_runs.proofs.plain_lists.PlainLists.least_descriptor.Goals as goal

pub loop-fd-init : goal.loop-fd-init
loop-fd-init c = (omega arith, λ m lt free. absurd (omega (arith, lt, free.0)))

pub loop-fd-preserved : goal.loop-fd-preserved
loop-fd-preserved c = (
  omega (arith, c.loop-fd.invariant.0, c.checked_add.ensures),
  none_to (λ (m : ℕ). (1 ≤ m) × (at_number c.args.self.now.opens.items m ≡ None)) c.loop-fd.fd _ c.loop-fd.invariant.1
      (λ free. let there = c.is_open.ensures.0 c.loop-fd-test.true in absurd (unsome _ (search rules) free.1)) (search rules),
)

pub returns : goal.returns
returns c = record {
  positive = c.loop-fd.invariant.0;
  not_open = none_of _ (search rules);
  least = λ lower positive lt none. c.loop-fd.invariant.1 lower lt (positive, none);
}

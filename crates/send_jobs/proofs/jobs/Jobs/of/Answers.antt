use Rattle.std.proofs.Common.{rules, tests, ◌∙◌}
use Rattle.std.proofs.lemmas.Iterator.{YieldsList-from_slice}
use Rattle.std.proofs.lemmas.Iterator.Search.{find_from_yields_List}
use Rattle.send_jobs.specs.Jobs.{is_job_of}
use Rattle.send_jobs.proofs.jobs.Jobs.of.Goals as goal

pub returns : goal.returns
returns c =
    c.copied.ensures
    ∙ find_from_yields_List (is_job_of c.args.n) _ _ c.find.result c.find.ensures.ran (YieldsList-from_slice c.args.self.now cc) (λ x b q k. search (rules, tests))

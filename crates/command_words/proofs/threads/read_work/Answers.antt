use Rattle.std.proofs.Common.{refl, ◌∙◌}
use Rattle.clap.specs.Words.{found_of}
use Rattle.command_words.specs.Lines.{work_line}
use Rattle.command_words.proofs.Parses.{matched, refused, taken, work_read, work_refused}
use Rattle.command_words.proofs.threads.read_work.Goals as goal

pub returns-in-Err-clause-usage : goal.returns-in-Err-clause-usage
returns-in-Err-clause-usage c =
    λ usage. work_refused _ (refused _ work_line _ c.in-Err.why c.in_ok-work_line.ensures refl c.in-Err.ensures.kinds (c.refusal.ensures (cc)))

pub returns-in-Some-clause-ok : goal.returns-in-Some-clause-ok
returns-in-Some-clause-ok c =
    work_read _ (found_of c.in-Ok.matches) _ _ (taken _ work_line _ c.in-Ok.matches c.in_ok-work_line.ensures refl c.in-Ok.ensures.kinds)
    (matched _ work_line _ c.in-Ok.matches c.in_ok-work_line.ensures refl c.in-Ok.ensures.matches)
    c.get_str.ensures c.threads_of.ensures
    ∙ c.in-Some.is

pub returns-clause-usage : goal.returns-clause-usage
returns-clause-usage c =
    λ usage. work_read _ (found_of c.in-Ok.matches) _ _ (taken _ work_line _ c.in-Ok.matches c.in_ok-work_line.ensures refl c.in-Ok.ensures.kinds)
    (matched _ work_line _ c.in-Ok.matches c.in_ok-work_line.ensures refl c.in-Ok.ensures.matches)
    c.get_str.ensures c.threads_of.ensures
    ∙ c.in-None.is

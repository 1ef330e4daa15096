use Rattle.std.proofs.Common.{refl, sym, ◌∙◌}
use Rattle.command_words.specs.Lines.{queue_line}
use Rattle.command_words.proofs.Parses.{matched, queue_read, queue_refused, refused, taken}
use Rattle.command_words.proofs.read.read_queue.Goals as goal

pub returns-in-Err-clause-usage : goal.returns-in-Err-clause-usage
returns-in-Err-clause-usage c =
    λ usage. queue_refused _ (refused _ queue_line _ c.in-Err.why c.in_ok-queue_line.ensures refl c.in-Err.ensures.kinds (c.refusal.ensures (cc)))

pub returns-in-Some-clause-ok : goal.returns-in-Some-clause-ok
returns-in-Some-clause-ok c =
    queue_read _ _ _ (taken _ queue_line _ c.in-Ok.matches c.in_ok-queue_line.ensures refl c.in-Ok.ensures.kinds)
    (matched _ queue_line _ c.in-Ok.matches c.in_ok-queue_line.ensures refl c.in-Ok.ensures.matches) (sym c.in-Some.is ∙ c.in_ok-queue.ensures)

pub returns-clause-usage : goal.returns-clause-usage
returns-clause-usage c =
    λ usage. queue_read _ _ _ (taken _ queue_line _ c.in-Ok.matches c.in_ok-queue_line.ensures refl c.in-Ok.ensures.kinds)
    (matched _ queue_line _ c.in-Ok.matches c.in_ok-queue_line.ensures refl c.in-Ok.ensures.matches) (sym c.in-None.is ∙ c.in_ok-queue.ensures)

use Rattle.std.proofs.Common.{refl}
use Rattle.command_words.specs.Lines.{play_line}
use Rattle.command_words.proofs.Parses.{play_read, refused, taken}
use Rattle.command_words.proofs.read.read_play.Goals as goal

pub returns-in-Ok-clause-ok : goal.returns-in-Ok-clause-ok
returns-in-Ok-clause-ok c = play_read _ _ (taken _ play_line _ c.in-Ok.field-0 c.play_line.ensures refl c.in-Ok.ensures.kinds)

pub returns-clause-usage : goal.returns-clause-usage
returns-clause-usage c =
    λ usage. play_read _ _ (refused _ play_line _ c.in-Err.why c.play_line.ensures refl c.in-Err.ensures.kinds (c.refusal.ensures (cc)))

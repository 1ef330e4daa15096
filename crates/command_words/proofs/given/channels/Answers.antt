use Rattle.std.proofs.Common.{ap, sym, ◌∙◌}
use Rattle.command_words.specs.Places.{channels_of}
use Rattle.command_words.proofs.given.channels.Goals as goal

pub returns-in-Ok : goal.returns-in-Ok
returns-in-Ok c = c.channels_of-channels.ensures ∙ ap channels_of (sym c.in-Ok.ensures.ok)

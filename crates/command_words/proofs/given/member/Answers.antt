use Rattle.std.proofs.Common.{ap, sym, ◌∙◌}
use Rattle.command_words.specs.Places.{member_of}
use Rattle.command_words.proofs.given.member.Goals as goal

pub returns-in-Ok : goal.returns-in-Ok
returns-in-Ok c = c.member_of-member.ensures ∙ ap member_of (sym c.in-Ok.ensures.ok)

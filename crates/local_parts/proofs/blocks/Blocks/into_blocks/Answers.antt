use Rattle.std.proofs.Common.{ap, ◌∙◌}
use Rattle.mail_bytes.specs.Blocks.{joined}
use Rattle.local_parts.proofs.Joined.{joined_push}
use Rattle.local_parts.proofs.blocks.Blocks.into_blocks.Goals as goal

pub returns-clause-bytes : goal.returns-clause-bytes
returns-clause-bytes c = ap joined c.in_ok-push.ensures.items ∙ joined_push c.self.inside.full.items c.self.inside.last ∙ c.self.view_is

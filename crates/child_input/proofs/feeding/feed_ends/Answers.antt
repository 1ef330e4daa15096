use Rattle.std.proofs.Common.{rules}
use Rattle.child_input.proofs.Feeds.{begins, parts}
use Rattle.child_input.proofs.feeding.feed_ends.Goals as goal

pub with_rule-requires : goal.with_rule-requires
with_rule-requires c = begins

pub another-writing-requires-clause-rule : goal.another-writing-requires-clause-rule
another-writing-requires-clause-rule c = parts _ _ (search rules) (search rules)

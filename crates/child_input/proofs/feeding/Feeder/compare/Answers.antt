use Rattle.std.proofs.Common.{rules}
use Rattle.child_input.proofs.Feeds.{agrees, parts, unites}
use Rattle.child_input.proofs.feeding.Feeder.compare.Goals as goal

pub absorb-requires-clause-rule : goal.absorb-requires-clause-rule
absorb-requires-clause-rule g c = unites _ _ _ _ (search rules) (search rules)

pub len_as-requires-clause-rule : goal.len_as-requires-clause-rule
len_as-requires-clause-rule g c = agrees _ _ (search rules) (search rules)

pub another-pass-requires-clause-rule : goal.another-pass-requires-clause-rule
another-pass-requires-clause-rule g c = parts _ _ (search rules) (search rules)

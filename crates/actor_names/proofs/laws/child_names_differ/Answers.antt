use Rattle.std.proofs.Common.{arith}
use Rattle.actor_names.proofs.Children.{same_letter, same_number}
use Rattle.actor_names.proofs.laws.child_names_differ.Goals as goal

pub returns-clause-bounces : goal.returns-clause-bounces
returns-clause-bounces c = same_number 98

pub returns-clause-deliveries : goal.returns-clause-deliveries
returns-clause-deliveries c = same_number 108

pub returns-clause-forwards : goal.returns-clause-forwards
returns-clause-forwards c = same_number 102

pub returns-clause-kinds : goal.returns-clause-kinds
returns-clause-kinds c = λ m n. (
  (λ same. let letter = same_letter 98 108 m n same in omega (arith, letter)),
  (λ same. let letter = same_letter 98 102 m n same in omega (arith, letter)),
  (λ same. let letter = same_letter 108 102 m n same in omega (arith, letter)),
)

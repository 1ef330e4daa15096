use Rattle.address_rules.proofs.FaultLaws.{first_to, first_from_rules, none_to, none_from_rules}
use Rattle.address_rules.proofs.laws.faults_are_exact.Goals as goal

pub returns : goal.returns
returns c = record {
  first = λ files file line. (first_to files file line, first_from_rules files file line);
  none = λ files. (none_to files, none_from_rules files);
}

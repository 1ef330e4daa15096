use Rattle.address_rules.proofs.NameLaws.{stripped_to, stripped_from, verp_to, verp_from, undone}
use Rattle.address_rules.proofs.laws.names_are_exact.Goals as goal

pub returns : goal.returns
returns c = record {
  stripped = λ lines address text. (stripped_to lines address text, stripped_from lines address text);
  verp = λ sender recipient text. (verp_to sender recipient text, verp_from sender recipient text);
  undone = undone;
}

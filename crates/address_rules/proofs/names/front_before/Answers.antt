use Rattle.std.proofs.lemmas.Bool.Decides.{Decides-eqb}
use Rattle.std.proofs.lemmas.Slice.Eq.{strip_suffix_is}
use Rattle.address_rules.proofs.NameLemmas.{front_before_of}
use Rattle.address_rules.proofs.names.front_before.Goals as goal

pub returns : goal.returns
returns c = front_before_of c.args.text.now c.args.end.now c.strip_suffix.result (strip_suffix_is Decides-eqb c.args.text.now c.args.end.now c.strip_suffix.result c.strip_suffix.ensures.cases)

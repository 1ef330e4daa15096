use Rattle.std.proofs.lemmas.Bool.Decides.{Decides-eqb}
use Rattle.std.proofs.lemmas.Slice.Eq.{strip_prefix_is}
use Rattle.address_rules.proofs.NameLemmas.{rest_after_of}
use Rattle.address_rules.proofs.names.rest_after.Goals as goal

pub returns : goal.returns
returns c = rest_after_of c.args.text.now c.args.begin.now c.strip_prefix.result (strip_prefix_is Decides-eqb c.args.text.now c.args.begin.now c.strip_prefix.result c.strip_prefix.ensures.cases)

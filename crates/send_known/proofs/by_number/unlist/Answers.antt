use Rattle.std.proofs.Common.{eqb, not, rules}
use Rattle.std.proofs.lemmas.Fn.{filter_same}
use Rattle.send_known.proofs.by_number.unlist.Goals as goal

pub returns : goal.returns
returns c = filter_same _ (λ m. not (eqb m c.args.n)) _ (λ x b f' k. search rules) c.args.done.now.items _ c.retain.ensures.filtered

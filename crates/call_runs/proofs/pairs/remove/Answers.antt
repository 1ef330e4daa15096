use Rattle.std.proofs.Common.{◌≡◌, eqb, not, filter, rules}
use Rattle.std.proofs.lemmas.Fn.{filter_same}
use Rattle.call_runs.proofs.Lookups.{number_removed}
use Rattle.call_runs.proofs.pairs.remove.Goals as goal

pub returns : goal.returns
returns g c =
    let is : c.retain.new.self.items ≡ filter (λ e. not (eqb c.args.number e.0)) c.args.pairs.now.items =
    filter_same _ (λ e. not (eqb c.args.number e.0)) _ (λ x b f' k. search rules) c.args.pairs.now.items _ c.retain.ensures.filtered in
    rw is (number_removed c.args.pairs.now.items c.args.number)

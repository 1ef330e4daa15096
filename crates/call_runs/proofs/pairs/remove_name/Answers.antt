use Rattle.std.proofs.Common.{◌≡◌, bytes_eq, not, filter, rules}
use Rattle.std.proofs.lemmas.Fn.{filter_same}
use Rattle.call_runs.proofs.Lookups.{name_removed}
use Rattle.call_runs.proofs.pairs.remove_name.Goals as goal

pub returns : goal.returns
returns c =
    let is : c.retain.new.self.items ≡ filter (λ e. not (bytes_eq c.args.name.now e.0)) c.args.names.now.items =
    filter_same _ (λ e. not (bytes_eq c.args.name.now e.0)) _ (λ x b f' k. search rules) c.args.names.now.items _ c.retain.ensures.filtered in
    rw is (name_removed c.args.names.now.items c.args.name.now)

use Rattle.std.specs.String.{string_eq}
use Rattle.std.proofs.lemmas.List.Filters.{dedup_is}
use Rattle.host_fs.proofs.Ordered.{in_order, same_names}
use Rattle.host_fs.proofs.entries.Entries.in_order.Goals as goal

pub invariant_of-result : goal.invariant_of-result
invariant_of-result c =
    in_order c.args.names.items c.sort_unstable.new.self.items c.dedup.new.self.items c.sort_unstable.ensures.permutation (dedup_is string_eq _ _ c.dedup.ensures.filtered) c.sort_unstable.ensures.sorted c.requires

pub returns : goal.returns
returns c = same_names c.args.names.items c.sort_unstable.new.self.items c.dedup.new.self.items c.sort_unstable.ensures.permutation (dedup_is string_eq _ _ c.dedup.ensures.filtered)

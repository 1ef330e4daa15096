use Rattle.std.proofs.Common.{map, string_bytes, not, rules, subst, sym}
use Rattle.std.proofs.lemmas.List.Sorted.{IsPartitionPoint-from_clause}
use Rattle.host_fs.specs.Listing.{is_before}
use Rattle.host_fs.specs.Entries.{AreEntries}
use Rattle.host_fs.proofs.Ordered.{parted, found_after}
use Rattle.host_fs.proofs.entries.Entries.after.Goals as goal

pub returns : goal.returns
returns c =
    let limit = c.args.name.now in
    let xs = c.deref.result.now in
    let are : AreEntries (map string_bytes xs) = subst (λ l. AreEntries (map string_bytes l)) (sym c.deref.ensures.value) c.self.invariant in
    let point = IsPartitionPoint-from_clause (λ x. not (is_before limit (string_bytes x))) xs c.partition_point-start.result c.partition_point-start.ensures.partitioned (parted limit xs are) (λ a r q k. search rules) in
    found_after limit c.args.self.now c.self.inside.names.items xs c.deref-2.result.now c.partition_point-start.result c.self.view_is c.deref.ensures.value c.deref-2.ensures.value c.partition_point-start.ensures.bound point.0 point.1

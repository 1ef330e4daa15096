use Rattle.std.proofs.Common.{rules}
use Rattle.std.proofs.lemmas.List.Sorted.{IsPartitionPoint-from_clause}
use Rattle.retry_schedule.specs.Due.{before}
use Rattle.retry_schedule.proofs.Entries.{in_order_parts, place_is}
use Rattle.retry_schedule.proofs.plain_due.place.Goals as goal

pub returns-clause-place : goal.returns-clause-place
returns-clause-place c =
    place_is c.args.entry c.args.entries.now c.partition_point.result c.requires.free
    (IsPartitionPoint-from_clause (λ o. before o c.args.entry) c.args.entries.now c.partition_point.result c.partition_point.ensures.partitioned (in_order_parts c.args.entry c.args.entries.now c.requires.order) (λ a r f' k. search rules))

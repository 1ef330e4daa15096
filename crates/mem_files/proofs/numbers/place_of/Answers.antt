use Rattle.std.proofs.Common.{rules}
use Rattle.std.proofs.lemmas.List.Sorted.{answers_always}
use Rattle.std.specs.Ordering.{nat_cmp}
use Rattle.std.specs.Cmp.{nat_cmp_total}
use Rattle.std.proofs.lemmas.Map.Lookups.{exact_unsigned}
use Rattle.mem_files.proofs.Tables.{searched}
use Rattle.mem_files.proofs.numbers.place_of.Goals as goal

pub returns : goal.returns
returns g c =
    let facts = c.binary_search_by_key.ensures in
    searched nat_cmp nat_cmp_total exact_unsigned _ c.requires.in_order c.args.number _ facts.bound
    (facts.position (λ e. e.0) (answers_always _ _ _ (λ f a r g called. search rules)))

use Rattle.std.proofs.Common.{◌≡◌, Bool, true, ◌&&◌, ◌==◌, ℕ, sym, ap, ◌∙◌, rules, tests}
use Rattle.std.specs.List.{count_by, list_all}
use Rattle.std.proofs.lemmas.Iterator.{YieldsList-from_slice}
use Rattle.std.proofs.lemmas.Iterator.Consumers.{YieldsList-from_filter, count_from_yields_List}
use Rattle.std.proofs.lemmas.Iterator.Search.{all_from_yields_List}
use Rattle.std.proofs.lemmas.List.Sums.{length-filter}
use Rattle.scenario.specs.inside.Playing.{is_first_kept, is_search_kept}
use Rattle.scenario.proofs.turning.are_searches.Goals as goal

pub returns-then-all : goal.returns-then-all
returns-then-all c =
    let events = c.args.events.now in
    let all : list_all is_search_kept events ≡ true =
    sym (all_from_yields_List is_search_kept _ _ c.all.result c.all.ensures.ran (YieldsList-from_slice events cc) (λ x b q k. search (rules, tests))) ∙ c.if-all.true in
    let count : c.count.result ≡ count_by is_first_kept events =
    count_from_yields_List c.filter.result c.count.result c.count.ensures.ran
    (YieldsList-from_filter _ is_first_kept (YieldsList-from_slice events cc) c.filter.ensures.closure (λ x r q k. search (rules, tests))) ∙ length-filter is_first_kept events in
    ap (λ (n : ℕ). n == 1) count ∙ sym (ap (λ (b : Bool). b && (count_by is_first_kept events == 1)) all)

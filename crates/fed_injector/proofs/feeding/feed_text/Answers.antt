use Rattle.std.proofs.Common.{◌≡◌, ℕ, min, List, length, sym, ap, ◌∙◌, subst}
use Rattle.queue_inject.specs.Machine.{Machine}
use Rattle.queue_inject.specs.Rows.{part_in}
use Rattle.fed_injector.specs.Inputs.{IsInput}
use Rattle.fed_injector.proofs.Pieces.{text_continues, text_ends, all_of_rest}
use Rattle.fed_injector.proofs.feeding.feed_text.Goals as goal

pub returns-else-count-rest-clause-stands : goal.returns-else-count-rest-clause-stands
returns-else-count-rest-clause-stands c = λ args past is s.
    let m : Machine = c.args.injector.now in
    let at : c.min.result ≡ min m.heard.fed (length c.args.text.now) = c.min.ensures ∙ ap (λ n. min n (length c.args.text.now)) c.fed.ensures in
    c.feed.ensures.stands args past s (text_continues m args c.args.text.now c.min.result c.min-count.result at is)

pub returns-then-count-rest-clause-stands : goal.returns-then-count-rest-clause-stands
returns-then-count-rest-clause-stands c = λ args past is s.
    let m : Machine = c.args.injector.now in
    let n : Machine = c.feed.new.self in
    let text : List ℕ = c.args.text.now in
    let at : c.min.result ≡ min m.heard.fed (length text) = c.min.ensures ∙ ap (λ k. min k (length text)) c.fed.ensures in
    let fed = c.feed.ensures.stands args past s (text_continues m args text c.min.result c.min-count.result at is) in
    let row : n.row ≡ m.row = ap (λ (k : Machine). k.row) c.feed.ensures.rest in
    c.end_input.ensures.stands args past fed (text_ends n args past text fed (subst (λ r. IsInput (part_in r) args text) (sym row) is)
    (all_of_rest text m.heard.fed c.min.result c.min-count.result n.heard.fed at c.if-count-rest.true c.feed.ensures.fed))

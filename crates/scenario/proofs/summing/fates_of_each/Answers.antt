use Rattle.std.proofs.Common.{◌≡◌, Bor, ◌∙◌, ◌++◌, List, length, sym, ap₂, subst, rules}
use Rattle.std.specs.Iterator.Adapters.{zip_first, zip_second}
use Rattle.std.specs.Slice.Iter.{iter_rest}
use Rattle.std.proofs.lemmas.Slice.Zip.{zip_end, zip_turn}
use Rattle.world_events.specs.declared.books.Entry.{Entry}
use Rattle.script_traces.specs.declared.fates.RecipientFate.{RecipientFate}
use Rattle.scenario.specs.declared.showing.Given.{Given}
use Rattle.script_fates.specs.Fates.{IsUsed}
use Rattle.scenario.specs.Shown.{View}
use Rattle.scenario.specs.Viewed.{view_at}
use Rattle.scenario.specs.inside.Viewed.{given_fates}
use Rattle.scenario.proofs.EachMail.{all_so_far, one_more}
use Rattle.scenario.proofs.summing.fates_of_each.Goals as goal

pub loop-entry-preserved : goal.loop-entry-preserved
loop-entry-preserved c = λ books heard used.
    let v : View = view_at c.args.overview books in
    let ks = c.args.entries.now in
    let vs = c.args.given.now in
    let xs = c.loop-entry.yielded in
    let s = c.into_iter-entry-iterator.result in
    let first : iter_rest (zip_first s) ≡ ks = search rules in
    let second : iter_rest (zip_second s) ≡ vs = search rules in
    let p : Bor Entry × Bor Given = (c.in-Some.entry, c.in-Some.one) in
    let at = zip_turn ks vs xs s c.loop-entry.entry-iterator c.next.new.self c.next.result first second c.loop-entry.yielded_by p c.in-Some.is c.next.ensures.steps in
    let is_used : IsUsed c.in-Some.entry.now.number = subst (λ (e : Entry). IsUsed e.number) (sym (at.2 c.in-Some.entry.now)) (used (length xs) c.in-Some.entry.now at.0) in
    c.in_ok-extend_from_slice.ensures.items
    ∙ ap₂ (λ (a b : List RecipientFate). a ++ b) (c.loop-entry.invariant books heard used) (c.deref.ensures.value ∙ c.in_ok-fates.ensures books heard is_used)
    ∙ sym (one_more (given_fates v) ks vs xs p at)

pub returns : goal.returns
returns c = λ books heard used.
    let v : View = view_at c.args.overview books in
    let ks = c.args.entries.now in
    let vs = c.args.given.now in
    let xs = c.loop-entry.yielded in
    let s = c.into_iter-entry-iterator.result in
    let first : iter_rest (zip_first s) ≡ ks = search rules in
    let second : iter_rest (zip_second s) ≡ vs = search rules in
    let all = zip_end ks vs xs s c.loop-entry.entry-iterator c.next.new.self c.next.result first second c.loop-entry.yielded_by c.in-None.is c.next.ensures.steps in
    c.loop-entry.invariant books heard used ∙ all_so_far (given_fates v) ks vs (length xs) all

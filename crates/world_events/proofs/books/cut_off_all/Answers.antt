use Rattle.std.proofs.Common.{set, sym, ap, ◌∙◌}
use Rattle.std.proofs.lemmas.List.Edits.{map_over_more}
use Rattle.world_events.specs.Books.{left_as, cut_off}
use Rattle.world_events.specs.declared.books.Entry.{Entry}
use Rattle.world_events.proofs.books.cut_off_all.Goals as goal

pub loop-entry-preserved : goal.loop-entry-preserved
loop-entry-preserved c =
    let entries = c.loop-entry.entries in
    let at = c.loop-entry.entry-index in
    let cut : Entry → Entry = λ e. left_as (cut_off e.life) e in
    ap (set entries at) (c.cut_off.ensures ∙ ap cut (sym c.entry-item.is))
    ∙ map_over_more cut c.args.entries.now entries at c.entry-item.result c.loop-entry-test.true c.loop-entry.invariant c.entry-item.is

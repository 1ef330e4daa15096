use Rattle.std.proofs.Common.{◌≡◌, All, List, map, reverse, ap, ◌∙◌, sym, subst}
use Rattle.std.proofs.lemmas.Result.{IfOk-weaker}
use Rattle.std.specs.List.{zip}
use Rattle.std.specs.Prelude.{flat_map}
use Rattle.crash_fs.specs.Crash.{crash_disk}
use Rattle.world_events.specs.Books.{books_of}
use Rattle.world_events.specs.Inputs.{with_inputs}
use Rattle.world_events.specs.declared.books.Entry.{Entry}
use Rattle.world_events.specs.declared.event.Event.{Event as Kept}
use Rattle.scenario.specs.declared.showing.Given.{Given}
use Rattle.scenario.specs.Deeds.{after, history_of}
use Rattle.script_fates.specs.Fates.{IsUsed}
use Rattle.scenario.specs.inside.Fates.{receiver, receivers_in}
use Rattle.scenario.specs.Shown.{View}
use Rattle.scenario.specs.Viewed.{view_at}
use Rattle.scenario.specs.inside.Viewed.{given_fates}
use Rattle.scenario.proofs.Showings.{all_used, mails_summed}
use Rattle.scenario.proofs.summing.fates_told.Goals as goal

pub returns : goal.returns
returns c =
    let w = c.args.world.now in
    let entries : List Entry = c.entries.result.now in
    let given : List Given = c.in_ok-given.given.items in
    let are : entries ≡ books_of (with_inputs (reverse w.events)) = c.entries.ensures ∙ c.books.ensures.events in
    let used : All (λ (e : Entry). IsUsed e.number) entries = subst (λ (es : List Entry). All (λ (e : Entry). IsUsed e.number) es) (sym are) (all_used (with_inputs (reverse w.events))) in
    let received : reverse (map receiver given) ≡ receivers_in (reverse w.events) = c.in_ok-given.ensures ∙ ap (λ (ks : List Kept). receivers_in (reverse ks)) (c.events.ensures ∙ c.history.ensures.events) in
    IfOk-weaker c.fates_of_each.result _ _
    (λ fates told d plan h playing of.
    let v : View = view_at c.args.overview (after d h).books in
    told (after d h).books of.fates used
    ∙ ap (λ (gs : List Given). flat_map (given_fates v) (zip entries gs)) c.deref.ensures.value
    ∙ mails_summed d (history_of h) (crash_disk w.disk) w.present w.events c.args.overview entries given playing.is playing.starts playing.fed (of.disk ∙ playing.is.disk)
    (c.entries.ensures ∙ c.books.ensures.models d (history_of h) playing.is) received)
    c.fates_of_each.ensures

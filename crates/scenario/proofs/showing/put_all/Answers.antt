use Rattle.std.proofs.Common.{◌≡◌, ◌++◌, All, List, ℕ, map, reverse, ap, ◌∙◌, sym, subst}
use Rattle.std.proofs.lemmas.Result.{on_ok_weaker}
use Rattle.std.specs.List.{zip}
use Rattle.std.specs.Prelude.{flat_map}
use Rattle.crash_fs.specs.Crash.{crash_disk}
use Rattle.world_events.specs.Books.{books_of}
use Rattle.world_events.specs.Inputs.{with_inputs}
use Rattle.world_events.specs.declared.books.Entry.{Entry}
use Rattle.world_events.specs.declared.event.Event.{Event as Kept}
use Rattle.scenario.specs.declared.showing.Given.{Given}
use Rattle.scenario.specs.Deeds.{after, history_of}
use Rattle.script_fates.specs.Fates.{IsUsed}
use Rattle.scenario.specs.inside.Fates.{receiver, receivers_in}
use Rattle.scenario.specs.Shown.{View}
use Rattle.scenario.specs.Viewed.{view_at}
use Rattle.scenario.specs.inside.Viewed.{given_lines}
use Rattle.scenario.proofs.EachMail.{if_put}
use Rattle.scenario.proofs.Showings.{all_used, mails_shown}
use Rattle.scenario.proofs.showing.put_all.Goals as goal

pub returns : goal.returns
returns c =
    let w = c.args.world.now in
    let entries : List Entry = c.entries.result.now in
    let given : List Given = c.in_ok-given.given.items in
    let are : entries ≡ books_of (with_inputs (reverse w.events)) = c.entries.ensures ∙ c.books.ensures.events in
    let used : All (λ (e : Entry). IsUsed e.number) entries = subst (λ (es : List Entry). All (λ (e : Entry). IsUsed e.number) es) (sym are) (all_used (with_inputs (reverse w.events))) in
    let received : reverse (map receiver given) ≡ receivers_in (reverse w.events) = c.in_ok-given.ensures ∙ ap (λ (ks : List Kept). receivers_in (reverse ks)) (c.events.ensures ∙ c.history.ensures.events) in
    on_ok_weaker c.extend_from_slice.result
    (λ more. (
      c.put_each.new.text.items,
      more,
      λ d plan h playing of.
          let v : View = view_at c.args.overview (after d h).books in
          c.in_ok-put_each.ensures (after d h).books of.fates used
          ∙ ap (λ (t : List ℕ). t ++ flat_map (given_lines v) (zip entries c.deref.result.now)) c.new-own.ensures.items
          ∙ ap (λ (gs : List Given). flat_map (given_lines v) (zip entries gs)) c.deref.ensures.value
          ∙ mails_shown d (history_of h) (crash_disk w.disk) w.present w.events c.args.overview entries given playing.is playing.starts playing.fed (of.disk ∙ playing.is.disk)
          (c.entries.ensures ∙ c.books.ensures.models d (history_of h) playing.is) received,
    ))
    (if_put c.extend_from_slice.result c.args.text.now.items c.deref-2.result.now c.put_each.new.text.items c.extend_from_slice.new.self.items c.extend_from_slice.ensures.items c.deref-2.ensures.value)

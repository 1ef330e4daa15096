-- Where nothing fails a search that ended an idle turn of the sender was the whole turn.
use Rattle.std.proofs.Common.{◌≡◌, ℕ, List, [], ◌∷◌, true, not, ◌&&◌, Option, Some, None, sym, ap, ◌∙◌, subst, codes}
use Rattle.std.specs.List.{list_all}
use Rattle.std.proofs.lemmas.Bool.{and_parts}
use Rattle.call_fs.specs.declared.past.Own.{Own}
use Rattle.send_core.specs.Stands.{is_between, is_search}
use Rattle.send_core.specs.Table.{moved, row_now}
use Rattle.world_events.specs.declared.event.Program.{Program}
use Rattle.world_events.specs.declared.event.Program.TheVariants.{Injector, Cleaner, Sender, LocalSpawner, RemoteSpawner, Delivery}
use Rattle.mail_world.specs.Generations.{idled_by, idled_in}
use Rattle.mail_world.specs.History.{Actor, MayDo}
use Rattle.mail_world.specs.History.Event.{Act}
use Rattle.call_fs.specs.Disk.{Disk}
use Rattle.scenario.specs.Deeds.{Deed, after, event_in, history_of}
use Rattle.scenario.specs.Steps.{idles}
use Rattle.settle_law.specs.Ends.{BeginsIn, EndsIdle, IsIdleTurn, searches_by, searches_in}
use Rattle.settle_law.specs.inside.Strays.{RestsBegin}
use Rattle.settle_law.specs.Suffices.{desk_of}
use Rattle.settle_law.specs.Well.{GoesWell, TodoIsEmpty, goes_well}
use Rattle.settle_law.proofs.Searchers.{is_sender, sender_searches}
use Rattle.settle_law.proofs.SenderRests.{SendersTurn}
use Rattle.settle_law.proofs.Passed.{passes_go_on}
use Rattle.settle_law.proofs.Strays.{begins, program_idles}

-- an event that ended an idle turn is a search
idle_searches : (p : Program) (past : List Own) (own : Own) → idled_in p past own ≡ true → searches_in p past own ≡ true
idle_searches (Sender start) past own e = (and_parts (is_search (row_now (desk_of past) own.read own.ready)) (not (desk_of past).busy && is_between (moved (desk_of past) own).row) e).0
idle_searches row past own e = absurd (cc)

idle_by : (o : Option Actor) (own : Own) → idled_by o own ≡ true → searches_by o own ≡ true
idle_by None own e = absurd (cc)
idle_by (Some x) own e = idle_searches x.program x.past own e

begins_whole : (d : Disk) (deed : Deed) (before : List Deed) → GoesWell d (history_of (deed ∷ before)) → TodoIsEmpty d → EndsIdle d (codes "sender") deed before → SendersTurn d [] deed before
begins_whole d deed before well empty ends =
    let whole = subst (λ (e : Deed). GoesWell d (history_of (e ∷ before))) ends.is well in
    let may : MayDo (after d before) (codes "sender") ends.own ends.wrote = whole.legal.1 in
    let was : GoesWell d (history_of before) = record {
      legal = whole.legal.0;
      well = (and_parts (goes_well (Act (codes "sender") ends.own ends.wrote)) (list_all goes_well (history_of before)) whole.well).1;
    } in
    let sends = program_idles may.actor.program may.actor.past ends.own (ap (λ (o : Option Actor). idled_by o ends.own) (sym may.reads.is) ∙ ends.idle) in
    record {
      who = sender_searches;
      actor = may.actor;
      is = may.reads.is;
      begins = subst (λ (p : Program). BeginsIn p may.actor.past) (sym sends.1) (begins d ends.own ends.wrote (history_of before) whole empty ends.idle may.actor may.reads.is
          (passes_go_on d (history_of before) was (codes "sender") may.actor sends.0 may.reads.is sends.1));
      searches = record { own = ends.own; wrote = ends.wrote; is = ends.is; search = ends.search; by = idle_by ((after d before).actors (codes "sender")) ends.own ends.idle; finds = ends.finds };
      goes_on = tt;
      ends = ap (λ (e : Deed). idles (after d before) (event_in e)) ends.is ∙ ends.idle;
    }

pub rests_begin : RestsBegin
rests_begin d a deed before well empty search ends =
    let same : a ≡ codes "sender" = is_sender a search in
    subst (λ (b : List ℕ). IsIdleTurn d before (record { name = b; first = deed; later = [] })) (sym same)
    (begins_whole d deed before well empty (subst (λ (b : List ℕ). EndsIdle d b deed before) same ends))

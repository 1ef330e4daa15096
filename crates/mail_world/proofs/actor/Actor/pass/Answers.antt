use Rattle.std.proofs.Common.{◌≡◌, [], ◌∷◌, ◌++◌, Option, Some, sym, ap, ◌∙◌, subst}
use Rattle.call_fs.specs.declared.past.GotData.{GotData}
use Rattle.call_fs.specs.declared.past.NeedData.{NeedData}
use Rattle.call_fs.specs.declared.past.Own.{Own}
use Rattle.call_fs.specs.Program.{IsKind, IsWithin}
use Rattle.world_events.specs.declared.event.Event.{Event as Kept}
use Rattle.world_events.specs.declared.event.Event.TheVariants as kept
use Rattle.mail_world.specs.Acting.{Exchanges, HasExchanged}
use Rattle.mail_world.proofs.Passed.{told_idle}
use Rattle.mail_world.proofs.actor.Actor.pass.Goals as goal
use Rattle.mail_world.proofs.actor.Actor.pass.Goals.{In-Some-2}

-- what came was exchanged
exchanged : (c : In-Some-2) → Exchanges (Some c.in-Some.wire) c.args.self.now.slot c.args.mouths.now.items c.exchange.new.mouths.items c.args.at.pid c.taking_room-most.result c.as_slice-name.result.now c.args.due.now c.in-Some-2.came
exchanged c =
    subst (λ (o : Option GotData). HasExchanged (Some c.in-Some.wire) c.args.self.now.slot c.args.mouths.now.items c.exchange.new.mouths.items c.args.at.pid c.taking_room-most.result c.as_slice-name.result.now c.args.due.now o)
    c.in-Some-2.is c.in_ok-came.ensures.done

pub take_in-idle-requires-clause-kind : goal.take_in-idle-requires-clause-kind
take_in-idle-requires-clause-kind c =
    rw c.own_at-own.ensures (subst (λ (due : NeedData). IsKind due c.in-Some-2.came) (sym c.requires.due) (exchanged (goal.at.take_in-idle-requires-clause-kind c).In-Some-2).kind)

pub take_in-idle-requires-clause-within : goal.take_in-idle-requires-clause-within
take_in-idle-requires-clause-within c =
    rw c.own_at-own.ensures (subst (λ m. IsWithin m c.in-Some-2.came) c.taking_room-most.ensures (exchanged (goal.at.take_in-idle-requires-clause-within c).In-Some-2).within)

pub returns-clause-idle : goal.returns-clause-idle
returns-clause-idle c =
    let at = c.args.at in
    let x = c.args.self.now in
    let before = c.args.history.now.events.items in
    let own : Own = record { read = at.now; ready = at.ready; due = c.args.due.now; came = c.in-Some-2.came } in
    let copied = c.copy.ensures in
    let name = c.take_in-idle.ensures.name in
    let made = c.own_at-own.ensures in
    let put : Kept = kept.Act c.copy.result c.own_at-own.result in
    let event : put ≡ kept.Act x.name own = cc in
    rw c.new.ensures (told_idle x x.machine own c.take_in-idle.result before c.put.new.self.events.items (λ program past f. f)
    c.requires.read c.requires.found c.requires.due (rw made at c.take_in-idle.ensures.idle)
    (c.put.ensures.event ∙ ap (λ (k : Kept). before ++ k ∷ []) event))

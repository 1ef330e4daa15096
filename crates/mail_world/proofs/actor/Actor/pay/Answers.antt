use Rattle.std.proofs.Common.{◌≡◌, List, Option, Some, sym, ap, ◌∙◌, get_or}
use Rattle.std.proofs.lemmas.Option.{get_or_from_slice_get}
use Rattle.call_fs.specs.declared.past.Own.{Own}
use Rattle.world_events.specs.declared.event.Event.{Event as Kept}
use Rattle.world_events.specs.Inputs.{own_in}
use Rattle.mail_world.proofs.Passed.{paid_stands}
use Rattle.mail_world.proofs.actor.Actor.pay.Goals as goal

pub returns-clause-follows : goal.returns-clause-follows
returns-clause-follows c =
    let x = c.args.self.now in
    let events = c.args.history.now.events.items in
    λ program past owes stands.
    let o = owes c.in-Some.at c.in-Some.is in
    let there = get_or_from_slice_get events c.in-Some.at o.event c.index-events-at.result o.there in
    let both : o.event ≡ c.index-events-at.result = sym there ∙ sym (c.index-events-at.is ∙ ap (λ (l : List Kept). get_or l c.in-Some.at c.index-events-at.result) c.events.ensures) in
    let owns : own_in c.index-events-at.result ≡ Some c.in-Some-own.own.now = let so = c.own.ensures in let is = c.in-Some-own.is in cc in
    let some : ◌≡◌ {A = Option Own} (Some o.own) (Some c.in-Some-own.own.now) = sym o.is ∙ ap own_in both ∙ owns in
    let same : o.own ≡ c.in-Some-own.own.now = cc in
    paid_stands x c.hand_in.new.self.machine events past c.in-Some.at program c.in-Some-own.own.now c.in-Some.is o same (c.in_ok-hand_in.ensures.follows program) stands

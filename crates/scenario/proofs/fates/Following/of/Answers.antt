use Rattle.std.proofs.Common.{List, None, refl, reverse, sym, subst}
use Rattle.std.specs.List.{AllZip}
use Rattle.std.proofs.lemmas.List.{take_all}
use Rattle.world_events.specs.declared.event.Event.{Event as Kept}
use Rattle.scenario.specs.inside.Fates.{TellsRead}
use Rattle.scenario.proofs.Followed.{next_follows, none_followed}
use Rattle.scenario.proofs.ReadEvents.{inputs_read}
use Rattle.scenario.proofs.fates.Following.of.Goals as goal

pub loop-event-init : goal.loop-event-init
loop-event-init c = none_followed (record { fates = c.new.result; sender = None }) c.new.ensures refl

pub loop-event-preserved : goal.loop-event-preserved
loop-event-preserved c = next_follows c.loop-event.following c.note.new.self c.args.events.now c.loop-event.event-index c.event-item.result c.loop-event-test.true c.event-item.is (rw c.in-Ok.is at c.note.ensures) c.loop-event.invariant

pub returns : goal.returns
returns c = λ d now present h history mails.
    let events = c.args.events.now in
    c.loop-event.invariant d h history.legal
    (subst (λ (l : List Kept). AllZip TellsRead (reverse l) h) (sym (take_all c.loop-event.event-index events c.loop-event-test.false)) (inputs_read (reverse events) h history.told)) mails

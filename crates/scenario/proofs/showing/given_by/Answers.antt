use Rattle.std.proofs.Common.{◌∙◌, ◌++◌, List, ℕ, reverse, take, Vec, Global, true, false, refl, ap}
use Rattle.std.proofs.lemmas.List.{take_all}
use Rattle.world_events.specs.Programs.{injection_of}
use Rattle.world_events.specs.declared.event.Event.{Event as Kept}
use Rattle.world_events.specs.declared.event.Program.{Program}
use Rattle.scenario.specs.declared.showing.Given.{Given}
use Rattle.scenario.specs.inside.Fates.{Receiver, given_to, received_by, receivers_in}
use Rattle.scenario.proofs.Receivers.{next_received, other_received, turned, written_over}
use Rattle.scenario.proofs.showing.given_by.Goals as goal
use Rattle.scenario.proofs.showing.given_by.Goals.{in-Start+in_ok-begin-in-Start, in-Child+in_ok-begin-in-Child, in-Feed, in_default}

pub loop-event-preserved : goal.loop-event-preserved
loop-event-preserved c =
    let events = c.args.events.now in
    let i : ℕ = c.loop-event.event-index in
    let k = c.event-item.result in
    let items : Vec Given Global → List Receiver = λ v. turned v.items in
    let before = c.loop-event.invariant in
    elim c.match-event.branch [
      | in-Start+in_ok-begin-in-Start w ↦
          ap items w.given-is
          ∙ next_received events i k _ _ c.loop-event-test.true c.event-item.is w.in-Start.is
          (w.in_ok-begin-in-Start.ensures ∙ ap (λ (rs : List Receiver). received_by w.in-Start.actor false (injection_of w.get.result.now) ++ rs) before
          ∙ ap (λ (p : Program). received_by w.in-Start.actor false (injection_of p) ++ receivers_in (reverse (take i events))) w.get.ensures)
      | in-Child+in_ok-begin-in-Child w ↦
          ap items w.given-is
          ∙ next_received events i k _ _ c.loop-event-test.true c.event-item.is w.in-Child.is
          (w.in_ok-begin-in-Child.ensures ∙ ap (λ (rs : List Receiver). received_by w.in-Child.child true (injection_of w.get-in-Child.result.now) ++ rs) before
          ∙ ap (λ (p : Program). received_by w.in-Child.child true (injection_of p) ++ receivers_in (reverse (take i events))) w.get-in-Child.ensures)
      | in-Feed w ↦
          ap items w.given-is
          ∙ next_received events i k _ _ c.loop-event-test.true c.event-item.is w.in-Feed.is
          (written_over c.loop-event.given.len c.loop-event.given.items w.give.new.given w.deref_mut.result.now w.in-Feed.child w.as_slice.result.now w.deref_mut.ensures.value c.loop-event.given.ok.0
          w.give.ensures
          ∙ ap (given_to w.in-Feed.child w.as_slice.result.now) before
          ∙ ap (λ (e : List ℕ). given_to w.in-Feed.child e (receivers_in (reverse (take i events)))) w.as_slice.ensures)
      | in_default w ↦
          ap items w.given-is
          ∙ next_received events i k k _ c.loop-event-test.true c.event-item.is refl
          (before ∙ other_received k (reverse (take i events)) w.in_default.not-Start w.in_default.not-Child w.in_default.not-Feed)
    ]

pub returns : goal.returns
returns c = c.loop-event.invariant ∙ ap (λ (l : List Kept). receivers_in (reverse l)) (take_all c.loop-event.event-index c.args.events.now c.loop-event-test.false)

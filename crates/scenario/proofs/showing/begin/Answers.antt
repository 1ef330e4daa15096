use Rattle.std.proofs.Common.{◌≡◌, List, ℕ, Some, None, ap, rules}
use Rattle.world_events.specs.Programs.{injection_of}
use Rattle.scenario.specs.declared.showing.Given.{Given}
use Rattle.scenario.specs.inside.Fates.{Receiver}
use Rattle.scenario.proofs.Receivers.{begins_none, begins_one}
use Rattle.scenario.proofs.showing.begin.Goals as goal

pub returns-in_default : goal.returns-in_default
returns-in_default c =
    let none : injection_of c.args.program.now ≡ None = search rules in
    begins_none c.args.actor.now c.args.is_child (injection_of c.args.program.now) c.args.given.now.items none

pub returns : goal.returns
returns c =
    let a = c.args.actor in
    let kind = c.args.is_child in
    let args = c.in-Some.arguments.now in
    let g : Given = record { actor = a; is_child = kind; envelope = c.as_slice.result } in
    let some : injection_of c.args.program.now ≡ Some args = search rules in
    begins_one a.now kind (injection_of c.args.program.now) args g c.args.given.now.items c.push.new.self.items some c.in_ok-push.ensures.items
    (ap (λ (e : List ℕ). let r : Receiver = record { actor = a.now; is_child = kind; envelope = e } in r) c.as_slice.ensures)

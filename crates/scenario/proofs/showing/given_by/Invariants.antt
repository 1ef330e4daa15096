use Rattle.std.proofs.Common.{◌≡◌, reverse, take}
use Rattle.scenario.specs.inside.Fates.{receivers_in}
use Rattle.scenario.proofs.Receivers.{turned}
use Rattle.scenario.proofs.showing.given_by.Given as goal

-- those that the events so far started, with what they were given by then
abbrev pub invariant-loop-event : goal.invariant-loop-event
invariant-loop-event l = turned l.given.items ≡ receivers_in (reverse (take l.event-index l.events))

use Rattle.std.proofs.Common.{take, reverse}
use Rattle.scenario.proofs.Followed.{FollowsAll}
use Rattle.scenario.proofs.fates.Following.of.Given as goal

-- what is kept follows each history that the events so far tell
abbrev pub invariant-loop-event : goal.invariant-loop-event
invariant-loop-event l = FollowsAll l.following (reverse (take l.event-index l.events))

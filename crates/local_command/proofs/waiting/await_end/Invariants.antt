use Rattle.local_command.proofs.Waits.{Looked}
use Rattle.local_command.proofs.waiting.await_end.Given as goal

-- none of the posts that were asked told the end
abbrev pub invariant-loop : goal.invariant-loop
invariant-loop g l = Looked l.chan l.counter (record { waiting = g.P.Posts.waiting l.initial.posts; asked = g.P.Posts.calls l.initial.posts; faults = g.P.Posts.faults l.initial.posts }) (record { waiting = g.P.Posts.waiting l.posts; asked = g.P.Posts.calls l.posts; faults = g.P.Posts.faults l.posts })

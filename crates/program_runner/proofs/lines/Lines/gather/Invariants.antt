use Rattle.program_runner.proofs.Heard.{HasKept}
use Rattle.program_runner.proofs.lines.Lines.gather.Given as goal

-- all that came so far is kept
abbrev pub invariant-loop : goal.invariant-loop
invariant-loop g l =
    HasKept l.initial.self l.self
    (record { waiting = g.P.Posts.waiting l.initial.posts; asked = g.P.Posts.calls l.initial.posts; faults = g.P.Posts.faults l.initial.posts })
    (record { waiting = g.P.Posts.waiting l.posts; asked = g.P.Posts.calls l.posts; faults = g.P.Posts.faults l.posts })

use Rattle.std.proofs.Common.{◌≡◌, ◌++◌, [], take}
use Rattle.mail_bytes.specs.Told.{Meets}
use Rattle.scenario.proofs.ScriptLines.{HavePlayed}
use Rattle.scenario.proofs.playing.play.Given as goal

-- no giving failed; the lines so far are played, and the sink took what they print, and was given nothing if that is
-- nothing
abbrev pub invariant-loop-line : goal.invariant-loop-line
invariant-loop-line g l =
    (g.O.Sink.faults l.out ≡ g.O.Sink.faults l.initial.out)
    × (so : HavePlayed l.fn.script.opening (take l.line-index l.line-items) l.world l.traced)
    × Meets (g.O.Sink.taken l.initial.out) (g.O.Sink.taken l.out) (λ before after. after ≡ before ++ so.text)
    × (so.text ≡ [] → l.out ≡ l.initial.out)

use Rattle.std.proofs.Common.{◌≡◌, List}
use Rattle.call_fs.specs.Disk.{Disk}
use Rattle.call_fs.specs.Plan.{Plan}
use Rattle.scenario.specs.Deeds.{Deed}
use Rattle.scenario.specs.Playing.{IsPlaying}
use Rattle.scenario.proofs.TurnRuns.{HasSettledOn}
use Rattle.scenario.proofs.turning.settle.Given as goal

-- none of the rounds so far was the last one, and they printed nothing
abbrev pub invariant-loop : goal.invariant-loop
invariant-loop l = (d : Disk) (plan : Plan) (h : List Deed) → IsPlaying d l.initial.world plan h
    → (l.text.items ≡ l.initial.text.items) × HasSettledOn d h plan l.letter l.world l.counter l.first l.later

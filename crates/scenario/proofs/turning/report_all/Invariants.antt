use Rattle.std.proofs.Common.{◌-◌, List}
use Rattle.call_fs.specs.Disk.{Disk}
use Rattle.call_fs.specs.Plan.{Plan}
use Rattle.scenario.specs.Deeds.{Deed}
use Rattle.scenario.specs.Playing.{IsPlaying}
use Rattle.scenario.proofs.TurnRuns.{HasReportedOn}
use Rattle.scenario.proofs.turning.report_all.Given as goal

abbrev pub invariant-loop-slot : goal.invariant-loop-slot
invariant-loop-slot l = (d : Disk) (plan : Plan) (h : List Deed) → IsPlaying d l.initial.world plan h → HasReportedOn d h l.letter l.world plan l.from

abbrev pub decreases-loop-slot : goal.decreases-loop-slot
decreases-loop-slot l = 255 - l.from

use Rattle.std.proofs.Common.{◌-◌, List}
use Rattle.call_fs.specs.Disk.{Disk}
use Rattle.call_fs.specs.Plan.{Plan}
use Rattle.scenario.specs.Deeds.{Deed}
use Rattle.scenario.specs.Playing.{IsPlaying}
use Rattle.scenario.specs.inside.Playing.{NonePassed}
use Rattle.scenario.proofs.TurnParts.{GoesOnFrom}
use Rattle.scenario.proofs.turning.turn.Given as goal

abbrev pub invariant-loop-actor : goal.invariant-loop-actor
invariant-loop-actor l = (d : Disk) (plan : Plan) (h : List Deed) → IsPlaying d l.initial.world plan h → NonePassed d h l.first l.initial.later
    → GoesOnFrom d h plan l.world l.first l.later l.idle l.from l.initial.text.items l.text.items

abbrev pub decreases-loop-actor : goal.decreases-loop-actor
decreases-loop-actor l = 18446744073709551616 - l.from

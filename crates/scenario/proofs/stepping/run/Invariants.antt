use Rattle.std.proofs.Common.{◌≡◌, List}
use Rattle.call_fs.specs.Disk.{Disk}
use Rattle.call_fs.specs.Plan.{Plan}
use Rattle.scenario.specs.Deeds.{Deed}
use Rattle.scenario.specs.Playing.{IsPlaying}
use Rattle.scenario.proofs.ScriptRuns.{HasGone}
use Rattle.scenario.proofs.stepping.run.Given as goal

abbrev pub invariant-loop : goal.invariant-loop
invariant-loop l = (l.text.items ≡ l.initial.text.items)
    × ((d : Disk) (plan : Plan) (h : List Deed) → IsPlaying d l.initial.world plan h → HasGone d h plan l.actor l.world l.counter)

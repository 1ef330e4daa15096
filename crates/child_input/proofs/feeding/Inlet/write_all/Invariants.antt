use Rattle.std.proofs.Common.{◌≡◌}
use Rattle.std.specs.Io.KnownBytes.{Appends}
use Rattle.crossbeam_queue.specs.SegTies.{IsSegPassOf}
use Rattle.child_input.specs.Feedings.{all_bytes, writer}
use Rattle.child_input.proofs.feeding.Inlet.write_all.Given as goal

abbrev pub invariant-loop : goal.invariant-loop
invariant-loop g l = IsSegPassOf l.self.line l.pass × (l.pass.me.view.client ≡ writer l.pass.me.view.client.taken)
    × Appends (g.I.Write.contents l.initial.input) (g.I.Write.contents l.input) (all_bytes l.pass.me.view.client.taken)

use Rattle.std.proofs.Common.{◌≡◌}
use Rattle.crossbeam_queue.specs.Passes.{view, IsPassOf}
use Rattle.piece_queue.specs.Readings.{HasPushed, MayRead}
use Rattle.piece_queue.proofs.reading.read_channel.Given as goal

abbrev pub invariant-loop-number : goal.invariant-loop-number
invariant-loop-number g l = IsPassOf l.queue.line l.pass × HasPushed l.chan (view l.pass) (g.I.Inflow.readings l.initial.input) (g.I.Inflow.readings l.input)
    × MayRead l.chan l.number (view l.pass)

use Rattle.std.proofs.Common.{◌≡◌, ◌-◌, length}
use Rattle.outside.specs.Forms.{IsWithin, rest_from}
use Rattle.outside.proofs.source.next_place.Given as goal

abbrev pub invariant-loop-at : goal.invariant-loop-at
invariant-loop-at l = record {
  within : IsWithin l.pieces l.at l.given;
  same : rest_from l.pieces l.at l.given ≡ rest_from l.pieces l.fn.at l.fn.given;
}

abbrev pub decreases-loop-at : goal.decreases-loop-at
decreases-loop-at l = length l.pieces - l.at

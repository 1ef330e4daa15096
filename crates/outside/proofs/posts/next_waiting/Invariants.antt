use Rattle.std.proofs.Common.{◌≡◌, ◌-◌, length, map}
use Rattle.outside.specs.Children.{arrivals}
use Rattle.outside.specs.Forms.{IsWithin, rest_from}
use Rattle.outside.proofs.posts.next_waiting.Given as goal

abbrev pub invariant-loop-at : goal.invariant-loop-at
invariant-loop-at l = record {
  within : IsWithin (map arrivals l.posts) l.at l.given;
  same : rest_from (map arrivals l.posts) l.at l.given ≡ rest_from (map arrivals l.posts) l.fn.at l.fn.given;
}

abbrev pub decreases-loop-at : goal.decreases-loop-at
decreases-loop-at l = length l.posts - l.at

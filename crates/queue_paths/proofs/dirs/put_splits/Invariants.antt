use Rattle.std.proofs.Common.{◌≡◌, ◌++◌}
use Rattle.queue_paths.specs.Dirs.{splits_of}
use Rattle.queue_paths.specs.declared.dirs.TheConstants.{SPLITS}
use Rattle.queue_paths.proofs.dirs.put_splits.Given as goal

-- those that are there and those that are left are all
abbrev pub invariant-loop-split : goal.invariant-loop-split
invariant-loop-split l = l.dirs.items ++ splits_of l.dir l.split ≡ l.initial.dirs.items ++ splits_of l.dir SPLITS

abbrev pub decreases-loop-split : goal.decreases-loop-split
decreases-loop-split l = l.split

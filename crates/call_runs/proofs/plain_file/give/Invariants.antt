use Rattle.std.proofs.Common.{◌≡◌, ◌++◌, ◌≤◌, ◌+◌, ◌-◌, length, take, vec_len, vec_capacity}
use Rattle.std.specs.List.{enumerate_from}
use Rattle.call_runs.proofs.plain_file.give.Given as goal

abbrev pub invariant-loop-index : goal.invariant-loop-index
invariant-loop-index l =
    (l.given.items ≡ l.fn.given.items ++ enumerate_from l.at (take l.index l.bytes))
    × (vec_len l.given + (length l.bytes - l.index) ≤ vec_capacity l.given)

use Rattle.std.proofs.Common.{◌≡◌, ◌++◌, take, drop, map}
use Rattle.world_events.specs.Books.{left_as, cut_off}
use Rattle.world_events.proofs.books.cut_off_all.Given as goal

abbrev pub invariant-loop-entry : goal.invariant-loop-entry
invariant-loop-entry l = l.entries ≡ map (λ e. left_as (cut_off e.life) e) (take l.entry-index l.initial.entries) ++ drop l.entry-index l.initial.entries

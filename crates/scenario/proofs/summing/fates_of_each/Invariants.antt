use Rattle.std.proofs.Common.{◌≡◌, All, length}
use Rattle.queue_law.specs.Books.{Books}
use Rattle.script_fates.specs.Fates.{AreFates, IsUsed}
use Rattle.scenario.specs.Viewed.{view_at}
use Rattle.scenario.specs.inside.Viewed.{given_fates}
use Rattle.scenario.proofs.EachMail.{so_far}
use Rattle.scenario.proofs.summing.fates_of_each.Given as goal

-- what became of the recipients of the mails so far
abbrev pub invariant-loop-entry : goal.invariant-loop-entry
invariant-loop-entry l = (books : Books) → AreFates l.overview.fates.now books → All (λ e. IsUsed e.number) l.entries
    → l.all.items ≡ so_far (given_fates (view_at l.overview books)) l.entries l.given (length l.yielded)

use Rattle.std.proofs.Common.{drop, take}
use Rattle.queue_law.specs.Books.{Books}
use Rattle.script_fates.specs.Fates.{AreFates}
use Rattle.script_fates.specs.Entering.{entered_of}
use Rattle.script_fates.proofs.fates.Fates.enter.Given as goal

-- the recipients of the marks so far are entered
abbrev pub invariant-loop-at : goal.invariant-loop-at
invariant-loop-at l =
    (books : Books) → AreFates l.initial.self books → AreFates l.self (entered_of l.channel (drop l.before (take l.at l.marks)) books)

-- How processes end, and what is told of it.
use Rattle.std.specs.Prelude.{◌≡◌, Option, None, Some}
use Rattle.std.specs.declared.io.Error.{Error}
use Rattle.proc_runner.specs.declared.system.Exit.{Exit}
use Rattle.proc_runner.specs.declared.system.Exit.TheVariants as exit
use Rattle.piece_queue.specs.declared.piece.Brought.{Brought}
use Rattle.piece_queue.specs.declared.piece.Brought.TheVariants as came

-- it is the end that all are told who ask, if that is known
abbrev pub IsFate : Option Exit → Exit → Type 0
IsFate None told = Unit {0}
IsFate (Some one) told = told ≡ one

-- an end that may be told, and that all others are told too
abbrev pub IsTold : (Exit → Type 0) → Option Exit → Exit → Type 0
IsTold may fate told = may told × IsFate fate told

-- the system has told an end
abbrev pub HasEnded : (Exit → Type 0) → Option Exit → Type 0
HasEnded may fate = (told : Exit) × IsTold may fate told

-- The end is brought only of a process that has ended, and a cut only of one that has ended and of which all are told that a signal
-- ended it.
abbrev pub EndsAfter : (Exit → Type 0) → Option Exit → Brought → Type 0
EndsAfter may fate came.End = HasEnded may fate
EndsAfter may fate came.Cut = HasEnded may fate × IsFate fate exit.Signal
EndsAfter may fate other = Unit {0}

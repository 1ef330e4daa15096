use Rattle.std.proofs.Common.{refl, sym}
use Rattle.piece_queue.proofs.Pushed.{ends_or_not, pushes}
use Rattle.piece_queue.proofs.reading.push_next.Goals as goal

pub push-requires-clause-pass : goal.push-requires-clause-pass
push-requires-clause-pass g c = (c.requires.pass, c.requires.next.reads)

pub push-requires-clause-piece : goal.push-requires-clause-piece
push-requires-clause-piece g c = record { chan = sym c.requires.next.chan; number = sym c.requires.next.number; unended = c.requires.next.unended; fits = c.read-brought.ensures.fits }

pub returns-clause-all : goal.returns-clause-all
returns-clause-all g c = λ before. pushes _ _ _ _ before _ _ _ c.requires.next c.push.ensures.pushed refl c.read-brought.ensures.told

pub returns-clause-over : goal.returns-clause-over
returns-clause-over g c = ends_or_not _ _ _ _ _ _ c.requires.next c.push.ensures.pushed c.ends.ensures

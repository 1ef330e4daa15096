use Rattle.bounce_record.proofs.Counting.{note_added, count_is, count_more, count_stays, parting_tail}
use Rattle.bounce_record.proofs.laws.notes_are_counted.Goals as goal

pub returns : goal.returns
returns c = record { counted = count_is; added = note_added; more = count_more; stays = count_stays; parting = parting_tail }

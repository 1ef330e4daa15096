use Rattle.send_jobs.proofs.RunLaws.{sound}
use Rattle.send_jobs.proofs.SlotLemmas.{lowest_is_least, one_least}
use Rattle.send_jobs.proofs.laws.slots_are_sound.Goals as goal

pub returns : goal.returns
returns c = record { sound = sound; lowest = lowest_is_least; one = one_least }

use Rattle.queue_law.proofs.Halts.{sound_after, early_after, injector_halt}
use Rattle.queue_law.proofs.laws.halts_keep.Goals as goal

pub returns : goal.returns
returns c = record { sound = sound_after; early = early_after; fares = injector_halt }

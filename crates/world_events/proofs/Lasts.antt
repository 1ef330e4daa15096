-- Lists of events with the same beginning and one event more.
use Rattle.std.proofs.Common.{◌≡◌, List, [], ◌∷◌, ◌++◌}
use Rattle.world_events.specs.declared.event.Event.{Event as Kept}

pub same_last : (events : List Kept) (a b : Kept) → events ++ a ∷ [] ≡ events ++ b ∷ [] → a ≡ b
same_last [] a b is = cc
same_last (e ∷ events) a b is = let rest : events ++ a ∷ [] ≡ events ++ b ∷ [] = cc in same_last events a b rest

-- The order of starts, as one event comes.
use Rattle.std.proofs.Common.{◌≡◌, ℕ, List, [], ◌∷◌, ◌++◌, reverse, Option, Some, None, refl, sym, ap, ◌∙◌, subst}
use Rattle.std.proofs.lemmas.List.{reverse-append, append-nil}
use Rattle.call_fs.specs.Disk.{Disk}
use Rattle.call_fs.specs.declared.program.Ready.{Ready}
use Rattle.world_events.specs.declared.event.Event.{Event as Kept}
use Rattle.world_events.specs.declared.event.Event.TheVariants as kept
use Rattle.world_pipes.specs.declared.mouths.Mouths.{Mouths}
use Rattle.mail_world.specs.declared.actor.Actor.{Actor as Held}
use Rattle.mail_world.specs.Acting.{HasActed}
use Rattle.world_events.specs.declared.starts.Starts.{Starts}
use Rattle.mail_world.specs.Generations.{starts_of, started_in}
use Rattle.mail_world.specs.Starts.{AreStarts}

pub starts_push : (events : List Kept) (k : Kept) → starts_of (reverse (events ++ k ∷ [])) ≡ starts_of (reverse events) ++ started_in k
starts_push events k = ap starts_of (reverse-append events (k ∷ []))

-- an event that starts nobody
pub still_starts : (starts : Starts) (crew : ℕ) (places : List ℕ → Option ℕ) (events : List Kept) (k : Kept) → started_in k ≡ []
    → AreStarts starts crew places (starts_of (reverse events)) → AreStarts starts crew places (starts_of (reverse (events ++ k ∷ [])))
still_starts starts crew places events k none are =
    let same : starts_of (reverse (events ++ k ∷ [])) ≡ starts_of (reverse events) =
    starts_push events k ∙ ap (λ (l : List (List ℕ)). starts_of (reverse events) ++ l) none ∙ append-nil (starts_of (reverse events)) in
    subst (AreStarts starts crew places) (sym same) are

-- an actor acts, or ends
pub acted_starts : (starts : Starts) (crew : ℕ) (places : List ℕ → Option ℕ) (ended : Option ℕ) (old new : Option Disk) (wires wired : List Mouths) (pid : ℕ) (x y : Held) (events later : List Kept) (p : ℕ) (ready : Ready)
    → HasActed ended old new wires wired pid x y events later p ready
    → AreStarts starts crew places (starts_of (reverse events)) → AreStarts starts crew places (starts_of (reverse later))
acted_starts starts crew places None old new wires wired pid x y events later p ready acted are =
    subst (λ (l : List Kept). AreStarts starts crew places (starts_of (reverse l))) (sym acted.event) (still_starts starts crew places events (kept.Act x.name acted.own) refl are)
acted_starts starts crew places (Some status) old new wires wired pid x y events later p ready acted are =
    subst (λ (l : List Kept). AreStarts starts crew places (starts_of (reverse l))) (sym acted.over.event) (still_starts starts crew places events (kept.End x.name p ready status) refl are)

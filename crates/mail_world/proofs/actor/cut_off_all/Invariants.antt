use Rattle.std.proofs.Common.{◌≡◌, ℕ, ◌<◌, ◌≤◌, Some}
use Rattle.std.specs.List.{slice_get}
use Rattle.mail_world.specs.declared.actor.Actor.{Actor}
use Rattle.mail_world.specs.Acting.{IsCutOff}
use Rattle.mail_world.proofs.actor.cut_off_all.Given as goal

-- those before this place are over, the others are as they were
abbrev pub invariant-loop-actor : goal.invariant-loop-actor
invariant-loop-actor l =
    (i : ℕ) (x y : Actor) → slice_get l.initial.actors i ≡ Some x → slice_get l.actors i ≡ Some y
    → (i < l.actor-index → IsCutOff l.index x y) × (l.actor-index ≤ i → y ≡ x)

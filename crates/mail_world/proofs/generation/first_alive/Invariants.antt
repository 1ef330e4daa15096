use Rattle.std.proofs.Common.{◌≡◌, false}
use Rattle.std.specs.Prelude.{All, take, is_none}
use Rattle.mail_world.proofs.generation.first_alive.Given as goal

-- none of those before lives
abbrev pub invariant-loop-actor : goal.invariant-loop-actor
invariant-loop-actor l = All (λ x. is_none x.ended ≡ false) (take l.actor-index l.crew)

-- What is taken of a source.
use Rattle.std.specs.Prelude.{◌≡◌, ◌⊎◌, ℕ, ◌≤◌, List, [], ◌++◌}
use Rattle.mail_bytes.specs.Told.{Meets, OnTold, Rose}
use Rattle.queue_command.specs.Inputs.{Stream}

-- these bytes were taken of a source
pub record Takes (bytes : List ℕ) (stream : Stream) : Type 0 where
  pub told : Meets stream.old stream.new (λ before after. before ≡ bytes ++ after)
  pub counts : stream.faults_old ≤ stream.faults_new

-- it has no more, or it failed
abbrev pub IsDry : Stream → Type 0
IsDry stream = OnTold stream.new (λ left. left ≡ []) ⊎ Rose stream.faults_old stream.faults_new

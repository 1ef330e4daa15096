-- What lies outside a program, with its calls kept.
use Rattle.std.specs.Prelude.{List, Option}
use Rattle.outside.specs.declared.kept_calls.SpawnCallData.{SpawnCallData}
use Rattle.outside.specs.declared.kept_calls.SpawnCallData.TheVariants as kept
use Rattle.outside.specs.Children.{SpawnCall}

-- a clock, posts or a spawner, and the calls made of it with their answers, in order, while there was memory for each of them
pub record Recording (X C : Type 0) : Type 0 where
  pub inner : X
  pub calls : Option (List C)

-- a call of a spawner, without memory of its own
abbrev pub spawn_call_of : SpawnCallData → SpawnCall
spawn_call_of (kept.Start words started) = SpawnCall.Start words.items started
spawn_call_of (kept.Feed chan bytes gave) = SpawnCall.Feed chan bytes gave
spawn_call_of (kept.Finish chan) = SpawnCall.Finish chan
spawn_call_of (kept.AskStatus chan status) = SpawnCall.AskStatus chan status

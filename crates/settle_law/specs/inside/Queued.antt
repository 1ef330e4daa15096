-- A search of `todo` from the start that gives no name: no message waits to be preprocessed.
use Rattle.std.specs.Prelude.{◌≡◌, ◌≢◌, ◌<◌, ◌^◌, ℕ, List, [], ◌++◌, None, codes}
use Rattle.call_fs.specs.Apply.{Fits}
use Rattle.call_fs.specs.Disk.{Disk}
use Rattle.call_fs.specs.declared.calls.Answer.TheVariants.{NoName}
use Rattle.call_fs.specs.declared.calls.CallData.TheVariants.{NextName}
use Rattle.queue_paths.specs.Names.{path}
use Rattle.queue_paths.specs.Names.Name.{Of}
use Rattle.queue_paths.specs.Names.Part.{SplitTodo}
use Rattle.queue_states.specs.declared.state.State.TheVariants.{S4}
use Rattle.queue_states.specs.States.{state_of}
use Rattle.scenario.specs.Deeds.{Deed, after}
use Rattle.settle_law.specs.Ends.{Turn, deeds_of}
use Rattle.settle_law.specs.Promised.{IsRest}

-- a program can name numbers up to the last of a u64; none of the split layout is asked for
abbrev pub NoneIsQueued : Type 0
NoneIsQueued = (d : Disk) (wrote : ℕ) → Fits d (NextName (codes "todo") []) NoName wrote → (n : ℕ) → n < 2 ^ 64 → d.names (path (Of SplitTodo n)) ≡ None → state_of d n ≢ S4

-- So at a rest no message waits to be preprocessed.
abbrev pub RestsUnqueued : Type 0
RestsUnqueued = (d : Disk) (turns : List Turn) (before : List Deed) → IsRest d turns before → (n : ℕ) → state_of (after d (deeds_of turns ++ before)).disk n ≢ S4

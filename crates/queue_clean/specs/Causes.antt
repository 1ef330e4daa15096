-- Which answer and which exit status of a cleaner come when, and why.
use Rattle.std.specs.Prelude.{◌≡◌, ◌⊎◌, ◌↔◌, ℕ, ◌-◌, List, [], ◌∷◌, Option, Some, None, slice_get, codes}
use Rattle.call_fs.specs.declared.calls.CallData.{CallData}
use Rattle.call_fs.specs.declared.calls.CallData.TheVariants.{Unlink}
use Rattle.call_fs.specs.declared.calls.Answer.{Answer}
use Rattle.call_fs.specs.Past.{HoldsOf, IsFault}
use Rattle.call_fs.specs.declared.program.Port.{Port}
use Rattle.call_fs.specs.declared.program.Port.TheVariants.{Input, Output}
use Rattle.call_fs.specs.declared.past.NeedData.{NeedData}
use Rattle.call_fs.specs.declared.past.NeedData.TheVariants as needs
use Rattle.call_fs.specs.declared.past.GotData.{GotData}
use Rattle.call_fs.specs.declared.past.GotData.TheVariants.{End, Failed}
use Rattle.call_fs.specs.declared.past.Own.{Own}
use Rattle.queue_clean.specs.Commands.{commands, command_of}
use Rattle.queue_clean.specs.Table.{Place, place_after}
use Rattle.queue_limits.specs.declared.statuses.TheConstants.{DONE, INPUT, OUTPUT}

-- the command that was taken up last
abbrev pub last_command : Place → Option (List ℕ)
last_command p = slice_get (commands p.taken) (p.begun - 1)

-- an unlink that failed
abbrev pub IsFailedUnlink : CallData → Answer → Type 0
IsFailedUnlink call answer = (name : List ℕ) × (call ≡ Unlink name) × IsFault call answer

-- the last event was one
abbrev pub EndsInFault : List Own → Type 0
EndsInFault [] = ⊥
EndsInFault (event ∷ before) = HoldsOf IsFailedUnlink event

-- Why a cleaner gives these bytes after a past: they answer the command that it took up last. It gives `x` exactly if
-- that is no command, `!` exactly if its last call was an unlink that failed, and else `+`.
pub record IsAnswered (past : List Own) (port : Port) (bytes : List ℕ) : Type 0 where
  pub text : List ℕ
  pub command : last_command (place_after past) ≡ Some text
  pub output : port ≡ Output
  pub known : (bytes ≡ codes "+") ⊎ ((bytes ≡ codes "!") ⊎ (bytes ≡ codes "x"))
  pub unknown : (bytes ≡ codes "x") ↔ (command_of text ≡ None)
  pub failed : (bytes ≡ codes "!") ↔ EndsInFault past

-- with which status each last event ends it: 0, the input ended; 53, a give failed; 54, a take failed
pub data EndsWith : ℕ → NeedData → GotData → Type 0 where
  InputEnded : EndsWith DONE (needs.Take Input) End
  GiveFailed : (bytes : List ℕ) → EndsWith OUTPUT (needs.Give Output bytes) Failed
  TakeFailed : EndsWith INPUT (needs.Take Input) Failed

-- why it has ended with this status after a past
abbrev pub IsEnded : List Own → ℕ → Type 0
IsEnded [] status = ⊥
IsEnded (event ∷ before) status = EndsWith status event.due event.came

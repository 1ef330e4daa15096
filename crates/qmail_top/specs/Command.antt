-- The words of the top call, and why a command fails.
use Rattle.std.specs.Prelude.{◌≡◌, ◌⊎◌, ℕ, ◌<◌, List, [], ◌∷◌, ◌++◌, length, map, codes, Bool, false, Option, Some, None, if◌then◌else◌, String, string_bytes, Result, Ok, Err}
use Rattle.std.specs.declared.alloc.Global.{Global}
use Rattle.mail_bytes.specs.Told.{OnTold, Rose}
use Rattle.command_words.specs.declared.command.Command.TheVariants.{Play, Queue, Qmqpd, Audit, Clean}
use Rattle.command_words.specs.declared.command.QmqpdWords.{QmqpdWords}
use Rattle.command_words.specs.declared.command.QueueWords.{QueueWords}
use Rattle.command_words.specs.Reads.{Reads}
use Rattle.received_line.specs.declared.line.Invoked.{Invoked}
use Rattle.received_line.specs.declared.line.Invoked.TheVariants.{Uid, Bounce}
use Rattle.program_runner.specs.Outside.{Outside as Around}
use Rattle.clean_command.specs.Cleaned.{WasRun}
use Rattle.queue_command.specs.declared.input.Form.{Form}
use Rattle.queue_command.specs.declared.input.Form.TheVariants.{Beside, Netstrings}
use Rattle.queue_command.specs.Inputs.{Stream}
use Rattle.queue_command.specs.Runs.{Outside}
use Rattle.queue_command.specs.Injected.{HasInjected}
use Rattle.qmqp_server.specs.Received.{HasReceived, Sunk}
use Rattle.script_lines.specs.Lines.{IsRefused, most_bytes}
use Rattle.qmail_top.specs.declared.play_command.Failure.{Failure}
use Rattle.qmail_top.specs.declared.play_command.Failure.TheVariants.{Memory, Output, Input, Malformed}
use Rattle.queue_limits.specs.declared.statuses.TheConstants.{INPUT, MALFORMED, MEMORY, OUTPUT}

-- the words are `play`, `queue` or `qmqpd` with what it is told, or `audit` with a directory
abbrev pub IsPlay : List (String Global) → Type 0
IsPlay words = Reads (map string_bytes words) Play

abbrev pub IsQueue : List (String Global) → QueueWords → Type 0
IsQueue words queue = Reads (map string_bytes words) (Queue queue)

abbrev pub IsQmqpd : List (String Global) → QmqpdWords → Type 0
IsQmqpd words told = Reads (map string_bytes words) (Qmqpd told)

abbrev pub IsAudit : List (String Global) → Type 0
IsAudit words = (dir : List ℕ) × Reads (map string_bytes words) (Audit dir)

abbrev pub IsClean : List (String Global) → Type 0
IsClean words = (dir : List ℕ) × Reads (map string_bytes words) (Clean dir)

-- The command `clean` was run, to its end or as far as a run goes; or there was no memory for its words, and nothing was done. 51 says one of
-- the last two.
abbrev pub WasCleaned : Around → Around → ℕ → Type 0
WasCleaned old new status = WasRun old new status ⊎ ((status ≡ MEMORY) × (new ≡ old))

-- by whom, or for what, the injector of a command was invoked
abbrev pub invoked_by : QueueWords → Invoked
invoked_by queue = if queue.bounce then Bounce else Uid queue.uid

-- the envelope comes from a file beside the message, or after it
abbrev pub form_of : Option (List ℕ) → Form
form_of (Some file) = Beside
form_of None = Netstrings

-- the line that the log gets of words that are no command
abbrev pub usage_line : List ℕ
usage_line = codes "usage" ++ 10 ∷ []

-- The command `queue` was done by this process.
abbrev pub HasRunQueue : QueueWords → ℕ → Stream → Stream → Outside → Outside → ℕ → Type 0
HasRunQueue queue pid message envelope old new status =
    HasInjected (record { uid = queue.uid; pid = pid; invoked = invoked_by queue }) (form_of queue.env) message envelope old new status

-- The command `qmqpd` was done by this process; without memory for its words nothing was.
abbrev pub HasRunQmqpd : QmqpdWords → ℕ → Stream → Outside → Outside → Sunk → ℕ → Type 0
HasRunQmqpd told pid message old new sink status = HasReceived (record { uid = told.uid; pid = pid; invoked = Uid told.uid }) message old new sink status

-- the exit status of a failure
abbrev pub status_of : Failure → ℕ
status_of Memory = MEMORY
status_of Output = OUTPUT
status_of Input = INPUT
status_of Malformed = MALFORMED

-- A count of failures, before and after a call.
pub record Counted : Type 0 where
  pub before : ℕ
  pub after : ℕ

abbrev pub HasRisen : Counted → Type 0
HasRisen count = Rose count.before count.after

-- neither the source nor the sink has failed
abbrev pub NoneFailed : Counted → Counted → Type 0
NoneFailed source sink = (source.after ≡ source.before) × (sink.after ≡ sink.before)

-- An input failed only if the source counted it, an output only if the sink did. If memory ran out, neither did.
abbrev pub HasReason : Failure → Counted → Counted → Type 0
HasReason Memory source sink = NoneFailed source sink
HasReason Output source sink = HasRisen sink
HasReason Input source sink = HasRisen source
HasReason Malformed source sink = Unit {0}

-- nothing is written if the input failed
abbrev pub IsBeforeOutput : Failure → Type 0
IsBeforeOutput Memory = ⊥
IsBeforeOutput Output = ⊥
IsBeforeOutput Input = Unit {0}
IsBeforeOutput Malformed = ⊥

-- Nothing is printed of a script that wasn't read to its end, unless it is refused as too long: whether its source has
-- told the end, whether nothing was printed, and whether it was refused.
abbrev pub IsPrintedAtEnd : Option Bool → Type 0 → Type 0 → Option (List ℕ) → Type 0
IsPrintedAtEnd ended Unprinted Refused left =
    OnTold ended (λ is. is ≡ false → Unprinted ⊎ (Refused × OnTold left (λ script. most_bytes < length script)))

-- what was read of a source: all that it had, or more than a script may have
pub record IsReading (before after bytes : List ℕ) : Type 0 where
  pub taken : before ≡ bytes ++ after
  pub enough : (after ≡ []) ⊎ (most_bytes < length bytes)

-- a call that did its work, or began to write what came of it
abbrev pub IsPast : Result (Unit {0}) Failure → Type 0
IsPast (Ok _) = Unit {0}
IsPast (Err Output) = Unit {0}
IsPast (Err Memory) = ⊥
IsPast (Err Input) = ⊥
IsPast (Err Malformed) = ⊥

-- A script is played only if it is one, and refused only if it is none.
pub record IsChecked (bytes : List ℕ) (result : Result (Unit {0}) Failure) : Type 0 where
  pub refused : result ≡ Err Malformed → IsRefused bytes
  pub played : IsPast result → ¬ (IsRefused bytes)

-- The command `make`: the output takes a script, and why it ends so.
use Rattle.std.specs.Prelude.{◌≡◌, ◌≢◌, ◌⊎◌, ℕ, List, ◌++◌, map, String, string_bytes}
use Rattle.std.specs.declared.alloc.Global.{Global}
use Rattle.mail_bytes.specs.Told.{Meets}
use Rattle.outside.specs.Streams.{CountsFailures, Gives}
use Rattle.outside.specs.declared.sink.Gave.TheVariants as gave
use Rattle.audit_command.specs.Audited.{Output}
use Rattle.command_words.specs.declared.command.Command.TheVariants.{Make}
use Rattle.command_words.specs.declared.command.MakeWords.{MakeWords}
use Rattle.command_words.specs.Reads.{Reads}
use Rattle.queue_limits.specs.declared.statuses.TheConstants.{DONE, MEMORY, OUTPUT}
use Rattle.script_maker.specs.declared.error.MakeError.{MakeError}
use Rattle.script_maker.specs.declared.error.MakeError.TheVariants.{Failed, Memory}
use Rattle.script_maker.specs.Script.{script_of}

-- the words are `make` with what it is told; with anything
abbrev pub IsMake : List (String Global) → MakeWords → Type 0
IsMake words told = Reads (map string_bytes words) (Make told)

abbrev pub IsMaker : List (String Global) → Type 0
IsMaker words = (told : MakeWords) × IsMake words told

-- the exit status of an error
abbrev pub status_of : MakeError → ℕ
status_of Failed = OUTPUT
status_of Memory = MEMORY

-- The output took the script of the seed with so many mails, exactly that with 0, and else a prefix of it. 53 says that the output failed, and
-- with another status it didn't.
pub record HasMade (told : MakeWords) (out : Output) (status : ℕ) : Type 0 where
  pub known : (status ≡ DONE) ⊎ ((status ≡ OUTPUT) ⊎ (status ≡ MEMORY))
  pub all : status ≡ DONE → Meets out.old out.new (λ before after. after ≡ before ++ script_of told.seed told.count)
  pub part : status ≢ DONE → Meets out.old out.new (Gives gave.Failed (script_of told.seed told.count))
  pub cause : CountsFailures out.faults_old out.faults_new (status ≡ OUTPUT)

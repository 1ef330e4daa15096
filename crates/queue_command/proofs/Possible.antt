-- Some arguments of an injector are possible, whatever was heard of its input.
use Rattle.std.proofs.Common.{ℕ, List, [], Option, Some, None, refl, sym}
use Rattle.std.proofs.lemmas.List.{append-nil}
use Rattle.queue_inject.specs.declared.injection.Arguments.{Arguments}
use Rattle.queue_inject.specs.declared.injection.InputEnd.{InputEnd}
use Rattle.queue_inject.specs.declared.injection.InputEnd.TheVariants.{Whole}
use Rattle.queue_command.specs.Inputs.{Heard, Begins}
use Rattle.queue_command.specs.Runs.{Who, IsPossible}

-- an input that was heard so far may end there
abbrev pub some_end : Option InputEnd → InputEnd
some_end None = Whole
some_end (Some end) = end

begins_some : (bytes : List ℕ) (end : Option InputEnd) → Begins bytes (some_end end) (record { bytes = bytes; end = end })
begins_some bytes None = ([], sym (append-nil bytes))
begins_some bytes (Some end) = (refl, refl)

-- the arguments whose input is just what was heard
abbrev pub some_arguments : Who → ℕ → Heard → Arguments
some_arguments who start heard = record {
  uid = who.uid;
  pid = who.pid;
  invoked = who.invoked;
  start = start;
  message = heard.message.bytes;
  message_end = some_end heard.message.end;
  envelope = heard.envelope.bytes;
  envelope_end = some_end heard.envelope.end;
}

pub some_possible : (who : Who) (start : ℕ) (heard : Heard) → IsPossible who start heard (some_arguments who start heard)
some_possible who start heard = record {
  started = record { uid_is = refl; pid_is = refl; invoked_is = refl; start_is = refl };
  message = begins_some heard.message.bytes heard.message.end;
  envelope = begins_some heard.envelope.bytes heard.envelope.end;
}

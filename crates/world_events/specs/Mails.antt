-- Mails of a world.
use Rattle.std.specs.Prelude.{ℕ, List}
use Rattle.queue_inject.specs.declared.injection.Arguments.{Arguments}
use Rattle.queue_inject.specs.declared.injection.InputEnd.TheVariants.{Whole}
use Rattle.received_line.specs.declared.line.Invoked.TheVariants.{Uid}

-- what the injector of a mail is started with
abbrev pub mail : ℕ → ℕ → List ℕ → List ℕ → Arguments
mail pid start message envelope = record {
  uid = 1000;
  pid = pid;
  invoked = Uid 1000;
  start = start;
  message = message;
  message_end = Whole;
  envelope = envelope;
  envelope_end = Whole;
}

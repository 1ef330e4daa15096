-- A package that was received after its first two heads.
use Rattle.std.specs.Prelude.{◌≡◌, ℕ}
use Rattle.queue_command.specs.Inputs.{Stream}
use Rattle.queue_command.specs.Runs.{Outside, Who}
use Rattle.qmqp_server.specs.declared.reader.Reader.{Reader}
use Rattle.qmqp_server.specs.Received.{Sunk, HasReceived}
use Rattle.qmqp_server.specs.Sources.{Takes}
use Rattle.qmqp_server.specs.inside.Places.{heads_of}

-- whatever stream gave the two heads before
abbrev pub HasReceivedFrom : Reader → Who → Stream → Outside → Outside → Sunk → ℕ → Type 0
HasReceivedFrom reader who message old new sink status =
    (first : Stream) → Takes (heads_of reader) first → first.new ≡ message.old → first.faults_new ≡ message.faults_old
    → HasReceived who (record { old = first.old; new = message.new; faults_old = first.faults_old; faults_new = message.faults_new }) old new sink status

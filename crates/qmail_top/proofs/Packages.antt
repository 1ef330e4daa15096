-- What `qmqpd` comes to.
use Rattle.std.proofs.Common.{◌≡◌, ◌≢◌, ℕ, List, [], Option, inl, inr, refl, subst, arith}
use Rattle.command_words.specs.declared.command.Command.TheVariants.{Qmqpd}
use Rattle.command_words.specs.declared.command.QmqpdWords.{QmqpdWords}
use Rattle.command_words.specs.Reads.{Reads}
use Rattle.queue_command.specs.Inputs.{Stream}
use Rattle.queue_command.specs.Runs.{Outside, Who}
use Rattle.qmqp_server.specs.declared.reader.PackageFault.{PackageFault}
use Rattle.qmqp_server.specs.declared.reader.PackageFault.TheVariants.{Cut, Malformed}
use Rattle.qmqp_server.specs.Received.{HasReceived, IsGiven, Sunk, status_of}
use Rattle.qmqp_server.specs.Received.HasReceived.{Refused, NoPackage, NoMemory, Answered}
use Rattle.qmqp_server.proofs.Taken.{takes_none}
use Rattle.qmail_top.specs.Command.{HasRunQmqpd}

-- words tell one thing
pub one_qmqpd : (words : List (List ℕ)) (a b : QmqpdWords) → Reads words (Qmqpd a) → Reads words (Qmqpd b) → a ≡ b
one_qmqpd words a b first second = cc

-- what was done by these words was done by those
pub received_from : (told read : QmqpdWords) (pid : ℕ) (message : Stream) (old new : Outside) (sink : Sunk) (status : ℕ) → read ≡ told
    → HasRunQmqpd read pid message old new sink status → HasRunQmqpd told pid message old new sink status
received_from told read pid message old new sink status is ran = subst (λ (w : QmqpdWords). HasRunQmqpd w pid message old new sink status) is ran

-- It doesn't end with the status of words that are no command.

none_otherwise : (fault : PackageFault) (status : ℕ) → status ≡ status_of fault → status ≢ 100
none_otherwise Cut status is = λ e. absurd (omega (arith, is, e))
none_otherwise Malformed status is = λ e. absurd (omega (arith, is, e))

given_otherwise : (answer : List ℕ) (sink : Sunk) (status : ℕ) → IsGiven answer sink status → status ≢ 100
given_otherwise answer sink status (inl given) = λ e. let is = given.0 in absurd (omega (arith, is, e))
given_otherwise answer sink status (inr failed) = λ e. let is = failed.0 in absurd (omega (arith, is, e))

pub received_otherwise : (who : Who) (message : Stream) (old new : Outside) (sink : Sunk) (status : ℕ) → HasReceived who message old new sink status → status ≢ 100
received_otherwise who message old new sink status (Refused r) = λ e. let is = r.status_is in absurd (omega (arith, is, e))
received_otherwise who message old new sink status (NoPackage n) = none_otherwise n.fault status n.status_is
received_otherwise who message old new sink status (NoMemory n) = λ e. let is = n.status_is in absurd (omega (arith, is, e))
received_otherwise who message old new sink status (Answered a) = given_otherwise _ sink status a.given

-- without memory for its words nothing was done
pub received_nothing : (who : Who) (left : Option (List ℕ)) (faults : ℕ) (old : Outside) (taken : Option (List ℕ)) (failed : ℕ)
    → HasReceived who (record { old = left; new = left; faults_old = faults; faults_new = faults }) old old (record { old = taken; new = taken; faults_old = failed; faults_new = failed }) 51
received_nothing who left faults old taken failed = NoMemory (record {
  status_is = refl;
  read = [];
  takes = takes_none left faults;
  moments = inl refl;
  disk = refl;
  calls = refl;
  faults = refl;
  ungiven = record { taken = refl; faults = refl };
})

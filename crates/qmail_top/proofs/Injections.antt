-- An injection doesn't end with the status of words that are no command.
use Rattle.std.proofs.Common.{◌≡◌, ◌≢◌, ℕ, ◌==◌, true, false, ◌||◌, IsTrue, inl, inr, subst, arith}
use Rattle.queue_inject.specs.Causes.{is_of_input, is_of_call}
use Rattle.queue_command.specs.declared.input.Form.{Form}
use Rattle.queue_command.specs.Inputs.{Stream}
use Rattle.queue_command.specs.Runs.{Outside, Who}
use Rattle.queue_command.specs.Injected.{HasInjected}
use Rattle.queue_command.proofs.Possible.{some_arguments, some_possible}

no_cause : (status : ℕ) → status ≡ 100 → IsTrue ((status == 0) || ((status == 52) || (is_of_input status || is_of_call status))) → ⊥
no_cause status is known =
    let none : false ≡ true = subst (λ s. IsTrue ((s == 0) || ((s == 52) || (is_of_input s || is_of_call s)))) is known in
    absurd (cc)

pub ends_otherwise : (who : Who) (form : Form) (message envelope : Stream) (old new : Outside) (status : ℕ)
    → HasInjected who form message envelope old new status → status ≢ 100
ends_otherwise who form message envelope old new status (inl ran) is =
    let caused = ran.caused (some_arguments who ran.start ran.from_start.heard) (some_possible who ran.start ran.from_start.heard) in
    no_cause status is caused.known
ends_otherwise who form message envelope old new status (inr cut) is = let out_of_memory = cut.status_is in absurd (omega arith)

use Rattle.std.proofs.Common.{List, ℕ, Option, Some, None, ap, refl, sym, ◌∙◌}
use Rattle.clap.specs.Words.{found_of}
use Rattle.command_words.specs.declared.command.QmqpdWords.{QmqpdWords}
use Rattle.command_words.proofs.Parses.{no_receiver, receiver_found}
use Rattle.command_words.proofs.receiver.receiver_told.Goals as goal

pub returns-in_default-clause-usage : goal.returns-in_default-clause-usage
returns-in_default-clause-usage c = λ usage. receiver_found (found_of c.args.matches.now) None _ _ (rw c.in_default.is at c.get_str.ensures) refl refl

pub returns-in_default-uid_of-clause-usage : goal.returns-in_default-uid_of-clause-usage
returns-in_default-uid_of-clause-usage c =
    λ usage. receiver_found (found_of c.args.matches.now) (Some c.in-Some.dir.now) _ None (rw c.in-Some.is at c.get_str.ensures) c.get_str-2.ensures (sym c.in_default-uid_of.is ∙ c.uid_of.ensures)
    ∙ no_receiver (Some c.in-Some.dir.now)

pub returns-clause-ok : goal.returns-clause-ok
returns-clause-ok c =
    let dir = c.in-Some.dir.now in
    let uid = c.in-Some-uid_of.uid in
    let told : List ℕ → Option QmqpdWords = λ d. Some (record { dir = d; uid = uid }) in
    receiver_found (found_of c.args.matches.now) (Some dir) _ (Some uid) (rw c.in-Some.is at c.get_str.ensures) c.get_str-2.ensures (sym c.in-Some-uid_of.is ∙ c.uid_of.ensures)
    ∙ ap told (sym (c.in_ok-from_slice.ensures ∙ c.as_bytes.ensures.value))

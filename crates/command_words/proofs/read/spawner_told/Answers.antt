use Rattle.std.proofs.Common.{List, ℕ, Option, Some, None, ap, refl, sym, ◌∙◌}
use Rattle.clap.specs.Words.{found_of}
use Rattle.command_words.specs.declared.command.RspawnWords.{RspawnWords}
use Rattle.command_words.proofs.Parses.{no_program, spawner_found}
use Rattle.command_words.proofs.read.spawner_told.Goals as goal

pub returns-in_default-clause-usage : goal.returns-in_default-clause-usage
returns-in_default-clause-usage c = λ usage. spawner_found (found_of c.args.matches.now) None _ (rw c.in_default.is at c.get_str.ensures) refl

pub returns-in_default-get_str-clause-usage : goal.returns-in_default-get_str-clause-usage
returns-in_default-get_str-clause-usage c =
    λ usage. spawner_found (found_of c.args.matches.now) (Some c.in-Some.dir.now) None (rw c.in-Some.is at c.get_str.ensures) (rw c.in_default-get_str.is at c.get_str-2.ensures)
    ∙ no_program (Some c.in-Some.dir.now)

pub returns-clause-ok : goal.returns-clause-ok
returns-clause-ok c =
    let dir = c.in-Some.dir.now in
    let program = c.in-Some-get_str.program.now in
    let told : List ℕ → List ℕ → Option RspawnWords = λ d p. Some (record { dir = d; program = p }) in
    spawner_found (found_of c.args.matches.now) (Some dir) (Some program) (rw c.in-Some.is at c.get_str.ensures) (rw c.in-Some-get_str.is at c.get_str-2.ensures)
    ∙ ap (λ d. told d program) (sym (c.in_ok-from_slice.ensures ∙ c.as_bytes.ensures.value))
    ∙ ap (λ p. told c.in_ok-from_slice.field-0 p) (sym (c.in_ok-from_slice-2.ensures ∙ c.as_bytes-2.ensures.value))

use Rattle.std.proofs.Common.{List, ℕ, Option, Some, None, ap, refl, sym, ◌∙◌}
use Rattle.clap.specs.Words.{found_of, rows_of}
use Rattle.command_words.specs.declared.command.LocalWords.{LocalWords}
use Rattle.command_words.specs.Delivery.{delivery_told, local_told}
use Rattle.command_words.proofs.Parses.{bad_delivery, local_found, no_user}
use Rattle.command_words.proofs.delivery.local_told.Goals as goal

pub returns-in_default-clause-usage : goal.returns-in_default-clause-usage
returns-in_default-clause-usage c = λ usage. local_found (found_of c.args.matches.now) None _ (rw c.in_default.is at c.get_str.ensures) refl

pub returns-in_default-uid_of-clause-usage : goal.returns-in_default-uid_of-clause-usage
returns-in_default-uid_of-clause-usage c =
    let found = found_of c.args.matches.now in
    let dir = c.in-Some.dir.now in
    λ usage. local_found found (Some dir) _ (rw c.in-Some.is at c.get_str.ensures) c.get_str-2.ensures
    ∙ ap (λ n. local_told (Some dir) (delivery_told (rows_of found)) n) (sym c.uid_of.ensures ∙ c.in_default-uid_of.is)
    ∙ no_user (Some dir) (delivery_told (rows_of found))

pub returns-in-Err-clause-usage : goal.returns-in-Err-clause-usage
returns-in-Err-clause-usage c =
    λ usage. bad_delivery (found_of c.args.matches.now) (Some c.in-Some.dir.now) _ (rw c.in-Some.is at c.get_str.ensures) c.get_str-2.ensures (c.in-Err.ensures.usage (cc))

pub returns-in_ok-from_slice-in-Ok-clause-ok : goal.returns-in_ok-from_slice-in-Ok-clause-ok
returns-in_ok-from_slice-in-Ok-clause-ok c =
    let found = found_of c.args.matches.now in
    let dir = c.in-Some.dir.now in
    let told : List ℕ → Option LocalWords = λ t. Some (record { dir = t; words = c.in-Ok.words; uid = c.in-Some-uid_of.uid }) in
    local_found found (Some dir) _ (rw c.in-Some.is at c.get_str.ensures) c.get_str-2.ensures
    ∙ ap (λ n. local_told (Some dir) (delivery_told (rows_of found)) n) (sym c.uid_of.ensures ∙ c.in-Some-uid_of.is)
    ∙ ap (λ w. local_told (Some dir) w (Some c.in-Some-uid_of.uid)) c.in-Ok.ensures.ok
    ∙ ap told (sym (c.in_ok-from_slice-in-Ok.ensures ∙ c.as_bytes.ensures.value))

use Rattle.std.proofs.Common.{Some, None, ap, codes, refl, sym, ◌∙◌}
use Rattle.clap.specs.Words.{first_value, found_of}
use Rattle.command_words.specs.Reads.{is_on, told}
use Rattle.command_words.proofs.Parses.{told_all, told_by-found}
use Rattle.command_words.proofs.read.told_by.Goals as goal

pub returns-in_default : goal.returns-in_default
returns-in_default c = sym (told_by-found (found_of c.args.matches.now) None _ _ _ (rw c.in_default.is at c.get_str.ensures) refl refl refl)

pub returns-in_default-get_str : goal.returns-in_default-get_str
returns-in_default-get_str c =
    sym (told_by-found (found_of c.args.matches.now) (Some c.in-Some.env.now) None _ _ (rw c.in-Some.is at c.get_str.ensures) (rw c.in_default-get_str.is at c.get_str-2.ensures) refl refl)

pub returns-in_default-uid_of : goal.returns-in_default-uid_of
returns-in_default-uid_of c =
    let found = found_of c.args.matches.now in
    let env = c.in-Some.env.now in
    let dir = c.in-Some-get_str.dir.now in
    sym (told_by-found found (Some env) (Some dir) _ _ (rw c.in-Some.is at c.get_str.ensures) (rw c.in-Some-get_str.is at c.get_str-2.ensures) c.get_str-3.ensures refl
    ∙ ap (λ n. told (Some env) (Some dir) n (is_on (first_value found (codes "bounce")))) (sym c.uid_of.ensures ∙ c.in_default-uid_of.is))

pub returns : goal.returns
returns c =
    let found = found_of c.args.matches.now in
    let env = c.in-Some.env.now in
    let dir = c.in-Some-get_str.dir.now in
    sym (told_by-found found (Some env) (Some dir) _ _ (rw c.in-Some.is at c.get_str.ensures) (rw c.in-Some-get_str.is at c.get_str-2.ensures) c.get_str-3.ensures c.get_str-4.ensures
    ∙ told_all env dir _ _ _ _ _ _ c.in_ok-env_of.ensures (c.in_ok-from_slice.ensures ∙ c.as_bytes.ensures.value) c.is_on.ensures (sym c.uid_of.ensures ∙ c.in-Some-uid_of.is))

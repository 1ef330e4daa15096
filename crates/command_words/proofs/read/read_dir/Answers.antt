use Rattle.std.proofs.Common.{Some, None, ap, refl, sym, ◌∙◌}
use Rattle.clap.specs.Words.{app_of, found_of}
use Rattle.command_words.proofs.Parses.{dir_read, dir_refused, matched, refused, taken}
use Rattle.command_words.proofs.read.read_dir.Goals as goal

pub returns-in-Err-clause-usage : goal.returns-in-Err-clause-usage
returns-in-Err-clause-usage c =
    λ usage. dir_refused _ _ (refused _ (app_of c.args.line) _ c.in-Err.why refl c.requires.free c.in-Err.ensures.kinds (c.refusal.ensures (cc)))

pub returns-in-Some-clause-ok : goal.returns-in-Some-clause-ok
returns-in-Some-clause-ok c =
    dir_read _ _ (found_of c.in-Ok.matches) (Some c.in-Some.dir.now) (taken _ (app_of c.args.line) _ c.in-Ok.matches refl c.requires.free c.in-Ok.ensures.kinds)
    (matched _ (app_of c.args.line) _ c.in-Ok.matches refl c.requires.simple c.in-Ok.ensures.matches) (rw c.in-Some.is at c.get_str.ensures)
    ∙ ap (λ text. Some text) (sym (c.in_ok-from_slice-in-Some.ensures ∙ c.as_bytes.ensures.value))

pub returns-clause-usage : goal.returns-clause-usage
returns-clause-usage c =
    λ usage. dir_read _ _ (found_of c.in-Ok.matches) None (taken _ (app_of c.args.line) _ c.in-Ok.matches refl c.requires.free c.in-Ok.ensures.kinds)
    (matched _ (app_of c.args.line) _ c.in-Ok.matches refl c.requires.simple c.in-Ok.ensures.matches) (rw c.in-None.is at c.get_str.ensures)

use Rattle.std.proofs.Common.{sym, ◌∙◌}
use Rattle.std.proofs.lemmas.Bool.{false≢true}
use Rattle.script_words.proofs.PathParts.{path_parts, no_path}
use Rattle.script_words.proofs.paths.is_entry_path.Goals as goal

pub returns-then-is_entry_dir : goal.returns-then-is_entry_dir
returns-then-is_entry_dir c =
    let cut = rw c.in_default-Some.is-1 at c.cut.ensures in
    let dir = c.cut.result.0.now in
    let below = c.in_default-Some.below.now in
    let parts = rw c.in_default-Some.below-is at c.are_parts.ensures in (
      λ yes. record {
        dir = dir;
        below = below;
        is_dir = c.is_entry_dir.ensures.0 c.if-is_entry_dir.true;
        parts = parts.0 yes;
        path_is = cut.parts;
      },
      λ h. parts.1 (path_parts c.args.path.now dir below cut h).1,
    )

pub returns-else-is_entry_dir : goal.returns-else-is_entry_dir
returns-else-is_entry_dir c =
    let cut = rw c.in_default-Some.is-1 at c.cut.ensures in (
      λ yes. absurd (false≢true (sym c.if-is_entry_dir.false ∙ yes)),
      λ h. c.is_entry_dir.ensures.1 (path_parts c.args.path.now c.cut.result.0.now c.in_default-Some.below.now cut h).0,
    )

pub returns-in_default-None : goal.returns-in_default-None
returns-in_default-None c =
    let cut = rw c.in_default-None.is-1 at c.cut.ensures in
    (λ yes. absurd (cc), λ h. absurd (no_path c.args.path.now c.cut.result.0.now cut h))

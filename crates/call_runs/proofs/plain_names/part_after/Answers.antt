use Rattle.std.proofs.Common.{◌≡◌, ℕ, List, sym, ◌∙◌, subst}
use Rattle.call_fs.specs.Apply.{IsLater}
use Rattle.mem_fs.proofs.Parts.{same_part}
use Rattle.call_runs.proofs.plain_names.part_after.Goals as goal

pub returns-else-is_later-clause-none : goal.returns-else-is_later-clause-none
returns-else-is_later-clause-none c = λ part is later.
    let same : c.in_ok-part.part.now ≡ part = same_part c.args.dir.now c.in_ok-part.part.now part (sym c.in_ok-part.ensures.found ∙ is) in
    let yes = c.is_later.ensures.1 (subst (λ (x : List ℕ). IsLater c.args.after.now x) (sym same) later) in
    let other = c.if-is_later.false in
    absurd (cc)

use Rattle.std.proofs.Common.{sym, ◌∙◌}
use Rattle.script_lines.proofs.Divisions.{empty_by_length}
use Rattle.script_lines.proofs.reading.follows.Goals as goal

pub returns-then-is_empty : goal.returns-then-is_empty
returns-then-is_empty c =
    let none = sym c.lines.ensures ∙ empty_by_length c.lines.result.now (sym c.is_empty.ensures ∙ c.if-is_empty.true) in
    let agrees = rw c.opening.ensures.value at c.may_follow.ensures in
    (λ h. (none, agrees.0 h), λ h. agrees.1 h.1)

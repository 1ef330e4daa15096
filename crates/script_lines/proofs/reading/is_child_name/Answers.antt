use Rattle.script_lines.proofs.ActorNames.{child_parts}
use Rattle.script_lines.proofs.reading.is_child_name.Goals as goal

pub returns-else-is_child_kind : goal.returns-else-is_child_kind
returns-else-is_child_kind c =
    let cut = rw c.in_default-Some.is-1 at c.cut.ensures in
    ((λ yes. absurd (cc)), (λ h. c.is_child_kind.ensures.1 (child_parts c.args.word.now c.cut.result.0.now c.in_default-Some.count.now cut h).0))

use Rattle.std.proofs.Common.{ap, sym, ◌∙◌}
use Rattle.program_runner.specs.Lines.{as_list}
use Rattle.program_runner.proofs.Heard.{heard_kept, heard_lost, heard_turn}
use Rattle.program_runner.proofs.lines.Lines.hear.Goals as goal

pub returns-in-Ok-None : goal.returns-in-Ok-None
returns-in-Ok-None g c = heard_turn c.next-post.result c.next-post.new.into _ _ c.next-post.ensures.came c.next-post.ensures.told c.next-post.ensures.cause _ (sym (ap as_list c.in-Ok-None.field-0-is) ∙ c.in-Ok-None.ensures.brought)

pub returns-in-Ok-Some : goal.returns-in-Ok-Some
returns-in-Ok-Some g c =
    heard_kept c.next-post.result c.next-post.new.into _ _ c.next-post.ensures.came c.next-post.ensures.told c.next-post.ensures.cause _ _ c.in-Ok-Some.piece c.keep.result
    (sym (ap as_list c.in-Ok-Some.field-0-is) ∙ c.in-Ok-Some.ensures.brought) c.keep.ensures.ok c.keep.ensures.more

pub returns-in-Err : goal.returns-in-Err
returns-in-Err g c = heard_lost c.next-post.result c.next-post.new.into _ _ c.next-post.ensures.came c.next-post.ensures.told c.next-post.ensures.cause _ _ c.in-Err.memory

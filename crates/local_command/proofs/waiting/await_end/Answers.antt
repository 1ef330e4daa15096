use Rattle.std.proofs.Common.{arith, sym, ◌∙◌}
use Rattle.program_runner.proofs.Heard.{answered}
use Rattle.local_command.proofs.Waits.{begins, ends, gives_up, goes_on}
use Rattle.local_command.proofs.waiting.await_end.Goals as goal

pub loop-init : goal.loop-init
loop-init g c = begins c.args.chan _

pub returns-then-is_end_of : goal.returns-then-is_end_of
returns-then-is_end_of g c =
    ends c.args.chan c.loop.counter _ _ _ c.loop.invariant c.next-post.result c.next-post.new.into
    (answered c.next-post.result c.next-post.new.into _ _ c.next-post.ensures.came c.next-post.ensures.told c.next-post.ensures.cause) (sym c.is_end_of.ensures ∙ c.if-is_end_of.true)

pub loop-preserved : goal.loop-preserved
loop-preserved g c =
    goes_on c.args.chan c.loop.counter _ _ _ c.loop.invariant c.next-post.result c.next-post.new.into
    (answered c.next-post.result c.next-post.new.into _ _ c.next-post.ensures.came c.next-post.ensures.told c.next-post.ensures.cause) (sym c.is_end_of.ensures ∙ c.if-is_end_of.false)

pub returns : goal.returns
returns g c = gives_up c.args.chan c.loop.counter _ _ c.loop.invariant (omega arith)

use Rattle.std.proofs.Common.{List, ℕ, ap, ◌∙◌, subst, Vec, Global}
use Rattle.mail_bytes.specs.Told.{Records}
use Rattle.outside.specs.Children.SpawnCall.{Feed}
use Rattle.local_command.proofs.Feeding.{fed_nothing, fed_on, fed_up_to}
use Rattle.local_command.proofs.commands.feed_blocks.Goals as goal

pub loop-block-init : goal.loop-block-init
loop-block-init g c = fed_nothing c.args.chan _

pub returns-in-Failed : goal.returns-in-Failed
returns-in-Failed g c =
    let items : Vec ℕ Global → List ℕ = λ v. v.items in
    fed_up_to c.args.chan c.args.blocks.now c.loop-block.block-index c.block-item.result c.loop-block-test.true _ _ _ c.loop-block.invariant c.feed.result c.feed.ensures.same
    (subst (λ (b : List ℕ). Records (g.S.Spawner.calls c.loop-block.spawner) (g.S.Spawner.calls c.feed.new.self) (Feed c.args.chan b c.feed.result)) (c.as_slice.ensures.value ∙ ap items c.block-item.is) c.feed.ensures.told)
    c.feed.ensures.cause c.in-Failed.is

pub loop-block-preserved : goal.loop-block-preserved
loop-block-preserved g c =
    let items : Vec ℕ Global → List ℕ = λ v. v.items in
    fed_on c.args.chan c.args.blocks.now c.loop-block.block-index c.block-item.result c.loop-block-test.true _ _ _ c.loop-block.invariant c.feed.result c.feed.ensures.same
    (subst (λ (b : List ℕ). Records (g.S.Spawner.calls c.loop-block.spawner) (g.S.Spawner.calls c.feed.new.self) (Feed c.args.chan b c.feed.result)) (c.as_slice.ensures.value ∙ ap items c.block-item.is) c.feed.ensures.told)
    c.feed.ensures.cause c.in-Done.is

use Rattle.std.proofs.Common.{List, ℕ, ◌++◌, take, get_or, sym, ap, ◌∙◌, Vec, Global, append_assoc}
use Rattle.mail_bytes.specs.Blocks.{joined}
use Rattle.local_parts.proofs.Joined.{joined_more}
use Rattle.local_parts.proofs.blocks.put_each.Goals as goal

pub loop-block-preserved : goal.loop-block-preserved
loop-block-preserved c =
    let k = c.loop-block.block-index in
    let blocks = c.args.blocks.now in
    let items : Vec ℕ Global → List ℕ = λ v. v.items in
    c.in_ok-put.ensures.ok
    ∙ ap (λ t. c.loop-block.all ++ t) (c.as_slice.ensures.value ∙ ap items c.block-item.is)
    ∙ ap (λ t. t ++ items (get_or blocks k c.block-item.result)) c.loop-block.invariant
    ∙ append_assoc c.args.all.now (joined (take k blocks)) (items (get_or blocks k c.block-item.result))
    ∙ ap (λ t. c.args.all.now ++ t) (sym (joined_more blocks k c.block-item.result c.loop-block-test.true))

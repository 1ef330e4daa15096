use Rattle.std.proofs.Common.{◌≡◌, ◌+◌, ◌-◌, ◌++◌, List, ℕ, Vec, Global, length, take, drop, get_or, refl, ap, ◌∙◌, append_assoc}
use Rattle.mail_bytes.specs.Blocks.{joined}
use Rattle.local_parts.proofs.Joined.{joined_more}
use Rattle.local_parts.proofs.Windows.{cut_more}
use Rattle.local_parts.proofs.blocks.put_cut.Goals as goal

pub loop-block-preserved : goal.loop-block-preserved
loop-block-preserved c =
    let k = c.loop-block.block-index in
    let blocks = c.args.blocks.now in
    let items : Vec ℕ Global → List ℕ = λ v. v.items in
    let from = c.args.window.now.skip in
    let count = c.args.window.now.left in
    let old = c.loop-block.window in
    let a = joined (take k blocks) in
    let b = items (get_or blocks k c.block-item.result) in
    let bytes : c.as_slice.result.now ≡ b = c.as_slice.ensures.value ∙ ap items c.block-item.is in
    let w = cut_more from count a b (joined (take (k + 1) blocks)) (take count (drop from a)) c.cut.result.now old.skip old.left c.cut.new.self.skip c.cut.new.self.left
    refl c.loop-block.invariant.skip c.loop-block.invariant.left (joined_more blocks k c.block-item.result c.loop-block-test.true)
    (c.cut.ensures.taken ∙ ap (λ t. take old.left (drop old.skip t)) bytes) (c.cut.ensures.skip ∙ ap (λ t. old.skip - length t) bytes) c.cut.ensures.left in
    record {
      taken = c.in_ok-put.ensures.ok ∙ ap (λ t. t ++ c.cut.result.now) c.loop-block.invariant.taken
          ∙ append_assoc c.args.part.now (take count (drop from a)) c.cut.result.now ∙ ap (λ t. c.args.part.now ++ t) w.0;
      skip = w.1;
      left = w.2;
    }

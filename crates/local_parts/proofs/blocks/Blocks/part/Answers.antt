use Rattle.std.proofs.Common.{◌++◌, take, drop, refl, ap, ◌∙◌}
use Rattle.mail_bytes.specs.Blocks.{joined}
use Rattle.local_parts.proofs.Windows.{cut_more}
use Rattle.local_parts.proofs.blocks.Blocks.part.Goals as goal

pub returns : goal.returns
returns c =
    let from = c.args.from in
    let count = c.args.count in
    let last = c.parts.result.1.now in
    let a = joined c.parts.result.0.now in
    let taken = take count (drop from a) in
    let w = cut_more from count a last (a ++ last) taken c.cut.result.now c.put_cut.new.window.skip c.put_cut.new.window.left c.cut.new.self.skip c.cut.new.self.left
    refl c.in_ok-put_cut.ensures.skip c.in_ok-put_cut.ensures.left refl c.cut.ensures.taken c.cut.ensures.skip c.cut.ensures.left in
    c.in_ok-put.ensures.ok ∙ ap (λ t. t ++ c.cut.result.now) (c.in_ok-put_cut.ensures.taken ∙ ap (λ t. t ++ taken) c.new-part.ensures) ∙ w.0
    ∙ ap (λ t. take count (drop from t)) c.parts.ensures
